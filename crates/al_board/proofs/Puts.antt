-- The two steps of a put keep the rule.
use Rattle.std.proofs.Common.{◌≡◌, ◌≢◌, ℕ, ◌+◌, ◌*◌, ◌<◌, ◌≤◌, Option, List, [], ◌∷◌, ◌++◌, get_or, set, Some, None, refl, sym, ap, ◌∙◌, subst, arith, length-append, length-set, get_or-set_same, get_or-set_other}
use mathlib.Core.Option.{some}
use mathlib.Core.Option as maybe
use native.Mathlib.Decide.{ℕ_discrete}
use lib.ListN.{get_elem?}
use Rattle.atomic_table.specs.Table.{State, takes, gives, step, Allows, rest}
use Rattle.atomic_table.proofs.Lists.{set_here, set_else}
use Rattle.al_board.specs.declared.view.Entry.{Entry}
use Rattle.al_board.specs.declared.view.Entry.TheVariants.{Put}
use Rattle.al_board.specs.declared.view.View.{View}
use Rattle.al_board.specs.declared.view.Slot.{Slot}
use Rattle.al_board.specs.declared.view.Slot.TheVariants.{Empty, Piece}
use Rattle.al_count.specs.Counts.{one, below, times, holding, total}
use Rattle.al_count.proofs.Totals.{one_same, one_other, one_le, below_no, times_snoc, total_set, total_same, member_le, set_at}
use Rattle.al_board.specs.Counted.{drawn_times, put_times, held_count, share_of, allowance_of, turn_count}
use Rattle.al_board.specs.Core.{piece_of}
use Rattle.al_board.specs.Logs.{AreEnds, HasLogged}
use Rattle.al_board.specs.Views.{taking, gave, unlogged}
use Rattle.al_board.specs.Rule.{Terms, Stage, AllSound, IsSlot, IsBaton, IsKept, AreLogs, baton_of}
use Rattle.al_board.specs.Steps.{IsTake, IsFill}
use Rattle.al_board.specs.Words.{held_word, filled_word}
use Rattle.al_board.proofs.Entries.{IsTold, stay_same, told_same, told_put}
use Rattle.al_board.proofs.Lays.{same_piece}
use Rattle.al_board.proofs.Logs.{all_ends, logs_entry, logs_same}
use Rattle.al_board.proofs.Pieces.{piece_here, piece_else}
use Rattle.al_board.proofs.Parts.{grown, grown_baton, sound_set, sound_one, named_same, still_baton, same_slot, bounded, at_most_one, none_has, ahead, told_of}

module _ {T H : Type 0} where
  head_lane : List (ℕ × Slot T H) → ℕ
  head_lane [] = 0
  head_lane (x ∷ xs) = x.0

  head_slot : List (ℕ × Slot T H) → Slot T H
  head_slot [] = Empty
  head_slot (x ∷ xs) = x.1

  -- the slot that is given back has the piece that is logged
  head_logged : (id lane l : ℕ) (piece p : T) (c d : List (ℕ × Slot T H)) (journal : List (Entry T)) (logs : List (List (Entry T)))
      → (lane, Piece piece) ∷ c ≡ (l, Piece p) ∷ d → AreEnds logs journal
      → HasLogged (λ q. Put q l p) logs ((Put id lane piece ∷ journal) ∷ [])
  unfolding head_lane head_slot
  head_logged id lane l piece p c d journal logs e ends =
      let same : lane ≡ l = ap head_lane e in
      let alike : piece ≡ p = same_piece {H = H} piece p (ap head_slot e) in
      subst (λ (z : ℕ × T). HasLogged (λ q. Put q z.0 z.1) logs ((Put id lane piece ∷ journal) ∷ [])) (λ i. (same i, alike i))
      record { pass = id; since = journal; before = ends; last = refl }

module _ {T H K : Type 0} (b : Terms T H K) where
  abbrev Kept : State (Slot T H) (View T K) → Type 0
  Kept s = IsKept b s

  abbrev Held : Type 0
  Held = List (ℕ × Slot T H)

  -- what becomes of a view, of the pieces and of the journal at a step on the word of a lane
  record Lane : Type 0 where
    pub holds : Option ℕ
    pub put : List ℕ
    pub logs : List (List (Entry T))
    pub pieces : List (ℕ × T)
    pub journal : List (Entry T)
    pub word : ℕ
    pub home : maybe.Option (Slot T H)

  -- the view then
  abbrev put_view_of : Lane → View T K → View T K
  put_view_of x v = record v { holds = x.holds; put = x.put; logs = x.logs }

  -- the views then
  abbrev put_views : (s : State (Slot T H) (View T K)) → Lane → ℕ → View T K → List (View T K)
  put_views s x id v = set s.views id (put_view_of x v)

  -- a step on a lane's word, by which its slot changes, the lane and the puts of a view, and maybe the pieces
  record MayStep (s : State (Slot T H) (View T K)) (k : IsKept b s) (id : ℕ) (v : View T K) (lane : ℕ) (x : Lane) : Type 0 where
    pub near : lane < b.key.lanes
    pub sound : AllSound b.key record k.stage { pieces = x.pieces } (put_views s x id v)
    pub more : (y : ℕ) → total (put_times y) s.views ≤ total (put_times y) (put_views s x id v)
    pub word : x.word ≡ total (held_count lane) (put_views s x id v) + 2 * total (put_times lane) (put_views s x id v) + below lane k.stage.taken
    pub others : (y : ℕ) → y ≢ lane → (holding y x.holds ≡ held_count y v) × (times y x.put ≡ put_times y v)
    pub slot : IsSlot b.fits x.pieces lane x.word (some x.home)
    pub pieces : (y : ℕ) → y ≢ lane → piece_of y x.pieces ≡ piece_of y k.stage.pieces
    pub unput : total (put_times lane) (put_views s x id v) ≡ 0 → piece_of lane x.pieces ≡ None
    pub baton : IsBaton b record k.stage { pieces = x.pieces } b.key.shelved (baton_of b s k.holder)
    pub told : IsTold b.fits b.key.lanes record k.stage { pieces = x.pieces } k.holder (put_views s x id v) x.journal
    pub logs : AreLogs (put_views s x id v) x.journal

  lane_step : (s : State (Slot T H) (View T K)) (k : IsKept b s) (id : ℕ) (v : View T K) → get_elem? s.views id ≡ some v → (lane : ℕ) (x : Lane)
      → MayStep s k id v lane x
      → Kept record { words = set s.words (lane + 1) x.word; homes = set s.homes lane x.home; views = put_views s x id v }
  lane_step s k id v at lane x o =
      let n : ℕ = b.key.lanes in
      let w : View T K = put_view_of x v in
      let vs : List (View T K) = set s.views id w in
      let ws : List ℕ = set s.words (lane + 1) x.word in
      let wide = k.wide in
      let count = k.count in
      let near = o.near in
      let there : get_or ws (lane + 1) 0 ≡ x.word = get_or-set_same {A = ℕ} s.words (lane + 1) x.word 0 (omega arith) in
      let else : (y : ℕ) → y ≢ lane → get_or ws (y + 1) 0 ≡ get_or s.words (y + 1) 0 =
      λ y ne. get_or-set_other {A = ℕ} s.words (lane + 1) (y + 1) x.word 0 (λ e. ne (omega arith)) in
      record {
        stage = record k.stage { pieces = x.pieces };
        holder = k.holder;
        journal = x.journal;
        count = length-set s.homes lane x.home ∙ count;
        few = k.few;
        wide = length-set {A = ℕ} s.words (lane + 1) x.word ∙ wide;
        first = get_or-set_other {A = ℕ} s.words (lane + 1) 0 x.word 0 (λ e. omega arith) ∙ k.first;
        sound = o.sound;
        drawn = λ y. total_same (drawn_times y) s.views id v w at refl ∙ k.drawn y;
        shares = total_same share_of s.views id v w at refl ∙ k.shares;
        room = let e = total_same allowance_of s.views id v w at refl in let r = k.room in omega arith;
        reached = k.reached;
        behind = λ y low. let m = o.more y in let q = k.behind y low in omega arith;
        unput = λ y e. unput_at y e (ℕ_discrete y lane);
        word = λ y near. word y (k.word y near) there (else y) (ℕ_discrete y lane);
        slot = λ y near. slots y (k.slot y near) there (else y) (ℕ_discrete y lane);
        baton = still_baton b record k.stage { pieces = x.pieces } s _ k.holder (else n (λ e. omega arith))
            (total_same turn_count s.views id v w at refl) (set_else s.homes lane n x.home (λ e. omega arith)) o.baton;
        holds = named_same k.holder s.views id v w at refl k.holds;
        legal = o.told.0;
        told = o.told.1;
        logs = o.logs;
      }
    where
      -- the word of a lane, and the views
      Word : ℕ → Type 0
      Word y = get_or (set s.words (lane + 1) x.word) (y + 1) 0
          ≡ total (held_count y) (put_views s x id v) + 2 * total (put_times y) (put_views s x id v) + below y k.stage.taken

      Else : ℕ → Type 0
      Else y = y ≢ lane → get_or (set s.words (lane + 1) x.word) (y + 1) 0 ≡ get_or s.words (y + 1) 0

      There : Type 0
      There = get_or (set s.words (lane + 1) x.word) (lane + 1) 0 ≡ x.word

      unput_at : (y : ℕ) → total (put_times y) (put_views s x id v) ≡ 0 → Dec (y ≡ lane) → piece_of y x.pieces ≡ None
      unput_at y e (yes is) = subst (λ (z : ℕ). total (put_times z) (put_views s x id v) ≡ 0 → piece_of z x.pieces ≡ None) (sym is) o.unput e
      unput_at y e (no ne) = o.pieces y ne ∙ k.unput y (sym (total_same (put_times y) s.views id v (put_view_of x v) at (o.others y ne).1) ∙ e)

      word : (y : ℕ) → get_or s.words (y + 1) 0 ≡ total (held_count y) s.views + 2 * total (put_times y) s.views + below y k.stage.taken → There → Else y
          → Dec (y ≡ lane) → Word y
      word y was there else (yes e) = subst Word (sym e) (there ∙ o.word)
      word y was there else (no ne) =
          let q = o.others y ne in
          let h = total_same (held_count y) s.views id v (put_view_of x v) at q.0 in
          let p = total_same (put_times y) s.views id v (put_view_of x v) at q.1 in
          let same = else ne in omega arith

      slots : (y : ℕ) → IsSlot b.fits k.stage.pieces y (get_or s.words (y + 1) 0) (get_elem? s.homes y) → There → Else y → Dec (y ≡ lane)
          → IsSlot b.fits x.pieces y (get_or (set s.words (lane + 1) x.word) (y + 1) 0) (get_elem? (set s.homes lane x.home) y)
      slots y was there else (yes e) =
          let count = k.count in
          let near = o.near in
          subst (λ (z : ℕ). IsSlot b.fits x.pieces z (get_or (set s.words (lane + 1) x.word) (z + 1) 0) (get_elem? (set s.homes lane x.home) z)) (sym e)
          (same_slot b x.pieces lane x.word _ (some x.home) _ there (set_here s.homes lane x.home (omega arith)) o.slot)
      slots y was there else (no ne) =
          same_slot b x.pieces y _ _ _ _ (else ne) (set_else s.homes lane y x.home ne)
          record { empty = was.empty; full = λ e. let f = was.full e in (f.0, f.1, f.2, o.pieces y ne ∙ f.3) }

  -- a lane is taken
  abbrev held_lane : (s : State (Slot T H) (View T K)) → IsKept b s → View T K → ℕ → Lane
  held_lane s k v lane = record {
    holds = Some lane;
    put = v.put;
    logs = v.logs;
    pieces = k.stage.pieces;
    journal = k.journal;
    word = held_word;
    home = maybe.none;
  }

  taking_keeps : (s : State (Slot T H) (View T K)) (k : IsKept b s) (id : ℕ) (v : View T K) → get_elem? s.views id ≡ some v → (lane : ℕ) → lane < b.key.lanes
      → 1 ≤ times lane v.drawn → times lane v.put ≡ 0 → v.holds ≡ None
      → Kept record { words = set s.words (lane + 1) held_word; homes = set s.homes lane maybe.none; views = set s.views id (taking lane v) }
  taking_keeps s k id v at lane lt has not_put free =
      let w : View T K = taking lane v in
      let so = k.sound id v at in
      let none = none_has b s k id v at lane has not_put free in
      lane_step s k id v at lane (held_lane s k v lane) record {
        near = lt;
        sound = sound_one b.key k.stage s.views id w k.sound record {
          about = so.about;
          late = so.late;
          spent = so.spent;
          paid = so.paid;
          able = so.able;
          own = λ x. mine x (so.own x) (ℕ_discrete x lane);
          turn = λ t e. let q = so.turn t e in record { next = q.next; found = q.found; put = q.put; first = q.first };
          given = so.given;
        };
        more = λ x. let e = total_same (put_times x) s.views id v w at refl in omega arith;
        word =
            let a = below_no lane k.stage.taken (ahead b s k lane none.1) in
            let h = total_set (held_count lane) s.views id v w at in
            let p = total_same (put_times lane) s.views id v w at refl in
            let o = one_same lane in
            let z : held_count lane v ≡ 0 = ap (holding lane) free in omega arith;
        others = λ x ne. (one_other x lane ne ∙ sym (ap (holding x) free), refl);
        slot = record { empty = λ e. absurd (omega arith); full = λ e. absurd (omega arith) };
        pieces = λ x ne. refl;
        unput = λ _. k.unput lane none.1;
        baton = k.baton;
        told = told_same b.fits b.key.lanes k.stage k.holder s.views k.journal record { id = id; old = v; new = w; at = at } stay_same (told_of b s k);
        logs = logs_same s.views k.journal id v w at refl k.logs;
      }
    where
      mine : (x : ℕ) → times x v.put + holding x v.holds ≤ times x v.drawn → Dec (x ≡ lane) → times x v.put + one x lane ≤ times x v.drawn
      mine x o (yes e) =
          let p : times x v.put ≡ 0 = subst (λ (z : ℕ). times z v.put ≡ 0) (sym e) not_put in
          let h : 1 ≤ times x v.drawn = subst (λ (z : ℕ). 1 ≤ times z v.drawn) (sym e) has in
          let l = one_le x lane in omega arith
      mine x o (no ne) = let z = one_other x lane ne in omega arith

  -- a pass that may take the slot of a lane that it drew
  pub record MayTakeLane (v : View T K) (lane : ℕ) : Type 0 where
    pub live : 0 < v.share
    pub near : lane < v.lanes
    pub drawn : 1 ≤ times lane v.drawn
    pub not_put : times lane v.put ≡ 0
    pub free : v.holds ≡ None

  pub takes_lane : (slots id : ℕ) (v : View T K) (c : Held) (lane : ℕ) → MayTakeLane v lane
      → Allows (IsKept b) slots id (v, c) (lane + 1) (λ _. held_word) (IsTake (step slots (lane + 1) held_word 0 maybe.none) (v, c))
  takes_lane slots id v c lane may s k len at small =
      let same = ((k.sound id v at).about may.live).1 in
      let within = may.near in
      let near : lane < b.key.lanes = omega arith in
      let none = none_has b s k id v at lane may.drawn may.not_put may.free in
      let zero_there : get_or s.words (lane + 1) 0 ≡ 0 = let w = k.word lane near in
      let a = below_no lane k.stage.taken (ahead b s k lane none.1) in omega arith in (
        taking lane v,
        takes lane Empty,
        (k.slot lane near).empty zero_there,
        taking_keeps s k id v at lane near may.drawn may.not_put may.free,
        record {
          view = λ x e. let same : lane ≡ x = omega arith in ap (λ (z : ℕ). taking z (unlogged v)) same;
          slots = λ x e. let same : lane ≡ x = omega arith in ap (λ (z : ℕ). (z, Empty) ∷ c) same;
          logs = refl;
        },
      )

  -- a lane is put
  abbrev filled_lane : (s : State (Slot T H) (View T K)) → IsKept b s → ℕ → View T K → ℕ → T → Lane
  filled_lane s k id v lane piece = record {
    holds = None;
    put = v.put ++ lane ∷ [];
    logs = (Put id lane piece ∷ k.journal) ∷ [];
    pieces = (lane, piece) ∷ k.stage.pieces;
    journal = Put id lane piece ∷ k.journal;
    word = filled_word;
    home = some (Piece piece);
  }

  gave_keeps : (s : State (Slot T H) (View T K)) (k : IsKept b s) (id : ℕ) (v : View T K) → get_elem? s.views id ≡ some v → (lane : ℕ) (piece : T)
      → lane < b.key.lanes
      → v.holds ≡ Some lane → b.fits lane piece
      → Kept record {
        words = set s.words (lane + 1) filled_word;
        homes = set s.homes lane (some (Piece piece));
        views = put_views s (filled_lane s k id v lane piece)
            id v;
      }
  gave_keeps s k id v at lane piece lt holds fit =
      let w : View T K = put_view_of (filled_lane s k id v lane piece) v in
      let so = k.sound id v at in
      let z : held_count lane v ≡ one lane lane = ap (holding lane) holds in
      let o = one_same lane in
      let m = at_most_one b s k lane in
      let l = member_le (held_count lane) s.views id v at in
      let none : total (put_times lane) s.views ≡ 0 = omega arith in
      let a = ahead b s k lane none in
      let mine = member_le (put_times lane) s.views id v at in
      let own = so.own lane in
      let ps : List (ℕ × T) = (lane, piece) ∷ k.stage.pieces in
      let g : Stage T = record k.stage { pieces = ps } in
      lane_step s k id v at lane (filled_lane s k id v lane piece) record {
        near = lt;
        sound = sound_set b.key k.stage g s.views id w (λ i u ne at' so'. grown b.key k.stage lane piece a u so') k.sound record {
          about = so.about;
          late = so.late;
          spent = so.spent;
          paid = so.paid;
          able = so.able;
          own = λ x. let o = so.own x in let h : held_count x v ≡ one x lane = ap (holding x) holds in let t = times_snoc x lane v.put in omega arith;
          turn = λ x e.
              let t = (grown b.key k.stage lane piece a v so).turn x e in
              let has = t.put in
              record { next = t.next; found = t.found; put = let q = length-append v.put (lane ∷ []) in omega arith; first = t.first };
          given = so.given;
        };
        more = λ x. let e = total_set (put_times x) s.views id v w at in let t = times_snoc x lane v.put in omega arith;
        word =
            let h = total_set (held_count lane) s.views id v w at in
            let p = total_set (put_times lane) s.views id v w at in
            let t = times_snoc lane lane v.put in
            let c = below_no lane k.stage.taken a in omega arith;
        others = λ x ne. (
          (let o = one_other x lane ne in sym (ap (holding x) holds ∙ o)),
          (let t = times_snoc x lane v.put in let o = one_other x lane ne in omega arith),
        );
        slot = record { empty = λ e. absurd (omega arith); full = λ _. (piece, refl, fit, piece_here lane piece k.stage.pieces) };
        pieces = λ x ne. piece_else x lane piece k.stage.pieces ne;
        unput = λ e. let p = total_set (put_times lane) s.views id v w at in let t = times_snoc lane lane v.put in absurd (omega arith);
        baton = grown_baton b k.stage _ lane piece a k.baton;
        told = told_put b.fits b.key.lanes k.stage k.holder s.views k.journal record { id = id; old = v; new = w; at = at } lane piece stay_same
            record { has = omega arith; not_put = omega arith; fit = fit; none = k.unput lane none } (told_of b s k);
        logs = logs_entry s.views k.journal id v w (Put id lane piece) at refl k.logs;
      }

  -- a pass that has taken the slot of a lane and put the piece into it
  pub record HasFilledSlot (v w : View T K) (c : Held) (m : View T K × Held) (lane : ℕ) (piece : T) : Type 0 where
    pub live : 0 < v.share
    pub near : lane < v.lanes
    pub took : unlogged w ≡ taking lane v
    pub holds : m ≡ (w, (lane, Piece piece) ∷ c)
    pub fit : b.fits lane piece

  pub fills_lane : (slots id : ℕ) (v w : View T K) (c : Held) (m : View T K × Held) (lane : ℕ) (piece : T) → HasFilledSlot v w c m lane piece
      → Allows (IsKept b) slots id m (lane + 1) (λ _. filled_word) (IsFill (step slots (lane + 1) filled_word 0 maybe.none) m)
  fills_lane slots id v w c m lane piece has =
      subst (λ (y : View T K × Held). Allows (IsKept b) slots id y (lane + 1) (λ _. filled_word)
      (IsFill (step slots (lane + 1) filled_word 0 maybe.none) y)) (sym has.holds) here
    where
      here : Allows (IsKept b) slots id (w, (lane, Piece piece) ∷ c) (lane + 1) (λ _. filled_word)
          (IsFill (step slots (lane + 1) filled_word 0 maybe.none) (w, (lane, Piece piece) ∷ c))
      here s k len at small =
          let logged : (l : ℕ) (p : T) (cs : Held) → (lane, Piece piece) ∷ c ≡ (l, Piece p) ∷ cs
          → HasLogged (λ q. Put q l p) w.logs ((Put id lane piece ∷ k.journal) ∷ []) =
          λ l p cs e'. head_logged id lane l piece p c cs k.journal w.logs e' (all_ends s.views k.journal id w at k.logs) in
          let live = has.live in
          let within = has.near in
          let share : w.share ≡ v.share = ap (λ (z : View T K). z.share) has.took in
          let lanes : w.lanes ≡ v.lanes = ap (λ (z : View T K). z.lanes) has.took in
          let live' : 0 < w.share = omega arith in
          let same = ((k.sound id w at).about live').1 in
          let near : lane < b.key.lanes = omega arith in
          let x : View T K = put_view_of (filled_lane s k id w lane piece) w in
          let h = gave_keeps s k id w at lane piece near (ap (λ (z : View T K). z.holds) has.took) has.fit in (
            x,
            gives,
            tt,
            h,
            record {
              view = λ y e'. let same : lane ≡ y = omega arith in ap (λ (z : ℕ). gave z (unlogged w)) same;
              slots = refl;
              logged = logged;
              bounded = bounded b _ h id x (set_at s.views id w x at) live';
            },
          )

module _ {T H K : Type 0} where
  -- the view after both steps
  pub put_view : (v w x : View T K) (c : List (ℕ × Slot T H)) (m : View T K × List (ℕ × Slot T H)) (lane : ℕ)
      → unlogged w ≡ taking lane v → m ≡ (w, c) → unlogged x ≡ gave lane (unlogged m.0) → unlogged x ≡ gave lane v
  put_view v w x c m lane e is h = h ∙ ap (λ (y : View T K × List (ℕ × Slot T H)). gave lane (unlogged y.0)) is ∙ ap (gave lane) e

  pub put_idle : (w : View T K) (c c₁ x : List (ℕ × Slot T H)) (m : View T K × List (ℕ × Slot T H)) (lane : ℕ) (y z : Slot T H)
      → c ≡ [] → c₁ ≡ (lane, y) ∷ c → m ≡ (w, (lane, z) ∷ rest c₁) → x ≡ rest m.1 → x ≡ []
  put_idle w c c₁ x m lane y z e took is h = h ∙ ap (λ (y : View T K × List (ℕ × Slot T H)). rest y.1) is ∙ ap rest took ∙ e
