-- Draws, splits, joins and loads keep the rule.
use Rattle.std.proofs.Common.{◌≡◌, ℕ, ◌+◌, ◌-◌, ◌%◌, ◌^◌, ◌<◌, ◌≤◌, nat_lt, cond, Bool, min, max, false, true, true≢false, List, [], ◌∷◌, ◌++◌, get_or, set, None, refl, sym, ap, ◌∙◌, subst, mod-eq_of_lt, arith, length-append, length-set, get_or-set_same, get_or-set_other}
use mathlib.Core.Option.{some}
use mathlib.Core.Option as maybe
use native.Mathlib.Decide.{dec_le}
use lib.ListN.{get_elem?}
use lib.Seq.{set-get_or}
use Rattle.atomic_table.specs.Table.{State, Act, keeps, step, stepped, Valid, carried_after, Allows, Splits, Joins}
use Rattle.atomic_table.proofs.Lists.{set_else, set_again}
use Rattle.al_board.specs.declared.view.Entry.TheVariants.{Drew, Split, Joined}
use Rattle.al_board.specs.declared.view.View.{View}
use Rattle.al_board.specs.declared.view.Slot.{Slot}
use Rattle.al_count.specs.Counts.{times, below, holding, total, present}
use Rattle.al_count.proofs.Totals.{below_no, below_next, times_append, times_snoc, total_set, total_snoc, total_same, set_at}
use Rattle.al_board.specs.Counted.{drawn_times, put_times, held_count, share_of, allowance_of, turn_count}
use Rattle.al_board.specs.Views.{got, keeping, parted, joined, spent_view, unlogged}
use Rattle.al_board.specs.Rule.{Terms, Stage, IsSound, IsKept}
use Rattle.al_board.specs.Steps.{IsDraw, IsLook}
use Rattle.al_board.specs.Core.{of}
use Rattle.al_board.specs.Journal.{Account}
use Rattle.al_board.specs.Logs.{DrewNumber}
use Rattle.al_board.proofs.Pieces.{lt_yes, lt_no, none_some}
use Rattle.al_board.proofs.Entries.{stay_same, told_draw, told_split, told_join, nobody_drew}
use Rattle.al_board.proofs.Logs.{all_ends, logs_entry, logs_split, logs_join}
use Rattle.al_board.proofs.Parts.{later, sound_set, sound_one, sound_snoc, named_same, named_snoc, still_baton, later_baton, same_slot, bounded, told_of}

module _ {T H K : Type 0} (b : Terms T H K) where
  abbrev Kept : State (Slot T H) (View T K) → Type 0
  Kept s = IsKept b s

  abbrev Held : Type 0
  Held = List (ℕ × Slot T H)

  -- the view after a draw
  abbrev drawing : (s : State (Slot T H) (View T K)) → IsKept b s → ℕ → View T K → List ℕ → Bool → ℕ → View T K
  drawing s k id v drawn ended allowance = record v { drawn = drawn; ended = ended; allowance = allowance; logs = (Drew id ∷ k.journal) ∷ [] }

  -- a step on word 0 by which the drawn list of a view changes, its allowance, and whether it has ended
  record MayDraw (s : State (Slot T H) (View T K)) (k : IsKept b s) (id : ℕ) (v w : View T K) : Type 0 where
    pub sound : IsSound b.key record k.stage { draws = k.stage.draws + 1 } w
    pub once : (x : ℕ) → total (drawn_times x) (set s.views id w) ≡ below x (min (k.stage.draws + 1) b.key.lanes)
    pub room : max (k.stage.draws + 1) b.key.lanes + total allowance_of (set s.views id w) ≡ b.key.lanes + 2 ^ 63
    pub own : cond (nat_lt k.stage.draws b.key.lanes) (v.drawn ++ k.stage.draws ∷ []) v.drawn ≡ w.drawn

  draw_keeps : (s : State (Slot T H) (View T K)) (k : IsKept b s) (id : ℕ) (v : View T K) → get_elem? s.views id ≡ some v
      → (drawn : List ℕ) (ended : Bool) (allowance : ℕ)
      → MayDraw s k id v (drawing s k id v drawn ended allowance)
      → Kept record { words = set s.words 0 (get_or s.words 0 0 + 1); homes = s.homes; views = set s.views id (drawing s k id v drawn ended allowance) }
  draw_keeps s k id v at drawn ended allowance may =
      let n : ℕ = b.key.lanes in
      let d : ℕ = get_or s.words 0 0 in
      let w : View T K = drawing s k id v drawn ended allowance in
      let vs : List (View T K) = set s.views id w in
      let g : Stage T = record k.stage { draws = k.stage.draws + 1 } in
      let wide = k.wide in
      let first = k.first in
      let else : (x : ℕ) → get_or (set s.words 0 (d + 1)) (x + 1) 0 ≡ get_or s.words (x + 1) 0 =
      λ x. get_or-set_other {A = ℕ} s.words 0 (x + 1) (d + 1) 0 (λ e. omega arith) in
      let p : (x : ℕ) → total (put_times x) vs ≡ total (put_times x) s.views = λ x. total_same (put_times x) s.views id v w at refl in
      let told = told_draw b.fits n k.stage k.holder s.views k.journal record { id = id; old = v; new = w; at = at }
      record { drawn_are = sym may.own; put_are = refl; misses_are = refl; given_are = refl } (told_of b s k) in
      record {
        stage = g;
        holder = k.holder;
        journal = Drew id ∷ k.journal;
        count = k.count;
        few = k.few;
        wide = length-set {A = ℕ} s.words 0 (d + 1) ∙ wide;
        first = get_or-set_same {A = ℕ} s.words 0 (d + 1) 0 (omega arith) ∙ (omega arith);
        sound = sound_set b.key k.stage g s.views id w (λ i u ne at' so. later b.key k.stage (k.stage.draws + 1) (omega arith) u so) k.sound may.sound;
        drawn = may.once;
        shares = total_same share_of s.views id v w at refl ∙ k.shares;
        room = may.room;
        reached = k.reached;
        behind = λ x lt. let e = p x in let c = k.behind x lt in omega arith;
        unput = λ x e. k.unput x (sym (p x) ∙ e);
        word = λ x lt. let h = total_same (held_count x) s.views id v w at refl in let e = p x in let q = k.word x lt in let o = else x in omega arith;
        slot = λ x lt. same_slot b k.stage.pieces x _ _ _ _ (else x) refl (k.slot x lt);
        baton = later_baton b k.stage (k.stage.draws + 1) _
            (still_baton b k.stage s _ k.holder (else n) (total_same turn_count s.views id v w at refl) refl k.baton);
        holds = named_same k.holder s.views id v w at refl k.holds;
        legal = told.0;
        told = told.1;
        logs = logs_entry s.views k.journal id v w (Drew id) at refl k.logs;
      }

  -- a lane is drawn
  got_keeps : (s : State (Slot T H) (View T K)) (k : IsKept b s) (id : ℕ) (v : View T K) → get_elem? s.views id ≡ some v → 0 < v.share → v.ended ≡ false
      → k.stage.draws < b.key.lanes
      → Kept record {
        words = set s.words 0 (get_or s.words 0 0 + 1);
        homes = s.homes;
        views = set s.views id (drawing s k id v (v.drawn ++ k.stage.draws ∷ []) v.ended v.allowance);
      }
  got_keeps s k id v at live going near =
      let n : ℕ = b.key.lanes in
      let d : ℕ = k.stage.draws in
      let w : View T K = drawing s k id v (v.drawn ++ d ∷ []) v.ended v.allowance in
      let so = k.sound id v at in
      draw_keeps s k id v at (v.drawn ++ d ∷ []) v.ended v.allowance record {
        sound = record {
          about = so.about;
          late = λ e. absurd (true≢false (sym e ∙ going));
          spent = λ e. absurd (omega arith);
          paid = so.paid;
          able = so.able;
          own = λ x. let o = so.own x in let t = times_snoc x d v.drawn in omega arith;
          turn = λ t e. let q = so.turn t e in record { next = q.next; found = q.found; put = q.put; first = q.first };
          given = so.given;
        };
        once = λ x.
            let t = total_set (drawn_times x) s.views id v w at in
            let o = times_snoc x d v.drawn in
            let e = k.drawn x in
            let m : min d n ≡ d = omega arith in
            let m' : min (d + 1) n ≡ d + 1 = omega arith in
            let c : below x (min d n) ≡ below x d = ap (below x) m in
            let c' : below x (min (d + 1) n) ≡ below x (d + 1) = ap (below x) m' in
            let nx = below_next x d in
            omega arith;
        room = let e = total_same allowance_of s.views id v w at refl in let r = k.room in omega arith;
        own = ap (λ (z : Bool). cond z (v.drawn ++ d ∷ []) v.drawn) (lt_yes d n near);
      }

  -- there is no lane left
  over_keeps : (s : State (Slot T H) (View T K)) (k : IsKept b s) (id : ℕ) (v : View T K) → get_elem? s.views id ≡ some v → 0 < v.share → v.ended ≡ false
      → b.key.lanes ≤ k.stage.draws
      → Kept record {
        words = set s.words 0 (get_or s.words 0 0 + 1);
        homes = s.homes;
        views = set s.views id (drawing s k id v v.drawn true (v.allowance - 1));
      }
  over_keeps s k id v at live going far =
      let n : ℕ = b.key.lanes in
      let d : ℕ = k.stage.draws in
      let w : View T K = drawing s k id v v.drawn true (v.allowance - 1) in
      let so = k.sound id v at in
      let able : 1 ≤ v.allowance = so.able live going in
      draw_keeps s k id v at v.drawn true (v.allowance - 1) record {
        sound = record {
          about = so.about;
          late = λ _. omega arith;
          spent = λ e. absurd (omega arith);
          paid = let p = so.paid in omega arith;
          able = λ _ e. absurd (true≢false e);
          own = so.own;
          turn = λ t e. let q = so.turn t e in record { next = q.next; found = q.found; put = q.put; first = q.first };
          given = so.given;
        };
        once = λ x.
            let t = total_same (drawn_times x) s.views id v w at refl in
            let e = k.drawn x in
            let m : min d n ≡ min (d + 1) n = omega arith in
            let c : below x (min d n) ≡ below x (min (d + 1) n) = ap (below x) m in
            omega arith;
        room = let e = total_set allowance_of s.views id v w at in let r = k.room in omega arith;
        own = ap (λ (z : Bool). cond z (v.drawn ++ d ∷ []) v.drawn) (lt_no d n far);
      }

  no_wrap : (s : State (Slot T H) (View T K)) (k : IsKept b s) → (get_or s.words 0 0 + 1) % 2 ^ 64 ≡ get_or s.words 0 0 + 1
  no_wrap s k = let r = k.room in let f = k.few in let e = k.first in mod-eq_of_lt (omega arith)

  -- what a draw logs
  drew : (s : State (Slot T H) (View T K)) (k : IsKept b s) (id : ℕ) (v : View T K) → get_elem? s.views id ≡ some v
      → (lanes : ℕ) → lanes ≡ b.key.lanes → (number : ℕ) → number ≡ k.stage.draws → DrewNumber lanes number v.logs ((Drew id ∷ k.journal) ∷ [])
  drew s k id v at lanes same number is =
      subst (λ (z : ℕ × ℕ). DrewNumber z.0 z.1 v.logs ((Drew id ∷ k.journal) ∷ [])) (λ i. (sym same i, sym is i))
      record {
        logged = record { pass = id; since = k.journal; before = all_ends s.views k.journal id v at k.logs; last = refl };
        number_is = ap (λ (a : Account T). a.drawn) k.told;
        nobody = λ p.
            let d : ℕ = k.stage.draws in
            let e = k.drawn d in
            let c = below_no d (min d b.key.lanes) (omega arith) in
            ap (λ (a : Account T). times d (of a.own p)) k.told ∙ nobody_drew d s.views p (omega arith);
      }

  pub draws_one : (slots id : ℕ) (v : View T K) (c : Held) → 0 < v.share → v.ended ≡ false
      → Allows (IsKept b) slots id (v, c) 0 (λ n. (n + 1) % 2 ^ 64) (IsDraw (step slots 0 1 0 maybe.none) (v, c))
  draws_one slots id v c live going s k len at small = go (dec_le b.key.lanes k.stage.draws)
    where
      F : ℕ → Type 0
      F n = (w : View T K)
          × (a : Act (Slot T H))
          × Valid s.homes c a
          × Kept (stepped s 0 n id c w a)
          × IsDraw (step slots 0 1 0 maybe.none) (v, c) (get_or s.words 0 0) (w, carried_after c a)

      same : v.lanes ≡ b.key.lanes
      same = ((k.sound id v at).about live).1

      able : 1 ≤ v.allowance
      able = (k.sound id v at).able live going

      go : Dec (b.key.lanes ≤ k.stage.draws) → F ((get_or s.words 0 0 + 1) % 2 ^ 64)
      go (yes far) =
          let e = same in
          let f = k.first in
          let w : View T K = drawing s k id v v.drawn true (v.allowance - 1) in
          let kept = over_keeps s k id v at live going far in
          subst F (sym (no_wrap s k)) (
            w,
            keeps,
            tt,
            kept,
            record {
              slots = refl;
              lane = λ lt. absurd (omega arith);
              none = λ _. refl;
              able = able;
              logged = drew s k id v at v.lanes e (get_or s.words 0 0) f;
              bounded = bounded b _ kept id w (set_at s.views id v w at) live;
            },
          )
      go (no near) =
          let e = same in
          let f = k.first in
          let w : View T K = drawing s k id v (v.drawn ++ k.stage.draws ∷ []) v.ended v.allowance in
          let kept = got_keeps s k id v at live going (omega arith) in
          subst F (sym (no_wrap s k)) (
            w,
            keeps,
            tt,
            kept,
            record {
              slots = refl;
              lane = λ _. ap (λ (z : ℕ). got z (unlogged v)) (sym f);
              none = λ le. absurd (omega arith);
              able = able;
              logged = drew s k id v at v.lanes e (get_or s.words 0 0) f;
              bounded = bounded b _ kept id w (set_at s.views id v w at) live;
            },
          )

  pub looks : (slots id : ℕ) (v : View T K) (c : Held) → 0 < v.share
      → Allows (IsKept b) slots id (v, c) 0 (λ n. n) (IsLook (step slots 0 0 0 maybe.none) (v, c))
  looks slots id v c live s k len at small = (
    v,
    keeps,
    tt,
    subst (λ (ws : List ℕ). Kept record { words = ws; homes = s.homes; views = set s.views id v }) (sym (set-get_or s.words 0 0))
        (subst (λ (vs : List (View T K)). Kept record { words = s.words; homes = s.homes; views = vs }) (sym (set_again s.views id v at)) k),
    record { same = refl; bounded = bounded b s k id v at live },
  )

  pub splits_pass : (id : ℕ) (v : View T K) → 2 ≤ v.allowance → Splits (IsKept b) id v (keeping v) (parted v)
  splits_pass id v enough s k at =
      let n : ℕ = b.key.lanes in
      let w : View T K = keeping v in
      let u : View T K = parted v in
      let vs : List (View T K) = set s.views id w in
      let so = k.sound id v at in
      let paid : v.allowance ≤ v.share = so.paid in
      let told = told_split b.fits n k.stage k.holder s.views k.journal record { id = id; old = v; new = w; at = at } u stay_same stay_same (told_of b s k) in
      let p : (x : ℕ) → total (put_times x) (vs ++ u ∷ []) ≡ total (put_times x) s.views = λ x.
      let q = total_same (put_times x) s.views id v w at refl in let r = total_snoc (put_times x) vs u in omega arith in
      record {
        stage = k.stage;
        holder = k.holder;
        journal = Split id ∷ k.journal;
        count = k.count;
        few = k.few;
        wide = k.wide;
        first = k.first;
        sound = sound_snoc b.key k.stage vs u
            (sound_one b.key k.stage s.views id w k.sound record {
              about = λ _. so.about (omega arith);
              late = so.late;
              spent = λ e. absurd (omega arith);
              paid = omega arith;
              able = λ _ _. omega arith;
              own = so.own;
              turn = λ t e. let q = so.turn t e in record { next = q.next; found = q.found; put = q.put; first = q.first };
              given = so.given;
            })
            record {
              about = λ _. so.about (omega arith);
              late = λ e. absurd (true≢false (sym e));
              spent = λ e. absurd (omega arith);
              paid = omega arith;
              able = λ _ _. omega arith;
              own = λ x. omega arith;
              turn = λ t e. absurd (none_some t e);
              given = λ j h. absurd (omega arith);
            };
        drawn = λ x. let q = total_same (drawn_times x) s.views id v w at refl in let r = total_snoc (drawn_times x) vs u in let e = k.drawn x in omega arith;
        shares = let t = total_set share_of s.views id v w at in let t' = total_snoc share_of vs u in let e = k.shares in omega arith;
        room = let t = total_set allowance_of s.views id v w at in let t' = total_snoc allowance_of vs u in let e = k.room in omega arith;
        reached = k.reached;
        behind = λ x lt. let e = p x in let c = k.behind x lt in omega arith;
        unput = λ x e. k.unput x (sym (p x) ∙ e);
        word = λ x lt.
            let h = total_same (held_count x) s.views id v w at refl in
            let h' = total_snoc (held_count x) vs u in
            let e = p x in
            let q = k.word x lt in omega arith;
        slot = k.slot;
        baton = still_baton b k.stage s _ k.holder refl (let q = total_same turn_count s.views id v w at refl in
            let r = total_snoc turn_count vs u in omega arith) refl k.baton;
        holds = named_snoc k.holder vs u refl (named_same k.holder s.views id v w at refl k.holds);
        legal = told.0;
        told = told.1;
        logs = logs_split s.views k.journal id v w u at refl refl k.logs;
      }

  pub joins_pass : (id : ℕ) (v : View T K) (other : ℕ) (u : View T K) → 0 < v.share → u.holds ≡ None → u.turn ≡ None
      → Joins (IsKept b) id v other u (joined v u) spent_view
  joins_pass id v other u live free idle s k at apart there =
      let n : ℕ = b.key.lanes in
      let w : View T K = joined v u in
      let spent : View T K = spent_view in
      let vs : List (View T K) = set s.views id w in
      let us : List (View T K) = set vs other spent in
      let so = k.sound id v at in
      let there' : get_elem? s.views other ≡ some u = sym (set_else s.views id other w apart) ∙ there in
      let so' = k.sound other u there' in
      let told = told_join b.fits n k.stage k.holder s.views k.journal record { id = id; old = v; new = w; at = at }
      record { id = other; old = u; spent = spent; at = there'; apart = apart; none = stay_same } stay_same (told_of b s k) in
      let p : (x : ℕ) → total (put_times x) us ≡ total (put_times x) s.views = λ x.
      let q = total_set (put_times x) s.views id v w at in
      let r = total_set (put_times x) vs other u spent there in
      let c = times_append x v.put u.put in omega arith in
      record {
        stage = k.stage;
        holder = k.holder;
        journal = Joined id other ∷ k.journal;
        count = k.count;
        few = k.few;
        wide = k.wide;
        first = k.first;
        sound = sound_one b.key k.stage vs other spent
            (sound_one b.key k.stage s.views id w k.sound record {
              about = λ _. so.about live;
              late = so.late;
              spent = λ e. absurd (omega arith);
              paid = let p = so.paid in let p' = so'.paid in omega arith;
              able = λ _ e. let a = so.able live e in omega arith;
              own = λ x.
                  let o = so.own x in
                  let o' = so'.own x in
                  let t = times_append x v.drawn u.drawn in
                  let t' = times_append x v.put u.put in
                  let z : held_count x u ≡ 0 = ap (holding x) free in omega arith;
              turn = λ t e.
                  let q = so.turn t e in
                  let has = q.put in
                  record { next = q.next; found = q.found; put = let l = length-append v.put u.put in omega arith; first = q.first };
              given = so.given;
            })
            record {
              about = λ e. absurd (omega arith);
              late = λ e. absurd (true≢false (sym e));
              spent = λ _. (refl, refl);
              paid = omega arith;
              able = λ e _. absurd (omega arith);
              own = λ x. omega arith;
              turn = λ t e. absurd (none_some t e);
              given = λ j h. absurd (omega arith);
            };
        drawn = λ x.
            let t = total_set (drawn_times x) s.views id v w at in
            let t' = total_set (drawn_times x) vs other u spent there in
            let c = times_append x v.drawn u.drawn in
            let e = k.drawn x in omega arith;
        shares = let t = total_set share_of s.views id v w at in let t' = total_set share_of vs other u spent there in let e = k.shares in omega arith;
        room = let t = total_set allowance_of s.views id v w at in let t' = total_set allowance_of vs other u spent there in let e = k.room in omega arith;
        reached = k.reached;
        behind = λ x lt. let e = p x in let c = k.behind x lt in omega arith;
        unput = λ x e. k.unput x (sym (p x) ∙ e);
        word = λ x lt.
            let t = total_same (held_count x) s.views id v w at refl in
            let t' = total_set (held_count x) vs other u spent there in
            let z : held_count x u ≡ 0 = ap (holding x) free in
            let e = p x in
            let q = k.word x lt in omega arith;
        slot = k.slot;
        baton = still_baton b k.stage s _ k.holder refl
            (let t = total_same turn_count s.views id v w at refl in
            let t' = total_set turn_count vs other u spent there in
            let z : turn_count u ≡ 0 = ap present idle in omega arith)
            refl k.baton;
        holds = named_same k.holder vs other u spent there (sym idle) (named_same k.holder s.views id v w at refl k.holds);
        legal = told.0;
        told = told.1;
        logs = logs_join s.views k.journal id other v u w spent record { at = at; there = there'; apart = apart; both = refl; none = refl } k.logs;
      }
