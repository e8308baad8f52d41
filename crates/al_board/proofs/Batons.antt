-- The steps of the baton keep the rule.
use prog.Atomic.{either}
use Rattle.std.proofs.Common.{eqb, ◌≡◌, ◌≢◌, ℕ, ◌+◌, ◌*◌, ◌<◌, ◌≤◌, ◌⊎◌, Bool, true, Option, List, [], ◌∷◌, ◌++◌, length, get_or, set, Some, None, refl, sym, ap, ◌∙◌, subst, inl, inr, ⊎_elim, arith, length-append, length-set, get_or-set_same, get_or-set_other}
use mathlib.Core.Option.{some, some-injective}
use mathlib.Core.Option as maybe
use native.Mathlib.Decide.{dec_le, ℕ_discrete}
use lib.ListN.{get_elem?}
use lib.Seq.{set-get_or}
use Rattle.atomic_table.specs.Table.{State, Act, keeps, takes, gives, chain, step, stepped, Valid, carried_after, Allows}
use Rattle.atomic_table.proofs.Lists.{set_here, set_else, exchanged}
use Rattle.al_board.specs.declared.view.Entry.{Entry}
use Rattle.al_board.specs.declared.view.Entry.TheVariants.{Seized, Met, Took, Skipped, Handed}
use Rattle.al_board.specs.declared.view.Miss.{Miss}
use Rattle.al_board.specs.declared.view.Miss.TheVariants.{Lane}
use Rattle.al_board.specs.declared.view.Miss.TheVariants as miss
use Rattle.al_board.specs.declared.view.Setting.{Setting}
use Rattle.al_board.specs.declared.view.Turn.{Turn}
use Rattle.al_board.specs.declared.view.View.{View}
use Rattle.al_board.specs.declared.view.Slot.{Slot}
use Rattle.al_board.specs.declared.view.Slot.TheVariants.{Empty, Piece, Shelf}
use Rattle.al_count.specs.Counts.{below, times, total, present}
use Rattle.al_count.proofs.Totals.{one_other, below_yes, below_no, below_next, times_snoc, times_length, total_set, total_same, member_le, two_members, some_member, is_present, at_end}
use Rattle.al_board.specs.Core.{piece_of}
use Rattle.al_board.specs.Journal.{Account}
use Rattle.al_board.specs.Logs.{HasLogged, MetBaton, SkippedLane, HandedBaton}
use Rattle.al_board.specs.Counted.{drawn_times, put_times, held_count, share_of, allowance_of, turn_count}
use Rattle.al_board.specs.Helps.{IsCarried, HasShelfFirst}
use Rattle.al_board.specs.Rule.{Terms, terms, Stage, AreFirst, IsTurn, IsSound, AllSound, IsSlot, Baton, IsHome, IsBaton, IsKept, baton_of}
use Rattle.al_board.specs.Steps.{IsMet, IsSeizure, IsTaken, IsSkipped, IsTry, IsHanding, spared}
use Rattle.al_board.specs.Views.{IsFull, missed, at_turn, unlogged}
use Rattle.al_board.specs.Words.{filled_word, taken_word, away_word}
use Rattle.al_board.proofs.Entries.{IsTold, stay_same, told_seized, told_met, told_took, told_skipped, told_handed}
use Rattle.al_board.proofs.Logs.{all_ends, logs_entry}
use Rattle.al_board.proofs.Pieces.{none_some, the_same}
use Rattle.al_board.proofs.Parts.{AllNamed, turnless, sound_set, sound_one, named_set, named_same, still_baton, same_baton, same_slot, at_most_one, full_puts, full_alone, told_of}

module _ {T H K : Type 0} (b : Terms T H K) where
  abbrev Kept : State (Slot T H) (View T K) → Type 0
  Kept s = IsKept b s

  abbrev Held : Type 0
  Held = List (ℕ × Slot T H)

  baton_is : b.key.shelved ≡ true → (g : Stage T) (x : Baton T H) → IsBaton b g b.key.shelved x → IsBaton b g true x
  baton_is e g x = subst (λ (z : Bool). IsBaton b g z x) e

  is_baton : b.key.shelved ≡ true → (g : Stage T) (x : Baton T H) → IsBaton b g true x → IsBaton b g b.key.shelved x
  is_baton e g x = subst (λ (z : Bool). IsBaton b g z x) (sym e)

  -- a lane that was taken has word 3
  pub is_taken : (s : State (Slot T H) (View T K)) (k : IsKept b s) (x : ℕ) → x < k.stage.taken → get_or s.words (x + 1) 0 ≡ taken_word
  is_taken s k x low =
      let r = k.reached in
      let c = k.behind x low in
      let m = at_most_one b s k x in
      let y = below_yes x k.stage.taken low in
      let w = k.word x (omega arith) in omega arith

  -- and its slot may have anything
  back_keeps : (s : State (Slot T H) (View T K)) (k : IsKept b s) (lane : ℕ) (y : Slot T H) → lane < b.key.lanes → get_or s.words (lane + 1) 0 ≡ taken_word
      → Kept record { words = s.words; homes = set s.homes lane (some y); views = s.views }
  back_keeps s k lane y near three = record {
    stage = k.stage;
    holder = k.holder;
    journal = k.journal;
    count = length-set s.homes lane (some y) ∙ k.count;
    few = k.few;
    wide = k.wide;
    first = k.first;
    sound = k.sound;
    drawn = k.drawn;
    shares = k.shares;
    room = k.room;
    reached = k.reached;
    behind = k.behind;
    unput = k.unput;
    word = k.word;
    slot = λ x lt. slots x (k.slot x lt) (ℕ_discrete x lane);
    baton = still_baton b k.stage s _ k.holder refl refl (set_else s.homes lane b.key.lanes (some y) (λ e. omega arith)) k.baton;
    holds = k.holds;
    legal = k.legal;
    told = k.told;
    logs = k.logs;
  }
    where
      slots : (x : ℕ) → IsSlot b.fits k.stage.pieces x (get_or s.words (x + 1) 0) (get_elem? s.homes x) → Dec (x ≡ lane)
          → IsSlot b.fits k.stage.pieces x (get_or s.words (x + 1) 0) (get_elem? (set s.homes lane (some y)) x)
      slots x was (yes e) =
          let t : get_or s.words (x + 1) 0 ≡ taken_word = ap (λ (z : ℕ). get_or s.words (z + 1) 0) e ∙ three in
          record { empty = λ h. absurd (omega arith); full = λ h. absurd (omega arith) }
      slots x was (no ne) = same_slot b k.stage.pieces x _ _ _ _ refl (set_else s.homes lane x (some y) ne) was

  -- what becomes of a view, of what was judged, of the holder and of the journal at a step of the baton
  record Change : Type 0 where
    pub misses : List Miss
    pub given : List ℕ
    pub turn : Option (Turn T)
    pub judged : ℕ
    pub holder : Option ℕ
    pub entry : Entry T

  -- the view then
  abbrev changed : Change → List (Entry T) → View T K → View T K
  changed x journal v = record v { misses = x.misses; given = x.given; turn = x.turn; logs = (x.entry ∷ journal) ∷ [] }

  -- the views then
  abbrev changed_views : (s : State (Slot T H) (View T K)) → IsKept b s → Change → ℕ → View T K → List (View T K)
  changed_views s k x id v = set s.views id (changed x k.journal v)

  -- where the words and the homes stay, a view may note a miss
  miss_keeps : (s : State (Slot T H) (View T K)) (k : IsKept b s) (id : ℕ) (v : View T K) → get_elem? s.views id ≡ some v → (ms : List Miss) (e : Entry T)
      → IsTold b.fits b.key.lanes k.stage k.holder (set s.views id record v { misses = ms; logs = (e ∷ k.journal) ∷ [] }) (e ∷ k.journal)
      → Kept record { words = s.words; homes = s.homes; views = set s.views id record v { misses = ms; logs = (e ∷ k.journal) ∷ [] } }
  miss_keeps s k id v at ms e told =
      let w : View T K = record v { misses = ms; logs = (e ∷ k.journal) ∷ [] } in
      let so = k.sound id v at in
      let p : (x : ℕ) → total (put_times x) (set s.views id w) ≡ total (put_times x) s.views = λ x. total_same (put_times x) s.views id v w at refl in
      record {
        stage = k.stage;
        holder = k.holder;
        journal = e ∷ k.journal;
        count = k.count;
        few = k.few;
        wide = k.wide;
        first = k.first;
        sound = sound_one b.key k.stage s.views id w k.sound record {
          about = so.about;
          late = so.late;
          spent = so.spent;
          paid = so.paid;
          able = so.able;
          own = so.own;
          turn = λ t h. let q = so.turn t h in record { next = q.next; found = q.found; put = q.put; first = q.first };
          given = so.given;
        };
        drawn = λ x. total_same (drawn_times x) s.views id v w at refl ∙ k.drawn x;
        shares = total_same share_of s.views id v w at refl ∙ k.shares;
        room = let q = total_same allowance_of s.views id v w at refl in let r = k.room in omega arith;
        reached = k.reached;
        behind = λ x lt. let q = p x in let c = k.behind x lt in omega arith;
        unput = λ x h. k.unput x (sym (p x) ∙ h);
        word = λ x lt. let h = total_same (held_count x) s.views id v w at refl in let q = p x in let r = k.word x lt in omega arith;
        slot = k.slot;
        baton = still_baton b k.stage s _ k.holder refl (total_same turn_count s.views id v w at refl) refl k.baton;
        holds = named_same k.holder s.views id v w at refl k.holds;
        legal = told.0;
        told = told.1;
        logs = logs_entry s.views k.journal id v w e at refl k.logs;
      }

  -- what such a step owes
  record MayChange (s : State (Slot T H) (View T K)) (k : IsKept b s) (id : ℕ) (v : View T K) (x : Change) (word : ℕ) (home : maybe.Option (Slot T H))
      : Type 0
    where
      pub sound : AllSound b.key record k.stage { judged = x.judged } (changed_views s k x id v)
      pub within : x.judged ≤ k.stage.taken
      pub baton : IsBaton b record k.stage { judged = x.judged } b.key.shelved
          record { word = word; holders = total turn_count (changed_views s k x id v); holder = x.holder; home = some home }
      pub named : AllNamed x.holder (changed_views s k x id v)
      pub told : IsTold b.fits b.key.lanes record k.stage { judged = x.judged } x.holder (changed_views s k x id v) (x.entry ∷ k.journal)

  -- a step on the baton's word, by which the shelf's slot changes, the turn of a view, and how many are judged
  baton_step : (s : State (Slot T H) (View T K)) (k : IsKept b s) (id : ℕ) (v : View T K) → get_elem? s.views id ≡ some v
      → (x : Change) (word : ℕ) (home : maybe.Option (Slot T H)) → MayChange s k id v x word home
      → Kept record { words = set s.words (b.key.lanes + 1) word; homes = set s.homes b.key.lanes home; views = changed_views s k x id v }
  baton_step s k id v at x word home o =
      let n : ℕ = b.key.lanes in
      let w : View T K = changed x k.journal v in
      let vs : List (View T K) = set s.views id w in
      let ws : List ℕ = set s.words (n + 1) word in
      let wide = k.wide in
      let count = k.count in
      let reached = k.reached in
      let p : (y : ℕ) → total (put_times y) vs ≡ total (put_times y) s.views = λ y. total_same (put_times y) s.views id v w at refl in
      let else : (y : ℕ) → y < n → get_or ws (y + 1) 0 ≡ get_or s.words (y + 1) 0 =
      λ y lt. get_or-set_other {A = ℕ} s.words (n + 1) (y + 1) word 0 (λ e. omega arith) in
      record {
        stage = record k.stage { judged = x.judged };
        holder = x.holder;
        journal = x.entry ∷ k.journal;
        count = length-set s.homes n home ∙ count;
        few = k.few;
        wide = length-set {A = ℕ} s.words (n + 1) word ∙ wide;
        first = get_or-set_other {A = ℕ} s.words (n + 1) 0 word 0 (λ e. omega arith) ∙ k.first;
        sound = o.sound;
        drawn = λ y. total_same (drawn_times y) s.views id v w at refl ∙ k.drawn y;
        shares = total_same share_of s.views id v w at refl ∙ k.shares;
        room = let e = total_same allowance_of s.views id v w at refl in let r = k.room in omega arith;
        reached = (o.within, reached.1);
        behind = λ y lt. let e = p y in let c = k.behind y lt in omega arith;
        unput = λ y h. k.unput y (sym (p y) ∙ h);
        word = λ y lt.
            let h = total_same (held_count y) s.views id v w at refl in
            let e = p y in
            let q = k.word y lt in
            let same = else y lt in omega arith;
        slot = λ y lt. same_slot b k.stage.pieces y _ _ _ _ (else y lt) (set_else s.homes n y home (λ e. omega arith)) (k.slot y lt);
        baton = same_baton b record k.stage { judged = x.judged } _ _
            (λ i. record {
              word = get_or-set_same {A = ℕ} s.words (n + 1) word 0 (omega arith) i;
              holders = total turn_count vs;
              holder = x.holder;
              home = set_here s.homes n home (omega arith) i;
            })
            o.baton;
        holds = o.named;
        legal = o.told.0;
        told = o.told.1;
        logs = logs_entry s.views k.journal id v w x.entry at refl k.logs;
      }

  -- an entry that a pass logs now
  abbrev logged_now : (s : State (Slot T H) (View T K)) (k : IsKept b s) (id : ℕ) (v : View T K) → get_elem? s.views id ≡ some v → (entry : ℕ → Entry T)
      → HasLogged entry v.logs ((entry id ∷ k.journal) ∷ [])
  logged_now s k id v at entry = record { pass = id; since = k.journal; before = all_ends s.views k.journal id v at k.logs; last = refl }

  -- what a swap of the baton's word gives
  abbrev Seizes : State (Slot T H) (View T K) → ℕ → View T K → Held → ℕ → Type 0
  Seizes s id v c n = (w : View T K)
      × (a : Act (Slot T H))
      × Valid s.homes c a
      × Kept (stepped s (n + 1) away_word id c w a)
      × (get_or s.words (n + 1) 0 ≡ away_word → IsMet (v, c) (w, carried_after c a))
      × (get_or s.words (n + 1) 0 ≢ away_word
      → (get_or s.words (n + 1) 0 ≤ n)
      × ((shelf : H)
      × (unlogged w ≡ at_turn (get_or s.words (n + 1) 0) (get_or s.words (n + 1) 0) (b.laid shelf) (unlogged v))
      × (carried_after c a ≡ (n, Shelf shelf) ∷ c)
      × (length (b.laid shelf) ≡ get_or s.words (n + 1) 0)
      × b.stands shelf
      × HasLogged Seized v.logs w.logs))

  -- the pass that has the baton
  holder_of : (s : State (Slot T H) (View T K)) (k : IsKept b s) → 1 ≤ total turn_count s.views
      → (id : ℕ) × (v : View T K) × (get_elem? s.views id ≡ some v) × (1 ≤ turn_count v) × (k.holder ≡ Some id)
  holder_of s k y =
      let m = some_member turn_count s.views y in
      let t = is_present m.1.turn m.3 in
      (m.0, m.1, m.2, m.3, k.holds m.0 m.1 t.0 m.2 t.1)

  seizes_at : (s : State (Slot T H) (View T K)) (k : IsKept b s) (id : ℕ) (v : View T K) (c : Held) → get_elem? s.views id ≡ some v → 0 < v.share
      → v.shelved ≡ true → v.turn ≡ None
      → (1 ≤ length v.put) ⊎ IsFull v → Seizes s id v c b.key.lanes
  seizes_at s k id v c at live shelved idle put = go (baton_is with_shelf k.stage _ k.baton)
    where
      so : IsSound b.key k.stage v
      so = k.sound id v at

      with_shelf : b.key.shelved ≡ true
      with_shelf = sym (so.about live).2 ∙ shelved

      has_put : 1 ≤ length v.put
      has_put = ⊎_elim (λ h. h) (λ f. let p = full_puts b s k id v at live f 0 k.few.0 in let l = times_length 0 v.put in omega arith) put

      -- another pass has it
      met : (get_or s.words (b.key.lanes + 1) 0 ≡ away_word) × (total turn_count s.views ≡ 1) → Seizes s id v c b.key.lanes
      met h =
          let ms : List Miss = v.misses ++ miss.Baton ∷ [] in
          let w : View T K = record v { misses = ms; logs = (Met id ∷ k.journal) ∷ [] } in
          let o = holder_of s k (let e = h.1 in omega arith) in
          let apart : o.0 ≢ id = λ e.
          let is : o.1 ≡ v = some-injective o.1 v (sym o.2 ∙ ap (get_elem? s.views) e ∙ at) in
          let z : turn_count o.1 ≡ turn_count v = ap turn_count is in
          let z' : turn_count v ≡ 0 = ap present idle in
          let p = o.3 in omega arith in
          let told = subst (λ (z : Option ℕ). IsTold b.fits b.key.lanes k.stage z (set s.views id w) (Met id ∷ k.journal)) (sym o.4)
          (told_met b.fits b.key.lanes k.stage o.0 s.views k.journal record { id = id; old = v; new = w; at = at } stay_same apart
          (subst (λ (z : Option ℕ). IsTold b.fits b.key.lanes k.stage z s.views k.journal) o.4 (told_of b s k))) in
          let same : set s.words (b.key.lanes + 1) away_word ≡ s.words =
          subst (λ (z : ℕ). set s.words (b.key.lanes + 1) z ≡ s.words) h.0 (set-get_or s.words (b.key.lanes + 1) 0) in (
            w,
            keeps,
            tt,
            subst (λ (ws : List ℕ). Kept record { words = ws; homes = s.homes; views = set s.views id w }) (sym same)
                (miss_keeps s k id v at ms (Met id) told),
            (λ _. record {
              view = refl;
              slots = refl;
              logged = logged o.0 o.4 apart;
              not_full = λ full. let z = full_alone b s k id v at live idle full in let e = h.1 in omega arith;
            }),
            (λ ne. absurd (ne h.0)),
          )
        where
          logged : (q : ℕ) → k.holder ≡ Some q → q ≢ id → MetBaton v.lanes v.logs ((Met id ∷ k.journal) ∷ [])
          logged q e ne =
              subst (λ (z : ℕ). MetBaton z v.logs ((Met id ∷ k.journal) ∷ [])) (sym (so.about live).1)
              record {
                logged = logged_now s k id v at Met;
                holder = q;
                holds = ap (λ (a : Account T). a.holder) k.told ∙ e;
                other = ne;
              }

      -- it is at home
      home : IsHome b k.stage (baton_of b s k.holder) → Seizes s id v c b.key.lanes
      home h =
          let n : ℕ = b.key.lanes in
          let r : ℕ = get_or s.words (n + 1) 0 in
          let t : Turn T = record { found = r; next = r; laid = b.laid h.shelf } in
          let x : Change = record { misses = v.misses; given = v.given; turn = Some t; judged = k.stage.judged; holder = Some id; entry = Seized id } in
          let w : View T K = changed x k.journal v in
          let reached = k.reached in
          let few = k.few in
          let is : r ≡ k.stage.taken = h.word in
          let none = h.nobody in
          let z : turn_count v ≡ 0 = ap present idle in
          let told = told_seized b.fits n k.stage s.views k.journal record { id = id; old = v; new = w; at = at } stay_same has_put
          (subst (λ (z : Option ℕ). IsTold b.fits n k.stage z s.views k.journal) none.1 (told_of b s k)) in (
            w,
            takes n (Shelf h.shelf),
            h.there,
            baton_step s k id v at x away_word maybe.none record {
              sound = sound_one b.key k.stage s.views id w k.sound record {
                about = so.about;
                late = so.late;
                spent = so.spent;
                paid = so.paid;
                able = so.able;
                own = so.own;
                turn = λ u e. subst (IsTurn k.stage w) (the_same w.turn t u refl e)
                    record { next = is; found = is ∙ sym h.judged; put = has_put; first = h.first };
                given = so.given;
              };
              within = reached.0;
              baton = is_baton with_shelf k.stage _ (inl (refl, let e = total_set turn_count s.views id v w at in let o = none.0 in omega arith));
              named = named_set k.holder (Some id) s.views id w
                  (λ i u ne at'. let l = member_le turn_count s.views i u at' in let o = none.0 in inl (omega arith)) k.holds (λ _ _. refl);
              told = told;
            },
            (λ full. absurd (omega arith)),
            (λ _. (omega arith, (h.shelf, refl, refl, h.first.many ∙ sym is, h.standing, logged_now s k id v at Seized))),
          )

      go : IsBaton b k.stage true (baton_of b s k.holder) → Seizes s id v c b.key.lanes
      go = ⊎_elim met home

  -- the view that has the baton is alone, the word says so, and the board has a shelf
  holds_baton : (s : State (Slot T H) (View T K)) (k : IsKept b s) (id : ℕ) (v : View T K) → get_elem? s.views id ≡ some v → (t : Turn T) → v.turn ≡ Some t
      → b.key.shelved ≡ true
      → (get_or s.words (b.key.lanes + 1) 0 ≡ away_word) × (total turn_count s.views ≡ 1)
  holds_baton s k id v at t e with_shelf = ⊎_elim
      (λ h. h)
      (λ (h : IsHome b k.stage (baton_of b s k.holder)).
      let l = member_le turn_count s.views id v at in
      let z : turn_count v ≡ 1 = ap present e in
      let o = h.nobody.0 in absurd (omega arith))
      (baton_is with_shelf k.stage _ k.baton)

  -- the others have none
  alone : (s : State (Slot T H) (View T K)) (id : ℕ) (v : View T K) → get_elem? s.views id ≡ some v → turn_count v ≡ 1 → total turn_count s.views ≡ 1
      → (i : ℕ) (u : View T K) → i ≢ id → get_elem? s.views i ≡ some u → turn_count u ≡ 0
  alone s id v at mine one i u ne at' = let two = two_members turn_count s.views i id u v at' at ne in omega arith

  -- the other views have no turn, so they stay sound where more lanes are taken or judged
  sound_alone : (s : State (Slot T H) (View T K)) (g : Stage T) (t j : ℕ) (id : ℕ) (v w : View T K) → get_elem? s.views id ≡ some v → turn_count v ≡ 1
      → total turn_count s.views ≡ 1
      → g.judged ≤ j → AllSound b.key g s.views → IsSound b.key record g { taken = t; judged = j } w
      → AllSound b.key record g { taken = t; judged = j } (set s.views id w)
  sound_alone s g t j id v w at mine one le =
      sound_set b.key g record g { taken = t; judged = j } s.views id w
      (λ i u ne at' so. turnless b.key g t j le u (alone s id v at mine one i u ne at') so)

  -- a pass that has the baton, on a board with a shelf, and the next lane
  record HasTurn (s : State (Slot T H) (View T K)) (k : IsKept b s) (id : ℕ) (v : View T K) (t : Turn T) : Type 0 where
    pub at : get_elem? s.views id ≡ some v
    pub turn : v.turn ≡ Some t
    pub shelf : b.key.shelved ≡ true

  -- the view after a lane was taken
  abbrev took_view : List (Entry T) → ℕ → Turn T → T → View T K → View T K
  took_view journal id t piece
      v = record v { turn = Some record { found = t.found; next = t.next + 1; laid = t.laid ++ piece ∷ [] }; logs = (Took id ∷ journal) ∷ [] }

  abbrev took_views : (s : State (Slot T H) (View T K)) → IsKept b s → ℕ → Turn T → T → View T K → List (View T K)
  took_views s k id t piece v = set s.views id (took_view k.journal id t piece v)

  -- a filled lane is taken
  onward_keeps : (s : State (Slot T H) (View T K)) (k : IsKept b s) (id : ℕ) (v : View T K) (t : Turn T) → HasTurn s k id v t → (piece : T)
      → t.next < b.key.lanes
      → get_or s.words (t.next + 1) 0 ≡ filled_word → piece_of t.next k.stage.pieces ≡ Some piece
      → Kept record { words = set s.words (t.next + 1) taken_word; homes = set s.homes t.next maybe.none; views = took_views s k id t piece v }
  onward_keeps s k id v t has piece lt is2 its =
      let n : ℕ = b.key.lanes in
      let at = has.at in
      let lane : ℕ = t.next in
      let w : View T K = took_view k.journal id t piece v in
      let vs : List (View T K) = set s.views id w in
      let ws : List ℕ = set s.words (lane + 1) taken_word in
      let so = k.sound id v at in
      let tn = so.turn t has.turn in
      let next : lane ≡ k.stage.taken = tn.next in
      let wide = k.wide in
      let reached = k.reached in
      let one = holds_baton s k id v at t has.turn has.shelf in
      let mine : turn_count v ≡ 1 = ap present has.turn in
      let there : get_or ws (lane + 1) 0 ≡ taken_word = get_or-set_same {A = ℕ} s.words (lane + 1) taken_word 0 (omega arith) in
      let else : (x : ℕ) → x ≢ lane → get_or ws (x + 1) 0 ≡ get_or s.words (x + 1) 0 =
      λ x ne. get_or-set_other {A = ℕ} s.words (lane + 1) (x + 1) taken_word 0 (λ e. ne (omega arith)) in
      let p : (x : ℕ) → total (put_times x) vs ≡ total (put_times x) s.views = λ x. total_same (put_times x) s.views id v w at refl in
      let u : Turn T = record { found = t.found; next = lane + 1; laid = t.laid ++ piece ∷ [] } in
      let g : Stage T = record k.stage { taken = k.stage.taken + 1 } in
      record {
        stage = g;
        holder = k.holder;
        journal = Took id ∷ k.journal;
        count = length-set s.homes lane maybe.none ∙ k.count;
        few = k.few;
        wide = length-set {A = ℕ} s.words (lane + 1) taken_word ∙ wide;
        first = get_or-set_other {A = ℕ} s.words (lane + 1) 0 taken_word 0 (λ e. omega arith) ∙ k.first;
        sound = sound_alone s k.stage (k.stage.taken + 1) k.stage.judged id v w at mine one.1 (omega arith) k.sound record {
          about = so.about;
          late = so.late;
          spent = so.spent;
          paid = so.paid;
          able = so.able;
          own = so.own;
          turn = λ z e. subst (IsTurn g w) (the_same w.turn u z refl e)
              record { next = omega arith; found = tn.found; put = tn.put; first = more next tn.first };
          given = so.given;
        };
        drawn = λ x. total_same (drawn_times x) s.views id v w at refl ∙ k.drawn x;
        shares = total_same share_of s.views id v w at refl ∙ k.shares;
        room = let e = total_same allowance_of s.views id v w at refl in let r = k.room in omega arith;
        reached = (omega arith, omega arith);
        behind = λ x low. let e = p x in let c = behind x low (ℕ_discrete x lane) in omega arith;
        unput = λ x h. k.unput x (sym (p x) ∙ h);
        word = λ x near. word x (k.word x near) there (else x) (total_same (held_count x) s.views id v w at refl) (p x) (ℕ_discrete x lane);
        slot = λ x near. slots x (k.slot x near) there (else x) (ℕ_discrete x lane);
        baton = is_baton has.shelf g _ (inl (else n (λ e. omega arith) ∙ one.0, total_same turn_count s.views id v w at (sym mine) ∙ one.1));
        holds = named_set k.holder k.holder s.views id w (λ i u ne at'. inr refl) k.holds (λ _ _. k.holds id v t at has.turn);
        legal = told.0;
        told = told.1;
        logs = logs_entry s.views k.journal id v w (Took id) at refl k.logs;
      }
    where
      next_is : t.next ≡ k.stage.taken
      next_is = ((k.sound id v has.at).turn t has.turn).next

      holder_is : k.holder ≡ Some id
      holder_is = k.holds id v t has.at has.turn

      told : IsTold b.fits b.key.lanes record k.stage { taken = k.stage.taken + 1 } k.holder (took_views s k id t piece v) (Took id ∷ k.journal)
      told = subst (λ (z : Option ℕ). IsTold b.fits b.key.lanes record k.stage { taken = k.stage.taken + 1 } z (took_views s k id t piece v)
          (Took id ∷ k.journal)) (sym holder_is)
          (told_took b.fits b.key.lanes k.stage s.views k.journal record { id = id; old = v; new = took_view k.journal id t piece v; at = has.at }
          piece stay_same
          (ap (λ (z : ℕ). piece_of z k.stage.pieces) (sym next_is) ∙ its)
          (subst (λ (z : Option ℕ). IsTold b.fits b.key.lanes k.stage z s.views k.journal) holder_is (told_of b s k)))

      more : t.next ≡ k.stage.taken → AreFirst k.stage.taken t.laid k.stage.pieces → AreFirst (k.stage.taken + 1) (t.laid ++ piece ∷ []) k.stage.pieces
      more e a = record {
        many = let m = a.many in let l = length-append t.laid (piece ∷ []) in omega arith;
        each = λ i p h.
            ⊎_elim
            (λ was. a.each i p was)
            (λ (x : (i ≡ length t.laid) × (piece ≡ p)).
            ap (λ (z : ℕ). piece_of z k.stage.pieces) (let m = a.many in let y = x.0 in omega arith) ∙ its ∙ ap (λ (z : T). Some z) x.1)
            (at_end t.laid piece p i h);
      }

      put_here : total (put_times t.next) s.views ≡ 1
      put_here =
          let q = k.word t.next lt in
          let m = at_most_one b s k t.next in
          let e = next_is in
          let c = below_no t.next k.stage.taken (omega arith) in omega arith

      behind : (x : ℕ) → x < k.stage.taken + 1 → Dec (x ≡ t.next) → 1 ≤ total (put_times x) s.views
      behind x low (yes e) = subst (λ (y : ℕ). 1 ≤ total (put_times y) s.views) (sym e) (let p = put_here in omega arith)
      behind x low (no ne) = let e = next_is in k.behind x (omega arith)

      word : (x : ℕ) → get_or s.words (x + 1) 0 ≡ total (held_count x) s.views + 2 * total (put_times x) s.views + below x k.stage.taken
          → get_or (set s.words (t.next + 1) taken_word) (t.next + 1) 0 ≡ taken_word
          → (x ≢ t.next → get_or (set s.words (t.next + 1) taken_word) (x + 1) 0 ≡ get_or s.words (x + 1) 0)
          → total (held_count x) (took_views s k id t piece v) ≡ total (held_count x) s.views
          → total (put_times x) (took_views s k id t piece v) ≡ total (put_times x) s.views → Dec (x ≡ t.next)
          → get_or (set s.words (t.next + 1) taken_word) (x + 1) 0
          ≡ total (held_count x) (took_views s k id t piece v) + 2 * total (put_times x) (took_views s k id t piece v) + below x (k.stage.taken + 1)
      word x was there else h p (yes e) =
          let one : total (put_times x) s.views ≡ 1 = ap (λ (y : ℕ). total (put_times y) s.views) e ∙ put_here in
          let m = at_most_one b s k x in
          let i = next_is in
          let c = below_yes x (k.stage.taken + 1) (omega arith) in
          let w : get_or (set s.words (t.next + 1) taken_word) (x + 1) 0 ≡ taken_word =
          ap (λ (y : ℕ). get_or (set s.words (t.next + 1) taken_word) (y + 1) 0) e ∙ there in
          omega arith
      word x was there else h p (no ne) =
          let c = below_next x k.stage.taken in
          let o = one_other x k.stage.taken (λ e. ne (e ∙ sym next_is)) in
          let same = else ne in omega arith

      slots : (x : ℕ) → IsSlot b.fits k.stage.pieces x (get_or s.words (x + 1) 0) (get_elem? s.homes x)
          → get_or (set s.words (t.next + 1) taken_word) (t.next + 1) 0 ≡ taken_word
          → (x ≢ t.next → get_or (set s.words (t.next + 1) taken_word) (x + 1) 0 ≡ get_or s.words (x + 1) 0)
          → Dec (x ≡ t.next)
          → IsSlot b.fits k.stage.pieces x (get_or (set s.words (t.next + 1) taken_word) (x + 1) 0) (get_elem? (set s.homes t.next maybe.none) x)
      slots x was there else (yes e) =
          let gone : get_or (set s.words (t.next + 1) taken_word) (x + 1) 0 ≡ taken_word =
          ap (λ (y : ℕ). get_or (set s.words (t.next + 1) taken_word) (y + 1) 0) e ∙ there in
          record { empty = λ h. absurd (omega arith); full = λ h. absurd (omega arith) }
      slots x was there else (no ne) = same_slot b k.stage.pieces x _ _ _ _ (else ne) (set_else s.homes t.next x maybe.none ne) was

  -- what a try gives, for the views and the slots before and after
  record Found (s : State (Slot T H) (View T K)) (t : Turn T) (v w : View T K) (c c' : Held) : Type 0 where
    pub filled : get_or s.words (t.next + 1) 0 ≡ filled_word
        → (piece : T)
        × (unlogged w ≡ at_turn t.found (t.next + 1) (t.laid ++ piece ∷ []) (unlogged v))
        × (c' ≡ (t.next, Piece piece) ∷ c)
        × b.fits t.next piece
        × HasLogged Took v.logs w.logs
    pub missing : get_or s.words (t.next + 1) 0 ≢ filled_word
        → (unlogged w ≡ missed (Lane t.next) (unlogged v))
        × (c' ≡ c)
        × (times t.next v.put ≡ 0)
        × ¬ (IsFull v)
        × SkippedLane b.key.lanes t.next v.logs w.logs

  -- a view that has a turn meets a lane that is filled, or one that it has not put
  abbrev Tries : State (Slot T H) (View T K) → ℕ → View T K → Turn T → Held → Held → ℕ → Type 0
  Tries s id v t held c n = (w : View T K)
      × (a : Act (Slot T H))
      × Valid s.homes held a
      × Kept (stepped s (t.next + 1) n id held w a)
      × Found s t v w c (carried_after held a)

  tries_at : (s : State (Slot T H) (View T K)) (k : IsKept b s) (id : ℕ) (v : View T K) (c : Held) (t : Turn T) → HasTurn s k id v t → 0 < v.share
      → t.next < b.key.lanes
      → Tries s id v t c c (either (eqb (get_or s.words (t.next + 1) 0) filled_word) taken_word (get_or s.words (t.next + 1) 0))
  tries_at s k id v c t has live near = exchanged (get_or s.words (t.next + 1) 0) filled_word taken_word (Tries s id v t c c) hit miss
    where
      next_is : t.next ≡ k.stage.taken
      next_is = ((k.sound id v has.at).turn t has.turn).next

      holder_is : k.holder ≡ Some id
      holder_is = k.holds id v t has.at has.turn

      hit : get_or s.words (t.next + 1) 0 ≡ filled_word → Tries s id v t c c taken_word
      hit is2 =
          let full = (k.slot t.next near).full is2 in (
            took_view k.journal id t full.0 v,
            takes t.next (Piece full.0),
            full.1,
            onward_keeps s k id v t has full.0 near is2 full.3,
            record { filled = λ _. (full.0, refl, refl, full.2, logged_now s k id v has.at Took); missing = λ ne. absurd (ne is2) },
          )

      put_before : 1 ≤ total (put_times t.next) s.views → get_or s.words (t.next + 1) 0 ≡ filled_word
      put_before y =
          let one = at_most_one b s k t.next in
          let word = k.word t.next near in
          let q = next_is in
          let c = below_no t.next k.stage.taken (omega arith) in
          omega arith

      miss : get_or s.words (t.next + 1) 0 ≢ filled_word → Tries s id v t c c (get_or s.words (t.next + 1) 0)
      miss not2 =
          let ms : List Miss = v.misses ++ Lane k.stage.taken ∷ [] in
          let w : View T K = record v { misses = ms; logs = (Skipped id ∷ k.journal) ∷ [] } in
          let none : total (put_times t.next) s.views ≡ 0 = unput (dec_le 1 (total (put_times t.next) s.views)) in
          let m = member_le (put_times t.next) s.views id v has.at in
          let q = next_is in
          let told = subst (λ (z : Option ℕ). IsTold b.fits b.key.lanes k.stage z (set s.views id w) (Skipped id ∷ k.journal)) (sym holder_is)
          (told_skipped b.fits b.key.lanes k.stage s.views k.journal record { id = id; old = v; new = w; at = has.at } stay_same (omega arith)
          (ap (λ (z : ℕ). piece_of z k.stage.pieces) (sym next_is) ∙ k.unput t.next none)
          (subst (λ (z : Option ℕ). IsTold b.fits b.key.lanes k.stage z s.views k.journal) holder_is (told_of b s k))) in (
            w,
            keeps,
            tt,
            subst (λ (ws : List ℕ). Kept record { words = ws; homes = s.homes; views = set s.views id w }) (sym (set-get_or s.words (t.next + 1) 0))
                (miss_keeps s k id v has.at ms (Skipped id) told),
            record {
              filled = λ is2. absurd (not2 is2);
              missing = λ _. (
                ap (λ (z : ℕ). missed (Lane z) (unlogged v)) (sym next_is),
                refl,
                omega arith,
                (λ full. let p = full_puts b s k id v has.at live full t.next near in omega arith),
                record {
                  logged = logged_now s k id v has.at Skipped;
                  next = ap (λ (a : Account T). a.taken) k.told ∙ sym next_is;
                  none = ap (λ (a : Account T). piece_of t.next a.pieces) k.told ∙ k.unput t.next none;
                },
              );
            },
          )
        where
          unput : Dec (1 ≤ total (put_times t.next) s.views) → total (put_times t.next) s.views ≡ 0
          unput (no n) = omega arith
          unput (yes y) = absurd (not2 (put_before y))

  -- the same, where the slot of a lane that was taken is given back first
  tries_back : (s : State (Slot T H) (View T K)) (k : IsKept b s) (id : ℕ) (v : View T K) (lane : ℕ) (y : Slot T H) (c : Held) (t : Turn T)
      → HasTurn s k id v t → 0 < v.share
      → t.next < b.key.lanes → lane < t.next
      → Tries s id v t ((lane, y) ∷ c) c (either (eqb (get_or s.words (t.next + 1) 0) filled_word) taken_word (get_or s.words (t.next + 1) 0))
  tries_back s k id v lane y c t has live near low =
      let q = ((k.sound id v has.at).turn t has.turn).next in
      let three = is_taken s k lane (omega arith) in
      let s' : State (Slot T H) (View T K) = record { words = s.words; homes = set s.homes lane (some y); views = s.views } in
      let r = tries_at s' (back_keeps s k lane y (omega arith) three) id v c t record { at = has.at; turn = has.turn; shelf = has.shelf } live near in
      (r.0, chain gives r.1, (tt, r.2), r.3, record { filled = r.4.filled; missing = r.4.missing })

  -- the view after the baton was given back
  abbrev handing : (s : State (Slot T H) (View T K)) → IsKept b s → ℕ → View T K → Turn T → Change
  handing s k id v t = record { misses = v.misses; given = v.given ++ t.next ∷ []; turn = None; judged = k.stage.taken; holder = None; entry = Handed id }

  -- the baton is given back
  passes_at : (s : State (Slot T H) (View T K)) (k : IsKept b s) (id : ℕ) (v : View T K) (t : Turn T) (shelf : H) → HasTurn s k id v t → 0 < v.share
      → b.stands shelf → b.laid shelf ≡ t.laid
      → Kept record {
        words = set s.words (b.key.lanes + 1) t.next;
        homes = set s.homes b.key.lanes (some (Shelf shelf));
        views = changed_views s k (handing s k id v t) id v;
      }
  passes_at s k id v t shelf has live standing same =
      let n : ℕ = b.key.lanes in
      let x : Change = handing s k id v t in
      let w : View T K = changed x k.journal v in
      let so = k.sound id v has.at in
      let tn = so.turn t has.turn in
      let reached = k.reached in
      let one = holds_baton s k id v has.at t has.turn has.shelf in
      let mine : turn_count v ≡ 1 = ap present has.turn in
      let first : AreFirst k.stage.taken (b.laid shelf) k.stage.pieces = subst (λ (z : List T). AreFirst k.stage.taken z k.stage.pieces) (sym same) tn.first
      in
      let g : Stage T = record k.stage { judged = k.stage.taken } in
      let told = told_handed b.fits n k.stage s.views k.journal record { id = id; old = v; new = w; at = has.at }
      record { drawn_are = refl; put_are = refl; misses_are = refl; given_are = ap (λ (z : ℕ). v.given ++ z ∷ []) tn.next }
      (subst (λ (z : Option ℕ). IsTold b.fits n k.stage z s.views k.journal) (k.holds id v t has.at has.turn) (told_of b s k)) in
      baton_step s k id v has.at x t.next (some (Shelf shelf)) record {
        sound = sound_alone s k.stage k.stage.taken k.stage.taken id v w has.at mine one.1 reached.0 k.sound record {
          about = so.about;
          late = so.late;
          spent = so.spent;
          paid = so.paid;
          able = so.able;
          own = so.own;
          turn = λ u e. absurd (none_some u e);
          given = λ i h. given i h tn.next reached.0 (ℕ_discrete i t.next);
        };
        within = omega arith;
        baton = is_baton has.shelf g _ (inr record {
          word = tn.next;
          judged = refl;
          nobody = (let e = total_set turn_count s.views id v w has.at in let o = one.1 in omega arith, refl);
          shelf = shelf;
          there = refl;
          standing = standing;
          first = first;
        });
        named = named_set k.holder None s.views id w (λ i u ne at'. inl (alone s id v has.at mine one.1 i u ne at')) k.holds
            (λ u e. absurd (none_some u e));
        told = told;
      }
    where
      given : (i : ℕ) → 1 ≤ times i (v.given ++ t.next ∷ []) → t.next ≡ k.stage.taken → k.stage.judged ≤ k.stage.taken → Dec (i ≡ t.next) → i ≤ k.stage.taken
      given i h e le (yes is) = omega arith
      given i h e le (no ne) =
          let s' = times_snoc i t.next v.given in
          let o = one_other i t.next ne in
          let g = (k.sound id v has.at).given i (omega arith) in omega arith

  -- and with it the slot of the last lane that was taken
  passes_back : (s : State (Slot T H) (View T K)) (k : IsKept b s) (id : ℕ) (v : View T K) (t : Turn T) (shelf : H) (lane : ℕ) (y : Slot T H)
      → HasTurn s k id v t → 0 < v.share
      → b.stands shelf → b.laid shelf ≡ t.laid → lane < t.next
      → Kept record {
        words = set s.words (b.key.lanes + 1) t.next;
        homes = set (set s.homes b.key.lanes (some (Shelf shelf))) lane (some y);
        views = changed_views s k (handing s k id v t) id v;
      }
  passes_back s k id v t shelf lane y has live standing same low =
      let q = ((k.sound id v has.at).turn t has.turn).next in
      let reached = k.reached in
      let three = is_taken s k lane (omega arith) in
      let near : lane < b.key.lanes = omega arith in
      back_keeps _ (passes_at s k id v t shelf has live standing same) lane y near
      (get_or-set_other {A = ℕ} s.words (b.key.lanes + 1) (lane + 1) t.next 0 (λ e. omega arith) ∙ three)

-- The same for the terms of a task.
module _ {T H K : Type 0} (fits : K → ℕ → T → Type 0) (laid : H → List T) (stands : K → ℕ → H → Type 0) (key : Setting K) where
  abbrev pub of_task : Terms T H K
  of_task = terms fits laid stands key

  abbrev Carry : Type 0
  Carry = List (ℕ × Slot T H)

  -- a pass of a board with a shelf that may try to take the baton
  pub record MaySeize (lanes : ℕ) (v : View T K) : Type 0 where
    pub many : v.lanes ≡ lanes
    pub live : 0 < v.share
    pub shelved : v.shelved ≡ true
    pub idle : v.turn ≡ None
    pub put : (1 ≤ length v.put) ⊎ IsFull v

  pub seizes : (slots lanes id : ℕ) (v : View T K) (c : Carry) → MaySeize lanes v
      → Allows (IsKept of_task) slots id (v, c) (lanes + 1) (λ _. away_word) (IsSeizure laid stands (step slots (lanes + 1) away_word 0 maybe.none) (v, c))
  seizes slots lanes id v c may s k len at small = subst F same here
    where
      F : ℕ → Type 0
      F n = (w : View T K)
          × (a : Act (Slot T H))
          × Valid s.homes c a
          × IsKept of_task (stepped s (n + 1) away_word id c w a)
          × IsSeizure laid stands (step slots (n + 1) away_word 0 maybe.none) (v, c) (get_or s.words (n + 1) 0) (w, carried_after c a)

      about : (v.task ≡ Some key.task) × (v.lanes ≡ key.lanes) × (v.shelved ≡ key.shelved)
      about = (k.sound id v at).about may.live

      same : key.lanes ≡ lanes
      same = sym about.1 ∙ may.many

      here : F key.lanes
      here =
          let r = seizes_at of_task s k id v c at may.live may.shelved may.idle may.put in (
            r.0,
            r.1,
            r.2,
            r.3,
            record {
              away = r.4;
              home = λ ne.
                  let q = r.5 ne in
                  record {
                    at_most = let e = about.1 in let l = q.0 in let many = may.many in omega arith;
                    shelf = q.1.0;
                    view = q.1.1;
                    slots = q.1.2 ∙ ap (λ (z : ℕ). (z, Shelf q.1.0) ∷ c) (sym about.1);
                    logged = q.1.5;
                    many = q.1.3;
                    standing = λ task is. subst (λ (z : K × ℕ). stands z.0 z.1 q.1.0) (λ i. (the_same v.task key.task task about.0 is i, sym about.1 i))
                        q.1.4;
                  };
            },
          )

  -- a pass that has a turn, on a board with a shelf
  pub record IsAtTurn (lanes : ℕ) (v : View T K) (t : Turn T) : Type 0 where
    pub many : v.lanes ≡ lanes
    pub live : 0 < v.share
    pub shelved : v.shelved ≡ true
    pub turn : v.turn ≡ Some t

  pub tries : (slots lanes id : ℕ) (v : View T K) (c : Carry) (t : Turn T) → IsAtTurn lanes v t → t.next < lanes → IsCarried lanes t.next c
      → Allows (IsKept of_task) slots id (v, c) (t.next + 1) (λ n. either (eqb n filled_word) taken_word n)
      (IsTry fits (step slots (t.next + 1) filled_word taken_word maybe.none) (v, c))
  tries slots lanes id v c t may lt shape s k len at small = ⊎_elim one two shape
    where
      F : Carry → Type 0
      F z = (w : View T K)
          × (a : Act (Slot T H))
          × Valid s.homes z a
          × IsKept of_task
          (stepped s (t.next + 1) (either (eqb (get_or s.words (t.next + 1) 0) filled_word) taken_word (get_or s.words (t.next + 1) 0)) id z w a)
          × IsTry fits (step slots (t.next + 1) filled_word taken_word maybe.none) (v, z) (get_or s.words (t.next + 1) 0) (w, carried_after z a)

      about : (v.task ≡ Some key.task) × (v.lanes ≡ key.lanes) × (v.shelved ≡ key.shelved)
      about = (k.sound id v at).about may.live

      near : t.next < key.lanes
      near = let e = about.1 in let many = may.many in omega arith

      has : HasTurn of_task s k id v t
      has = record { at = at; turn = may.turn; shelf = sym about.2 ∙ may.shelved }

      task_is : (task : K) → v.task ≡ Some task → key.task ≡ task
      task_is task is = the_same v.task key.task task about.0 is

      told : (z rest : Carry) → spared z ≡ rest → (w : View T K) (c' : Carry) → Found of_task s t v w rest c'
          → IsTry fits (step slots (t.next + 1) filled_word taken_word maybe.none) (v, z) (get_or s.words (t.next + 1) 0) (w, c')
      told z rest e w c' f = record {
        filled = λ u is is2. subst (λ (y : Turn T). IsTaken fits y (v, z) (w, c')) (the_same v.turn t u may.turn is)
            (let q = f.filled is2 in
            record {
              piece = q.0;
              view = q.1;
              slots = q.2 ∙ ap (λ (l : Carry). (t.next, Piece q.0) ∷ l) (sym e);
              logged = q.4;
              fit = λ task h. subst (λ (y : K). fits y t.next q.0) (task_is task h) q.3;
            });
        missing = λ u is ne. subst (λ (y : Turn T). IsSkipped y (v, z) (w, c')) (the_same v.turn t u may.turn is)
            (let q = f.missing ne in
            record {
              view = q.0;
              slots = q.1 ∙ sym e;
              logged = subst (λ (y : ℕ). SkippedLane y t.next v.logs w.logs) (sym about.1) q.4;
              unput = q.2;
              not_full = q.3;
            });
      }

      one : c ≡ (lanes, Empty) ∷ [] → F c
      one e = subst F (sym e)
          (let r = tries_at of_task s k id v ((lanes, Empty) ∷ []) t has may.live near in
          (r.0, r.1, r.2, r.3, told ((lanes, Empty) ∷ []) ((lanes, Empty) ∷ []) refl r.0 _ r.4))

      two : (lane : ℕ) × (lane < t.next) × (c ≡ (lane, Empty) ∷ (lanes, Empty) ∷ []) → F c
      two e = subst F (sym e.2)
          (let r = tries_back of_task s k id v e.0 Empty ((lanes, Empty) ∷ []) t has may.live near e.1 in
          (r.0, r.1, r.2, r.3, told ((e.0, Empty) ∷ (lanes, Empty) ∷ []) ((lanes, Empty) ∷ []) refl r.0 _ r.4))

  pub passes_on : (slots lanes id : ℕ) (m : View T K × Carry) (t : Turn T) (shelf : H) → IsAtTurn lanes m.0 t
      → stands key.task key.lanes shelf → laid shelf ≡ t.laid → HasShelfFirst lanes t.next (Shelf shelf) m.1
      → Allows (IsKept of_task) slots id m (lanes + 1) (λ _. t.next) (IsHanding (step slots (lanes + 1) t.next 0 maybe.none) m)
  passes_on slots lanes id m t shelf may standing same shape s k len at small = ⊎_elim one two shape
    where
      F : ℕ → Carry → Type 0
      F n z = (w : View T K)
          × (a : Act (Slot T H))
          × Valid s.homes z a
          × IsKept of_task (stepped s (n + 1) t.next id z w a)
          × IsHanding (step slots (n + 1) t.next 0 maybe.none) (m.0, z) (get_or s.words (n + 1) 0) (w, carried_after z a)

      about : (m.0.task ≡ Some key.task) × (m.0.lanes ≡ key.lanes) × (m.0.shelved ≡ key.shelved)
      about = (k.sound id m.0 at).about may.live

      has : HasTurn of_task s k id m.0 t
      has = record { at = at; turn = may.turn; shelf = sym about.2 ∙ may.shelved }

      lanes_are : key.lanes ≡ lanes
      lanes_are = sym about.1 ∙ may.many

      handed : HandedBaton m.0.lanes t.next m.0.logs ((Handed id ∷ k.journal) ∷ [])
      handed = subst (λ (z : ℕ). HandedBaton z t.next m.0.logs ((Handed id ∷ k.journal) ∷ [])) (sym about.1)
          record {
            logged = logged_now of_task s k id m.0 at Handed;
            taken_are = ap (λ (a : Account T). a.taken) k.told ∙ sym ((k.sound id m.0 at).turn t may.turn).next;
          }

      after : View T K
      after = changed of_task (handing of_task s k id m.0 t) k.journal m.0

      one : m.1 ≡ (lanes, Shelf shelf) ∷ [] → F lanes m.1
      one e = subst (F lanes) (sym e) (subst (λ (n : ℕ). F n ((n, Shelf shelf) ∷ [])) lanes_are (
        after,
        chain gives gives,
        (tt, tt),
        passes_at of_task s k id m.0 t shelf has may.live standing same,
        record { view = refl; slots = refl; logged = handed },
      ))

      two : (lane : ℕ) × (lane < t.next) × (m.1 ≡ (lanes, Shelf shelf) ∷ (lane, Empty) ∷ []) → F lanes m.1
      two e = subst (F lanes) (sym e.2) (subst (λ (n : ℕ). F n ((n, Shelf shelf) ∷ (e.0, Empty) ∷ [])) lanes_are (
        after,
        chain gives gives,
        (tt, tt),
        passes_back of_task s k id m.0 t shelf e.0 Empty has may.live standing same e.1,
        record { view = refl; slots = refl; logged = handed },
      ))
