-- Where there is no note fault each annotated loop has its entry and its start, and no `break` leaves it.
use Rattle.std.proofs.Common.{◌≡◌, ℕ, zero, suc, ◌+◌, ◌<◌, Bool, true, false, ◌||◌, List, [], ◌∷◌, length, map, Option, Some, None, Ok, refl, sym, ap, ◌∙◌, subst, zero-add, arith}
use Rattle.std.specs.Prelude.{slice_get, option_map}
use Rattle.std.specs.List.{list_any}
use Rattle.std.proofs.lemmas.Option.{slice_get_within}
use Rattle.al_core.specs.declared.choices.LoopInfo.{LoopInfo}
use Rattle.al_core.specs.declared.typed_tree.TFunc.{TFunc}
use Rattle.al_core.specs.declared.typed_tree.TNote.{TNote}
use Rattle.al_core.specs.declared.typed_tree.TStmt.{TStmt}
use Rattle.al_core.specs.declared.typed_tree.Typed.{Typed}
use Rattle.al_core.specs.Loops.{for_loops_in, PlacedLoop, placed, placed_loops, program_loops, Start, start_of, bound_of, Loop, started_loop, noted_loop, loop_at}
use Rattle.al_rules.specs.declared.faults.NoteKind.{NoteKind}
use Rattle.al_rules.specs.declared.faults.NoteKind.TheVariants.{IndexChanges, BoundChanges, Leaves, ReductionName, ReductionAddress, ReductionUsed}
use Rattle.al_rules.specs.Names.{AllOf, none, more}
use Rattle.al_rules.specs.Bodies.{assigns, assigns_bound, has_return, has_break, is_taken, is_misused}
use Rattle.al_rules.specs.Notes.{stand_twice, is_counter_or_bound, first_kind, wrong_in, notes_of}
use Rattle.al_rules.specs.WellFormed.{loops_from, notes_from}
use Rattle.al_rules_laws.proofs.Logic.{some_is}
use Rattle.al_rules_laws.proofs.LoopEntries.{EntryOf, EntriesOf, entries_are, numbered_length, numbered_at, as_many_loops, loop_in_place, loop_there}
use Rattle.al_lower.proofs.FineStatements.{LoopFine, all_split}

pub all_by_index : {A : Type 0} {P : A → Type 0} (xs : List A) → ((n : ℕ) (x : A) → slice_get xs n ≡ Some x → P x) → AllOf P xs
all_by_index [] h = none
all_by_index (x ∷ xs) h = more (h 0 x refl) (all_by_index xs (λ n y at. h (suc n) y at))

pub at_index : {A : Type 0} {P : A → Type 0} (xs : List A) (n : ℕ) (x : A) → AllOf P xs → slice_get xs n ≡ Some x → P x
at_index {P = P} (y ∷ xs) zero x (more h hs) at = subst P (some_is at) h
at_index (y ∷ xs) (suc n) x (more h hs) at = at_index xs n x hs at
at_index [] n x hs at = absurd cc

pub at_least : {A : Type 0} (xs : List A) (n : ℕ) → n < length xs → (x : A) × (slice_get xs n ≡ Some x)
at_least [] n h = absurd (omega arith)
at_least (x ∷ xs) zero h = (x, refl)
at_least (x ∷ xs) (suc n) h = at_least xs n (omega arith)

of_map : {A B : Type 0} {P : B → Type 0} (f : A → B) (xs : List A) → AllOf P (map f xs) → AllOf (λ a. P (f a)) xs
of_map f [] h = none
of_map f (x ∷ xs) (more h hs) = more h (of_map f xs hs)

-- what holds of all loops holds of those of each function
pub of_function : {P : PlacedLoop → Type 0} (fs : List TFunc) (k : ℕ) (f : TFunc) → AllOf P (placed_loops fs) → slice_get fs k ≡ Some f
    → AllOf (λ l. P (placed f l)) (for_loops_in f.body)
of_function [] k f h at = absurd cc
of_function {P = P} (g ∷ fs) zero f h at =
    subst (λ f. AllOf (λ l. P (placed f l)) (for_loops_in f.body)) (some_is at)
    (of_map (placed g) (for_loops_in g.body) (all_split (map (placed g) (for_loops_in g.body)) (placed_loops fs) h).0)
of_function (g ∷ fs) (suc k) f h at = of_function fs k f (all_split (map (placed g) (for_loops_in g.body)) (placed_loops fs) h).1 at

-- the third test fails where all do
third_test : (a b c : Bool) (x y z : NoteKind) (rest : List (Bool × NoteKind)) → first_kind ((a, x) ∷ (b, y) ∷ (c, z) ∷ rest) ≡ None → c ≡ false
third_test true b c x y z rest e = absurd cc
third_test false true c x y z rest e = absurd cc
third_test false false true x y z rest e = absurd cc
third_test false false false x y z rest e = refl

second_false : (a b : Bool) → (a || b) ≡ false → b ≡ false
second_false true b e = absurd cc
second_false false b e = e

-- a loop that nothing is wrong in is left by no `break`
no_break_in : (typed : Typed) (info : LoopInfo) (body : TStmt) → wrong_in typed info body ≡ None → has_break body ≡ false
no_break_in typed info body e =
    second_false (has_return body) (has_break body)
    (third_test (assigns info.counter body) (assigns_bound info.bound body) (has_return body || has_break body) IndexChanges BoundChanges Leaves
    ((stand_twice info.own.reds || list_any (λ r. is_counter_or_bound info r.at) info.own.reds, ReductionName)
    ∷ (list_any (λ r. is_taken typed r.at) info.own.reds, ReductionAddress)
    ∷ (list_any (λ r. is_misused typed body r.op r.at) info.own.reds, ReductionUsed) ∷ []) e)

record Started (l : PlacedLoop) (loop : Loop) : Type 0 where
  start : Start
  starts : start_of l.loop.first ≡ Some start
  counts : loop.info.counter ≡ start.counter
  bounds : loop.info.bound ≡ bound_of l.loop.test
  body : loop.body ≡ l.loop.body

started : (n : ℕ) (note : TNote) (l : PlacedLoop) (loop : Loop) (o : Option Start) → start_of l.loop.first ≡ o → started_loop n note l o ≡ Some loop
    → Started l loop
started n note l loop None is e = absurd cc
started n note l loop (Some start) is e = subst (Started l) (some_is e) (record { start = start; starts = is; counts = refl; bounds = refl; body = refl })

noted : (n : ℕ) (m : Option TNote) (o : Option PlacedLoop) (l : PlacedLoop) (loop : Loop) → o ≡ Some l → noted_loop n m o ≡ Some loop → Started l loop
noted n None o l loop is e = absurd (none_some e)
  where
    none_some : noted_loop n None o ≡ Some loop → ⊥
    none_some e = absurd cc
noted n (Some note) None l loop is e = absurd cc
noted n (Some note) (Some q) l loop is e =
    let same : q ≡ l = some_is is in
    subst (λ q. Started q loop) same (started n note q loop (start_of q.loop.first) refl e)

-- a loop of a number is the one at its place
pub loop_of_number : (typed : Typed) (k : ℕ) (loop : Loop) → loop_at typed k ≡ Some loop
    → (l : PlacedLoop) × (slice_get (program_loops typed) k ≡ Some l) × (loop.body ≡ l.loop.body)
loop_of_number typed k loop e = by (slice_get (program_loops typed) k) refl e
  where
    by : (o : Option PlacedLoop) → slice_get (program_loops typed) k ≡ o → noted_loop k (slice_get typed.loops k) o ≡ Some loop
        → (l : PlacedLoop) × (slice_get (program_loops typed) k ≡ Some l) × (loop.body ≡ l.loop.body)
    by None is e = absurd (nowhere (slice_get typed.loops k) e)
      where
        nowhere : (m : Option TNote) → noted_loop k m None ≡ Some loop → ⊥
        nowhere None e = absurd cc
        nowhere (Some note) e = absurd cc
    by (Some l) is e = (l, is, (noted k (slice_get typed.loops k) (Some l) l loop refl e).body)

module _ (typed : Typed) (infos : List LoopInfo) (loops : loops_from 0 typed.funcs ≡ notes_from 0 typed.loops) (are : notes_of typed ≡ Ok infos) where
  entries : EntriesOf typed 0 (0 + length typed.loops) infos
  entries = entries_are typed infos loops are

  pub as_many : length infos ≡ length typed.loops
  as_many = sym (zero-add (length infos)) ∙ numbered_length entries.numbered ∙ zero-add (length typed.loops)

  pub number_is : (n : ℕ) (info : LoopInfo) → slice_get infos n ≡ Some info → info.number ≡ n
  number_is n info at = numbered_at infos n info entries.numbered at ∙ zero-add n

  pub entry_of : (n : ℕ) (info : LoopInfo) → slice_get infos n ≡ Some info → EntryOf typed info
  entry_of n info at = at_index infos n info entries.each at

  fine_at : (n : ℕ) (l : PlacedLoop) → slice_get (program_loops typed) n ≡ Some l → LoopFine infos l.loop
  fine_at n l at =
      let some = as_many_loops typed loops in
      let within = slice_get_within (program_loops typed) n l at in
      let many = as_many in
      let there = at_least infos n (omega arith) in
      let e = entry_of n there.0 there.1 in
      let number = number_is n there.0 there.1 in
      let same : e.loop ≡ l = some_is (sym e.there ∙ ap (slice_get (program_loops typed)) number ∙ at) in
      let s = noted there.0.number (slice_get typed.loops there.0.number) (slice_get (program_loops typed) there.0.number) e.loop _ e.there
      (loop_there typed there.0 e) in
      let place = loop_in_place typed loops n l at in
      let fine : LoopFine infos e.loop.loop = record {
        info = there.0;
        has = ap (slice_get infos) (ap (λ (l : PlacedLoop). l.loop.number) same ∙ place) ∙ there.1;
        start = s.start;
        starts = s.starts;
        counts = s.counts;
        bounds = s.bounds;
        no_break = no_break_in typed there.0 e.loop.loop.body e.right;
      } in
      subst (λ (l : PlacedLoop). LoopFine infos l.loop) same fine

  -- every loop is fine
  pub loops_fine : AllOf (λ l. LoopFine infos l.loop) (program_loops typed)
  loops_fine = all_by_index (program_loops typed) fine_at

  -- the entries are those of the tree
  pub entries_at : (k : ℕ) → slice_get infos k ≡ option_map (λ l. l.info) (loop_at typed k)
  entries_at k = by (slice_get infos k) refl
    where
      by : (o : Option LoopInfo) → slice_get infos k ≡ o → o ≡ option_map (λ l. l.info) (loop_at typed k)
      by (Some info) is =
          sym (ap (λ n. option_map (λ l. l.info) (loop_at typed n)) (sym (number_is k info is))
          ∙ ap (option_map (λ l. l.info)) (loop_there typed info (entry_of k info is)))
      by None is = sym (ap (option_map (λ l. l.info)) (none_at (slice_get typed.loops k) refl))
        where
          none_at : (m : Option TNote) → slice_get typed.loops k ≡ m → noted_loop k m (slice_get (program_loops typed) k) ≡ None
          none_at None at = refl
          none_at (Some note) at =
              let within = slice_get_within typed.loops k note at in
              let many = as_many in
              let there = at_least infos k (omega arith) in
              absurd (both (sym is ∙ there.1))
            where
              both : {info : LoopInfo} → ◌≡◌ {A = Option LoopInfo} None (Some info) → ⊥
              both e = absurd cc
