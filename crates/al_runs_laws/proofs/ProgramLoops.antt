-- The annotated loops of a program: each stands in the function that its note names, and its body is well formed there.
use Rattle.std.proofs.Common.{◌≡◌, ℕ, zero, suc, ◌+◌, List, [], ◌∷◌, ◌++◌, map, length, Option, Some, None, true, false, refl, sym, ap, subst, ◌∙◌, arith, add-zero, zero-add}
use Rattle.std.specs.Prelude.{slice_get, ℤ}
use Rattle.std.specs.List.{AllByRecursion}
use Rattle.al_core.specs.declared.values.Kind.{Kind}
use Rattle.al_core.specs.declared.typed_tree.TFunc.{TFunc}
use Rattle.al_core.specs.declared.typed_tree.TNote.{TNote}
use Rattle.al_core.specs.declared.typed_tree.Typed.{Typed}
use Rattle.al_core.specs.Accepted.{terms_of}
use Rattle.al_core.specs.Loops.{ForLoop, for_loops_in, PlacedLoop, placed, placed_loops, program_loops, Start, start_of, Loop, started_loop, noted_loop, loop_at}
use Rattle.al_core.specs.Meaning.{body_of}
use Rattle.al_laws.proofs.Words.{same_some, some_none}
use Rattle.al_rules.specs.WellFormed.{Standing, counted_all, loops_from, notes_from}
use Rattle.al_rules_laws.proofs.TreeLoops.{Stand, none, more, loops_stand, StandIn, nothing, one, program_stands}
use Rattle.al_graded_laws.specs.Rules.{stmt_obeys, stmts_obey}
use Rattle.al_graded_laws.specs.InRange.{in_range}
use Rattle.al_kinds_laws.specs.Programs.{IsProgram}
use Rattle.al_kinds_laws.proofs.WholeTerms.{whole_terms}
use Rattle.al_kinds_laws.proofs.LoopBodies.{GoodBody, GoodLoops, good_loops}
use Rattle.al_kinds_laws.proofs.KindedIterations.{rules, results}
use Rattle.al_kinds_laws.proofs.Taking.{functions_obey}

-- ---- lists

each_left : {X : Type 0} (P : X → Type 0) (xs ys : List X) → AllByRecursion P (xs ++ ys) → AllByRecursion P xs
each_left P [] ys h = tt
each_left P (x ∷ xs) ys h = (h.0, each_left P xs ys h.1)

each_right : {X : Type 0} (P : X → Type 0) (xs ys : List X) → AllByRecursion P (xs ++ ys) → AllByRecursion P ys
each_right P [] ys h = h
each_right P (x ∷ xs) ys h = each_right P xs ys h.1

each_both : {X : Type 0} (P : X → Type 0) (xs ys : List X) → AllByRecursion P xs → AllByRecursion P ys → AllByRecursion P (xs ++ ys)
each_both P [] ys h k = k
each_both P (x ∷ xs) ys h k = (h.0, each_both P xs ys h.1 k)

each_at : {X : Type 0} (P : X → Type 0) (xs : List X) (i : ℕ) (x : X) → AllByRecursion P xs → slice_get xs i ≡ Some x → P x
each_at P [] i x h e = absurd (some_none x (sym e))
each_at P (y ∷ xs) zero x h e = subst P (same_some y x e) h.0
each_at P (y ∷ xs) (suc i) x h e = each_at P xs i x h.1 e

-- ---- the function of each loop

module _ (typed : Typed) where
  -- there is a note at the loop's number, and it names the function
  abbrev Told : Standing → Type 0
  Told st = (note : TNote) × (slice_get typed.loops st.number ≡ Some note) × (note.func ≡ st.func)

  notes_told : (n : ℕ) (notes : List TNote) → ((k : ℕ) (x : TNote) → slice_get notes k ≡ Some x → slice_get typed.loops (n + k) ≡ Some x)
      → AllByRecursion Told (notes_from n notes)
  notes_told n [] h = tt
  notes_told n (note ∷ notes) h = (
    (note, ap (slice_get typed.loops) (omega arith) ∙ h 0 note refl, refl),
    notes_told (n + 1) notes (λ k x e. ap (slice_get typed.loops) (omega arith) ∙ h (suc k) x e),
  )

  told_at : (n k : ℕ) (fs : List TFunc) (f : TFunc) → slice_get fs k ≡ Some f → AllByRecursion Told (loops_from n fs)
      → AllByRecursion Told ((counted_all (n + k) f.body).loops f.params)
  told_at n k [] f at t = absurd (some_none f (sym at))
  told_at n zero (g ∷ fs) f at t =
      subst (λ (h : TFunc). AllByRecursion Told ((counted_all (n + 0) h.body).loops h.params)) (same_some g f at)
      (subst (λ m. AllByRecursion Told ((counted_all m g.body).loops g.params)) (sym (add-zero n))
      (each_left Told ((counted_all n g.body).loops g.params) (loops_from (n + 1) fs) t))
  told_at n (suc k) (g ∷ fs) f at t =
      let later : n + 1 + k ≡ n + suc k = omega arith in
      subst (λ m. AllByRecursion Told ((counted_all m f.body).loops f.params)) later
      (told_at (n + 1) k fs f at (each_right Told ((counted_all n g.body).loops g.params) (loops_from (n + 1) fs) t))

  -- a loop of this number stands in this function
  abbrev pub Stands : ℕ → ℕ → Type 0
  Stands f number = (l : Loop) → loop_at typed number ≡ Some l → l.info.func ≡ f

  func_of : (n : ℕ) (note : TNote) (p : Option PlacedLoop) (l : Loop) → noted_loop n (Some note) p ≡ Some l → l.info.func ≡ note.func
  func_of n note None l e = absurd (some_none l (sym e))
  func_of n note (Some p) l e = by_start (start_of p.loop.first) e
    where
      by_start : (s : Option Start) → started_loop n note p s ≡ Some l → l.info.func ≡ note.func
      by_start (Some s) e = ap (λ z. z.info.func) (sym (same_some _ l e))
      by_start None e = absurd (some_none l (sym e))

  stands_by : (f : ℕ) (st : Standing) → Told st → st.func ≡ f → Stands f st.number
  stands_by f st told is l e =
      func_of st.number told.0 (slice_get (program_loops typed) st.number) l
      (ap (λ z. noted_loop st.number z (slice_get (program_loops typed) st.number)) (sym told.1) ∙ e)
      ∙ told.2 ∙ is

  all_stand : (f : ℕ) {sts : List Standing} {ls : List ForLoop} → Stand f sts ls → AllByRecursion Told sts → AllByRecursion (λ l. Stands f l.number) ls
  all_stand f none t = tt
  all_stand f (more {st = st} e is p) t = (subst (Stands f) e (stands_by f st t.0 is), all_stand f p t.1)

  -- the loops of a function
  pub function_loops : loops_from 0 typed.funcs ≡ notes_from 0 typed.loops → (f : ℕ) (func : TFunc) → slice_get typed.funcs f ≡ Some func
      → AllByRecursion (λ l. Stands f l.number) (for_loops_in func.body)
  function_loops loops f func at =
      let told = notes_told 0 typed.loops (λ k x e. ap (slice_get typed.loops) (zero-add k) ∙ e) in
      let here = told_at 0 f typed.funcs func at (subst (AllByRecursion Told) (sym loops) told) in
      all_stand f (loops_stand f func.body func.params)
      (subst (λ m. AllByRecursion Told ((counted_all m func.body).loops func.params)) (zero-add f) here)

-- ---- the loop of a number

module _ (typed : Typed) (input : List ℤ) (p : IsProgram typed input) where
  -- what is known of a loop where it stands
  pub record LoopFacts (l : Loop) : Type 0 where
    pub func : TFunc
    pub stands : slice_get typed.funcs l.info.func ≡ Some func
    pub locals : l.locals ≡ length func.locals
    pub result : Option Kind
    pub kinded : GoodBody typed (results typed input p) func.locals result (rules typed input p) l.body
    pub ranged : stmt_obeys in_range l.body ≡ true

  -- a loop in its function
  record PlacedFacts (l : PlacedLoop) : Type 0 where
    pub result : Option Kind
    pub kinded : GoodBody typed (results typed input p) l.func.locals result (rules typed input p) l.loop.body
    pub ranged : stmt_obeys in_range l.loop.body ≡ true

  both_facts : (func : TFunc) (result : Option Kind) (ls : List ForLoop) → GoodLoops typed (results typed input p) func.locals result (rules typed input p) ls
      → GoodLoops typed (results typed input p) func.locals result in_range ls → AllByRecursion PlacedFacts (map (placed func) ls)
  both_facts func result [] h k = tt
  both_facts func result (l ∷ ls) h k = (record { result = result; kinded = h.0; ranged = k.0.obeys }, both_facts func result ls h.1 k.1)

  of_function : (f : ℕ) (func : TFunc) → slice_get typed.funcs f ≡ Some func → AllByRecursion PlacedFacts (map (placed func) (for_loops_in func.body))
  of_function f func at =
      let k = p.formed.funcs f func at in
      let o = ap (λ g. stmts_obey in_range (body_of g)) (sym at) ∙ p.numbers.code f in
      let u = whole_terms typed (terms_of func.body) (p.whole f func at) in
      both_facts func k.result (for_loops_in func.body)
      (good_loops typed (results typed input p) func.locals k.result (rules typed input p) func.body false k.body (functions_obey typed f func at o) u)
      (good_loops typed (results typed input p) func.locals k.result in_range func.body false k.body o u)

  of_functions : (n : ℕ) (fs : List TFunc) → ((k : ℕ) (g : TFunc) → slice_get fs k ≡ Some g → slice_get typed.funcs (n + k) ≡ Some g)
      → AllByRecursion PlacedFacts (placed_loops fs)
  of_functions n [] h = tt
  of_functions n (f ∷ fs) h =
      each_both PlacedFacts (map (placed f) (for_loops_in f.body)) (placed_loops fs) (of_function (n + 0) f (h 0 f refl))
      (of_functions (suc n) fs (λ k g e. ap (slice_get typed.funcs) (omega arith) ∙ h (suc k) g e))

  all_placed : AllByRecursion PlacedFacts (program_loops typed)
  unfolding program_loops
  all_placed = of_functions 0 typed.funcs (λ k g e. ap (slice_get typed.funcs) (zero-add k) ∙ e)

  -- the note at a loop's place names its function
  note_names : (n : ℕ) (notes : List TNote) (ls : List PlacedLoop) → StandIn typed (notes_from n notes) ls → (k : ℕ) (note : TNote) (l : PlacedLoop)
      → slice_get notes k ≡ Some note → slice_get ls k ≡ Some l → slice_get typed.funcs note.func ≡ Some l.func
  note_names n [] _ nothing k note l e i = absurd (some_none note (sym e))
  note_names n (a ∷ notes) _ (one {l = b} {ls = ls} m at s) zero note l e i =
      ap (λ z. slice_get typed.funcs z.func) (sym (same_some a note e)) ∙ at ∙ ap (λ z. Some z.func) (same_some b l i)
  note_names n (a ∷ notes) _ (one {l = b} {ls = ls} m at s) (suc k) note l e i = note_names (n + 1) notes ls s k note l e i

  names_function : (k : ℕ) (note : TNote) (l : PlacedLoop) → slice_get typed.loops k ≡ Some note → slice_get (program_loops typed) k ≡ Some l
      → slice_get typed.funcs note.func ≡ Some l.func
  names_function =
      note_names 0 typed.loops (program_loops typed) (subst (λ sts. StandIn typed sts (program_loops typed)) p.formed.loops (program_stands typed))

  facts_by : (n : ℕ) (note : Option TNote) (q : Option PlacedLoop) (l : Loop) → slice_get typed.loops n ≡ note → slice_get (program_loops typed) n ≡ q
      → noted_loop n note q ≡ Some l → LoopFacts l
  facts_by n (Some note) (Some q) l i j e = by_start (start_of q.loop.first) e
    where
      by_start : (s : Option Start) → started_loop n note q s ≡ Some l → LoopFacts l
      by_start (Some s) e =
          let f = each_at PlacedFacts (program_loops typed) n q all_placed j in
          subst LoopFacts (same_some _ l e) (record {
            func = q.func;
            stands = names_function n note q i j;
            locals = refl;
            result = f.result;
            kinded = f.kinded;
            ranged = f.ranged;
          })
      by_start None e = absurd (some_none l (sym e))
  facts_by n (Some note) None l i j e = absurd (some_none l (sym e))
  facts_by n None q l i j e = by_none q e
    where
      by_none : (q : Option PlacedLoop) → noted_loop n None q ≡ Some l → LoopFacts l
      by_none None e = absurd (some_none l (sym e))
      by_none (Some q) e = absurd (some_none l (sym e))

  pub loop_facts : (number : ℕ) (l : Loop) → loop_at typed number ≡ Some l → LoopFacts l
  loop_facts number l e = facts_by number (slice_get typed.loops number) (slice_get (program_loops typed) number) l refl refl e
