-- The code of a well-formed tree is laid as planned.
use Rattle.std.proofs.Common.{◌≡◌, ℕ, zero, suc, ◌+◌, ◌≤◌, List, [], ◌∷◌, ◌++◌, length, map, Option, Some, None, Ok, refl, sym, ap, ◌∙◌, subst, arith}
use Rattle.std.specs.Prelude.{slice_get, option_map, take, pos}
use Rattle.std.proofs.lemmas.Option.{slice_get-map}
use Rattle.al_core.specs.declared.choices.LoopInfo.{LoopInfo}
use Rattle.al_core.specs.declared.typed_tree.TFunc.{TFunc}
use Rattle.al_core.specs.declared.typed_tree.TLocal.{TLocal}
use Rattle.al_core.specs.declared.typed_tree.Typed.{Typed}
use Rattle.al_core.specs.Loops.{ForLoop, for_loops_in, PlacedLoop, placed, placed_loops, program_loops, Loop, loop_at}
use Rattle.al_rules.specs.Names.{AllOf, none, more}
use Rattle.al_rules.specs.Notes.{notes_of}
use Rattle.al_rules.specs.WellFormed.{param_kinds, IsWellFormed}
use Rattle.al_rules_laws.proofs.Logic.{some_is}
use Rattle.al_rules_laws.proofs.LoopEntries.{all_append, all_map, loop_in_place}
use Rattle.al_code.specs.declared.instructions.Instr.TheVariants as i
use Rattle.al_code.specs.declared.lowered.Code.{Code}
use Rattle.al_code_laws.specs.declared.plan.Op.TheVariants.{As}
use Rattle.al_code_laws.specs.Planned.{planned, Plan, past, Has}
use Rattle.al_code_laws.specs.Tree.{stmts_code, function_code}
use Rattle.al_code_laws.specs.Laid.{BodyLies, Laid}
use Rattle.al_code_laws.proofs.Leads.{has_front, has_back}
use Rattle.al_code_laws.proofs.Standing.{code_stands}
use Rattle.al_code.specs.Stands.{StandsFor}
use Rattle.al_lower.specs.Emits.{program_code}
use Rattle.al_lower.specs.Assembly.{code_by_plan, code_of}
use Rattle.al_lower.specs.Fine.{numbers_of}
use Rattle.al_lower.proofs.FineTrees.{numbers_append, Fitted, fitted_append, fitted_cons, fit_nothing}
use Rattle.al_lower.proofs.FineStatements.{LoopFine, stmts_fine, all_split}
use Rattle.al_lower.proofs.LoopBodies.{Way, stmts_lie}
use Rattle.al_lower.proofs.Assembled.{map_length, InOrder, Usable, has_all, functions_lie}
use Rattle.al_lower.proofs.EntriesFine.{at_index, all_by_index, of_function, loop_of_number, loops_fine, entries_at}

take_length : {A : Type 0} (n : ℕ) (xs : List A) → n ≤ length xs → length (take n xs) ≡ n
take_length zero xs h = refl
take_length (suc n) [] h = absurd (omega arith)
take_length (suc n) (x ∷ xs) h = ap suc (take_length n xs (omega arith))

map_two : {A B : Type 0} (f : A → B) (xs ys : List A) → map f (xs ++ ys) ≡ map f xs ++ map f ys
map_two f [] ys = refl
map_two f (x ∷ xs) ys = ap (λ l. f x ∷ l) (map_two f xs ys)

abbrev pub numbers_in : List PlacedLoop → List ℕ
numbers_in ls = map (λ l. l.loop.number) ls

placed_numbers : (f : TFunc) (ls : List ForLoop) → numbers_in (map (placed f) ls) ≡ map (λ l. l.number) ls
placed_numbers f [] = refl
placed_numbers f (l ∷ ls) = ap (λ ns. l.number ∷ ns) (placed_numbers f ls)

module _ (typed : Typed) (infos : List LoopInfo) (formed : IsWellFormed typed) (are : notes_of typed ≡ Ok infos) where
  params : (g : ℕ) (f : TFunc) → slice_get typed.funcs g ≡ Some f → length (param_kinds f) ≡ f.params
  params g f at = map_length (λ (v : TLocal). v.kind) (take f.params f.locals) ∙ take_length f.params f.locals (formed.funcs g f at).params

  abbrev LoopOk : PlacedLoop → Type 0
  LoopOk l = LoopFine infos l.loop

  -- what is planned for a function
  pub function_fine : (k : ℕ) (f : TFunc) → slice_get typed.funcs k ≡ Some f → AllOf (LoopFine infos) (for_loops_in f.body) → (n : ℕ)
      → Fitted typed infos f.locals (function_code f n) (for_loops_in f.body ++ [])
  function_fine k f at loops n =
      let g = formed.funcs k f at in
      fitted_append typed infos f.locals
      (stmts_fine typed infos f.locals formed.results params g.result f.body g.body loops (suc (suc n)) (suc (suc n)) (suc (suc n)))
      (fitted_cons typed infos f.locals {op = As (i.Push (pos 0))} {line = f.line} {h = 0} (tt, tt) refl
      (fitted_cons typed infos f.locals {op = As i.Return} {line = f.line} {h = 1} (tt, tt) refl (fit_nothing typed infos f.locals n)))

  pub record ProgramFine (ps : Plan) (ls : List PlacedLoop) : Type 0 where
    pub usable : AllOf (Usable typed infos) ps
    pub numbers : numbers_of ps ≡ numbers_in ls

  functions_fine : (fs : List TFunc) → AllOf (λ f. (n : ℕ) → Fitted typed infos f.locals (function_code f n) (for_loops_in f.body ++ [])) fs → (n : ℕ)
      → ProgramFine (program_code fs n) (placed_loops fs)
  functions_fine [] none n = record { usable = none; numbers = refl }
  functions_fine (f ∷ fs) (more h hs) n =
      let rest = functions_fine fs hs n in
      let own = h (past (program_code fs n) n) in
      let c = function_code f (past (program_code fs n) n) in
      record {
        usable = all_append (all_map (λ p fine. (length f.locals, fine)) own.fine) rest.usable;
        numbers = numbers_append c (program_code fs n)
            ∙ (λ j. (own.numbers ∙ map_two (λ l. l.number) (for_loops_in f.body) [] ∙ nil (map (λ l. l.number) (for_loops_in f.body))
            ∙ sym (placed_numbers f (for_loops_in f.body))) j ++ rest.numbers j)
            ∙ sym (map_two (λ l. l.loop.number) (map (placed f) (for_loops_in f.body)) (placed_loops fs));
      }
    where
      nil : (l : List ℕ) → l ++ [] ≡ l
      nil [] = refl
      nil (x ∷ l) = ap (λ l. x ∷ l) (nil l)

  abbrev pub plan : Plan
  plan = program_code typed.funcs 0

  pub all_fine : ProgramFine plan (placed_loops typed.funcs)
  unfolding program_loops
  all_fine =
      functions_fine typed.funcs
      (all_by_index typed.funcs (λ k f at n. function_fine k f at (of_function typed.funcs k f loops_ok at) n)) 0
    where
      loops_ok : AllOf LoopOk (placed_loops typed.funcs)
      loops_ok = loops_fine typed infos formed.loops are

  pub ordered : InOrder plan
  unfolding program_loops
  ordered j k at = by (slice_get (program_loops typed) j) refl at'
    where
      placed_loop : slice_get (numbers_in (program_loops typed)) j ≡ Some k
      placed_loop = ap (λ l. slice_get l j) (sym all_fine.numbers) ∙ at

      at' : option_map (λ l. l.loop.number) (slice_get (program_loops typed) j) ≡ Some k
      at' = sym (slice_get-map (λ l. l.loop.number) (program_loops typed) j) ∙ placed_loop

      by : (o : Option PlacedLoop) → slice_get (program_loops typed) j ≡ o → option_map (λ l. l.loop.number) o ≡ Some k → k ≡ j
      by None is e = absurd cc
      by (Some l) is e = sym (some_is e) ∙ loop_in_place typed formed.loops j l is

  pub has : Has (code_by_plan plan typed infos) 0 plan
  has = has_all typed infos plan ordered all_fine.usable

  -- the bodies of loops
  abbrev Lies : PlacedLoop → Type 0
  Lies l = BodyLies (code_by_plan plan typed infos) l.loop.number l.loop.body

  function_lies : (k : ℕ) (f : TFunc) → slice_get typed.funcs k ≡ Some f → AllOf (LoopFine infos) (for_loops_in f.body) → (n : ℕ)
      → Has (code_by_plan plan typed infos) n (function_code f n) → AllOf (λ l. Lies (placed f l)) (for_loops_in f.body)
  function_lies k f at loops n h =
      let g = formed.funcs k f at in
      let end = suc (suc n) in
      all_map (λ l lies. record { line = lies.line; counter = lies.counter; bound = lies.bound; after = lies.after; has = lies.lies })
      (stmts_lie (Has (code_by_plan plan typed infos)) has_way typed infos f.locals formed.results g.result f.body g.body loops (Some end) end end
      (has_front (code_by_plan plan typed infos) n (stmts_code f.body (Some end) end end)
      (planned (As (i.Push (pos 0))) f.line 0 ∷ planned (As i.Return) f.line 1 ∷ []) h))
    where
      has_way : Way (Has (code_by_plan plan typed infos))
      has_way = record {
        front = has_front (code_by_plan plan typed infos);
        back = has_back (code_by_plan plan typed infos);
        rest = λ n p ps h. h.1;
      }

  to_map : {P : PlacedLoop → Type 0} (f : TFunc) (ls : List ForLoop) → AllOf (λ l. P (placed f l)) ls → AllOf P (map (placed f) ls)
  to_map f [] none = none
  to_map f (l ∷ ls) (more h hs) = more h (to_map f ls hs)

  all_lie : (fs : List TFunc) (k : ℕ) → ((j : ℕ) (f : TFunc) → slice_get fs j ≡ Some f → slice_get typed.funcs (k + j) ≡ Some f)
      → AllOf LoopOk (placed_loops fs) → (n : ℕ) → Has (code_by_plan plan typed infos) n (program_code fs n) → AllOf Lies (placed_loops fs)
  all_lie [] k at ok n h = none
  all_lie (f ∷ fs) k at ok n h =
      let rest = program_code fs n in
      let own = function_code f (past rest n) in
      let p = all_split (map (placed f) (for_loops_in f.body)) (placed_loops fs) ok in
      let here : slice_get typed.funcs (k + 0) ≡ Some f = at 0 f refl in
      all_append
      (to_map f (for_loops_in f.body)
      (function_lies (k + 0) f here (of_placed f (for_loops_in f.body) p.0) (past rest n) (has_front (code_by_plan plan typed infos) n own rest h)))
      (all_lie fs (k + 1) (λ j g e. ap (slice_get typed.funcs) (later k j) ∙ at (suc j) g e) p.1 n (has_back (code_by_plan plan typed infos) n own rest h))
    where
      later : (k j : ℕ) → k + 1 + j ≡ k + suc j
      later k j = omega arith

      of_placed : (f : TFunc) (ls : List ForLoop) → AllOf LoopOk (map (placed f) ls) → AllOf (LoopFine infos) ls
      of_placed f [] h = none
      of_placed f (l ∷ ls) (more h hs) = more h (of_placed f ls hs)

  every_body : AllOf Lies (program_loops typed)
  unfolding program_loops
  every_body = all_lie typed.funcs 0 (λ j f e. ap (slice_get typed.funcs) (first j) ∙ e) (loops_fine typed infos formed.loops are) 0 has
    where
      first : (j : ℕ) → 0 + j ≡ j
      first j = omega arith

  body_lies : (k : ℕ) (l : Loop) → loop_at typed k ≡ Some l → BodyLies (code_by_plan plan typed infos) k l.body
  body_lies k l is =
      let h = loop_of_number typed k l is in
      let lies = at_index (program_loops typed) k h.0 every_body h.1 in
      subst (λ b. BodyLies (code_by_plan plan typed infos) k b) (sym h.2)
      (subst (λ m. BodyLies (code_by_plan plan typed infos) m h.0.loop.body) (loop_in_place typed formed.loops k h.0 h.1) lies)

  pub laid : Laid (code_of typed infos) typed
  unfolding code_of
  laid = record {
    globals = refl;
    main = refl;
    funcs = functions_lie typed infos plan ordered typed.funcs 0 has;
    loops = entries_at typed infos formed.loops are;
    bodies = body_lies;
  }

  pub stands : (code : Code) → code ≡ code_of typed infos → StandsFor code typed
  stands code is = subst (λ c. StandsFor c typed) (sym is) (code_stands (code_of typed infos) typed laid)
