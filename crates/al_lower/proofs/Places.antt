-- Where the functions and the annotated loops of a well-formed tree lie in its code.
use Rattle.std.proofs.Common.{◌≡◌, ℕ, zero, suc, ◌+◌, ◌-◌, ◌<◌, ◌≤◌, List, [], ◌∷◌, ◌++◌, length, map, Some, Ok, refl, sym, ap, ◌∙◌, subst, append_assoc, length-append, ⊎_elim, arith}
use Rattle.std.specs.Prelude.{slice_get, pos}
use Rattle.std.proofs.lemmas.Bool.{cases_lt}
use Rattle.al_core.specs.declared.choices.LoopInfo.{LoopInfo}
use Rattle.al_core.specs.declared.typed_tree.TFunc.{TFunc}
use Rattle.al_core.specs.declared.typed_tree.TNote.{TNote}
use Rattle.al_core.specs.declared.typed_tree.Typed.{Typed}
use Rattle.al_core.specs.Loops.{ForLoop, for_loops_in, PlacedLoop, placed, placed_loops, program_loops}
use Rattle.al_rules.specs.Names.{AllOf, none, more}
use Rattle.al_rules.specs.Notes.{notes_of}
use Rattle.al_rules.specs.WellFormed.{Standing, IsWellFormed}
use Rattle.al_rules_laws.proofs.Logic.{some_is}
use Rattle.al_rules_laws.proofs.LoopEntries.{all_append, all_map, Told, told_at, all_loops_told}
use Rattle.al_rules_laws.proofs.TreeLoops.{Stand, loops_stand}
use Rattle.al_rules_laws.proofs.TreeLoops as tree
use Rattle.al_code.specs.declared.instructions.Instr.TheVariants as i
use Rattle.al_code.specs.declared.lowered.Code.{Code}
use Rattle.al_code.specs.declared.lowered.Entry.{Entry}
use Rattle.al_code_laws.specs.declared.plan.Op.TheVariants.{As}
use Rattle.al_code_laws.specs.Planned.{planned, Plan, past, place_of, Has}
use Rattle.al_code_laws.specs.Tree.{stmts_code, function_code}
use Rattle.al_code_laws.proofs.Leads.{past_append, has_front, has_back}
use Rattle.al_lower.specs.Emits.{program_code}
use Rattle.al_lower.specs.Assembly.{entries_from_end, turned, code_by_plan}
use Rattle.al_lower.proofs.Assembled.{get_seam, past_length, size}
use Rattle.al_lower.proofs.EntriesFine.{of_function, loops_fine}
use Rattle.al_lower.proofs.LoopBodies.{Way, LoopLies, stmts_lie}
use Rattle.al_lower.proofs.Laying as laying
use Rattle.al_lower.proofs.SoundPlaces.{past_grows}

all_both : {A : Type 0} {P Q : A → Type 0} {xs : List A} → AllOf P xs → AllOf Q xs → AllOf (λ x. P x × Q x) xs
all_both none none = none
all_both (more p ps) (more q qs) = more (p, q) (all_both ps qs)

has_within : (code : Code) (n : ℕ) (ps : Plan) → n ≤ length code.instrs → Has code n ps → past ps n ≤ length code.instrs
has_within code n [] h has = h
has_within code n (p ∷ ps) h has = has.0.within

module _ (typed : Typed) (infos : List LoopInfo) (formed : IsWellFormed typed) (are : notes_of typed ≡ Ok infos) where
  abbrev pub plan : Plan
  plan = program_code typed.funcs 0

  abbrev pub code : Code
  code = code_by_plan plan typed infos

  has_all : Has code 0 plan
  has_all = laying.has typed infos formed are

  pub size_is : length code.instrs ≡ length plan
  size_is = size typed infos plan (laying.ordered typed infos formed are)

  -- what stands in the plan
  abbrev pub InPlan : ℕ → Plan → Type 0
  InPlan n [] = Unit {0}
  InPlan n (p ∷ ps) = (slice_get plan (length plan - suc (past ps n)) ≡ Some p) × InPlan n ps

  in_front : (n : ℕ) (a b : Plan) → InPlan n (a ++ b) → InPlan (past b n) a
  in_front n [] b h = tt
  in_front n (p ∷ a) b h = (subst (λ m. slice_get plan (length plan - suc m) ≡ Some p) (past_append a b n) h.0, in_front n a b h.1)

  in_back : (n : ℕ) (a b : Plan) → InPlan n (a ++ b) → InPlan n b
  in_back n [] b h = h
  in_back n (p ∷ a) b h = in_back n a b h.1

  in_plan_from : (pre ps : Plan) → pre ++ ps ≡ plan → InPlan 0 ps
  in_plan_from pre [] is = tt
  in_plan_from pre (p ∷ ps) is =
      let l = ap length is in
      let m = length-append pre (p ∷ ps) in
      let at : length plan - suc (past ps 0) ≡ length pre = omega (arith, past_length ps) in (
        ap (slice_get plan) at ∙ ap (λ l. slice_get l (length pre)) (sym is) ∙ get_seam pre p ps,
        in_plan_from (pre ++ p ∷ []) ps (append_assoc pre (p ∷ []) ps ∙ is),
      )

  -- ---- functions

  -- a function's code lies here
  pub record At (g : ℕ) (f : TFunc) : Type 0 where
    pub func : slice_get typed.funcs g ≡ Some f
    pub after : ℕ
    pub has : Has code after (function_code f after)
    pub in_plan : InPlan after (function_code f after)
    pub e : Entry
    pub entry : slice_get code.funcs g ≡ Some e
    pub starts : e.start ≡ place_of code (past (function_code f after) after)
    pub ends : e.end ≡ place_of code after
    pub params : e.params ≡ f.params
    pub locals : e.locals ≡ length f.locals

  abbrev pub top : {g : ℕ} {f : TFunc} → At g f → ℕ
  top {f = f} a = past (function_code f a.after) a.after

  pub top_within : {g : ℕ} {f : TFunc} (a : At g f) → (a.after < length code.instrs) × (top a ≤ length code.instrs)
  top_within {f = f} a =
      let end = suc (suc a.after) in
      let work = stmts_code f.body (Some end) end end in
      let tail = planned (As (i.Push (pos 0))) f.line 0 ∷ planned (As i.Return) f.line 1 ∷ [] in
      let last = (has_back code a.after work tail a.has).1.0.within in
      (last, has_within code a.after (function_code f a.after) (omega arith) a.has)

  abbrev Entries : List TFunc → ℕ → ℕ → Type 0
  Entries fs k n = (j : ℕ) (e : Entry) → slice_get (map (turned (length plan)) (entries_from_end fs n)) j ≡ Some e → slice_get code.funcs (k + j) ≡ Some e

  abbrev Funcs : List TFunc → ℕ → Type 0
  Funcs fs k = (j : ℕ) (f : TFunc) → slice_get fs j ≡ Some f → slice_get typed.funcs (k + j) ≡ Some f

  later : (k j : ℕ) → k + 1 + j ≡ k + suc j
  later k j = omega arith

  first_at : (f : TFunc) (fs : List TFunc) (k n : ℕ) → Funcs (f ∷ fs) k → Entries (f ∷ fs) k n → Has code n (program_code (f ∷ fs) n)
      → InPlan n (program_code (f ∷ fs) n) → At (k + 0) f
  first_at f fs k n funcs entries has in_plan =
      let rest = program_code fs n in
      let own = function_code f (past rest n) in
      let s = size_is in
      record {
        func = funcs 0 f refl;
        after = past rest n;
        has = has_front code n own rest has;
        in_plan = in_front n own rest in_plan;
        e = turned (length plan) (record { start = past (own ++ rest) n; end = past rest n; params = f.params; locals = length f.locals });
        entry = entries 0 _ refl;
        starts = ap (λ m. m - past (own ++ rest) n) (sym s) ∙ ap (place_of code) (past_append own rest n);
        ends = ap (λ m. m - past rest n) (sym s);
        params = refl;
        locals = refl;
      }

  functions_at : (fs : List TFunc) (k n : ℕ) → Funcs fs k → Entries fs k n → Has code n (program_code fs n) → InPlan n (program_code fs n)
      → (j : ℕ) (f : TFunc) → slice_get fs j ≡ Some f → At (k + j) f
  functions_at [] k n funcs entries has in_plan j f at = absurd cc
  functions_at (g ∷ fs) k n funcs entries has in_plan zero f at = subst (At (k + 0)) (some_is at) (first_at g fs k n funcs entries has in_plan)
  functions_at (g ∷ fs) k n funcs entries has in_plan (suc j) f at =
      let rest = program_code fs n in
      let own = function_code g (past rest n) in
      subst (λ m. At m f) (later k j)
      (functions_at fs (k + 1) n (λ j f at. ap (slice_get typed.funcs) (later k j) ∙ funcs (suc j) f at)
      (λ j e at. ap (slice_get code.funcs) (later k j) ∙ entries (suc j) e at) (has_back code n own rest has) (in_back n own rest in_plan) j f at)

  first : (j : ℕ) → 0 + j ≡ j
  first j = omega arith

  pub function_at : (g : ℕ) (f : TFunc) → slice_get typed.funcs g ≡ Some f → At g f
  function_at g f at =
      subst (λ m. At m f) (first g)
      (functions_at typed.funcs 0 0 (λ j f at. ap (slice_get typed.funcs) (first j) ∙ at) (λ j e at. ap (slice_get code.funcs) (first j) ∙ at)
      has_all (in_plan_from [] plan refl) g f at)

  -- every place lies in a function
  pub record Covered (r : ℕ) : Type 0 where
    pub g : ℕ
    pub f : TFunc
    pub a : At g f
    pub above : a.after ≤ r
    pub below : r < top a

  covers : (fs : List TFunc) (k n : ℕ) → Funcs fs k → Entries fs k n → Has code n (program_code fs n) → InPlan n (program_code fs n)
      → (r : ℕ) → n ≤ r → r < past (program_code fs n) n → Covered r
  unfolding first_at
  covers [] k n funcs entries has in_plan r lo hi = absurd (omega arith)
  covers (f ∷ fs) k n funcs entries has in_plan r lo hi =
      let rest = program_code fs n in
      let own = function_code f (past rest n) in
      let whole = past_append own rest n in
      let here = first_at f fs k n funcs entries has in_plan in
      let inside : r < past own (past rest n) = subst (λ m. r < m) whole hi in
      ⊎_elim
      (λ lt. covers fs (k + 1) n (λ j f at. ap (slice_get typed.funcs) (later k j) ∙ funcs (suc j) f at)
      (λ j e at. ap (slice_get code.funcs) (later k j) ∙ entries (suc j) e at) (has_back code n own rest has) (in_back n own rest in_plan) r lo lt)
      (λ le. record { g = k + 0; f = f; a = here; above = le; below = inside })
      (cases_lt r (past rest n))

  pub covered : (r : ℕ) → r < length code.instrs → Covered r
  covered r lt =
      covers typed.funcs 0 0 (λ j f at. ap (slice_get typed.funcs) (first j) ∙ at) (λ j e at. ap (slice_get code.funcs) (first j) ∙ at)
      has_all (in_plan_from [] plan refl) r (omega arith) (omega (arith, size_is, past_length plan))

  -- ---- loops

  -- what lies in a function's code
  abbrev pub Inside : {g : ℕ} {f : TFunc} → At g f → ℕ → Plan → Type 0
  Inside a n ps = Has code n ps × InPlan n ps × (a.after ≤ n) × (past ps n ≤ top a)

  inside_way : {g : ℕ} {f : TFunc} (a : At g f) → Way (Inside a)
  inside_way a = record {
    front = λ n x y h.
        let whole = past_append x y n in
        let grows = past_grows y n in
        let lo = h.2 in
        let hi = h.3 in
        (has_front code n x y h.0, in_front n x y h.1, omega arith, omega arith);
    back = λ n x y h.
        let whole = past_append x y n in
        let grows = past_grows x (past y n) in
        let hi = h.3 in
        (has_back code n x y h.0, in_back n x y h.1, h.2, omega arith);
    rest = λ n p ps h. let hi = h.3 in (h.0.1, h.1.1, h.2, omega arith);
  }

  pub record LoopPlace (l : PlacedLoop) : Type 0 where
    pub g : ℕ
    pub a : At g l.func
    pub lies : LoopLies (Inside a) l.loop
    pub note : TNote
    pub noted : slice_get typed.loops l.loop.number ≡ Some note
    pub named : note.func ≡ g

  abbrev ToldLoop : ℕ → ForLoop → Type 0
  ToldLoop g l = (note : TNote) × (slice_get typed.loops l.number ≡ Some note) × (note.func ≡ g)

  told_loops : {g : ℕ} {sts : List Standing} {ls : List ForLoop} → Stand g sts ls → AllOf (Told typed) sts → AllOf (ToldLoop g) ls
  told_loops tree.none none = none
  told_loops (tree.more same f p) (more h hs) = more (h.0, subst (λ n. slice_get typed.loops n ≡ Some h.0) same h.1, h.2 ∙ f) (told_loops p hs)

  function_places : (g : ℕ) (f : TFunc) → slice_get typed.funcs g ≡ Some f → AllOf (λ l. LoopPlace (placed f l)) (for_loops_in f.body)
  unfolding program_loops
  function_places g f at =
      let a = function_at g f at in
      let w = formed.funcs g f at in
      let end = suc (suc a.after) in
      let work = stmts_code f.body (Some end) end end in
      let tail = planned (As (i.Push (pos 0))) f.line 0 ∷ planned (As i.Return) f.line 1 ∷ [] in
      let fine = of_function typed.funcs g f (loops_fine typed infos formed.loops are) at in
      let whole : Inside a a.after (function_code f a.after) = (a.has, a.in_plan, omega arith, omega arith) in
      let lies = stmts_lie (Inside a) (inside_way a) typed infos f.locals formed.results w.result f.body w.body fine (Some end) end end
      ((inside_way a).front a.after work tail whole) in
      let told = told_loops (loops_stand (0 + g) f.body f.params) (told_at typed 0 g typed.funcs f at (all_loops_told typed formed.loops)) in
      all_map (λ l h. record { g = g; a = a; lies = h.0; note = h.1.0; noted = h.1.1; named = h.1.2 ∙ first g }) (all_both lies told)

  to_map : {P : PlacedLoop → Type 0} (f : TFunc) (ls : List ForLoop) → AllOf (λ l. P (placed f l)) ls → AllOf P (map (placed f) ls)
  to_map f [] none = none
  to_map f (l ∷ ls) (more h hs) = more h (to_map f ls hs)

  in_functions : (fs : List TFunc) → ((j : ℕ) (f : TFunc) → slice_get fs j ≡ Some f → AllOf (λ l. LoopPlace (placed f l)) (for_loops_in f.body))
      → AllOf LoopPlace (placed_loops fs)
  in_functions [] h = none
  in_functions (f ∷ fs) h = all_append (to_map f (for_loops_in f.body) (h 0 f refl)) (in_functions fs (λ j f at. h (suc j) f at))

  pub loop_places : AllOf LoopPlace (program_loops typed)
  unfolding program_loops
  loop_places = in_functions typed.funcs function_places
