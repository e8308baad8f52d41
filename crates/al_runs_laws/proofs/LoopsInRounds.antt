-- A loop of a program that runs plain, or in rounds under a policy that looks at reads: what it comes to and what it keeps.
use Rattle.std.proofs.Common.{◌≡◌, ℕ, suc, ◌<◌, ◌≤◌, List, [], ◌∷◌, length, Option, Some, None, Bool, true, false, ◌&&◌, refl, sym, ap, ◌∙◌, arith, w64, FitsSigned}
use Rattle.std.specs.Prelude.{ℤ, pos, ◌+ℤ◌, ◌||◌, is_some, not, slice_get}
use Rattle.std.specs.List.{list_any}
use Rattle.std.proofs.Math.Bool.{true≢false}
use Rattle.std.proofs.lemmas.Option.{slice_get_within, slice_get-get_or}
use Rattle.al_core.specs.declared.choices.Choice.{Choice}
use Rattle.al_core.specs.declared.choices.Red.{Red}
use Rattle.al_core.specs.declared.values.Obj.{Obj}
use Rattle.al_core.specs.declared.values.Obj.TheVariants.{Global, Serial, Iter}
use Rattle.al_core.specs.declared.values.Val.{Val}
use Rattle.al_core.specs.declared.values.Val.TheVariants.{Int, Ptr}
use Rattle.al_core.specs.declared.values.Addr.{Addr}
use Rattle.al_core.specs.declared.values.Addr.TheVariants.{Word, Head, Local}
use Rattle.al_core.specs.declared.values.Kind.{Kind}
use Rattle.al_core.specs.declared.values.Kind.TheVariants as kind
use Rattle.al_core.specs.declared.typed_tree.TFunc.{TFunc}
use Rattle.al_core.specs.declared.typed_tree.TGlobal.{TGlobal}
use Rattle.al_core.specs.declared.typed_tree.TLocal.{TLocal}
use Rattle.al_core.specs.declared.typed_tree.Typed.{Typed}
use Rattle.al_core.specs.Memory.{Memory, has_object, value_at}
use Rattle.al_core.specs.Access.{red_index}
use Rattle.al_core.specs.Accepted.{IsRedLocal, IsAccepted, IsRedVariable, IsRedGlobal, takes_in, terms_of}
use Rattle.al_core.specs.Iteration.{Execution}
use Rattle.al_core.specs.Loops.{Loop, loop_at}
use Rattle.al_core.specs.Readiness.{IsFresh}
use Rattle.al_core.specs.Lockstep.{all_chunks, lockstep, commits_of}
use Rattle.al_core.specs.Serial.{plain_loop, serial}
use Rattle.al_core.specs.Run.{list_or_all, Setting, Mode, Plainly, InRounds, InChunks, execution, by_mode}
use Rattle.al_laws.specs.Names.{HasOnly}
use Rattle.al_laws.proofs.Words.{same_some}
use Rattle.al_rules.specs.WellFormed.{is_int_local, is_one, local_kind, is_some_kind, is_int_global}
use Rattle.al_graded_laws.proofs.Graded.{Fine}
use Rattle.al_graded_laws.proofs.Values.{zero_fits}
use Rattle.al_rounds_laws.specs.Loops.{end_of, end_of_rounds, Each, LooksAtReads}
use Rattle.al_rounds_laws.proofs.AllRounds.{lockstep_is_serial}
use Rattle.al_rounds_laws.proofs.InOrder.{lockstep_is_plain}
use Rattle.al_reductions_laws.proofs.Variables.{is_red}
use Rattle.al_reductions_laws.proofs.Sums.{apart}
use Rattle.al_reductions_laws.proofs.SumsSerially.{Ready}
use Rattle.al_reductions_laws.proofs.AcceptedReds.{all_at, Reducing, found_variable, ready_serially}
use Rattle.al_kinds_laws.specs.Whole.{is_shut}
use Rattle.al_kinds_laws.specs.Programs.{IsProgram}
use Rattle.al_kinds_laws.specs.Numbers.{IsOpen}
use Rattle.al_kinds_laws.proofs.Kinded.{IsNumber}
use Rattle.al_kinds_laws.proofs.KeptKinds.{kept_by, KeptMemory, AreVariables, kept_value}
use Rattle.al_kinds_laws.proofs.NumbersCommitted.{lockstep_known}
use Rattle.al_kinds_laws.proofs.KindedIterations.{chunk_known, serial_known, plain_known}
use Rattle.al_core.specs.Verdicts.{is_in_order}
use Rattle.al_runs_laws.specs.Modes.{IsAllowed}
use Rattle.al_runs_laws.proofs.ProgramLoops.{LoopFacts, loop_facts}

-- of executions below this one
abbrev pub IsBefore : ℕ → Obj → Type 0
IsBefore n (Global k) = Unit {0}
IsBefore n (Serial k) = Unit {0}
IsBefore n (Iter e j k) = e < n

pub each_chunk : (P : ℕ → Type 0) → ((c : ℕ) → P c) → (cs : List ℕ) → Each P cs
each_chunk P h [] = tt
each_chunk P h (c ∷ cs) = (h c, each_chunk P h cs)

-- ---- reduction variables

int_of : (x : Option Kind) → x ≡ Some kind.Int → is_some_kind x kind.Int ≡ true
int_of x e = ap (λ z. is_some_kind z kind.Int) e

none_takes : (f : TFunc → Bool) (fs : List TFunc) → ((k : ℕ) (g : TFunc) → slice_get fs k ≡ Some g → f g ≡ false) → list_any f fs ≡ false
none_takes f [] h = refl
none_takes f (g ∷ fs) h = ap (λ b. b || list_any f fs) (h 0 g refl) ∙ none_takes f fs (λ k q e. h (suc k) q e)

-- a global that may be a reduction variable is shut
red_is_shut : (typed : Typed) (l : Loop) (k : ℕ) → IsRedGlobal typed l k → is_shut typed k ≡ true
red_is_shut typed l k v =
    let a = Word (Global k) 0 in
    let takes = λ (f : TFunc). takes_in a (terms_of f.body) in
    let untaken = none_takes takes typed.funcs (λ i f e. all_at (λ f. takes f ≡ false) typed.funcs i f v.untaken e) in
    ap (λ b. b && not (list_any takes typed.funcs)) (is_int (slice_get typed.globals k) v.integer.0 v.integer.1 v.integer.2) ∙ ap not untaken
  where
    is_int : (x : Option TGlobal) (g : TGlobal) → x ≡ Some g → g.scalar ≡ Some kind.Int → is_int_global x ≡ true
    is_int x g e s = ap is_int_global e ∙ int_of g.scalar s

module _ (x : Execution) (reds : List Red) (h : Reducing x reds) (func : TFunc) (stands : slice_get x.typed.funcs x.loop.info.func ≡ Some func) where
  int_variable : (k : ℕ) → IsRedLocal x.typed x.loop k → is_int_local func.locals k ≡ true
  int_variable k v =
      let same = same_some v.integer.0 func (sym v.integer.2 ∙ stands) in
      ap (λ z. is_some_kind (local_kind z) kind.Int) (ap (λ f. slice_get f.locals k) (sym same) ∙ v.integer.3) ∙ ap (λ z. is_one z kind.Int) v.integer.4

  -- its reduction variables are integer locals and shut globals
  pub variables : AreVariables zero_fits (is_shut x.typed) func.locals reds
  variables = record {
    locals = λ j i e. int_variable j (found_variable x reds h (Local j) i e);
    words = λ o w i e. by_object o w (found_variable x reds h (Word o w) i e);
  }
    where
      by_object : (o : Obj) (w : ℕ) → IsRedVariable x.typed x.loop (Word o w) → (k : ℕ) × (o ≡ Global k) × (is_shut x.typed k ≡ true)
      by_object (Global k) w v = (k, refl, red_is_shut x.typed x.loop k v.0)
      by_object (Serial k) w v = absurd v
      by_object (Iter e j k) w v = absurd v

module _ (x : Execution) (reds : List Red) (h : Reducing x reds) (func : TFunc) (stands : slice_get x.typed.funcs x.loop.info.func ≡ Some func) (m : Memory)
    (kept : KeptMemory zero_fits (is_shut x.typed) func.locals m) where
  fresh_at : HasOnly (IsBefore x.number) m → (c : ℕ) → IsFresh x m c
  fresh_at names c (Global k) name = absurd name
  fresh_at names c (Serial k) name = absurd name
  fresh_at names c (Iter e j k) name = by_there (has_object m (Iter e j k)) refl
    where
      by_there : (b : Bool) → has_object m (Iter e j k) ≡ b → b ≡ false
      by_there true t = absurd (omega (arith, names (Iter e j k) t, name.0))
      by_there false t = refl

  -- an open object is no reduction variable
  pub open_apart : (o : Obj) → IsOpen (is_shut x.typed) o → (w : ℕ) → is_red reds (Word o w) ≡ false
  open_apart o u w = by_index (red_index reds (Word o w)) refl
    where
      no_variable : (q : Obj) → IsOpen (is_shut x.typed) q → IsRedVariable x.typed x.loop (Word q w) → ⊥
      no_variable (Global k) u v = true≢false (sym (red_is_shut x.typed x.loop k v.0) ∙ u)
      no_variable (Serial k) u v = v
      no_variable (Iter e j k) u v = v

      by_index : (y : Option ℕ) → red_index reds (Word o w) ≡ y → is_some y ≡ false
      by_index None e = refl
      by_index (Some i) e = absurd (no_variable o u (found_variable x reds h (Word o w) i e))

  apart_value : (v : Val) → Fine (kept_by (is_shut x.typed)) v → Fine (apart reds) v
  apart_value (Int n) f = f
  apart_value (Ptr o w) f = (open_apart o f.0, f.1)

  -- an integer local is there and holds a number
  local_number : (k : ℕ) (v : TLocal) → slice_get func.locals k ≡ Some v → v.kind ≡ kind.Int → (n : ℤ) × (value_at m (Local k) ≡ Some (Int n))
  local_number k v e is =
      let there = slice_get-get_or m.locals k (Int (pos 0)) (omega (arith, slice_get_within func.locals k v e, kept.locals.0)) in
      let says = kept.locals.1 k _ there in
      let number = says.number (ap (λ z. is_some_kind (local_kind z) kind.Int) e ∙ ap (λ z. is_one z kind.Int) is) in
      let y = of_number _ number in
      (y.0, there ∙ ap (λ z. Some z) y.1)
    where
      of_number : (u : Val) → IsNumber u → (n : ℤ) × (u ≡ Int n)
      of_number (Int n) t = (n, refl)
      of_number (Ptr o w) t = absurd t

  pub red_number : (a : Addr) → IsRedVariable x.typed x.loop a → (n : ℤ) × (value_at m a ≡ Some (Int n))
  red_number (Word (Global k) w) v =
      let n = kept.shuts k (red_is_shut x.typed x.loop k v.0) in
      (n.0, ap (λ w. value_at m (Word (Global k) w)) v.1 ∙ n.1)
  red_number (Word (Serial k) w) v = absurd v
  red_number (Word (Iter e j k) w) v = absurd v
  red_number (Head o) v = absurd v
  red_number (Local k) v =
      let same = same_some v.integer.0 func (sym v.integer.2 ∙ stands) in
      local_number k v.integer.1 (ap (λ f. slice_get f.locals k) (sym same) ∙ v.integer.3) v.integer.4

  pub ready_at : (c : ℕ) → IsFresh x m c → Ready x reds c m
  ready_at c fresh = record {
    fresh = fresh;
    values = λ a v e. apart_value v (kept_value zero_fits (is_shut x.typed) func.locals m kept a v e);
    numbers = λ a i e. red_number a (found_variable x reds h a i e);
  }

-- ---- a loop of a program

module _ (g : Setting) (p : IsProgram g.typed g.input) (number : ℕ) (l : Loop) (at : loop_at g.typed number ≡ Some l) (e : ℕ) (lo : ℤ) (n : ℕ)
    (counters : (j : ℕ) → j < n → FitsSigned w64 (lo +ℤ pos j)) where
  abbrev x : Execution
  x = execution g l e lo n

  abbrev facts : LoopFacts g.typed g.input p l
  facts = loop_facts g.typed g.input p number l at

  abbrev here : TFunc
  here = facts.func

  -- what is known where the loop begins and where it ends
  abbrev pub KeptHere : Memory → Type 0
  KeptHere = KeptMemory zero_fits (is_shut g.typed) here.locals

  enough : length here.locals ≤ l.locals
  enough = omega (arith, facts.locals)

  reducing : (reds : List Red) → IsAccepted g.typed l reds → Reducing x reds
  reducing reds accepted = record { program = p.numbers; body = facts.ranged; counters = counters; accepted = accepted }

  -- in rounds it comes to what its chunks come to in commit order
  pub in_rounds : (choice : Choice) (m : Memory) → LooksAtReads choice.policy → IsAccepted g.typed l choice.reds → KeptHere m → HasOnly (IsBefore e) m
      → end_of_rounds (lockstep x choice g.sizes.lanes m) ≡ end_of (serial x (commits_of (lockstep x choice g.sizes.lanes m).rounds) m)
  in_rounds choice m looks accepted kept names =
      let h = reducing choice.reds accepted in
      lockstep_is_serial x choice (Ready x choice.reds) (ready_serially x choice.reds h) looks g.sizes.lanes m
      (each_chunk (λ c. Ready x choice.reds c m)
      (λ c. ready_at x choice.reds h here facts.stands m kept c (fresh_at x choice.reds h here facts.stands m kept names c)) (all_chunks x))

  pub in_order : (choice : Choice) (m : Memory) → LooksAtReads choice.policy → is_in_order choice.order ≡ true → 0 < g.sizes.lanes → 0 < g.sizes.factor
      → IsAccepted g.typed l choice.reds → KeptHere m → HasOnly (IsBefore e) m
      → end_of_rounds (lockstep x choice g.sizes.lanes m) ≡ end_of (plain_loop x m)
  in_order choice m looks ordered some full accepted kept names =
      let h = reducing choice.reds accepted in
      lockstep_is_plain x choice (Ready x choice.reds) (ready_serially x choice.reds h) looks ordered g.sizes.lanes some m full
      (each_chunk (λ c. Ready x choice.reds c m)
      (λ c. ready_at x choice.reds h here facts.stands m kept c (fresh_at x choice.reds h here facts.stands m kept names c)) (all_chunks x))

  pub loop_keeps : (m : Memory) (mode : Mode) → IsAllowed g.typed l mode → KeptHere m
      → KeptHere (by_mode x g.sizes.lanes m mode).memory
  loop_keeps m Plainly fits kept = plain_known x p here.locals facts.result facts.kinded enough counters m kept
  loop_keeps m (InRounds choice) fits kept =
      lockstep_known g.typed here.locals x choice
      (chunk_known x p here.locals facts.result facts.kinded enough counters choice.reds
      (variables x choice.reds (reducing choice.reds fits) here facts.stands)) g.sizes.lanes m kept
  loop_keeps m (InChunks cs) fits kept = serial_known x p here.locals facts.result facts.kinded enough counters (list_or_all x cs) m kept
