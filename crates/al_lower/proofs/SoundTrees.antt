-- The code of a tree is sound, and leads from one height of the stack to another.
use Rattle.std.proofs.Common.{◌≡◌, ℕ, suc, ◌+◌, ◌<◌, ◌≤◌, Bool, true, false, List, [], ◌∷◌, ◌++◌, length, map, Option, Some, None, refl, sym, subst, arith}
use Rattle.std.specs.Prelude.{ℤ, pos}
use Rattle.al_core.specs.declared.choices.Bound.{Bound}
use Rattle.al_core.specs.declared.choices.LoopInfo.{LoopInfo}
use Rattle.al_core.specs.declared.values.Kind.TheVariants as kind
use Rattle.al_core.specs.declared.typed_tree.TExpr.{TExpr, map-TExpr, fold-roll-TExpr}
use Rattle.al_core.specs.declared.typed_tree.TPlace.{TPlace, map-TPlace, fold-roll-TPlace}
use Rattle.al_core.specs.declared.typed_tree.TExpr.TheViews.{roll-TExpr, roll-TPlace}
use Rattle.al_core.specs.declared.typed_tree.TExpr.TheOpen.{TExpr-F, TPlace-F}
use Rattle.al_core.specs.declared.typed_tree.TStmt.{TStmt, map-TStmt, para-roll-TStmt}
use Rattle.al_core.specs.declared.typed_tree.TKind.{TKind, map-TKind, para-roll-TKind}
use Rattle.al_core.specs.declared.typed_tree.TKind.TheViews.{roll-TStmt, roll-TKind}
use Rattle.al_core.specs.declared.typed_tree.TKind.TheOpen.{TStmt-F, TKind-F}
use Rattle.al_core.specs.declared.typed_tree.TFunc.{TFunc}
use Rattle.al_core.specs.declared.typed_tree.Typed.{Typed}
use Rattle.al_core.specs.Loops.{Start, start_of, bound_of}
use Rattle.al_laws.proofs.Induction.{With, expr_induct, place_induct, stmt_induct}
use Rattle.al_rules.specs.Names.{AllOf, more}
use Rattle.al_code.specs.declared.instructions.Instr.TheVariants as i
use Rattle.al_code.specs.declared.lowered.Code.{Code}
use Rattle.al_code.specs.declared.lowered.Entry.{Entry}
use Rattle.al_code_laws.specs.declared.plan.Op.TheVariants.{As, JumpTo, JumpIfTo, CallOf, PrintOf, EndOf}
use Rattle.al_code_laws.specs.declared.plan.Planned.{Planned}
use Rattle.al_code_laws.specs.Planned.{planned, Plan, past, Emit, nothing, one, ◌⨟◌, place_of, Shows, Has}
use Rattle.al_code_laws.specs.Tree.{Lined, in_turn, short, expr_code_case, place_code_case, expr_code, place_code, exprs_code, Ended, Part, block_code, if_code, when_code, test_code, turn_code, loop_code, trips_code, annotated_code, out_op, result_code, kind_code, stmt_code_case, stmt_code, code_of_kind, stmts_code, function_code}
use Rattle.al_code_laws.proofs.Leads.{past_append, has_front, has_back}
use Rattle.al_lower.specs.Fine.{IsFine}
use Rattle.al_lower.proofs.FineStatements.{all_split}
use Rattle.al_lower.proofs.SoundPlaces.{EndsApart, past_grows, NextIs, IsGood, AllGood, goods_append, next_of, Flows, flow_nothing, flow_seq, plain_good, flow_plain, jump_good, test_good, return_good, call_good, print_good, loop_good, end_good}

module _ (typed : Typed) (infos : List LoopInfo) (locals : ℕ) (code : Code) (globals : length code.globals ≡ length typed.globals)
    (e : Entry) (e_locals : e.locals ≡ locals) (top bottom : ℕ) (starts : e.start ≡ place_of code top) (ends : e.end ≡ place_of code bottom)
    (within : top ≤ length code.instrs) (apart : EndsApart code) where
  abbrev Next : ℕ → ℕ → Type 0
  Next = NextIs typed infos locals code globals e e_locals top bottom starts ends within apart

  abbrev Good : ℕ → Type 0
  Good = IsGood typed infos locals code globals e e_locals top bottom starts ends within apart

  abbrev Goods : ℕ → Plan → Type 0
  Goods = AllGood typed infos locals code globals e e_locals top bottom starts ends within apart

  abbrev Fine : Planned → Type 0
  Fine p = IsFine typed infos locals p.op

  abbrev Flow : Emit → ℕ → ℕ → Type 0
  Flow = Flows typed infos locals code globals e e_locals top bottom starts ends within apart

  next_at : {r : ℕ} {p : Planned} → Shows code r p → bottom ≤ r → suc r ≤ top → Next (suc r) p.height
  next_at = next_of typed infos locals code globals e e_locals top bottom starts ends within apart

  seq : {a b : Emit} {h m k : ℕ} → Flow a h m → Flow b m k → Flow (a ⨟ b) h k
  seq {a = a} {b = b} p q = flow_seq typed infos locals code globals e e_locals top bottom starts ends within apart {a = a} {b = b} p q

  no_flow : (h : ℕ) → Flow nothing h h
  no_flow = flow_nothing typed infos locals code globals e e_locals top bottom starts ends within apart

  join : (n : ℕ) (a b : Plan) → Goods (past b n) a → Goods n b → Goods n (a ++ b)
  join = goods_append typed infos locals code globals e e_locals top bottom starts ends within apart

  -- ---- plain instructions, by what they do to the height

  push : (n : ℤ) (line h : ℕ) → Flow (one (As (i.Push n)) line h) h (suc h)
  push n line h = flow_plain typed infos locals code globals e e_locals top bottom starts ends within apart (i.Push n) line h (suc h)
      (omega arith) (omega arith) (λ p. refl) refl (λ k is. absurd (cc)) (λ is. absurd (cc)) (λ _. tt)

  get : (k line h : ℕ) → Flow (one (As (i.GetLocal k)) line h) h (suc h)
  get k line h = flow_plain typed infos locals code globals e e_locals top bottom starts ends within apart (i.GetLocal k) line h (suc h)
      (omega arith) (omega arith) (λ p. refl) refl (λ k is. absurd (cc)) (λ is. absurd (cc)) (λ _. tt)

  set : (k line h : ℕ) → Flow (one (As (i.SetLocal k)) line (suc h)) (suc h) h
  set k line h = flow_plain typed infos locals code globals e e_locals top bottom starts ends within apart (i.SetLocal k) line (suc h) h
      (omega arith) (omega arith) (λ p. refl) refl (λ k is. absurd (cc)) (λ is. absurd (cc)) (λ _. tt)

  global : (k line h : ℕ) → Flow (one (As (i.Global k)) line h) h (suc h)
  global k line h = flow_plain typed infos locals code globals e e_locals top bottom starts ends within apart (i.Global k) line h (suc h)
      (omega arith) (omega arith) (λ p. refl) refl (λ k is. absurd (cc)) (λ is. absurd (cc)) (λ in_range. subst (λ n. k < n) (sym globals) in_range)

  inputs : (line h : ℕ) → Flow (one (As i.Inputs) line h) h (suc h)
  inputs line h = flow_plain typed infos locals code globals e e_locals top bottom starts ends within apart i.Inputs line h (suc h)
      (omega arith) (omega arith) (λ p. refl) refl (λ k is. absurd (cc)) (λ is. absurd (cc)) (λ _. tt)

  not_null : (line h : ℕ) → Flow (one (As i.NotNull) line (suc h)) (suc h) (suc h)
  not_null line h = flow_plain typed infos locals code globals e e_locals top bottom starts ends within apart i.NotNull line (suc h) (suc h)
      (omega arith) (omega arith) (λ p. refl) refl (λ k is. absurd (cc)) (λ is. absurd (cc)) (λ _. tt)

  plus : (n line h : ℕ) → Flow (one (As (i.Plus n)) line (suc h)) (suc h) (suc h)
  plus n line h = flow_plain typed infos locals code globals e e_locals top bottom starts ends within apart (i.Plus n) line (suc h) (suc h)
      (omega arith) (omega arith) (λ p. refl) refl (λ k is. absurd (cc)) (λ is. absurd (cc)) (λ _. tt)

  elem : (n line h : ℕ) → Flow (one (As (i.Elem n)) line (suc (suc h))) (suc (suc h)) (suc h)
  elem n line h = flow_plain typed infos locals code globals e e_locals top bottom starts ends within apart (i.Elem n) line (suc (suc h)) (suc h)
      (omega arith) (omega arith) (λ p. refl) refl (λ k is. absurd (cc)) (λ is. absurd (cc)) (λ _. tt)

  load : (want : _) (line h : ℕ) → Flow (one (As (i.Load want)) line (suc h)) (suc h) (suc h)
  load want line h = flow_plain typed infos locals code globals e e_locals top bottom starts ends within apart (i.Load want) line (suc h) (suc h)
      (omega arith) (omega arith) (λ p. refl) refl (λ k is. absurd (cc)) (λ is. absurd (cc)) (λ _. tt)

  store : (line h : ℕ) → Flow (one (As i.Store) line (suc (suc h))) (suc (suc h)) h
  store line h = flow_plain typed infos locals code globals e e_locals top bottom starts ends within apart i.Store line (suc (suc h)) h
      (omega arith) (omega arith) (λ p. refl) refl (λ k is. absurd (cc)) (λ is. absurd (cc)) (λ _. tt)

  dup : (line h : ℕ) → Flow (one (As i.Dup) line (suc h)) (suc h) (suc (suc h))
  dup line h = flow_plain typed infos locals code globals e e_locals top bottom starts ends within apart i.Dup line (suc h) (suc (suc h))
      (omega arith) (omega arith) (λ p. refl) refl (λ k is. absurd (cc)) (λ is. absurd (cc)) (λ _. tt)

  drop : (line h : ℕ) → Flow (one (As i.Drop) line (suc h)) (suc h) h
  drop line h = flow_plain typed infos locals code globals e e_locals top bottom starts ends within apart i.Drop line (suc h) h
      (omega arith) (omega arith) (λ p. refl) refl (λ k is. absurd (cc)) (λ is. absurd (cc)) (λ _. tt)

  unary : (op : _) (line h : ℕ) → Flow (one (As (i.Unary op)) line (suc h)) (suc h) (suc h)
  unary op line h = flow_plain typed infos locals code globals e e_locals top bottom starts ends within apart (i.Unary op) line (suc h) (suc h)
      (omega arith) (omega arith) (λ p. refl) refl (λ k is. absurd (cc)) (λ is. absurd (cc)) (λ _. tt)

  binary : (op : _) (line h : ℕ) → Flow (one (As (i.Binary op)) line (suc (suc h))) (suc (suc h)) (suc h)
  binary op line h = flow_plain typed infos locals code globals e e_locals top bottom starts ends within apart (i.Binary op) line (suc (suc h)) (suc h)
      (omega arith) (omega arith) (λ p. refl) refl (λ k is. absurd (cc)) (λ is. absurd (cc)) (λ _. tt)

  same : (equal : Bool) (line h : ℕ) → Flow (one (As (i.Same equal)) line (suc (suc h))) (suc (suc h)) (suc h)
  same equal line h = flow_plain typed infos locals code globals e e_locals top bottom starts ends within apart (i.Same equal) line (suc (suc h)) (suc h)
      (omega arith) (omega arith) (λ p. refl) refl (λ k is. absurd (cc)) (λ is. absurd (cc)) (λ _. tt)

  choose : (op : _) (line h : ℕ) → Flow (one (As (i.Choose op)) line (suc (suc h))) (suc (suc h)) (suc h)
  choose op line h = flow_plain typed infos locals code globals e e_locals top bottom starts ends within apart (i.Choose op) line (suc (suc h)) (suc h)
      (omega arith) (omega arith) (λ p. refl) refl (λ k is. absurd (cc)) (λ is. absurd (cc)) (λ _. tt)

  input : (line h : ℕ) → Flow (one (As i.Input) line (suc h)) (suc h) (suc h)
  input line h = flow_plain typed infos locals code globals e e_locals top bottom starts ends within apart i.Input line (suc h) (suc h)
      (omega arith) (omega arith) (λ p. refl) refl (λ k is. absurd (cc)) (λ is. absurd (cc)) (λ _. tt)

  calloc : (size line h : ℕ) → Flow (one (As (i.Calloc size)) line (suc h)) (suc h) (suc h)
  calloc size line h = flow_plain typed infos locals code globals e e_locals top bottom starts ends within apart (i.Calloc size) line (suc h) (suc h)
      (omega arith) (omega arith) (λ p. refl) refl (λ k is. absurd (cc)) (λ is. absurd (cc)) (λ _. tt)

  free : (line h : ℕ) → Flow (one (As i.Free) line (suc h)) (suc h) (suc h)
  free line h = flow_plain typed infos locals code globals e e_locals top bottom starts ends within apart i.Free line (suc h) (suc h)
      (omega arith) (omega arith) (λ p. refl) refl (λ k is. absurd (cc)) (λ is. absurd (cc)) (λ _. tt)

  step : (line : ℕ) → Flow (one (As i.Step) line 0) 0 0
  step line = flow_plain typed infos locals code globals e e_locals top bottom starts ends within apart i.Step line 0 0
      (omega arith) (omega arith) (λ p. refl) refl (λ k is. absurd (cc)) (λ is. absurd (cc)) (λ _. tt)

  -- ---- calls and texts

  call : (f count line h : ℕ) → Flow (one (CallOf f count) line (h + count)) (h + count) (suc h)
  call f count line h n has fine hi next =
      let above = next.above in (
        (call_good typed infos locals code globals e e_locals top bottom starts ends within apart f count line h n has.0 hi next, tt),
        next_at has.0 (omega arith) hi,
      )

  print : (format : _) (count line : ℕ) → Flow (one (PrintOf format count) line count) count 0
  print format count line n has fine hi next =
      let above = next.above in (
        (print_good typed infos locals code globals e e_locals top bottom starts ends within apart format count line n has.0 hi next, tt),
        next_at has.0 (omega arith) hi,
      )

  -- ---- `&&` and `||`

  short_flow : (line h : ℕ) (b : Bool) (answer : ℤ) (c : Emit) → Flow c h (suc h) → Flow (short line h b answer c) (suc h) (suc h)
  short_flow line h b answer c flow n has (more test fine) hi next =
      let tail = planned (As i.Truth) line (suc h) ∷ planned (JumpTo n) line (suc h) ∷ planned (As (i.Push answer)) line h ∷ [] in
      let m = suc (suc (suc n)) in
      let body = c m in
      let front = has_front code n body tail has.1 in
      let back = has_back code n body tail has.1 in
      let f = all_split body tail fine in
      let above = next.above in
      let below = next.below in
      let grows = past_grows body m in
      let whole = past_append body tail n in
      let pushes : Next (suc n) h = next_at back.1.1.0 (omega arith) (omega arith) in
      let jumps : Next (suc (suc n)) (suc h) = next_at back.1.0 (omega arith) (omega arith) in
      let truths : Next m (suc h) = next_at back.0 (omega arith) (omega arith) in
      let operand = flow m front f.0 (omega arith) truths in
      let first : Next (past (body ++ tail) n) h = subst (λ r. Next r h) (sym whole) operand.1 in
      let truth_good : Good (suc (suc n)) =
      plain_good typed infos locals code globals e e_locals top bottom starts ends within apart i.Truth line (suc h) (suc h) (suc (suc n)) (omega arith)
      (omega arith)
      (λ p. refl) refl (λ k is. absurd (cc)) (λ is. absurd (cc)) tt tt back.0 (omega arith) jumps in
      let push_good : Good n =
      plain_good typed infos locals code globals e e_locals top bottom starts ends within apart (i.Push answer) line h (suc h) n (omega arith) (omega arith)
      (λ p. refl) refl (λ k is. absurd (cc)) (λ is. absurd (cc)) tt tt back.1.1.0 (omega arith) next in (
        (
          test_good typed infos locals code globals e e_locals top bottom starts ends within apart b (suc n) line h (past (body ++ tail) n) has.0 hi
              (omega arith) pushes first,
          join n body tail operand.0 (
            truth_good,
            (
              jump_good typed infos locals code globals e e_locals top bottom starts ends within apart n line (suc h) (suc n) back.1.0
                  (omega arith) next (λ lt. absurd (omega arith)),
              (push_good, tt),
            ),
          ),
        ),
        next_at has.0 (omega arith) hi,
      )

  -- ---- expressions

  abbrev ExprFlows : TExpr → Type 0
  ExprFlows x = (line h : ℕ) → Flow (expr_code x line h) h (suc h)

  abbrev PlaceFlows : TPlace → Type 0
  PlaceFlows q = (line h : ℕ) → Flow (place_code q line h) h (suc h)

  abbrev X : Type 0
  X = With TExpr ExprFlows

  abbrev Q : Type 0
  Q = With TPlace PlaceFlows

  abbrev expr_layer : TExpr-F X Q → TExpr-F TExpr TPlace
  expr_layer y = map-TExpr X Q TExpr TPlace (λ e. e.0) (λ e. e.0) y

  abbrev place_layer : TPlace-F X Q → TPlace-F TExpr TPlace
  place_layer y = map-TPlace X Q TExpr TPlace (λ e. e.0) (λ e. e.0) y

  args_flow : (xs : List X) (line h : ℕ) → Flow (in_turn line h (map expr_code (map (λ e. e.0) xs))) h (h + length (map expr_code (map (λ e. e.0) xs)))
  args_flow [] line h = let same : h ≡ h + 0 = omega arith in subst (λ k. Flow nothing h k) same (no_flow h)
  args_flow (x ∷ xs) line h =
      let n = length (map expr_code (map (λ e. e.0) xs)) in
      let up : suc h + n ≡ h + suc n = omega arith in
      subst (λ k. Flow (in_turn line h (map expr_code (map (λ e. e.0) (x ∷ xs)))) h k) up (seq (x.1 line h) (args_flow xs line (suc h)))

  expr_flows_at : (y : TExpr-F X Q) (line h : ℕ)
      → Flow (expr_code_case (map-TExpr TExpr TPlace Lined Lined expr_code place_code (expr_layer y)) line h) h (suc h)
  expr_flows_at (TExpr-F.Number n) line h = push n line h
  expr_flows_at (TExpr-F.Local k) line h = get k line h
  expr_flows_at (TExpr-F.Load want q) line h = seq (q.1 line h) (load want line h)
  expr_flows_at (TExpr-F.Addr q) line h = q.1 line h
  expr_flows_at (TExpr-F.Unary op x) line h = seq (x.1 line h) (unary op line h)
  expr_flows_at (TExpr-F.Binary op x y) line h = seq (x.1 line h) (seq (y.1 line (suc h)) (binary op line h))
  expr_flows_at (TExpr-F.Same equal x y) line h = seq (x.1 line h) (seq (y.1 line (suc h)) (same equal line h))
  expr_flows_at (TExpr-F.And x y) line h = seq (x.1 line h) (short_flow line h false (pos 0) (expr_code y.0 line h) (y.1 line h))
  expr_flows_at (TExpr-F.Or x y) line h = seq (x.1 line h) (short_flow line h true (pos 1) (expr_code y.0 line h) (y.1 line h))
  expr_flows_at (TExpr-F.Call f xs) line h = seq (args_flow xs line h) (call f (length (map expr_code (map (λ e. e.0) xs))) line h)
  expr_flows_at (TExpr-F.Input x) line h = seq (x.1 line h) (input line h)
  expr_flows_at TExpr-F.Inputs line h = inputs line h
  expr_flows_at (TExpr-F.Choose op x y) line h = seq (x.1 line h) (seq (y.1 line (suc h)) (choose op line h))
  expr_flows_at (TExpr-F.Calloc x size) line h = seq (x.1 line h) (calloc size line h)
  expr_flows_at (TExpr-F.Free x) line h = seq (x.1 line h) (free line h)

  place_flows_at : (y : TPlace-F X Q) (line h : ℕ)
      → Flow (place_code_case (map-TPlace TExpr TPlace Lined Lined expr_code place_code (place_layer y)) line h) h (suc h)
  place_flows_at (TPlace-F.Global k) line h = global k line h
  place_flows_at (TPlace-F.At x) line h = seq (x.1 line h) (not_null line h)
  place_flows_at (TPlace-F.Plus q n) line h = seq (q.1 line h) (plus n line h)
  place_flows_at (TPlace-F.Elem q x n) line h = seq (q.1 line h) (seq (x.1 line (suc h)) (elem n line h))

  expr_step : (y : TExpr-F X Q) → ExprFlows (roll-TExpr (expr_layer y))
  unfolding expr_code place_code
  expr_step y line h =
      subst (λ (c : Lined). Flow (c line h) h (suc h)) (sym (fold-roll-TExpr Lined Lined expr_code_case place_code_case (expr_layer y)))
      (expr_flows_at y line h)

  place_step : (y : TPlace-F X Q) → PlaceFlows (roll-TPlace (place_layer y))
  unfolding expr_code place_code
  place_step y line h =
      subst (λ (c : Lined). Flow (c line h) h (suc h)) (sym (fold-roll-TPlace Lined Lined expr_code_case place_code_case (place_layer y)))
      (place_flows_at y line h)

  pub expr_flows : (x : TExpr) → ExprFlows x
  expr_flows = expr_induct ExprFlows PlaceFlows expr_step place_step

  pub place_flows : (q : TPlace) → PlaceFlows q
  place_flows = place_induct ExprFlows PlaceFlows expr_step place_step

  exprs_flow : (xs : List TExpr) (line h : ℕ) → Flow (exprs_code xs line h) h (h + length xs)
  exprs_flow [] line h = let same : h ≡ h + 0 = omega arith in subst (λ k. Flow nothing h k) same (no_flow h)
  exprs_flow (x ∷ xs) line h =
      let up : suc h + length xs ≡ h + suc (length xs) = omega arith in
      subst (λ k. Flow (exprs_code (x ∷ xs) line h) h k) up (seq (expr_flows x line h) (exprs_flow xs line (suc h)))

  -- ---- statements

  -- where `break` leads, if it may stand there, lies behind
  abbrev OutOk : Option ℕ → ℕ → Type 0
  OutOk None n = Unit {0}
  OutOk (Some out) n = (out ≤ n) × Next out 0

  out_further : (out : Option ℕ) (n m : ℕ) → n ≤ m → OutOk out n → OutOk out m
  out_further None n m le o = tt
  out_further (Some out) n m le o = let h = o.0 in (omega arith, o.1)

  -- from an empty stack to an empty stack
  abbrev Flows0 : Ended → Option ℕ → ℕ → Type 0
  Flows0 c out cont =
      (n : ℕ) → OutOk out n → cont ≤ n → Next cont 0 → Has code n (c out cont n) → AllOf Fine (c out cont n) → past (c out cont n) n ≤ top → Next n 0
      → Goods n (c out cont n) × Next (past (c out cont n) n) 0

  abbrev Ends0 : Ended → Type 0
  Ends0 c = (out : Option ℕ) (cont : ℕ) → Flows0 c out cont

  then0 : {a b : Ended} → Ends0 a → Ends0 b → Ends0 (λ out cont. a out cont ⨟ b out cont)
  then0 {a = a} {b = b} p q out cont n o le next has fine hi here =
      let cb = b out cont n in
      let r = past cb n in
      let ca = a out cont r in
      let f = all_split ca cb fine in
      let grows = past_grows ca r in
      let more_than = past_grows cb n in
      let whole = past_append ca cb n in
      let second = q out cont n o le next (has_back code n ca cb has) f.1 (omega arith) here in
      let first = p out cont r (out_further out n r more_than o) (omega arith) next (has_front code n ca cb has) f.0 (omega arith) second.1 in
      (join n ca cb first.0 second.0, subst (λ m. Next m 0) (sym whole) first.1)

  -- after a value
  value0 : {a : Emit} {b : Ended} → Flow a 0 1
      → ((out : Option ℕ) (cont n : ℕ) → OutOk out n → cont ≤ n → Next cont 0 → Has code n (b out cont n) → AllOf Fine (b out cont n)
      → past (b out cont n) n ≤ top
      → Next n 0 → Goods n (b out cont n) × Next (past (b out cont n) n) 1)
      → Ends0 (λ out cont. a ⨟ b out cont)
  value0 {a = a} {b = b} p q out cont n o le next has fine hi here =
      let cb = b out cont n in
      let r = past cb n in
      let ca = a r in
      let f = all_split ca cb fine in
      let grows = past_grows ca r in
      let whole = past_append ca cb n in
      let second = q out cont n o le next (has_back code n ca cb has) f.1 (omega arith) here in
      let first = p r (has_front code n ca cb has) f.0 (omega arith) second.1 in
      (join n ca cb first.0 second.0, subst (λ m. Next m 0) (sym whole) first.1)

  when0 : (line : ℕ) (a : Ended) → Ends0 a → (out : Option ℕ) (cont n : ℕ) → OutOk out n → cont ≤ n → Next cont 0
      → Has code n (when_code line (a out cont) n) → AllOf Fine (when_code line (a out cont) n) → past (when_code line (a out cont) n) n ≤ top → Next n 0
      → Goods n (when_code line (a out cont) n) × Next (past (when_code line (a out cont) n) n) 1
  when0 line a p out cont n o le next has (more test fine) hi here =
      let ca = a out cont n in
      let r = past ca n in
      let grows = past_grows ca n in
      let above = here.above in
      let body = p out cont n o le next has.1 fine (omega arith) here in (
        (
          test_good typed infos locals code globals e e_locals top bottom starts ends within apart false n line 0 r has.0 hi
              (omega arith) here body.1,
          body.0,
        ),
        next_at has.0 (omega arith) hi,
      )

  if0 : (line : ℕ) (a b : Ended) → Ends0 a → Ends0 b → (out : Option ℕ) (cont n : ℕ) → OutOk out n → cont ≤ n → Next cont 0
      → Has code n (if_code line (a out cont) (b out cont) n) → AllOf Fine (if_code line (a out cont) (b out cont) n)
      → past (if_code line (a out cont) (b out cont) n) n ≤ top → Next n 0
      → Goods n (if_code line (a out cont) (b out cont) n) × Next (past (if_code line (a out cont) (b out cont) n) n) 1
  if0 line a b p q out cont n o le next has (more test fine) hi here =
      let cb = b out cont n in
      let m = past cb n in
      let ca = a out cont (suc m) in
      let rest = planned (JumpTo n) line 0 ∷ cb in
      let front = has_front code n ca rest has.1 in
      let back = has_back code n ca rest has.1 in
      let f = all_split ca rest fine in
      let fb = fine_tail f.1 in
      let above = here.above in
      let grows = past_grows ca (suc m) in
      let longer = past_grows cb n in
      let whole = past_append ca rest n in
      let second = q out cont n o le next back.1 fb (omega arith) here in
      let jump : Next (suc m) 0 = next_at back.0 (omega arith) (omega arith) in
      let first = p out cont (suc m) (out_further out n (suc m) (omega arith) o) (omega arith) next front f.0 (omega arith) jump in
      let start : Next (past (ca ++ rest) n) 0 = subst (λ r. Next r 0) (sym whole) first.1 in (
        (
          test_good typed infos locals code globals e e_locals top bottom starts ends within apart false m line 0 (past (ca ++ rest) n) has.0 hi
              (omega arith) second.1 start,
          join n ca rest first.0 (
            jump_good typed infos locals code globals e e_locals top bottom starts ends within apart n line 0 m back.0 (omega arith) here
                (λ lt. absurd (omega arith)),
            second.0,
          ),
        ),
        next_at has.0 (omega arith) hi,
      )
    where
      fine_tail : {p : Planned} {ps : Plan} → AllOf Fine (p ∷ ps) → AllOf Fine ps
      fine_tail (more f fs) = fs

  test_flow : (test : Option TExpr) (line exit n : ℕ) → exit ≤ n → Next exit 0 → Has code n (test_code test line exit n)
      → AllOf Fine (test_code test line exit n)
      → past (test_code test line exit n) n ≤ top → Next n 0 → Goods n (test_code test line exit n) × Next (past (test_code test line exit n) n) 0
  test_flow None line exit n le out has fine hi here = (tt, here)
  test_flow (Some x) line exit n le out has fine hi here =
      let cb = one (JumpIfTo false exit) line 1 n in
      let ca = expr_code x line 0 (suc n) in
      let f = all_split ca cb fine in
      let above = here.above in
      let grows = past_grows ca (suc n) in
      let whole = past_append ca cb n in
      let back = (has_back code n ca cb has).0 in
      let second : Next (suc n) 1 = next_at back (omega arith) (omega arith) in
      let first = expr_flows x line 0 (suc n) (has_front code n ca cb has) f.0 (omega arith) second in (
        join n ca cb first.0 (
          test_good typed infos locals code globals e e_locals top bottom starts ends within apart false exit line 0 n back
              (omega arith) le out here,
          tt,
        ),
        subst (λ m. Next m 0) (sym whole) first.1,
      )

  loop0 : (line : ℕ) (test : Option TExpr) (body third : Ended) → Ends0 body → Ends0 third → Ends0 (λ out cont. loop_code line test body (third out cont))
  loop0 line test body third p q out cont n o le next has fine hi here =
      let c3 = third out cont (suc n) in
      let m3 = past c3 (suc n) in
      let c2 = body (Some n) m3 m3 in
      let work = c2 ++ c3 in
      let mw = past work (suc n) in
      let c1 = test_code test line n mw in
      let turn = turn_code line test body (third out cont) n (suc n) in
      let head = past turn (suc n) in
      let end = planned (JumpTo head) line 0 ∷ [] in
      let front = has_front code n turn end has in
      let back = (has_back code n turn end has).0 in
      let f = all_split turn end fine in
      let f1 = fine_tail f.0 in
      let f2 = all_split c1 work f1 in
      let f3 = all_split c2 c3 f2.1 in
      let above = here.above in
      let g3 = past_grows c3 (suc n) in
      let g2 = past_grows c2 m3 in
      let w2 = past_append c2 c3 (suc n) in
      let w1 = past_append c1 work (suc n) in
      let g1 = past_grows c1 mw in
      let whole = past_append turn end n in
      let has_work = has_back code (suc n) c1 work front.1 in
      let jump : Next (suc n) 0 = next_at back (omega arith) (omega arith) in
      let r3 = q out cont (suc n) (out_further out n (suc n) (omega arith) o) (omega arith) next (has_back code (suc n) c2 c3 has_work) f3.1
      (omega arith) jump in
      let r2 = p (Some n) m3 m3 (omega arith, here) (omega arith) r3.1 (has_front code (suc n) c2 c3 has_work) f3.0 (omega arith) r3.1 in
      let before_work : Next mw 0 = subst (λ r. Next r 0) (sym w2) r2.1 in
      let r1 = test_flow test line n mw (omega arith) here (has_front code (suc n) c1 work front.1) f2.0 (omega arith) before_work in
      let before_test : Next (past (c1 ++ work) (suc n)) 0 = subst (λ r. Next r 0) (sym w1) r1.1 in
      let begin : Next head 0 = next_at front.0 (omega arith) (omega arith) in
      let step_good : Good (past (c1 ++ work) (suc n)) =
      plain_good typed infos locals code globals e e_locals top bottom starts ends within apart i.Step line 0 0 (past (c1 ++ work) (suc n)) (omega arith)
      (omega arith)
      (λ p. refl) refl (λ k is. absurd (cc)) (λ is. absurd (cc)) tt tt front.0 (omega arith) before_test in (
        join n turn end (step_good, join (suc n) c1 work r1.0 (join (suc n) c2 c3 r2.0 r3.0)) (
          jump_good typed infos locals code globals e e_locals top bottom starts ends within apart head line 0 n back (omega arith) begin
              (λ lt. front.0.op),
          tt,
        ),
        subst (λ m. Next m 0) (sym whole) begin,
      )
    where
      fine_tail : {p : Planned} {ps : Plan} → AllOf Fine (p ∷ ps) → AllOf Fine ps
      fine_tail (more f fs) = fs

  trips0 : (line k counter : ℕ) (bound : Bound) (body : Ended) → Ends0 body → (n : ℕ) → Has code n (trips_code line k counter bound body n)
      → AllOf Fine (trips_code line k counter bound body n) → past (trips_code line k counter bound body n) n ≤ top → Next n 0
      → Goods n (trips_code line k counter bound body n) × Next (past (trips_code line k counter bound body n) n) 1
  trips0 line k counter bound body p n has (more own fine) hi here =
      let ca = body None (suc n) (suc n) in
      let end = planned (EndOf k) line 0 ∷ [] in
      let front = has_front code n ca end has.1 in
      let back = (has_back code n ca end has.1).0 in
      let f = all_split ca end fine in
      let above = here.above in
      let grows = past_grows ca (suc n) in
      let whole = past_append ca end n in
      let last : Next (suc n) 0 = next_at back (omega arith) (omega arith) in
      let r = p None (suc n) (suc n) tt (omega arith) last front f.0 (omega arith) last in
      let start : Next (past (ca ++ end) n) 0 = subst (λ m. Next m 0) (sym whole) r.1 in (
        (
          loop_good typed infos locals code globals e e_locals top bottom starts ends within apart k counter bound n line
              (past (ca ++ end) n) has.0 hi start here,
          join n ca end r.0 (
            end_good typed infos locals code globals e e_locals top bottom starts ends within apart k line n (past (ca ++ end) n) has.0.op.body back
                (omega arith)
                has.0.op.has_body has.0.op.starts has.0.op.ends start here,
            tt,
          ),
        ),
        next_at has.0 (omega arith) hi,
      )

  annotated0 : (line k : ℕ) (start : Option Start) (bound : Bound) (body : Ended) → Ends0 body → Ends0 (λ out cont. annotated_code line k start bound body)
  annotated0 line k None bound body p = λ out cont n o le next has fine hi here. (tt, here)
  annotated0 line k (Some start) bound body p =
      value0 {a = expr_code start.value start.line 0} {b = λ out cont. trips_code line k start.counter bound body} (expr_flows start.value start.line 0)
      (λ out cont n o le next has fine hi here. trips0 line k start.counter bound body p n has fine hi here)

  break0 : (line : ℕ) → Ends0 (λ out cont. one (out_op out) line 0)
  break0 line None cont n o le next has fine hi here = absurd has.0.op
  break0 line (Some out) cont n o le next has fine hi here =
      let above = here.above in
      let far = o.0 in (
        (jump_good typed infos locals code globals e e_locals top bottom starts ends within apart out line 0 n has.0 hi o.1 (λ lt. absurd (omega arith)), tt),
        next_at has.0 (omega arith) hi,
      )

  continue0 : (line : ℕ) → Ends0 (λ out cont. one (JumpTo cont) line 0)
  continue0 line out cont n o le next has fine hi here =
      let above = here.above in (
        (
          jump_good typed infos locals code globals e e_locals top bottom starts ends within apart cont line 0 n has.0 hi next
              (λ lt. absurd (omega arith)),
          tt,
        ),
        next_at has.0 (omega arith) hi,
      )

  return_flow : (line : ℕ) → Flow (one (As i.Return) line 1) 1 0
  return_flow line n has fine hi next =
      let above = next.above in (
        (return_good typed infos locals code globals e e_locals top bottom starts ends within apart line 0 n has.0, tt),
        next_at has.0 (omega arith) hi,
      )

  result_flow : (x : Option TExpr) (line : ℕ) → Flow (result_code x line) 0 1
  result_flow (Some x) line = expr_flows x line 0
  result_flow None line = push (pos 0) line 0

  -- ---- nodes

  abbrev KindFlows : TKind → Type 0
  KindFlows d = (line : ℕ) → Ends0 (code_of_kind d line)

  abbrev StmtFlows : TStmt → Type 0
  StmtFlows s = Ends0 (stmt_code s)

  abbrev W : Type 0
  W = With TKind KindFlows

  abbrev Z : Type 0
  Z = With TStmt StmtFlows

  abbrev kind_layer : TKind-F W Z → TKind-F TKind TStmt
  kind_layer y = map-TKind W Z TKind TStmt (λ e. e.0) (λ e. e.0) y

  abbrev code_pair : TStmt → Part
  code_pair d = (d, stmt_code d)

  abbrev map_code : TKind-F TKind TStmt → TKind-F (TKind × (ℕ → Ended)) Part
  map_code x = map-TKind TKind TStmt (TKind × (ℕ → Ended)) Part (λ d. (d, code_of_kind d)) code_pair x

  nothing0 : Ends0 (λ out cont. nothing)
  nothing0 out cont n o le next has fine hi here = (tt, here)

  flat : {c : Emit} → Flow c 0 0 → Ends0 (λ out cont. c)
  flat f out cont n o le next has fine hi here = f n has fine hi here

  block0 : (zs : List Z) → Ends0 (block_code (map code_pair (map (λ e. e.0) zs)))
  block0 [] = nothing0
  block0 (z ∷ zs) = then0 {a = stmt_code z.0} {b = block_code (map code_pair (map (λ e. e.0) zs))} z.1 (block0 zs)

  for0 : (line : ℕ) (test : Option TExpr) (first third : Ended) (body : Z) → Ends0 first → Ends0 third
      → Ends0 (λ out cont. first out cont ⨟ loop_code line test (stmt_code body.0) (third out cont))
  for0 line test first third body p q =
      then0 {a = first} {b = λ out cont. loop_code line test (stmt_code body.0) (third out cont)} p (loop0 line test (stmt_code body.0) third body.1 q)

  layer0 : (y : TKind-F W Z) (line : ℕ) → Ends0 (kind_code (map_code (kind_layer y)) line)
  layer0 TKind-F.Empty line = nothing0
  layer0 (TKind-F.SetLocal k x) line = flat (seq (expr_flows x line 0) (set k line 0))
  layer0 (TKind-F.Store q x) line = flat (seq (place_flows q line 0) (seq (expr_flows x line 1) (store line 0)))
  layer0 (TKind-F.UpdateLocal op k x) line =
      flat (seq {a = one (As (i.GetLocal k)) line 0} (get k line 0) (seq (expr_flows x line 1)
      (seq {a = one (As (i.Binary op)) line 2} {b = one (As (i.SetLocal k)) line 1} (binary op line 0) (set k line 0))))
  layer0 (TKind-F.UpdateAt op q x) line =
      flat (seq (place_flows q line 0) (seq {a = one (As i.Dup) line 1} (dup line 0) (seq {a = one (As (i.Load kind.Int)) line 2} (load kind.Int line 1)
      (seq (expr_flows x line 2) (seq {a = one (As (i.Binary op)) line 3} {b = one (As i.Store) line 2} (binary op line 1) (store line 0))))))
  layer0 (TKind-F.Call x) line = flat (seq (expr_flows x line 0) (drop line 0))
  layer0 (TKind-F.Print format xs) line =
      let count : 0 + length xs ≡ length xs = omega arith in
      flat (seq (subst (λ k. Flow (exprs_code xs line 0) 0 k) count (exprs_flow xs line 0)) (print format (length xs) line))
  layer0 (TKind-F.If x a None) line = value0 {a = expr_code x line 0} {b = λ out cont. when_code line (stmt_code a.0 out cont)} (expr_flows x line 0)
      (when0 line (stmt_code a.0) a.1)
  layer0 (TKind-F.If x a (Some b)) line =
      value0 {a = expr_code x line 0} {b = λ out cont. if_code line (stmt_code a.0 out cont) (stmt_code b.0 out cont)} (expr_flows x line 0)
      (if0 line (stmt_code a.0) (stmt_code b.0) a.1 b.1)
  layer0 (TKind-F.While x a) line = loop0 line (Some x) (stmt_code a.0) (λ out cont. nothing) a.1 nothing0
  layer0 (TKind-F.For None test None body None) line = for0 line test (λ out cont. nothing) (λ out cont. nothing) body nothing0 nothing0
  layer0 (TKind-F.For None test (Some third) body None) line = for0 line test (λ out cont. nothing) (stmt_code third.0) body nothing0 third.1
  layer0 (TKind-F.For (Some first) test None body None) line = for0 line test (stmt_code first.0) (λ out cont. nothing) body first.1 nothing0
  layer0 (TKind-F.For (Some first) test (Some third) body None) line = for0 line test (stmt_code first.0) (stmt_code third.0) body first.1 third.1
  layer0 (TKind-F.For (Some first) test third body (Some k)) line = annotated0 line k (start_of (Some first.0)) (bound_of test) (stmt_code body.0) body.1
  layer0 (TKind-F.For None test third body (Some k)) line = nothing0
  layer0 (TKind-F.Block zs) line = block0 zs
  layer0 (TKind-F.Return x) line = flat (seq (result_flow x line) (return_flow line))
  layer0 TKind-F.Break line = break0 line
  layer0 TKind-F.Continue line = continue0 line

  kind_step : (y : TKind-F W Z) → KindFlows (roll-TKind (kind_layer y))
  unfolding stmt_code code_of_kind
  kind_step y line =
      subst (λ (c : ℕ → Ended). Ends0 (c line)) (sym (para-roll-TKind (ℕ → Ended) Ended kind_code stmt_code_case (kind_layer y))) (layer0 y line)

  abbrev stmt_layer : TStmt-F W Z → TStmt-F TKind TStmt
  stmt_layer y = map-TStmt W Z TKind TStmt (λ e. e.0) (λ e. e.0) y

  stmt_step : (y : TStmt-F W Z) → StmtFlows (roll-TStmt (stmt_layer y))
  unfolding stmt_code code_of_kind
  stmt_step y =
      subst Ends0 (sym (para-roll-TStmt (ℕ → Ended) Ended kind_code stmt_code_case (stmt_layer y)))
      (then0 {a = λ out cont. one (As i.Step) y.line 0} {b = code_of_kind y.kind.0 y.line} (flat (step y.line)) (y.kind.1 y.line))

  stmt_flows : (s : TStmt) → StmtFlows s
  stmt_flows = stmt_induct KindFlows StmtFlows kind_step stmt_step

  stmts_flow : (ss : List TStmt) → Ends0 (stmts_code ss)
  stmts_flow [] = nothing0
  stmts_flow (s ∷ ss) = then0 {a = stmt_code s} {b = stmts_code ss} (stmt_flows s) (stmts_flow ss)

  -- ---- functions

  pub function_good : (f : TFunc) → Has code bottom (function_code f bottom) → AllOf Fine (function_code f bottom)
      → past (function_code f bottom) bottom ≤ top
      → Goods bottom (function_code f bottom) × Next (past (function_code f bottom) bottom) 0
  function_good f has fine hi =
      let end = suc (suc bottom) in
      let work = stmts_code f.body (Some end) end end in
      let tail = planned (As (i.Push (pos 0))) f.line 0 ∷ planned (As i.Return) f.line 1 ∷ [] in
      let front = has_front code bottom work tail has in
      let back = has_back code bottom work tail has in
      let fines = all_split work tail fine in
      let grows = past_grows work end in
      let whole = past_append work tail bottom in
      let gives : Next (suc bottom) 1 = next_at back.1.0 (omega arith) (omega arith) in
      let zero_first : Next end 0 = next_at back.0 (omega arith) (omega arith) in
      let r = stmts_flow f.body (Some end) end end (omega arith, zero_first) (omega arith) zero_first front fines.0 (omega arith) zero_first in
      let push_good : Good (suc bottom) =
      plain_good typed infos locals code globals e e_locals top bottom starts ends within apart (i.Push (pos 0)) f.line 0 1 (suc bottom) (omega arith)
      (omega arith)
      (λ p. refl) refl (λ k is. absurd (cc)) (λ is. absurd (cc)) tt tt back.0 (omega arith) gives in (
        join bottom work tail r.0 (
          push_good,
          (return_good typed infos locals code globals e e_locals top bottom starts ends within apart f.line 0 bottom back.1.0, tt),
        ),
        subst (λ m. Next m 0) (sym whole) r.1,
      )
