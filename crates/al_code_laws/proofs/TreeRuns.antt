-- The code of a typed tree does what the tree means: one case a node.
use Rattle.std.proofs.Common.{◌≡◌, ℕ, suc, ◌+◌, List, [], ◌∷◌, length, map, Option, Some, None, refl, sym, ap, ◌∙◌, subst}
use Rattle.std.specs.Prelude.{slice_get, ℤ, pos, take, drop, reverse}
use Rattle.al_source.specs.declared.texts.Piece.{Piece}
use Rattle.al_core.specs.declared.choices.Bound.{Bound}
use Rattle.al_core.specs.declared.values.Kind.TheVariants as kind
use Rattle.al_core.specs.declared.values.Val.{Val}
use Rattle.al_core.specs.declared.values.Val.TheVariants.{Int}
use Rattle.al_core.specs.declared.typed_tree.TExpr.{TExpr}
use Rattle.al_core.specs.declared.typed_tree.TPlace.{TPlace}
use Rattle.al_core.specs.declared.typed_tree.TStmt.{TStmt, map-TStmt, para-roll-TStmt}
use Rattle.al_core.specs.declared.typed_tree.TKind.{TKind, map-TKind, para-roll-TKind}
use Rattle.al_core.specs.declared.typed_tree.TKind.TheViews.{roll-TStmt, roll-TKind}
use Rattle.al_core.specs.declared.typed_tree.TKind.TheOpen.{TStmt-F, TKind-F}
use Rattle.al_core.specs.World.{World}
use Rattle.al_core.specs.Values.{numbers, text}
use Rattle.al_core.specs.Action.{State, Act, At, ◌>>=◌, ◌>>◌, pure, lift, spend, set_local, store, print}
use Rattle.al_core.specs.Loops.{Start, start_of, bound_of}
use Rattle.al_core.specs.Meaning.{Flow, Next, Broke, Continued, Returned, Where, then_flow, sequence, all_do, turns, annotated_loop, start_value, value, place, values, test_value, result_value, kind_does, stmt_does, execute, execute_kind, execute_all}
use Rattle.al_laws.specs.Budgets.{NeverAdds}
use Rattle.al_laws.proofs.Falls.{statement_never_adds}
use Rattle.al_laws.proofs.Induction.{With, stmt_induct}
use Rattle.al_code.specs.declared.instructions.Instr.TheVariants as i
use Rattle.al_code.specs.declared.lowered.Code.{Code}
use Rattle.al_code.specs.Machine.{InnerLoop, Caller, Goes, on_stack, print_at, holes}
use Rattle.al_code_laws.specs.declared.plan.Op.TheVariants.{As, PrintOf}
use Rattle.al_code_laws.specs.Planned.{Emit, nothing, one, ◌⨟◌, place_of, Has}
use Rattle.al_code_laws.specs.Tree.{Ended, Part, expr_code, place_code, exprs_code, block_code, if_code, when_code, loop_code, trips_code, annotated_code, out_op, result_code, kind_code, stmt_code_case, stmt_code, code_of_kind, stmts_code}
use Rattle.al_code_laws.proofs.Args.{push_all, args_back, rest_back}
use Rattle.al_code_laws.proofs.Counting.{values_count}
use Rattle.al_code_laws.proofs.Steps.{pure_never_adds}
use Rattle.al_code_laws.proofs.Leads.{Target, To, has_front, has_back, Leads, leads_pure, leads_bind, leads_return, leads_one, leads_move, leads_jump, leads_seam, spot, at, next_place}
use Rattle.al_code_laws.proofs.Moves.{moves_at, moves_goes, moves_bind}
use Rattle.al_code_laws.proofs.ExprRuns.{CallsRun, Runs, ValueRuns, value_runs, place_runs, values_run, pushes}
use Rattle.al_code_laws.proofs.StmtRuns.{flow_to, FlowRuns, after_value, flows_nothing, last, flows_then, if_runs, when_runs, loop_runs, annotated_runs}

module _ {S : Type 0} (world : World S) (here : Where) (input : List ℤ) (code : Code) (callers : List Caller) (room : ℕ)
    (call : ℕ → List Val → At S Val) (calls : CallsRun world here input code callers room call)
    (falls : (f : ℕ) (vs : List Val) (line : ℕ) → NeverAdds (call f vs line)) where
  abbrev on : List InnerLoop → ℕ → List Val → Target
  on = at code callers room

  abbrev Gets : {A : Type 0} → State S → Target → Act S A → (A → Target) → Type 0
  Gets = Leads world here input code

  abbrev to : List InnerLoop → Option ℕ → ℕ → ℕ → Flow → Target
  to = flow_to world here input code callers room

  abbrev Flow_runs : Ended → Act S Flow → Type 0
  Flow_runs = FlowRuns world here input code callers room

  abbrev Value_runs : Emit → Act S Val → Type 0
  Value_runs = ValueRuns world here input code callers room

  abbrev V : TExpr → At S Val
  V = value world here input call

  abbrev X : TStmt → Act S Flow
  X = execute world here input call

  runs : (e : TExpr) (line d : ℕ) → Value_runs (expr_code e line d) (V e line)
  runs = value_runs world here input code callers room call calls

  lies : (p : TPlace) (line d : ℕ) → Runs world here input code callers room on_stack (place_code p line d) (place world here input call p line)
  lies = place_runs world here input code callers room call calls

  never : (d : TStmt) → NeverAdds (X d)
  never = statement_never_adds world here input call falls

  -- ---- printing

  print_same : (format : List Piece) (vs : List Val) (k line pc : ℕ) (inner : List InnerLoop) → slice_get code.texts k ≡ Some format
      → holes format ≡ length vs
      → print_at world line (spot callers room inner pc (push_all vs [])) (slice_get code.texts k)
      ≡ (lift line (numbers vs) >>= (λ ns. print world (text format ns) line >> pure (Goes (spot callers room inner (pc + 1) []))))
  print_same format vs k line pc inner has count =
      let c = spot callers room inner pc (push_all vs []) in
      ap (λ t. print_at world line c t) has
      ∙ ap (λ n. lift line (numbers (reverse (take n (push_all vs []))))
      >>= (λ ns. print world (text format ns) line >> pure (Goes (spot callers room inner (pc + 1) (drop n (push_all vs [])))))) count
      ∙ (λ j. lift line (numbers (args_back vs [] j))
      >>= (λ ns. print world (text format ns) line >> pure (Goes (spot callers room inner (pc + 1) (rest_back vs [] j)))))

  print_runs : (format : List Piece) (es : List TExpr) (line : ℕ)
      → Flow_runs (λ out cont. exprs_code es line 0 ⨟ one (PrintOf format (length es)) line (length es))
      (values world here input call es line >>= (λ vs. lift line (numbers vs) >>= (λ ns. print world (text format ns) line >> pure Next)))
  print_runs format es line out cont after has inner s =
      let rest = one (PrintOf format (length es)) line (length es) after in
      let c = exprs_code es line 0 (suc after) in
      let shown = (has_back code after c rest has).0 in
      leads_seam callers room c rest after
      (leads_bind (values_run world here input code callers room call calls es line 0 (suc after) (has_front code after c rest has) inner [] s) (λ vs e.
      let count = (values_count world here input call es line).by s vs e in
      moves_at (i.Print shown.op.number) line _ (shown.op.instr, shown.at_line)
      (print_same format vs shown.op.number line (place_of code (suc after)) inner shown.op.has_text (shown.op.takes ∙ sym count))
      (moves_bind (lift line (numbers vs)) (λ ns _. moves_bind (print world (text format ns) line) (λ u _.
      moves_goes (leads_pure _ _ Next (ap (λ n. To (spot callers room inner n [])) (next_place code after shown.within))))))))

  -- ---- annotated loops

  loop_of : (line k : ℕ) (start : Option Start) (bound : Bound) (body : Ended) (p : Act S Flow) → Flow_runs body p
      → Flow_runs (λ out cont. annotated_code line k start bound body)
      (annotated_loop world here k line (start_value world here input call start) bound p)
  loop_of line k None bound body p h = λ out cont. flows_nothing world here input code callers room out cont
  loop_of line k (Some c) bound body p h = λ out cont after has inner s.
      after_value world here input code callers room (expr_code c.value c.line 0) (trips_code line k c.counter bound body) _ _
      (runs c.value c.line 0) after has inner [] s
      (λ v t has. annotated_runs world here input code callers room line k c.counter bound body p out cont h after has inner v t)

  -- ---- nodes

  abbrev KindOk : TKind → Type 0
  KindOk d = (line : ℕ) → Flow_runs (code_of_kind d line) (execute_kind world here input call d line)

  abbrev StmtOk : TStmt → Type 0
  StmtOk d = Flow_runs (stmt_code d) (X d)

  abbrev K : Type 0
  K = With TKind KindOk

  abbrev Z : Type 0
  Z = With TStmt StmtOk

  abbrev kind_parts : TKind-F K Z → TKind-F TKind TStmt
  kind_parts y = map-TKind K Z TKind TStmt (λ e. e.0) (λ p. p.0) y

  abbrev stmt_parts : TStmt-F K Z → TStmt-F TKind TStmt
  stmt_parts y = map-TStmt K Z TKind TStmt (λ e. e.0) (λ p. p.0) y

  abbrev stmt_does_part : TStmt → TStmt × Act S Flow
  stmt_does_part d = (d, X d)

  abbrev stmt_code_part : TStmt → Part
  stmt_code_part d = (d, stmt_code d)

  abbrev does_parts : TKind-F K Z → TKind-F (TKind × At S Flow) (TStmt × Act S Flow)
  does_parts y = map-TKind TKind TStmt (TKind × At S Flow) (TStmt × Act S Flow) (λ d. (d, execute_kind world here input call d)) stmt_does_part (kind_parts y)

  abbrev code_parts : TKind-F K Z → TKind-F (TKind × (ℕ → Ended)) Part
  code_parts y = map-TKind TKind TStmt (TKind × (ℕ → Ended)) Part (λ d. (d, code_of_kind d)) stmt_code_part (kind_parts y)

  block_runs : (zs : List Z)
      → Flow_runs (block_code (map stmt_code_part (map (λ e. e.0) zs))) (sequence (all_do (map stmt_does_part (map (λ e. e.0) zs))))
  block_runs [] = λ out cont. flows_nothing world here input code callers room out cont
  block_runs (z ∷ zs) = λ out cont.
      flows_then world here input code callers room out cont (stmt_code z.0 out cont)
      (block_code (map stmt_code_part (map (λ e. e.0) zs)) out cont) _ _ (z.1 out cont) (block_runs zs out cont)

  for_runs : (line : ℕ) (test : Option TExpr) (body : Z) (first third : Ended) (p q : Act S Flow) → Flow_runs first p → Flow_runs third q → NeverAdds q
      → Flow_runs (λ out cont. first out cont ⨟ loop_code line test (stmt_code body.0) (third out cont))
      (p >>= then_flow (turns line (test_value world here input call test line) (X body.0) q))
  for_runs line test body first third p q h k qf out cont =
      flows_then world here input code callers room out cont (first out cont) (loop_code line test (stmt_code body.0) (third out cont)) _ _ (h out cont)
      (λ after has inner. loop_runs world here input code callers room call calls falls line test (stmt_code body.0) (third out cont) (X body.0) q
      out cont body.1 (k out cont) (never body.0) qf after has inner)

  no_code : Flow_runs (λ out cont. nothing) (pure Next)
  no_code = flows_nothing world here input code callers room

  result_runs : (e : Option TExpr) (line : ℕ) → Value_runs (result_code e line) (result_value world here input call e line)
  result_runs (Some e) line = runs e line 0
  result_runs None line = pushes world here input code callers room (i.Push (pos 0)) line 0 (Int (pos 0)) (λ pc inner st. refl)

  break_runs : (line : ℕ) (out : Option ℕ) (cont after : ℕ) → Has code after (one (out_op out) line 0 after) → (inner : List InnerLoop) (s : State S)
      → Gets s (on inner (suc after) []) (pure Broke) (to inner out cont after)
  break_runs line (Some out) cont after has inner s = leads_jump callers room has.0 (leads_pure s _ Broke refl)
  break_runs line None cont after has inner s = absurd has.0.op

  runs_layer : (y : TKind-F K Z) (line : ℕ) → Flow_runs (kind_code (code_parts y) line) (kind_does world here input call (does_parts y) line)
  runs_layer TKind-F.Empty line = no_code
  runs_layer (TKind-F.SetLocal k e) line = λ out cont after has inner s.
      after_value world here input code callers room (expr_code e line 0) (one (As (i.SetLocal k)) line 1) _ _ (runs e line 0) after has inner [] s
      (λ v t has.
      last world here input code callers room out cont (set_local world k v line) has.0 (λ pc. refl))
  runs_layer (TKind-F.Store p e) line = λ out cont after has inner s.
      after_value world here input code callers room (place_code p line 0) (expr_code e line 1 ⨟ one (As i.Store) line 2) _ _
      (lies p line 0) after has inner [] s
      (λ q t has.
      after_value world here input code callers room (expr_code e line 1) (one (As i.Store) line 2) _ _ (runs e line 1) after has inner (on_stack q ∷ []) t
      (λ v t has. last world here input code callers room out cont (store world q v line) has.0 (λ pc. refl)))
  runs_layer (TKind-F.UpdateLocal op k e) line = λ out cont after has inner s.
      leads_bind (leads_one callers room (λ x. x ∷ []) has.0 (λ pc. refl)) (λ x _.
      after_value world here input code callers room (expr_code e line 1) (one (As (i.Binary op)) line 2 ⨟ one (As (i.SetLocal k)) line 1) _ _ (runs e line 1)
      after has.1 inner (x ∷ []) _ (λ y t has.
      leads_bind (leads_one callers room (λ z. z ∷ []) has.0 (λ pc. refl)) (λ z _.
      last world here input code callers room out cont (set_local world k z line) has.1.0 (λ pc. refl))))
  runs_layer (TKind-F.UpdateAt op p e) line = λ out cont after has inner s.
      after_value world here input code callers room (place_code p line 0)
      (one (As i.Dup) line 1 ⨟ (one (As (i.Load kind.Int)) line 2 ⨟ (expr_code e line 2 ⨟ (one (As (i.Binary op)) line 3 ⨟ one (As i.Store) line 2))))
      _ _ (lies p line 0) after has inner [] s (λ q t has.
      leads_move callers room has.0 (λ pc. refl)
      (leads_bind (leads_one callers room (λ x. x ∷ on_stack q ∷ []) has.1.0 (λ pc. refl)) (λ x _.
      after_value world here input code callers room (expr_code e line 2) (one (As (i.Binary op)) line 3 ⨟ one (As i.Store) line 2) _ _ (runs e line 2)
      after has.1.1 inner (x ∷ on_stack q ∷ []) _ (λ y t has.
      leads_bind (leads_one callers room (λ z. z ∷ on_stack q ∷ []) has.0 (λ pc. refl)) (λ z _.
      last world here input code callers room out cont (store world q z line) has.1.0 (λ pc. refl))))))
  runs_layer (TKind-F.Call e) line = λ out cont after has inner s.
      after_value world here input code callers room (expr_code e line 0) (one (As i.Drop) line 1) _ _ (runs e line 0) after has inner [] s (λ v t has.
      leads_move callers room has.0 (λ pc. refl) (leads_pure t _ Next refl))
  runs_layer (TKind-F.Print format es) line = print_runs format es line
  runs_layer (TKind-F.If e a (Some b)) line = λ out cont after has inner s.
      after_value world here input code callers room (expr_code e line 0) (if_code line (stmt_code a.0 out cont) (stmt_code b.0 out cont)) _ _ (runs e line 0)
      after has inner [] s (λ v t has.
      if_runs world here input code callers room line out cont (stmt_code a.0 out cont) (stmt_code b.0 out cont) _ _ (a.1 out cont) (b.1 out cont)
      after has inner v t)
  runs_layer (TKind-F.If e a None) line = λ out cont after has inner s.
      after_value world here input code callers room (expr_code e line 0) (when_code line (stmt_code a.0 out cont)) _ _ (runs e line 0) after has inner [] s
      (λ v t has. when_runs world here input code callers room line out cont (stmt_code a.0 out cont) _ (a.1 out cont) after has inner v t)
  runs_layer (TKind-F.While e a) line = λ out cont after has inner.
      loop_runs world here input code callers room call calls falls line (Some e) (stmt_code a.0) nothing (X a.0) (pure Next) out cont a.1
      (no_code out cont) (never a.0) (pure_never_adds Next) after has inner
  runs_layer (TKind-F.For (Some first) test (Some third) body None) line =
      for_runs line test body (stmt_code first.0) (stmt_code third.0) _ _ first.1 third.1 (never third.0)
  runs_layer (TKind-F.For (Some first) test None body None) line =
      for_runs line test body (stmt_code first.0) (λ out cont. nothing) _ _ first.1 no_code (pure_never_adds Next)
  runs_layer (TKind-F.For None test (Some third) body None) line =
      for_runs line test body (λ out cont. nothing) (stmt_code third.0) _ _ no_code third.1 (never third.0)
  runs_layer (TKind-F.For None test None body None) line =
      for_runs line test body (λ out cont. nothing) (λ out cont. nothing) _ _ no_code no_code (pure_never_adds Next)
  runs_layer (TKind-F.For (Some first) test third body (Some k)) line =
      loop_of line k (start_of (Some first.0)) (bound_of test) (stmt_code body.0) (X body.0) body.1
  runs_layer (TKind-F.For None test third body (Some k)) line = no_code
  runs_layer (TKind-F.Block zs) line = block_runs zs
  runs_layer (TKind-F.Return e) line = λ out cont after has inner s.
      after_value world here input code callers room (result_code e line) (one (As i.Return) line 1) _ _ (result_runs e line) after has inner [] s (λ v t has.
      leads_return line v (has.0.op, has.0.at_line) refl (Returned v) refl)
  runs_layer TKind-F.Break line = λ out cont after has inner s. break_runs line out cont after has inner s
  runs_layer TKind-F.Continue line = λ out cont after has inner s. leads_jump callers room has.0 (leads_pure s _ Continued refl)

  kind_step : (y : TKind-F K Z) → KindOk (roll-TKind (kind_parts y))
  unfolding execute execute_kind stmt_code code_of_kind
  kind_step y line =
      let d = kind_parts y in
      subst (λ (c : ℕ → Ended). Flow_runs (c line) (execute_kind world here input call (roll-TKind d) line))
      (sym (para-roll-TKind (ℕ → Ended) Ended kind_code stmt_code_case d))
      (subst (λ (p : At S Flow). Flow_runs (kind_code (code_parts y) line) (p line))
      (sym (para-roll-TKind (At S Flow) (Act S Flow) (kind_does world here input call) (stmt_does world here input call) d)) (runs_layer y line))

  stmt_layer : (y : TStmt-F K Z)
      → Flow_runs (λ out cont. one (As i.Step) y.line 0 ⨟ code_of_kind y.kind.0 y.line out cont)
      (spend y.line >> execute_kind world here input call y.kind.0 y.line)
  stmt_layer y out cont after has inner s =
      leads_bind (leads_one callers room (λ u. []) has.0 (λ pc. refl)) (λ u _. y.kind.1 y.line out cont after has.1 inner _)

  stmt_step : (y : TStmt-F K Z) → StmtOk (roll-TStmt (stmt_parts y))
  unfolding execute execute_kind stmt_code code_of_kind
  stmt_step y =
      let d = stmt_parts y in
      subst (λ (c : Ended). Flow_runs c (X (roll-TStmt d))) (sym (para-roll-TStmt (ℕ → Ended) Ended kind_code stmt_code_case d))
      (subst (λ (p : Act S Flow). Flow_runs (λ out cont. one (As i.Step) y.line 0 ⨟ code_of_kind y.kind.0 y.line out cont) p)
      (sym (para-roll-TStmt (At S Flow) (Act S Flow) (kind_does world here input call) (stmt_does world here input call) d)) (stmt_layer y))

  pub stmt_runs : (d : TStmt) → StmtOk d
  stmt_runs = stmt_induct KindOk StmtOk kind_step stmt_step

  pub stmts_run : (ds : List TStmt) → Flow_runs (stmts_code ds) (execute_all world here input call ds)
  stmts_run [] = no_code
  stmts_run (d ∷ ds) = λ out cont.
      flows_then world here input code callers room out cont (stmt_code d out cont) (stmts_code ds out cont) _ _ (stmt_runs d out cont)
      (stmts_run ds out cont)
