-- The code of a typed tree, by how many instructions follow it.
use Rattle.std.specs.Prelude.{ℕ, suc, ◌+◌, Bool, true, false, List, [], ◌∷◌, ◌++◌, length, Option, Some, None, ℤ, pos}
use Rattle.al_core.specs.declared.choices.Bound.{Bound}
use Rattle.al_core.specs.declared.values.Kind.TheVariants as kind
use Rattle.al_core.specs.declared.typed_tree.TExpr.{TExpr, fold-TExpr}
use Rattle.al_core.specs.declared.typed_tree.TPlace.{TPlace, fold-TPlace}
use Rattle.al_core.specs.declared.typed_tree.TExpr.TheOpen.{TExpr-F, TPlace-F}
use Rattle.al_core.specs.declared.typed_tree.TStmt.{TStmt, para-TStmt}
use Rattle.al_core.specs.declared.typed_tree.TKind.{TKind, para-TKind}
use Rattle.al_core.specs.declared.typed_tree.TKind.TheOpen.{TStmt-F, TKind-F}
use Rattle.al_core.specs.declared.typed_tree.TFunc.{TFunc}
use Rattle.al_core.specs.Loops.{Start, any_stmt, start_of, bound_of}
use Rattle.al_code.specs.declared.instructions.Instr.TheVariants as i
use Rattle.al_code_laws.specs.declared.plan.Op.{Op}
use Rattle.al_code_laws.specs.declared.plan.Op.TheVariants.{As, JumpTo, JumpIfTo, CallOf, PrintOf, LoopTo, EndOf, Never}
use Rattle.al_code_laws.specs.Planned.{planned, past, Emit, nothing, one, ◌⨟◌}

-- at a line, where the stack has so many values
abbrev pub Lined : Type 0
Lined = ℕ → ℕ → Emit

-- ---- expressions and places

-- each value is put on those before it
abbrev pub in_turn : ℕ → ℕ → List Lined → Emit
in_turn line h [] after = []
in_turn line h (c ∷ cs) after = (c line h ⨟ in_turn line (suc h) cs) after

-- `&&` and `||`: a jump past the second operand, where the first tells the answer
abbrev pub short : ℕ → ℕ → Bool → ℤ → Emit → Emit
short line h b answer c after =
    planned (JumpIfTo b (suc after)) line (suc h)
    ∷ (c (suc (suc (suc after)))
    ++ (planned (As i.Truth) line (suc h)
    ∷ planned (JumpTo after) line (suc h)
    ∷ planned (As (i.Push answer)) line h
    ∷ []))

abbrev pub expr_code_case : TExpr-F Lined Lined → Lined
expr_code_case (TExpr-F.Number n) line h = one (As (i.Push n)) line h
expr_code_case (TExpr-F.Local k) line h = one (As (i.GetLocal k)) line h
expr_code_case (TExpr-F.Load want p) line h = p line h ⨟ one (As (i.Load want)) line (suc h)
expr_code_case (TExpr-F.Addr p) line h = p line h
expr_code_case (TExpr-F.Unary op a) line h = a line h ⨟ one (As (i.Unary op)) line (suc h)
expr_code_case (TExpr-F.Binary op a b) line h =
    a line h ⨟ (b line (suc h) ⨟ one (As (i.Binary op)) line (suc (suc h)))
expr_code_case (TExpr-F.Same equal a b) line h =
    a line h ⨟ (b line (suc h) ⨟ one (As (i.Same equal)) line (suc (suc h)))
expr_code_case (TExpr-F.And a b) line h = a line h ⨟ short line h false (pos 0) (b line h)
expr_code_case (TExpr-F.Or a b) line h = a line h ⨟ short line h true (pos 1) (b line h)
expr_code_case (TExpr-F.Call f args) line h =
    in_turn line h args ⨟ one (CallOf f (length args)) line (h + length args)
expr_code_case (TExpr-F.Input a) line h = a line h ⨟ one (As i.Input) line (suc h)
expr_code_case TExpr-F.Inputs line h = one (As i.Inputs) line h
expr_code_case (TExpr-F.Choose op a b) line h =
    a line h ⨟ (b line (suc h) ⨟ one (As (i.Choose op)) line (suc (suc h)))
expr_code_case (TExpr-F.Calloc a size) line h = a line h ⨟ one (As (i.Calloc size)) line (suc h)
expr_code_case (TExpr-F.Free a) line h = a line h ⨟ one (As i.Free) line (suc h)

abbrev pub place_code_case : TPlace-F Lined Lined → Lined
place_code_case (TPlace-F.Global k) line h = one (As (i.Global k)) line h
place_code_case (TPlace-F.At e) line h = e line h ⨟ one (As i.NotNull) line (suc h)
place_code_case (TPlace-F.Plus p n) line h = p line h ⨟ one (As (i.Plus n)) line (suc h)
place_code_case (TPlace-F.Elem p e size) line h =
    p line h ⨟ (e line (suc h) ⨟ one (As (i.Elem size)) line (suc (suc h)))

unfoldable pub expr_code : TExpr → Lined
expr_code = fold-TExpr Lined Lined expr_code_case place_code_case

unfoldable pub place_code : TPlace → Lined
place_code = fold-TPlace Lined Lined expr_code_case place_code_case

abbrev pub exprs_code : List TExpr → Lined
exprs_code [] line h after = []
exprs_code (e ∷ es) line h after = (expr_code e line h ⨟ exprs_code es line (suc h)) after

-- ---- statements

-- by where `break` leads, if it may stand there, where `continue` leads, and how many instructions follow
abbrev pub Ended : Type 0
Ended = Option ℕ → ℕ → Emit

-- the parts of a statement stand beside their code
abbrev pub Part : Type 0
Part = TStmt × Ended

abbrev pub block_code : List Part → Ended
block_code [] out cont after = []
block_code (c ∷ cs) out cont after = (c.1 out cont ⨟ block_code cs out cont) after

abbrev pub any_code : Option Part → Ended
any_code (Some c) out cont = c.1 out cont
any_code None out cont = nothing

-- a test, and what follows where it holds and where it does not
abbrev pub if_code : ℕ → Emit → Emit → Emit
if_code line a b after =
    planned (JumpIfTo false (past (b after) after)) line 1
    ∷ (a (suc (past (b after) after)) ++ (planned (JumpTo after) line 0 ∷ b after))

abbrev pub when_code : ℕ → Emit → Emit
when_code line a after = planned (JumpIfTo false after) line 1 ∷ a after

abbrev pub choice_code : ℕ → Ended → Option Part → Ended
choice_code line a (Some b) out cont = if_code line (a out cont) (b.1 out cont)
choice_code line a None out cont = when_code line (a out cont)

-- where a test fails, past the loop
abbrev pub test_code : Option TExpr → ℕ → ℕ → Emit
test_code (Some e) line exit = expr_code e line 0 ⨟ one (JumpIfTo false exit) line 1
test_code None line exit = nothing

-- a turn: a step, the test, the body and the third part
abbrev pub turn_code : ℕ → Option TExpr → Ended → Emit → ℕ → Emit
turn_code line test body third exit =
    one (As i.Step) line 0 ⨟ (test_code test line exit ⨟ ((λ m. body (Some exit) m m) ⨟ third))

-- turns, with a jump back
abbrev pub loop_code : ℕ → Option TExpr → Ended → Emit → Emit
loop_code line test body third after =
    turn_code line test body third after (suc after)
    ++ (planned (JumpTo (past (turn_code line test body third after (suc after)) (suc after))) line 0 ∷ [])

-- the trips of an annotated loop, whose start is on the stack
abbrev pub trips_code : ℕ → ℕ → ℕ → Bound → Ended → Emit
trips_code line k counter bound body after =
    planned (LoopTo k counter bound after) line 1
    ∷ (body None (suc after) (suc after) ++ (planned (EndOf k) line 0 ∷ []))

abbrev pub annotated_code : ℕ → ℕ → Option Start → Bound → Ended → Emit
annotated_code line k (Some start) bound body =
    expr_code start.value start.line 0 ⨟ trips_code line k start.counter bound body
annotated_code line k None bound body = nothing

abbrev pub out_op : Option ℕ → Op
out_op (Some out) = JumpTo out
out_op None = Never

abbrev pub result_code : Option TExpr → ℕ → Emit
result_code (Some e) line = expr_code e line 0
result_code None line = one (As (i.Push (pos 0))) line 0

abbrev pub kind_code : TKind-F (TKind × (ℕ → Ended)) Part → ℕ → Ended
kind_code TKind-F.Empty line out cont = nothing
kind_code (TKind-F.SetLocal k e) line out cont = expr_code e line 0 ⨟ one (As (i.SetLocal k)) line 1
kind_code (TKind-F.Store p e) line out cont =
    place_code p line 0 ⨟ (expr_code e line 1 ⨟ one (As i.Store) line 2)
kind_code (TKind-F.UpdateLocal op k e) line out cont =
    one (As (i.GetLocal k)) line 0
    ⨟ (expr_code e line 1 ⨟ (one (As (i.Binary op)) line 2 ⨟ one (As (i.SetLocal k)) line 1))
kind_code (TKind-F.UpdateAt op p e) line out cont =
    place_code p line 0
    ⨟ (one (As i.Dup) line 1
    ⨟ (one (As (i.Load kind.Int)) line 2
    ⨟ (expr_code e line 2 ⨟ (one (As (i.Binary op)) line 3 ⨟ one (As i.Store) line 2))))
kind_code (TKind-F.Call e) line out cont = expr_code e line 0 ⨟ one (As i.Drop) line 1
kind_code (TKind-F.Print format es) line out cont =
    exprs_code es line 0 ⨟ one (PrintOf format (length es)) line (length es)
kind_code (TKind-F.If e a b) line out cont = expr_code e line 0 ⨟ choice_code line a.1 b out cont
kind_code (TKind-F.While e a) line out cont = loop_code line (Some e) a.1 nothing
kind_code (TKind-F.For first test third body None) line out cont =
    any_code first out cont ⨟ loop_code line test body.1 (any_code third out cont)
kind_code (TKind-F.For first test third body (Some k)) line out cont =
    annotated_code line k (start_of (any_stmt first)) (bound_of test) body.1
kind_code (TKind-F.Block cs) line out cont = block_code cs out cont
kind_code (TKind-F.Return e) line out cont = result_code e line ⨟ one (As i.Return) line 1
kind_code TKind-F.Break line out cont = one (out_op out) line 0
kind_code TKind-F.Continue line out cont = one (JumpTo cont) line 0

-- every statement spends a step first
abbrev pub stmt_code_case : TStmt-F (TKind × (ℕ → Ended)) Part → Ended
stmt_code_case s out cont = one (As i.Step) s.line 0 ⨟ s.kind.1 s.line out cont

unfoldable pub stmt_code : TStmt → Ended
stmt_code = para-TStmt (ℕ → Ended) Ended kind_code stmt_code_case

unfoldable pub code_of_kind : TKind → ℕ → Ended
code_of_kind = para-TKind (ℕ → Ended) Ended kind_code stmt_code_case

abbrev pub stmts_code : List TStmt → Ended
stmts_code [] out cont after = []
stmts_code (s ∷ ss) out cont after = (stmt_code s out cont ⨟ stmts_code ss out cont) after

-- ---- functions

-- the body, and 0 for where no return gives a value
abbrev pub function_code : TFunc → Emit
function_code f after =
    stmts_code f.body (Some (suc (suc after))) (suc (suc after)) (suc (suc after))
    ++ (planned (As (i.Push (pos 0))) f.line 0 ∷ planned (As i.Return) f.line 1 ∷ [])
