-- What a program does in a world: one case a node.
use Rattle.std.specs.Prelude.{ℕ, zero, suc, ◌-◌, true, false, if◌then◌else◌, List, [], ◌∷◌, ◌++◌, length, replicate, Option, Some, None, Err, slice_get, ℤ, pos, ◌+ℤ◌}
use Rattle.std.specs.Int.{int_max}
use Rattle.al_core.specs.declared.values.Obj.TheVariants.{Global}
use Rattle.al_core.specs.declared.values.Val.TheVariants.{Int, Ptr}
use Rattle.al_core.specs.declared.values.Kind.TheVariants as kind
use Rattle.al_core.specs.declared.values.Trap.TheVariants as trap
use Rattle.al_core.specs.declared.choices.Bound.{Bound}
use Rattle.al_core.specs.declared.choices.Bound.TheVariants as bound
use Rattle.al_core.specs.declared.typed_tree.TExpr.{TExpr, fold-TExpr}
use Rattle.al_core.specs.declared.typed_tree.TPlace.{TPlace, fold-TPlace}
use Rattle.al_core.specs.declared.typed_tree.TExpr.TheOpen.{TExpr-F, TPlace-F}
use Rattle.al_core.specs.declared.typed_tree.TStmt.{TStmt, para-TStmt}
use Rattle.al_core.specs.declared.typed_tree.TKind.{TKind, para-TKind}
use Rattle.al_core.specs.declared.typed_tree.TKind.TheOpen.{TStmt-F, TKind-F}
use Rattle.al_core.specs.declared.typed_tree.TFunc.{TFunc}
use Rattle.al_source.specs.Steps.{and_then}
use Rattle.al_core.specs.World.{Val, Pointer, World}
use Rattle.al_core.specs.Values.{truth, of_test, number, numbers, operate, operate_one, choose, compare, point, shift, element, input_at, words_of, text, trips}
use Rattle.al_core.specs.Action.{AllPrivate, Frame, Act, At, pure, lift, spend, get_budget, ◌>>=◌, ◌>>◌, all, get_local, set_local, load, store, make, free, print, visit, enter, leave}
use Rattle.al_core.specs.Loops.{Start, any_stmt, start_of, bound_of}

-- how a statement ends, where it does not trap
pub data Flow : Type 0 where
  Next : Flow
  Broke : Flow
  Continued : Flow
  Returned : Val → Flow

-- a function that ends without `return` gives 0
abbrev pub returned : Flow → Val
returned (Returned v) = v
returned _ = Int (pos 0)

-- whether code stands outside the iterations of annotated loops, or inside one
pub data Where : Type 0 where
  Outside : Where
  Inside : Where

module _ {S : Type 0} where
  -- ---- lists of statements

  abbrev pub then_flow : Act S Flow → Flow → Act S Flow
  then_flow p Next = p
  then_flow p f = pure f

  abbrev pub sequence : List (Act S Flow) → Act S Flow
  sequence [] = pure Next
  sequence (p ∷ ps) = p >>= then_flow (sequence ps)

  abbrev pub at_each : {A : Type 0} → ℕ → List (At S A) → List (Act S A)
  at_each line [] = []
  at_each line (p ∷ ps) = p line ∷ at_each line ps

  -- the parts of a statement stand beside what they do
  abbrev pub all_do : List (TStmt × Act S Flow) → List (Act S Flow)
  all_do [] = []
  all_do (p ∷ ps) = p.1 ∷ all_do ps

  abbrev pub if_any : Option (TStmt × Act S Flow) → Act S Flow
  if_any (Some p) = p.1
  if_any None = pure Next

  -- ---- loops

  -- after the body of a loop: again, or past the loop
  abbrev pub turn_end : Act S Flow → Flow → Act S Flow
  turn_end again Next = again
  turn_end again Broke = pure Next
  turn_end again Continued = again
  turn_end again (Returned v) = pure (Returned v)

  -- At most so many turns. A turn spends a step at the test, then tests, then does the body and the third part.
  abbrev pub turns_to : ℕ → ℕ → Act S Val → Act S Flow → Act S Flow → Act S Flow
  turns_to zero line test body third = lift line (Err trap.Steps)
  turns_to (suc n) line test body third =
      spend line
      >> (test
      >>= (λ v. if truth v then body >>= turn_end (third >>= then_flow (turns_to n line test body third))
      else pure Next))

  -- Since a turn spends a step, more turns than one past the budget are never begun, and the case of no turn left is
  -- never met.
  abbrev pub turns : ℕ → Act S Val → Act S Flow → Act S Flow → Act S Flow
  turns line test body third = get_budget >>= (λ n. turns_to (suc n) line test body third)

module _ {S : Type 0} (world : World S) where
  abbrev pub bound_value : Bound → At S ℤ
  bound_value (bound.Number n) line = pure n
  bound_value (bound.Local k) line = get_local world k line >>= (λ v. lift line (number v))

  -- From trip j on, so many trips more: each spends a step, sets the counter and does the body.
  abbrev pub trips_to : ℕ → ℕ → ℕ → ℤ → ℕ → Act S Flow → Act S Flow
  trips_to zero line counter lo j body = pure Next
  trips_to (suc n) line counter lo j body =
      spend line
      >> (set_local world counter (Int (lo +ℤ pos j)) line
      >> (body >>= turn_end (trips_to n line counter lo (suc j) body)))

  -- Inside an iteration an annotated loop is an ordinary one. Its counter ends at the greater of its start and its
  -- bound.
  abbrev pub ordinary_trips : ℕ → ℕ → ℤ → ℤ → Act S Flow → Act S Flow
  ordinary_trips line counter lo hi body =
      lift line (trips lo hi)
      >>= (λ n. trips_to n line counter lo 0 body
      >>= then_flow (set_local world counter (Int (int_max lo hi)) line >> pure Next))

  -- outside it is handed on
  abbrev pub annotated : Where → ℕ → ℕ → ℕ → ℤ → ℤ → Act S Flow → Act S Flow
  annotated Outside loop line counter lo hi body = visit world loop lo hi >> pure Next
  annotated Inside loop line counter lo hi body = ordinary_trips line counter lo hi body

  -- an annotated loop's start is evaluated, and then its bound is read
  abbrev pub annotated_loop : Where → ℕ → ℕ → Option (ℕ × Act S Val) → Bound → Act S Flow → Act S Flow
  annotated_loop here loop line (Some (counter, start)) bound body =
      start
      >>= (λ v. lift line (number v)
      >>= (λ lo. bound_value bound line >>= (λ hi. annotated here loop line counter lo hi body)))
  annotated_loop here loop line None bound body = pure Next

-- ---- the tree, in a world, outside or inside iterations, for an input and for what calls do

module _ {S : Type 0} (world : World S) (here : Where) (input : List ℤ) (call : ℕ → List Val → At S Val) where
  abbrev pub expr_case : TExpr-F (At S Val) (At S Pointer) → At S Val
  expr_case (TExpr-F.Number n) line = pure (Int n)
  expr_case (TExpr-F.Local k) line = get_local world k line
  expr_case (TExpr-F.Load want p) line = p line >>= (λ q. load world q want line)
  expr_case (TExpr-F.Addr p) line = p line >>= (λ q. pure (Ptr q.0 q.1))
  expr_case (TExpr-F.Unary op a) line = a line >>= (λ x. lift line (operate_one op x))
  expr_case (TExpr-F.Binary op a b) line = a line >>= (λ x. b line >>= (λ y. lift line (operate op x y)))
  expr_case (TExpr-F.Same equal a b) line = a line >>= (λ x. b line >>= (λ y. pure (compare equal x y)))
  expr_case (TExpr-F.And a b) line =
      a line >>= (λ x. if truth x then b line >>= (λ y. pure (of_test (truth y))) else pure (of_test false))
  expr_case (TExpr-F.Or a b) line =
      a line >>= (λ x. if truth x then pure (of_test true) else b line >>= (λ y. pure (of_test (truth y))))
  expr_case (TExpr-F.Call f args) line = all (at_each line args) >>= (λ vs. call f vs line)
  expr_case (TExpr-F.Input a) line = a line >>= (λ x. lift line (and_then (number x) (input_at input)))
  expr_case TExpr-F.Inputs line = pure (Int (pos (length input)))
  expr_case (TExpr-F.Choose op a b) line = a line >>= (λ x. b line >>= (λ y. lift line (choose op x y)))
  expr_case (TExpr-F.Calloc a size) line =
      a line >>= (λ x. lift line (and_then (number x) (λ n. words_of n size)) >>= (λ words. make world words line))
  expr_case (TExpr-F.Free a) line = a line >>= (λ x. free world x line)

  -- a place is formed without reading memory beyond its operands
  abbrev pub place_case : TPlace-F (At S Val) (At S Pointer) → At S Pointer
  place_case (TPlace-F.Global k) line = pure (Global k, 0)
  place_case (TPlace-F.At e) line = e line >>= (λ v. lift line (point v))
  place_case (TPlace-F.Plus p n) line = p line >>= (λ q. lift line (shift q n))
  place_case (TPlace-F.Elem p i size) line = p line >>= (λ q. i line >>= (λ v. lift line (element q v size)))

  unfoldable pub value : TExpr → At S Val
  value = fold-TExpr (At S Val) (At S Pointer) expr_case place_case

  unfoldable pub place : TPlace → At S Pointer
  place = fold-TPlace (At S Val) (At S Pointer) expr_case place_case

  abbrev pub values : List TExpr → At S (List Val)
  values [] line = pure []
  values (e ∷ es) line = value e line >>= (λ v. values es line >>= (λ vs. pure (v ∷ vs)))

  -- an absent test holds
  abbrev pub test_value : Option TExpr → At S Val
  test_value (Some e) line = value e line
  test_value None line = pure (Int (pos 1))

  abbrev pub result_value : Option TExpr → At S Val
  result_value (Some e) line = value e line
  result_value None line = pure (Int (pos 0))

  -- the start of an annotated loop, with the line of its first part
  abbrev pub start_value : Option Start → Option (ℕ × Act S Val)
  start_value (Some start) = Some (start.counter, value start.value start.line)
  start_value None = None

  abbrev pub kind_does : TKind-F (TKind × At S Flow) (TStmt × Act S Flow) → At S Flow
  kind_does TKind-F.Empty line = pure Next
  kind_does (TKind-F.SetLocal k e) line = value e line >>= (λ v. set_local world k v line >> pure Next)
  kind_does (TKind-F.Store p e) line =
      place p line >>= (λ q. value e line >>= (λ v. store world q v line >> pure Next))
  kind_does (TKind-F.UpdateLocal op k e) line =
      get_local world k line
      >>= (λ x. value e line >>= (λ y. lift line (operate op x y) >>= (λ z. set_local world k z line >> pure Next)))
  kind_does (TKind-F.UpdateAt op p e) line =
      place p line
      >>= (λ q. load world q kind.Int line
      >>= (λ x. value e line >>= (λ y. lift line (operate op x y) >>= (λ z. store world q z line >> pure Next))))
  kind_does (TKind-F.Call e) line = value e line >> pure Next
  kind_does (TKind-F.Print format es) line =
      values es line >>= (λ vs. lift line (numbers vs) >>= (λ ns. print world (text format ns) line >> pure Next))
  kind_does (TKind-F.If e a b) line = value e line >>= (λ v. if truth v then a.1 else if_any b)
  kind_does (TKind-F.While e a) line = turns line (value e line) a.1 (pure Next)
  kind_does (TKind-F.For first test third body None) line =
      if_any first >>= then_flow (turns line (test_value test line) body.1 (if_any third))
  kind_does (TKind-F.For first test third body (Some loop)) line =
      annotated_loop world here loop line (start_value (start_of (any_stmt first))) (bound_of test) body.1
  kind_does (TKind-F.Block ps) line = sequence (all_do ps)
  kind_does (TKind-F.Return e) line = result_value e line >>= (λ v. pure (Returned v))
  kind_does TKind-F.Break line = pure Broke
  kind_does TKind-F.Continue line = pure Continued

  -- every statement spends a step first
  abbrev pub stmt_does : TStmt-F (TKind × At S Flow) (TStmt × Act S Flow) → Act S Flow
  stmt_does s = spend s.line >> s.kind.1 s.line

  unfoldable pub execute : TStmt → Act S Flow
  execute = para-TStmt (At S Flow) (Act S Flow) kind_does stmt_does

  unfoldable pub execute_kind : TKind → At S Flow
  execute_kind = para-TKind (At S Flow) (Act S Flow) kind_does stmt_does

  abbrev pub execute_all : List TStmt → Act S Flow
  execute_all [] = pure Next
  execute_all (p ∷ ps) = execute p >>= then_flow (execute_all ps)

-- ---- calls

-- the locals of a function that is called: its arguments, and 0 in all others
abbrev pub frame_of : Option TFunc → List Val → Frame
frame_of (Some f) args =
    record { locals = args ++ replicate (length f.locals - length args) (Int (pos 0)); own = AllPrivate }
frame_of None args = record { locals = args; own = AllPrivate }

abbrev pub body_of : Option TFunc → List TStmt
body_of (Some f) = f.body
body_of None = []

-- A call, where so many more may be active: it spends a step, and then does the function's body in a frame of its own.
abbrev pub call_to : {S : Type 0} → World S → Where → List TFunc → List ℤ → ℕ → ℕ → List Val → At S Val
call_to world here funcs input zero f args line = lift line (Err trap.Depth)
call_to world here funcs input (suc n) f args line =
    spend line
    >> (enter (frame_of (slice_get funcs f) args)
    >>= (λ old. execute_all world here input (call_to world here funcs input n) (body_of (slice_get funcs f))
    >>= (λ flow. leave old (returned flow))))
