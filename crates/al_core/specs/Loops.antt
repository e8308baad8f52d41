-- The annotated loops of a program, as its tree has them.
use Rattle.std.specs.Prelude.{ℕ, ◌+◌, List, [], ◌∷◌, ◌++◌, map, length, Option, Some, None, slice_get, pos}
use Rattle.al_core.specs.declared.choices.Bound.{Bound}
use Rattle.al_core.specs.declared.choices.Bound.TheVariants as bound
use Rattle.al_core.specs.declared.choices.LoopInfo.{LoopInfo}
use Rattle.al_core.specs.declared.typed_tree.TExpr.{TExpr, out-TExpr}
use Rattle.al_core.specs.declared.typed_tree.TPlace.{TPlace}
use Rattle.al_core.specs.declared.typed_tree.TExpr.TheOpen.{TExpr-F}
use Rattle.al_core.specs.declared.typed_tree.TStmt.{TStmt, para-TStmt, out-TStmt}
use Rattle.al_core.specs.declared.typed_tree.TKind.{TKind, para-TKind, out-TKind}
use Rattle.al_core.specs.declared.typed_tree.TKind.TheOpen.{TKind-F}
use Rattle.al_core.specs.declared.typed_tree.TFunc.{TFunc}
use Rattle.al_core.specs.declared.typed_tree.TNote.{TNote}
use Rattle.al_core.specs.declared.typed_tree.Typed.{Typed}

-- ---- the loops in a statement

-- an annotated loop where it stands: its number and its parts
pub record ForLoop : Type 0 where
  pub number : ℕ
  pub first : Option TStmt
  pub test : Option TExpr
  pub third : Option TStmt
  pub body : TStmt

-- a statement, or a kind of one, and the annotated loops in it
abbrev pub Seen : Type 0
Seen = TStmt × List ForLoop

abbrev pub SeenKind : Type 0
SeenKind = TKind × List ForLoop

abbrev pub all_loops : List Seen → List ForLoop
all_loops [] = []
all_loops (s ∷ ss) = s.1 ++ all_loops ss

abbrev pub any_loops : Option Seen → List ForLoop
any_loops (Some s) = s.1
any_loops None = []

-- the statement of a part
abbrev pub any_stmt : {A : Type 0} → Option (TStmt × A) → Option TStmt
any_stmt (Some s) = Some s.0
any_stmt None = None

abbrev pub this_loop : Option Seen → Option TExpr → Option Seen → Seen → Option ℕ → List ForLoop
this_loop first test third body None = []
this_loop first test third body (Some n) =
    record { number = n; first = any_stmt first; test = test; third = any_stmt third; body = body.0 } ∷ []

-- A loop comes before those within it.
abbrev pub loops_here : TKind-F SeenKind Seen → List ForLoop
loops_here (TKind-F.If e a b) = a.1 ++ any_loops b
loops_here (TKind-F.While e a) = a.1
loops_here (TKind-F.For first test third body number) =
    this_loop first test third body number ++ any_loops first ++ any_loops third ++ body.1
loops_here (TKind-F.Block ss) = all_loops ss
loops_here _ = []

unfoldable pub for_loops : TStmt → List ForLoop
for_loops = para-TStmt (List ForLoop) (List ForLoop) loops_here (λ s. s.kind.1)

unfoldable pub for_loops_of : TKind → List ForLoop
for_loops_of = para-TKind (List ForLoop) (List ForLoop) loops_here (λ s. s.kind.1)

abbrev pub for_loops_in : List TStmt → List ForLoop
for_loops_in [] = []
for_loops_in (s ∷ ss) = for_loops s ++ for_loops_in ss

-- ---- the loops of a program

-- an annotated loop, with the function in which it stands
pub record PlacedLoop : Type 0 where
  pub func : TFunc
  pub loop : ForLoop

abbrev pub placed : TFunc → ForLoop → PlacedLoop
placed f l = record { func = f; loop = l }

abbrev pub placed_loops : List TFunc → List PlacedLoop
placed_loops [] = []
placed_loops (f ∷ fs) = map (placed f) (for_loops_in f.body) ++ placed_loops fs

-- all of them, in source order; the number of a loop is its place here
unfoldable pub program_loops : Typed → List PlacedLoop
program_loops typed = placed_loops typed.funcs

-- ---- the parts of a loop

-- the local that a first part sets, to which expression, and the line of that part
pub record Start : Type 0 where
  pub counter : ℕ
  pub value : TExpr
  pub line : ℕ

abbrev pub start_in : ℕ → TKind-F TKind TStmt → Option Start
start_in line (TKind-F.SetLocal k e) = Some (record { counter = k; value = e; line = line })
start_in line _ = None

abbrev pub start_of : Option TStmt → Option Start
start_of (Some s) = start_in (out-TStmt s).line (out-TKind (out-TStmt s).kind)
start_of None = None

-- the bound is a number or a local
abbrev pub bound_in : TExpr-F TExpr TPlace → Bound
bound_in (TExpr-F.Number n) = bound.Number n
bound_in (TExpr-F.Local k) = bound.Local k
bound_in _ = bound.Number (pos 0)

-- it is the right side of the test
abbrev pub right_side : TExpr-F TExpr TPlace → Bound
right_side (TExpr-F.Binary op a b) = bound_in (out-TExpr b)
right_side _ = bound.Number (pos 0)

abbrev pub bound_of : Option TExpr → Bound
bound_of (Some test) = right_side (out-TExpr test)
bound_of None = bound.Number (pos 0)

-- ---- a program's loop of a number

-- what the program says of the loop, how many locals its function has, and its body
pub record Loop : Type 0 where
  pub info : LoopInfo
  pub locals : ℕ
  pub body : TStmt

abbrev pub started_loop : ℕ → TNote → PlacedLoop → Option Start → Option Loop
started_loop n note l None = None
started_loop n note l (Some start) = Some (record {
  info = record {
    number = n;
    func = note.func;
    line = note.line;
    counter = start.counter;
    bound = bound_of l.loop.test;
    first = note.first;
    last = note.last;
    own = note.own;
  };
  locals = length l.func.locals;
  body = l.loop.body;
})

abbrev pub noted_loop : ℕ → Option TNote → Option PlacedLoop → Option Loop
noted_loop n (Some note) (Some l) = started_loop n note l (start_of l.loop.first)
noted_loop n None l = None
noted_loop n (Some note) None = None

-- In the tree of a source the entry of the number is that of the loop at this place.
abbrev pub loop_at : Typed → ℕ → Option Loop
loop_at typed n = noted_loop n (slice_get typed.loops n) (slice_get (program_loops typed) n)
