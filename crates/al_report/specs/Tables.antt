-- The table of a search for annotations.
use Rattle.std.specs.Prelude.{ℕ, ◌+◌, List, [], ◌∷◌, ◌++◌, codes, Option, Some, None, slice_get}
use Rattle.std.specs.List.{flat_map}
use Rattle.al_source.specs.declared.annotations.Policy.{Policy}
use Rattle.al_source.specs.declared.annotations.Policy.TheVariants as policy
use Rattle.al_source.specs.declared.annotations.CommitOrder.{CommitOrder}
use Rattle.al_source.specs.declared.annotations.CommitOrder.TheVariants.{InOrder, OutOfOrder}
use Rattle.al_source.specs.declared.operators.RedOp.{RedOp}
use Rattle.al_source.specs.declared.operators.RedOp.TheVariants.{Add, Mul, Min, Max, BitAnd, BitOr, BitXor}
use Rattle.al_core.specs.declared.values.Obj.TheVariants.{Global}
use Rattle.al_core.specs.declared.values.Addr.{Addr}
use Rattle.al_core.specs.declared.values.Addr.TheVariants.{Word, Local}
use Rattle.al_core.specs.declared.choices.Choice.{Choice}
use Rattle.al_core.specs.declared.choices.Red.{Red}
use Rattle.al_core.specs.declared.typed_tree.TFunc.{TFunc}
use Rattle.al_core.specs.declared.typed_tree.TGlobal.{TGlobal}
use Rattle.al_core.specs.declared.typed_tree.TLocal.{TLocal}
use Rattle.al_core.specs.declared.typed_tree.Typed.{Typed}
use Rattle.al_infer.specs.declared.tables.Found.{Found}
use Rattle.al_infer.specs.declared.tables.Found.TheVariants.{Accepted, Refused}
use Rattle.al_infer.specs.declared.tables.Table.{Table}
use Rattle.al_infer.specs.declared.tables.Why.{Why}
use Rattle.al_infer.specs.declared.tables.Why.TheVariants.{Output, Conflicts, Steps}
use Rattle.al_report.specs.Lines.{of_file}
use Rattle.al_report.specs.Traces.{labelled}

-- ---- annotations

abbrev pub policy_name : Policy → List ℕ
policy_name policy.Full = codes "FULL"
policy_name policy.Raw = codes "RAW"
policy_name policy.Waw = codes "WAW"
policy_name policy.None = codes "NONE"

abbrev pub order_name : CommitOrder → List ℕ
order_name InOrder = codes "InOrder"
order_name OutOfOrder = codes "OutOfOrder"

abbrev pub operator_name : RedOp → List ℕ
operator_name Add = codes "+"
operator_name Mul = codes "*"
operator_name Min = codes "min"
operator_name Max = codes "max"
operator_name BitAnd = codes "&"
operator_name BitOr = codes "|"
operator_name BitXor = codes "^"

abbrev pub global_name : Option TGlobal → List ℕ
global_name (Some g) = g.name
global_name None = []

abbrev pub local_name : Option TLocal → List ℕ
local_name (Some l) = l.name
local_name None = []

abbrev pub local_of : Option TFunc → ℕ → List ℕ
local_of (Some f) k = local_name (slice_get f.locals k)
local_of None k = []

-- the name of a global, or of a local of the function that holds the loop
abbrev pub variable_name : Typed → ℕ → Addr → List ℕ
variable_name typed func (Word (Global n) w) = global_name (slice_get typed.globals n)
variable_name typed func (Local k) = local_of (slice_get typed.funcs func) k
variable_name typed func at = []

abbrev pub reduction : Typed → ℕ → Red → List ℕ
reduction typed func red =
    codes " reduce(" ++ operator_name red.op ++ codes ": " ++ variable_name typed func red.at ++ codes ")"

abbrev pub annotation : Typed → ℕ → Choice → List ℕ
annotation typed func c =
    policy_name c.policy ++ codes " " ++ order_name c.order ++ flat_map (reduction typed func) c.reds

-- ---- findings

abbrev pub why_name : Why → List ℕ
why_name Output = codes "output"
why_name Conflicts = codes "conflicts"
why_name Steps = codes "steps"

-- tests are counted from 1
abbrev pub finding_text : Found → List ℕ
finding_text (Accepted span) = labelled (codes ": accepted, span ") span
finding_text (Refused test why) = codes ": " ++ why_name why ++ labelled (codes ", test ") (test + 1)

abbrev pub row_text : Typed → ℕ → ℕ → Choice → Found → List ℕ
row_text typed func k c found =
    labelled (codes "candidate ") k ++ codes ": " ++ annotation typed func c ++ finding_text found ++ codes "\n"

-- the candidates from a number on, each with what was found of it
abbrev pub rows_text : Typed → ℕ → ℕ → List Choice → List Found → List ℕ
rows_text typed func k (c ∷ cs) (f ∷ fs) = row_text typed func k c f ++ rows_text typed func (k + 1) cs fs
rows_text typed func k (c ∷ cs) [] = []
rows_text typed func k [] fs = []

abbrev pub best_text : Option ℕ → List ℕ
best_text (Some k) = labelled (codes "best ") k ++ codes "\n"
best_text None = codes "best none\n"

-- a program has no loop of the number
abbrev pub no_loop_text : List ℕ → ℕ → List ℕ
no_loop_text name k = of_file name (labelled (codes "no loop ") k)

-- the table for a loop of a function
unfoldable pub table_text : Typed → ℕ → List Choice → Table → List ℕ
table_text typed func choices table = rows_text typed func 0 choices table.rows ++ best_text table.best
