-- What names mean, as the code has it.
use denote.Ref.{Bor}
use Rattle.std.specs.Prelude.{ℕ, Result, Ok, Err}
use Rattle.al_source.specs.declared.source_tree.CType.{CType}
use Rattle.al_rules.specs.Scopes.{Variable, Local, Global, Callee, Function, Input, Inputs, Choose}
use Rattle.al_type_names.specs.declared.known.Variable.{Variable as KeptVariable}
use Rattle.al_type_names.specs.declared.known.Variable.TheVariants as variable
use Rattle.al_type_names.specs.declared.known.Callee.{Callee as KeptCallee}
use Rattle.al_type_names.specs.declared.known.Callee.TheVariants as callee

-- the type and the offset of a field
abbrev pub field_seen : Bor CType × ℕ → CType × ℕ
field_seen f = (f.0.now, f.1)

abbrev pub variable_of : KeptVariable → Variable
variable_of (variable.Local k a) = Local k a.now
variable_of (variable.Global k a) = Global k a.now

abbrev pub callee_of : KeptCallee → Callee
callee_of (callee.Function k f) = Function k f.now
callee_of callee.Input = Input
callee_of callee.Inputs = Inputs
callee_of (callee.Choose op) = Choose op

-- the same of an answer
abbrev pub map_ok : {A B E : Type 0} → (A → B) → Result A E → Result B E
map_ok f (Ok a) = Ok (f a)
map_ok f (Err e) = Err e
