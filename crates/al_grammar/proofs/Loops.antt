-- The loops of the parser, a turn at a time, as code runs them.
use Rattle.std.proofs.Common.{◌≡◌, ℕ, Bool, false, List, [], ◌∷◌, Ok, refl}
use Rattle.al_source.specs.declared.annotations.NamedRed.{NamedRed}
use Rattle.al_source.specs.declared.operators.RedOp.{RedOp}
use Rattle.al_source.specs.declared.source_tree.CType.{CType}
use Rattle.al_source.specs.declared.source_tree.Field.{Field}
use Rattle.al_source.specs.declared.source_tree.Expr.{Expr}
use Rattle.al_source.specs.declared.source_tree.Stmt.{Stmt}
use Rattle.al_source.specs.declared.source_tree.Item.{Item}
use Rattle.al_grammar.specs.Phrases.{Tokens}
use Rattle.al_source.specs.Steps.{bind, pure}
use Rattle.al_grammar.specs.Steps.{after_turn, repeat}
use Rattle.al_grammar.specs.StatementParser.{value, variable, reduce_turn, local, inner_turn, statement}
use Rattle.al_grammar.specs.ProgramParser.{field_name, field_turn, global_name, param_turn, items_step, item_turn}
use Rattle.al_grammar.proofs.StepFacts.{repeat_is}
use Rattle.al_grammar.proofs.SoundStatements.{value_shorter, variable_shorter, reduce_shorter, local_shorter}
use Rattle.al_grammar.proofs.CompleteStatements.{inner_shorter_turn}
use Rattle.al_grammar.proofs.ProgramFacts.{field_shorter, line_shorter, global_shorter, param_turn_shorter, item_turn_shorter}

pub values_is : (found : List Expr) (ts : Tokens) → repeat value found ts ≡ bind (value found ts) (λ r. after_turn (repeat value) r.0 r.1)
values_is found ts = repeat_is value value_shorter found ts

pub variables_is : (op : RedOp) (found : List NamedRed) (ts : Tokens)
    → repeat (variable op) found ts ≡ bind (variable op found ts) (λ r. after_turn (repeat (variable op)) r.0 r.1)
variables_is op found ts = repeat_is (variable op) (variable_shorter op) found ts

pub reductions_is : (found : List NamedRed) (ts : Tokens)
    → repeat reduce_turn found ts ≡ bind (reduce_turn found ts) (λ r. after_turn (repeat reduce_turn) r.0 r.1)
reductions_is found ts = repeat_is reduce_turn reduce_shorter found ts

pub locals_is : (line : ℕ) (a : CType) (found : List Stmt) (ts : Tokens)
    → repeat (local line a) found ts ≡ bind (local line a found ts) (λ r. after_turn (repeat (local line a)) r.0 r.1)
locals_is line a found ts = repeat_is (local line a) (local_shorter line a) found ts

pub inners_is : (d : ℕ) (found : List Stmt) (ts : Tokens)
    → repeat (inner_turn d (statement d)) found ts ≡ bind (inner_turn d (statement d) found ts) (λ r. after_turn (repeat (inner_turn d (statement d))) r.0 r.1)
inners_is d found ts = repeat_is (inner_turn d (statement d)) (inner_shorter_turn d) found ts

pub names_is : (a : CType) (found : List Field) (ts : Tokens)
    → repeat (field_name a) found ts ≡ bind (field_name a found ts) (λ r. after_turn (repeat (field_name a)) r.0 r.1)
names_is a found ts = repeat_is (field_name a) (field_shorter a) found ts

pub lines_is : (found : List Field) (ts : Tokens) → repeat field_turn found ts ≡ bind (field_turn found ts) (λ r. after_turn (repeat field_turn) r.0 r.1)
lines_is found ts = repeat_is field_turn line_shorter found ts

pub globals_is : (line : ℕ) (a : CType) (found : List Item) (ts : Tokens)
    → repeat (global_name line a) found ts ≡ bind (global_name line a found ts) (λ r. after_turn (repeat (global_name line a)) r.0 r.1)
globals_is line a found ts = repeat_is (global_name line a) (global_shorter line a) found ts

pub params_is : (found : List Field) (ts : Tokens) → repeat param_turn found ts ≡ bind (param_turn found ts) (λ r. after_turn (repeat param_turn) r.0 r.1)
params_is found ts = repeat_is param_turn param_turn_shorter found ts

items_is : (found : List Item) (ts : Tokens) → repeat item_turn found ts ≡ bind (item_turn found ts) (λ r. after_turn (repeat item_turn) r.0 r.1)
items_is found ts = repeat_is item_turn item_turn_shorter found ts

pub items_end : (found : List Item) (ts : Tokens) → ts ≡ [] → repeat item_turn found ts ≡ Ok (found, ts)
items_end found [] e = items_is found []
items_end found (t ∷ ts) e = absurd cc

pub items_more : (found : List Item) (ts : Tokens) → (ts ≡ [] → ⊥)
    → repeat item_turn found ts
    ≡ bind {A = List Item × Bool} (bind (items_step found ts) (λ all. pure (all, false))) (λ r. after_turn (repeat item_turn) r.0 r.1)
items_more found [] ne = absurd (ne refl)
items_more found (t ∷ ts) ne = items_is found (t ∷ ts)

pub ruleset item_steps = (items_end, items_more)
