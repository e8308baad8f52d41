-- The typed tree by what the items define.
use Rattle.std.proofs.Common.{◌≡◌, [], Result, Ok, Err, ap}
use Rattle.al_source.specs.declared.source_tree.Program.{Program}
use Rattle.al_ast.specs.Nodes.{capped, program_nodes}
use Rattle.al_core.specs.declared.typed_tree.Typed.{Typed}
use Rattle.al_rules.specs.declared.layout.Layout.{Layout}
use Rattle.al_rules.specs.declared.faults.TypeCause.{TypeCause}
use Rattle.al_source.specs.Steps.{and_then}
use Rattle.al_rules.specs.Scopes.{Known, known_of}
use Rattle.al_rules.specs.Programs.{items_checked, main_of, funcs_typed, globals_typed, typed_with}

abbrev pub typed_by : Known → Program → Result Typed TypeCause
typed_by known p =
    and_then (main_of known.funcs) (λ main. and_then (funcs_typed known 0 known.funcs []) (λ fs.
    Ok (record { globals = globals_typed known known.globals; funcs = fs.0; main = main; loops = fs.1; nodes = capped (program_nodes p) })))

by_items : (r : Result (Unit {0}) TypeCause) (p : Program) (k known : Known) → and_then r (λ _. Ok k) ≡ Ok known
    → and_then r (λ _. typed_by k p) ≡ typed_by known p
by_items (Ok u) p k known is = let same : k ≡ known = cc in ap (λ k. typed_by k p) same
by_items (Err e) p k known is = absurd (cc)

-- where the items have no fault
pub is_typed_by : (layout : Layout) (p : Program) (known : Known)
    → and_then (items_checked p.items [] p.items) (λ _. Ok (known_of layout p.items)) ≡ Ok known
    → typed_with layout p ≡ typed_by known p
unfolding typed_with
is_typed_by layout p known is = by_items (items_checked p.items [] p.items) p (known_of layout p.items) known is
