-- The names in scope, as the code has them.
use Rattle.std.specs.Prelude.{ℕ, ◌-◌, length, take, drop}
use Rattle.al_rules.specs.Scopes.{Binding, Scope}
use Rattle.al_type_names.specs.declared.scope.Binding.{Binding as Kept}

abbrev pub binding_of : Kept → Binding
binding_of b = record { name = b.name.now; number = b.number; ty = b.ty.now }

-- without its inner names, where the scope around it has so many outer ones
abbrev pub without_inner : ℕ → Scope → Scope
without_inner mark s =
    record { inner = take (length s.outer - mark) s.outer; outer = drop (length s.outer - mark) s.outer }
