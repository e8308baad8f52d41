-- The walk over the statements of a program: what it has found so far, and its steps. A step gives a value, or the
-- first fault with its line.
use Rattle.std.specs.Prelude.{ℕ, List, [], ◌∷◌, ◌++◌, length, Option, Some, None, Result, Ok, Err, slice_get, slice_set}
use Rattle.al_source.specs.Steps.{and_then}
use Rattle.al_source.specs.declared.source_tree.CType.{CType}
use Rattle.al_core.specs.declared.choices.Choice.{Choice}
use Rattle.al_core.specs.declared.values.Kind.{Kind}
use Rattle.al_core.specs.declared.values.Kind.TheVariants as kind
use Rattle.al_core.specs.declared.typed_tree.TLocal.{TLocal}
use Rattle.al_core.specs.declared.typed_tree.TNote.{TNote}
use Rattle.al_rules.specs.declared.faults.TypeKind.{TypeKind}
use Rattle.al_rules.specs.declared.faults.TypeCause.{TypeCause}
use Rattle.al_rules.specs.Names.{Name}
use Rattle.al_rules.specs.Types.{kind_of}
use Rattle.al_rules.specs.Scopes.{Scope, with_binding, nested}
use Rattle.al_rules.specs.Checks.{Checked}

-- the names in scope, the locals of the function so far, and the annotated loops of the program so far
pub record Progress : Type 0 where
  pub scope : Scope
  pub locals : List TLocal
  pub loops : List TNote

abbrev pub at_line : {A : Type 0} → ℕ → Checked A → Result A TypeCause
at_line line (Ok a) = Ok a
at_line line (Err kind) = Err (record { kind = kind; line = line })

abbrev pub Walk : Type 0 → Type 0
Walk A = Progress → Result (A × Progress) TypeCause

-- ---- the words that every step is made of

-- one step, and then one that knows its value
unfoldable pub bind : {A B : Type 0} → Walk A → (A → Walk B) → Walk B
bind p f = λ s. and_then (p s) (λ r. f r.0 r.1)

unfoldable pub pure : {A : Type 0} → A → Walk A
pure a = λ s. Ok (a, s)

-- a check that reads the names in scope
unfoldable pub checks : {A : Type 0} → ℕ → (Scope → Checked A) → Walk A
checks line check = λ s. and_then (at_line line (check s.scope)) (λ a. Ok (a, s))

unfoldable pub get_scope : Walk Scope
get_scope = λ s. Ok (s.scope, s)

unfoldable pub set_scope : Scope → Walk (Unit {0})
set_scope scope = λ s. Ok (tt, record s { scope = scope })

-- how many locals the function has so far
unfoldable pub count_locals : Walk ℕ
count_locals = λ s. Ok (length s.locals, s)

abbrev pub or_integer : Option Kind → Kind
or_integer (Some k) = k
or_integer None = kind.Int

abbrev pub local_of : Name → CType → TLocal
local_of name a = record { name = name; kind = or_integer (kind_of a) }

-- one more local, which hides what had its name; its number
unfoldable pub add_local : Name → CType → Walk ℕ
add_local name a = λ s. Ok (
  length s.locals,
  record s {
    scope = with_binding (record { name = name; number = length s.locals; ty = a }) s.scope;
    locals = s.locals ++ local_of name a ∷ [];
  },
)

abbrev pub with_end : List TNote → ℕ → ℕ → Option TNote → List TNote
with_end loops number last None = loops
with_end loops number last (Some note) = slice_set loops number (record note { last = last })

-- an annotated loop whose body declares no local yet
abbrev pub note_of : ℕ → ℕ → Choice → ℕ → TNote
note_of func line own n = record { func = func; line = line; own = own; first = n; last = n }

-- One more annotated loop, whose body's locals begin here; its number. Loops within it come after it.
unfoldable pub begin_loop : ℕ → ℕ → Choice → Walk ℕ
begin_loop func line own = λ s. Ok (
  length s.loops,
  record s {
    loops = s.loops ++ note_of func line own (length s.locals) ∷ [];
  },
)

-- The loop's locals end here.
unfoldable pub end_loop : ℕ → Walk (Unit {0})
end_loop number = λ s. Ok (
  tt,
  record s { loops = with_end s.loops number (length s.locals) (slice_get s.loops number) },
)

-- ---- made of those words

infixl 10 ◌>>=◌
abbrev pub ◌>>=◌ : {A B : Type 0} → Walk A → (A → Walk B) → Walk B
p >>= f = bind p f

infixl 10 ◌>>◌
abbrev pub ◌>>◌ : {A B : Type 0} → Walk A → Walk B → Walk B
p >> q = p >>= (λ _. q)

abbrev pub lift : {A : Type 0} → ℕ → Checked A → Walk A
lift line c = checks line (λ _. c)

abbrev pub fails : {A : Type 0} → ℕ → TypeKind → Walk A
fails line kind = lift line (Err kind)

-- each step in turn, and all their values
abbrev pub all_steps : {A : Type 0} → List (Walk A) → Walk (List A)
all_steps [] = pure []
all_steps (p ∷ ps) = p >>= (λ a. all_steps ps >>= (λ as'. pure (a ∷ as')))

-- in a scope of its own
abbrev pub within : {A : Type 0} → Walk A → Walk A
within p = get_scope >>= (λ outer. set_scope (nested outer) >> (p >>= (λ a. set_scope outer >> pure a)))
