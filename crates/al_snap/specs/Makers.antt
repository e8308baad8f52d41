-- Who allocates, and what an allocation takes.
use Rattle.std.specs.Prelude.{◌≡◌, ℕ, ◌+◌, nat_lt, if◌then◌else◌, Option, Some, None, Result, Ok, Err, refl}
use Rattle.std.specs.Coded.{Coded, code_by, coded×, coded_ℕ, coded_option}
use Rattle.al_core.specs.declared.values.Obj.{Obj}
use Rattle.al_core.specs.declared.values.Trap.{Trap}
use Rattle.al_core.specs.declared.values.Trap.TheVariants as trap
use Rattle.al_core.specs.Access.{Allocator, Outer, InIteration, Allocations, name_of, word_limit, one_more}
use Rattle.al_snap.specs.declared.names.Maker.{Maker}
use Rattle.al_snap.specs.declared.names.Maker.TheVariants as maker

abbrev pub allocator_of : Maker → Allocator
allocator_of maker.Outer = Outer
allocator_of (maker.Iteration execution iteration) = InIteration execution iteration

-- the name of an object of so many words, and the allocations with it; they are the same where it would pass the limit
abbrev pub allocated : Allocations → ℕ → Result Obj Trap × Allocations
allocated a words =
    if nat_lt (word_limit a.allocator) (a.words + words + 1) then (Err trap.Alloc, a)
    else (Ok (name_of a.allocator a.next), one_more a words)

abbrev numbers_of : Allocator → Option (ℕ × ℕ)
numbers_of Outer = None
numbers_of (InIteration e j) = Some (e, j)

abbrev by_numbers : Option (ℕ × ℕ) → Allocator
by_numbers None = Outer
by_numbers (Some p) = InIteration p.0 p.1

pub same_allocator : (a : Allocator) → by_numbers (numbers_of a) ≡ a
same_allocator Outer = refl
same_allocator (InIteration e j) = refl

abbrev pub allocator_code : Coded Allocator
allocator_code =
    code_by (Option (ℕ × ℕ)) (coded_option (coded× coded_ℕ coded_ℕ)) numbers_of by_numbers same_allocator

abbrev pub allocations_code : Coded Allocations
allocations_code =
    code_by (Allocator × (ℕ × ℕ)) (coded× allocator_code (coded× coded_ℕ coded_ℕ))
    (λ a. (a.allocator, (a.next, a.words)))
    (λ p. record { allocator = p.0; next = p.1.0; words = p.1.1 })
    (λ _. refl)
