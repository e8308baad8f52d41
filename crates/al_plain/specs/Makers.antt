-- Who allocates, as the code has it.
use Rattle.al_core.specs.Access.{Allocator, Outer, InIteration, Allocations}
use Rattle.al_plain.specs.declared.content.Maker.{Maker}
use Rattle.al_plain.specs.declared.content.Maker.TheVariants as maker

abbrev pub allocator_of : Maker → Allocator
allocator_of maker.Outer = Outer
allocator_of (maker.Iteration execution iteration) = InIteration execution iteration

-- it has made nothing yet
abbrev pub none_yet : Maker → Allocations
none_yet m = record { allocator = allocator_of m; next = 0; words = 0 }
