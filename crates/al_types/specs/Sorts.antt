-- Which statements may stand where, as the code has it.
use Rattle.std.specs.Prelude.{Bool}
use Rattle.al_rules.specs.Statements.{Sort, Declares, Sets, Simple, Other, is_first, is_third, is_body}
use Rattle.al_types.specs.declared.sorts.Sort.{Sort as Kept}
use Rattle.al_types.specs.declared.sorts.Sort.TheVariants as kept
use Rattle.al_types.specs.declared.sorts.Spot.{Spot}
use Rattle.al_types.specs.declared.sorts.Spot.TheVariants as spot

abbrev pub kept_sort : Kept → Sort
kept_sort kept.Declares = Declares
kept_sort kept.Sets = Sets
kept_sort kept.Simple = Simple
kept_sort kept.Other = Other

abbrev pub allowed_at : Spot → Sort → Bool
allowed_at spot.First = is_first
allowed_at spot.Third = is_third
allowed_at spot.Body = is_body
