-- The generated program is accepted.
use Rattle.std.proofs.Common.{◌≡◌, refl}
use Rattle.std.specs.Prelude.{Ok}
use Rattle.al_gen.specs.Generated.{source}
use Rattle.al_rules.specs.Refusals.{tree_of, annotated_well, accepted}
use Rattle.al_source_facts.specs.Generated.{program}
use Rattle.al_source_facts.specs.GeneratedTree.{tree, entries}
use Rattle.al_source_facts.proofs.GeneratedParsing.{reads, parses}
use Rattle.al_source_facts.proofs.GeneratedTyping.{lays, is_typed}
use Rattle.al_source_facts.proofs.GeneratedNoting.{is_noted}

resolves : tree_of program ≡ Ok tree
resolves = rw lays (rw is_typed refl)

annotates : annotated_well tree ≡ Ok (tree, entries)
annotates = rw is_noted refl

pub generated_accepted : accepted source ≡ Ok (tree, entries)
unfolding accepted
generated_accepted = rw reads (rw parses (rw resolves annotates))
