-- The two sources are accepted.
use Rattle.std.proofs.Common.{◌≡◌, refl}
use Rattle.std.specs.Prelude.{Ok}
use Rattle.al_source.specs.declared.annotations.CommitOrder.{CommitOrder}
use Rattle.al_source.specs.declared.annotations.CommitOrder.TheVariants.{InOrder, OutOfOrder}
use Rattle.al_grammar.specs.Characters.{Bytes}
use Rattle.al_grammar.specs.Phrases.{Tokens}
use Rattle.al_rules.specs.Refusals.{tokens_of, program_of, tree_of, annotated_well, accepted}
use Rattle.al_source_facts.specs.Texts.{source, ordered_source, tokens, out_of_order, in_order}
use Rattle.al_source_facts.specs.Trees.{program}
use Rattle.al_source_facts.specs.Tree.{tree, entries}
use Rattle.al_source_facts.proofs.Reading.{reads, reads_ordered}
use Rattle.al_source_facts.proofs.Parsing.{parses, parses_ordered}
use Rattle.al_source_facts.proofs.Typing.{lays, is_typed}
use Rattle.al_source_facts.proofs.Noting.{is_noted}

resolves : (o : CommitOrder) → tree_of (program o) ≡ Ok (tree o)
resolves o = rw (lays o) (rw (is_typed o) refl)

annotates : (o : CommitOrder) → annotated_well (tree o) ≡ Ok (tree o, entries o)
annotates o = rw (is_noted o) refl

by_stages : (z : Bytes) (ts : Tokens) (o : CommitOrder) → tokens_of z ≡ Ok ts → program_of ts ≡ Ok (program o)
    → accepted z ≡ Ok (tree o, entries o)
unfolding accepted
by_stages z ts o read parsed = rw read (rw parsed (rw (resolves o) (annotates o)))

source_tokens : tokens_of source ≡ Ok (tokens out_of_order)
source_tokens = rw reads refl

ordered_tokens : tokens_of ordered_source ≡ Ok (tokens in_order)
ordered_tokens = rw reads_ordered refl

pub source_accepted : accepted source ≡ Ok (tree OutOfOrder, entries OutOfOrder)
source_accepted = by_stages source (tokens out_of_order) OutOfOrder source_tokens parses

pub ordered_accepted : accepted ordered_source ≡ Ok (tree InOrder, entries InOrder)
ordered_accepted = by_stages ordered_source (tokens in_order) InOrder ordered_tokens parses_ordered
