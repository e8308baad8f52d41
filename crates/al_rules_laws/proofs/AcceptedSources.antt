-- The typed tree of an accepted source is well formed, and its entries are those of its annotated loops.
use Rattle.std.proofs.Common.{◌≡◌, Bool, true, false, List, Result, Ok, Err, refl, sym, ap, ◌∙◌, subst, if◌then◌else◌, nat_lt}
use Rattle.al_source.specs.Steps.{and_then}
use Rattle.al_source.specs.declared.limits.TheConstants.{SOURCE_NODES}
use Rattle.al_source.specs.declared.source_tree.Program.{Program}
use Rattle.al_grammar.specs.Characters.{Bytes}
use Rattle.al_core.specs.declared.choices.LoopInfo.{LoopInfo}
use Rattle.al_core.specs.declared.typed_tree.Typed.{Typed}
use Rattle.al_rules.specs.declared.faults.Refusal.{Refusal}
use Rattle.al_rules.specs.declared.faults.Refusal.TheVariants.{Layout, Types, Notes, TooManyNodes}
use Rattle.al_rules.specs.Layouts.{fault_of, layout_of}
use Rattle.al_rules.specs.Notes.{notes_of}
use Rattle.al_rules.specs.Programs.{typed_with, Resolved}
use Rattle.al_rules.specs.Refusals.{because, tokens_of, program_of, tree_of, small_enough, annotated_well, accepted}
use Rattle.al_rules_laws.specs.FormedLaws.{AcceptedIsFormed, IsFormedWith}
use Rattle.al_rules_laws.proofs.Logic.{then_ok}
use Rattle.al_rules_laws.proofs.LayoutFacts.{layout_is_sizes}
use Rattle.al_rules_laws.proofs.FormedPrograms.{resolved_is_well_formed}

because_ok : {A F : Type 0} (cause : F → Refusal) (r : Result A F) (a : A) → because cause r ≡ Ok a → r ≡ Ok a
because_ok cause (Ok b) a e = ap Ok (same e)
  where
    same : ◌≡◌ {A = Result _ Refusal} (Ok b) (Ok a) → b ≡ a
    same e = cc
because_ok cause (Err f) a e = absurd cc

small_is : (b : Bool) (t u : Typed × List LoopInfo) → (if b then Err TooManyNodes else Ok t) ≡ Ok u → t ≡ u
small_is true t u e = absurd cc
small_is false t u e = cc

resolved_of : (p : Program) (typed : Typed) → tree_of p ≡ Ok typed → Resolved p typed
resolved_of p typed e =
    let l = then_ok (because Layout (layout_of p)) (λ layout. because Types (typed_with layout p)) typed e in
    let laid = because_ok Layout (layout_of p) l.0 l.1 in
    let ok = because_ok Types (typed_with l.0 p) typed l.2 in
    record { laid_out = ap fault_of laid; is_typed = ap (λ layout. typed_with layout p) (layout_is_sizes p l.0 laid) ∙ ok }

formed_of : (p : Program) (typed : Typed) (t : Typed × List LoopInfo) → tree_of p ≡ Ok typed → annotated_well typed ≡ Ok t → IsFormedWith t.0 t.1
formed_of p typed t tree e =
    let n = then_ok (because Notes (notes_of typed)) (λ infos. small_enough (typed, infos)) t e in
    let notes = because_ok Notes (notes_of typed) n.0 n.1 in
    let same : ◌≡◌ {A = Typed × List LoopInfo} (typed, n.0) t = small_is (nat_lt SOURCE_NODES typed.nodes) (typed, n.0) t n.2 in
    subst (λ (t : Typed × List LoopInfo). IsFormedWith t.0 t.1) same
    (record { formed = resolved_is_well_formed p typed (resolved_of p typed tree); entries = notes })

pub accepted_is_formed : AcceptedIsFormed
unfolding accepted
accepted_is_formed source typed infos e =
    let tokens = then_ok (tokens_of source)
    (λ tokens. and_then (program_of tokens) (λ p. and_then (tree_of p) annotated_well)) (typed, infos) e in
    let program = then_ok (program_of tokens.0) (λ p. and_then (tree_of p) annotated_well) (typed, infos) tokens.2 in
    let tree = then_ok (tree_of program.0) annotated_well (typed, infos) program.2 in
    formed_of program.0 tree.0 (typed, infos) tree.1 tree.2
