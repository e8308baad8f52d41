-- The loop of the generated program has its entry.
use Rattle.std.proofs.Common.{◌≡◌, [], ◌∷◌, false, ◌∙◌, ap, Some}
use Rattle.std.specs.Prelude.{Ok, ◌||◌}
use Rattle.al_source.specs.declared.operators.RedOp.TheVariants as red
use Rattle.al_core.specs.declared.choices.Bound.TheVariants as bound
use Rattle.al_core.specs.declared.values.Addr.TheVariants.{Local}
use Rattle.al_core.specs.declared.typed_tree.TExpr.{fold-roll-TExpr, out-roll-TExpr}
use Rattle.al_core.specs.declared.typed_tree.TPlace.{fold-roll-TPlace, out-roll-TPlace}
use Rattle.al_core.specs.declared.typed_tree.TStmt.{fold-roll-TStmt, para-roll-TStmt}
use Rattle.al_core.specs.declared.typed_tree.TKind.{fold-roll-TKind, para-roll-TKind, out-roll-TKind}
use Rattle.al_core.specs.Accepted.{Terms, terms, terms_of, takes_in, takes, takes_at, mentions, mentions_at, only_updates}
use Rattle.al_core.specs.Loops.{ForLoop, placed, program_loops, for_loops}
use Rattle.al_rules.specs.Bodies.{assigns, has_return, has_break, is_taken, is_misused}
use Rattle.al_rules.specs.ForLoops.{form_of}
use Rattle.al_rules.specs.Notes.{notes_of}
use Rattle.al_runs_laws.specs.Small.{at, number}
use Rattle.al_source_facts.specs.GeneratedTree.{tree, main, body, entries, sets, next, less, local, input, inputs, slot, slot_value, print_slot}
use Rattle.al_source_facts.proofs.StatementTerms.{statement_terms, terms-SetLocal, terms-UpdateLocal, terms-Print, terms-Return, terms-For}

abbrev loop : ForLoop
loop = record {
  number = 0;
  first = Some (at 6 (sets 2 (number 0)));
  test = Some (less (local 2) (local 0));
  third = Some (at 6 (next 2));
  body = at 6 body;
}

its_loops : program_loops tree ≡ placed main loop ∷ []
unfolding program_loops for_loops
its_loops = simp (para-roll-TStmt, para-roll-TKind)

its_form : form_of main.locals loop ≡ Some (2, bound.Local 0)
its_form = simp (out-roll-TKind, out-roll-TExpr)

keeps_counter : assigns 2 (at 6 body) ≡ false
unfolding assigns
keeps_counter = simp (fold-roll-TStmt, fold-roll-TKind)

keeps_bound : assigns 0 (at 6 body) ≡ false
unfolding assigns
keeps_bound = simp (fold-roll-TStmt, fold-roll-TKind)

returns_not : has_return (at 6 body) ≡ false
unfolding has_return
returns_not = simp (fold-roll-TStmt, fold-roll-TKind)

breaks_not : has_break (at 6 body) ≡ false
unfolding has_break
breaks_not = simp (fold-roll-TStmt, fold-roll-TKind)

body_terms : terms (at 6 body) ≡ record { exprs = number 1 ∷ input ∷ []; places = slot ∷ [] }
body_terms = simp statement_terms

print_terms : terms (at 10 print_slot) ≡ record { exprs = slot_value ∷ []; places = [] }
print_terms = simp statement_terms

abbrev its_terms : Terms
its_terms = record {
  exprs =
      inputs ∷ number 0 ∷ number 0 ∷ less (local 2) (local 0) ∷ number 1 ∷ number 1 ∷ input ∷ number 0
      ∷ less (local 3) (number 16) ∷ number 1 ∷ slot_value ∷ local 1 ∷ number 0 ∷ [];
  places = slot ∷ [];
}

main_terms : terms_of main.body ≡ its_terms
main_terms = simp (body_terms, print_terms, terms-SetLocal, terms-UpdateLocal, terms-Print, terms-Return, terms-For)

untaken_there : takes_in (Local 1) its_terms ≡ false
unfolding takes takes_at
untaken_there = simp (fold-roll-TExpr, fold-roll-TPlace)

untaken : is_taken tree (Local 1) ≡ false
untaken = ap (λ t. takes_in (Local 1) t || false) main_terms ∙ ap (λ b. b || false) untaken_there

sums : is_misused tree (at 6 body) red.Add (Local 1) ≡ false
unfolding only_updates mentions mentions_at
sums = simp (para-roll-TStmt, para-roll-TKind, fold-roll-TExpr, fold-roll-TPlace, out-roll-TExpr, out-roll-TPlace)

pub is_noted : notes_of tree ≡ Ok entries
unfolding notes_of
is_noted = simp (its_loops, its_form, keeps_counter, keeps_bound, returns_not, breaks_not, untaken, sums)
