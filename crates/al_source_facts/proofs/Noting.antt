-- The loops of the typed tree have their entries.
use Rattle.std.proofs.Common.{◌≡◌, [], ◌∷◌, ℕ, false, ◌∙◌, ap, Some, None}
use Rattle.std.specs.Prelude.{Ok, pos, ◌||◌}
use Rattle.std.specs.List.{list_any}
use Rattle.al_source.specs.declared.annotations.CommitOrder.{CommitOrder}
use Rattle.al_source.specs.declared.operators.RedOp.TheVariants as red
use Rattle.al_core.specs.declared.choices.Bound.TheVariants as bound
use Rattle.al_core.specs.declared.values.Addr.{Addr}
use Rattle.al_core.specs.declared.values.Addr.TheVariants.{Word, Local}
use Rattle.al_core.specs.declared.values.Obj.TheVariants.{Global}
use Rattle.al_core.specs.declared.typed_tree.TExpr.{TExpr, fold-roll-TExpr, out-roll-TExpr}
use Rattle.al_core.specs.declared.typed_tree.TPlace.{fold-roll-TPlace, out-roll-TPlace}
use Rattle.al_core.specs.declared.typed_tree.TStmt.{TStmt, fold-roll-TStmt, para-roll-TStmt}
use Rattle.al_core.specs.declared.typed_tree.TKind.{fold-roll-TKind, para-roll-TKind, out-roll-TKind}
use Rattle.al_core.specs.declared.typed_tree.TKind.TheOpen.{TKind-F}
use Rattle.al_core.specs.Accepted.{Terms, no_terms, one_expr, both_terms, terms, terms_of, takes_in, takes, takes_at, calls, calls_at, calls_of, mentions, mentions_at, only_updates}
use Rattle.al_core.specs.Loops.{ForLoop, placed, program_loops, for_loops}
use Rattle.al_rules.specs.Bodies.{assigns, has, reaches, has_return, has_break, is_reached, is_taken, is_misused}
use Rattle.al_rules.specs.ForLoops.{form_of}
use Rattle.al_rules.specs.Notes.{notes_of}
use Rattle.al_runs_laws.specs.Small.{at, number, x, y, i, value, is, below, greater, sum}
use Rattle.al_source_facts.specs.Tree.{tree, main, from_zero, next, first_kind, second_kind, entries}
use Rattle.al_source_facts.proofs.StatementTerms.{statement_terms, terms-SetLocal, terms-UpdateLocal, terms-Store, terms-Print, terms-Return, terms-If, terms-Block, terms-For}

abbrev loop : ℕ → ℕ → ℕ → ForLoop
loop n line top = record {
  number = n;
  first = Some (from_zero line);
  test = Some (below top);
  third = Some (next line);
  body = at 6 first_kind;
}

abbrev first : ForLoop
first = loop 0 6 3

abbrev second : ForLoop
second = record (loop 1 11 9) { body = at 11 second_kind }

first_form : form_of main.locals first ≡ Some (0, bound.Number (pos 3))
first_form = simp (out-roll-TKind, out-roll-TExpr)

second_form : form_of main.locals second ≡ Some (0, bound.Number (pos 9))
second_form = simp (out-roll-TKind, out-roll-TExpr)

first_assigns : assigns 0 (at 6 first_kind) ≡ false
unfolding assigns
first_assigns = simp (fold-roll-TStmt, fold-roll-TKind)

second_assigns : assigns 0 (at 11 second_kind) ≡ false
unfolding assigns
second_assigns = simp (fold-roll-TStmt, fold-roll-TKind)

first_returns : has_return (at 6 first_kind) ≡ false
unfolding has_return
first_returns = simp (fold-roll-TStmt, fold-roll-TKind)

second_returns : has_return (at 11 second_kind) ≡ false
unfolding has_return
second_returns = simp (fold-roll-TStmt, fold-roll-TKind)

first_breaks : has_break (at 6 first_kind) ≡ false
unfolding has_break
first_breaks = simp (fold-roll-TStmt, fold-roll-TKind)

second_breaks : has_break (at 11 second_kind) ≡ false
unfolding has_break
second_breaks = simp (fold-roll-TStmt, fold-roll-TKind)

-- ---- the terms of statements

abbrev second_terms : Terms
second_terms = record { exprs = i ∷ greater ∷ []; places = x ∷ [] }

second_terms_are : terms (at 11 second_kind) ≡ second_terms
second_terms_are = simp statement_terms

abbrev its_terms : Terms
its_terms = record {
  exprs =
      number 0 ∷ number 0 ∷ number 0 ∷ below 3 ∷ number 1 ∷ is 0 ∷ number 1 ∷ is 1 ∷ value x ∷ i ∷ number 0 ∷ below 9 ∷ number 1 ∷ i ∷ greater ∷ sum ∷ [];
  places = x ∷ y ∷ x ∷ [];
}

if_terms_are : (line : ℕ) (e : TExpr) (s : TStmt) (t : Terms) → terms s ≡ t
    → terms (at line (TKind-F.If e s None)) ≡ both_terms (one_expr e) (both_terms t no_terms)
if_terms_are line e s t is = terms-If line e s ∙ ap (λ z. both_terms (one_expr e) (both_terms z no_terms)) is

first_if_terms : terms (at 7 (TKind-F.If (is 0) (at 7 (TKind-F.Store x (number 1))) None)) ≡ record { exprs = is 0 ∷ number 1 ∷ []; places = x ∷ [] }
first_if_terms = if_terms_are 7 (is 0) _ _ (terms-Store 7 x (number 1))

second_if_terms : terms (at 8 (TKind-F.If (is 1) (at 8 (TKind-F.Store y (value x))) None)) ≡ record { exprs = is 1 ∷ value x ∷ []; places = y ∷ [] }
second_if_terms = if_terms_are 8 (is 1) _ _ (terms-Store 8 y (value x))

first_terms_are : terms (at 6 first_kind) ≡ record { exprs = is 0 ∷ number 1 ∷ is 1 ∷ value x ∷ i ∷ []; places = x ∷ y ∷ [] }
first_terms_are = simp (terms-Block, first_if_terms, second_if_terms, terms-Print)

main_terms : terms_of main.body ≡ its_terms
main_terms = simp (first_terms_are, second_terms_are, terms-SetLocal, terms-UpdateLocal, terms-Return, terms-For)

no_calls_there : calls_of second_terms ≡ []
unfolding calls calls_at
no_calls_there = simp (fold-roll-TExpr, fold-roll-TPlace)

no_calls : calls_of (terms (at 11 second_kind)) ≡ []
no_calls = ap calls_of second_terms_are ∙ no_calls_there

-- ---- the whole tree

module _ (o : CommitOrder) where
  its_loops : program_loops (tree o) ≡ placed main first ∷ placed main second ∷ []
  unfolding program_loops for_loops
  its_loops = simp (para-roll-TStmt, para-roll-TKind)

  untaken_by : (a : Addr) → takes_in a its_terms ≡ false → is_taken (tree o) a ≡ false
  untaken_by a is = ap (λ t. takes_in a t || false) main_terms ∙ ap (λ b. b || false) is

  sum_untaken : is_taken (tree o) (Local 1) ≡ false
  unfolding takes takes_at
  sum_untaken = untaken_by (Local 1) (simp (fold-roll-TExpr, fold-roll-TPlace))

  greatest_untaken : is_taken (tree o) (Word (Global 0) 0) ≡ false
  unfolding takes takes_at
  greatest_untaken = untaken_by (Word (Global 0) 0) (simp (fold-roll-TExpr, fold-roll-TPlace))

  unreached : is_reached (tree o) (at 11 second_kind) 0 ≡ false
  unfolding is_reached
  unreached = ap (λ ns. has 0 ns || list_any (λ f. reaches (tree o) 1 f 0) ns) no_calls

  sum_used : is_misused (tree o) (at 11 second_kind) red.Add (Local 1) ≡ false
  unfolding only_updates mentions mentions_at
  sum_used = simp (para-roll-TStmt, para-roll-TKind, fold-roll-TExpr, fold-roll-TPlace, out-roll-TExpr, out-roll-TPlace)

  greatest_used : is_misused (tree o) (at 11 second_kind) red.Max (Word (Global 0) 0) ≡ false
  unfolding only_updates mentions mentions_at
  greatest_used =
      simp (unreached, para-roll-TStmt, para-roll-TKind, fold-roll-TExpr, fold-roll-TPlace, out-roll-TExpr, out-roll-TPlace)

  pub is_noted : notes_of (tree o) ≡ Ok (entries o)
  unfolding notes_of
  is_noted =
      simp (
        its_loops,
        first_form,
        second_form,
        first_assigns,
        second_assigns,
        first_returns,
        second_returns,
        first_breaks,
        second_breaks,
        sum_untaken,
        greatest_untaken,
        sum_used,
        greatest_used,
      )
