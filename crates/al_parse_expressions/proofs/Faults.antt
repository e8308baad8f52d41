-- A fault of the first step is one of the whole.
use Rattle.std.proofs.Common.{◌≡◌, Option, Some, None, Result, Err, sym, ap, subst, ◌∙◌}
use Rattle.al_source.specs.declared.faults.ParseFault.{ParseFault}
use Rattle.al_source.specs.Answers.{Fails, Walks}
use Rattle.al_source.specs.Faults.{syntactic}
use Rattle.al_source.specs.Steps.{bind}
use Rattle.al_grammar.specs.Expressions.{State}
use Rattle.al_grammar.specs.ExpressionParser.{Outcome, Parser}

fails : {A B : Type 0} (o : Outcome A) (k : A → Parser B) (r : Outcome B) (d : Option _) → r ≡ bind o k → Fails o d → Fails r d
fails o k r None e h = tt
fails o k r (Some d) e h = e ∙ ap (λ o. bind o k) h

pub gives_fault : {A B : Type 0} (o : Outcome A) (k : A → Parser B) (r : Outcome B) (f : ParseFault) (new : State) (result : Result B ParseFault)
    → r ≡ bind o k → Fails o (syntactic new.1 f) → result ≡ Err f → Walks (syntactic new.1) r result new
gives_fault o k r f new result e h is =
    subst (λ q. Walks (syntactic new.1) r q new) (sym is) (fails o k r (syntactic new.1 f) e h)
