-- What runs ask of programs and of lists of choices.
use Rattle.std.proofs.Common.{◌≡◌, ℕ, zero, suc, List, [], ◌∷◌, map, slice_get, Option, None, Some, Ok, sym, subst}
use Rattle.al_core.specs.declared.choices.Choice.{Choice}
use Rattle.al_core.specs.declared.choices.LoopInfo.{LoopInfo}
use Rattle.al_core.specs.Lines.{IsLineSize, with_line}
use Rattle.al_rules.specs.Refusals.{Noted, accepted}
use Rattle.al_rules_laws.specs.FormedLaws.{IsFormedWith}
use Rattle.al_rules_laws.proofs.AcceptedSources.{accepted_is_formed}
use Rattle.al_engine.specs.Jobs.{HaveLineSizes}
use Rattle.al_runs_laws.specs.Accepted.{annotated, unannotated}
use Rattle.al_search.proofs.LineSizes.{none_has}

pub formed_of : (source : List ℕ) (program : Noted) → accepted source ≡ Ok program → IsFormedWith program.0 program.1
formed_of source program is = accepted_is_formed source program.0 program.1 is

pub none_lined : (infos : List LoopInfo) (cs : List (Option Choice)) → cs ≡ unannotated infos → HaveLineSizes cs
none_lined infos cs is = subst HaveLineSizes (sym is) (none_has infos)

own_has : (line : ℕ) (infos : List LoopInfo) → IsLineSize line
    → HaveLineSizes (map (λ (info : LoopInfo). Some (with_line line info.own)) infos)
own_has line [] is k c h = absurd cc
own_has line (i ∷ is) size zero c h = let same : with_line line i.own ≡ c = cc in subst (λ (x : Choice). IsLineSize x.line) same size
own_has line (i ∷ is) size (suc k) c h = own_has line is size k c h

pub own_lined : (line : ℕ) (program : Noted) (cs : List (Option Choice)) → IsLineSize line → cs ≡ annotated line program.1 → HaveLineSizes cs
own_lined line program cs size is = subst HaveLineSizes (sym is) (own_has line program.1 size)
