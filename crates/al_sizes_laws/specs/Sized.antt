-- The numbers of accepted sources have their sizes.
use Rattle.std.specs.Prelude.{◌≡◌, List, Ok}
use Rattle.al_grammar.specs.Characters.{Bytes}
use Rattle.al_core.specs.declared.choices.LoopInfo.{LoopInfo}
use Rattle.al_core.specs.declared.typed_tree.Typed.{Typed}
use Rattle.al_rules.specs.Refusals.{accepted}
use Rattle.al_runs_laws.specs.Accepted.{IsSized}

abbrev pub AcceptedAreSized : Type 0
AcceptedAreSized =
    (source : Bytes) (typed : Typed) (infos : List LoopInfo) → accepted source ≡ Ok (typed, infos) → IsSized typed
