-- A loop is one turn, and then the loop again.
use Rattle.std.specs.Prelude.{◌≡◌, ℕ, zero, suc, ◌<◌, if◌then◌else◌}
use Rattle.al_core.specs.declared.values.Val.{Val}
use Rattle.al_core.specs.Values.{truth}
use Rattle.al_core.specs.Action.{State, Act, pure, spend, ◌>>=◌, ◌>>◌}
use Rattle.al_core.specs.Meaning.{Flow, Next, then_flow, turn_end, turns}
use Rattle.al_laws.specs.Budgets.{NeverAdds}

module _ {S : Type 0} (line : ℕ) (test : Act S Val) (body third : Act S Flow) where
  -- a step, the test, the body and the third part, and then something again
  abbrev pub one_turn : Act S Flow → Act S Flow
  one_turn again =
      spend line
      >> (test >>= (λ v. if truth v then body >>= turn_end (third >>= then_flow again) else pure Next))

  -- so many turns at the most, and then something else
  abbrev pub turns_before : ℕ → Act S Flow → Act S Flow
  turns_before zero rest = rest
  turns_before (suc n) rest = one_turn (turns_before n rest)

-- whatever the budget: the two are the same action
abbrev pub LoopsGoOn : Type 0 → Type 0
LoopsGoOn S =
    (line : ℕ) (test : Act S Val) (body third : Act S Flow) → NeverAdds test → NeverAdds body → NeverAdds third
    → turns line test body third ≡ one_turn line test body third (turns line test body third)

-- What comes after more turns than there are steps is never met.
abbrev pub TurnsAreEnough : Type 0 → Type 0
TurnsAreEnough S =
    (line : ℕ) (test : Act S Val) (body third : Act S Flow) → NeverAdds test → NeverAdds body → NeverAdds third
    → (n : ℕ) (rest : Act S Flow) (s : State S) → s.budget < n
    → turns_before line test body third n rest s ≡ turns line test body third s
