-- The ways in which the loops of a program run.
use Rattle.std.specs.Prelude.{◌≡◌, ℕ, true, Some}
use Rattle.al_core.specs.declared.typed_tree.Typed.{Typed}
use Rattle.al_core.specs.Accepted.{IsAccepted}
use Rattle.al_core.specs.Loops.{Loop, loop_at}
use Rattle.al_core.specs.Verdicts.{is_in_order}
use Rattle.al_core.specs.Run.{Setting, Mode, Plainly, InRounds, InChunks}
use Rattle.al_rounds_laws.specs.Loops.{LooksAtReads}

-- plain, or in rounds under RAW or FULL with reductions that are accepted for the loop
abbrev pub IsSerializable : Typed → Loop → Mode → Type 0
IsSerializable typed l Plainly = Unit {0}
IsSerializable typed l (InRounds choice) = LooksAtReads choice.policy × IsAccepted typed l choice.reds
IsSerializable typed l (InChunks cs) = ⊥

-- of each annotated loop, in each of its executions
abbrev pub AreSerializable : Setting → Type 0
AreSerializable g =
    (number : ℕ) (l : Loop) (e : ℕ) → loop_at g.typed number ≡ Some l
    → IsSerializable g.typed l (g.modes l.info.number e)

-- in any of the ways, where it runs in rounds with reductions that are accepted for the loop
abbrev pub IsAllowed : Typed → Loop → Mode → Type 0
IsAllowed typed l Plainly = Unit {0}
IsAllowed typed l (InRounds choice) = IsAccepted typed l choice.reds
IsAllowed typed l (InChunks cs) = Unit {0}

abbrev pub AreAllowed : Setting → Type 0
AreAllowed g =
    (number : ℕ) (l : Loop) (e : ℕ) → loop_at g.typed number ≡ Some l → IsAllowed g.typed l (g.modes l.info.number e)

-- plain, or committed in order
abbrev pub IsOrdered : Mode → Type 0
IsOrdered Plainly = Unit {0}
IsOrdered (InRounds choice) = is_in_order choice.order ≡ true
IsOrdered (InChunks cs) = ⊥

abbrev pub AreOrdered : Setting → Type 0
AreOrdered g =
    (number : ℕ) (l : Loop) (e : ℕ) → loop_at g.typed number ≡ Some l → IsOrdered (g.modes l.info.number e)

-- the same setting, with every loop plain
abbrev pub plainly : Setting → Setting
plainly g = record g { modes = λ number e. Plainly }
