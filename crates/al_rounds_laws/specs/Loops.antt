-- What an annotated loop, or a round of it, comes to, and lists of its chunks.
use Rattle.std.specs.Prelude.{◌≡◌, ◌≢◌, ℕ, Bool, true, false, List, [], ◌∷◌}
use Rattle.al_source.specs.declared.annotations.Policy.{Policy}
use Rattle.al_source.specs.declared.annotations.Policy.TheVariants as policy
use Rattle.al_core.specs.declared.reports.Ending.{Ending}
use Rattle.al_core.specs.Memory.{Memory}
use Rattle.al_core.specs.Iteration.{Finished}
use Rattle.al_core.specs.Round.{Round}
use Rattle.al_core.specs.Lockstep.{Rounds}

pub record LoopEnd : Type 0 where
  pub memory : Memory
  pub printed : List ℕ
  pub ending : Ending

abbrev pub end_of : Finished → LoopEnd
end_of r = record { memory = r.content.memory; printed = r.content.printed; ending = r.ending }

abbrev pub end_of_round : Round → LoopEnd
end_of_round r = record { memory = r.memory; printed = r.printed; ending = r.ending }

abbrev pub end_of_rounds : Rounds → LoopEnd
end_of_rounds r = record { memory = r.memory; printed = r.printed; ending = r.ending }

-- ---- chunks

abbrev pub Each : (ℕ → Type 0) → List ℕ → Type 0
Each P [] = Unit {0}
Each P (c ∷ cs) = P c × Each P cs

-- of each chunk of the list and each later one
abbrev pub Pairwise : (ℕ → ℕ → Type 0) → List ℕ → Type 0
Pairwise R [] = Unit {0}
Pairwise R (c ∷ cs) = Each (R c) cs × Pairwise R cs

-- no chunk stands in the list twice
abbrev pub AreDistinct : List ℕ → Type 0
AreDistinct = Pairwise (λ c d. c ≢ d)

-- ---- policies

-- whether a chunk fails that read what a committed chunk of its round wrote
abbrev pub looks_at_reads : Policy → Bool
looks_at_reads policy.Full = true
looks_at_reads policy.Raw = true
looks_at_reads policy.Waw = false
looks_at_reads policy.None = false

abbrev pub LooksAtReads : Policy → Type 0
LooksAtReads p = looks_at_reads p ≡ true

-- whether a chunk fails that wrote what a committed chunk of its round wrote
abbrev pub looks_at_writes : Policy → Bool
looks_at_writes policy.Full = true
looks_at_writes policy.Raw = false
looks_at_writes policy.Waw = true
looks_at_writes policy.None = false

abbrev pub LooksAtWrites : Policy → Type 0
LooksAtWrites p = looks_at_writes p ≡ true
