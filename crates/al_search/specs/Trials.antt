-- The trials of a search: when they can be run, and what they tell.
use Rattle.std.specs.Prelude.{◌≡◌, ℕ, Option, Some, slice_get}
use Rattle.al_code.specs.Valid.{IsValid}
use Rattle.al_core.specs.declared.choices.Choice.{Choice}
use Rattle.al_core.specs.Limits.{AreInRange}
use Rattle.al_core.specs.Lines.{IsLineSize}
use Rattle.al_engine.specs.Jobs.{IsCodeOf}
use Rattle.al_infer.specs.declared.outcomes.Outcome.{Outcome}
use Rattle.al_search.specs.declared.trials.Search.{Search}
use Rattle.al_search.specs.Search.{told}

-- the outcome of a candidate, or of the plain run, at a test
abbrev pub told_by : Search → Option ℕ → ℕ → Outcome
told_by s = told s.program.value s.number s.tried.now s.tests.now s.knobs

-- the code and the loops are those of the program, and what is tried has lines of one of the five sizes
pub record MayTry (s : Search) : Type 0 where
  pub loops : s.infos.now ≡ s.program.value.1
  pub valid : IsValid s.code.now
  pub code : IsCodeOf s.program.value.0 s.code.now
  pub ranges : AreInRange s.knobs
  pub lines : (k : ℕ) (c : Choice) → slice_get s.tried.now k ≡ Some c → IsLineSize c.line
