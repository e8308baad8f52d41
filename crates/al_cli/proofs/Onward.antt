-- Inputs that were read so far, and those that are left: whatever comes of the rest comes of the whole.
use Rattle.std.proofs.Common.{◌≡◌, ℕ, List, ◌++◌, ℤ}
use Rattle.al_answers.specs.declared.answers.Answer.{Answer}
use Rattle.al_answers.specs.Plans.{Plan}
use Rattle.al_answers.specs.Seen.{FilesSeen}
use Rattle.al_answers.specs.Outcome.{Came, Starved}
use Rattle.al_cli.specs.Shown.{inputs_plan}

pub record Onward (names : List (List ℕ)) (old : FilesSeen) (left : List (List ℕ)) (now : FilesSeen) (all : List (List ℤ)) : Type 0 where
  -- what was read stands before what comes
  pub before : List (List ℤ) → List (List ℤ)
  pub same : (more : List (List ℤ)) → before more ≡ all ++ more
  pub came : (next : List (List ℤ) → Plan) (last : FilesSeen) (a : Answer) → Came (inputs_plan left (λ more. next (before more))) now last a
      → Came (inputs_plan names next) old last a
  pub starved : (next : List (List ℤ) → Plan) (last : FilesSeen) → Starved (inputs_plan left (λ more. next (before more))) now last
      → Starved (inputs_plan names next) old last
