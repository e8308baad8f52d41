-- A part of a plan: what it gives, and that whatever comes next comes of the whole.
use Rattle.std.specs.Prelude.{◌≡◌, ℕ, List, length, Ok}
use Rattle.al_rules.specs.Refusals.{accepted}
use Rattle.al_answers.specs.declared.answers.Answer.{Answer}
use Rattle.al_answers.specs.Plans.{Plan}
use Rattle.al_answers.specs.Seen.{FilesSeen}
use Rattle.al_answers.specs.Outcome.{Came, Starved}
use Rattle.al_words.specs.declared.command.Command.{Command}
use Rattle.al_cli.specs.declared.reading.SourceStep.{SourceStep}
use Rattle.al_cli.specs.declared.reading.SourceStep.TheVariants as source
use Rattle.al_cli.specs.declared.reading.InputStep.{InputStep}
use Rattle.al_cli.specs.declared.reading.InputStep.TheVariants as input
use Rattle.al_cli.specs.declared.reading.InputsStep.{InputsStep}
use Rattle.al_cli.specs.declared.reading.InputsStep.TheVariants as inputs
use Rattle.al_cli.specs.Shown.{source_plan, input_plan, inputs_plan}

pub record GoesOn {A : Type 0} (whole : (A → Plan) → Plan) (old new : FilesSeen) (a : A) : Type 0 where
  pub came : (next : A → Plan) (last : FilesSeen) (answer : Answer) → Came (next a) new last answer
      → Came (whole next) old last answer
  pub starved : (next : A → Plan) (last : FilesSeen) → Starved (next a) new last → Starved (whole next) old last

-- the answer comes of it, whatever comes next
abbrev pub AnswersWith : {A : Type 0} → ((A → Plan) → Plan) → FilesSeen → FilesSeen → Answer → Type 0
AnswersWith {A} whole old new a = (next : A → Plan) → Came (whole next) old new a

-- memory runs out in it, whatever comes next
abbrev pub Starves : {A : Type 0} → ((A → Plan) → Plan) → FilesSeen → FilesSeen → Type 0
Starves {A} whole old new = (next : A → Plan) → Starved (whole next) old new

abbrev pub SourceComes : Command → List ℕ → FilesSeen → FilesSeen → SourceStep → Type 0
SourceComes c name old new (source.Accepted bytes program) =
    GoesOn (source_plan c name) old new program × (accepted bytes ≡ Ok program)
SourceComes c name old new (source.Answered a) = AnswersWith (source_plan c name) old new a

abbrev pub InputComes : List ℕ → FilesSeen → FilesSeen → InputStep → Type 0
InputComes name old new (input.Numbers ns) = GoesOn (input_plan name) old new ns
InputComes name old new (input.Answered a) = AnswersWith (input_plan name) old new a

abbrev pub InputsCome : List (List ℕ) → FilesSeen → FilesSeen → InputsStep → Type 0
InputsCome names old new (inputs.Numbers all) =
    GoesOn (inputs_plan names) old new all × (length all ≡ length names)
InputsCome names old new (inputs.Answered a) = AnswersWith (inputs_plan names) old new a
