-- What is written of a run in lockstep is what is written of a serial one.
use Rattle.std.proofs.Common.{◌≡◌, ◌≢◌, ℕ, List, Result, Ok, IfOk, IfSome, ℤ, ap, subst, arith}
use Rattle.al_core.specs.Limits.{AreInRange}
use Rattle.al_core.specs.Report.{OutputAndEnding}
use Rattle.al_core.specs.Run.{sizes_of}
use Rattle.al_rules.specs.Refusals.{Noted}
use Rattle.al_runs_laws.specs.Accepted.{LookAtReads, AreInOrder}
use Rattle.al_runs_laws.proofs.AcceptedRuns.{accepted_are_serial, accepted_in_order_are_plain}
use Rattle.al_sizes_laws.proofs.AcceptedSizes.{accepted_are_sized}
use Rattle.al_io.specs.Contents.{Contents}
use Rattle.al_io.specs.Counts.{DidNotRise}
use Rattle.al_answers.specs.declared.answers.Answer.{Answer}
use Rattle.al_answers.specs.Outcome.{Outcome}
use Rattle.al_answers.specs.Seen.{FilesSeen, SinkSeen}
use Rattle.al_answers.specs.Written.{Writes}
use Rattle.al_answers.proofs.Options.{if_so}
use Rattle.al_answers.proofs.Outcomes.{at}
use Rattle.al_words.specs.declared.command.Command.{Command}
use Rattle.al_words.specs.declared.command.Command.TheVariants.{Run, Plain}
use Rattle.al_words.specs.declared.command.Job.{Job}
use Rattle.al_words.specs.declared.command.WordFault.{WordFault}
use Rattle.al_words.specs.Words.{command}
use Rattle.al_words.specs.Jobs.{source_name, input_names}
use Rattle.al_words.specs.Ranges.{HasRanges}
use Rattle.al_words.proofs.Ranges.{command_in}
use Rattle.al_cli.specs.Headline.{Holds}
use Rattle.al_cli.specs.Shown.{lockstep_report, first_input, ended, bytes_of, answer_of, plan}
use Rattle.al_cli.specs.Serial.{serial_bytes}
use Rattle.al_cli.proofs.Clauses.{headline}
use Rattle.al_cli.proofs.Inputs.{first_is_input}

-- the numbers of a run are in their ranges
knobs_of : (words : List (List ℕ)) (job : Job) → command words ≡ Ok (Run job) → AreInRange job.knobs
knobs_of words job is = (subst (λ (r : Result Command WordFault). IfOk r HasRanges) is (command_in words)).knobs

-- the bytes of what is shown
bytes_by : List ℕ → OutputAndEnding → Answer
bytes_by name s = ended name s.ending s.output

module _ (words : List (List ℕ)) (files : Contents) (job : Job) (program : Noted) (inputs : List (List ℤ)) (is : command words ≡ Ok (Run job))
    (look : LookAtReads program.1) (h : Holds words files job program inputs) where
  abbrev name : List ℕ
  name = source_name words job

  abbrev input : List ℤ
  input = first_input inputs

  lockstep_is_serial : bytes_of name (lockstep_report program input job.knobs) ≡ serial_bytes name program input job.knobs
  unfolding bytes_by
  lockstep_is_serial =
      let range = knobs_of words job is in
      ap (bytes_by name)
      (accepted_are_serial h.source program.0 program.1 job.knobs.line input (sizes_of job.knobs) h.is_accepted
      (accepted_are_sized h.source program.0 program.1 h.is_accepted)
      (first_is_input files (input_names words job) inputs h.have_inputs) (omega (arith, range.chunk.0)) look)

  lockstep_is_plain : AreInOrder program.1
      → bytes_of name (lockstep_report program input job.knobs) ≡ answer_of (Plain job) name program inputs
  unfolding bytes_by
  lockstep_is_plain ordered =
      let range = knobs_of words job is in
      ap (bytes_by name)
      (accepted_in_order_are_plain h.source program.0 program.1 job.knobs.line input (sizes_of job.knobs) h.is_accepted
      (accepted_are_sized h.source program.0 program.1 h.is_accepted)
      (first_is_input files (input_names words job) inputs h.have_inputs) (omega (arith, range.chunk.0)) (omega (arith, range.lanes.0)) look ordered)

module _ (words : List (List ℕ)) (f g : FilesSeen) (o p e q : SinkSeen) (s : ℕ) (outcome : Outcome (plan words) (at f g o p e q s)) (job : Job)
    (program : Noted) (inputs : List (List ℤ)) (is : command words ≡ Ok (Run job)) (look : LookAtReads program.1) where
  pub serial : DidNotRise f.faults g.faults → DidNotRise o.faults p.faults → DidNotRise e.faults q.faults → s ≢ 6
      → IfSome f.contents (λ files. Holds words files job program inputs
      → Writes (serial_bytes (source_name words job) program (first_input inputs) job.knobs) (at f g o p e q s))
  serial still still_out still_err not_six =
      if_so f.contents _ _
      (λ files w h. subst (λ a. Writes a (at f g o p e q s)) (lockstep_is_serial words files job program inputs is look h) (w h))
      (headline words f g o p e q s outcome job program inputs is still still_out still_err not_six)

  pub in_order : AreInOrder program.1 → DidNotRise f.faults g.faults → DidNotRise o.faults p.faults → DidNotRise e.faults q.faults → s ≢ 6
      → IfSome f.contents (λ files. Holds words files job program inputs
      → Writes (answer_of (Plain job) (source_name words job) program inputs) (at f g o p e q s))
  in_order ordered still still_out still_err not_six =
      if_so f.contents _ _
      (λ files w h. subst (λ a. Writes a (at f g o p e q s)) (lockstep_is_plain words files job program inputs is look h ordered) (w h))
      (headline words f g o p e q s outcome job program inputs is still still_out still_err not_six)
