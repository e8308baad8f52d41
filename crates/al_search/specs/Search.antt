-- The search for annotations of a program's loop: what its trials tell, and the text of its table.
use Rattle.std.specs.Prelude.{ℕ, List, [], map, length, Option, Some, None, slice_get, slice_set, unwrap_or, ℤ}
use Rattle.al_core.specs.declared.choices.Choice.{Choice}
use Rattle.al_core.specs.declared.choices.Knobs.{Knobs}
use Rattle.al_core.specs.declared.choices.LoopInfo.{LoopInfo}
use Rattle.al_core.specs.declared.reports.Report.{Report}
use Rattle.al_core.specs.declared.typed_tree.Typed.{Typed}
use Rattle.al_core.specs.Lines.{with_line}
use Rattle.al_core.specs.Report.{report}
use Rattle.al_core.specs.Run.{sizes_of}
use Rattle.al_rules.specs.Candidates.{choices}
use Rattle.al_rules.specs.Refusals.{Noted}
use Rattle.al_runs_laws.specs.Accepted.{unannotated}
use Rattle.al_infer.specs.declared.outcomes.Outcome.{Outcome}
use Rattle.al_infer.specs.declared.tables.Table.{Table}
use Rattle.al_infer.specs.Findings.{table}
use Rattle.al_report.specs.Tables.{table_text}

-- what is compared of a run
abbrev pub outcome_of : Report → Outcome
outcome_of r = record {
  output = r.output;
  ending = r.ending;
  attempts = r.attempts;
  aborted = r.aborted;
  span = r.span;
}

-- the choices that are tried for a loop by its entry, with lines of so many words
abbrev pub tried : ℕ → Typed → LoopInfo → List Choice
tried line typed info = map (with_line line) (choices typed info)

-- a candidate by its number, or nothing for the plain run
abbrev pub candidate : List Choice → Option ℕ → Option Choice
candidate cs (Some k) = slice_get cs k
candidate cs None = None

-- the loop of a number runs by a candidate, or plain where there is none; every other loop runs plain
abbrev pub choices_for : List LoopInfo → ℕ → Option Choice → List (Option Choice)
choices_for infos number choice = slice_set (unannotated infos) number choice

abbrev pub input_of : List (List ℤ) → ℕ → List ℤ
input_of tests t = unwrap_or (slice_get tests t) []

module _ (program : Noted) (number : ℕ) (cs : List Choice) (tests : List (List ℤ)) (knobs : Knobs) where
  -- what is told of a candidate, or of the plain run, at a test: the run by the definition
  abbrev pub told : Option ℕ → ℕ → Outcome
  told k t =
      outcome_of (report program.0 (input_of tests t) (sizes_of knobs) (choices_for program.1 number (candidate cs k)))

  -- the table for the loop of the number
  abbrev pub table_of : Table
  table_of = table told (length cs) (length tests)

-- the text for an entry; a loop that is not there has no table
abbrev pub text_by : Noted → ℕ → List (List ℤ) → Knobs → Option LoopInfo → List ℕ
text_by program number tests knobs (Some info) =
    let cs = tried knobs.line program.0 info in
    table_text program.0 info.func cs (table_of program number cs tests knobs)
text_by program number tests knobs None = []

-- the text of the table for the loop of a number
abbrev pub searched : Noted → ℕ → List (List ℤ) → Knobs → List ℕ
searched program number tests knobs = text_by program number tests knobs (slice_get program.1 number)
