-- What is promised of a call of `alter` with these words.
use Rattle.std.specs.Prelude.{◌≡◌, ◌<◌, ◌⊎◌, ℕ, List, [], ◌∷◌, length, Some, Ok, IsErr, ℤ}
use Rattle.al_laws.specs.Rounds.{RoundsFit}
use Rattle.al_rules.specs.Refusals.{Noted}
use Rattle.al_front.specs.declared.fault.BadTokens.{BadTokens}
use Rattle.al_front.specs.Places.{IsBadIn}
use Rattle.al_io.specs.Contents.{contents_of}
use Rattle.al_runs_laws.specs.Accepted.{LookAtReads, AreInOrder}
use Rattle.al_words.specs.declared.command.Command.TheVariants.{Run, Plain, Infer, Check}
use Rattle.al_words.specs.declared.command.Job.{Job}
use Rattle.al_words.specs.Words.{command}
use Rattle.al_words.specs.Jobs.{source_name}
use Rattle.al_search.specs.Search.{searched}
use Rattle.al_answers.specs.Calls.{Call, OverTold, NoReadFails, ReadFails, ReadMayFail, PutFails, PutMayFail, HasNoPut, IsSilent, IsQuiet, HasMemory, IsAnswered}
use Rattle.al_answers.specs.Plans.{failed, reads_on}
use Rattle.al_answers.specs.Tried.{ReadAtMost}
use Rattle.al_answers.specs.Written.{IsOneOf, Writes, WritesPart, HasOnePutAtMost, Answered, Unread, UnreadInPart, Absent}
use Rattle.al_cli.specs.Headline.{Holds, IsValid}
use Rattle.al_cli.specs.Shown.{lockstep_report, first_input, done, bytes_of, answer_of, bad_line, names_of, plan, shown}
use Rattle.al_cli.specs.Serial.{serial_bytes}
use Rattle.al_cli.specs.Why.{Why}

pub record Promises (words : List (List ℕ)) (c : Call) : Type 0 where
  -- Where no file or sink fails and memory is found, `alter run` of an accepted program writes the bytes and ends with
  -- the status of the one-thread lockstep machine, traps and spent budgets included.
  pub headline : (job : Job) (program : Noted) (inputs : List (List ℤ)) → command words ≡ Ok (Run job) → IsQuiet c
      → HasMemory c
      → OverTold c (λ files. Holds words files job program inputs
      → Writes (bytes_of (source_name words job) (lockstep_report program (first_input inputs) job.knobs)) c)
  -- Where each annotation is RAW or FULL, status and bytes are those of the run in which each execution of a loop runs
  -- its chunks one after another, in the order in which it commits them.
  pub serial : (job : Job) (program : Noted) (inputs : List (List ℤ)) → command words ≡ Ok (Run job)
      → LookAtReads program.1 → IsQuiet c → HasMemory c
      → OverTold c (λ files. Holds words files job program inputs
      → Writes (serial_bytes (source_name words job) program (first_input inputs) job.knobs) c)
  -- Where each commits in order as well, they are those of `plain`.
  pub in_order : (job : Job) (program : Noted) (inputs : List (List ℤ)) → command words ≡ Ok (Run job)
      → LookAtReads program.1 → AreInOrder program.1 → IsQuiet c → HasMemory c
      → OverTold c (λ files. Holds words files job program inputs
      → Writes (answer_of (Plain job) (source_name words job) program inputs) c)
  -- In that run no execution of a loop has more rounds than chunks.
  pub rounds : (job : Job) (program : Noted) (input : List ℤ) → command words ≡ Ok (Run job)
      → RoundsFit (lockstep_report program input job.knobs).events
  -- Where nothing fails and memory is found, status and bytes are those that the words show over these files.
  pub shows : IsQuiet c → HasMemory c → OverTold c (λ files. Writes (shown words files) c)
  -- `check` of a source whose tokens derive no program tells the first bad token.
  pub bad_token : (job : Job) (source : List ℕ) (bad : BadTokens) → command words ≡ Ok (Check job) → IsBadIn source bad
      → IsQuiet c → HasMemory c
      → OverTold c (λ files. contents_of files (source_name words job) ≡ Some source
      → Writes (failed 1 (bad_line (source_name words job) source bad)) c)
  -- `alter infer` writes the table of the search, each trial a run by the definition.
  pub table : (job : Job) (k : ℕ) (program : Noted) (inputs : List (List ℤ)) → command words ≡ Ok (Infer job k)
      → IsQuiet c → HasMemory c → k < length program.1
      → OverTold c (λ files. Holds words files job program inputs
      → Writes (done (searched program k inputs job.knobs)) c)
  -- Valid words, source and inputs are done, unless memory runs out.
  pub complete : IsQuiet c → OverTold c (λ files. IsValid words files → IsOneOf (0 ∷ 3 ∷ 6 ∷ []) c.status)
  -- Which status comes, and why: but for a fault and want of memory an answer was written that has its cause.
  pub statuses : IsOneOf (0 ∷ 1 ∷ 2 ∷ 3 ∷ 4 ∷ 5 ∷ 6 ∷ 7 ∷ []) c.status
  pub why : IsAnswered c → Answered (Why words) c
  pub told : IsAnswered c → OverTold c (λ files. Writes (shown words files) c)
  pub words_refused : IsErr (command words) → IsOneOf (2 ∷ 5 ∷ 6 ∷ []) c.status
  pub not_read : c.status ≡ 4 → ReadMayFail c ⊎ Absent (names_of words) c
  pub not_written : c.status ≡ 5 → PutMayFail c.out ⊎ PutMayFail c.err
  pub starved : c.status ≡ 6 → IsSilent c
  -- Which status a fault gives.
  pub file_fault : ReadFails c → IsOneOf (4 ∷ 5 ∷ 6 ∷ []) c.status
  pub out_fault : PutFails c.out → c.status ≡ 5
  pub err_fault : PutFails c.err → c.status ≡ 5
  pub unread_text : c.status ≡ 4 → ReadFails c → Unread (names_of words) c
  -- After a failed put a prefix of what was to be written is there, and nothing after it.
  pub cut : c.status ≡ 5 → NoReadFails c → OverTold c (λ files. WritesPart (shown words files) c)
  pub cut_unread : c.status ≡ 5 → ReadFails c → UnreadInPart (names_of words) c
  -- At most one read for each name, and none where the words are refused; where contents are told, no read after a
  -- refusal. At most one put a sink, and none of no bytes.
  pub reads : ReadAtMost (length (names_of words)) c.files.before c.files.after
  pub reads_told : OverTold c (λ files. ReadAtMost (reads_on files (plan words)) c.files.before c.files.after)
  pub out_puts : HasOnePutAtMost c.out
  pub err_puts : HasOnePutAtMost c.err
  pub no_out_put : NoReadFails c → OverTold c (λ files. (shown words files).out ≡ [] → HasNoPut c.out)
  pub no_err_put : NoReadFails c → OverTold c (λ files. (shown words files).err ≡ [] → HasNoPut c.err)
  pub no_out_put_unread : ReadFails c → HasNoPut c.out
