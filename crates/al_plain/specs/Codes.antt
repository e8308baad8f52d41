-- Codes of the values that the code's types have, by which a proof tells them apart.
use Rattle.std.specs.Prelude.{◌≡◌, ℕ, ℤ, Bool, List, Option, Some, None, refl}
use Rattle.std.specs.Coded.{Coded, code_by, coded×, coded_ℕ, coded_ℤ, coded_bool, coded_list, coded_option}
use Rattle.std.specs.FinMap as map
use Rattle.std.specs.FinMap.{FinMap}
use Rattle.std.specs.FinSet as set
use Rattle.std.specs.FinSet.{FinSet}
use Rattle.al_core.specs.contracts.values.Obj as obj
use Rattle.al_core.specs.contracts.values.Val as val
use Rattle.al_core.specs.contracts.values.Addr as addr
use Rattle.al_core.specs.contracts.choices.Red as red
use Rattle.al_core.specs.contracts.reports.Ending as ending
use Rattle.al_core.specs.contracts.reports.Judged as judged
use Rattle.al_core.specs.contracts.reports.Event as event
use Rattle.al_core.specs.declared.choices.Red.{Red}
use Rattle.al_core.specs.declared.values.Obj.{Obj}
use Rattle.al_core.specs.declared.values.Val.{Val}
use Rattle.al_core.specs.declared.reports.Ending.{Ending}
use Rattle.al_core.specs.declared.reports.Judged.{Judged}
use Rattle.al_core.specs.declared.reports.Event.{Event}
use Rattle.al_core.specs.Orders.{obj_cmp, addr_cmp}
use Rattle.al_core.specs.Memory.{Memory}
use Rattle.al_core.specs.Access.{Allocator, Outer, InIteration, Allocations, AccessRecord, Content}
use Rattle.al_core.specs.Iteration.{Finished}
use Rattle.al_core.specs.Chunk.{Outcome}
use Rattle.al_core.specs.Verdicts.{Judging}
use Rattle.al_core.specs.Round.{Round}
use Rattle.al_core.specs.Lockstep.{Rounds}
use Rattle.al_core.specs.Run.{Counts, LoopResult, Whole}

abbrev pub words_code : Coded (List Val)
words_code = coded_list val.the_row.coded

abbrev pub bytes_code : Coded (List ℕ)
bytes_code = coded_list coded_ℕ

abbrev pub names_list_code : Coded (List Obj)
names_list_code = coded_list obj.the_row.coded

abbrev pub objects_code : Coded (FinMap obj_cmp (List Val))
objects_code = map.code obj.the_row.coded words_code

abbrev pub memory_code : Coded Memory
memory_code =
    code_by (FinMap obj_cmp (List Val) × List Val) (coded× objects_code words_code)
    (λ m. (m.objects, m.locals)) (λ p. record { objects = p.0; locals = p.1 }) (λ _. refl)

abbrev pub addresses_code : Coded (FinSet addr_cmp)
addresses_code = set.code addr.the_row.coded

abbrev pub names_code : Coded (FinSet obj_cmp)
names_code = set.code obj.the_row.coded

abbrev pub accesses_code : Coded AccessRecord
accesses_code =
    code_by (FinSet addr_cmp × (FinSet addr_cmp × (FinSet obj_cmp × (List Obj × (List Red × List Val)))))
    (coded× addresses_code (coded× addresses_code (coded× names_code
    (coded× names_list_code (coded× (coded_list red.the_row.coded) words_code)))))
    (λ a. (a.reads, (a.touched, (a.made, (a.freed, (a.reds, a.accumulators))))))
    (λ p. record {
      reads = p.0;
      touched = p.1.0;
      made = p.1.1.0;
      freed = p.1.1.1.0;
      reds = p.1.1.1.1.0;
      accumulators = p.1.1.1.1.1;
    })
    (λ _. refl)

abbrev numbers_of : Allocator → Option (ℕ × ℕ)
numbers_of Outer = None
numbers_of (InIteration e j) = Some (e, j)

abbrev by_numbers : Option (ℕ × ℕ) → Allocator
by_numbers None = Outer
by_numbers (Some p) = InIteration p.0 p.1

pub same_allocator : (a : Allocator) → by_numbers (numbers_of a) ≡ a
same_allocator Outer = refl
same_allocator (InIteration e j) = refl

abbrev pub allocator_code : Coded Allocator
allocator_code =
    code_by (Option (ℕ × ℕ)) (coded_option (coded× coded_ℕ coded_ℕ)) numbers_of by_numbers same_allocator

abbrev pub allocations_code : Coded Allocations
allocations_code =
    code_by (Allocator × (ℕ × ℕ)) (coded× allocator_code (coded× coded_ℕ coded_ℕ))
    (λ a. (a.allocator, (a.next, a.words)))
    (λ p. record { allocator = p.0; next = p.1.0; words = p.1.1 })
    (λ _. refl)

abbrev pub content_code : Coded Content
content_code =
    code_by (Memory × (Allocations × (List ℕ × Option AccessRecord)))
    (coded× memory_code (coded× allocations_code (coded× bytes_code (coded_option accesses_code))))
    (λ c. (c.memory, (c.allocations, (c.printed, c.accesses))))
    (λ p. record { memory = p.0; allocations = p.1.0; printed = p.1.1.0; accesses = p.1.1.1 })
    (λ _. refl)

abbrev pub finished_code : Coded Finished
finished_code =
    code_by (Ending × (ℕ × Content)) (coded× ending.the_row.coded (coded× coded_ℕ content_code))
    (λ f. (f.ending, (f.steps, f.content)))
    (λ p. record { ending = p.0; steps = p.1.0; content = p.1.1 })
    (λ _. refl)

-- the sets of an outcome, and what it wrote, made and freed
abbrev pub Changes : Type 0
Changes = FinSet addr_cmp × (FinSet addr_cmp × (FinMap addr_cmp Val × (FinMap obj_cmp (List Val) × List Obj)))

-- what else came of it
abbrev pub Rest : Type 0
Rest = List ℤ × (List ℕ × (Ending × ℕ))

abbrev pub changes_code : Coded Changes
changes_code =
    coded× addresses_code (coded× addresses_code (coded× (map.code addr.the_row.coded val.the_row.coded)
    (coded× objects_code names_list_code)))

abbrev pub rest_code : Coded Rest
rest_code = coded× (coded_list coded_ℤ) (coded× bytes_code (coded× ending.the_row.coded coded_ℕ))

abbrev pub outcome_code : Coded Outcome
outcome_code =
    code_by (Changes × Rest) (coded× changes_code rest_code)
    (λ o. ((o.reads, (o.touched, (o.writes, (o.made, o.freed)))), (o.accumulators, (o.printed, (o.ending, o.steps)))))
    (λ p. record {
      reads = p.0.0;
      touched = p.0.1.0;
      writes = p.0.1.1.0;
      made = p.0.1.1.1.0;
      freed = p.0.1.1.1.1;
      accumulators = p.1.0;
      printed = p.1.1.0;
      ending = p.1.1.1.0;
      steps = p.1.1.1.1;
    })
    (λ _. refl)

abbrev pub judging_code : Coded Judging
judging_code =
    code_by (FinSet addr_cmp × (Bool × Bool)) (coded× addresses_code (coded× coded_bool coded_bool))
    (λ j. (j.written, (j.failed, j.trapped)))
    (λ p. record { written = p.0; failed = p.1.0; trapped = p.1.1 })
    (λ _. refl)

abbrev pub round_code : Coded Round
round_code =
    code_by (List Judged × (Memory × (List ℕ × (Ending × ℕ))))
    (coded× (coded_list judged.the_row.coded) (coded× memory_code
    (coded× bytes_code (coded× ending.the_row.coded coded_ℕ))))
    (λ r. (r.verdicts, (r.memory, (r.printed, (r.ending, r.longest)))))
    (λ p. record {
      verdicts = p.0;
      memory = p.1.0;
      printed = p.1.1.0;
      ending = p.1.1.1.0;
      longest = p.1.1.1.1;
    })
    (λ _. refl)

abbrev pub rounds_code : Coded Rounds
rounds_code =
    code_by (Memory × (List ℕ × (Ending × (List (List Judged) × ℕ))))
    (coded× memory_code (coded× bytes_code (coded× ending.the_row.coded
    (coded× (coded_list (coded_list judged.the_row.coded)) coded_ℕ))))
    (λ r. (r.memory, (r.printed, (r.ending, (r.rounds, r.span)))))
    (λ p. record { memory = p.0; printed = p.1.0; ending = p.1.1.0; rounds = p.1.1.1.0; span = p.1.1.1.1 })
    (λ _. refl)

abbrev pub counts_code : Coded Counts
counts_code =
    code_by (ℕ × (ℕ × (ℕ × (ℕ × (ℕ × List Event)))))
    (coded× coded_ℕ (coded× coded_ℕ (coded× coded_ℕ (coded× coded_ℕ
    (coded× coded_ℕ (coded_list event.the_row.coded))))))
    (λ n. (n.loops, (n.rounds, (n.attempts, (n.aborted, (n.span, n.events))))))
    (λ p. record {
      loops = p.0;
      rounds = p.1.0;
      attempts = p.1.1.0;
      aborted = p.1.1.1.0;
      span = p.1.1.1.1.0;
      events = p.1.1.1.1.1;
    })
    (λ _. refl)

abbrev pub result_code : Coded LoopResult
result_code =
    code_by (Memory × (List ℕ × (Ending × Counts)))
    (coded× memory_code (coded× bytes_code (coded× ending.the_row.coded counts_code)))
    (λ r. (r.memory, (r.printed, (r.ending, r.counts))))
    (λ p. record { memory = p.0; printed = p.1.0; ending = p.1.1.0; counts = p.1.1.1 })
    (λ _. refl)

abbrev pub whole_code : Coded Whole
whole_code =
    code_by (Content × (ℕ × Counts)) (coded× content_code (coded× coded_ℕ counts_code))
    (λ w. (w.content, (w.executions, w.counts)))
    (λ p. record { content = p.0; executions = p.1.0; counts = p.1.1 })
    (λ _. refl)
