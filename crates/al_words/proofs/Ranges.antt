-- Every number that a walk takes is in its range.
use Rattle.std.proofs.Common.{◌≡◌, ◌≤◌, ℕ, ◌+◌, Option, None, Some, Result, Ok, Err, IfOk, IfSome, is_some, Bool, true, false, ◌&&◌, ◌||◌, ◌==◌, if◌then◌else◌, nat_le, List, [], ◌∷◌, unwrap_or, codes, nat_eq, refl, sym, subst, arith, rules}
use Rattle.std.specs.Bool.{⊤}
use Rattle.std.specs.List.{starts_with}
use Rattle.al_source.specs.Steps.{and_then}
use Rattle.al_source.specs.declared.limits.TheConstants.{MOST_LANES, MOST_CHUNK, MOST_THREADS, MOST_STEPS, MOST_TESTS, MOST_START, MOST_SIZE, DEFAULT_LANES, DEFAULT_CHUNK, DEFAULT_THREADS, DEFAULT_LINE, DEFAULT_ITERATION_STEPS, DEFAULT_SERIAL_STEPS}
use Rattle.al_core.specs.Limits.{AreInRange}
use Rattle.al_core.specs.Lines.{IsLineSize}
use Rattle.al_text.specs.Digits.{numeral}
use Rattle.al_words.specs.declared.command.Command.{Command}
use Rattle.al_words.specs.declared.command.Job.{Job}
use Rattle.al_words.specs.declared.command.WordFault.{WordFault}
use Rattle.al_words.specs.declared.command.WordFault.TheVariants.{Repeated, Names}
use Rattle.al_words.specs.declared.option.Given.{Given}
use Rattle.al_words.specs.declared.option.Knob.{Knob}
use Rattle.al_words.specs.declared.option.Knob.TheVariants.{Lanes, Chunk, Threads, Line, IterSteps, Steps, LoopNumber}
use Rattle.al_words.specs.declared.verb.Verb.{Verb}
use Rattle.al_words.specs.declared.verb.Verb.TheVariants as verb
use Rattle.al_words.specs.declared.walk.Waiting.{Waiting}
use Rattle.al_words.specs.declared.walk.Walk.{Walk}
use Rattle.al_words.specs.Words.{within, number_in, value_of, taken, takes_number, least, greatest, give, knobs_of, begin, valued, optioned, named, step_by, step, walked, word_at, place, with_size, with_start, asked, walked_job, ended, after_walk, by_verb, command, verb_of, takes, loop_of, given_to, knob_for}
use Rattle.al_words.specs.Ranges.{HasRanges}

abbrev IsIn : ℕ → ℕ → ℕ → Type 0
IsIn least most n = (least ≤ n) × (n ≤ most)

is_within : (least most : ℕ) (r : Option ℕ) (n : ℕ) → within least most r ≡ Some n → IsIn least most n
is_within least most (Some m) n h = by_test (nat_le least m) (nat_le m most) refl refl h
  where
    by_test : (a b : Bool) → nat_le least m ≡ a → nat_le m most ≡ b → (if a && b then Some m else None) ≡ Some n → IsIn least most n
    by_test true true p q h = let same : m ≡ n = cc in subst (IsIn least most) same (search (rules, p), search (rules, q))
    by_test true false p q h = absurd cc
    by_test false b p q h = absurd cc
is_within least most None n h = absurd cc

-- what an option takes
abbrev IsValue : Knob → ℕ → Type 0
IsValue Lanes n = IsIn 1 MOST_LANES n
IsValue Chunk n = IsIn 1 MOST_CHUNK n
IsValue Threads n = IsIn 1 MOST_THREADS n
IsValue Line n = IsLineSize n
IsValue IterSteps n = IsIn 1 MOST_STEPS n
IsValue Steps n = IsIn 1 MOST_STEPS n
IsValue LoopNumber n = ⊤

is_value : (knob : Knob) (m : ℕ) → IsIn (least knob) (greatest knob) m → takes_number knob m ≡ true → IsValue knob m
is_value Lanes m h t = h
is_value Chunk m h t = h
is_value Threads m h t = h
is_value Line m h t = t
is_value IterSteps m h t = h
is_value Steps m h t = h
is_value LoopNumber m h t = tt

is_taken : (knob : Knob) (r : Option ℕ) (n : ℕ) → ((m : ℕ) → r ≡ Some m → IsIn (least knob) (greatest knob) m)
    → taken knob r ≡ Some n → IsValue knob n
is_taken knob (Some m) n f h = by_test (takes_number knob m) refl h
  where
    by_test : (b : Bool) → takes_number knob m ≡ b → (if b then Some m else None) ≡ Some n → IsValue knob n
    by_test true t h = let same : m ≡ n = cc in subst (IsValue knob) same (is_value knob m (f m refl) t)
    by_test false t h = absurd cc
is_taken knob None n f h = absurd cc

is_given : (knob : Knob) (word : List ℕ) (n : ℕ) → value_of knob word ≡ Some n → IsValue knob n
is_given knob word n h = is_taken knob (number_in (least knob) (greatest knob) word) n (is_within (least knob) (greatest knob) (numeral word)) h

record InRange (g : Given) : Type 0 where
  pub lanes : IfSome g.lanes (IsValue Lanes)
  pub chunk : IfSome g.chunk (IsValue Chunk)
  pub threads : IfSome g.threads (IsValue Threads)
  pub line : IfSome g.line (IsValue Line)
  pub iter_steps : IfSome g.iter_steps (IsValue IterSteps)
  pub steps : IfSome g.steps (IsValue Steps)

give_in : (g : Given) (k : Knob) (n : ℕ) → IsValue k n → InRange g → InRange (give g k n)
give_in g Lanes n h i =
    record { lanes = h; chunk = i.chunk; threads = i.threads; line = i.line; iter_steps = i.iter_steps; steps = i.steps }
give_in g Chunk n h i =
    record { lanes = i.lanes; chunk = h; threads = i.threads; line = i.line; iter_steps = i.iter_steps; steps = i.steps }
give_in g Threads n h i =
    record { lanes = i.lanes; chunk = i.chunk; threads = h; line = i.line; iter_steps = i.iter_steps; steps = i.steps }
give_in g Line n h i =
    record { lanes = i.lanes; chunk = i.chunk; threads = i.threads; line = h; iter_steps = i.iter_steps; steps = i.steps }
give_in g IterSteps n h i =
    record { lanes = i.lanes; chunk = i.chunk; threads = i.threads; line = i.line; iter_steps = h; steps = i.steps }
give_in g Steps n h i =
    record { lanes = i.lanes; chunk = i.chunk; threads = i.threads; line = i.line; iter_steps = i.iter_steps; steps = h }
give_in g LoopNumber n h i =
    record { lanes = i.lanes; chunk = i.chunk; threads = i.threads; line = i.line; iter_steps = i.iter_steps; steps = i.steps }

value_in : (w v : Walk) (o : Waiting) (r : Option ℕ) → ((n : ℕ) → r ≡ Some n → IsValue o.knob n) → InRange w.given → valued w o r ≡ Ok v → InRange v.given
value_in w v o (Some n) f i h =
    let same : record w { given = give w.given o.knob n; waiting = None } ≡ v = cc in
    subst (λ (x : Walk). InRange x.given) same (give_in w.given o.knob n (f n refl) i)
value_in w v o None f i h = absurd cc

option_in : (w v : Walk) (at : ℕ) (r : Option Knob) → InRange w.given → optioned w at r ≡ Ok v → InRange v.given
option_in w v at (Some k) i h = by_test (is_some (given_to w.given k)) h
  where
    by_test : (b : Bool) → (if b then Err (Repeated at) else Ok (record w { waiting = Some (record { knob = k; at = at }) })) ≡ Ok v → InRange v.given
    by_test true h = absurd cc
    by_test false h = let same : record w { waiting = Some (record { knob = k; at = at }) } ≡ v = cc in subst (λ (x : Walk). InRange x.given) same i
option_in w v at None i h = absurd cc

step_in : (w v : Walk) (at : ℕ) (word : List ℕ) (r : Option Waiting) → InRange w.given → step_by r w at word ≡ Ok v → InRange v.given
step_in w v at word (Some o) i h = value_in w v o (value_of o.knob word) (is_given o.knob word) i h
step_in w v at word None i h = by_test (starts_with nat_eq word (codes "-")) h
  where
    by_test : (b : Bool) → (if b then optioned w at (knob_for w.verb word) else Ok (named w at)) ≡ Ok v → InRange v.given
    by_test true h = option_in w v at (knob_for w.verb word) i h
    by_test false h = let same : named w at ≡ v = cc in subst (λ (x : Walk). InRange x.given) same i

walk_in : (w v : Walk) (at : ℕ) (ws : List (List ℕ)) → InRange w.given → walked w at ws ≡ Ok v → InRange v.given
walk_in w v at [] i h = let same : w ≡ v = cc in subst (λ (x : Walk). InRange x.given) same i
walk_in w v at (x ∷ xs) i h = by_step (step w at x) refl h (λ u j k. walk_in u v (at + 1) xs j k)
  where
    by_step : (r : Result Walk WordFault) → step w at x ≡ r → and_then r (λ u. walked u (at + 1) xs) ≡ Ok v
        → ((u : Walk) → InRange u.given → walked u (at + 1) xs ≡ Ok v → InRange v.given) → InRange v.given
    by_step (Ok u) e h rest = rest u (step_in w u at x w.waiting i e) h
    by_step (Err fault) e h rest = absurd cc

or_default : (least most n : ℕ) (r : Option ℕ) → IsIn least most n → IfSome r (IsIn least most) → IsIn least most (unwrap_or r n)
or_default least most n (Some m) d h = h
or_default least most n None d h = d

or_line : (r : Option ℕ) → IfSome r IsLineSize → IsLineSize (unwrap_or r DEFAULT_LINE)
or_line (Some n) h = h
or_line None h = refl

knobs_in : (g : Given) → InRange g → AreInRange (knobs_of g)
knobs_in g i = record {
  lanes = or_default 1 MOST_LANES DEFAULT_LANES g.lanes (omega arith, omega arith) i.lanes;
  chunk = or_default 1 MOST_CHUNK DEFAULT_CHUNK g.chunk (omega arith, omega arith) i.chunk;
  threads = or_default 1 MOST_THREADS DEFAULT_THREADS g.threads (omega arith, omega arith) i.threads;
  line = or_line g.line i.line;
  iter_steps = or_default 1 MOST_STEPS DEFAULT_ITERATION_STEPS g.iter_steps (omega arith, omega arith) i.iter_steps;
  serial_steps = or_default 1 MOST_STEPS DEFAULT_SERIAL_STEPS g.steps (omega arith, omega arith) i.steps;
}

size_in : (at start : ℕ) (j : Job) (r : Option ℕ) → start ≤ MOST_START → AreInRange j.knobs → ((n : ℕ) → r ≡ Some n → IsIn 1 MOST_SIZE n)
    → IfOk (with_size at start j.knobs r) HasRanges
size_in at start j (Some size) s i f = (record { start_fits = s; size_fits = f size refl }, i)
size_in at start j None s i f = tt

start_in : (words : List (List ℕ)) (j : Job) (r : Option ℕ) → AreInRange j.knobs → ((n : ℕ) → r ≡ Some n → IsIn 0 MOST_START n)
    → IfOk (with_start words j r) HasRanges
start_in words j (Some start) i f =
    size_in (place j.names 1) start j _ (f start refl).1 i (λ n e. is_within 1 MOST_SIZE (numeral (word_at words (place j.names 1))) n e)
start_in words j None i f = tt

-- the number of names that a command takes
one_or_two : (n : ℕ) → (n == 1 || n == 2) ≡ true → (1 ≤ n) × (n ≤ MOST_TESTS + 1)
one_or_two n t = by_test (n == 1) (n == 2) refl refl t
  where
    by_test : (a b : Bool) → (n == 1) ≡ a → (n == 2) ≡ b → (a || b) ≡ true → (1 ≤ n) × (n ≤ MOST_TESTS + 1)
    by_test true b p q t = let is : n ≡ 1 = search (rules, p) in rw is (omega arith, omega arith)
    by_test false true p q t = let is : n ≡ 2 = search (rules, q) in rw is (omega arith, omega arith)
    by_test false false p q t = absurd cc

two_to_most : (n : ℕ) → (nat_le 2 n && nat_le n (MOST_TESTS + 1)) ≡ true → (2 ≤ n) × (n ≤ MOST_TESTS + 1)
two_to_most n t = by_test (nat_le 2 n) (nat_le n (MOST_TESTS + 1)) refl refl t
  where
    by_test : (a b : Bool) → nat_le 2 n ≡ a → nat_le n (MOST_TESTS + 1) ≡ b → (a && b) ≡ true → (2 ≤ n) × (n ≤ MOST_TESTS + 1)
    by_test true true p q t = (search (rules, p), search (rules, q))
    by_test true false p q t = absurd cc
    by_test false b p q t = absurd cc

one : (n : ℕ) → (n == 1) ≡ true → (1 ≤ n) × (n ≤ MOST_TESTS + 1)
one n t = let is : n ≡ 1 = search (rules, t) in rw is (omega arith, omega arith)

asked_in : (words : List (List ℕ)) (v : Verb) (j : Job) (k : ℕ) → takes v j.count ≡ true → AreInRange j.knobs
    → IfOk (asked words v j k) HasRanges
asked_in words verb.Run j k t i = record { names = one_or_two j.count t; knobs = i }
asked_in words verb.Plain j k t i = record { names = one_or_two j.count t; knobs = i }
asked_in words verb.Trace j k t i = record { names = one_or_two j.count t; knobs = i }
asked_in words verb.Infer j k t i =
    let many = two_to_most j.count t in
    let least = many.0 in
    (record { names = (omega arith, many.1); knobs = i }, many.0)
asked_in words verb.Check j k t i = record { names = one j.count t; knobs = i }
asked_in words verb.Demo j k t i = start_in words j _ i (λ n e. is_within 0 MOST_START (numeral (word_at words (place j.names 0))) n e)

ended_in : (words : List (List ℕ)) (w : Walk) (r : Option Waiting) → InRange w.given → IfOk (ended words w r) HasRanges
ended_in words w (Some o) i = tt
ended_in words w None i = by_test (takes w.verb w.count) refl
  where
    by_test : (b : Bool) → takes w.verb w.count ≡ b
        → IfOk (if b then asked words w.verb (walked_job w) (loop_of w.given) else Err Names) HasRanges
    by_test true t = asked_in words w.verb (walked_job w) (loop_of w.given) t (knobs_in w.given i)
    by_test false t = tt

after_in : (words : List (List ℕ)) (v : Verb) (rest : List (List ℕ)) (r : Result Walk WordFault) → walked (begin v) 1 rest ≡ r
    → IfOk (after_walk words r) HasRanges
after_in words v rest (Ok w) e =
    ended_in words w w.waiting (walk_in (begin v) w 1 rest (record { lanes = tt; chunk = tt; threads = tt; line = tt; iter_steps = tt; steps = tt }) e)
after_in words v rest (Err fault) e = tt

verb_in : (words rest : List (List ℕ)) (r : Option Verb) → IfOk (by_verb words rest r) HasRanges
verb_in words rest (Some v) = after_in words v rest (walked (begin v) 1 rest) refl
verb_in words rest None = tt

pub command_in : (words : List (List ℕ)) → IfOk (command words) HasRanges
command_in [] = tt
command_in (first ∷ rest) = verb_in (first ∷ rest) rest (verb_of first)

-- a result that is the command has ranges, too
pub result_in : (words : List (List ℕ)) (r : Result Command WordFault) → r ≡ command words → IfOk r HasRanges
result_in words r e = subst (λ x. IfOk x HasRanges) (sym e) (command_in words)
