-- Where a walk over words can stand: each option is given once, with one value, so that all but a few words are names.
use Rattle.std.specs.Prelude.{◌≡◌, ◌≤◌, ◌<◌, ℕ, ◌+◌, ◌*◌, Option, None, Some, IfSome}
use Rattle.al_words.specs.declared.option.Given.{Given}
use Rattle.al_words.specs.declared.walk.Walk.{Walk}
use Rattle.al_words.specs.Words.{given_to}

abbrev pub one_if : {A : Type 0} → Option A → ℕ
one_if (Some a) = 1
one_if None = 0

abbrev pub how_many : Given → ℕ
how_many g =
    one_if g.lanes
    + (one_if g.chunk
    + (one_if g.threads + one_if g.line + (one_if g.iter_steps + (one_if g.steps + one_if g.loop_number))))

pub record Fits (at : ℕ) (w : Walk) : Type 0 where
  -- before a place stand the command, the names, and each option that was given with its value
  pub places : at ≤ 1 + (w.count + (2 * how_many w.given + one_if w.waiting))
  pub names : w.count < at
  -- an option that waits was not given before
  pub waits : IfSome w.waiting (λ o. given_to w.given o.knob ≡ None)
