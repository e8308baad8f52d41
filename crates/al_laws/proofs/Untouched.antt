-- A chunk's outcome, laid over the memory that it ran on, leaves what it did not touch.
use Rattle.std.proofs.Common.{◌≡◌, ℕ, List, Option, Some, None, Bool, true, false, refl, sym, ap, ◌∙◌}
use Rattle.std.specs.Prelude.{if◌then◌else◌}
use Rattle.std.specs.FinMap as map
use Rattle.std.specs.FinSet as set
use Rattle.std.proofs.Math.Bool.{true≢false}
use Rattle.al_core.specs.declared.choices.Red.{Red}
use Rattle.al_core.specs.declared.values.Addr.{Addr}
use Rattle.al_core.specs.declared.values.Addr.TheVariants.{Word, Head, Local}
use Rattle.al_core.specs.declared.values.Obj.{Obj}
use Rattle.al_core.specs.Orders.{addr_cmp}
use Rattle.al_core.specs.Memory.{Memory, value_at}
use Rattle.al_core.specs.Access.{AccessRecord, red_index}
use Rattle.al_core.specs.Iteration.{Execution, Finished}
use Rattle.al_core.specs.Chunk.{writes_of, chunk_runs, chunk_from, outcome_of, outcome}
use Rattle.al_laws.specs.Commits.{IsOther, IsUnwritten, IsOff, IsUntouched, UntouchedStays}
use Rattle.al_laws.proofs.Overlay.{get_written}
use Rattle.al_laws.proofs.Laid.{none_of}
use Rattle.al_laws.proofs.HeadsRead.{made_are_touched, freed_are_recorded}
use Rattle.al_laws.proofs.Applying.{applied_agrees}

unwritten_in : (r : Finished) (l : Option AccessRecord) (a : Addr) → set.contains (outcome_of r l).touched a ≡ false → map.get (outcome_of r l).writes a ≡ None
unwritten_in r (Some accesses) a f =
    map.get-entries (writes_of r.content.memory accesses.touched) a ∙ get_written r.content.memory accesses.touched a
    ∙ ap (λ b. if b then value_at r.content.memory a else None) f
unwritten_in r None a f = map.get-empty addr_cmp a

-- what is not touched is not written
pub untouched_unwritten : (x : Execution) (reds : List Red) (m : Memory) (c : ℕ) (a : Addr) → set.contains (outcome x reds m c).touched a ≡ false
    → map.get (outcome x reds m c).writes a ≡ None
unfolding outcome
untouched_unwritten x reds m c a f =
    let r = chunk_runs x c (chunk_from x reds m c) in
    unwritten_in r r.content.accesses a f

pub false_or : (b : Bool) → (b ≡ true → ⊥) → b ≡ false
false_or true n = absurd (n refl)
false_or false n = refl

module _ (x : Execution) (reds : List Red) (m : Memory) (c : ℕ) where
  -- where a head is not touched the object was neither made nor freed
  other : (o : Obj) → set.contains (outcome x reds m c).touched (Head o) ≡ false → IsOther (outcome x reds m c) o
  other o f = record {
    unmade = none_of (map.get (outcome x reds m c).made o) (false_or _ (λ t. true≢false (sym (made_are_touched x reds m c o t) ∙ f)));
    unfreed = λ t. true≢false (sym (freed_are_recorded x reds m c o t).touched ∙ f);
  }

  unwritten : (a : Addr) → set.contains (outcome x reds m c).touched a ≡ false → red_index reds a ≡ None → IsUnwritten reds (outcome x reds m c) a
  unwritten a f e = record { unwritten = untouched_unwritten x reds m c a f; unreduced = e }

  pub off_untouched : (a : Addr) → IsUntouched (outcome x reds m c).touched a → red_index reds a ≡ None → IsOff reds (outcome x reds m c) a
  off_untouched (Word o w) h e = (other o h.1, unwritten (Word o w) h.0 e)
  off_untouched (Head o) h e = other o h
  off_untouched (Local k) h e = unwritten (Local k) h e

pub untouched_stays : UntouchedStays
untouched_stays x reds m c a h e = applied_agrees reds m (outcome x reds m c) a (off_untouched x reds m c a h e)
