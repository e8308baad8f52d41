-- Each word that is taken leaves the walk where it can stand.
use Rattle.std.proofs.Common.{◌≡◌, ◌≤◌, ◌<◌, ℕ, ◌+◌, Option, None, Some, Result, Ok, Err, IfOk, IfSome, is_some, Bool, true, false, if◌then◌else◌, refl, sym, ap, subst, arith}
use Rattle.al_words.specs.declared.command.WordFault.{WordFault}
use Rattle.al_words.specs.declared.command.WordFault.TheVariants.{Repeated}
use Rattle.al_words.specs.declared.option.Given.{Given}
use Rattle.al_words.specs.declared.option.Knob.{Knob}
use Rattle.al_words.specs.declared.option.Knob.TheVariants.{Lanes, Chunk, Threads, Line, IterSteps, Steps, LoopNumber}
use Rattle.al_words.specs.declared.walk.Waiting.{Waiting}
use Rattle.al_words.specs.declared.walk.Walk.{Walk}
use Rattle.al_words.specs.Words.{given_to, give, valued, optioned, named, Takes}
use Rattle.al_words.specs.Places.{one_if, how_many, Fits}

give_more : (g : Given) (k : Knob) (n : ℕ) → given_to g k ≡ None → how_many (give g k n) ≡ how_many g + 1
give_more g Lanes n h = rw h (omega arith)
give_more g Chunk n h = rw h (omega arith)
give_more g Threads n h = rw h (omega arith)
give_more g Line n h = rw h (omega arith)
give_more g IterSteps n h = rw h (omega arith)
give_more g Steps n h = rw h (omega arith)
give_more g LoopNumber n h = rw h (omega arith)

one_at_most : {A : Type 0} (r : Option A) → one_if r ≤ 1
one_at_most (Some a) = omega arith
one_at_most None = omega arith

-- the place of a name is small: the words before it are names and options, of which there are few
pub few_words : (at : ℕ) (w : Walk) → Fits at w → w.count < 17 → at < 4294967296
few_words at w f few =
    let lanes = one_at_most w.given.lanes in
    let chunk = one_at_most w.given.chunk in
    let threads = one_at_most w.given.threads in
    let line = one_at_most w.given.line in
    let iter_steps = one_at_most w.given.iter_steps in
    let steps = one_at_most w.given.steps in
    let loop_number = one_at_most w.given.loop_number in
    let waiting = one_at_most w.waiting in
    let places = f.places in
    omega arith

none_of : {A : Type 0} (r : Option A) → is_some r ≡ false → r ≡ None
none_of None h = refl
none_of (Some a) h = absurd cc

module _ (at : ℕ) (w v : Walk) (f : Fits at w) where
  pub value_fits : (o : Waiting) (n : Option ℕ) (r : Result (Unit {0}) WordFault) → w.waiting ≡ Some o → Takes (valued w o n) r v
      → IfOk r (λ _. Fits (at + 1) v)
  value_fits o (Some n) (Ok a) is h =
      let free : given_to w.given o.knob ≡ None = subst (λ r. IfSome r (λ o. given_to w.given o.knob ≡ None)) is f.waits in
      let more = give_more w.given o.knob n free in
      let one : one_if w.waiting ≡ 1 = ap one_if is in
      let same : record w { given = give w.given o.knob n; waiting = None } ≡ v = cc in
      let places = f.places in
      let names = f.names in
      subst (Fits (at + 1)) same (record { places = omega arith; names = omega arith; waits = tt })
  value_fits o None (Ok a) is h = absurd cc
  value_fits o n (Err e) is h = tt

  option_fits : (k : Knob) (some : Bool) → is_some (given_to w.given k) ≡ some → w.waiting ≡ None
      → (if some then Err (Repeated at) else Ok (record w { waiting = Some (record { knob = k; at = at }) })) ≡ Ok v → Fits (at + 1) v
  option_fits k true s is h = absurd cc
  option_fits k false s is h =
      let free = none_of (given_to w.given k) s in
      let none : one_if w.waiting ≡ 0 = ap one_if is in
      let same : record w { waiting = Some (record { knob = k; at = at }) } ≡ v = cc in
      let places = f.places in
      let names = f.names in
      subst (Fits (at + 1)) same (record { places = omega arith; names = omega arith; waits = free })

  pub optioned_fits : (k : Option Knob) (r : Result (Unit {0}) WordFault) → w.waiting ≡ None → Takes (optioned w at k) r v → IfOk r (λ _. Fits (at + 1) v)
  optioned_fits (Some k) (Ok a) is h = option_fits k (is_some (given_to w.given k)) refl is h
  optioned_fits None (Ok a) is h = absurd cc
  optioned_fits k (Err e) is h = tt

  pub named_fits : w.waiting ≡ None → v ≡ named w at → Fits (at + 1) v
  named_fits is h =
      let none : one_if w.waiting ≡ 0 = ap one_if is in
      let places = f.places in
      let names = f.names in
      subst (Fits (at + 1)) (sym h) (record { places = omega arith; names = omega arith; waits = rw is tt })
