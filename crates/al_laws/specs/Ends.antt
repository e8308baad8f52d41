-- How far the ends of two runs are compared.
use Rattle.std.specs.Prelude.{◌≡◌, Ok, Err}
use Rattle.al_core.specs.Action.{State, Answer, Act, ◌>>=◌}
use Rattle.al_core.specs.Meaning.{Flow}

abbrev pub WhereOk : {A : Type 0} → Answer A → Type 0 → Type 0
WhereOk (Ok a) P = P
WhereOk (Err e) P = Unit {0}

-- The answers are the same, and the steps that are left, and the worlds. After a trap the frames are not looked at.
pub record EndsAlike {S A : Type 0} (r q : Answer A × State S) : Type 0 where
  pub answer : r.0 ≡ q.0
  pub budget : r.1.budget ≡ q.1.budget
  pub world : r.1.world ≡ q.1.world
  pub frame : WhereOk r.0 (r.1.frame ≡ q.1.frame)

-- What comes after two runs that end alike, and itself does so, ends alike.
abbrev pub AlikeEndsGoOn : Type 0 → Type 0
AlikeEndsGoOn S =
    (p q : Act S Flow) (f g : Flow → Act S Flow) (s t : State S) → EndsAlike (p s) (q t)
    → ((flow : Flow) (u : State S) → EndsAlike (f flow u) (g flow u))
    → EndsAlike ((p >>= f) s) ((q >>= g) t)
