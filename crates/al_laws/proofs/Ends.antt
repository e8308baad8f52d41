-- Ends that are compared: what is the same before is the same after what comes next.
use Rattle.std.proofs.Common.{◌≡◌, Ok, Err, refl, subst}
use Rattle.al_core.specs.Action.{State, Answer, Act, after, bind, ◌>>=◌}
use Rattle.al_laws.specs.Ends.{WhereOk, EndsAlike, AlikeEndsGoOn}

module _ {S : Type 0} where
  frame_itself : {A : Type 0} (a : Answer A) (s : State S) → WhereOk a (s.frame ≡ s.frame)
  frame_itself (Ok a) s = refl
  frame_itself (Err e) s = tt

  pub ends_itself : {A : Type 0} (r : Answer A × State S) → EndsAlike r r
  ends_itself r = record { answer = refl; budget = refl; world = refl; frame = frame_itself r.0 r.1 }

  -- runs that are the same, and then others that end alike
  pub ends_then : {A B : Type 0} (a : Answer A) (s t : State S) (f g : A → Act S B) → s.budget ≡ t.budget → s.world ≡ t.world
      → WhereOk a (s.frame ≡ t.frame) → ((a : A) (s : State S) → EndsAlike (f a s) (g a s)) → EndsAlike (after a s f) (after a t g)
  ends_then (Ok a) s t f g budget world frame h =
      let same : s ≡ t = λ i. record { frame = frame i; budget = budget i; world = world i } in
      subst (λ z. EndsAlike (f a s) (g a z)) same (h a s)
  ends_then (Err e) s t f g budget world frame h = record { answer = refl; budget = budget; world = world; frame = tt }

  pub ends_bind : {A B : Type 0} (p q : Act S A) (f g : A → Act S B) (s t : State S) → EndsAlike (p s) (q t)
      → ((a : A) (s : State S) → EndsAlike (f a s) (g a s)) → EndsAlike ((p >>= f) s) ((q >>= g) t)
  unfolding bind
  ends_bind p q f g s t e h =
      subst (λ a. EndsAlike (after (p s).0 (p s).1 f) (after a (q t).1 g)) e.answer (ends_then (p s).0 (p s).1 (q t).1 f g e.budget e.world e.frame h)

pub alike_ends_go_on : {S : Type 0} → AlikeEndsGoOn S
alike_ends_go_on p q f g s t e h = ends_bind p q f g s t e h
