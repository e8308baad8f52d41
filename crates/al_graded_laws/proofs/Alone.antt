-- One run alone: what is known of the values of a world, and what each operation keeps of it, holds throughout a program.
use Rattle.std.proofs.Common.{◌≡◌, ℕ, List, Result, Ok, Err, ap}
use Rattle.std.specs.Prelude.{ℤ, pos, true}
use Rattle.al_core.specs.declared.values.Obj.{Obj}
use Rattle.al_core.specs.declared.values.Obj.TheVariants.{Global}
use Rattle.al_core.specs.declared.values.Val.{Val}
use Rattle.al_core.specs.declared.values.Addr.{Addr}
use Rattle.al_core.specs.declared.values.Addr.TheVariants.{Word, Local}
use Rattle.al_core.specs.declared.values.Kind.{Kind}
use Rattle.al_core.specs.declared.values.Kind.TheVariants as kind
use Rattle.al_core.specs.declared.values.Trap.{Trap}
use Rattle.al_core.specs.World.{World}
use Rattle.al_core.specs.Action.{Private, State, Answer, Act, hands_on, visit, with_locals}
use Rattle.al_graded_laws.specs.Rules.{Rules}
use Rattle.al_graded_laws.proofs.Graded.{Fineness, Fine, FineAll, OkIs, Any}
use Rattle.al_graded_laws.proofs.Steady.{Before, Good, Steady, Works, Worlds, steady_bind, steady_get_frame, steady_set_frame}

-- the locals that a visit answers
abbrev pub Comes : Fineness → Answer (List Val) → Type 0
Comes F (Ok l) = FineAll F l
Comes F (Err e) = Unit {0}

module _ {S : Type 0} (F : Fineness) (zero_fine : F.num (pos 0)) (U : S → Type 0) where
  -- the second run is the first
  abbrev pub Both : S → S → Type 0
  Both s t = (s ≡ t) × U s

  abbrev pub Anything : S → S → Type 0
  Anything s t = Unit {0}

  abbrev pub Does : (own : Private) (A : Type 0) → (A → Type 0) → Act S A → Act S A → Type 0
  Does = Steady F zero_fine Both Anything (λ s. tt) (λ r s t e f. tt)

  abbrev pub DoesAtOnce : {A : Type 0} → (A → Type 0) → (S → Result A Trap × S) → Type 0
  DoesAtOnce P f = Works F zero_fine Both Anything (λ s. tt) (λ r s t e f. tt) P f f

  -- an operation that keeps what is known
  pub record Keeps {A : Type 0} (P : A → Type 0) (f : S → Result A Trap × S) : Type 0 where
    pub by : (s : S) → U s → OkIs P (f s).0 × U (f s).1

  works : {A : Type 0} (P : A → Type 0) (f : S → Result A Trap × S) → Keeps P f → DoesAtOnce P f
  works P f h = record { by = λ s t b. let r = h.by s b.1 in (ap (λ z. (f z).0) b.0, r.0, (ap (λ z. (f z).1) b.0, r.1), tt) }

  pub record KeepsVisit (f : S → Answer (List Val) × S) : Type 0 where
    pub by : (s : S) → U s → Comes F (f s).0 × U (f s).1

  pub record KeepsWorld (v : World S) (r : Rules) : Type 0 where
    pub global : (k : ℕ) → r.global k ≡ true → F.at (Global k)
    pub taken : (k : ℕ) → r.taken k ≡ true → F.obj (Global k)
    pub load : (a : Addr) (k : Kind) → Keeps (Fine F) (v.load a k)
    pub store : (a : Addr) (x : Val) → Fine F x → Keeps {A = Unit {0}} Any (v.store a x)
    pub make : (words : ℕ) → Keeps F.obj (v.make words)
    pub free : (o : Obj) (i : ℕ) → Keeps {A = Unit {0}} Any (v.free o i)
    pub print : (bytes : List ℕ) → Keeps {A = Unit {0}} Any (λ s. (Ok tt, v.print bytes s))
    pub visit : (loop : ℕ) (lo hi : ℤ) (locals : List Val) → F.num lo → F.num hi → FineAll F locals → KeepsVisit (v.visit loop lo hi locals)

  module _ (own : Private) where
    abbrev WasBefore : State S → State S → Type 0
    WasBefore = Before F zero_fine Both Anything (λ s. tt) (λ r s t e f. tt) own

    comes_to : (a : Answer (List Val)) (u v : S) (s t : State S) → Comes F a → Both u v → WasBefore s t
        → Good F zero_fine Both Anything (λ s. tt) (λ r s t e f. tt) own (FineAll F) a (record s { world = u }) (record t { world = v })
    comes_to (Ok l) u v s t h w b = (h, record { frame = b.frame; own_is = b.own_is; locals = b.locals; budget = b.budget; world = w })
    comes_to (Err e) u v s t h w b = tt

    comes : (f : S → Answer (List Val) × S) → KeepsVisit f → Does own (List Val) (FineAll F) (hands_on f) (hands_on f)
    unfolding hands_on
    comes f h = record {
      by = λ s t b.
          let r = h.by s.world b.world.1 in
          let w : Both (f s.world).1 (f t.world).1 = (ap (λ z. (f z).1) b.world.0, r.1) in
          record {
            answer = ap (λ z. (f z).0) b.world.0;
            good = comes_to (f s.world).0 (f s.world).1 (f t.world).1 s t r.0 w b;
            budget = b.budget;
            world = w;
            keeps = tt;
          };
    }

    module _ (v : World S) (r : Rules) (h : KeepsWorld v r) where
      visits : (loop : ℕ) (lo hi : ℤ) → F.num lo → F.num hi → Does own (Unit {0}) Any (visit v loop lo hi) (visit v loop lo hi)
      visits loop lo hi f g =
          steady_bind F zero_fine Both Anything (λ s. tt) (λ r s t e f. tt) own (steady_get_frame F zero_fine Both Anything (λ s. tt) (λ r s t e f. tt) own)
          (λ fr is.
          steady_bind F zero_fine Both Anything (λ s. tt) (λ r s t e f. tt) own {P = FineAll F}
          (comes (v.visit loop lo hi fr.locals) (h.visit loop lo hi fr.locals f g is.locals)) (λ l fine.
          steady_set_frame F zero_fine Both Anything (λ s. tt) (λ r s t e f. tt) own (with_locals fr l) (record { own_is = is.own_is; locals = fine })))

      pub alone_worlds : Worlds F zero_fine Both Anything (λ s. tt) (λ r s t e f. tt) v v own r
      alone_worlds = record {
        load_local = λ k o p. works (Fine F) (v.load (Local k) kind.Int) (h.load (Local k) kind.Int);
        store_local = λ k y o p f. works {A = Unit {0}} Any (v.store (Local k) y) (h.store (Local k) y f);
        global = h.global;
        taken = h.taken;
        load = λ o i k f. works (Fine F) (v.load (Word o i) k) (h.load (Word o i) k);
        store = λ o i y f g. works {A = Unit {0}} Any (v.store (Word o i) y) (h.store (Word o i) y g);
        make = λ words. works F.obj (v.make words) (h.make words);
        free = λ o i f. works {A = Unit {0}} Any (v.free o i) (h.free o i);
        print = λ bytes. works {A = Unit {0}} Any (λ s. (Ok tt, v.print bytes s)) (h.print bytes);
        visit = visits;
      }
