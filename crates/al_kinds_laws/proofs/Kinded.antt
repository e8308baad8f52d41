-- A third abstraction theorem, over kinds: what a relation between actions in two worlds has to keep, where it is known
-- which answers and which locals are numbers.
use Rattle.std.proofs.Common.{◌≡◌, ℕ, ◌<◌, List, [], ◌∷◌, Option, Result, ◌^◌, Bool, true}
use Rattle.std.specs.Prelude.{ℤ}
use Rattle.al_core.specs.declared.values.Obj.{Obj}
use Rattle.al_core.specs.declared.values.Obj.TheVariants.{Global}
use Rattle.al_core.specs.declared.values.Val.{Val}
use Rattle.al_core.specs.declared.values.Val.TheVariants.{Int, Ptr}
use Rattle.al_core.specs.declared.values.Kind.{Kind}
use Rattle.al_core.specs.declared.values.Kind.TheVariants as kind
use Rattle.al_core.specs.declared.values.Trap.{Trap}
use Rattle.al_core.specs.declared.typed_tree.TLocal.{TLocal}
use Rattle.al_core.specs.World.{Pointer, World}
use Rattle.al_core.specs.Action.{Act, pure, lift, asks, spend, get_budget, ◌>>=◌, get_local, set_local, load, store, make, print, visit}
use Rattle.al_core.specs.Meaning.{Flow, Returned}
use Rattle.al_rules.specs.WellFormed.{is_one, is_some_kind, is_int_local}
use Rattle.al_graded_laws.proofs.Graded.{Fineness, Fine, OkIs, Any}

abbrev pub IsNumber : Val → Type 0
IsNumber (Int n) = Unit {0}
IsNumber (Ptr o w) = ⊥

module _ (F : Fineness) where
  -- the value is fine, and a number if so is said
  pub record Says (b : Bool) (v : Val) : Type 0 where
    pub fine : Fine F v
    pub number : b ≡ true → IsNumber v

  -- a number
  pub says_number : (b : Bool) (n : ℤ) → F.num n → Says b (Int n)
  says_number b n f = record { fine = f; number = λ t. tt }

  pub says_weaker : (a b : Bool) (v : Val) → (b ≡ true → a ≡ true) → Says a v → Says b v
  says_weaker a b v h s = record { fine = s.fine; number = λ t. s.number (h t) }

  -- values of these kinds
  abbrev pub HaveKinds : List Kind → List Val → Type 0
  HaveKinds [] [] = Unit {0}
  HaveKinds (k ∷ ks) (v ∷ vs) = Says (is_one k kind.Int) v × HaveKinds ks vs
  HaveKinds _ _ = ⊥

  -- how a statement of a function that gives this kind, or none, ends
  abbrev pub Ends : Option Kind → Flow → Type 0
  Ends result (Returned v) = Says (is_some_kind result kind.Int) v
  Ends result _ = Unit {0}

-- What two worlds, and a function with these locals, in which these loops stand, have to meet.
pub record Kinded {S T : Type 0} (v : World S) (w : World T) (F : Fineness) (shut : ℕ → Bool) (locals : List TLocal) (Stands : ℕ → Type 0)
    (Rel : (A : Type 0) → (A → Type 0) → Act S A → Act T A → Type 0) : Type 1 where
  pub of_pure : {A : Type 0} {P : A → Type 0} (a : A) → P a → Rel A P (pure a) (pure a)
  pub of_lift : {A : Type 0} {P : A → Type 0} (line : ℕ) (e : Result A Trap) → OkIs P e → Rel A P (lift line e) (lift line e)
  pub of_bind : {A B : Type 0} {P : A → Type 0} {Q : B → Type 0} {p : Act S A} {q : Act T A} {f : A → Act S B} {g : A → Act T B} → Rel A P p q
      → ((a : A) → P a → Rel B Q (f a) (g a)) → Rel B Q (p >>= f) (q >>= g)
  pub of_weaker : {A : Type 0} {P Q : A → Type 0} {p : Act S A} {q : Act T A} → Rel A P p q → ((a : A) → P a → Q a) → Rel A Q p q
  pub of_spend : (line : ℕ) → Rel (Unit {0}) Any (spend line) (spend line)
  pub of_get_budget : Rel ℕ Any get_budget get_budget
  pub of_get_local : (k line : ℕ) → Rel Val (Says F (is_int_local locals k)) (get_local v k line) (get_local w k line)
  pub of_set_local : (k : ℕ) (x : Val) (line : ℕ) → Says F (is_int_local locals k) x → Rel (Unit {0}) Any (set_local v k x line) (set_local w k x line)
  pub of_load : (q : Pointer) (k : Kind) (line : ℕ) → q.1 < 2 ^ 32 → Rel Val (Says F (is_one k kind.Int)) (load v q k line) (load w q k line)
  pub of_store : (q : Pointer) (x : Val) (line : ℕ) → q.1 < 2 ^ 32 → Fine F x → ((k : ℕ) → q.0 ≡ Global k → shut k ≡ true → IsNumber x)
      → Rel (Unit {0}) Any (store v q x line) (store w q x line)
  pub of_make : (words line : ℕ) → Rel Val (Fine F) (make v words line) (make w words line)
  pub of_free : (o : Obj) (i line : ℕ) → F.obj o → i < 2 ^ 32 → Rel (Unit {0}) Any (asks line (v.free o i)) (asks line (w.free o i))
  pub of_print : (line : ℕ) (bytes : List ℕ) → Rel (Unit {0}) Any (print v bytes line) (print w bytes line)
  pub of_visit : (loop : ℕ) (lo hi : ℤ) → Stands loop → F.num lo → F.num hi → Rel (Unit {0}) Any (visit v loop lo hi) (visit w loop lo hi)
