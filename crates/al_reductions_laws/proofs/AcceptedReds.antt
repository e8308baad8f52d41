-- Chunks of a loop whose reductions are accepted have in common what makes rounds of them serial.
use Rattle.std.proofs.Common.{◌≡◌, ◌≢◌, ℕ, zero, suc, ◌<◌, List, [], ◌∷◌, Option, Some, None, Bool, true, false, ◌||◌, refl, sym, ap, subst, ◌∙◌, arith, All, get_or, w64, FitsSigned}
use Rattle.std.specs.Prelude.{ℤ, pos, ◌+ℤ◌, ◌==◌, ◌&&◌, nat_le, nat_lt, not, is_some, slice_get, AllPairs}
use Rattle.std.specs.List.{list_any}
use Rattle.std.proofs.Math.Bool.{true≢false}
use Rattle.std.proofs.lemmas.Bool.{ne_eqb, eqb-false}
use Rattle.std.proofs.lemmas.Option.{slice_get_within, get_or_from_slice_get, slice_get-get_or}
use Rattle.al_core.specs.declared.choices.Red.{Red}
use Rattle.al_core.specs.declared.values.Val.{Val}
use Rattle.al_core.specs.declared.values.Val.TheVariants.{Int, Ptr}
use Rattle.al_core.specs.declared.values.Addr.{Addr}
use Rattle.al_core.specs.declared.values.Addr.TheVariants.{Word, Head, Local}
use Rattle.al_core.specs.declared.values.Obj.TheVariants.{Global, Serial, Iter}
use Rattle.al_core.specs.declared.typed_tree.TFunc.{TFunc}
use Rattle.al_core.specs.Memory.{Memory, value_at}
use Rattle.al_core.specs.Access.{red_index}
use Rattle.al_core.specs.Action.{is_private}
use Rattle.al_core.specs.Accepted.{IsAccepted, IsRedVariable, Reached, directly, further, is_global, terms, terms_of, mentions_in, only_updates}
use Rattle.al_core.specs.Meaning.{body_of}
use Rattle.al_core.specs.Iteration.{Execution}
use Rattle.al_core.specs.Chunk.{outcome}
use Rattle.al_core.specs.Applied.{applied}
use Rattle.al_core.specs.Readiness.{LeadsTo}
use Rattle.al_laws.specs.Commits.{IsVariable}
use Rattle.al_laws.proofs.Words.{same_some, some_none}
use Rattle.al_laws.proofs.Stays.{or_left, or_right}
use Rattle.al_graded_laws.specs.Rules.{Rules, stmt_obeys, stmts_obey, MayCallIn}
use Rattle.al_graded_laws.specs.InRange.{in_range, IsInRange}
use Rattle.al_graded_laws.proofs.Graded.{Fine, FineNumbers}
use Rattle.al_graded_laws.proofs.Numbers.{fine_numbers}
use Rattle.al_graded_laws.proofs.Values.{zero_fits, fits_64, fine_input_at}
use Rattle.al_graded_laws.proofs.Called.{may_call_in}
use Rattle.al_graded_laws.proofs.Committed.{applied_values, outcomes_give_values}
use Rattle.al_rounds_laws.specs.Serially.{Serially}
use Rattle.al_rounds_laws.proofs.Unread.{AreVariables}
use Rattle.al_reductions_laws.specs.Reducible.{IsReducible}
use Rattle.al_reductions_laws.specs.Serial.{RunsReducing}
use Rattle.al_reductions_laws.proofs.Variables.{is_red}
use Rattle.al_reductions_laws.proofs.Sums.{apart}
use Rattle.al_reductions_laws.proofs.Joined.{AreApart, found_at, index_of}
use Rattle.al_reductions_laws.proofs.ChunkSums.{own_of, functions, Obeyed}
use Rattle.al_reductions_laws.proofs.SumsSerially.{Ready, reds_serially}
use Rattle.al_reductions_laws.proofs.BodyRules.{is_red_global, body_rules}
use Rattle.al_reductions_laws.proofs.Exempting.{exempt_here}
use Rattle.al_reductions_laws.proofs.Mentions.{Permits}
use Rattle.al_reductions_laws.proofs.Updating.{EachRed, IsAt, not_true, no_global}
use Rattle.al_reductions_laws.proofs.Bodies.{updating_body_obeys}
use Rattle.al_reductions_laws.proofs.Reaching.{unwatched_obey}

-- ---- lists

-- what all elements have, the one at a place has
pub all_at : {X : Type 0} (P : X → Type 0) (xs : List X) (i : ℕ) (r : X) → All P xs → slice_get xs i ≡ Some r → P r
all_at P xs i r h e = subst P (get_or_from_slice_get xs i r r e) (h i r (slice_get_within xs i r e))

-- what the element at each place has, all have
pub all_of : {X : Type 0} (P : X → Type 0) (xs : List X) → ((i : ℕ) (r : X) → slice_get xs i ≡ Some r → P r) → All P xs
all_of P xs h k d l = h k _ (slice_get-get_or xs k d l)

pairs_at : (R : Red → Red → Type 0) (xs : List Red) (i j : ℕ) (r q : Red) → AllPairs R xs → i < j → slice_get xs i ≡ Some r → slice_get xs j ≡ Some q
    → R r q
pairs_at R xs i j r q h l e f =
    let second = subst (R (get_or xs i r)) (get_or_from_slice_get xs j q r f) (h i j r l (slice_get_within xs j q f)) in
    subst (λ z. R z q) (get_or_from_slice_get xs i r r e) second

any_at : (f : Red → Bool) (reds : List Red) (i : ℕ) (r : Red) → list_any f reds ≡ false → slice_get reds i ≡ Some r → f r ≡ false
any_at f [] i r h e = absurd (some_none r (sym e))
any_at f (q ∷ reds) zero r h e = ap f (sym (same_some q r e)) ∙ or_left (f q) (list_any f reds) h
any_at f (q ∷ reds) (suc i) r h e = any_at f reds i r (or_right (f q) (list_any f reds) h) e

-- the variables of a list differ
apart_from : (reds : List Red) → ((i j : ℕ) (r q : Red) → i < j → slice_get reds i ≡ Some r → slice_get reds j ≡ Some q → r.at ≢ q.at) → AreApart reds
apart_from [] h = tt
apart_from (r ∷ reds) h = (
  by_index (red_index reds r.at) refl,
  apart_from reds (λ i j p q l e f. h (suc i) (suc j) p q (omega arith) e f),
)
  where
    by_index : (x : Option ℕ) → red_index reds r.at ≡ x → x ≡ None
    by_index None e = refl
    by_index (Some i) e = let q = found_at reds r.at i e in absurd (h 0 (suc i) r q.0 (omega arith) refl q.1 (sym q.2))

-- ---- the variables

eq_itself : (k : ℕ) → (k == k) ≡ true
eq_itself k = elim (k == k) as (λ b. (k == k) ≡ b → b ≡ true) [ true ↦ λ t. refl | false ↦ λ t. absurd (eqb-false k k t refl) ] refl

neither : (a b : Bool) → a ≡ false → b ≡ false → (a || b) ≡ false
neither a b e f = ap (λ z. z || b) e ∙ f

-- what chunks with reductions use of a program and its loop
pub record Reducing (x : Execution) (reds : List Red) : Type 0 where
  pub program : IsInRange x.typed x.input
  pub body : stmt_obeys in_range x.loop.body ≡ true
  pub counters : (j : ℕ) → j < x.trips → FitsSigned w64 (x.lo +ℤ pos j)
  pub accepted : IsAccepted x.typed x.loop reds

module _ (x : Execution) (reds : List Red) (h : Reducing x reds) where
  abbrev pub Var : Addr → Type 0
  Var = IsRedVariable x.typed x.loop

  pub variable_at : (i : ℕ) (r : Red) → slice_get reds i ≡ Some r → Var r.at
  variable_at i r e = all_at (λ r. Var r.at) reds i r h.accepted.variables e

  pub found_variable : (a : Addr) (i : ℕ) → red_index reds a ≡ Some i → Var a
  found_variable a i e = let q = found_at reds a i e in subst Var q.2 (variable_at i q.0 q.1)

  -- what may be no reduction variable is none
  no_variable : (a : Addr) → ¬ (Var a) → is_red reds a ≡ false
  no_variable a n = by_index (red_index reds a) refl
    where
      by_index : (y : Option ℕ) → red_index reds a ≡ y → is_some y ≡ false
      by_index None e = refl
      by_index (Some i) e = absurd (n (found_variable a i e))

  is_kind : (a : Addr) → Var a → IsVariable a
  is_kind (Word o w) v = tt
  is_kind (Head o) v = v
  is_kind (Local k) v = tt

  all_kinds : (rs : List Red) → ((i : ℕ) (r : Red) → slice_get rs i ≡ Some r → Var r.at) → AreVariables rs
  all_kinds [] k = tt
  all_kinds (r ∷ rs) k = (is_kind r.at (k 0 r refl), all_kinds rs (λ i q e. k (suc i) q e))

  are_variables : AreVariables reds
  are_variables = all_kinds reds variable_at

  pub differ : AreApart reds
  differ = apart_from reds (λ i j r q l e f. pairs_at (λ r q. r.at ≢ q.at) reds i j r q h.accepted.distinct l e f)

  of_first_word : (a : Addr) (k w : ℕ) → a ≡ Word (Global k) w → Var a → w ≡ 0
  of_first_word a k w e v = (subst Var e v).1

  firsts : EachRed reds (λ r. (k w : ℕ) → r.at ≡ Word (Global k) w → w ≡ 0)
  firsts i r e k w f = of_first_word r.at k w f (variable_at i r e)

  -- ---- the rules

  abbrev Called : ℕ → Type 0
  Called = Reached x.typed x.loop.body

  abbrev r : Rules
  r = body_rules reds Called

  not_global : (k w : ℕ) → is_red_global reds k ≡ false → is_red reds (Word (Global k) w) ≡ false
  not_global k w f = by_index (red_index reds (Word (Global k) w)) refl
    where
      by_index : (y : Option ℕ) → red_index reds (Word (Global k) w) ≡ y → is_some y ≡ false
      by_index None e = refl
      by_index (Some i) e =
          let q = found_at reds (Word (Global k) w) i e in
          absurd (true≢false (sym (ap (λ a. is_global a k) q.2 ∙ eq_itself k) ∙ any_at (λ r. is_global r.at k) reds i q.0 f q.1))

  -- the variables that are globals
  abbrev IsRedWord : Addr → Type 0
  IsRedWord a = IsAt reds a × ((k : ℕ) × (a ≡ Word (Global k) 0))

  module _ (olds : ℕ → ℤ) where
    abbrev in_function : Rules
    in_function = functions zero_fits x reds olds r

    global_case : (a : Addr) (k : ℕ) → Var a → IsAt reds a → ((q : Addr) → IsRedWord q → is_global q k ≡ false) → is_global a k ≡ false
    global_case (Word (Global j) w) k v m p =
        p (Word (Global j) w) (m, (j, ap (λ w. Word (Global j) w) v.1))
    global_case (Word (Serial j) w) k v m p = refl
    global_case (Word (Iter e i j) w) k v m p = refl
    global_case (Head o) k v m p = refl
    global_case (Local j) k v m p = refl

    function_global : (k : ℕ) → ((a : Addr) → IsRedWord a → is_global a k ≡ false) → not (is_red_global reds k) ≡ true
    function_global k p =
        ap not (no_global reds k
        (λ i q e. global_case q.at k (variable_at i q e) (record { place = i; red = q; stands = e; at = refl }) p))

    function_permits : Permits IsRedWord in_function
    function_permits = record { local = λ k p. refl; global = function_global; taken = function_global; literal = λ n e. e }

    -- a function that the body reaches mentions none of the globals
    unreached : (f : ℕ) (func : TFunc) → Called f → slice_get x.typed.funcs f ≡ Some func → (a : Addr) → Var a → (k : ℕ) → a ≡ Word (Global k) 0
        → mentions_in a (terms_of func.body) ≡ false
    unreached f func o e a v k is =
        ap (λ z. mentions_in z (terms_of func.body)) is ∙ (subst Var is v).0.unreached f func o e

    function_obeys : (f : ℕ) (g : Option TFunc) → slice_get x.typed.funcs f ≡ g → Called f → stmts_obey in_range (body_of g) ≡ true
        → stmts_obey in_function (body_of g) ≡ true
    function_obeys f None e o n = refl
    function_obeys f (Some func) e o n =
        unwatched_obey IsRedWord in_function function_permits (λ k. refl) func.body n
        (λ a w. unreached f func o e a (subst Var w.0.at (variable_at w.0.place w.0.red w.0.stands)) w.1.0 w.1.1)

    function_calls : (f : ℕ) (g : Option TFunc) → slice_get x.typed.funcs f ≡ g → Called f → MayCallIn Called (terms_of (body_of g))
    function_calls f None e o = record { exprs = tt; places = tt }
    function_calls f (Some func) e o = may_call_in Called (terms_of func.body) (λ g c. further f func g o e c)

    avoids_global : (k : ℕ) → not (is_red_global reds k) ≡ true → (apart reds).obj (Global k)
    avoids_global k e w = not_global k w (not_true (is_red_global reds k) e)

    counter_is_free : is_red reds (Local x.loop.info.counter) ≡ false
    counter_is_free = no_variable (Local x.loop.info.counter) (λ v. v.no_counter refl)

    obeyed : Obeyed zero_fits x reds olds r
    obeyed = record {
      avoids = record { local = λ k o p. not_true (is_red reds (Local k)) o; global = avoids_global; taken = avoids_global };
      avoids_in_functions = record { local = λ k o p. absurd (true≢false p); global = avoids_global; taken = avoids_global };
      numbers = numbers_of r fits_64;
      numbers_in_functions = numbers_of in_function fits_64;
      bodies = λ f o. function_obeys f (slice_get x.typed.funcs f) refl o (h.program.code f);
      inside = λ f o. function_calls f (slice_get x.typed.funcs f) refl o;
      body = updating_body_obeys reds Called firsts x.loop.body h.body
          (λ i q e. all_at (λ r. only_updates r.op r.at x.loop.body ≡ true) reds i q h.accepted.updated e);
      calls = may_call_in Called (terms x.loop.body) (λ f c. directly f c);
      counter = ap not counter_is_free;
      counters = h.counters;
      no_iter = λ e j k w. no_variable (Word (Iter e j k) w) (λ v. v);
    }
      where
        numbers_of : (s : Rules) → ((n : ℤ) → s.literal n ≡ true → FitsSigned w64 n) → FineNumbers (apart reds) s x.input
        numbers_of s l =
            fine_numbers (apart reds) (λ n f. f) (λ n f. f) s x.input l (fine_input_at (apart reds) (λ n f. f) x.input h.program.input_numbers)
            h.program.input_length

  -- no private local is a reduction variable
  shared : (k i : ℕ) → red_index reds (Local k) ≡ Some i → is_private (own_of x) k ≡ false
  shared k i e =
      let v = found_variable (Local k) i e in
      neither (k == x.loop.info.counter) (nat_le x.loop.info.first k && nat_lt k x.loop.info.last) (ne_eqb k x.loop.info.counter v.no_counter) v.outside

  pub ready_serially : Serially x reds (Ready x reds)
  ready_serially =
      reds_serially zero_fits x reds r are_variables differ obeyed (λ olds. exempt_here zero_fits x reds olds Called (obeyed olds) shared)

  -- ---- readiness, both ways

  fine_value : (m : Memory) (c : ℕ) → IsReducible x reds m c → (a : Addr) (v : Val) → value_at m a ≡ Some v → Fine (apart reds) v
  fine_value m c k a (Int n) e = k.values a (Int n) e
  fine_value m c k a (Ptr o w) e = (no_leader (k.unaliased a (Ptr o w) e), (k.values a (Ptr o w) e).1)
    where
      no_leader : All (λ r. ¬ (LeadsTo (Ptr o w) r)) reds → (v : ℕ) → is_red reds (Word o v) ≡ false
      no_leader l v = by_index (red_index reds (Word o v)) refl
        where
          by_index : (y : Option ℕ) → red_index reds (Word o v) ≡ y → is_some y ≡ false
          by_index None f = refl
          by_index (Some i) f = let q = found_at reds (Word o v) i f in absurd (all_at (λ r. ¬ (LeadsTo (Ptr o w) r)) reds i q.0 l q.1 (v, q.2))

  ready_from : (c : ℕ) (m : Memory) → IsReducible x reds m c → Ready x reds c m
  ready_from c m k = record {
    fresh = k.fresh;
    values = fine_value m c k;
    numbers = λ a i e.
        let q = found_at reds a i e in
        let n = all_at (λ r. (n : _) × (value_at m r.at ≡ Some (Int n))) reds i q.0 k.reductions q.1 in
        (n.0, ap (value_at m) (sym q.2) ∙ n.1);
  }

  unaliased_by : (v : Val) → Fine (apart reds) v → All (λ r. ¬ (LeadsTo v r)) reds
  unaliased_by (Int n) f = all_of (λ r. ¬ (LeadsTo (Int n) r)) reds (λ i r e l. l)
  unaliased_by (Ptr o w) f =
      all_of (λ r. ¬ (LeadsTo (Ptr o w) r)) reds
      (λ i r e l. true≢false (sym (ap is_some (ap (red_index reds) (sym l.1) ∙ index_of reds i r differ e)) ∙ f.0 l.0))

-- ---- commits

pub reducing : (x : Execution) (reds : List Red) → RunsReducing x reds → Reducing x reds
reducing x reds h =
    record { program = h.numbers.program; body = h.numbers.body; counters = h.numbers.counters; accepted = h.accepted }

module _ (x : Execution) (reds : List Red) (r : RunsReducing x reds) where
  abbrev h : Reducing x reds
  h = reducing x reds r

  -- what a commit leaves
  stays_reducible : (c d : ℕ) (m : Memory) → c ≢ d → IsReducible x reds m c → IsReducible x reds m d
      → IsReducible x reds (applied reds m (outcome x reds m c)) d
  stays_reducible c d m n k l =
      let s = (ready_serially x reds h).ready c d m n (ready_from x reds h c m k) (ready_from x reds h d m l) in
      record {
        fresh = s.fresh;
        values = applied_values reds m (outcome x reds m c) k.values (outcomes_give_values x r.numbers reds m c k.values);
        reductions = all_of (λ r. (n : _) × (value_at (applied reds m (outcome x reds m c)) r.at ≡ Some (Int n))) reds
            (λ i q e. s.numbers q.at i (index_of reds i q (differ x reds h) e));
        unaliased = λ a v e. unaliased_by x reds h v (s.values a v e);
      }

  pub reducible_serially : Serially x reds (λ c m. IsReducible x reds m c)
  reducible_serially = record {
    direct_run = λ c m k. (ready_serially x reds h).direct_run c m (ready_from x reds h c m k);
    unread = (ready_serially x reds h).unread;
    ready = λ c d m n k l. stays_reducible c d m n k l;
  }
