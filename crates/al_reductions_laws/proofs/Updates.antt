-- An update of a reduction variable, as one word: in one run it works on the accumulator, in the other on the memory.
use Rattle.std.proofs.Common.{◌≡◌, ℕ, List, Some, Result, Ok, Err, Bool, true, false, refl, sym, ap, subst, ◌∙◌, w64, FitsSigned}
use Rattle.std.specs.Prelude.{ℤ, pos, is_some, slice_get, slice_set, ◌==◌}
use Rattle.std.proofs.Math.Bool.{true≢false}
use Rattle.std.proofs.lemmas.Bool.{eqb-true, eqb-false}
use Rattle.al_source.specs.declared.operators.RedOp.{RedOp}
use Rattle.al_core.specs.declared.choices.Red.{Red}
use Rattle.al_core.specs.declared.values.Val.{Val}
use Rattle.al_core.specs.declared.values.Val.TheVariants.{Int, Ptr}
use Rattle.al_core.specs.declared.values.Addr.{Addr}
use Rattle.al_core.specs.declared.values.Addr.TheVariants.{Word, Head, Local}
use Rattle.al_core.specs.declared.values.Kind.TheVariants as kind
use Rattle.al_core.specs.declared.values.Trap.{Trap}
use Rattle.al_core.specs.declared.values.Trap.TheVariants as trap
use Rattle.al_core.specs.Orders.{addr_eq}
use Rattle.al_core.specs.Reductions.{red_apply}
use Rattle.al_core.specs.Memory.{value_at, put}
use Rattle.al_core.specs.Access.{AccessRecord, Content, with_memory, with_accesses, red_index, loaded, read_as, load_recorded, store_recorded, load_by, store_by, store_in, load, store}
use Rattle.al_core.specs.Action.{or_zero, Private, State, Answer, Act, after, bind, ◌>>=◌, ◌>>◌, pure, lift, at_line}
use Rattle.al_core.specs.Meaning.{Flow, Next}
use Rattle.al_laws.proofs.Joining.{is_associative, stays_in_range}
use Rattle.al_laws.proofs.Orders.{addr_equal}
use Rattle.al_laws.proofs.Words.{same_some, get_set_other}
use Rattle.al_laws.proofs.Overlay.{over, set_over}
use Rattle.al_graded_laws.proofs.Memories.{put_itself}
use Rattle.al_reductions_laws.proofs.Variables.{is_red}
use Rattle.al_laws.proofs.Applying.{put_value, put_length, put_locals}
use Rattle.al_graded_laws.proofs.Graded.{Fine, FineFlow}
use Rattle.al_graded_laws.proofs.Operators.{Joins}
use Rattle.al_graded_laws.proofs.Steady.{Before, Good, Came, Steady}
use Rattle.al_reductions_laws.proofs.Sums.{apart, Sum, Sums, SameSums, sums_in}

abbrev int_of : Val → ℤ
int_of (Int n) = n
int_of (Ptr o w) = pos 0

some_same_num : (a b : ℤ) → Some (Int a) ≡ Some (Int b) → a ≡ b
some_same_num a b e = ap int_of (same_some (Int a) (Int b) e)

index_same : (i j : ℕ) → Some i ≡ Some j → i ≡ j
index_same i j e = same_some i j e

set_there : (l : List Val) (i : ℕ) (v u : Val) → slice_get l i ≡ Some u → slice_get (slice_set l i v) i ≡ Some v
set_there l i v u e = set_over l i v ∙ ap (over (Some v)) e

module _ (reds : List Red) (olds : ℕ → ℤ) where
  -- ---- loads and stores of a reduction variable

  -- what is read of it as a number
  record Reads (c d : Content) (a : Addr) (sum joined : ℤ) : Type 0 where
    pub gathered : load a kind.Int c ≡ (Ok (Int sum), c)
    pub direct : load a kind.Int d ≡ (Ok (Int joined), d)

  read_int : (a : Addr) (n : ℤ) → read_as a kind.Int (Int n) ≡ Ok (Int n)
  read_int (Word o w) n = refl
  read_int (Head o) n = refl
  read_int (Local k) n = refl

  loads : (c d : Content) (h : Sums reds olds c d) (a : Addr) (i : ℕ) (e : red_index reds a ≡ Some i)
      → Reads c d a (h.sums a i e).sum (red_apply (h.sums a i e).red.op (olds i) (h.sums a i e).sum)
  unfolding load
  loads c d h a i e =
      let s = h.sums a i e in
      record {
        gathered =
            ap (λ l. load_by l c a kind.Int) h.is ∙ ap (λ z. load_recorded c h.accesses a kind.Int (red_index z a)) h.reds_are ∙ ap
            (load_recorded c h.accesses a kind.Int) e
            ∙ ap (λ z. (read_as a kind.Int (or_zero z), c)) s.gathered ∙ ap (λ z. (z, c)) (read_int a s.sum);
        direct =
            ap (λ l. load_by l d a kind.Int) h.none ∙ ap (λ z. (loaded d.memory a kind.Int z, d)) s.now ∙ ap (λ z. (z, d))
            (read_int a (red_apply s.red.op (olds i) s.sum));
      }

  abbrev gathers : Content → AccessRecord → ℕ → ℤ → Content
  gathers c l i z = with_accesses c (record l { accumulators = slice_set l.accumulators i (Int z) })

  record Writes (c d : Content) (l : AccessRecord) (a : Addr) (i : ℕ) (sum joined : ℤ) : Type 0 where
    pub gathered : store a (Int sum) c ≡ (Ok tt, gathers c l i sum)
    pub direct : store a (Int joined) d ≡ (Ok tt, with_memory d (put d.memory a (Int joined)))

  stores : (c d : Content) (h : Sums reds olds c d) (a : Addr) (i : ℕ) (e : red_index reds a ≡ Some i) (sum joined : ℤ) → Writes c d h.accesses a i sum joined
  unfolding store
  stores c d h a i e sum joined =
      let s = h.sums a i e in
      record {
        gathered = ap (λ l. store_by l c a (Int sum)) h.is ∙ ap (λ z. store_recorded c h.accesses a (Int sum) (red_index z a)) h.reds_are ∙ ap
            (store_recorded c h.accesses a (Int sum)) e;
        direct = ap (λ l. store_by l d a (Int joined)) h.none ∙ ap (store_in d a (Int joined)) s.now;
      }

  -- ---- after an update

  red_apart : (a q : Addr) (i : ℕ) → red_index reds a ≡ Some i → is_red reds q ≡ false → addr_eq q a ≡ false
  red_apart a q i e f =
      elim (addr_eq q a) as (λ b. addr_eq q a ≡ b → b ≡ false) [
        | true ↦ λ t. absurd
            (true≢false (sym (ap is_some (ap (red_index reds) (addr_equal q a t) ∙ e)) ∙ f))
        | false ↦ λ t. refl
      ] refl

  module _ (c d : Content) (h : Sums reds olds c d) (a : Addr) (i : ℕ) (e : red_index reds a ≡ Some i) (z : ℤ) (fits : FitsSigned w64 z) where
    abbrev here : Sum reds olds c.memory h.accesses.accumulators d.memory a i
    here = h.sums a i e

    abbrev joined : ℤ
    joined = red_apply here.red.op (olds i) z

    sum_after : (q : Addr) (j : ℕ) → red_index reds q ≡ Some j → (b : Bool) → (j == i) ≡ b
        → Sum reds olds c.memory (slice_set h.accesses.accumulators i (Int z)) (put d.memory a (Int joined)) q j
    sum_after q j f true t =
        let ij = eqb-true j i t in
        let s = h.sums q j f in
        let same_red = same_some s.red here.red (sym s.stands ∙ ap (slice_get reds) ij ∙ here.stands) in
        let qa = sym s.at ∙ ap (λ r. r.at) same_red ∙ here.at in
        let now_a = put_itself d.memory a (Int joined) (ap is_some here.now) in
        record {
          red = s.red;
          stands = s.stands;
          at = s.at;
          sum = z;
          was = s.was;
          gathered = ap (slice_get (slice_set h.accesses.accumulators i (Int z))) ij ∙ set_there h.accesses.accumulators i (Int z)
              (Int here.sum) here.gathered;
          now = ap (value_at (put d.memory a (Int joined))) qa ∙ now_a ∙ sym (λ k. Some (Int (red_apply (same_red k).op (olds (ij k)) z)));
          old_fits = s.old_fits;
          sum_fits = fits;
        }
    sum_after q j f false t =
        let s = h.sums q j f in
        let qa = elim (addr_eq q a) as (λ b. addr_eq q a ≡ b → b ≡ false)
        [ true ↦ λ t'. absurd (eqb-false j i t (index_same j i (sym f ∙ ap (red_index reds) (addr_equal q a t') ∙ e))) | false ↦ λ t'. refl ] refl in
        record {
          red = s.red;
          stands = s.stands;
          at = s.at;
          sum = s.sum;
          was = s.was;
          gathered = get_set_other h.accesses.accumulators j i (Int z) (eqb-false j i t) ∙ s.gathered;
          now = put_value d.memory a (Int joined) q qa ∙ s.now;
          old_fits = s.old_fits;
          sum_fits = s.sum_fits;
        }

    updated : Sums reds olds (gathers c h.accesses i z) (with_memory d (put d.memory a (Int joined)))
    updated = record {
      accesses = record h.accesses { accumulators = slice_set h.accesses.accumulators i (Int z) };
      is = refl;
      reds_are = h.reds_are;
      none = h.none;
      allocations = h.allocations;
      named = h.named;
      printed = h.printed;
      elsewhere = λ q f. h.elsewhere q f ∙ sym (put_value d.memory a (Int joined) q (red_apart a q i e f));
      lengths = λ o. h.lengths o ∙ sym (put_length d.memory a (Int joined) o);
      count = h.count ∙ sym (put_locals d.memory a (Int joined));
      sums = λ q j f. sum_after q j f (j == i) refl;
      fine = h.fine;
    }

  -- ---- the word

  module _ (zero_fits : FitsSigned w64 (pos 0)) (own : Private) where
    abbrev pub Strong : (A : Type 0) → (A → Type 0) → Act Content A → Act Content A → Type 0
    Strong = Steady (apart reds) zero_fits (Sums reds olds) SameSums (λ s. refl) (λ r s t e f. e ∙ f) own

    abbrev pub Weak : (A : Type 0) → (A → Type 0) → Act Content A → Act Content A → Type 0
    Weak = Steady (apart reds) zero_fits (Sums reds olds) (λ s t. Unit {0}) (λ s. tt) (λ r s t e f. tt) own

    abbrev pub WeakCame : {A : Type 0} → (A → Type 0) → Content → Answer A × State Content → Answer A × State Content → Type 0
    WeakCame P from a b = Came (apart reds) zero_fits (Sums reds olds) (λ s t. Unit {0}) (λ s. tt) (λ r s t e f. tt) own P from a b

    abbrev StrongBefore : State Content → State Content → Type 0
    StrongBefore = Before (apart reds) zero_fits (Sums reds olds) SameSums (λ s. refl) (λ r s t e f. e ∙ f) own

    abbrev WeakBefore : State Content → State Content → Type 0
    WeakBefore = Before (apart reds) zero_fits (Sums reds olds) (λ s t. Unit {0}) (λ s. tt) (λ r s t e f. tt) own

    stronger : (s t : State Content) → WeakBefore s t → StrongBefore s t
    stronger s t b = record { frame = b.frame; own_is = b.own_is; locals = b.locals; budget = b.budget; world = b.world }

    weaker_before : (s t : State Content) → StrongBefore s t → WeakBefore s t
    weaker_before s t b = record { frame = b.frame; own_is = b.own_is; locals = b.locals; budget = b.budget; world = b.world }

    module _ (a : Addr) (i : ℕ) (e : red_index reds a ≡ Some i) (op : RedOp) (op_is : (r : Red) → slice_get reds i ≡ Some r → r.op ≡ op) (line : ℕ)
        (f : Val → Val → Result Val Trap) (joins : Joins op f) (p : Act Content Val) (set : Val → Act Content (Unit {0}))
        (reads : (s : State Content) → s.frame.own ≡ own → p s ≡ (at_line line (load a kind.Int s.world).0, record s { world = (load a kind.Int s.world).1 }))
        (sets : (z : Val) (s : State Content) → s.frame.own ≡ own → set z s
        ≡ (at_line line (store a z s.world).0, record s { world = (store a z s.world).1 })) where
      abbrev then_set : Val → Val → Act Content Flow
      then_set x y = lift line (f x y) >>= (λ z. set z >> pure Next)

      -- with both numbers there, the accumulator and the variable are set
      set_both : (from : Content) (s t : State Content) (b : WeakBefore s t) (x y m : ℤ) → x ≡ (b.world.sums a i e).sum → y ≡ red_apply op (olds i) x
          → FitsSigned w64 m → WeakCame (FineFlow (apart reds)) from (then_set (Int x) (Int m) s) (then_set (Int y) (Int m) t)
      unfolding bind lift pure
      set_both from s t b x y m ex ey fits =
          let sum = b.world.sums a i e in
          let is_op = op_is sum.red sum.stands in
          let x_fits = subst (FitsSigned w64) (sym ex) sum.sum_fits in
          let z = red_apply op x m in
          let z_fits = stays_in_range op x m x_fits fits in
          let joined = red_apply sum.red.op (olds i) z in
          let regroup : red_apply op y m ≡ joined = ap (λ y. red_apply op y m) ey ∙ is_associative op (olds i) x m sum.old_fits x_fits fits ∙ ap
          (λ o. red_apply o (olds i) z) (sym is_op) in
          let w = stores s.world t.world b.world a i e z joined in
          let c' = gathers s.world b.world.accesses i z in
          let d' = with_memory t.world (put t.world.memory a (Int joined)) in
          let at_s = sets (Int z) s b.own_is ∙ ap (λ r. (at_line line r.0, record s { world = r.1 })) w.gathered in
          let at_t = sets (Int joined) t (ap (λ g. g.own) (sym b.frame) ∙ b.own_is) ∙ ap (λ r. (at_line line r.0, record t { world = r.1 })) w.direct in
          let after_both = updated s.world t.world b.world a i e z z_fits in
          subst (λ r. WeakCame (FineFlow (apart reds)) from (after (at_line line r) s (λ z. set z >> pure Next)) (then_set (Int y) (Int m) t))
          (sym (joins.number x m))
          (subst (λ r. WeakCame (FineFlow (apart reds)) from (after (set (Int z) s).0 (set (Int z) s).1 (λ u. pure Next))
          (after (at_line line r) t (λ z. set z >> pure Next))) (sym (joins.number y m ∙ ap (λ k. Ok (Int k)) regroup))
          (subst (λ r. WeakCame (FineFlow (apart reds)) from (after r.0 r.1 (λ u. pure Next))
          (after (set (Int joined) t).0 (set (Int joined) t).1 (λ u. pure Next))) (sym at_s)
          (subst (λ r. WeakCame (FineFlow (apart reds)) from (Ok Next, record s { world = c' }) (after r.0 r.1 (λ u. pure Next))) (sym at_t)
          (record {
            answer = refl;
            good = (tt, record { frame = b.frame; own_is = b.own_is; locals = b.locals; budget = b.budget; world = after_both });
            budget = b.budget;
            world = after_both;
            keeps = tt;
          }))))

      by_value : (from : Content) (s t : State Content) (b : WeakBefore s t) (x y : ℤ) (v : Val) → x ≡ (b.world.sums a i e).sum → y ≡ red_apply op (olds i) x
          → Fine (apart reds) v → WeakCame (FineFlow (apart reds)) from (then_set (Int x) v s) (then_set (Int y) v t)
      unfolding bind lift
      by_value from s t b x y (Int m) ex ey fine = set_both from s t b x y m ex ey fine
      by_value from s t b x y (Ptr o w) ex ey fine =
          subst (λ r. WeakCame (FineFlow (apart reds)) from (after (at_line line r) s (λ z. set z >> pure Next)) (then_set (Int y) (Ptr o w) t))
          (sym (joins.pointer x o w))
          (subst (λ r. WeakCame (FineFlow (apart reds)) from (Err (trap.Kind, line), s) (after (at_line line r) t (λ z. set z >> pure Next)))
          (sym (joins.pointer y o w)) (record { answer = refl; good = tt; budget = b.budget; world = b.world; keeps = tt }))

      -- the expression answered, with the accumulators as they were
      after_value : (from : Content) (r : Answer Val) (s t : State Content) (x y : ℤ) (sums : List Val) → slice_get sums i ≡ Some (Int x) → y ≡ red_apply op
          (olds i) x → Good (apart reds) zero_fits (Sums reds olds) SameSums (λ s. refl) (λ r s t e f. e ∙ f) own (Fine (apart reds)) r s t
          → s.budget ≡ t.budget → Sums reds olds s.world t.world → sums ≡ sums_in s.world.accesses
          → WeakCame (FineFlow (apart reds)) from (after r s (λ v. then_set (Int x) v)) (after r t (λ v. then_set (Int y) v))
      after_value from (Ok v) s t x y sums g ey good budget w k =
          let b = weaker_before s t good.1 in
          let sum = b.world.sums a i e in
          by_value from s t b x y v (some_same_num x sum.sum (sym g ∙ ap (λ l. slice_get l i) (k ∙ ap sums_in b.world.is) ∙ sum.gathered)) ey good.0
      after_value from (Err u) s t x y sums g ey good budget w k = record { answer = refl; good = tt; budget = budget; world = w; keeps = tt }

      pub update_related : (pe qe : Act Content Val) → Strong Val (Fine (apart reds)) pe qe
          → Weak Flow (FineFlow (apart reds)) (p >>= (λ x. pe >>= (λ y. then_set x y))) (p >>= (λ x. qe >>= (λ y. then_set x y)))
      unfolding bind
      update_related pe qe h = record {
        by = λ s t b.
            let sum = b.world.sums a i e in
            let is_op = op_is sum.red sum.stands in
            let l = loads s.world t.world b.world a i e in
            let at_s = reads s b.own_is ∙ ap (λ r. (at_line line r.0, record s { world = r.1 })) l.gathered in
            let at_t = reads t (ap (λ g. g.own) (sym b.frame) ∙ b.own_is) ∙ ap (λ r. (at_line line r.0, record t { world = r.1 })) l.direct in
            let x = sum.sum in
            let y = red_apply sum.red.op (olds i) x in
            let k = h.by s t (stronger s t b) in
            subst (λ r. WeakCame (FineFlow (apart reds)) s.world (after r.0 r.1 (λ x. pe >>= (λ y. then_set x y)))
            (after (p t).0 (p t).1 (λ x. qe >>= (λ y. then_set x y)))) (sym at_s)
            (subst (λ r. WeakCame (FineFlow (apart reds)) s.world (after (pe s).0 (pe s).1 (λ v. then_set (Int x) v))
            (after r.0 r.1 (λ x. qe >>= (λ y. then_set x y)))) (sym at_t)
            (subst (λ r. WeakCame (FineFlow (apart reds)) s.world (after (pe s).0 (pe s).1 (λ v. then_set (Int x) v))
            (after r (qe t).1 (λ v. then_set (Int y) v))) k.answer
            (after_value s.world (pe s).0 (pe s).1 (qe t).1 x y b.world.accesses.accumulators sum.gathered
            (ap (λ o. red_apply o (olds i) x) is_op) k.good k.budget k.world (ap sums_in (sym b.world.is) ∙ k.keeps))));
      }
