-- A body that mentions each reduction variable in updates alone obeys the rules of a loop's body.
use Rattle.std.proofs.Common.{◌≡◌, ℕ, zero, suc, List, [], ◌∷◌, Option, Some, None, Bool, true, false, ◌&&◌, ◌||◌, refl, sym, ap, ◌∙◌}
use Rattle.std.specs.Prelude.{ℤ, pos, not, if◌then◌else◌, ◌==◌, is_some, option_map, slice_get}
use Rattle.std.specs.List.{list_any}
use Rattle.std.proofs.Math.Bool.{true≢false}
use Rattle.std.proofs.lemmas.Bool.{eqb-true, eqb-false}
use Rattle.al_source.specs.declared.operators.BinOp.{BinOp}
use Rattle.al_source.specs.declared.operators.RedOp.{RedOp}
use Rattle.al_core.specs.declared.choices.Red.{Red}
use Rattle.al_core.specs.declared.values.Addr.{Addr}
use Rattle.al_core.specs.declared.values.Addr.TheVariants.{Word, Head, Local}
use Rattle.al_core.specs.declared.values.Obj.TheVariants.{Global, Serial, Iter}
use Rattle.al_core.specs.declared.typed_tree.TExpr.{TExpr, map-TExpr, out-TExpr, fold_out-TExpr}
use Rattle.al_core.specs.declared.typed_tree.TPlace.{TPlace, out-TPlace}
use Rattle.al_core.specs.declared.typed_tree.TExpr.TheOpen.{TExpr-F, TPlace-F}
use Rattle.al_core.specs.declared.typed_tree.TStmt.{TStmt, out-TStmt, roll-out-TStmt, para-roll-TStmt}
use Rattle.al_core.specs.declared.typed_tree.TKind.{TKind, map-TKind, out-TKind, roll-out-TKind, para-TKind, para-roll-TKind}
use Rattle.al_core.specs.declared.typed_tree.TKind.TheOpen.{TKind-F}
use Rattle.al_core.specs.Orders.{addr_eq}
use Rattle.al_core.specs.Access.{red_index}
use Rattle.al_core.specs.Loops.{start_in, start_of, bound_in, right_side, bound_of}
use Rattle.al_core.specs.Accepted.{is_local, is_global, expr_mentions, place_mentions, mentions, mentions_at, any_mentions, updates_by, chooses_by, is_place, is_variable, is_choice, is_update, starts_other, kind_only_updates, only_updates}
use Rattle.al_laws.proofs.Orders.{addr_itself}
use Rattle.al_laws.proofs.Words.{same_some, some_none}
use Rattle.al_laws.proofs.Stays.{or_left, or_right}
use Rattle.al_graded_laws.specs.Rules.{Rules, expr_obeys, place_obeys, obeys, obeys_at, all_obey, any_obeys, bound_obeys, start_obeys}
use Rattle.al_graded_laws.specs.InRange.{in_range}
use Rattle.al_graded_laws.proofs.Graded.{both_left, both_right}
use Rattle.al_reductions_laws.proofs.Variables.{is_red}
use Rattle.al_reductions_laws.proofs.Joined.{found_at}
use Rattle.al_reductions_laws.proofs.BodyRules.{red_in, red_of_place, is_red_global, base, updates, chooses, chooses_if, body_rules, base_obeys}
use Rattle.al_reductions_laws.proofs.Mentions.{both, Permits, unmentioned_obeys, unmentioned_obeys_at}

-- ---- booleans

pub not_true : (b : Bool) → not b ≡ true → b ≡ false
not_true true e = absurd (true≢false (sym e))
not_true false e = refl

or_true : (b c : Bool) → c ≡ true → (b || c) ≡ true
or_true true c e = refl
or_true false c e = e

eq_itself : (e : ℕ) → (e == e) ≡ true
eq_itself e = elim (e == e) as (λ b. (e == e) ≡ b → b ≡ true) [ true ↦ λ t. refl | false ↦ λ t. absurd (eqb-false e e t refl) ] refl

-- ---- addresses

-- the address is in the global
record IsOfGlobal (a : Addr) (k : ℕ) : Type 0 where
  pub word : ℕ
  pub is : a ≡ Word (Global k) word

of_global : (a : Addr) (k : ℕ) → is_global a k ≡ true → IsOfGlobal a k
of_global (Word (Global j) w) k e = record { word = w; is = ap (λ j. Word (Global j) w) (eqb-true j k e) }
of_global (Word (Serial j) w) k e = absurd (true≢false (sym e))
of_global (Word (Iter i j n) w) k e = absurd (true≢false (sym e))
of_global (Head o) k e = absurd (true≢false (sym e))
of_global (Local j) k e = absurd (true≢false (sym e))

local_here : (a : Addr) (k : ℕ) → a ≡ Local k → is_local a k ≡ true
local_here a k e = ap (λ z. is_local z k) e ∙ eq_itself k

global_here : (a : Addr) (k w : ℕ) → a ≡ Word (Global k) w → is_global a k ≡ true
global_here a k w e = ap (λ z. is_global z k) e ∙ eq_itself k

local_is : (a : Addr) (k : ℕ) → is_local a k ≡ true → a ≡ Local k
local_is (Local j) k e = ap (λ j. Local j) (eqb-true j k e)
local_is (Word o w) k e = absurd (true≢false (sym e))
local_is (Head o) k e = absurd (true≢false (sym e))

-- ---- each of the reductions

abbrev pub EachRed : List Red → (Red → Type 0) → Type 0
EachRed reds P = (i : ℕ) (r : Red) → slice_get reds i ≡ Some r → P r

-- a reduction of the list lies at the address
pub record IsAt (reds : List Red) (a : Addr) : Type 0 where
  pub place : ℕ
  pub red : Red
  pub stands : slice_get reds place ≡ Some red
  pub at : red.at ≡ a

pub member_found : (reds : List Red) (i : ℕ) (r : Red) → slice_get reds i ≡ Some r → is_red reds r.at ≡ true
member_found [] i r e = absurd (some_none r (sym e))
member_found (q ∷ reds) zero r e =
    ap (λ b. is_some (if b then Some 0 else option_map suc (red_index reds r.at))) (ap (λ z. addr_eq z.at r.at) (same_some q r e) ∙ addr_itself r.at)
member_found (q ∷ reds) (suc i) r e =
    by_first (addr_eq q.at r.at) (red_index reds r.at) (member_found reds i r e)
  where
    by_first : (b : Bool) (x : Option ℕ) → is_some x ≡ true → is_some (if b then Some 0 else option_map suc x) ≡ true
    by_first true x e = refl
    by_first false None e = absurd (true≢false (sym e))
    by_first false (Some i) e = refl

pub no_global : (reds : List Red) (k : ℕ) → EachRed reds (λ r. is_global r.at k ≡ false) → is_red_global reds k ≡ false
no_global [] k h = refl
no_global (r ∷ reds) k h = ap (λ b. b || is_red_global reds k) (h 0 r refl) ∙ no_global reds k (λ i q e. h (suc i) q e)

no_local : (reds : List Red) (k : ℕ) → ((a : Addr) → IsAt reds a → is_local a k ≡ false) → is_red reds (Local k) ≡ false
no_local reds k h = by_index (red_index reds (Local k)) refl
  where
    by_index : (x : Option ℕ) → red_index reds (Local k) ≡ x → is_some x ≡ false
    by_index None e = refl
    by_index (Some i) e =
        let q = found_at reds (Local k) i e in
        absurd (true≢false (sym (local_here q.0.at k q.2) ∙ h q.0.at (record { place = i; red = q.0; stands = q.1; at = refl })))

-- no expression of a body mentions a reduction variable, but for updates
pub base_permits : (reds : List Red) (called : ℕ → Type 0) → Permits (IsAt reds) (base reds called)
base_permits reds called =
    let global = λ (k : ℕ) (h : (a : Addr) → IsAt reds a → is_global a k ≡ false).
    ap not (no_global reds k (λ i r e. h r.at (record { place = i; red = r; stands = e; at = refl }))) in
    record { local = λ k h. ap not (no_local reds k h); global = global; taken = global; literal = λ n e. e }

-- ---- parts of an expression

-- the second part of a choice mentions no more than the choice
second_unmentioned : (a : Addr) (e : TExpr) (by : RedOp) (u v : TExpr) → out-TExpr e ≡ TExpr-F.Choose by u v → mentions a e ≡ false → mentions a v ≡ false
unfolding mentions mentions_at
second_unmentioned a e by u v i f =
    let is : mentions a e ≡ (mentions a u || mentions a v) =
    fold_out-TExpr Bool Bool (expr_mentions a) (place_mentions a) e
    ∙ ap (λ y. expr_mentions a (map-TExpr TExpr TPlace Bool Bool (mentions a) (mentions_at a) y)) i in
    or_right (mentions a u) (mentions a v) (sym is ∙ f)

second_obeys : (r : Rules) (e : TExpr) (by : RedOp) (u v : TExpr) → out-TExpr e ≡ TExpr-F.Choose by u v → obeys r e ≡ true → obeys r v ≡ true
unfolding obeys obeys_at
second_obeys r e by u v i o =
    let is : obeys r e ≡ (obeys r u && obeys r v) =
    fold_out-TExpr Bool (Bool × Bool) (expr_obeys r) (place_obeys r) e
    ∙ ap (λ y. expr_obeys r (map-TExpr TExpr TPlace Bool (Bool × Bool) (obeys r) (obeys_at r) y)) i in
    both_right (obeys r u) (obeys r v) (sym is ∙ o)

-- what a choice says
record Chosen (op : RedOp) (a : Addr) (y : TExpr-F TExpr TPlace) : Type 0 where
  pub by : RedOp
  pub first : TExpr
  pub second : TExpr
  pub is : y ≡ TExpr-F.Choose by first second
  pub by_it : chooses_by op by ≡ true
  pub variable : is_variable op a (out-TExpr first) ≡ true

chosen : (op : RedOp) (a : Addr) (y : TExpr-F TExpr TPlace) → is_choice op a y ≡ true → Chosen op a y
chosen op a (TExpr-F.Number n) t = absurd (true≢false (sym t))
chosen op a (TExpr-F.Local j) t = absurd (true≢false (sym t))
chosen op a (TExpr-F.Load want p) t = absurd (true≢false (sym t))
chosen op a (TExpr-F.Addr p) t = absurd (true≢false (sym t))
chosen op a (TExpr-F.Unary by x) t = absurd (true≢false (sym t))
chosen op a (TExpr-F.Binary by x y) t = absurd (true≢false (sym t))
chosen op a (TExpr-F.Same equal x y) t = absurd (true≢false (sym t))
chosen op a (TExpr-F.And x y) t = absurd (true≢false (sym t))
chosen op a (TExpr-F.Or x y) t = absurd (true≢false (sym t))
chosen op a (TExpr-F.Call f es) t = absurd (true≢false (sym t))
chosen op a (TExpr-F.Input x) t = absurd (true≢false (sym t))
chosen op a TExpr-F.Inputs t = absurd (true≢false (sym t))
chosen op a (TExpr-F.Choose by u v) t =
    let here = is_variable op a (out-TExpr u) in
    let first = both_left (chooses_by op by && here) (not (mentions a v)) t in
    record {
      by = by;
      first = u;
      second = v;
      is = refl;
      by_it = both_left (chooses_by op by) here first;
      variable = both_right (chooses_by op by) here first;
    }
chosen op a (TExpr-F.Calloc x size) t = absurd (true≢false (sym t))
chosen op a (TExpr-F.Free x) t = absurd (true≢false (sym t))

-- the second part of a choice does not mention the variable
choice_apart : (op : RedOp) (a : Addr) (y : TExpr-F TExpr TPlace) (by : RedOp) (u v : TExpr) → y ≡ TExpr-F.Choose by u v → is_choice op a y ≡ true
    → mentions a v ≡ false
choice_apart op a y by u v i t =
    let here : is_choice op a (TExpr-F.Choose by u v) ≡ true = ap (is_choice op a) (sym i) ∙ t in
    not_true (mentions a v) (both_right (chooses_by op by && is_variable op a (out-TExpr u)) (not (mentions a v)) here)

-- ---- the bound and the start of an annotated loop

bound_in_obeys : (r : Rules) (y : TExpr-F TExpr TPlace) → bound_obeys in_range (bound_in y) ≡ true
    → ((n : ℤ) → in_range.literal n ≡ true → r.literal n ≡ true)
    → ((k : ℕ) → y ≡ TExpr-F.Local k → r.local k ≡ true) → r.literal (pos 0) ≡ true → bound_obeys r (bound_in y) ≡ true
bound_in_obeys r (TExpr-F.Number n) o l k z = l n o
bound_in_obeys r (TExpr-F.Local j) o l k z = k j refl
bound_in_obeys r (TExpr-F.Load want p) o l k z = z
bound_in_obeys r (TExpr-F.Addr p) o l k z = z
bound_in_obeys r (TExpr-F.Unary by x) o l k z = z
bound_in_obeys r (TExpr-F.Binary by x y) o l k z = z
bound_in_obeys r (TExpr-F.Same equal x y) o l k z = z
bound_in_obeys r (TExpr-F.And x y) o l k z = z
bound_in_obeys r (TExpr-F.Or x y) o l k z = z
bound_in_obeys r (TExpr-F.Call f es) o l k z = z
bound_in_obeys r (TExpr-F.Input x) o l k z = z
bound_in_obeys r TExpr-F.Inputs o l k z = z
bound_in_obeys r (TExpr-F.Choose by u v) o l k z = z
bound_in_obeys r (TExpr-F.Calloc x size) o l k z = z
bound_in_obeys r (TExpr-F.Free x) o l k z = z

module _ (Watched : Addr → Type 0) (r : Rules) (permits : Permits Watched r) where
  zero_obeys : r.literal (pos 0) ≡ true
  zero_obeys = permits.literal _ refl

  local_unmentioned : (a : Addr) (e : TExpr) (k : ℕ) → out-TExpr e ≡ TExpr-F.Local k → mentions a e ≡ false → is_local a k ≡ false
  unfolding mentions mentions_at
  local_unmentioned a e k i m =
      sym (fold_out-TExpr Bool Bool (expr_mentions a) (place_mentions a) e
      ∙ ap (λ y. expr_mentions a (map-TExpr TExpr TPlace Bool Bool (mentions a) (mentions_at a) y)) i) ∙ m

  right_side_obeys : (y : TExpr-F TExpr TPlace) → bound_obeys in_range (right_side y) ≡ true
      → ((a : Addr) → Watched a → expr_mentions a (map-TExpr TExpr TPlace Bool Bool (mentions a) (mentions_at a) y) ≡ false)
      → bound_obeys r (right_side y) ≡ true
  right_side_obeys (TExpr-F.Binary by u v) o m =
      bound_in_obeys r (out-TExpr v) o permits.literal
      (λ k i. permits.local k (λ a w. local_unmentioned a v k i (or_right (mentions a u) (mentions a v) (m a w)))) zero_obeys
  right_side_obeys (TExpr-F.Number n) o m = zero_obeys
  right_side_obeys (TExpr-F.Local j) o m = zero_obeys
  right_side_obeys (TExpr-F.Load want p) o m = zero_obeys
  right_side_obeys (TExpr-F.Addr p) o m = zero_obeys
  right_side_obeys (TExpr-F.Unary by x) o m = zero_obeys
  right_side_obeys (TExpr-F.Same equal x y) o m = zero_obeys
  right_side_obeys (TExpr-F.And x y) o m = zero_obeys
  right_side_obeys (TExpr-F.Or x y) o m = zero_obeys
  right_side_obeys (TExpr-F.Call f es) o m = zero_obeys
  right_side_obeys (TExpr-F.Input x) o m = zero_obeys
  right_side_obeys TExpr-F.Inputs o m = zero_obeys
  right_side_obeys (TExpr-F.Choose by u v) o m = zero_obeys
  right_side_obeys (TExpr-F.Calloc x size) o m = zero_obeys
  right_side_obeys (TExpr-F.Free x) o m = zero_obeys

  pub bound_of_obeys : (test : Option TExpr) → bound_obeys in_range (bound_of test) ≡ true → ((a : Addr) → Watched a → any_mentions a test ≡ false)
      → bound_obeys r (bound_of test) ≡ true
  unfolding mentions mentions_at
  bound_of_obeys (Some e) o m =
      right_side_obeys (out-TExpr e) o (λ a w. sym (fold_out-TExpr Bool Bool (expr_mentions a) (place_mentions a) e) ∙ m a w)
  bound_of_obeys None o m = zero_obeys

-- ---- a statement, by its layer

abbrev pub only_kind : RedOp → Addr → TKind → Bool
only_kind op a = para-TKind Bool Bool (kind_only_updates op a) (λ s. s.kind.1)

abbrev pub only_layer : RedOp → Addr → TKind-F TKind TStmt → TKind-F (TKind × Bool) (TStmt × Bool)
only_layer op a y = map-TKind TKind TStmt (TKind × Bool) (TStmt × Bool) (λ d. (d, only_kind op a d)) (λ d. (d, only_updates op a d)) y

only_out : (op : RedOp) (a : Addr) (s : TStmt) → only_updates op a s ≡ kind_only_updates op a (only_layer op a (out-TKind (out-TStmt s).kind))
unfolding only_updates
only_out op a s =
    ap (only_updates op a) (sym (roll-out-TStmt s)) ∙ para-roll-TStmt Bool Bool (kind_only_updates op a) (λ s. s.kind.1) (out-TStmt s)
    ∙ ap (only_kind op a) (sym (roll-out-TKind (out-TStmt s).kind))
    ∙ para-roll-TKind Bool Bool (kind_only_updates op a) (λ s. s.kind.1) (out-TKind (out-TStmt s).kind)

module _ (reds : List Red) (called : ℕ → Type 0) (firsts : EachRed reds (λ r. (k w : ℕ) → r.at ≡ Word (Global k) w → w ≡ 0)) where
  abbrev pub A : Rules
  A = base reds called

  abbrev pub B : Rules
  B = body_rules reds called

  abbrev pub permits : Permits (IsAt reds) A
  permits = base_permits reds called

  -- the same of each address at which a reduction lies
  pub watched : (f : Addr → Bool) → EachRed reds (λ r. f r.at ≡ false) → (a : Addr) → IsAt reds a → f a ≡ false
  watched f h a w = ap f (sym w.at) ∙ h w.place w.red w.stands

  base_of : (e : TExpr) → obeys in_range e ≡ true → EachRed reds (λ r. mentions r.at e ≡ false) → obeys A e ≡ true
  base_of e o m = unmentioned_obeys (IsAt reds) A permits e o (watched (λ a. mentions a e) m)

  pub expr_of : (e : TExpr) → obeys in_range e ≡ true → EachRed reds (λ r. mentions r.at e ≡ false) → obeys B e ≡ true
  expr_of e o m = sym (base_obeys reds called e) ∙ base_of e o m

  same_at : (p : TPlace) → obeys_at A p ≡ obeys_at B p
  unfolding obeys_at
  same_at p = refl

  place_of : (p : TPlace) → (obeys_at in_range p).0 ≡ true → EachRed reds (λ r. mentions_at r.at p ≡ false) → (obeys_at B p).0 ≡ true
  place_of p o m =
      ap (λ b. b.0) (sym (same_at p)) ∙ (unmentioned_obeys_at (IsAt reds) A permits p o (watched (λ a. mentions_at a p) m)).place

  local_of : (k : ℕ) → EachRed reds (λ r. is_local r.at k ≡ false) → B.local k ≡ true
  local_of k m = permits.local k (watched (λ a. is_local a k) m)

  -- ---- updates

  updates_here : (r : Red) (by : BinOp) (e : TExpr) → is_update r.op r.at by e ≡ true → obeys in_range e ≡ true
      → EachRed reds (λ r. mentions r.at e ≡ false) → updates reds called (Some r) by e ≡ true
  updates_here r by e t o m = both (updates_by r.op by) (obeys A e) (both_left (updates_by r.op by) (not (mentions r.at e)) t) (base_of e o m)

  -- what is asked of each reduction, by whether the variable is its own
  abbrev pub Choice : TExpr → Red → Bool → Type 0
  Choice e r here = (if here then is_choice r.op r.at (out-TExpr e) else not (mentions r.at e)) ≡ true

  second_apart : (e : TExpr) (r : Red) (by : RedOp) (u v : TExpr) → out-TExpr e ≡ TExpr-F.Choose by u v → (here : Bool) → Choice e r here
      → mentions r.at v ≡ false
  second_apart e r by u v i true t = choice_apart r.op r.at (out-TExpr e) by u v i t
  second_apart e r by u v i false t = second_unmentioned r.at e by u v i (not_true (mentions r.at e) t)

  chooses_here : (r : Red) (e : TExpr) (here : Red → Bool) → is_choice r.op r.at (out-TExpr e) ≡ true → obeys in_range e ≡ true
      → EachRed reds (λ q. Choice e q (here q)) → chooses_if reds called (Some r) e ≡ true
  chooses_here r e here t o m =
      let c = chosen r.op r.at (out-TExpr e) t in
      let rest = base_of c.second (second_obeys in_range e c.by c.first c.second c.is o)
      (λ i q s. second_apart e q c.by c.first c.second c.is (here q) (m i q s)) in
      ap (chooses reds called r) c.is
      ∙ both (chooses_by r.op c.by) (is_variable r.op r.at (out-TExpr c.first) && obeys A c.second) c.by_it
      (both (is_variable r.op r.at (out-TExpr c.first)) (obeys A c.second) c.variable rest)

  -- where the variable is another one the expression does not mention it
  other : (here test m : Bool) → here ≡ false → (if here then test else not m) ≡ true → m ≡ false
  other true test m f t = absurd (true≢false f)
  other false test m f t = not_true m t

  -- an update's right side mentions the variable neither way
  either_way : (here u m : Bool) → (if here then (u && not m) else not m) ≡ true → m ≡ false
  either_way true u m t = not_true m (both_right u (not m) t)
  either_way false u m t = not_true m t

  in_it : (here test rest : Bool) → here ≡ true → (if here then test else rest) ≡ true → test ≡ true
  in_it true test rest h t = t
  in_it false test rest h t = absurd (true≢false (sym h))

  -- ---- a local that is set

  not_local : (k : ℕ) → red_index reds (Local k) ≡ None → EachRed reds (λ r. is_local r.at k ≡ false)
  not_local k e i r s =
      elim (is_local r.at k) as (λ b. is_local r.at k ≡ b → b ≡ false) [
        | true ↦ λ t. absurd (true≢false (sym (member_found reds i r s) ∙ ap (is_red reds) (local_is r.at k t) ∙ ap is_some e))
        | false ↦ λ t. refl
      ] refl

  pub set_local : (k : ℕ) (e : TExpr) → obeys in_range e ≡ true → EachRed reds (λ r. Choice e r (is_local r.at k))
      → (x : Option ℕ) → red_index reds (Local k) ≡ x → (chooses_if reds called (red_in reds x) e || (not (is_some x) && obeys B e)) ≡ true
  set_local k e o m None f = expr_of e o (λ i r s. other (is_local r.at k) _ (mentions r.at e) (not_local k f i r s) (m i r s))
  set_local k e o m (Some i) f =
      let q = found_at reds (Local k) i f in
      let t = in_it (is_local q.0.at k) (is_choice q.0.op q.0.at (out-TExpr e)) _ (local_here q.0.at k q.2) (m i q.0 q.1) in
      ap (λ z. chooses_if reds called z e || false) q.1 ∙ ap (λ b. b || false) (chooses_here q.0 e (λ r. is_local r.at k) t o m)

  pub update_local : (by : BinOp) (k : ℕ) (e : TExpr) → obeys in_range e ≡ true
      → EachRed reds (λ r. (if is_local r.at k then is_update r.op r.at by e else not (mentions r.at e)) ≡ true)
      → (x : Option ℕ) → red_index reds (Local k) ≡ x → (updates reds called (red_in reds x) by e || (not (is_some x) && obeys B e)) ≡ true
  update_local by k e o m None f = expr_of e o (λ i r s. other (is_local r.at k) _ (mentions r.at e) (not_local k f i r s) (m i r s))
  update_local by k e o m (Some i) f =
      let q = found_at reds (Local k) i f in
      let t = in_it (is_local q.0.at k) (is_update q.0.op q.0.at by e) _ (local_here q.0.at k q.2) (m i q.0 q.1) in
      let none = λ (i : ℕ) (r : Red) (s : slice_get reds i ≡ Some r). either_way (is_local r.at k) (updates_by r.op by) (mentions r.at e) (m i r s) in
      ap (λ z. updates reds called z by e || false) q.1 ∙ ap (λ b. b || false) (updates_here q.0 by e t o none)

  -- ---- a place that is stored to

  -- the place of a found reduction is its variable
  place_here : (y : TPlace-F TExpr TPlace) (r : Red) → red_of_place reds y ≡ Some r → is_place r.op r.at y ≡ true
  place_here (TPlace-F.Global k) r e = here (red_index reds (Word (Global k) 0)) refl e
    where
      here : (x : Option ℕ) → red_index reds (Word (Global k) 0) ≡ x → red_in reds x ≡ Some r → is_global r.at k ≡ true
      here (Some i) f g =
          let q = found_at reds (Word (Global k) 0) i f in
          global_here r.at k 0 (ap (λ z. z.at) (same_some r q.0 (sym g ∙ q.1)) ∙ q.2)
      here None f g = absurd (some_none r (sym g))
  place_here (TPlace-F.At x) r e = absurd (some_none r (sym e))
  place_here (TPlace-F.Plus p n) r e = absurd (some_none r (sym e))
  place_here (TPlace-F.Elem p x n) r e = absurd (some_none r (sym e))

  -- where no reduction is found the place is the variable of none
  no_place : (y : TPlace-F TExpr TPlace) → red_of_place reds y ≡ None → EachRed reds (λ r. is_place r.op r.at y ≡ false)
  no_place (TPlace-F.Global k) e i r s =
      elim (is_global r.at k) as (λ b. is_global r.at k ≡ b → b ≡ false) [
        | true ↦ λ t.
            let g = of_global r.at k t in
            let at = g.is ∙ ap (λ w. Word (Global k) w) (firsts i r s k g.word g.is) in
            absurd (none_in (red_index reds (Word (Global k) 0)) refl e (sym (ap (is_red reds) at) ∙ member_found reds i r s))
        | false ↦ λ t. refl
      ] refl
    where
      none_in : (x : Option ℕ) → red_index reds (Word (Global k) 0) ≡ x → red_in reds x ≡ None → is_red reds (Word (Global k) 0) ≡ true → ⊥
      none_in (Some j) f g h = let q = found_at reds (Word (Global k) 0) j f in some_none q.0 (sym q.1 ∙ g)
      none_in None f g h = true≢false (sym h ∙ ap is_some f)
  no_place (TPlace-F.At x) e i r s = refl
  no_place (TPlace-F.Plus p n) e i r s = refl
  no_place (TPlace-F.Elem p x n) e i r s = refl

  abbrev pub Placed : TPlace → TExpr → (Red → Bool) → Red → Type 0
  Placed p e test r = (if is_place r.op r.at (out-TPlace p) then test r else (not (mentions_at r.at p) && not (mentions r.at e))) ≡ true

  -- what a place says that is another one
  elsewhere : (here test : Bool) (m n : Bool) → here ≡ false → (if here then test else (not m && not n)) ≡ true → (m ≡ false) × (n ≡ false)
  elsewhere true test m n f t = absurd (true≢false f)
  elsewhere false test m n f t = (not_true m (both_left (not m) (not n) t), not_true n (both_right (not m) (not n) t))

  weaker : (here test m n : Bool) → (if here then test else (not m && not n)) ≡ true → (if here then test else not n) ≡ true
  weaker true test m n t = t
  weaker false test m n t = both_right (not m) (not n) t

  stored : (p : TPlace) (e : TExpr) (test : Red → Bool) (b : Bool) → ((obeys_at in_range p).0 && obeys in_range e) ≡ true
      → red_of_place reds (out-TPlace p) ≡ None → EachRed reds (Placed p e test) → (b || ((obeys_at B p).0 && obeys B e)) ≡ true
  stored p e test b o f m =
      let each = λ (i : ℕ) (r : Red) (s : slice_get reds i ≡ Some r).
      elsewhere (is_place r.op r.at (out-TPlace p)) (test r) (mentions_at r.at p) (mentions r.at e) (no_place (out-TPlace p) f i r s) (m i r s) in
      or_true b ((obeys_at B p).0 && obeys B e)
      (both (obeys_at B p).0 (obeys B e) (place_of p (both_left (obeys_at in_range p).0 (obeys in_range e) o) (λ i r s. (each i r s).0))
      (expr_of e (both_right (obeys_at in_range p).0 (obeys in_range e) o) (λ i r s. (each i r s).1)))

  -- the found reduction stands in the list
  record Standing (y : TPlace-F TExpr TPlace) (r : Red) : Type 0 where
    pub place : ℕ
    pub stands : slice_get reds place ≡ Some r

  standing : (y : TPlace-F TExpr TPlace) (r : Red) → red_of_place reds y ≡ Some r → Standing y r
  standing (TPlace-F.Global k) r e = here (red_index reds (Word (Global k) 0)) e
    where
      here : (x : Option ℕ) → red_in reds x ≡ Some r → Standing (TPlace-F.Global k) r
      here (Some i) g = record { place = i; stands = g }
      here None g = absurd (some_none r (sym g))
  standing (TPlace-F.At x) r e = absurd (some_none r (sym e))
  standing (TPlace-F.Plus p n) r e = absurd (some_none r (sym e))
  standing (TPlace-F.Elem p x n) r e = absurd (some_none r (sym e))

  pub store_at : (p : TPlace) (e : TExpr) → ((obeys_at in_range p).0 && obeys in_range e) ≡ true
      → EachRed reds (Placed p e (λ r. is_choice r.op r.at (out-TExpr e))) → (x : Option Red) → red_of_place reds (out-TPlace p) ≡ x
      → (chooses_if reds called x e || ((obeys_at B p).0 && obeys B e)) ≡ true
  store_at p e o m None f = stored p e (λ r. is_choice r.op r.at (out-TExpr e)) false o f m
  store_at p e o m (Some r) f =
      let s = standing (out-TPlace p) r f in
      let t = in_it (is_place r.op r.at (out-TPlace p)) (is_choice r.op r.at (out-TExpr e)) _ (place_here (out-TPlace p) r f) (m s.place r s.stands) in
      let each = λ (i : ℕ) (q : Red) (s : slice_get reds i ≡ Some q).
      weaker (is_place q.op q.at (out-TPlace p)) (is_choice q.op q.at (out-TExpr e)) (mentions_at q.at p) (mentions q.at e) (m i q s) in
      ap (λ b. b || ((obeys_at B p).0 && obeys B e))
      (chooses_here r e (λ q. is_place q.op q.at (out-TPlace p)) t (both_right (obeys_at in_range p).0 (obeys in_range e) o) each)

  pub update_at : (by : BinOp) (p : TPlace) (e : TExpr) → ((obeys_at in_range p).0 && obeys in_range e) ≡ true
      → EachRed reds (Placed p e (λ r. is_update r.op r.at by e)) → (x : Option Red) → red_of_place reds (out-TPlace p) ≡ x
      → (updates reds called x by e || ((obeys_at B p).0 && obeys B e)) ≡ true
  update_at by p e o m None f = stored p e (λ r. is_update r.op r.at by e) false o f m
  update_at by p e o m (Some r) f =
      let s = standing (out-TPlace p) r f in
      let t = in_it (is_place r.op r.at (out-TPlace p)) (is_update r.op r.at by e) _ (place_here (out-TPlace p) r f) (m s.place r s.stands) in
      let none = λ (i : ℕ) (q : Red) (s : slice_get reds i ≡ Some q).
      either_way (is_place q.op q.at (out-TPlace p)) (updates_by q.op by) (mentions q.at e)
      (weaker (is_place q.op q.at (out-TPlace p)) (is_update q.op q.at by e) (mentions_at q.at p) (mentions q.at e) (m i q s)) in
      ap (λ b. b || ((obeys_at B p).0 && obeys B e))
      (updates_here r by e t (both_right (obeys_at in_range p).0 (obeys in_range e) o) none)

  -- ---- expressions of a statement

  pub exprs_of : (es : List TExpr) → all_obey in_range es ≡ true → EachRed reds (λ r. list_any (mentions r.at) es ≡ false) → all_obey B es ≡ true
  exprs_of [] o m = refl
  exprs_of (e ∷ es) o m =
      both (obeys B e) (all_obey B es)
      (expr_of e (both_left (obeys in_range e) (all_obey in_range es) o) (λ i r s. or_left (mentions r.at e) (list_any (mentions r.at) es) (m i r s)))
      (exprs_of es (both_right (obeys in_range e) (all_obey in_range es) o) (λ i r s. or_right (mentions r.at e) (list_any (mentions r.at) es) (m i r s)))

  pub any_of : (e : Option TExpr) → any_obeys in_range e ≡ true → EachRed reds (λ r. any_mentions r.at e ≡ false) → any_obeys B e ≡ true
  any_of (Some e) o m = expr_of e o m
  any_of None o m = refl

  -- the start of an annotated loop sets no reduction variable and mentions none
  start_in_of : (line : ℕ) (y : TKind-F TKind TStmt) → start_obeys in_range (start_in line y) ≡ true
      → EachRed reds (λ r. starts_other r.op r.at (start_in line y) ≡ true)
      → EachRed reds (λ r. kind_only_updates r.op r.at (only_layer r.op r.at y) ≡ true) → start_obeys B (start_in line y) ≡ true
  start_in_of line (TKind-F.SetLocal k e) o h m =
      let apart = λ (i : ℕ) (r : Red) (s : slice_get reds i ≡ Some r). not_true (is_local r.at k) (h i r s) in
      both (B.local k) (obeys B e) (local_of k apart)
      (expr_of e o (λ i r s. other (is_local r.at k) _ (mentions r.at e) (apart i r s) (m i r s)))
  start_in_of line TKind-F.Empty o h m = refl
  start_in_of line (TKind-F.Store p e) o h m = refl
  start_in_of line (TKind-F.UpdateLocal op k e) o h m = refl
  start_in_of line (TKind-F.UpdateAt op p e) o h m = refl
  start_in_of line (TKind-F.Call e) o h m = refl
  start_in_of line (TKind-F.Print format es) o h m = refl
  start_in_of line (TKind-F.If e a b) o h m = refl
  start_in_of line (TKind-F.While e a) o h m = refl
  start_in_of line (TKind-F.For first test third body loop) o h m = refl
  start_in_of line (TKind-F.Block ss) o h m = refl
  start_in_of line (TKind-F.Return e) o h m = refl
  start_in_of line TKind-F.Break o h m = refl
  start_in_of line TKind-F.Continue o h m = refl

  pub start_of_obeys : (s : TStmt) → start_obeys in_range (start_of (Some s)) ≡ true → EachRed reds (λ r. starts_other r.op r.at (start_of (Some s)) ≡ true)
      → EachRed reds (λ r. only_updates r.op r.at s ≡ true) → start_obeys B (start_of (Some s)) ≡ true
  start_of_obeys d o h m =
      start_in_of (out-TStmt d).line (out-TKind (out-TStmt d).kind) o h (λ i r s. sym (only_out r.op r.at d) ∙ m i r s)
