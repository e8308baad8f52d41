-- The rules of a loop's body: it mentions its reduction variables in updates alone, and the updates are exempt.
use Rattle.std.proofs.Common.{◌≡◌, ℕ, List, Option, Some, None, Bool, true, false, refl, sym, ap, ◌∙◌}
use Rattle.std.specs.Prelude.{◌&&◌, not, slice_get}
use Rattle.std.specs.List.{list_any}
use Rattle.std.proofs.Math.Bool.{true≢false}
use Rattle.std.proofs.lemmas.Bool.{eqb-true}
use Rattle.al_source.specs.declared.operators.BinOp.{BinOp}
use Rattle.al_source.specs.declared.operators.RedOp.{RedOp}
use Rattle.al_core.specs.declared.choices.Red.{Red}
use Rattle.al_core.specs.declared.values.Addr.{Addr}
use Rattle.al_core.specs.declared.values.Addr.TheVariants.{Word, Local}
use Rattle.al_core.specs.declared.values.Kind.{Kind}
use Rattle.al_core.specs.declared.values.Kind.TheVariants as kind
use Rattle.al_core.specs.declared.values.Obj.TheVariants.{Global}
use Rattle.al_core.specs.declared.typed_tree.TExpr.{TExpr, out-TExpr}
use Rattle.al_core.specs.declared.typed_tree.TPlace.{TPlace, out-TPlace}
use Rattle.al_core.specs.declared.typed_tree.TExpr.TheOpen.{TExpr-F, TPlace-F}
use Rattle.al_core.specs.Access.{red_index}
use Rattle.al_core.specs.Accepted.{is_global, is_place, is_variable, updates_by, chooses_by}
use Rattle.al_laws.proofs.Words.{same_some, some_none}
use Rattle.al_graded_laws.specs.Rules.{Rules, obeys}
use Rattle.al_graded_laws.specs.InRange.{has_64_bits}
use Rattle.al_graded_laws.proofs.Graded.{both_left, both_right}
use Rattle.al_reductions_laws.proofs.Variables.{is_red}
use Rattle.al_reductions_laws.proofs.Joined.{found_at}

abbrev pub red_in : List Red → Option ℕ → Option Red
red_in reds (Some i) = slice_get reds i
red_in reds None = None

-- the reduction of the variable at an address
abbrev pub red_of : List Red → Addr → Option Red
red_of reds a = red_in reds (red_index reds a)

-- the reduction of the global that a place is
abbrev pub red_of_place : List Red → TPlace-F TExpr TPlace → Option Red
red_of_place reds (TPlace-F.Global k) = red_of reds (Word (Global k) 0)
red_of_place reds (TPlace-F.At e) = None
red_of_place reds (TPlace-F.Plus p n) = None
red_of_place reds (TPlace-F.Elem p e n) = None

-- the global is a reduction variable
abbrev pub is_red_global : List Red → ℕ → Bool
is_red_global reds k = list_any (λ r. is_global r.at k) reds

module _ (reds : List Red) (called : ℕ → Type 0) where
  -- nothing is exempt
  abbrev pub base : Rules
  base = record {
    local = λ k. not (is_red reds (Local k));
    global = λ k. not (is_red_global reds k);
    taken = λ k. not (is_red_global reds k);
    literal = has_64_bits;
    called = called;
    set = λ k e. false;
    store = λ p e. false;
    update = λ op k e. false;
    update_at = λ op p e. false;
  }

  -- `s op= e`, where e mentions no reduction variable
  abbrev pub updates : Option Red → BinOp → TExpr → Bool
  updates (Some r) by e = updates_by r.op by && obeys base e
  updates None by e = false

  -- `min(s, e)` or `max(s, e)`, likewise
  abbrev pub chooses : Red → TExpr-F TExpr TPlace → Bool
  chooses r (TExpr-F.Choose by a b) = chooses_by r.op by && (is_variable r.op r.at (out-TExpr a) && obeys base b)
  chooses r _ = false

  abbrev pub chooses_if : Option Red → TExpr → Bool
  chooses_if (Some r) e = chooses r (out-TExpr e)
  chooses_if None e = false

  abbrev pub body_rules : Rules
  body_rules = record base {
    set = λ k e. chooses_if (red_of reds (Local k)) e;
    store = λ p e. chooses_if (red_of_place reds (out-TPlace p)) e;
    update = λ by k e. updates (red_of reds (Local k)) by e;
    update_at = λ by p e. updates (red_of_place reds (out-TPlace p)) by e;
  }

  pub base_obeys : (e : TExpr) → obeys base e ≡ obeys body_rules e
  unfolding obeys
  base_obeys e = refl

  -- ---- what the tests say

  pub record Found (a : Addr) (r : Red) : Type 0 where
    pub place : ℕ
    pub index : red_index reds a ≡ Some place
    pub op_is : (q : Red) → slice_get reds place ≡ Some q → q.op ≡ r.op
    pub at_is : r.at ≡ a

  pub found : (a : Addr) (x : Option ℕ) (r : Red) → red_index reds a ≡ x → red_in reds x ≡ Some r → Found a r
  found a (Some i) r e f =
      let q = found_at reds a i e in
      record {
        place = i;
        index = e;
        op_is = λ p g. ap (λ z. z.op) (same_some p r (sym g ∙ f));
        at_is = ap (λ z. z.at) (same_some r q.0 (sym f ∙ q.1)) ∙ q.2;
      }
  found a None r e f = absurd (some_none r (sym f))

  pub record IsUpdate (a : Addr) (by : BinOp) (e : TExpr) : Type 0 where
    pub red : Red
    pub at : Found a red
    pub by_it : updates_by red.op by ≡ true
    pub rest : obeys body_rules e ≡ true

  pub update_is : (a : Addr) (by : BinOp) (e : TExpr) (r : Option Red) → red_of reds a ≡ r → updates r by e ≡ true → IsUpdate a by e
  update_is a by e (Some r) f t = record {
    red = r;
    at = found a (red_index reds a) r refl f;
    by_it = both_left (updates_by r.op by) (obeys base e) t;
    rest = sym (base_obeys e) ∙ both_right (updates_by r.op by) (obeys base e) t;
  }
  update_is a by e None f t = absurd (true≢false (sym t))

  pub record IsChoice (r : Red) (y : TExpr-F TExpr TPlace) : Type 0 where
    pub by : RedOp
    pub first : TExpr
    pub second : TExpr
    pub is : y ≡ TExpr-F.Choose by first second
    pub by_it : chooses_by r.op by ≡ true
    pub variable : is_variable r.op r.at (out-TExpr first) ≡ true
    pub rest : obeys body_rules second ≡ true

  choice_is : (r : Red) (y : TExpr-F TExpr TPlace) → chooses r y ≡ true → IsChoice r y
  choice_is r (TExpr-F.Number n) t = absurd (true≢false (sym t))
  choice_is r (TExpr-F.Local j) t = absurd (true≢false (sym t))
  choice_is r (TExpr-F.Load want p) t = absurd (true≢false (sym t))
  choice_is r (TExpr-F.Addr p) t = absurd (true≢false (sym t))
  choice_is r (TExpr-F.Unary op a) t = absurd (true≢false (sym t))
  choice_is r (TExpr-F.Binary op a b) t = absurd (true≢false (sym t))
  choice_is r (TExpr-F.Same equal a b) t = absurd (true≢false (sym t))
  choice_is r (TExpr-F.And a b) t = absurd (true≢false (sym t))
  choice_is r (TExpr-F.Or a b) t = absurd (true≢false (sym t))
  choice_is r (TExpr-F.Call f es) t = absurd (true≢false (sym t))
  choice_is r (TExpr-F.Input a) t = absurd (true≢false (sym t))
  choice_is r TExpr-F.Inputs t = absurd (true≢false (sym t))
  choice_is r (TExpr-F.Choose by a b) t =
      let here = is_variable r.op r.at (out-TExpr a) in
      let more = both_right (chooses_by r.op by) (here && obeys base b) t in
      record {
        by = by;
        first = a;
        second = b;
        is = refl;
        by_it = both_left (chooses_by r.op by) (here && obeys base b) t;
        variable = both_left here (obeys base b) more;
        rest = sym (base_obeys b) ∙ both_right here (obeys base b) more;
      }
  choice_is r (TExpr-F.Calloc a size) t = absurd (true≢false (sym t))
  choice_is r (TExpr-F.Free a) t = absurd (true≢false (sym t))

  pub record IsChosen (a : Addr) (e : TExpr) : Type 0 where
    pub red : Red
    pub at : Found a red
    pub choice : IsChoice red (out-TExpr e)

  pub chosen_is : (a : Addr) (e : TExpr) (r : Option Red) → red_of reds a ≡ r → chooses_if r e ≡ true → IsChosen a e
  chosen_is a e (Some r) f t = record { red = r; at = found a (red_index reds a) r refl f; choice = choice_is r (out-TExpr e) t }
  chosen_is a e None f t = absurd (true≢false (sym t))

-- ---- the variable itself

pub local_is : (op : RedOp) (a : Addr) (k : ℕ) (y : TExpr-F TExpr TPlace) → a ≡ Local k → is_variable op a y ≡ true → y ≡ TExpr-F.Local k
local_is op a k (TExpr-F.Number n) e t = absurd (true≢false (sym t))
local_is op a k (TExpr-F.Local j) e t = ap (λ j. TExpr-F.Local j) (sym (eqb-true k j (ap (λ z. is_variable op z (TExpr-F.Local j)) (sym e) ∙ t)))
local_is op a k (TExpr-F.Load want p) e t =
    absurd (true≢false (sym t ∙ ap (λ z. is_variable op z (TExpr-F.Load want p)) e ∙ no_load op k want p))
  where
    no_place : (op : RedOp) (k : ℕ) (y : TPlace-F TExpr TPlace) → is_place op (Local k) y ≡ false
    no_place op k (TPlace-F.Global j) = refl
    no_place op k (TPlace-F.At x) = refl
    no_place op k (TPlace-F.Plus p n) = refl
    no_place op k (TPlace-F.Elem p x n) = refl

    no_load : (op : RedOp) (k : ℕ) (want : Kind) (p : TPlace) → is_variable op (Local k) (TExpr-F.Load want p) ≡ false
    no_load op k kind.Int p = no_place op k (out-TPlace p)
    no_load op k kind.Ptr p = refl
local_is op a k (TExpr-F.Addr p) e t = absurd (true≢false (sym t))
local_is op a k (TExpr-F.Unary by x) e t = absurd (true≢false (sym t))
local_is op a k (TExpr-F.Binary by x y) e t = absurd (true≢false (sym t))
local_is op a k (TExpr-F.Same equal x y) e t = absurd (true≢false (sym t))
local_is op a k (TExpr-F.And x y) e t = absurd (true≢false (sym t))
local_is op a k (TExpr-F.Or x y) e t = absurd (true≢false (sym t))
local_is op a k (TExpr-F.Call f es) e t = absurd (true≢false (sym t))
local_is op a k (TExpr-F.Input x) e t = absurd (true≢false (sym t))
local_is op a k TExpr-F.Inputs e t = absurd (true≢false (sym t))
local_is op a k (TExpr-F.Choose by x y) e t = absurd (true≢false (sym t))
local_is op a k (TExpr-F.Calloc x size) e t = absurd (true≢false (sym t))
local_is op a k (TExpr-F.Free x) e t = absurd (true≢false (sym t))

-- the expression reads the global as a number
abbrev pub ReadsGlobal : ℕ → TExpr-F TExpr TPlace → Type 0
ReadsGlobal k y = (p : TPlace) × (y ≡ TExpr-F.Load kind.Int p) × (out-TPlace p ≡ TPlace-F.Global k)

place_is : (op : RedOp) (k w : ℕ) (y : TPlace-F TExpr TPlace) → is_place op (Word (Global k) w) y ≡ true → y ≡ TPlace-F.Global k
place_is op k w (TPlace-F.Global j) t = ap (λ j. TPlace-F.Global j) (sym (eqb-true k j t))
place_is op k w (TPlace-F.At e) t = absurd (true≢false (sym t))
place_is op k w (TPlace-F.Plus p n) t = absurd (true≢false (sym t))
place_is op k w (TPlace-F.Elem p e n) t = absurd (true≢false (sym t))

pub global_is : (op : RedOp) (a : Addr) (k w : ℕ) (y : TExpr-F TExpr TPlace) → a ≡ Word (Global k) w → is_variable op a y ≡ true → ReadsGlobal k y
global_is op a k w (TExpr-F.Number n) e t = absurd (true≢false (sym t))
global_is op a k w (TExpr-F.Local j) e t = absurd (true≢false (sym t ∙ ap (λ z. is_variable op z (TExpr-F.Local j)) e))
global_is op a k w (TExpr-F.Load want p) e t = load_is op k w want p (ap (λ z. is_variable op z (TExpr-F.Load want p)) (sym e) ∙ t)
  where
    load_is : (op : RedOp) (k w : ℕ) (want : Kind) (p : TPlace) → is_variable op (Word (Global k) w) (TExpr-F.Load want p) ≡ true
        → ReadsGlobal k (TExpr-F.Load want p)
    load_is op k w kind.Int p t = (p, refl, place_is op k w (out-TPlace p) t)
    load_is op k w kind.Ptr p t = absurd (true≢false (sym t))
global_is op a k w (TExpr-F.Addr p) e t = absurd (true≢false (sym t))
global_is op a k w (TExpr-F.Unary by x) e t = absurd (true≢false (sym t))
global_is op a k w (TExpr-F.Binary by x y) e t = absurd (true≢false (sym t))
global_is op a k w (TExpr-F.Same equal x y) e t = absurd (true≢false (sym t))
global_is op a k w (TExpr-F.And x y) e t = absurd (true≢false (sym t))
global_is op a k w (TExpr-F.Or x y) e t = absurd (true≢false (sym t))
global_is op a k w (TExpr-F.Call f es) e t = absurd (true≢false (sym t))
global_is op a k w (TExpr-F.Input x) e t = absurd (true≢false (sym t))
global_is op a k w TExpr-F.Inputs e t = absurd (true≢false (sym t))
global_is op a k w (TExpr-F.Choose by x y) e t = absurd (true≢false (sym t))
global_is op a k w (TExpr-F.Calloc x size) e t = absurd (true≢false (sym t))
global_is op a k w (TExpr-F.Free x) e t = absurd (true≢false (sym t))

-- a place of which a reduction is found is that global
pub record IsRedPlace (reds : List Red) (y : TPlace-F TExpr TPlace) (r : Option Red) : Type 0 where
  pub global : ℕ
  pub is : y ≡ TPlace-F.Global global
  pub found : red_of reds (Word (Global global) 0) ≡ r

pub place_red : (reds : List Red) (y : TPlace-F TExpr TPlace) (r : Red) → red_of_place reds y ≡ Some r → IsRedPlace reds y (Some r)
place_red reds (TPlace-F.Global k) r e = record { global = k; is = refl; found = e }
place_red reds (TPlace-F.At x) r e = absurd (some_none r (sym e))
place_red reds (TPlace-F.Plus p n) r e = absurd (some_none r (sym e))
place_red reds (TPlace-F.Elem p x n) r e = absurd (some_none r (sym e))
