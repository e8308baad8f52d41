-- What well-formed means of each node.
use Rattle.std.proofs.Common.{◌≡◌, ℕ, ◌+◌, max, Bool, true, false, ◌&&◌, ◌==◌, List, [], ◌∷◌, length, map, Option, Some, None, slice_get, ℤ, pos, int_eq, refl, sym, ap, ◌∙◌}
use Rattle.std.specs.List.{list_all}
use Rattle.al_source.specs.declared.operators.UnOp.{UnOp}
use Rattle.al_source.specs.declared.operators.BinOp.{BinOp}
use Rattle.al_source.specs.declared.operators.RedOp.{RedOp}
use Rattle.al_source.specs.declared.texts.Piece.{Piece}
use Rattle.al_core.specs.declared.values.Kind.{Kind}
use Rattle.al_core.specs.declared.values.Kind.TheVariants.{Int, Ptr}
use Rattle.al_core.specs.declared.typed_tree.TExpr.{TExpr, out-TExpr, map-TExpr, fold-TExpr, fold-roll-TExpr}
use Rattle.al_core.specs.declared.typed_tree.TPlace.{TPlace, map-TPlace, fold-TPlace, fold-roll-TPlace}
use Rattle.al_core.specs.declared.typed_tree.TExpr.TheViews.{roll-TExpr, roll-TPlace}
use Rattle.al_core.specs.declared.typed_tree.TExpr.TheOpen.{TExpr-F, TPlace-F}
use Rattle.al_core.specs.declared.typed_tree.TExpr.TheVariants as e
use Rattle.al_core.specs.declared.typed_tree.TPlace.TheVariants as p
use Rattle.al_core.specs.declared.typed_tree.TStmt.{TStmt, roll-TStmt, out-roll-TStmt, fold-roll-TStmt, para-roll-TStmt}
use Rattle.al_core.specs.declared.typed_tree.TKind.{TKind, out-TKind, map-TKind, fold-TKind, fold-roll-TKind, para-TKind, para-roll-TKind}
use Rattle.al_core.specs.declared.typed_tree.TKind.TheViews.{roll-TKind}
use Rattle.al_core.specs.declared.typed_tree.TKind.TheOpen.{TStmt-F, TKind-F}
use Rattle.al_core.specs.declared.typed_tree.TKind.TheVariants as k
use Rattle.al_core.specs.declared.typed_tree.TLocal.{TLocal}
use Rattle.al_core.specs.declared.typed_tree.Typed.{Typed}
use Rattle.al_rules.specs.Statements.{numbers_in}
use Rattle.al_rules.specs.WellFormed.{FitsKind, PlaceKind, is_one, is_int_local, local_kind, is_some_kind, may_want, fits_either, fits_want, fit_params, gives, global_kind, operand_fits, expr_fits, place_kind_case, fits, place_kind, call_formed, sets_formed, test_formed, return_formed, simple_kind, is_simple, FormedStmt, FormedKind, all_formed, kind_formed, formed, formed_in, Counted, none_counted, both_counted, if_counted, all_counted, for_counted, kind_counted, counted, counted_in, counted_all}

module _ (typed : Typed) (results : List (Option Kind)) (locals : List TLocal) where
  of_fits : (x : TExpr-F TExpr TPlace) (d : TExpr) → roll-TExpr x ≡ d
      → fits typed results locals d
      ≡ expr_fits typed results locals (map-TExpr TExpr TPlace FitsKind PlaceKind (fits typed results locals) (place_kind typed results locals) x)
  unfolding fits place_kind
  of_fits x d is = ap (λ d. fold-TExpr FitsKind PlaceKind (expr_fits typed results locals) (place_kind_case typed results locals) d) (sym is)
      ∙ fold-roll-TExpr FitsKind PlaceKind (expr_fits typed results locals) (place_kind_case typed results locals) x

  of_place : (x : TPlace-F TExpr TPlace) (d : TPlace) → roll-TPlace x ≡ d
      → place_kind typed results locals d
      ≡ place_kind_case typed results locals (map-TPlace TExpr TPlace FitsKind PlaceKind (fits typed results locals) (place_kind typed results locals) x)
  unfolding fits place_kind
  of_place x d is = ap (λ d. fold-TPlace FitsKind PlaceKind (expr_fits typed results locals) (place_kind_case typed results locals) d) (sym is)
      ∙ fold-roll-TPlace FitsKind PlaceKind (expr_fits typed results locals) (place_kind_case typed results locals) x

  pub fits-Number : (n : ℤ) → fits typed results locals (e.Number n) Int ≡ true
  fits-Number n = ap (λ (f : FitsKind). f Int) (of_fits (TExpr-F.Number n) _ (e.rolls-Number n))

  pub fits-Null : (n : ℤ) → fits typed results locals (e.Number n) Ptr ≡ int_eq n (pos 0)
  fits-Null n = ap (λ (f : FitsKind). f Ptr) (of_fits (TExpr-F.Number n) _ (e.rolls-Number n))

  pub fits-Local : (n : ℕ) (want : Kind) → fits typed results locals (e.Local n) want ≡ is_some_kind (local_kind (slice_get locals n)) want
  fits-Local n want = ap (λ (f : FitsKind). f want) (of_fits (TExpr-F.Local n) _ (e.rolls-Local n))

  pub fits-Load : (k : Kind) (p : TPlace) (want : Kind)
      → fits typed results locals (e.Load k p) want
      ≡ (is_one k want && (place_kind typed results locals p).formed && may_want (place_kind typed results locals p).wants k)
  fits-Load k p want = ap (λ (f : FitsKind). f want) (of_fits (TExpr-F.Load k p) _ (e.rolls-Load k p))

  pub fits-Addr : (p : TPlace) (want : Kind) → fits typed results locals (e.Addr p) want ≡ (is_one Ptr want && (place_kind typed results locals p).formed)
  fits-Addr p want = ap (λ (f : FitsKind). f want) (of_fits (TExpr-F.Addr p) _ (e.rolls-Addr p))

  pub fits-Unary : (op : UnOp) (x : TExpr) (want : Kind)
      → fits typed results locals (e.Unary op x) want ≡ (is_one Int want && operand_fits op (fits typed results locals x))
  fits-Unary op x want = ap (λ (f : FitsKind). f want) (of_fits (TExpr-F.Unary op x) _ (e.rolls-Unary op x))

  pub fits-Binary : (op : BinOp) (x : TExpr) (y : TExpr) (want : Kind)
      → fits typed results locals (e.Binary op x y) want ≡ (is_one Int want && fits typed results locals x Int && fits typed results locals y Int)
  fits-Binary op x y want = ap (λ (f : FitsKind). f want) (of_fits (TExpr-F.Binary op x y) _ (e.rolls-Binary op x y))

  pub fits-Same : (equal : Bool) (x : TExpr) (y : TExpr) (want : Kind)
      → fits typed results locals (e.Same equal x y) want ≡ (is_one Int want && fits typed results locals x Ptr && fits typed results locals y Ptr)
  fits-Same equal x y want = ap (λ (f : FitsKind). f want) (of_fits (TExpr-F.Same equal x y) _ (e.rolls-Same equal x y))

  pub fits-And : (x : TExpr) (y : TExpr) (want : Kind)
      → fits typed results locals (e.And x y) want ≡ (is_one Int want && fits_either (fits typed results locals x) && fits_either (fits typed results locals y))
  fits-And x y want = ap (λ (f : FitsKind). f want) (of_fits (TExpr-F.And x y) _ (e.rolls-And x y))

  pub fits-Or : (x : TExpr) (y : TExpr) (want : Kind)
      → fits typed results locals (e.Or x y) want ≡ (is_one Int want && fits_either (fits typed results locals x) && fits_either (fits typed results locals y))
  fits-Or x y want = ap (λ (f : FitsKind). f want) (of_fits (TExpr-F.Or x y) _ (e.rolls-Or x y))

  pub fits-Call : (f : ℕ) (xs : List TExpr) (want : Kind)
      → fits typed results locals (e.Call f xs) want
      ≡ (gives (slice_get results f) want && fit_params (map (fits typed results locals) xs) (slice_get typed.funcs f))
  fits-Call f xs want = ap (λ (f : FitsKind). f want) (of_fits (TExpr-F.Call f xs) _ (e.rolls-Call f xs))

  pub fits-Input : (x : TExpr) (want : Kind) → fits typed results locals (e.Input x) want ≡ (is_one Int want && fits typed results locals x Int)
  fits-Input x want = ap (λ (f : FitsKind). f want) (of_fits (TExpr-F.Input x) _ (e.rolls-Input x))

  pub fits-Inputs : (want : Kind) → fits typed results locals e.Inputs want ≡ is_one Int want
  fits-Inputs want = ap (λ (f : FitsKind). f want) (of_fits TExpr-F.Inputs _ e.rolls-Inputs)

  pub fits-Choose : (op : RedOp) (x : TExpr) (y : TExpr) (want : Kind)
      → fits typed results locals (e.Choose op x y) want ≡ (is_one Int want && fits typed results locals x Int && fits typed results locals y Int)
  fits-Choose op x y want = ap (λ (f : FitsKind). f want) (of_fits (TExpr-F.Choose op x y) _ (e.rolls-Choose op x y))

  pub fits-Calloc : (x : TExpr) (size : ℕ) (want : Kind)
      → fits typed results locals (e.Calloc x size) want ≡ (is_one Ptr want && fits typed results locals x Int)
  fits-Calloc x size want = ap (λ (f : FitsKind). f want) (of_fits (TExpr-F.Calloc x size) _ (e.rolls-Calloc x size))

  pub fits-Free : (x : TExpr) (want : Kind) → fits typed results locals (e.Free x) want ≡ false
  fits-Free x want = ap (λ (f : FitsKind). f want) (of_fits (TExpr-F.Free x) _ (e.rolls-Free x))

  pub place-Global : (n : ℕ) → place_kind typed results locals (p.Global n) ≡ global_kind (slice_get typed.globals n)
  place-Global n = of_place (TPlace-F.Global n) _ (p.rolls-Global n)

  pub place-At : (x : TExpr) → place_kind typed results locals (p.At x) ≡ record { formed = fits typed results locals x Ptr; wants = None }
  place-At x = of_place (TPlace-F.At x) _ (p.rolls-At x)

  pub place-Plus : (q : TPlace) (n : ℕ)
      → place_kind typed results locals (p.Plus q n) ≡ record { formed = (place_kind typed results locals q).formed; wants = None }
  place-Plus q n = of_place (TPlace-F.Plus q n) _ (p.rolls-Plus q n)

  pub place-Elem : (q : TPlace) (x : TExpr) (n : ℕ)
      → place_kind typed results locals (p.Elem q x n)
      ≡ record { formed = (place_kind typed results locals q).formed && fits typed results locals x Int; wants = None }
  place-Elem q x n = of_place (TPlace-F.Elem q x n) _ (p.rolls-Elem q x n)

module _ (typed : Typed) (results : List (Option Kind)) (locals : List TLocal) (result : Option Kind) where
  abbrev pub formed_any : Option TStmt → Bool → Bool
  formed_any (Some s) looped = formed typed results locals result s looped
  formed_any None looped = true

  abbrev pub simple_any : Option TStmt → Bool → Bool
  simple_any (Some s) looped = is_simple s && formed typed results locals result s looped
  simple_any None looped = true

  of_formed : (x : TKind-F TKind TStmt) (d : TKind) → roll-TKind x ≡ d
      → formed_in typed results locals result d
      ≡ kind_formed typed results locals result
      (map-TKind TKind TStmt FormedKind FormedStmt (λ d. (d, formed_in typed results locals result d)) (λ s. (s, formed typed results locals result s)) x)
  unfolding formed formed_in
  of_formed x d is = ap (λ d. para-TKind (Bool → Bool) (Bool → Bool) (kind_formed typed results locals result) (λ s. s.kind.1) d) (sym is)
      ∙ para-roll-TKind (Bool → Bool) (Bool → Bool) (kind_formed typed results locals result) (λ s. s.kind.1) x

  pub formed-stmt : (line : ℕ) (d : TKind)
      → formed typed results locals result (roll-TStmt (record { line = line; kind = d })) ≡ formed_in typed results locals result d
  unfolding formed formed_in
  formed-stmt line d = para-roll-TStmt (Bool → Bool) (Bool → Bool) (kind_formed typed results locals result) (λ s. s.kind.1) (record { line = line; kind = d })

  pub formed-Empty : (looped : Bool) → formed_in typed results locals result k.Empty looped ≡ true
  formed-Empty looped = ap (λ (f : Bool → Bool). f looped) (of_formed TKind-F.Empty _ k.rolls-Empty)

  pub formed-SetLocal : (n : ℕ) (x : TExpr) (looped : Bool)
      → formed_in typed results locals result (k.SetLocal n x) looped ≡ sets_formed typed results locals (local_kind (slice_get locals n)) x
  formed-SetLocal n x looped = ap (λ (f : Bool → Bool). f looped) (of_formed (TKind-F.SetLocal n x) _ (k.rolls-SetLocal n x))

  pub formed-Store : (q : TPlace) (x : TExpr) (looped : Bool)
      → formed_in typed results locals result (k.Store q x) looped
      ≡ ((place_kind typed results locals q).formed && fits_want (place_kind typed results locals q).wants (fits typed results locals x))
  formed-Store q x looped = ap (λ (f : Bool → Bool). f looped) (of_formed (TKind-F.Store q x) _ (k.rolls-Store q x))

  pub formed-UpdateLocal : (op : BinOp) (n : ℕ) (x : TExpr) (looped : Bool)
      → formed_in typed results locals result (k.UpdateLocal op n x) looped ≡ (is_int_local locals n && fits typed results locals x Int)
  formed-UpdateLocal op n x looped = ap (λ (f : Bool → Bool). f looped) (of_formed (TKind-F.UpdateLocal op n x) _ (k.rolls-UpdateLocal op n x))

  pub formed-UpdateAt : (op : BinOp) (q : TPlace) (x : TExpr) (looped : Bool)
      → formed_in typed results locals result (k.UpdateAt op q x) looped
      ≡ ((place_kind typed results locals q).formed && may_want (place_kind typed results locals q).wants Int && fits typed results locals x Int)
  formed-UpdateAt op q x looped = ap (λ (f : Bool → Bool). f looped) (of_formed (TKind-F.UpdateAt op q x) _ (k.rolls-UpdateAt op q x))

  pub formed-Call : (x : TExpr) (looped : Bool) → formed_in typed results locals result (k.Call x) looped ≡ call_formed typed results locals (out-TExpr x) x
  formed-Call x looped = ap (λ (f : Bool → Bool). f looped) (of_formed (TKind-F.Call x) _ (k.rolls-Call x))

  pub formed-Print : (f : List Piece) (xs : List TExpr) (looped : Bool)
      → formed_in typed results locals result (k.Print f xs) looped ≡ ((length xs == numbers_in f) && list_all (λ x. fits typed results locals x Int) xs)
  formed-Print f xs looped = ap (λ (f : Bool → Bool). f looped) (of_formed (TKind-F.Print f xs) _ (k.rolls-Print f xs))

  pub formed-If : (x : TExpr) (s : TStmt) (t : Option TStmt) (looped : Bool)
      → formed_in typed results locals result (k.If x s t) looped
      ≡ (fits_either (fits typed results locals x) && formed typed results locals result s looped && formed_any t looped)
  formed-If x s (Some t) looped = ap (λ (f : Bool → Bool). f looped) (of_formed (TKind-F.If x s (Some t)) _ (k.rolls-If x s (Some t)))
  formed-If x s None looped = ap (λ (f : Bool → Bool). f looped) (of_formed (TKind-F.If x s None) _ (k.rolls-If x s None))

  pub formed-While : (x : TExpr) (s : TStmt) (looped : Bool)
      → formed_in typed results locals result (k.While x s) looped ≡ (fits_either (fits typed results locals x) && formed typed results locals result s true)
  formed-While x s looped = ap (λ (f : Bool → Bool). f looped) (of_formed (TKind-F.While x s) _ (k.rolls-While x s))

  pub formed-For : (first : Option TStmt) (test : Option TExpr) (third : Option TStmt) (body : TStmt) (number : Option ℕ) (looped : Bool)
      → formed_in typed results locals result (k.For first test third body number) looped
      ≡ (simple_any first looped && test_formed typed results locals test && simple_any third looped && formed typed results locals result body true)
  formed-For (Some first) test (Some third) body number looped =
      ap (λ (f : Bool
      → Bool). f looped) (of_formed (TKind-F.For (Some first) test (Some third) body number) _ (k.rolls-For (Some first) test (Some third) body number))
  formed-For (Some first) test None body number looped =
      ap (λ (f : Bool → Bool). f looped) (of_formed (TKind-F.For (Some first) test None body number) _ (k.rolls-For (Some first) test None body number))
  formed-For None test (Some third) body number looped =
      ap (λ (f : Bool → Bool). f looped) (of_formed (TKind-F.For None test (Some third) body number) _ (k.rolls-For None test (Some third) body number))
  formed-For None test None body number looped =
      ap (λ (f : Bool → Bool). f looped) (of_formed (TKind-F.For None test None body number) _ (k.rolls-For None test None body number))

  pub formed-Return : (x : Option TExpr) (looped : Bool)
      → formed_in typed results locals result (k.Return x) looped ≡ return_formed typed results locals result x
  formed-Return x looped = ap (λ (f : Bool → Bool). f looped) (of_formed (TKind-F.Return x) _ (k.rolls-Return x))

  pub formed-Break : (looped : Bool) → formed_in typed results locals result k.Break looped ≡ looped
  formed-Break looped = ap (λ (f : Bool → Bool). f looped) (of_formed TKind-F.Break _ k.rolls-Break)

  pub formed-Continue : (looped : Bool) → formed_in typed results locals result k.Continue looped ≡ looped
  formed-Continue looped = ap (λ (f : Bool → Bool). f looped) (of_formed TKind-F.Continue _ k.rolls-Continue)

  each_formed : (ss : List TStmt) (looped : Bool)
      → all_formed typed results locals (map (λ s. (s, formed typed results locals result s)) ss) looped
      ≡ list_all (λ s. formed typed results locals result s looped) ss
  each_formed [] looped = refl
  each_formed (s ∷ ss) looped = ap (λ b. formed typed results locals result s looped && b) (each_formed ss looped)

  pub formed-Block : (ss : List TStmt) (looped : Bool)
      → formed_in typed results locals result (k.Block ss) looped ≡ list_all (λ s. formed typed results locals result s looped) ss
  formed-Block ss looped = ap (λ (f : Bool → Bool). f looped) (of_formed (TKind-F.Block ss) _ (k.rolls-Block ss)) ∙ each_formed ss looped

pub simple-stmt : (line : ℕ) (d : TKind) → is_simple (roll-TStmt (record { line = line; kind = d })) ≡ simple_kind (out-TKind d)
unfolding is_simple
simple-stmt line d = ap (λ (s : TStmt-F TKind TStmt). simple_kind (out-TKind s.kind)) (out-roll-TStmt (record { line = line; kind = d }))

module _ (func : ℕ) where
  abbrev pub counted_any : Option TStmt → Option Counted
  counted_any (Some s) = Some (counted func s)
  counted_any None = None

  of_counted : (x : TKind-F TKind TStmt) (d : TKind) → roll-TKind x ≡ d
      → counted_in func d ≡ kind_counted func (map-TKind TKind TStmt (ℕ → Counted) Counted (counted_in func) (counted func) x)
  unfolding counted counted_in
  of_counted x d is = ap (λ d. fold-TKind (ℕ → Counted) Counted (kind_counted func) (λ s. s.kind s.line) d) (sym is)
      ∙ fold-roll-TKind (ℕ → Counted) Counted (kind_counted func) (λ s. s.kind s.line) x

  pub counted-stmt : (line : ℕ) (d : TKind) → counted func (roll-TStmt (record { line = line; kind = d })) ≡ counted_in func d line
  unfolding counted counted_in
  counted-stmt line d = fold-roll-TStmt (ℕ → Counted) Counted (kind_counted func) (λ s. s.kind s.line) (record { line = line; kind = d })

  pub counted-Empty : (line : ℕ) → counted_in func k.Empty line ≡ none_counted
  counted-Empty line = ap (λ (f : ℕ → Counted). f line) (of_counted TKind-F.Empty _ k.rolls-Empty)

  pub counted-SetLocal : (n : ℕ) (x : TExpr) (line : ℕ) → counted_in func (k.SetLocal n x) line ≡ record { after = λ j. max j (n + 1); loops = λ j. [] }
  counted-SetLocal n x line = ap (λ (f : ℕ → Counted). f line) (of_counted (TKind-F.SetLocal n x) _ (k.rolls-SetLocal n x))

  pub counted-Store : (q : TPlace) (x : TExpr) (line : ℕ) → counted_in func (k.Store q x) line ≡ none_counted
  counted-Store q x line = ap (λ (f : ℕ → Counted). f line) (of_counted (TKind-F.Store q x) _ (k.rolls-Store q x))

  pub counted-UpdateLocal : (op : BinOp) (n : ℕ) (x : TExpr) (line : ℕ) → counted_in func (k.UpdateLocal op n x) line ≡ none_counted
  counted-UpdateLocal op n x line = ap (λ (f : ℕ → Counted). f line) (of_counted (TKind-F.UpdateLocal op n x) _ (k.rolls-UpdateLocal op n x))

  pub counted-UpdateAt : (op : BinOp) (q : TPlace) (x : TExpr) (line : ℕ) → counted_in func (k.UpdateAt op q x) line ≡ none_counted
  counted-UpdateAt op q x line = ap (λ (f : ℕ → Counted). f line) (of_counted (TKind-F.UpdateAt op q x) _ (k.rolls-UpdateAt op q x))

  pub counted-Call : (x : TExpr) (line : ℕ) → counted_in func (k.Call x) line ≡ none_counted
  counted-Call x line = ap (λ (f : ℕ → Counted). f line) (of_counted (TKind-F.Call x) _ (k.rolls-Call x))

  pub counted-Print : (f : List Piece) (xs : List TExpr) (line : ℕ) → counted_in func (k.Print f xs) line ≡ none_counted
  counted-Print f xs line = ap (λ (f : ℕ → Counted). f line) (of_counted (TKind-F.Print f xs) _ (k.rolls-Print f xs))

  pub counted-If : (x : TExpr) (s : TStmt) (t : Option TStmt) (line : ℕ)
      → counted_in func (k.If x s t) line ≡ both_counted (counted func s) (if_counted (counted_any t))
  counted-If x s (Some t) line = ap (λ (f : ℕ → Counted). f line) (of_counted (TKind-F.If x s (Some t)) _ (k.rolls-If x s (Some t)))
  counted-If x s None line = ap (λ (f : ℕ → Counted). f line) (of_counted (TKind-F.If x s None) _ (k.rolls-If x s None))

  pub counted-While : (x : TExpr) (s : TStmt) (line : ℕ) → counted_in func (k.While x s) line ≡ counted func s
  counted-While x s line = ap (λ (f : ℕ → Counted). f line) (of_counted (TKind-F.While x s) _ (k.rolls-While x s))

  pub counted-For : (first : Option TStmt) (test : Option TExpr) (third : Option TStmt) (body : TStmt) (number : Option ℕ) (line : ℕ)
      → counted_in func (k.For first test third body number) line
      ≡ for_counted func line number (both_counted (if_counted (counted_any first)) (if_counted (counted_any third))) (counted func body)
  counted-For (Some first) test (Some third) body number line =
      ap (λ (f : ℕ
      → Counted). f line) (of_counted (TKind-F.For (Some first) test (Some third) body number) _ (k.rolls-For (Some first) test (Some third) body number))
  counted-For (Some first) test None body number line =
      ap (λ (f : ℕ → Counted). f line) (of_counted (TKind-F.For (Some first) test None body number) _ (k.rolls-For (Some first) test None body number))
  counted-For None test (Some third) body number line =
      ap (λ (f : ℕ → Counted). f line) (of_counted (TKind-F.For None test (Some third) body number) _ (k.rolls-For None test (Some third) body number))
  counted-For None test None body number line =
      ap (λ (f : ℕ → Counted). f line) (of_counted (TKind-F.For None test None body number) _ (k.rolls-For None test None body number))

  pub counted-Return : (x : Option TExpr) (line : ℕ) → counted_in func (k.Return x) line ≡ none_counted
  counted-Return x line = ap (λ (f : ℕ → Counted). f line) (of_counted (TKind-F.Return x) _ (k.rolls-Return x))

  pub counted-Break : (line : ℕ) → counted_in func k.Break line ≡ none_counted
  counted-Break line = ap (λ (f : ℕ → Counted). f line) (of_counted TKind-F.Break _ k.rolls-Break)

  pub counted-Continue : (line : ℕ) → counted_in func k.Continue line ≡ none_counted
  counted-Continue line = ap (λ (f : ℕ → Counted). f line) (of_counted TKind-F.Continue _ k.rolls-Continue)

  each_counted : (ss : List TStmt) → all_counted (map (counted func) ss) ≡ counted_all func ss
  each_counted [] = refl
  each_counted (s ∷ ss) = ap (both_counted (counted func s)) (each_counted ss)

  pub counted-Block : (ss : List TStmt) (line : ℕ) → counted_in func (k.Block ss) line ≡ counted_all func ss
  counted-Block ss line = ap (λ (f : ℕ → Counted). f line) (of_counted (TKind-F.Block ss) _ (k.rolls-Block ss)) ∙ each_counted ss
