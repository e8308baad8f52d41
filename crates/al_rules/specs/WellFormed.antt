-- Which typed trees are well formed: each number is in range, and each value of the kind that is wanted where it
-- stands.
use Rattle.std.specs.Prelude.{◌≡◌, ℕ, ◌+◌, ◌≤◌, max, Bool, true, false, ◌&&◌, ◌||◌, ◌==◌, List, [], ◌∷◌, ◌++◌, map, length, take, Option, Some, None, slice_get, pos}
use Rattle.std.specs.List.{list_all}
use Rattle.std.specs.Ordering.{int_eq}
use Rattle.al_source.specs.declared.operators.UnOp.{UnOp}
use Rattle.al_source.specs.declared.operators.UnOp.TheVariants.{Neg, BitNot, Not}
use Rattle.al_core.specs.declared.choices.Red.{Red}
use Rattle.al_core.specs.declared.values.Kind.{Kind}
use Rattle.al_core.specs.declared.values.Kind.TheVariants.{Int, Ptr}
use Rattle.al_core.specs.declared.values.Obj.{Obj}
use Rattle.al_core.specs.declared.values.Obj.TheVariants as obj
use Rattle.al_core.specs.declared.values.Addr.{Addr}
use Rattle.al_core.specs.declared.values.Addr.TheVariants as addr
use Rattle.al_core.specs.declared.typed_tree.TExpr.{TExpr, fold-TExpr, out-TExpr}
use Rattle.al_core.specs.declared.typed_tree.TPlace.{TPlace, fold-TPlace}
use Rattle.al_core.specs.declared.typed_tree.TExpr.TheOpen.{TExpr-F, TPlace-F}
use Rattle.al_core.specs.declared.typed_tree.TStmt.{TStmt, out-TStmt, fold-TStmt, para-TStmt}
use Rattle.al_core.specs.declared.typed_tree.TKind.{TKind, out-TKind, fold-TKind, para-TKind}
use Rattle.al_core.specs.declared.typed_tree.TKind.TheOpen.{TKind-F}
use Rattle.al_core.specs.declared.typed_tree.TLocal.{TLocal}
use Rattle.al_core.specs.declared.typed_tree.TGlobal.{TGlobal}
use Rattle.al_core.specs.declared.typed_tree.TFunc.{TFunc}
use Rattle.al_core.specs.declared.typed_tree.TNote.{TNote}
use Rattle.al_core.specs.declared.typed_tree.Typed.{Typed}
use Rattle.al_rules.specs.Names.{AllOf}
use Rattle.al_rules.specs.Statements.{numbers_in}

-- ---- kinds

abbrev pub is_one : Kind → Kind → Bool
is_one Int Int = true
is_one Ptr Ptr = true
is_one _ _ = false

abbrev pub local_kind : Option TLocal → Option Kind
local_kind (Some v) = Some v.kind
local_kind None = None

abbrev pub is_some_kind : Option Kind → Kind → Bool
is_some_kind (Some k) want = is_one k want
is_some_kind None want = false

abbrev pub is_int_local : List TLocal → ℕ → Bool
is_int_local locals n = is_some_kind (local_kind (slice_get locals n)) Int

-- an expression, by the kinds that it fits
abbrev pub FitsKind : Type 0
FitsKind = Kind → Bool

-- a place: whether it is well formed, and the kind of its word, where it is a global of one word
pub record PlaceKind : Type 0 where
  pub formed : Bool
  pub wants : Option Kind

abbrev pub may_want : Option Kind → Kind → Bool
may_want (Some k) want = is_one k want
may_want None want = true

-- an integer or a pointer
abbrev pub fits_either : FitsKind → Bool
fits_either x = x Int || x Ptr

-- what fits the kind that a place wants, or either kind where it says none
abbrev pub fits_want : Option Kind → FitsKind → Bool
fits_want (Some k) x = x k
fits_want None x = fits_either x

abbrev pub fit_all : List FitsKind → List Kind → Bool
fit_all [] [] = true
fit_all (x ∷ xs) (k ∷ ks) = x k && fit_all xs ks
fit_all _ _ = false

abbrev pub param_kinds : TFunc → List Kind
param_kinds f = map (λ v. v.kind) (take f.params f.locals)

abbrev pub fit_params : List FitsKind → Option TFunc → Bool
fit_params xs (Some f) = fit_all xs (param_kinds f)
fit_params xs None = false

abbrev pub gives : Option (Option Kind) → Kind → Bool
gives (Some k) want = is_some_kind k want
gives None want = false

abbrev pub global_kind : Option TGlobal → PlaceKind
global_kind (Some g) = record { formed = true; wants = g.scalar }
global_kind None = record { formed = false; wants = None }

abbrev pub operand_fits : UnOp → FitsKind → Bool
operand_fits Neg x = x Int
operand_fits BitNot x = x Int
operand_fits Not x = fits_either x

-- what the first and third part of a `for` may be
abbrev pub simple_kind : TKind-F TKind TStmt → Bool
simple_kind (TKind-F.SetLocal n x) = true
simple_kind (TKind-F.Store p x) = true
simple_kind (TKind-F.UpdateLocal op n x) = true
simple_kind (TKind-F.UpdateAt op p x) = true
simple_kind (TKind-F.Call x) = true
simple_kind (TKind-F.Print format xs) = true
simple_kind _ = false

unfoldable pub is_simple : TStmt → Bool
is_simple s = simple_kind (out-TKind (out-TStmt s).kind)

-- a statement, and whether it is well formed in a loop or in none
abbrev pub FormedStmt : Type 0
FormedStmt = TStmt × (Bool → Bool)

abbrev pub FormedKind : Type 0
FormedKind = TKind × (Bool → Bool)

-- in a program whose functions give these kinds, or none, and in a function with these locals
module _ (typed : Typed) (results : List (Option Kind)) (locals : List TLocal) where
  abbrev pub expr_fits : TExpr-F FitsKind PlaceKind → FitsKind
  expr_fits (TExpr-F.Number n) Int = true
  expr_fits (TExpr-F.Number n) Ptr = int_eq n (pos 0)
  expr_fits (TExpr-F.Local n) want = is_some_kind (local_kind (slice_get locals n)) want
  expr_fits (TExpr-F.Load k p) want = is_one k want && p.formed && may_want p.wants k
  expr_fits (TExpr-F.Addr p) want = is_one Ptr want && p.formed
  expr_fits (TExpr-F.Unary op x) want = is_one Int want && operand_fits op x
  expr_fits (TExpr-F.Binary op x y) want = is_one Int want && x Int && y Int
  expr_fits (TExpr-F.Same equal x y) want = is_one Int want && x Ptr && y Ptr
  expr_fits (TExpr-F.And x y) want = is_one Int want && fits_either x && fits_either y
  expr_fits (TExpr-F.Or x y) want = is_one Int want && fits_either x && fits_either y
  expr_fits (TExpr-F.Call f xs) want = gives (slice_get results f) want && fit_params xs (slice_get typed.funcs f)
  expr_fits (TExpr-F.Input x) want = is_one Int want && x Int
  expr_fits TExpr-F.Inputs want = is_one Int want
  expr_fits (TExpr-F.Choose op x y) want = is_one Int want && x Int && y Int
  expr_fits (TExpr-F.Calloc x size) want = is_one Ptr want && x Int
  expr_fits (TExpr-F.Free x) want = false

  abbrev pub place_kind_case : TPlace-F FitsKind PlaceKind → PlaceKind
  place_kind_case (TPlace-F.Global n) = global_kind (slice_get typed.globals n)
  place_kind_case (TPlace-F.At x) = record { formed = x Ptr; wants = None }
  place_kind_case (TPlace-F.Plus p n) = record { formed = p.formed; wants = None }
  place_kind_case (TPlace-F.Elem p x n) = record { formed = p.formed && x Int; wants = None }

  unfoldable pub fits : TExpr → FitsKind
  fits = fold-TExpr FitsKind PlaceKind expr_fits place_kind_case

  unfoldable pub place_kind : TPlace → PlaceKind
  place_kind = fold-TPlace FitsKind PlaceKind expr_fits place_kind_case

  abbrev pub fit_each : List TExpr → List FitsKind
  fit_each xs = map fits xs

  -- ---- statements

  -- a call that is a statement may give no value, and nothing but such a call frees an object
  abbrev pub call_formed : TExpr-F TExpr TPlace → TExpr → Bool
  call_formed (TExpr-F.Call f xs) x = fit_params (fit_each xs) (slice_get typed.funcs f)
  call_formed (TExpr-F.Free p) x = fits p Ptr
  call_formed _ x = fits_either (fits x)

  abbrev pub sets_formed : Option Kind → TExpr → Bool
  sets_formed (Some k) x = fits x k
  sets_formed None x = false

  abbrev pub test_formed : Option TExpr → Bool
  test_formed (Some x) = fits_either (fits x)
  test_formed None = true

  abbrev pub return_formed : Option Kind → Option TExpr → Bool
  return_formed (Some k) (Some x) = fits x k
  return_formed None None = true
  return_formed _ _ = false

  abbrev pub if_formed : Option FormedStmt → Bool → Bool
  if_formed (Some s) looped = s.1 looped
  if_formed None looped = true

  -- the first or third part of a `for`
  abbrev pub part_formed : Option FormedStmt → Bool → Bool
  part_formed (Some s) looped = is_simple s.0 && s.1 looped
  part_formed None looped = true

  abbrev pub all_formed : List FormedStmt → Bool → Bool
  all_formed [] looped = true
  all_formed (s ∷ ss) looped = s.1 looped && all_formed ss looped

  -- a statement of a function that gives this kind, or none; in a loop or in none
  abbrev pub kind_formed : Option Kind → TKind-F FormedKind FormedStmt → Bool → Bool
  kind_formed result TKind-F.Empty looped = true
  kind_formed result (TKind-F.SetLocal n x) looped = sets_formed (local_kind (slice_get locals n)) x
  kind_formed result (TKind-F.Store p x) looped = (place_kind p).formed && fits_want (place_kind p).wants (fits x)
  kind_formed result (TKind-F.UpdateLocal op n x) looped = is_int_local locals n && fits x Int
  kind_formed result (TKind-F.UpdateAt op p x) looped =
      (place_kind p).formed && may_want (place_kind p).wants Int && fits x Int
  kind_formed result (TKind-F.Call x) looped = call_formed (out-TExpr x) x
  kind_formed result (TKind-F.Print format xs) looped =
      (length xs == numbers_in format) && list_all (λ x. fits x Int) xs
  kind_formed result (TKind-F.If x s t) looped = fits_either (fits x) && s.1 looped && if_formed t looped
  kind_formed result (TKind-F.While x s) looped = fits_either (fits x) && s.1 true
  kind_formed result (TKind-F.For first test third body number) looped =
      part_formed first looped && test_formed test && part_formed third looped && body.1 true
  kind_formed result (TKind-F.Block ss) looped = all_formed ss looped
  kind_formed result (TKind-F.Return x) looped = return_formed result x
  kind_formed result TKind-F.Break looped = looped
  kind_formed result TKind-F.Continue looped = looped

  unfoldable pub formed : Option Kind → TStmt → Bool → Bool
  formed result = para-TStmt (Bool → Bool) (Bool → Bool) (kind_formed result) (λ s. s.kind.1)

  unfoldable pub formed_in : Option Kind → TKind → Bool → Bool
  formed_in result = para-TKind (Bool → Bool) (Bool → Bool) (kind_formed result) (λ s. s.kind.1)

  abbrev pub body_formed : Option Kind → List TStmt → Bool
  body_formed result ss = list_all (λ s. formed result s false) ss

-- ---- annotated loops

-- an annotated loop where it stands: its number, its function, its line, and the locals that its body declares
pub record Standing : Type 0 where
  pub number : ℕ
  pub func : ℕ
  pub line : ℕ
  pub first : ℕ
  pub last : ℕ

-- A statement, by how many locals are declared behind it, from how many before it, and by the annotated loops in it. A
-- declaration sets a local whose number is that of the locals so far.
pub record Counted : Type 0 where
  pub after : ℕ → ℕ
  pub loops : ℕ → List Standing

abbrev pub none_counted : Counted
none_counted = record { after = λ n. n; loops = λ n. [] }

abbrev pub both_counted : Counted → Counted → Counted
both_counted a b = record { after = λ n. b.after (a.after n); loops = λ n. a.loops n ++ b.loops (a.after n) }

abbrev pub if_counted : Option Counted → Counted
if_counted (Some a) = a
if_counted None = none_counted

abbrev pub all_counted : List Counted → Counted
all_counted [] = none_counted
all_counted (a ∷ as') = both_counted a (all_counted as')

abbrev pub standing : ℕ → ℕ → Option ℕ → ℕ → ℕ → List Standing
standing func line None first last = []
standing func line (Some number) first last =
    record { number = number; func = func; line = line; first = first; last = last } ∷ []

-- A loop comes before those within it.
abbrev pub for_counted : ℕ → ℕ → Option ℕ → Counted → Counted → Counted
for_counted func line number head body = record {
  after = λ n. body.after (head.after n);
  loops = λ n.
      standing func line number (head.after n) (body.after (head.after n)) ++ head.loops n ++ body.loops (head.after n);
}

abbrev pub kind_counted : ℕ → TKind-F (ℕ → Counted) Counted → ℕ → Counted
kind_counted func (TKind-F.SetLocal n x) line = record { after = λ k. max k (n + 1); loops = λ k. [] }
kind_counted func (TKind-F.If x s t) line = both_counted s (if_counted t)
kind_counted func (TKind-F.While x s) line = s
kind_counted func (TKind-F.For first test third body number) line =
    for_counted func line number (both_counted (if_counted first) (if_counted third)) body
kind_counted func (TKind-F.Block ss) line = all_counted ss
kind_counted func _ line = none_counted

unfoldable pub counted : ℕ → TStmt → Counted
counted func = fold-TStmt (ℕ → Counted) Counted (kind_counted func) (λ s. s.kind s.line)

unfoldable pub counted_in : ℕ → TKind → ℕ → Counted
counted_in func = fold-TKind (ℕ → Counted) Counted (kind_counted func) (λ s. s.kind s.line)

abbrev pub counted_all : ℕ → List TStmt → Counted
counted_all func [] = none_counted
counted_all func (s ∷ ss) = both_counted (counted func s) (counted_all func ss)

-- the annotated loops of a program, in source order, from a function's number on
abbrev pub loops_from : ℕ → List TFunc → List Standing
loops_from n [] = []
loops_from n (f ∷ fs) = (counted_all n f.body).loops f.params ++ loops_from (n + 1) fs

-- what the notes say of them
abbrev pub notes_from : ℕ → List TNote → List Standing
notes_from n [] = []
notes_from n (note ∷ notes) =
    record { number = n; func = note.func; line = note.line; first = note.first; last = note.last }
    ∷ notes_from (n + 1) notes

-- ---- the whole

abbrev pub is_int_global : Option TGlobal → Bool
is_int_global (Some g) = is_some_kind g.scalar Int
is_int_global None = false

-- a reduction variable is an integer local that was declared before the loop's body, or an integer global
abbrev pub IsNotedObject : Typed → Obj → ℕ → Type 0
IsNotedObject typed (obj.Global k) w = (is_int_global (slice_get typed.globals k) ≡ true) × (w ≡ 0)
IsNotedObject typed _ w = ⊥

pub record IsNotedLocal (typed : Typed) (note : TNote) (k : ℕ) : Type 0 where
  pub func : TFunc
  pub stands : slice_get typed.funcs note.func ≡ Some func
  pub integer : is_int_local func.locals k ≡ true
  pub outside : k + 1 ≤ note.first

abbrev pub IsNotedAt : Typed → TNote → Addr → Type 0
IsNotedAt typed note (addr.Local k) = IsNotedLocal typed note k
IsNotedAt typed note (addr.Word o w) = IsNotedObject typed o w
IsNotedAt typed note (addr.Head o) = ⊥

abbrev pub IsNoted : Typed → TNote → Red → Type 0
IsNoted typed note r = IsNotedAt typed note r.at

pub record IsFormedFunc (typed : Typed) (results : List (Option Kind)) (n : ℕ) (f : TFunc) : Type 0 where
  pub params : f.params ≤ length f.locals
  pub result : Option Kind
  pub gives : slice_get results n ≡ Some result
  pub body : body_formed typed results f.locals result f.body ≡ true
  pub locals : (counted_all n f.body).after f.params ≡ length f.locals

-- a global that is one integer or pointer has one word, and one that starts at a number other than 0 is an integer
pub record IsFormedGlobal (g : TGlobal) : Type 0 where
  pub words : (k : Kind) → g.scalar ≡ Some k → g.words ≡ 1
  pub starts : (g.start ≡ pos 0 → ⊥) → g.scalar ≡ Some Int

pub record IsWellFormed (typed : Typed) : Type 0 where
  -- what each function gives, or that it gives nothing
  pub results : List (Option Kind)
  pub as_many : length results ≡ length typed.funcs
  pub funcs : (n : ℕ) (f : TFunc) → slice_get typed.funcs n ≡ Some f → IsFormedFunc typed results n f
  pub globals : AllOf IsFormedGlobal typed.globals
  pub main : (f : TFunc) × (slice_get typed.funcs typed.main ≡ Some f) × (f.params ≡ 0)
      × (slice_get results typed.main ≡ Some (Some Int))
  -- each note says of its loop what holds where the loop stands
  pub loops : loops_from 0 typed.funcs ≡ notes_from 0 typed.loops
  pub reductions : AllOf (λ note. AllOf (IsNoted typed note) note.own.reds) typed.loops
