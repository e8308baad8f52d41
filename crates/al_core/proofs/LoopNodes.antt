-- The annotated loops at each kind of statement.
use Rattle.std.proofs.Common.{◌≡◌, ℕ, suc, ◌+◌, ◌<◌, List, [], ◌∷◌, ◌++◌, length, map, take, get_or, Option, Some, None, refl, sym, ap, ◌∙◌, append_assoc, arith}
use Rattle.std.proofs.lemmas.List.{append-nil}
use Rattle.std.proofs.Math.Seq.{take-suc}
use Rattle.std.specs.Prelude.{option_map}
use Rattle.std.specs.List.{flat_map}
use Rattle.al_source.specs.declared.operators.BinOp.{BinOp}
use Rattle.al_source.specs.declared.texts.Piece.{Piece}
use Rattle.al_core.specs.declared.typed_tree.TExpr.{TExpr}
use Rattle.al_core.specs.declared.typed_tree.TPlace.{TPlace}
use Rattle.al_core.specs.declared.typed_tree.TFunc.{TFunc}
use Rattle.al_core.specs.declared.typed_tree.TStmt.{TStmt, out-TStmt, roll-out-TStmt, para-TStmt, para-roll-TStmt}
use Rattle.al_core.specs.declared.typed_tree.TKind.{TKind, out-TKind, roll-out-TKind, map-TKind, para-TKind, para-roll-TKind}
use Rattle.al_core.specs.declared.typed_tree.TKind.TheViews.{roll-TKind}
use Rattle.al_core.specs.declared.typed_tree.TKind.TheVariants as k
use Rattle.al_core.specs.declared.typed_tree.TKind.TheOpen.{TKind-F}
use Rattle.al_core.specs.Loops.{ForLoop, Seen, SeenKind, all_loops, any_loops, this_loop, loops_here, for_loops, for_loops_in, placed, placed_loops}
use Rattle.al_core.specs.LoopsInPlace.{this_one, part_loops}

abbrev pub kind_loops : TKind → List ForLoop
kind_loops = para-TKind (List ForLoop) (List ForLoop) loops_here (λ s. s.kind.1)

abbrev pub stmt_loops : TStmt → List ForLoop
stmt_loops = para-TStmt (List ForLoop) (List ForLoop) loops_here (λ s. s.kind.1)

abbrev seen : TStmt → Seen
seen s = (s, stmt_loops s)

abbrev seen_kind : TKind → SeenKind
seen_kind d = (d, kind_loops d)

of_kind : (x : TKind-F TKind TStmt) (d : TKind) → roll-TKind x ≡ d → kind_loops d ≡ loops_here (map-TKind TKind TStmt SeenKind Seen seen_kind seen x)
of_kind x d is = ap kind_loops (sym is) ∙ para-roll-TKind (List ForLoop) (List ForLoop) loops_here (λ s. s.kind.1) x

-- ---- the parts

loops_part : (s : Option TStmt) → any_loops (option_map seen s) ≡ part_loops s
unfolding for_loops
loops_part None = refl
loops_part (Some s) = refl

this_is : (first : Option TStmt) (test : Option TExpr) (third : Option TStmt) (body : TStmt) (number : Option ℕ)
    → this_loop (option_map seen first) test (option_map seen third) (seen body) number ≡ this_one first test third body number
this_is first test third body None = refl
this_is None test None body (Some n) = refl
this_is None test (Some third) body (Some n) = refl
this_is (Some first) test None body (Some n) = refl
this_is (Some first) test (Some third) body (Some n) = refl

each_loops : (ss : List TStmt) → all_loops (map seen ss) ≡ flat_map for_loops ss
unfolding for_loops
each_loops [] = refl
each_loops (s ∷ ss) = ap (λ l. for_loops s ++ l) (each_loops ss)

-- ---- each kind of statement

pub loops-stmt : (s : TStmt)
    → stmt_loops s ≡ kind_loops s.kind
loops-stmt s = ap stmt_loops (sym (roll-out-TStmt s)) ∙ para-roll-TStmt (List ForLoop) (List ForLoop) loops_here (λ s. s.kind.1) (out-TStmt s)

pub loops-Empty : kind_loops k.Empty ≡ []
loops-Empty = of_kind TKind-F.Empty _ k.rolls-Empty

pub loops-SetLocal : (n : ℕ) (e : TExpr) → kind_loops (k.SetLocal n e) ≡ []
loops-SetLocal n e = of_kind (TKind-F.SetLocal n e) _ (k.rolls-SetLocal n e)

pub loops-Store : (p : TPlace) (e : TExpr) → kind_loops (k.Store p e) ≡ []
loops-Store p e = of_kind (TKind-F.Store p e) _ (k.rolls-Store p e)

pub loops-UpdateLocal : (op : BinOp) (n : ℕ) (e : TExpr) → kind_loops (k.UpdateLocal op n e) ≡ []
loops-UpdateLocal op n e = of_kind (TKind-F.UpdateLocal op n e) _ (k.rolls-UpdateLocal op n e)

pub loops-UpdateAt : (op : BinOp) (p : TPlace) (e : TExpr) → kind_loops (k.UpdateAt op p e) ≡ []
loops-UpdateAt op p e = of_kind (TKind-F.UpdateAt op p e) _ (k.rolls-UpdateAt op p e)

pub loops-Call : (e : TExpr) → kind_loops (k.Call e) ≡ []
loops-Call e = of_kind (TKind-F.Call e) _ (k.rolls-Call e)

pub loops-Print : (format : List Piece) (es : List TExpr) → kind_loops (k.Print format es) ≡ []
loops-Print format es = of_kind (TKind-F.Print format es) _ (k.rolls-Print format es)

pub loops-If : (e : TExpr) (a : TStmt) (b : Option TStmt)
    → kind_loops (k.If e a b) ≡ for_loops a ++ part_loops b
unfolding for_loops
loops-If e a None = of_kind (TKind-F.If e a None) _ (k.rolls-If e a None)
loops-If e a (Some b) = of_kind (TKind-F.If e a (Some b)) _ (k.rolls-If e a (Some b))

pub loops-While : (e : TExpr) (a : TStmt) → kind_loops (k.While e a) ≡ for_loops a
unfolding for_loops
loops-While e a = of_kind (TKind-F.While e a) _ (k.rolls-While e a)

loops_seen : (first : Option TStmt) (test : Option TExpr) (third : Option TStmt) (body : TStmt) (number : Option ℕ)
    → kind_loops (k.For first test third body number)
    ≡ this_loop (option_map seen first) test (option_map seen third) (seen body) number
    ++ any_loops (option_map seen first) ++ any_loops (option_map seen third) ++ stmt_loops body
loops_seen None test None body number = of_kind (TKind-F.For None test None body number) _ (k.rolls-For None test None body number)
loops_seen None test (Some third) body number = of_kind (TKind-F.For None test (Some third) body number) _ (k.rolls-For None test (Some third) body number)
loops_seen (Some first) test None body number = of_kind (TKind-F.For (Some first) test None body number) _ (k.rolls-For (Some first) test None body number)
loops_seen (Some first) test (Some third) body number =
    of_kind (TKind-F.For (Some first) test (Some third) body number) _ (k.rolls-For (Some first) test (Some third) body number)

pub loops-For : (first : Option TStmt) (test : Option TExpr) (third : Option TStmt) (body : TStmt) (number : Option ℕ)
    → kind_loops (k.For first test third body number) ≡ this_one first test third body number ++ part_loops first ++ part_loops third ++ for_loops body
unfolding for_loops
loops-For first test third body number =
    loops_seen first test third body number
    ∙ ap (λ l. l ++ any_loops (option_map seen first) ++ any_loops (option_map seen third) ++ for_loops body) (this_is first test third body number)
    ∙ ap (λ l. this_one first test third body number ++ l ++ any_loops (option_map seen third) ++ for_loops body) (loops_part first)
    ∙ ap (λ l. this_one first test third body number ++ part_loops first ++ l ++ for_loops body) (loops_part third)

pub loops-Block : (ss : List TStmt) → kind_loops (k.Block ss) ≡ flat_map for_loops ss
loops-Block ss = of_kind (TKind-F.Block ss) _ (k.rolls-Block ss) ∙ each_loops ss

pub loops-Return : (e : Option TExpr) → kind_loops (k.Return e) ≡ []
loops-Return e = of_kind (TKind-F.Return e) _ (k.rolls-Return e)

pub loops-Break : kind_loops k.Break ≡ []
loops-Break = of_kind TKind-F.Break _ k.rolls-Break

pub loops-Continue : kind_loops k.Continue ≡ []
loops-Continue = of_kind TKind-F.Continue _ k.rolls-Continue

-- a list of statements
pub loops_in : (ss : List TStmt) → for_loops_in ss ≡ flat_map for_loops ss
loops_in [] = refl
loops_in (s ∷ ss) = ap (λ l. for_loops s ++ l) (loops_in ss)

-- an `if`
pub if_is : (s : TStmt) (e : TExpr) (a : TStmt) (b : Option TStmt) → s.kind ≡ k.If e a b → for_loops s ≡ for_loops a ++ part_loops b
unfolding for_loops
if_is s e a b is = loops-stmt s ∙ ap kind_loops is ∙ loops-If e a b

-- a `for`
pub for_is : (s : TStmt) (first : Option TStmt) (test : Option TExpr) (third : Option TStmt) (body : TStmt) (number : Option ℕ)
    → s.kind ≡ k.For first test third body number
    → for_loops s ≡ this_one first test third body number ++ part_loops first ++ part_loops third ++ for_loops body
unfolding for_loops
for_is s first test third body number is = loops-stmt s ∙ ap kind_loops is ∙ loops-For first test third body number

-- a statement that holds no other
-- no statement stands in it
abbrev pub HoldsNone : TKind → Type 0
HoldsNone d =
    ((e : TExpr) (a : TStmt) (b : Option TStmt) → d ≡ k.If e a b → ⊥)
    × ((e : TExpr) (a : TStmt) → d ≡ k.While e a → ⊥)
    × ((first : Option TStmt) (test : Option TExpr) (third : Option TStmt) (body : TStmt) (number : Option ℕ)
    → d ≡ k.For first test third body number → ⊥)
    × ((ss : List TStmt) → d ≡ k.Block ss → ⊥)

none_by : (x : TKind-F TKind TStmt) (d : TKind) → roll-TKind x ≡ d → HoldsNone d → kind_loops d ≡ []
none_by TKind-F.Empty d is none = of_kind _ d is
none_by (TKind-F.SetLocal n e) d is none = of_kind _ d is
none_by (TKind-F.Store p e) d is none = of_kind _ d is
none_by (TKind-F.UpdateLocal op n e) d is none = of_kind _ d is
none_by (TKind-F.UpdateAt op p e) d is none = of_kind _ d is
none_by (TKind-F.Call e) d is none = of_kind _ d is
none_by (TKind-F.Print format es) d is none = of_kind _ d is
none_by (TKind-F.If e a b) d is none = absurd (none.0 e a b (sym is ∙ k.rolls-If e a b))
none_by (TKind-F.While e a) d is none = absurd (none.1 e a (sym is ∙ k.rolls-While e a))
none_by (TKind-F.For first test third body number) d is none = absurd (none.2 first test third body number (sym is ∙ k.rolls-For first test third body number))
none_by (TKind-F.Block ss) d is none = absurd (none.3 ss (sym is ∙ k.rolls-Block ss))
none_by (TKind-F.Return e) d is none = of_kind _ d is
none_by TKind-F.Break d is none = of_kind _ d is
none_by TKind-F.Continue d is none = of_kind _ d is

pub none_is : (s : TStmt) → HoldsNone s.kind → for_loops s ≡ []
unfolding for_loops
none_is s none = loops-stmt s ∙ none_by (out-TKind s.kind) s.kind (roll-out-TKind s.kind) none

pub ruleset loop_nodes = (
  loops-stmt,
  loops-Empty,
  loops-SetLocal,
  loops-Store,
  loops-UpdateLocal,
  loops-UpdateAt,
  loops-Call,
  loops-Print,
  loops-If,
  loops-While,
  loops-For,
  loops-Block,
  loops-Return,
  loops-Break,
  loops-Continue,
)

-- ---- the loops of a program

placed_append : (a b : List TFunc) → placed_loops (a ++ b) ≡ placed_loops a ++ placed_loops b
placed_append [] b = refl
placed_append (f ∷ a) b =
    ap (λ ls. map (placed f) (for_loops_in f.body) ++ ls) (placed_append a b)
    ∙ sym (append_assoc (map (placed f) (for_loops_in f.body)) (placed_loops a) (placed_loops b))

-- those of one function more
pub next_func : (funcs : List TFunc) (i : ℕ) (f : TFunc) → i < length funcs → f ≡ get_or funcs i f
    → placed_loops (take (i + 1) funcs) ≡ placed_loops (take i funcs) ++ map (placed f) (for_loops_in f.body)
next_func funcs i f within is =
    let more : i + 1 ≡ suc i = omega arith in
    ap (λ n. placed_loops (take n funcs)) more
    ∙ ap placed_loops (take-suc funcs i f within ∙ ap (λ (x : TFunc). take i funcs ++ x ∷ []) (sym is))
    ∙ placed_append (take i funcs) (f ∷ [])
    ∙ ap (λ ls. placed_loops (take i funcs) ++ ls) (append-nil (map (placed f) (for_loops_in f.body)))
