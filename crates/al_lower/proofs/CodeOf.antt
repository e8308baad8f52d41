-- The code of each kind of node, as it is written in front of what is there.
use Rattle.std.proofs.Common.{◌≡◌, ℕ, suc, ◌+◌, ◌-◌, ◌≤◌, append_assoc, List, [], ◌∷◌, ◌++◌, length, map, refl, sym, ap, ◌∙◌, arith}
use Rattle.std.specs.Prelude.{ℤ, pos, Bool, true, false, drop}
use Rattle.std.proofs.Common.{◌<◌, get_or}
use Rattle.std.proofs.lemmas.List.{drop_all, drop_more}
use Rattle.al_source.specs.declared.operators.BinOp.{BinOp}
use Rattle.al_source.specs.declared.operators.UnOp.{UnOp}
use Rattle.al_source.specs.declared.operators.RedOp.{RedOp}
use Rattle.al_core.specs.declared.values.Kind.{Kind}
use Rattle.al_core.specs.declared.typed_tree.TExpr.{TExpr, map-TExpr, fold-TExpr, fold-roll-TExpr}
use Rattle.al_core.specs.declared.typed_tree.TExpr.TheViews.{roll-TExpr, roll-TPlace}
use Rattle.al_core.specs.declared.typed_tree.TExpr.TheVariants as e
use Rattle.al_core.specs.declared.typed_tree.TPlace.{TPlace, map-TPlace, fold-TPlace, fold-roll-TPlace}
use Rattle.al_core.specs.declared.typed_tree.TPlace.TheVariants as p
use Rattle.al_core.specs.declared.typed_tree.TExpr.TheOpen.{TExpr-F, TPlace-F}
use Rattle.al_code.specs.declared.instructions.Instr.TheVariants as i
use Rattle.al_code_laws.specs.declared.plan.Op.{Op}
use Rattle.al_code_laws.specs.declared.plan.Op.TheVariants.{As, JumpTo, JumpIfTo, CallOf}
use Rattle.al_code_laws.specs.Planned.{planned, Plan, past, Emit, one, ◌⨟◌}
use Rattle.al_code_laws.specs.Tree.{Lined, in_turn, short, expr_code_case, place_code_case, expr_code, place_code, exprs_code}
use Rattle.al_lower.specs.Emits.{emits}

pub past_is : (ps old : Plan) → past ps (length old) ≡ length (ps ++ old)
past_is [] old = refl
past_is (p ∷ ps) old = ap suc (past_is ps old)

pub emits-seq : (a b : Emit) (old : Plan) → emits (a ⨟ b) old ≡ emits a (emits b old)
unfolding emits
emits-seq a b old =
    append_assoc (a (past (b (length old)) (length old))) (b (length old)) old
    ∙ ap (λ n. a n ++ (b (length old) ++ old)) (past_is (b (length old)) old)

pub emits-one : (op : Op) (line h : ℕ) (old : Plan) → emits (one op line h) old ≡ planned op line h ∷ old
unfolding emits
emits-one op line h old = refl

pub emits-short : (line h : ℕ) (b : Bool) (answer : ℤ) (c : Emit) (old : Plan)
    → emits (short line h b answer c) old
    ≡ planned (JumpIfTo b (length (planned (As (i.Push answer)) line h ∷ old))) line (suc h)
    ∷ emits c (planned (As i.Truth) line (suc h) ∷ planned (JumpTo (length old)) line (suc h) ∷ planned (As (i.Push answer)) line h ∷ old)
unfolding emits
emits-short line h b answer c old =
    let tail = planned (As i.Truth) line (suc h) ∷ planned (JumpTo (length old)) line (suc h) ∷ planned (As (i.Push answer)) line h ∷ [] in
    ap (λ l. planned (JumpIfTo b (suc (length old))) line (suc h) ∷ l) (append_assoc (c (suc (suc (suc (length old))))) tail old)

of_expr : (x : TExpr-F TExpr TPlace) (d : TExpr) (line h : ℕ) → roll-TExpr x ≡ d → expr_code d line h
    ≡ expr_code_case (map-TExpr TExpr TPlace Lined Lined expr_code place_code x) line h
unfolding expr_code place_code
of_expr x d line h e = ap (λ d. fold-TExpr Lined Lined expr_code_case place_code_case d line h) (sym e)
    ∙ ap (λ (f : Lined). f line h) (fold-roll-TExpr Lined Lined expr_code_case place_code_case x)

of_place : (x : TPlace-F TExpr TPlace) (d : TPlace) (line h : ℕ) → roll-TPlace x ≡ d → place_code d line h
    ≡ place_code_case (map-TPlace TExpr TPlace Lined Lined expr_code place_code x) line h
unfolding expr_code place_code
of_place x d line h e = ap (λ d. fold-TPlace Lined Lined expr_code_case place_code_case d line h) (sym e)
    ∙ ap (λ (f : Lined). f line h) (fold-roll-TPlace Lined Lined expr_code_case place_code_case x)

in_turn_of : (es : List TExpr) (line h : ℕ) → in_turn line h (map expr_code es) ≡ exprs_code es line h
in_turn_of [] line h = λ j after. []
in_turn_of (x ∷ es) line h = λ j after. (expr_code x line h ⨟ in_turn_of es line (suc h) j) after

as_many : (es : List TExpr) → length (map expr_code es) ≡ length es
as_many [] = refl
as_many (x ∷ es) = ap suc (as_many es)

pub exprs-none : (line h : ℕ) (old : Plan) → emits (exprs_code [] line h) old ≡ old
unfolding emits
exprs-none line h old = refl

pub exprs-more : (x : TExpr) (es : List TExpr) (line h : ℕ) (old : Plan)
    → emits (exprs_code (x ∷ es) line h) old ≡ emits (expr_code x line h) (emits (exprs_code es line (suc h)) old)
exprs-more x es line h old = emits-seq (expr_code x line h) (exprs_code es line (suc h)) old

pub code-Call : (f : ℕ) (args : List TExpr) (line h : ℕ)
    → expr_code (e.Call f args) line h ≡ (exprs_code args line h ⨟ one (CallOf f (length args)) line (h + length args))
code-Call f args line h =
    of_expr (TExpr-F.Call f args) _ line h (e.rolls-Call f args)
    ∙ ap (λ (c : Emit). c ⨟ one (CallOf f (length (map expr_code args))) line (h + length (map expr_code args))) (in_turn_of args line h)
    ∙ ap (λ n. exprs_code args line h ⨟ one (CallOf f n) line (h + n)) (as_many args)

pub code-Inputs : (line h : ℕ) → expr_code e.Inputs line h ≡ (one (As i.Inputs) line h)
code-Inputs line h = of_expr TExpr-F.Inputs _ line h e.rolls-Inputs

pub code-Number : (n : ℤ) (line h : ℕ) → expr_code (e.Number n) line h ≡ (one (As (i.Push n)) line h)
code-Number n line h = of_expr (TExpr-F.Number n) _ line h (e.rolls-Number n)

pub code-Local : (k : ℕ) (line h : ℕ) → expr_code (e.Local k) line h ≡ (one (As (i.GetLocal k)) line h)
code-Local k line h = of_expr (TExpr-F.Local k) _ line h (e.rolls-Local k)

pub code-Load : (want : Kind) (q : TPlace) (line h : ℕ) → expr_code (e.Load want q) line h ≡ (place_code q line h ⨟ one (As (i.Load want)) line (suc h))
code-Load want q line h = of_expr (TExpr-F.Load want q) _ line h (e.rolls-Load want q)

pub code-Addr : (q : TPlace) (line h : ℕ) → expr_code (e.Addr q) line h ≡ (place_code q line h)
code-Addr q line h = of_expr (TExpr-F.Addr q) _ line h (e.rolls-Addr q)

pub code-Unary : (op : UnOp) (a : TExpr) (line h : ℕ) → expr_code (e.Unary op a) line h ≡ (expr_code a line h ⨟ one (As (i.Unary op)) line (suc h))
code-Unary op a line h = of_expr (TExpr-F.Unary op a) _ line h (e.rolls-Unary op a)

pub code-Binary : (op : BinOp) (a b : TExpr) (line h : ℕ) → expr_code (e.Binary op a b) line h
    ≡ (expr_code a line h ⨟ (expr_code b line (suc h) ⨟ one (As (i.Binary op)) line (suc (suc h))))
code-Binary op a b line h = of_expr (TExpr-F.Binary op a b) _ line h (e.rolls-Binary op a b)

pub code-Same : (equal : Bool) (a b : TExpr) (line h : ℕ) → expr_code (e.Same equal a b) line h
    ≡ (expr_code a line h ⨟ (expr_code b line (suc h) ⨟ one (As (i.Same equal)) line (suc (suc h))))
code-Same equal a b line h = of_expr (TExpr-F.Same equal a b) _ line h (e.rolls-Same equal a b)

pub code-And : (a b : TExpr) (line h : ℕ) → expr_code (e.And a b) line h ≡ (expr_code a line h ⨟ short line h false (pos 0) (expr_code b line h))
code-And a b line h = of_expr (TExpr-F.And a b) _ line h (e.rolls-And a b)

pub code-Or : (a b : TExpr) (line h : ℕ) → expr_code (e.Or a b) line h ≡ (expr_code a line h ⨟ short line h true (pos 1) (expr_code b line h))
code-Or a b line h = of_expr (TExpr-F.Or a b) _ line h (e.rolls-Or a b)

pub code-Input : (a : TExpr) (line h : ℕ) → expr_code (e.Input a) line h ≡ (expr_code a line h ⨟ one (As i.Input) line (suc h))
code-Input a line h = of_expr (TExpr-F.Input a) _ line h (e.rolls-Input a)

pub code-Choose : (op : RedOp) (a b : TExpr) (line h : ℕ) → expr_code (e.Choose op a b) line h
    ≡ (expr_code a line h ⨟ (expr_code b line (suc h) ⨟ one (As (i.Choose op)) line (suc (suc h))))
code-Choose op a b line h = of_expr (TExpr-F.Choose op a b) _ line h (e.rolls-Choose op a b)

pub code-Calloc : (a : TExpr) (size : ℕ) (line h : ℕ) → expr_code (e.Calloc a size) line h ≡ (expr_code a line h ⨟ one (As (i.Calloc size)) line (suc h))
code-Calloc a size line h = of_expr (TExpr-F.Calloc a size) _ line h (e.rolls-Calloc a size)

pub code-Free : (a : TExpr) (line h : ℕ) → expr_code (e.Free a) line h ≡ (expr_code a line h ⨟ one (As i.Free) line (suc h))
code-Free a line h = of_expr (TExpr-F.Free a) _ line h (e.rolls-Free a)

pub code-Global : (k : ℕ) (line h : ℕ) → place_code (p.Global k) line h ≡ (one (As (i.Global k)) line h)
code-Global k line h = of_place (TPlace-F.Global k) _ line h (p.rolls-Global k)

pub code-At : (a : TExpr) (line h : ℕ) → place_code (p.At a) line h ≡ (expr_code a line h ⨟ one (As i.NotNull) line (suc h))
code-At a line h = of_place (TPlace-F.At a) _ line h (p.rolls-At a)

pub code-Plus : (q : TPlace) (n : ℕ) (line h : ℕ) → place_code (p.Plus q n) line h ≡ (place_code q line h ⨟ one (As (i.Plus n)) line (suc h))
code-Plus q n line h = of_place (TPlace-F.Plus q n) _ line h (p.rolls-Plus q n)

pub code-Elem : (q : TPlace) (a : TExpr) (n : ℕ) (line h : ℕ) → place_code (p.Elem q a n) line h
    ≡ (place_code q line h ⨟ (expr_code a line (suc h) ⨟ one (As (i.Elem n)) line (suc (suc h))))
code-Elem q a n line h = of_place (TPlace-F.Elem q a n) _ line h (p.rolls-Elem q a n)

pub ruleset expr_codes = (
  code-Call,
  code-Inputs,
  code-Number,
  code-Local,
  code-Load,
  code-Addr,
  code-Unary,
  code-Binary,
  code-Same,
  code-And,
  code-Or,
  code-Input,
  code-Choose,
  code-Calloc,
  code-Free,
  code-Global,
  code-At,
  code-Plus,
  code-Elem,
  emits-seq,
  emits-one,
  emits-short,
)

pub exprs_start : (es : List TExpr) (line h : ℕ) (old : Plan) → old ≡ emits (exprs_code (drop (length es) es) line (h + length es)) old
exprs_start es line h old =
    sym (exprs-none line (h + length es) old)
    ∙ ap (λ zs. emits (exprs_code zs line (h + length es)) old) (sym (drop_all (length es) es (omega arith)))

pub exprs_next : (es : List TExpr) (line h k n : ℕ) (x : TExpr) (old code new : Plan) → 0 < n → n ≤ length es → x ≡ get_or es (n - 1) x
    → k ≡ h + (n - 1) → code ≡ emits (exprs_code (drop n es) line (h + n)) old → new ≡ emits (expr_code x line k) code
    → new ≡ emits (exprs_code (drop (n - 1) es) line (h + (n - 1))) old
exprs_next es line h k n x old code new some le is at was now =
    let e : n - 1 + 1 ≡ n = omega arith in
    let up : h + n ≡ suc k = omega arith in
    now
    ∙ ap (λ c. emits (expr_code x line k) c) (was ∙ ap (λ m. emits (exprs_code (drop n es) line m) old) up)
    ∙ sym (exprs-more x (drop n es) line k old)
    ∙ ap (λ m. emits (exprs_code (x ∷ drop m es) line k) old) (sym e)
    ∙ ap (λ y. emits (exprs_code (y ∷ drop (n - 1 + 1) es) line k) old) is
    ∙ ap (λ es. emits (exprs_code es line k) old) (sym (drop_more es (n - 1) x (omega arith)))
    ∙ ap (λ m. emits (exprs_code (drop (n - 1) es) line m) old) at
