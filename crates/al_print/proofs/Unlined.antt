-- What each kind of statement is without its lines.
use Rattle.std.proofs.Common.{◌≡◌, ℕ, List, map, Option, Some, None, refl, sym, ap, ◌∙◌}
use Rattle.std.specs.Prelude.{option_map}
use Rattle.al_source.specs.declared.annotations.LoopNote.{LoopNote}
use Rattle.al_source.specs.declared.source_tree.Expr.{Expr}
use Rattle.al_source.specs.declared.source_tree.Stmt.{Stmt, fold_out-Stmt}
use Rattle.al_source.specs.declared.source_tree.StmtKind.{StmtKind, map-StmtKind, fold-StmtKind, fold-roll-StmtKind}
use Rattle.al_source.specs.declared.source_tree.StmtKind.TheViews.{roll-StmtKind}
use Rattle.al_source.specs.declared.source_tree.StmtKind.TheOpen.{StmtKind-F}
use Rattle.al_source.specs.declared.source_tree.StmtKind.TheVariants as k
use Rattle.al_grammar.specs.Statements.{statement_of}
use Rattle.al_print.specs.Lines.{kind_unlined, statement_unlined, unlined}

pub unlined_kind : StmtKind → StmtKind
unlined_kind = fold-StmtKind StmtKind Stmt kind_unlined statement_unlined

pub unlined_is : (l : ℕ) (x : StmtKind) → unlined (statement_of l x) ≡ statement_of 0 (unlined_kind x)
unfolding unlined unlined_kind
unlined_is l x = fold_out-Stmt StmtKind Stmt kind_unlined statement_unlined (statement_of l x)

kind_of : (x : StmtKind-F StmtKind Stmt) (d : StmtKind)
    → roll-StmtKind x ≡ d → unlined_kind d ≡ roll-StmtKind (map-StmtKind StmtKind Stmt StmtKind Stmt unlined_kind unlined x)
unfolding unlined unlined_kind
kind_of x d is =
    ap (λ d. fold-StmtKind StmtKind Stmt kind_unlined statement_unlined d) (sym is) ∙ fold-roll-StmtKind StmtKind Stmt kind_unlined statement_unlined x

-- ---- statements that hold others

abbrev pub part : Option Stmt → Option Stmt
part = option_map unlined

unlined-If : (c : Expr) (x : Stmt) (y : Option Stmt) → unlined_kind (k.If c x y) ≡ k.If c (unlined x) (part y)
unlined-If c x None = kind_of (StmtKind-F.If c x None) _ (k.rolls-If c x None) ∙ k.rolls-If c (unlined x) None
unlined-If c x (Some y) = kind_of (StmtKind-F.If c x (Some y)) _ (k.rolls-If c x (Some y)) ∙ k.rolls-If c (unlined x) (Some (unlined y))

unlined-While : (c : Expr) (x : Stmt) → unlined_kind (k.While c x) ≡ k.While c (unlined x)
unlined-While c x = kind_of (StmtKind-F.While c x) _ (k.rolls-While c x) ∙ k.rolls-While c (unlined x)

unlined-For : (a : Option Stmt) (b : Option Expr) (c : Option Stmt) (x : Stmt) (n : Option LoopNote)
    → unlined_kind (k.For a b c x n) ≡ k.For (part a) b (part c) (unlined x) n
unlined-For None b None x n = kind_of (StmtKind-F.For None b None x n) _ (k.rolls-For None b None x n) ∙ k.rolls-For None b None (unlined x) n
unlined-For None b (Some c) x n =
    kind_of (StmtKind-F.For None b (Some c) x n) _ (k.rolls-For None b (Some c) x n) ∙ k.rolls-For None b (Some (unlined c)) (unlined x) n
unlined-For (Some a) b None x n =
    kind_of (StmtKind-F.For (Some a) b None x n) _ (k.rolls-For (Some a) b None x n) ∙ k.rolls-For (Some (unlined a)) b None (unlined x) n
unlined-For (Some a) b (Some c) x n =
    kind_of (StmtKind-F.For (Some a) b (Some c) x n) _ (k.rolls-For (Some a) b (Some c) x n) ∙ k.rolls-For (Some (unlined a)) b (Some (unlined c)) (unlined x) n

unlined-Block : (ss : List Stmt) → unlined_kind (k.Block ss) ≡ k.Block (map unlined ss)
unlined-Block ss = kind_of (StmtKind-F.Block ss) _ (k.rolls-Block ss) ∙ k.rolls-Block (map unlined ss)

-- ---- the same but for lines

pub record Same (x y : Stmt) : Type 0 where
  pub is : unlined x ≡ unlined y

pub record SamePart (x y : Option Stmt) : Type 0 where
  pub is : part x ≡ part y

pub record SameList (xs ys : List Stmt) : Type 0 where
  pub is : map unlined xs ≡ map unlined ys

pub same_line : (i j : ℕ) (x : StmtKind) → Same (statement_of i x) (statement_of j x)
same_line i j x = record { is = unlined_is i x ∙ sym (unlined_is j x) }

same_kind : (i j : ℕ) {x y : StmtKind} → unlined_kind x ≡ unlined_kind y → Same (statement_of i x) (statement_of j y)
same_kind i j {x} {y} e = record { is = unlined_is i x ∙ ap (statement_of 0) e ∙ sym (unlined_is j y) }

pub same_if : (i j : ℕ) {c : Expr} {x x' : Stmt} {y y' : Option Stmt}
    → Same x x' → SamePart y y' → Same (statement_of i (k.If c x y)) (statement_of j (k.If c x' y'))
same_if i j {c} {x} {x'} {y} {y'} p q =
    same_kind i j (unlined-If c x y ∙ ap (λ (s : Stmt). k.If c s (part y)) p.is ∙ ap (k.If c (unlined x')) q.is ∙ sym (unlined-If c x' y'))

pub same_while : (i j : ℕ) {c : Expr} {x x' : Stmt} → Same x x' → Same (statement_of i (k.While c x)) (statement_of j (k.While c x'))
same_while i j {c} {x} {x'} p = same_kind i j (unlined-While c x ∙ ap (k.While c) p.is ∙ sym (unlined-While c x'))

pub same_for : (i j : ℕ) {b : Option Expr} {n : Option LoopNote} {a a' c c' : Option Stmt} {x x' : Stmt}
    → SamePart a a' → SamePart c c' → Same x x' → Same (statement_of i (k.For a b c x n)) (statement_of j (k.For a' b c' x' n))
same_for i j {b} {n} {a} {a'} {c} {c'} {x} {x'} p q r = same_kind i j
    (unlined-For a b c x n ∙ ap (λ (o : Option Stmt). k.For o b (part c) (unlined x) n) p.is ∙ ap (λ (o : Option Stmt). k.For (part a') b o (unlined x) n) q.is
    ∙ ap (λ (s : Stmt). k.For (part a') b (part c') s n) r.is ∙ sym (unlined-For a' b c' x' n))

pub same_block : (i j : ℕ) {ss rs : List Stmt} → SameList ss rs → Same (statement_of i (k.Block ss)) (statement_of j (k.Block rs))
same_block i j {ss} {rs} p = same_kind i j (unlined-Block ss ∙ ap k.Block p.is ∙ sym (unlined-Block rs))

pub same_none : SamePart None None
same_none = record { is = refl }

pub same_some : {x y : Stmt} → Same x y → SamePart (Some x) (Some y)
same_some p = record { is = ap Some p.is }
