-- The expressions and places of statements.
use Rattle.std.proofs.Common.{◌≡◌, [], ◌∷◌, ℕ, List, ◌∙◌, Option, Some, None}
use Rattle.std.specs.Prelude.{map}
use Rattle.al_source.specs.declared.operators.BinOp.{BinOp}
use Rattle.al_source.specs.declared.texts.Piece.{Piece}
use Rattle.al_core.specs.declared.typed_tree.TExpr.{TExpr}
use Rattle.al_core.specs.declared.typed_tree.TPlace.{TPlace}
use Rattle.al_core.specs.declared.typed_tree.TStmt.{TStmt, fold-TStmt, fold-roll-TStmt}
use Rattle.al_core.specs.declared.typed_tree.TKind.{TKind, map-TKind, fold-TKind, roll-TKind, fold-roll-TKind}
use Rattle.al_core.specs.declared.typed_tree.TKind.TheOpen.{TKind-F}
use Rattle.al_core.specs.Accepted.{Terms, kind_terms, no_terms, one_expr, both_terms, all_terms, terms}
use Rattle.al_runs_laws.specs.Small.{at}

abbrev terms_kind : TKind → Terms
terms_kind = fold-TKind Terms Terms kind_terms (λ s. s.kind)

abbrev terms_stmt : TStmt → Terms
terms_stmt = fold-TStmt Terms Terms kind_terms (λ s. s.kind)

terms_roll : (line : ℕ) (d : TKind-F TKind TStmt)
    → terms (at line d) ≡ kind_terms (map-TKind TKind TStmt Terms Terms terms_kind terms_stmt d)
unfolding terms
terms_roll line d =
    fold-roll-TStmt Terms Terms kind_terms (λ s. s.kind) (record { line = line; kind = roll-TKind d })
    ∙ fold-roll-TKind Terms Terms kind_terms (λ s. s.kind) d

pub terms-SetLocal : (line n : ℕ) (e : TExpr) → terms (at line (TKind-F.SetLocal n e)) ≡ one_expr e
terms-SetLocal line n e = terms_roll line _

pub terms-UpdateLocal : (line n : ℕ) (op : BinOp) (e : TExpr) → terms (at line (TKind-F.UpdateLocal op n e)) ≡ one_expr e
terms-UpdateLocal line n op e = terms_roll line _

pub terms-Store : (line : ℕ) (p : TPlace) (e : TExpr) → terms (at line (TKind-F.Store p e)) ≡ record { exprs = e ∷ []; places = p ∷ [] }
terms-Store line p e = terms_roll line _

pub terms-UpdateAt : (line : ℕ) (op : BinOp) (p : TPlace) (e : TExpr) → terms (at line (TKind-F.UpdateAt op p e)) ≡ record { exprs = e ∷ []; places = p ∷ [] }
terms-UpdateAt line op p e = terms_roll line _

pub terms-Print : (line : ℕ) (f : List Piece) (es : List TExpr) → terms (at line (TKind-F.Print f es)) ≡ record { exprs = es; places = [] }
terms-Print line f es = terms_roll line _

pub terms-Return : (line : ℕ) (e : TExpr) → terms (at line (TKind-F.Return (Some e))) ≡ one_expr e
terms-Return line e = terms_roll line _

pub terms-If : (line : ℕ) (e : TExpr) (s : TStmt) → terms (at line (TKind-F.If e s None)) ≡ both_terms (one_expr e) (both_terms (terms s) no_terms)
unfolding terms
terms-If line e s = terms_roll line _

pub terms-Block : (line : ℕ) (ss : List TStmt) → terms (at line (TKind-F.Block ss)) ≡ all_terms (map terms ss)
unfolding terms
terms-Block line ss = terms_roll line _

pub terms-For : (line : ℕ) (a : TStmt) (e : TExpr) (c s : TStmt) (n : Option ℕ)
    → terms (at line (TKind-F.For (Some a) (Some e) (Some c) s n))
    ≡ both_terms (terms a) (both_terms (one_expr e) (both_terms (terms c) (terms s)))
unfolding terms
terms-For line a e c s n = terms_roll line _

pub ruleset statement_terms = (
  terms-SetLocal,
  terms-UpdateLocal,
  terms-Store,
  terms-UpdateAt,
  terms-Print,
  terms-Return,
  terms-If,
  terms-Block,
  terms-For,
)
