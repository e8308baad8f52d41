-- Whether a variable is mentioned in nothing but its updates, at the statements with parts.
use Rattle.std.proofs.Common.{◌≡◌, ℕ, Bool, true, false, List, Option, ap, ◌∙◌}
use Rattle.std.specs.Prelude.{not, ◌&&◌, option_map}
use Rattle.std.specs.List.{list_all}
use Rattle.al_source.specs.declared.operators.RedOp.{RedOp}
use Rattle.al_core.specs.declared.values.Addr.{Addr}
use Rattle.al_core.specs.declared.typed_tree.TExpr.{TExpr}
use Rattle.al_core.specs.declared.typed_tree.TStmt.{TStmt, para-TStmt}
use Rattle.al_core.specs.declared.typed_tree.TKind.{TKind, para-TKind}
use Rattle.al_core.specs.declared.typed_tree.TKind.TheVariants as k
use Rattle.al_core.specs.Accepted.{mentions, any_mentions, is_plain_start, if_only, kind_only_updates, only_updates}
use Rattle.al_loop_notes.proofs.Lists.{all_paired}
use Rattle.al_loop_notes.proofs.ParaNodes.{on-stmt, on-If, on-For, on-Block}

module _ (op : RedOp) (a : Addr) where
  abbrev kind : TKind → Bool
  kind = para-TKind Bool Bool (kind_only_updates op a) (λ s. s.kind.1)

  stmt_is : (s : TStmt) (d : TKind) → s.kind ≡ d → only_updates op a s ≡ kind d
  unfolding only_updates
  stmt_is s d is = on-stmt (kind_only_updates op a) (λ s. s.kind.1) s ∙ ap kind is

  abbrev pub part : Option TStmt → Option (TStmt × Bool)
  part s = option_map (λ s. (s, only_updates op a s)) s

  pub if_is : (s : TStmt) (e : TExpr) (x : TStmt) (y : Option TStmt) → s.kind ≡ k.If e x y
      → only_updates op a s ≡ (not (mentions a e) && only_updates op a x && if_only op a (part y))
  unfolding only_updates
  if_is s e x y is = stmt_is s (k.If e x y) is ∙ on-If (kind_only_updates op a) (λ s. s.kind.1) e x y

  -- what a `for` tests, one after another
  abbrev pub starts : Option ℕ → Option TStmt → Bool
  starts number first = is_plain_start op a number (part first) && if_only op a (part first)

  abbrev pub tests : Option ℕ → Option TStmt → Option TExpr → Bool
  tests number first test = starts number first && not (any_mentions a test)

  abbrev pub counts : Option ℕ → Option TStmt → Option TExpr → Option TStmt → Bool
  counts number first test third = tests number first test && if_only op a (part third)

  pub for_is : (s : TStmt) (first : Option TStmt) (test : Option TExpr) (third : Option TStmt) (body : TStmt) (number : Option ℕ)
      → s.kind ≡ k.For first test third body number
      → only_updates op a s ≡ (counts number first test third && only_updates op a body)
  unfolding only_updates
  for_is s first test third body number is =
      stmt_is s (k.For first test third body number) is
      ∙ on-For (kind_only_updates op a) (λ s. s.kind.1) first test third body number

  pub block_is : (s : TStmt) (ss : List TStmt) → s.kind ≡ k.Block ss → only_updates op a s ≡ list_all (only_updates op a) ss
  unfolding only_updates
  block_is s ss is =
      stmt_is s (k.Block ss) is
      ∙ on-Block (kind_only_updates op a) (λ s. s.kind.1) ss
      ∙ all_paired (para-TStmt Bool Bool (kind_only_updates op a) (λ s. s.kind.1)) ss

-- ---- both of two tests, where the second is made only after the first

pub and_true : {p f v : Bool} → p ≡ true → v ≡ f → v ≡ (p && f)
and_true e h = rw e h

pub and_false : {p v : Bool} (f : Bool) → p ≡ false → v ≡ p → v ≡ (p && f)
and_false f e h = rw e (h ∙ e)
