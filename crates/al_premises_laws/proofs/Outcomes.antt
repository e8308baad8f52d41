-- Chunks that touch nothing: they print, or change reduction variables alone.
use Rattle.std.proofs.Common.{◌≡◌, ℕ, false, List, [], refl, sym, ap, ◌∙◌}
use Rattle.std.proofs.Math.Bool.{true≢false}
use Rattle.std.specs.FinSet as set
use Rattle.std.specs.FinSet.{FinSet}
use Rattle.al_core.specs.declared.typed_tree.TExpr.{TExpr, map-TExpr, fold-TExpr, fold-roll-TExpr}
use Rattle.al_core.specs.declared.typed_tree.TPlace.{TPlace, map-TPlace, fold-TPlace, fold-roll-TPlace}
use Rattle.al_core.specs.declared.typed_tree.TExpr.TheOpen.{TExpr-F, TPlace-F}
use Rattle.al_core.specs.declared.typed_tree.TExpr.TheViews.{roll-TExpr, roll-TPlace}
use Rattle.al_core.specs.declared.typed_tree.TKind.{TKind, map-TKind, para-TKind, para-roll-TKind}
use Rattle.al_core.specs.declared.typed_tree.TKind.TheOpen.{TKind-F}
use Rattle.al_core.specs.declared.typed_tree.TKind.TheViews.{roll-TStmt, roll-TKind}
use Rattle.al_core.specs.declared.typed_tree.TStmt.{TStmt, para-TStmt, para-roll-TStmt}
use Rattle.al_core.specs.declared.values.Addr.{Addr}
use Rattle.al_core.specs.declared.values.Addr.TheVariants.{Word, Head}
use Rattle.al_core.specs.declared.values.Obj.TheVariants.{Global}
use Rattle.al_core.specs.declared.values.Val.{Val}
use Rattle.al_core.specs.World.{Pointer}
use Rattle.al_core.specs.Orders.{addr_cmp}
use Rattle.al_core.specs.Access.{Content, load, store, print, in_iteration}
use Rattle.al_core.specs.Action.{State, Act, At, bind, pure, lift, asks, spend, get_frame, set_frame}
use Rattle.al_core.specs.Meaning.{Flow, Inside, expr_case, place_case, kind_does, stmt_does, value, place, execute}
use Rattle.al_core.specs.Values.{operate, choose}
use Rattle.al_core.specs.Iteration.{iteration}
use Rattle.al_core.specs.Chunk.{outcome}
use Rattle.al_rounds_laws.specs.Writes.{AreApart}
use Rattle.al_runs_laws.specs.Small.{small_reductions}
use Rattle.al_premises_laws.specs.Executions.{first, second, at_first, at_second}
use Rattle.al_premises_laws.specs.Met.{UntouchedIsMet}

-- ---- what a statement does in an iteration, a node at a time

abbrev Call : Type 0
Call = ℕ → List Val → At Content Val

module _ (call : Call) where
  abbrev doing : TStmt → Act Content Flow
  doing =
      para-TStmt (At Content Flow) (Act Content Flow) (kind_does in_iteration Inside [] call) (stmt_does in_iteration Inside [] call)

  abbrev doing_kind : TKind → At Content Flow
  doing_kind =
      para-TKind (At Content Flow) (Act Content Flow) (kind_does in_iteration Inside [] call) (stmt_does in_iteration Inside [] call)

  abbrev its_value : TExpr → At Content Val
  its_value =
      fold-TExpr (At Content Val) (At Content Pointer) (expr_case in_iteration Inside [] call) (place_case in_iteration Inside [] call)

  abbrev its_place : TPlace → At Content Pointer
  its_place =
      fold-TPlace (At Content Val) (At Content Pointer) (expr_case in_iteration Inside [] call) (place_case in_iteration Inside [] call)

  pub stmt_roll : (line : ℕ) (k : TKind) (s : State Content)
      → doing (roll-TStmt (record { line = line; kind = k })) s ≡ bind (spend line) (λ _. doing_kind k line) s
  stmt_roll line k s =
      ap (λ f. f s)
      (para-roll-TStmt (At Content Flow) (Act Content Flow) (kind_does in_iteration Inside [] call)
      (stmt_does in_iteration Inside [] call) (record { line = line; kind = k }))

  pub kind_roll : (d : TKind-F TKind TStmt) (line : ℕ) (s : State Content)
      → doing_kind (roll-TKind d) line s
      ≡ kind_does in_iteration Inside [] call
      (map-TKind TKind TStmt (TKind × At Content Flow) (TStmt × Act Content Flow) (λ k. (k, doing_kind k)) (λ s. (s, doing s)) d)
      line s
  kind_roll d line s =
      ap (λ f. f line s)
      (para-roll-TKind (At Content Flow) (Act Content Flow) (kind_does in_iteration Inside [] call) (stmt_does in_iteration Inside [] call) d)

  pub expr_roll : (d : TExpr-F TExpr TPlace) (line : ℕ) (s : State Content)
      → its_value (roll-TExpr d) line s
      ≡ expr_case in_iteration Inside [] call (map-TExpr TExpr TPlace (At Content Val) (At Content Pointer) its_value its_place d) line s
  expr_roll d line s =
      ap (λ f. f line s)
      (fold-roll-TExpr (At Content Val) (At Content Pointer) (expr_case in_iteration Inside [] call) (place_case in_iteration Inside [] call) d)

  pub place_roll : (d : TPlace-F TExpr TPlace) (line : ℕ) (s : State Content)
      → its_place (roll-TPlace d) line s
      ≡ place_case in_iteration Inside [] call (map-TPlace TExpr TPlace (At Content Val) (At Content Pointer) its_value its_place d) line s
  place_roll d line s =
      ap (λ f. f line s)
      (fold-roll-TPlace (At Content Val) (At Content Pointer) (expr_case in_iteration Inside [] call) (place_case in_iteration Inside [] call) d)

-- ---- two chunks of one iteration

third_touches_nothing : (outcome first [] at_first 2).touched ≡ set.empty
unfolding outcome iteration execute value place bind pure lift asks spend get_frame set_frame load store print operate choose
third_touches_nothing = simp (stmt_roll, kind_roll, expr_roll)

pub last_touches_nothing : (outcome second small_reductions at_second 4).touched ≡ set.empty
unfolding outcome iteration execute value place bind pure lift asks spend get_frame set_frame load store print operate choose
last_touches_nothing = simp (stmt_roll, kind_roll, expr_roll, place_roll)

nothing_apart : (s t : FinSet addr_cmp) → t ≡ set.empty → AreApart s t
nothing_apart s t e a h k = true≢false (sym k ∙ ap (λ z. set.contains z a) e ∙ set.contains-empty addr_cmp a)

pub first_apart : AreApart (outcome first [] at_first 0).touched (outcome first [] at_first 2).touched
first_apart = nothing_apart _ _ third_touches_nothing

pub second_apart : AreApart (outcome second small_reductions at_second 3).touched (outcome second small_reductions at_second 4).touched
second_apart = nothing_apart _ _ last_touches_nothing

untouched : (a : Addr) → set.contains (outcome second small_reductions at_second 4).touched a ≡ false
untouched a = ap (λ z. set.contains z a) last_touches_nothing ∙ set.contains-empty addr_cmp a

pub untouched_is_met : UntouchedIsMet
untouched_is_met = ((untouched (Word (Global 1) 0), untouched (Head (Global 1))), refl)
