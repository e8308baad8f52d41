-- The small source has its typed tree.
use Rattle.std.proofs.Common.{◌≡◌, [], ◌∷◌, ℕ, Bool, List, true, false, Some, None}
use Rattle.std.specs.Prelude.{Ok}
use Rattle.al_source.specs.declared.source_tree.CType.TheVariants as type
use Rattle.al_source.specs.declared.annotations.CommitOrder.{CommitOrder}
use Rattle.al_source.specs.declared.operators.BinOp.TheVariants as binary
use Rattle.al_source.specs.declared.texts.Piece.TheVariants as piece
use Rattle.al_source.specs.declared.source_tree.StmtKind.{StmtKind}
use Rattle.al_core.specs.declared.typed_tree.TExpr.TheVariants as e
use Rattle.al_core.specs.declared.typed_tree.TPlace.TheVariants as p
use Rattle.al_core.specs.declared.typed_tree.TKind.TheVariants as k
use Rattle.al_core.specs.declared.typed_tree.TKind.TheOpen.{TKind-F}
use Rattle.al_core.specs.declared.typed_tree.TKind.{TKind, roll-TKind}
use Rattle.al_core.specs.declared.typed_tree.TStmt.{TStmt}
use Rattle.al_core.specs.declared.typed_tree.TNote.{TNote}
use Rattle.al_ast.specs.Nodes.{program_nodes}
use Rattle.al_ast.proofs.Cases.{expr_counts, kind_counts, stmt_counts}
use Rattle.al_grammar.specs.Statements.{statement_of}
use Rattle.al_rules.specs.Layouts.{layout_of}
use Rattle.al_rules.specs.Programs.{items_checked, typed_with}
use Rattle.al_rules.specs.Scopes.{Known, Binding, known_of, no_scope}
use Rattle.al_rules.specs.Statements.{statements, is_void}
use Rattle.al_rules.specs.Operands.{used, integer, scalar, fitting, binary, called}
use Rattle.al_rules.specs.Walks.{Progress, bind, pure, checks, get_scope, set_scope, add_local, begin_loop, end_loop}
use Rattle.al_rules.proofs.LayoutNodes.{words_nodes}
use Rattle.al_rules.proofs.TypeNodes.{part_nodes, form_nodes, known_nodes}
use Rattle.al_rules.proofs.ExpressionNodes.{operand_nodes}
use Rattle.al_rules.proofs.StatementNodes as nodes
use Rattle.al_rules.proofs.StatementNodes.{sort_nodes}
use Rattle.al_runs_laws.specs.Small.{at, number, x, y, i, value, is, sum, greater, note}
use Rattle.al_source_facts.specs.Trees as source
use Rattle.al_source_facts.specs.Trees.{program, i_name, s_name}
use Rattle.al_source_facts.specs.Tree.{tree, layout, first_own, main, notes, local, first_kind, second_kind, first_for, second_for}
use Rattle.al_source_facts.proofs.Steps.{stands, step}

-- ---- its states

module _ (o : CommitOrder) where
  abbrev known : Known
  known = known_of layout (program o).items

  pub lays : layout_of (program o) ≡ Ok layout
  unfolding layout_of
  lays = simp words_nodes

  counts : program_nodes (program o) ≡ 52
  counts = simp (stmt_counts, kind_counts, expr_counts)

  checked : items_checked (program o).items [] (program o).items ≡ Ok tt
  checked = simp (form_nodes, known_nodes)

  abbrev binding : List ℕ → ℕ → Binding
  binding name n = record { name = name; number = n; ty = type.Int }

  abbrev begun : Progress
  begun = record { scope = no_scope; locals = []; loops = [] }

  abbrev one_local : Progress
  one_local = record { scope = record { inner = binding i_name 0 ∷ []; outer = [] }; locals = local i_name ∷ []; loops = [] }

  abbrev with_loops : List TNote → Progress
  with_loops loops = record {
    scope = record { inner = binding s_name 1 ∷ binding i_name 0 ∷ []; outer = [] };
    locals = local i_name ∷ local s_name ∷ [];
    loops = loops;
  }

  -- in a loop, where its body may stand
  abbrev inside : List TNote → Progress
  inside loops = record (with_loops loops) { scope = record { inner = []; outer = binding s_name 1 ∷ binding i_name 0 ∷ [] } }

  -- ---- the statements

  module _ (line : ℕ) (d : StmtKind) (looped : Bool) (s : Progress) (k : TKind-F TKind TStmt) (z : Progress) where
    abbrev Walks : Type 0
    Walks = stands known 0 type.Int line d looped s (roll-TKind k) z

  declares_i : Walks 3 (source.zero i_name) false begun (TKind-F.SetLocal 0 (number 0)) one_local
  unfolding bind pure checks add_local fitting integer used
  declares_i =
      step known 0 type.Int 3 _ false begun _ _ _ (nodes.walks-Declare known 0 type.Int type.Int i_name (Some (source.number 0)) 3 false)
      (simp (operand_nodes, part_nodes, form_nodes, known_nodes, type.outs-Int, k.rolls-SetLocal, e.rolls-Number))

  declares_s : Walks 4 (source.zero s_name) false one_local (TKind-F.SetLocal 1 (number 0)) (with_loops [])
  unfolding bind pure checks add_local fitting integer used
  declares_s =
      step known 0 type.Int 4 _ false one_local _ _ _ (nodes.walks-Declare known 0 type.Int type.Int s_name (Some (source.number 0)) 4 false)
      (simp (operand_nodes, part_nodes, form_nodes, known_nodes, type.outs-Int, k.rolls-SetLocal, e.rolls-Number))

  module _ (loops : List TNote) where
    starts : (line : ℕ) → Walks line source.from_zero false (inside loops) (TKind-F.SetLocal 0 (number 0)) (inside loops)
    unfolding bind pure checks fitting integer used
    starts line =
        step known 0 type.Int line _ false (inside loops) _ _ _ (nodes.walks-Assign known 0 type.Int source.i (source.number 0) line false)
        (simp (operand_nodes, type.outs-Int, k.rolls-SetLocal, e.rolls-Number))

    x_is_one : Walks 7 source.x_is_one true (inside loops) (TKind-F.Store x (number 1)) (inside loops)
    unfolding bind pure checks fitting integer used
    x_is_one =
        step known 0 type.Int 7 _ true (inside loops) _ _ _ (nodes.walks-Assign known 0 type.Int source.x (source.number 1) 7 true)
        (simp (operand_nodes, type.outs-Int, k.rolls-Store, e.rolls-Number, p.rolls-Global))

    y_is_x : Walks 8 source.y_is_x true (inside loops) (TKind-F.Store y (value x)) (inside loops)
    unfolding bind pure checks fitting integer used
    y_is_x =
        step known 0 type.Int 8 _ true (inside loops) _ _ _ (nodes.walks-Assign known 0 type.Int source.y source.x 8 true)
        (simp (operand_nodes, type.outs-Int, k.rolls-Store, e.rolls-Load, p.rolls-Global))

    first_if : Walks 7 source.first_if true (inside loops) (TKind-F.If (is 0) (at 7 (TKind-F.Store x (number 1))) None) (inside loops)
    unfolding bind pure checks scalar integer used binary
    first_if =
        step known 0 type.Int 7 _ true (inside loops) _ _ _ (nodes.walks-If known 0 type.Int (source.is 0) (statement_of 7 source.x_is_one) None 7 true)
        (simp (x_is_one, operand_nodes, sort_nodes, type.outs-Int, k.rolls-If, e.rolls-Number, e.rolls-Local, e.rolls-Binary))

    second_if : Walks 8 source.second_if true (inside loops) (TKind-F.If (is 1) (at 8 (TKind-F.Store y (value x))) None) (inside loops)
    unfolding bind pure checks scalar integer used binary
    second_if =
        step known 0 type.Int 8 _ true (inside loops) _ _ _ (nodes.walks-If known 0 type.Int (source.is 1) (statement_of 8 source.y_is_x) None 8 true)
        (simp (y_is_x, operand_nodes, sort_nodes, type.outs-Int, k.rolls-If, e.rolls-Number, e.rolls-Local, e.rolls-Binary))

    prints : Walks 9 source.print true (inside loops) (TKind-F.Print (piece.Number ∷ []) (i ∷ [])) (inside loops)
    unfolding bind pure checks integer used
    prints =
        step known 0 type.Int 9 _ true (inside loops) _ _ _ (nodes.walks-Print known 0 type.Int (piece.Number ∷ []) (source.i ∷ []) 9 true)
        (simp (operand_nodes, type.outs-Int, k.rolls-Print, e.rolls-Local))

    advances : (line : ℕ) → Walks line source.next false (inside loops) (TKind-F.UpdateLocal binary.Add 0 (number 1)) (inside loops)
    unfolding bind pure checks integer used
    advances line =
        step known 0 type.Int line _ false (inside loops) _ _ _ (nodes.walks-Update known 0 type.Int binary.Add source.i (source.number 1) line false)
        (simp (operand_nodes, part_nodes, k.rolls-UpdateLocal, e.rolls-Number))

    adds : Walks 12 source.sum true (inside loops) (TKind-F.UpdateLocal binary.Add 1 i) (inside loops)
    unfolding bind pure checks integer used
    adds =
        step known 0 type.Int 12 _ true (inside loops) _ _ _ (nodes.walks-Update known 0 type.Int binary.Add source.s source.i 12 true)
        (simp (operand_nodes, part_nodes, type.outs-Int, k.rolls-UpdateLocal, e.rolls-Local))

    keeps_greatest : Walks 13 source.greatest true (inside loops) (TKind-F.Store x greater) (inside loops)
    unfolding bind pure checks fitting integer used called
    keeps_greatest =
        step known 0 type.Int 13 _ true (inside loops) _ _ _ (nodes.walks-Assign known 0 type.Int source.x source.greatest_of 13 true)
        (simp (operand_nodes, type.outs-Int, k.rolls-Store, e.rolls-Choose, e.rolls-Load, e.rolls-Local, p.rolls-Global))

    first_block : Walks 6 source.first_body true (inside loops) first_kind (inside loops)
    unfolding bind pure get_scope set_scope
    first_block =
        step known 0 type.Int 6 _ true (inside loops) _ _ _ (nodes.walks-Block known 0 type.Int source.first_stmts 6 true)
        (simp (first_if, second_if, prints, k.rolls-Block))

    second_block : Walks 11 source.second_body true (inside loops) second_kind (inside loops)
    unfolding bind pure get_scope set_scope
    second_block =
        step known 0 type.Int 11 _ true (inside loops) _ _ _ (nodes.walks-Block known 0 type.Int source.second_stmts 11 true)
        (simp (adds, keeps_greatest, k.rolls-Block))

  abbrev first_note : List TNote
  first_note = note 6 (first_own o) ∷ []

  runs_first : Walks 6 (source.first_loop o) false (with_loops []) first_for (with_loops first_note)
  unfolding bind pure checks get_scope set_scope begin_loop end_loop scalar integer used binary
  runs_first =
      step known 0 type.Int 6 _ false (with_loops []) _ _ _
      (nodes.walks-For known 0 type.Int (Some (statement_of 6 source.from_zero)) (Some (source.below 3))
      (Some (statement_of 6 source.next)) (statement_of 6 source.first_body) (Some (source.first_note o)) 6 false)
      (simp (starts, advances, first_block first_note, operand_nodes, sort_nodes, type.outs-Int, k.rolls-For, e.rolls-Number, e.rolls-Local, e.rolls-Binary))

  runs_second : Walks 11 source.second_loop false (with_loops first_note) second_for (with_loops (notes o))
  unfolding bind pure checks get_scope set_scope begin_loop end_loop scalar integer used binary
  runs_second =
      step known 0 type.Int 11 _ false (with_loops first_note) _ _ _
      (nodes.walks-For known 0 type.Int (Some (statement_of 11 source.from_zero)) (Some (source.below 9))
      (Some (statement_of 11 source.next)) (statement_of 11 source.second_body) (Some source.second_note) 11 false)
      (simp (
        starts,
        advances,
        second_block (notes o),
        operand_nodes,
        sort_nodes,
        part_nodes,
        type.outs-Int,
        k.rolls-For,
        e.rolls-Number,
        e.rolls-Local,
        e.rolls-Binary,
      ))

  returns : Walks 14 source.result false (with_loops (notes o)) (TKind-F.Return (Some sum)) (with_loops (notes o))
  unfolding bind pure checks fitting integer used is_void
  returns =
      step known 0 type.Int 14 _ false (with_loops (notes o)) _ _ _ (nodes.walks-Return known 0 type.Int (Some source.s) 14 false)
      (simp (operand_nodes, type.outs-Int, k.rolls-Return, e.rolls-Local))

  body_is_typed : statements known 0 type.Int false (source.body o) begun ≡ Ok (main.body, with_loops (notes o))
  unfolding bind pure
  body_is_typed = simp (declares_i, declares_s, runs_first, runs_second, returns)

  pub is_typed : typed_with layout (program o) ≡ Ok (tree o)
  unfolding typed_with
  is_typed = simp (checked, body_is_typed, counts, words_nodes, part_nodes)
