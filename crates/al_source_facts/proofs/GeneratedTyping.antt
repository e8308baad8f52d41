-- The generated program has its typed tree.
use Rattle.std.proofs.Common.{◌≡◌, refl, [], ◌∷◌, ℕ, Bool, List, true, false, Some, None}
use Rattle.std.specs.Prelude.{Ok, length, ◌++◌}
use Rattle.al_source.specs.declared.operators.BinOp.TheVariants as binary
use Rattle.al_source.specs.declared.source_tree.CType.TheVariants as type
use Rattle.al_source.specs.declared.source_tree.StmtKind.{StmtKind}
use Rattle.al_core.specs.declared.typed_tree.TExpr.TheVariants as e
use Rattle.al_core.specs.declared.typed_tree.TPlace.TheVariants as p
use Rattle.al_core.specs.declared.typed_tree.TKind.TheVariants as k
use Rattle.al_core.specs.declared.typed_tree.TKind.TheOpen.{TKind-F}
use Rattle.al_core.specs.declared.typed_tree.TKind.{TKind, roll-TKind}
use Rattle.al_core.specs.declared.typed_tree.TStmt.{TStmt}
use Rattle.al_core.specs.declared.typed_tree.TLocal.{TLocal}
use Rattle.al_core.specs.declared.typed_tree.TNote.{TNote}
use Rattle.al_ast.specs.Nodes.{program_nodes}
use Rattle.al_ast.proofs.Cases.{expr_counts, kind_counts, stmt_counts}
use Rattle.al_grammar.specs.Statements.{statement_of}
use Rattle.al_rules.specs.Layouts.{layout_of}
use Rattle.al_rules.specs.Programs.{items_checked, typed_with}
use Rattle.al_rules.specs.Scopes.{Known, Binding, known_of, is_declared}
use Rattle.al_rules.specs.Statements.{statements, is_void}
use Rattle.al_rules.specs.Operands.{used, integer, scalar, fitting, binary, called, indexed}
use Rattle.al_rules.specs.Walks.{Progress, bind, pure, checks, get_scope, set_scope, add_local, begin_loop, end_loop}
use Rattle.al_rules.proofs.LayoutNodes.{words_nodes}
use Rattle.al_rules.proofs.TypeNodes.{part_nodes, form_nodes, known_nodes}
use Rattle.al_rules.proofs.ExpressionNodes.{operand_nodes}
use Rattle.al_rules.proofs.StatementNodes as nodes
use Rattle.al_rules.proofs.StatementNodes.{sort_nodes}
use Rattle.al_runs_laws.specs.Small.{number}
use Rattle.al_source_facts.specs.Generated as source
use Rattle.al_source_facts.specs.Generated.{program, n_name, s_name, i_name, k_name}
use Rattle.al_source_facts.specs.GeneratedTree as typed
use Rattle.al_source_facts.specs.GeneratedTree.{tree, layout, main, note, named}
use Rattle.al_source_facts.proofs.Steps.{stands, step}

pub lays : layout_of program ≡ Ok layout
unfolding layout_of
lays = simp words_nodes

counts : program_nodes program ≡ 43
counts = simp (stmt_counts, kind_counts, expr_counts)

checked : items_checked program.items [] program.items ≡ Ok tt
checked = simp (form_nodes, known_nodes)

-- ---- its states

abbrev known : Known
known = known_of layout program.items

abbrev binding : List ℕ → ℕ → Binding
binding name n = record { name = name; number = n; ty = type.Int }

abbrev of_function : List Binding
of_function = binding s_name 1 ∷ binding n_name 0 ∷ []

abbrev two : List TLocal
two = named n_name ∷ named s_name ∷ []

abbrev three : List TLocal
three = named n_name ∷ named s_name ∷ named i_name ∷ []

abbrev state : List Binding → List Binding → List TLocal → List TNote → Progress
state inner outer locals loops = record { scope = record { inner = inner; outer = outer }; locals = locals; loops = loops }

abbrev begun : Progress
begun = state [] [] [] []

abbrev one_local : Progress
one_local = state (binding n_name 0 ∷ []) [] (named n_name ∷ []) []

abbrev two_locals : Progress
two_locals = state of_function [] two []

-- in the annotated loop, where its body may stand, and in the body
abbrev looping : List TNote → Progress
looping loops = state (binding i_name 2 ∷ []) of_function three loops

abbrev inside : List TNote → Progress
inside loops = state [] (binding i_name 2 ∷ of_function) three loops

abbrev looped : Progress
looped = state of_function [] three (note ∷ [])

abbrev printing : Progress
printing = state (binding k_name 3 ∷ []) of_function main.locals (note ∷ [])

abbrev ended : Progress
ended = state of_function [] main.locals (note ∷ [])

-- ---- the statements

abbrev Walks : ℕ → StmtKind → Bool → Progress → TKind-F TKind TStmt → Progress → Type 0
Walks line d looped s k z = stands known 0 type.Int line d looped s (roll-TKind k) z

declares_n : Walks 3 (source.declare n_name source.inputs) false begun (typed.sets 0 typed.inputs) one_local
unfolding bind pure checks add_local fitting integer used called
declares_n =
    step known 0 type.Int 3 _ false begun _ _ _ (nodes.walks-Declare known 0 type.Int type.Int n_name (Some source.inputs) 3 false)
    (simp (operand_nodes, part_nodes, form_nodes, known_nodes, type.outs-Int, k.rolls-SetLocal, e.rolls-Inputs))

module _ (line : ℕ) (name : List ℕ) where
  declares_zero : (s : Progress) → is_declared name s.scope ≡ false
      → Walks line (source.declare name (source.number 0)) false s (typed.sets (length s.locals) (number 0))
      (state (binding name (length s.locals) ∷ s.scope.inner) s.scope.outer (s.locals ++ named name ∷ []) s.loops)
  unfolding bind pure checks add_local fitting integer used
  declares_zero s is =
      step known 0 type.Int line _ false s _ _ _ (nodes.walks-Declare known 0 type.Int type.Int name (Some (source.number 0)) line false)
      (simp (is, operand_nodes, part_nodes, form_nodes, known_nodes, type.outs-Int, k.rolls-SetLocal, e.rolls-Number))

counts_one : (loops : List TNote) → Walks 7 source.counts true (inside loops) typed.counts (inside loops)
unfolding bind pure checks integer used called binary indexed
counts_one loops =
    step known 0 type.Int 7 _ true (inside loops) _ _ _ (nodes.walks-Update known 0 type.Int binary.Add source.slot (source.number 1) 7 true)
    (simp (
      operand_nodes,
      part_nodes,
      words_nodes,
      type.outs-Int,
      k.rolls-UpdateAt,
      e.rolls-Number,
      e.rolls-Local,
      e.rolls-Input,
      e.rolls-Binary,
      p.rolls-Global,
      p.rolls-Elem,
    ))

adds : (loops : List TNote) → Walks 8 source.sums true (inside loops) typed.sums (inside loops)
unfolding bind pure checks integer used called
adds loops =
    step known 0 type.Int 8 _ true (inside loops) _ _ _ (nodes.walks-Update known 0 type.Int binary.Add source.s source.input 8 true)
    (simp (operand_nodes, part_nodes, type.outs-Int, k.rolls-UpdateLocal, e.rolls-Local, e.rolls-Input))

block : (loops : List TNote) → Walks 6 source.body true (looping loops) typed.body (looping loops)
unfolding bind pure get_scope set_scope
block loops =
    step known 0 type.Int 6 _ true (looping loops) _ _ _ (nodes.walks-Block known 0 type.Int source.body_stmts 6 true)
    (simp (counts_one loops, adds loops, k.rolls-Block))

advances_i : (loops : List TNote) → Walks 6 (source.next source.i) false (looping loops) (typed.next 2) (looping loops)
unfolding bind pure checks integer used
advances_i loops =
    step known 0 type.Int 6 _ false (looping loops) _ _ _ (nodes.walks-Update known 0 type.Int binary.Add source.i (source.number 1) 6 false)
    (simp (operand_nodes, part_nodes, k.rolls-UpdateLocal, e.rolls-Number))

runs_loop : Walks 6 source.loop false two_locals typed.loop looped
unfolding bind pure checks get_scope set_scope begin_loop end_loop scalar integer used binary
runs_loop =
    step known 0 type.Int 6 _ false two_locals _ _ _
    (nodes.walks-For known 0 type.Int (Some (statement_of 6 (source.declare i_name (source.number 0))))
    (Some (source.less source.i source.n)) (Some (statement_of 6 (source.next source.i))) (statement_of 6 source.body) (Some source.note) 6 false)
    (simp (
      declares_zero 6 i_name (state [] of_function two []) refl,
      advances_i [],
      block (note ∷ []),
      operand_nodes,
      sort_nodes,
      part_nodes,
      type.outs-Int,
      k.rolls-For,
      e.rolls-Number,
      e.rolls-Local,
      e.rolls-Binary,
    ))

prints_slot : Walks 10 source.print_slot true printing typed.print_slot printing
unfolding bind pure checks integer used indexed
prints_slot =
    step known 0 type.Int 10 _ true printing _ _ _ (nodes.walks-Print known 0 type.Int source.slot_format (source.shown ∷ []) 10 true)
    (simp (operand_nodes, part_nodes, words_nodes, type.outs-Int, k.rolls-Print, e.rolls-Local, e.rolls-Load, p.rolls-Global, p.rolls-Elem))

advances_k : Walks 10 (source.next source.k) false printing (typed.next 3) printing
unfolding bind pure checks integer used
advances_k =
    step known 0 type.Int 10 _ false printing _ _ _ (nodes.walks-Update known 0 type.Int binary.Add source.k (source.number 1) 10 false)
    (simp (operand_nodes, part_nodes, k.rolls-UpdateLocal, e.rolls-Number))

prints_all : Walks 10 source.prints false looped typed.prints ended
unfolding bind pure checks get_scope set_scope scalar integer used binary
prints_all =
    step known 0 type.Int 10 _ false looped _ _ _
    (nodes.walks-For known 0 type.Int (Some (statement_of 10 (source.declare k_name (source.number 0))))
    (Some (source.less source.k (source.number 16))) (Some (statement_of 10 (source.next source.k))) (statement_of 10 source.print_slot) None 10 false)
    (simp (
      declares_zero 10 k_name (state [] of_function three (note ∷ [])) refl,
      advances_k,
      prints_slot,
      operand_nodes,
      sort_nodes,
      type.outs-Int,
      k.rolls-For,
      e.rolls-Number,
      e.rolls-Local,
      e.rolls-Binary,
    ))

prints_sum : Walks 11 source.print_sum false ended typed.print_sum ended
unfolding bind pure checks integer used
prints_sum =
    step known 0 type.Int 11 _ false ended _ _ _ (nodes.walks-Print known 0 type.Int source.sum_format (source.s ∷ []) 11 false)
    (simp (operand_nodes, type.outs-Int, k.rolls-Print, e.rolls-Local))

returns : Walks 12 source.result false ended (TKind-F.Return (Some (number 0))) ended
unfolding bind pure checks fitting integer used is_void
returns =
    step known 0 type.Int 12 _ false ended _ _ _ (nodes.walks-Return known 0 type.Int (Some (source.number 0)) 12 false)
    (simp (operand_nodes, type.outs-Int, k.rolls-Return, e.rolls-Number))

body_is_typed : statements known 0 type.Int false source.main.body begun ≡ Ok (main.body, ended)
unfolding bind pure
body_is_typed = simp (declares_n, declares_zero 4 s_name one_local refl, runs_loop, prints_all, prints_sum, returns)

pub is_typed : typed_with layout program ≡ Ok tree
unfolding typed_with
is_typed = simp (checked, body_is_typed, counts, words_nodes, part_nodes)
