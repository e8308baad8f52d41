-- Each statement takes tokens.
use Rattle.std.proofs.Common.{ℕ, ◌<◌, ◌≤◌, false, List, length, Option, arith}
use Rattle.al_source.specs.declared.source_tree.Expr.{Expr}
use Rattle.al_source.specs.declared.source_tree.Stmt.{Stmt}
use Rattle.al_source.specs.declared.source_tree.StmtKind.{StmtKind}
use Rattle.al_source.specs.declared.source_tree.CType.{CType}
use Rattle.al_source.specs.declared.annotations.LoopNote.{LoopNote}
use Rattle.al_source.specs.declared.annotations.NamedRed.{NamedRed}
use Rattle.al_source.specs.declared.annotations.Policy.{Policy}
use Rattle.al_source.specs.declared.annotations.CommitOrder.{CommitOrder}
use Rattle.al_grammar.specs.Phrases.{Tokens}
use Rattle.al_grammar.specs.Statements.{Values, CallValues, PrintValues, Simple, NotePolicy, NoteOrder, Reductions, Note, Maybe, First, Third, Head, Parenthesized, Locals, Statement, Inner, Inners}
use Rattle.al_grammar.specs.Statements as g
use Rattle.al_grammar.specs.StatementParser as p
use Rattle.al_grammar.proofs.StepFacts.{takes_shorter, means_shorter}
use Rattle.al_grammar.proofs.TypeFacts.{base_shorter, declarator_shorter}
use Rattle.al_grammar.proofs.Wider.{expression_shorter, place_shorter}
use Rattle.al_grammar.proofs.SoundStatements.{reduced_shorter, initializer_shorter, sound_statement, InnerTurn, again}

values_shorter : {ts us : Tokens} {xs : List Expr} → Values ts xs us → length us < length ts
values_shorter (g.last q t) = let a = expression_shorter q in let b = takes_shorter t in omega arith
values_shorter (g.more q t r) = let a = expression_shorter q in let b = takes_shorter t in let c = values_shorter r in omega arith

call_values_shorter : {ts us : Tokens} {xs : List Expr} → CallValues ts xs us → length us < length ts
call_values_shorter (g.none t) = takes_shorter t
call_values_shorter (g.some r) = values_shorter r

print_values_shorter : {ts us : Tokens} {xs : List Expr} → PrintValues ts xs us → length us < length ts
print_values_shorter (g.none t) = takes_shorter t
print_values_shorter (g.some t r) = let a = takes_shorter t in let b = values_shorter r in omega arith

parenthesized_shorter : {ts us : Tokens} {x : Expr} → Parenthesized ts x us → length us < length ts
parenthesized_shorter (g.parenthesized t q u) = let a = expression_shorter q in let b = takes_shorter t in let c = takes_shorter u in omega arith

pub simple_shorter : {ts us : Tokens} {k : StmtKind} → Simple ts k us → length us < length ts
simple_shorter (g.assign q t r) = let a = place_shorter q in let b = takes_shorter t in let c = expression_shorter r in omega arith
simple_shorter (g.update q t r) = let a = place_shorter q in let b = means_shorter t in let c = expression_shorter r in omega arith
simple_shorter (g.step_after q t) = let a = place_shorter q in let b = means_shorter t in omega arith
simple_shorter (g.step_before t q) = let a = place_shorter q in let b = means_shorter t in omega arith
simple_shorter (g.call t u r) = let a = takes_shorter t in let b = takes_shorter u in let c = call_values_shorter r in omega arith
simple_shorter (g.print t u f r) =
    let a = takes_shorter t in let b = takes_shorter u in let c = takes_shorter f in let d = print_values_shorter r in omega arith
simple_shorter (g.free t q) = let a = takes_shorter t in let b = parenthesized_shorter q in omega arith

policy_shorter : {ts us : Tokens} {a : Policy} → NotePolicy ts a us → length us ≤ length ts
policy_shorter g.absent = omega arith
policy_shorter (g.written t) = let a = means_shorter t in omega arith

order_shorter : {ts us : Tokens} {a : CommitOrder} → NoteOrder ts a us → length us ≤ length ts
order_shorter g.absent = omega arith
order_shorter (g.written t) = let a = means_shorter t in omega arith

reductions_shorter : {ts us : Tokens} {rs : List NamedRed} → Reductions ts rs us → length us ≤ length ts
reductions_shorter g.none = omega arith
reductions_shorter (g.reduce a b c d r q) =
    let x = means_shorter a in
    let y = takes_shorter b in
    let z = means_shorter c in
    let u = takes_shorter d in
    let v = reduced_shorter r in
    let w = reductions_shorter q in
    omega arith

note_shorter : {ts us : Tokens} {n : LoopNote} → Note ts n us → length us ≤ length ts
note_shorter (g.note a b r) = let x = policy_shorter a in let y = order_shorter b in let z = reductions_shorter r in omega arith

maybe_shorter : {ts us : Tokens} {x : Option Expr} → Maybe ts x us → length us ≤ length ts
maybe_shorter g.nothing = omega arith
maybe_shorter (g.just q) = let a = expression_shorter q in omega arith

first_shorter : {ts us : Tokens} {x : Option Stmt} → First ts x us → length us ≤ length ts
first_shorter g.nothing = omega arith
first_shorter (g.declares b d t q) =
    let x = base_shorter b in let y = declarator_shorter d in let z = takes_shorter t in let u = expression_shorter q in omega arith
first_shorter (g.simple s) = let a = simple_shorter s in omega arith

third_shorter : {ts us : Tokens} {x : Option Stmt} → Third ts x us → length us ≤ length ts
third_shorter g.nothing = omega arith
third_shorter (g.simple s) = let a = simple_shorter s in omega arith

head_shorter : {ts us : Tokens} {a c : Option Stmt} {b : Option Expr} → Head ts a b c us → length us < length ts
head_shorter (g.head f o a s b t c r) =
    let x = takes_shorter f in
    let y = takes_shorter o in
    let z = first_shorter a in
    let u = takes_shorter s in
    let v = maybe_shorter b in
    let w = takes_shorter t in
    let i = third_shorter c in
    let j = takes_shorter r in
    omega arith

locals_shorter : {line : ℕ} {a : CType} {ts us : Tokens} {ss : List Stmt} → Locals line a ts ss us → length us < length ts
locals_shorter (g.last d i t) = let x = declarator_shorter d in let y = initializer_shorter i in let z = takes_shorter t in omega arith
locals_shorter (g.more d i t r) =
    let x = declarator_shorter d in let y = initializer_shorter i in let z = takes_shorter t in let u = locals_shorter r in omega arith

mutual
  pub statement_shorter : {d : ℕ} {ts us : Tokens} {x : Stmt} → Statement d ts x us → length us < length ts
  statement_shorter (g.empty t) = takes_shorter t
  statement_shorter (g.block t r u) = let a = takes_shorter t in let b = inners_shorter r in let c = takes_shorter u in omega arith
  statement_shorter (g.simple s t) = let a = simple_shorter s in let b = takes_shorter t in omega arith
  statement_shorter (g.if_only t c s n) = let a = takes_shorter t in let b = parenthesized_shorter c in let d = statement_shorter s in omega arith
  statement_shorter (g.if_else t c s u q) =
      let a = takes_shorter t in
      let b = parenthesized_shorter c in
      let d = statement_shorter s in
      let f = takes_shorter u in
      let h = statement_shorter q in
      omega arith
  statement_shorter (g.while_loop t c s) = let a = takes_shorter t in let b = parenthesized_shorter c in let d = statement_shorter s in omega arith
  statement_shorter (g.for_loop h s) = let a = head_shorter h in let b = statement_shorter s in omega arith
  statement_shorter (g.noted_loop t n u h s) =
      let a = takes_shorter t in let b = note_shorter n in let c = takes_shorter u in let d = head_shorter h in let f = statement_shorter s in omega arith
  statement_shorter (g.return_value t x u) = let a = takes_shorter t in let b = maybe_shorter x in let c = takes_shorter u in omega arith
  statement_shorter (g.break_loop t u) = let a = takes_shorter t in let b = takes_shorter u in omega arith
  statement_shorter (g.continue_loop t u) = let a = takes_shorter t in let b = takes_shorter u in omega arith

  pub inner_shorter : {d : ℕ} {ts us : Tokens} {ss : List Stmt} → Inner d ts ss us → length us < length ts
  inner_shorter (g.declares b r) = let x = base_shorter b in let y = locals_shorter r in omega arith
  inner_shorter (g.statement s) = statement_shorter s

  pub inners_shorter : {d : ℕ} {ts us : Tokens} {ss : List Stmt} → Inners d ts ss us → length us ≤ length ts
  inners_shorter g.done = omega arith
  inners_shorter (g.next r q) = let a = inner_shorter r in let b = inners_shorter q in omega arith

pub turn_takes : (d : ℕ) (a b : List Stmt) (ts us : Tokens) → InnerTurn d (p.statement d) (sound_statement d) a ts ((b, false), us) → length us < length ts
turn_takes d a b ts us (again (rs, r, all)) = inner_shorter r
