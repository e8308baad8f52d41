-- Nothing that may stand in a block begins with `else`.
use Rattle.std.proofs.Common.{◌≡◌, ℕ, true, false, List, Some, refl, ap, ◌∙◌}
use Rattle.al_source.specs.declared.tokens.TokenKind.{TokenKind}
use Rattle.al_source.specs.declared.tokens.TokenKind.TheVariants.{Key}
use Rattle.al_source.specs.declared.tokens.Key.TheVariants as key
use Rattle.al_source.specs.declared.source_tree.CType.{CType}
use Rattle.al_source.specs.declared.source_tree.Expr.{Expr}
use Rattle.al_source.specs.declared.source_tree.Stmt.{Stmt}
use Rattle.al_source.specs.declared.source_tree.StmtKind.{StmtKind}
use Rattle.al_grammar.specs.Operators.{prefix_of, step_of}
use Rattle.al_grammar.specs.Phrases.{Tokens, Takes, takes, Means, means}
use Rattle.al_grammar.specs.Types.{Base, SizeOf}
use Rattle.al_grammar.specs.Types as t
use Rattle.al_grammar.specs.Expressions.{State, Sort, Reads}
use Rattle.al_grammar.specs.Expressions as g
use Rattle.al_grammar.specs.Statements.{is_else, else_next, Simple, Head, Statement, Inner, Inners}
use Rattle.al_grammar.specs.Statements as s

pub takes_other : {k : TokenKind} {ts us : Tokens} → Takes k ts us → is_else k ≡ false → else_next ts ≡ false
takes_other (takes d) e = ap is_else d ∙ e

pub takes_else : {ts us : Tokens} → Takes (Key key.Else) ts us → else_next ts ≡ true
takes_else (takes d) = ap is_else d

prefix_other : (k : TokenKind) {op : _} → prefix_of k ≡ Some op → is_else k ≡ false
prefix_other (Key key.Else) d = absurd cc
prefix_other _ d = refl

step_other : (k : TokenKind) {op : _} → step_of k ≡ Some op → is_else k ≡ false
step_other (Key key.Else) d = absurd cc
step_other _ d = refl

means_prefix : {op : _} {ts us : Tokens} → Means prefix_of op ts us → else_next ts ≡ false
means_prefix (means {t = t} d) = prefix_other t.kind d

means_step : {op : _} {ts us : Tokens} → Means step_of op ts us → else_next ts ≡ false
means_step (means {t = t} d) = step_other t.kind d

size_other : {ts us : Tokens} {a : CType} → SizeOf ts a us → else_next ts ≡ false
size_other (t.size_of k _ _ _ _) = takes_other k refl

reads_other : {j : Sort} {s s' : State} {x : Expr} → Reads j s x s' → else_next s.1 ≡ false
reads_other (g.joined r _ _) = reads_other r
reads_other (g.tighter _ r) = reads_other r
reads_other (g.operand r) = reads_other r
reads_other (g.prefixed k _) = means_prefix k
reads_other (g.plain r) = reads_other r
reads_other (g.index r _ _ _) = reads_other r
reads_other (g.dot r _ _) = reads_other r
reads_other (g.arrow r _ _) = reads_other r
reads_other (g.bare r) = reads_other r
reads_other (g.number k) = takes_other k refl
reads_other (g.null k) = takes_other k refl
reads_other (g.variable k) = takes_other k refl
reads_other (g.call k _ _) = takes_other k refl
reads_other (g.group k _ _) = takes_other k refl
reads_other (g.size z) = size_other z
reads_other (g.allocation k _ _ _ _ _) = takes_other k refl

base_other : {ts us : Tokens} {a : CType} → Base ts a us → else_next ts ≡ false
base_other (t.int k) = takes_other k refl
base_other (t.long k _ _) = takes_other k refl
base_other (t.structure k _) = takes_other k refl

simple_other : {ts us : Tokens} {k : StmtKind} → Simple ts k us → else_next ts ≡ false
simple_other (s.assign p _ _) = reads_other p.reads
simple_other (s.update p _ _) = reads_other p.reads
simple_other (s.step_after p _) = reads_other p.reads
simple_other (s.step_before k _) = means_step k
simple_other (s.call k _ _) = takes_other k refl
simple_other (s.print k _ _ _) = takes_other k refl
simple_other (s.free k _) = takes_other k refl

head_other : {ts us : Tokens} {a b c : _} → Head ts a b c us → else_next ts ≡ false
head_other (s.head k _ _ _ _ _ _ _) = takes_other k refl

statement_other : {d : ℕ} {ts us : Tokens} {x : Stmt} → Statement d ts x us → else_next ts ≡ false
statement_other (s.empty k) = takes_other k refl
statement_other (s.block k _ _) = takes_other k refl
statement_other (s.simple q _) = simple_other q
statement_other (s.if_only k _ _ _) = takes_other k refl
statement_other (s.if_else k _ _ _ _) = takes_other k refl
statement_other (s.while_loop k _ _) = takes_other k refl
statement_other (s.for_loop q _) = head_other q
statement_other (s.noted_loop k _ _ _ _) = takes_other k refl
statement_other (s.return_value k _ _) = takes_other k refl
statement_other (s.break_loop k _) = takes_other k refl
statement_other (s.continue_loop k _) = takes_other k refl

inner_other : {d : ℕ} {ts us : Tokens} {ss : List Stmt} → Inner d ts ss us → else_next ts ≡ false
inner_other (s.declares q _) = base_other q
inner_other (s.statement q) = statement_other q

pub inners_other : {d : ℕ} {ts us : Tokens} {ss : List Stmt} → Inners d ts ss us → else_next us ≡ false → else_next ts ≡ false
inners_other s.done e = e
inners_other (s.next i _) e = inner_other i
