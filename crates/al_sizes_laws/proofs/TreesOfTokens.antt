-- Induction over the trees that the grammar derives from tokens whose numbers have 64 bits: each number in such a tree
-- has 64 bits.
use Rattle.std.proofs.Common.{◌≡◌, ℕ, true, List, [], ◌∷◌, Option, Some, None, refl, subst}
use Rattle.std.specs.Prelude.{ℤ, pos}
use Rattle.std.specs.List.{AllByRecursion}
use Rattle.al_source.specs.declared.tokens.TokenKind.{TokenKind}
use Rattle.al_source.specs.declared.tokens.Key.TheVariants as key
use Rattle.al_grammar.specs.Words.{key_text}
use Rattle.al_source.specs.declared.operators.RedOp.{RedOp}
use Rattle.al_source.specs.declared.annotations.Policy.{Policy}
use Rattle.al_source.specs.declared.annotations.CommitOrder.{CommitOrder}
use Rattle.al_source.specs.declared.annotations.LoopNote.{LoopNote}
use Rattle.al_source.specs.declared.annotations.NamedRed.{NamedRed}
use Rattle.al_source.specs.declared.source_tree.CType.{CType}
use Rattle.al_source.specs.declared.source_tree.Field.{Field}
use Rattle.al_source.specs.declared.source_tree.Expr.{Expr}
use Rattle.al_source.specs.declared.source_tree.Stmt.{Stmt}
use Rattle.al_source.specs.declared.source_tree.StmtKind.{StmtKind}
use Rattle.al_source.specs.declared.source_tree.StmtKind.TheVariants as s
use Rattle.al_grammar.specs.declared.operators.Joint.{Joint}
use Rattle.al_grammar.specs.declared.operators.Joint.TheVariants as joint
use Rattle.al_grammar.specs.declared.operators.Prefix.{Prefix}
use Rattle.al_grammar.specs.declared.operators.Prefix.TheVariants as prefix
use Rattle.al_grammar.specs.Operators.{join, apply}
use Rattle.al_grammar.specs.Phrases.{Tokens, Takes, Means, Optional}
use Rattle.al_grammar.specs.Phrases as ph
use Rattle.al_grammar.specs.Types.{Base, Stars, Dimensions, Declarator, SizeOf}
use Rattle.al_grammar.specs.Types as ty
use Rattle.al_grammar.specs.Expressions.{State, Reads, Arguments, More, Expression, Place}
use Rattle.al_grammar.specs.Expressions as x
use Rattle.al_grammar.specs.Statements.{statement_of, one, Values, CallValues, PrintValues, Parenthesized, Simple, NotePolicy, NoteOrder, Reduced, Reductions, Note, Maybe, First, Third, Head, Initializer, Locals, Statement, Inner, Inners}
use Rattle.al_grammar.specs.Statements as g
use Rattle.al_rules.specs.Names.{Name, AllOf}
use Rattle.al_rules.specs.Names as n
use Rattle.al_rules_laws.proofs.SourceInduction.{IfAny, absent, present}
use Rattle.al_rules_laws.proofs.LoopEntries.{all_append}
use Rattle.al_graded_laws.specs.InRange.{has_64_bits}
use Rattle.al_runs_laws.proofs.NumberedTrees.{ExprCases, StmtCases}
use Rattle.al_sizes_laws.proofs.TokenNumbers.{KindSized, TokenSized}

-- ---- phrases leave tokens whose numbers have 64 bits

-- a number
abbrev pub Sized : ℤ → Type 0
Sized m = has_64_bits m ≡ true

abbrev pub Good : Tokens → Type 0
Good = AllByRecursion TokenSized

pub takes_kind : {k : TokenKind} {ts us : Tokens} → Takes k ts us → Good ts → KindSized k
takes_kind (ph.takes e) h = subst KindSized e h.0

pub takes : {k : TokenKind} {ts us : Tokens} → Takes k ts us → Good ts → Good us
takes (ph.takes e) h = h.1

pub means : {A : Type 0} {table : TokenKind → Option A} {a : A} {ts us : Tokens} → Means table a ts us → Good ts → Good us
means (ph.means e) h = h.1

optional : {k : TokenKind} {ts us : Tokens} → Optional k ts us → Good ts → Good us
optional ph.left_out h = h
optional (ph.written t) h = takes t h

pub base : {a : CType} {ts us : Tokens} → Base ts a us → Good ts → Good us
base (ty.int t) h = takes t h
base (ty.long t u v) h = optional v (optional u (takes t h))
base (ty.structure t u) h = takes u (takes t h)

pub stars : {k : ℕ} {a b : CType} {ts us : Tokens} → Stars k a ts b us → Good ts → Good us
stars ty.none h = h
stars (ty.star t r) h = stars r (takes t h)

dimensions : {k : ℕ} {a b : CType} {ts us : Tokens} → Dimensions k a ts b us → Good ts → Good us
dimensions ty.none h = h
dimensions (ty.dimension t u l m v r) h = dimensions r (takes v (takes u (takes t h)))

pub declarator : {a : CType} {f : Field} {ts us : Tokens} → Declarator a ts f us → Good ts → Good us
declarator (ty.declarator r t d) h = dimensions d (takes t (stars r h))

size_of : {a : CType} {ts us : Tokens} → SizeOf ts a us → Good ts → Good us
size_of (ty.size_of t u b r v) h = takes v (stars r (base b (takes u (takes t h))))

-- ---- expressions

-- a phrase with a fact, which leaves tokens whose numbers have 64 bits
abbrev pub Found : Type 0 → Tokens → Type 0
Found F us = F × Good us

module _ (P : Expr → Type 0) (c : ExprCases Sized P) where
  joined : (op : Joint) (y z : Expr) → P y → P z → P (join op y z)
  joined joint.Or y z h i = c.either y z h i
  joined joint.And y z h i = c.both y z h i
  joined (joint.Op op) y z h i = c.binary op y z h i

  applied : (op : Prefix) (y : Expr) → P y → P (apply op y)
  applied (prefix.Op op) y h = c.unary op y h
  applied prefix.Deref y h = c.deref y h
  applied prefix.Address y h = c.address y h

  mutual
    reads : {j : x.Sort} {s s' : State} {y : Expr} → Reads j s y s' → Good s.1 → Found (P y) s'.1
    reads (x.joined {x = y} {y = z} {op = op} r t q) h =
        let a = reads r h in let b = reads q (means t a.1) in (joined op y z a.0 b.0, b.1)
    reads (x.tighter lt r) h = reads r h
    reads (x.operand r) h = reads r h
    reads (x.prefixed {x = y} {op = op} t r) h = let a = reads r (means t h) in (applied op y a.0, a.1)
    reads (x.plain r) h = reads r h
    reads (x.index {x = y} {i = i} r t q u) h =
        let a = reads r h in let b = reads q (takes t a.1) in (c.index y i a.0 b.0, takes u b.1)
    reads (x.dot {x = y} {w = w} r t u) h = let a = reads r h in (c.dot y w a.0, takes u (takes t a.1))
    reads (x.arrow {x = y} {w = w} r t u) h = let a = reads r h in (c.arrow y w a.0, takes u (takes t a.1))
    reads (x.bare r) h = reads r h
    reads (x.number {v = v} t) h = (c.number v (takes_kind t h), takes t h)
    reads (x.null t) h = (c.null, takes t h)
    reads (x.variable {w = w} t) h = (c.variable w, takes t h)
    reads (x.call {w = w} {xs = ys} t u r) h = let a = arguments r (takes u (takes t h)) in (c.call w ys a.0, a.1)
    reads (x.group t r u) h = let a = reads r (takes t h) in (a.0, takes u a.1)
    reads (x.size {a = a} z) h = (c.size a, size_of z h)
    reads (x.allocation {x = y} {a = a} t u r v z w) h =
        let b = reads r (takes u (takes t h)) in (c.allocation y a b.0, takes w (size_of z (takes v b.1)))

    arguments : {s s' : State} {ys : List Expr} → Arguments s ys s' → Good s.1 → Found (AllOf P ys) s'.1
    arguments (x.none t) h = (n.none, takes t h)
    arguments (x.some r) h = more r h

    more : {s s' : State} {ys : List Expr} → More s ys s' → Good s.1 → Found (AllOf P ys) s'.1
    more (x.last r t) h = let a = reads r h in (n.more a.0 n.none, takes t a.1)
    more (x.more r t q) h = let a = reads r h in let b = more q (takes t a.1) in (n.more a.0 b.0, b.1)

  expression : {ts us : Tokens} {y : Expr} → Expression ts y us → Good ts → Found (P y) us
  expression q h = reads q.reads h

  place : {ts us : Tokens} {y : Expr} → Place ts y us → Good ts → Found (P y) us
  place q h = reads q.reads h

  one_has : P one
  one_has = c.number (pos 1) refl

  -- ---- parts of statements

  values : {ts us : Tokens} {ys : List Expr} → Values ts ys us → Good ts → Found (AllOf P ys) us
  values (g.last q t) h = let a = expression q h in (n.more a.0 n.none, takes t a.1)
  values (g.more q t r) h = let a = expression q h in let b = values r (takes t a.1) in (n.more a.0 b.0, b.1)

  call_values : {ts us : Tokens} {ys : List Expr} → CallValues ts ys us → Good ts → Found (AllOf P ys) us
  call_values (g.none t) h = (n.none, takes t h)
  call_values (g.some r) h = values r h

  print_values : {ts us : Tokens} {ys : List Expr} → PrintValues ts ys us → Good ts → Found (AllOf P ys) us
  print_values (g.none t) h = (n.none, takes t h)
  print_values (g.some t r) h = values r (takes t h)

  parenthesized : {ts us : Tokens} {y : Expr} → Parenthesized ts y us → Good ts → Found (P y) us
  parenthesized (g.parenthesized t q u) h = let a = expression q (takes t h) in (a.0, takes u a.1)

  maybe : {ts us : Tokens} {y : Option Expr} → Maybe ts y us → Good ts → Found (IfAny P y) us
  maybe g.nothing h = (absent, h)
  maybe (g.just q) h = let a = expression q h in (present a.0, a.1)

  initializer : {ts us : Tokens} {y : Option Expr} → Initializer ts y us → Good ts → Found (IfAny P y) us
  initializer g.nothing h = (absent, h)
  initializer (g.just t q) h = let a = expression q (takes t h) in (present a.0, a.1)

-- ---- annotations

policy : {ts us : Tokens} {a : Policy} → NotePolicy ts a us → Good ts → Good us
policy g.absent h = h
policy (g.written t) h = means t h

order : {ts us : Tokens} {a : CommitOrder} → NoteOrder ts a us → Good ts → Good us
order g.absent h = h
order (g.written t) h = means t h

reduced : {op : RedOp} {ts us : Tokens} {rs : List NamedRed} → Reduced op ts rs us → Good ts → Good us
reduced (g.last t u) h = takes u (takes t h)
reduced (g.more t u r) h = reduced r (takes u (takes t h))

reductions : {ts us : Tokens} {rs : List NamedRed} → Reductions ts rs us → Good ts → Good us
reductions g.none h = h
reductions (g.reduce a b d f r q) h = reductions q (reduced r (takes f (means d (takes b (means a h)))))

note : {ts us : Tokens} {a : LoopNote} → Note ts a us → Good ts → Good us
note (g.note p o r) h = reductions r (order o (policy p h))

-- ---- statements

-- the parts of a loop's head
pub record HeadParts (P : Expr → Type 0) (S : Stmt → Type 0) (a : Option Stmt) (b : Option Expr) (d : Option Stmt) : Type 0 where
  pub first : IfAny S a
  pub test : IfAny P b
  pub third : IfAny S d

module _ (P : Expr → Type 0) (c : ExprCases Sized P) (S : Stmt → Type 0) (K : StmtKind → Type 0) (d : StmtCases P S K) where
  simple : {ts us : Tokens} {k : StmtKind} → Simple ts k us → Good ts → Found (K k) us
  simple (g.assign {x = x} {y = y} q t r) h =
      let a = place P c q h in let b = expression P c r (takes t a.1) in (d.assign x y a.0 b.0, b.1)
  simple (g.update {x = x} {y = y} {op = op} q t r) h =
      let a = place P c q h in let b = expression P c r (means t a.1) in (d.update op x y a.0 b.0, b.1)
  simple (g.step_after {x = x} {op = op} q t) h = let a = place P c q h in (d.update op x one a.0 (one_has P c), means t a.1)
  simple (g.step_before {x = x} {op = op} t q) h = let a = place P c q (means t h) in (d.update op x one a.0 (one_has P c), a.1)
  simple (g.call {w = w} {xs = xs} t u r) h = let a = call_values P c r (takes u (takes t h)) in (d.call w xs a.0, a.1)
  simple (g.print {f = f} {xs = xs} t u v r) h = let a = print_values P c r (takes v (takes u (takes t h))) in (d.print f xs a.0, a.1)
  simple (g.free {x = x} t q) h = let a = parenthesized P c q (takes t h) in (d.call (key_text key.Free) (x ∷ []) (n.more a.0 n.none), a.1)

  first : {ts us : Tokens} {a : Option Stmt} → First ts a us → Good ts → Found (IfAny S a) us
  first g.nothing h = (absent, h)
  first (g.declares {f = f} {x = x} b r t q) h =
      let a = expression P c q (takes t (declarator r (base b h))) in
      (present (d.stmt _ (s.Declare f.ty f.name (Some x)) (d.declare f.ty f.name (Some x) (present a.0))), a.1)
  first (g.simple {k = k} r) h = let a = simple r h in (present (d.stmt _ k a.0), a.1)

  third : {ts us : Tokens} {a : Option Stmt} → Third ts a us → Good ts → Found (IfAny S a) us
  third g.nothing h = (absent, h)
  third (g.simple {k = k} r) h = let a = simple r h in (present (d.stmt _ k a.0), a.1)

  head : {ts us : Tokens} {a b : Option Stmt} {v : Option Expr} → Head ts a v b us → Good ts → Found (HeadParts P S a v b) us
  head (g.head f o a t v u b r) h =
      let x = first a (takes o (takes f h)) in
      let y = maybe P c v (takes t x.1) in
      let z = third b (takes u y.1) in
      (record { first = x.0; test = y.0; third = z.0 }, takes r z.1)

  locals : {line : ℕ} {a : CType} {ts us : Tokens} {ss : List Stmt} → Locals line a ts ss us → Good ts → Found (AllOf S ss) us
  locals (g.last {f = f} {x = x} r i t) h =
      let a = initializer P c i (declarator r h) in
      (n.more (d.stmt _ (s.Declare f.ty f.name x) (d.declare f.ty f.name x a.0)) n.none, takes t a.1)
  locals (g.more {f = f} {x = x} r i t q) h =
      let a = initializer P c i (declarator r h) in
      let b = locals q (takes t a.1) in
      (n.more (d.stmt _ (s.Declare f.ty f.name x) (d.declare f.ty f.name x a.0)) b.0, b.1)

  for_of : (a : Option Stmt) (v : Option Expr) (b : Option Stmt) (y : Stmt) (w : Option LoopNote) → HeadParts P S a v b → S y → K (s.For a v b y w)
  for_of a v b y w p h = d.for_loop a v b y w p.first p.test p.third h

  mutual
    statement : {k : ℕ} {ts us : Tokens} {y : Stmt} → Statement k ts y us → Good ts → Found (S y) us
    statement (g.empty t) h = (d.stmt _ s.Empty d.empty, takes t h)
    statement (g.block {ss = ss} t r u) h = let a = inners r (takes t h) in (d.stmt _ (s.Block ss) (d.block ss a.0), takes u a.1)
    statement (g.simple {k = k} r t) h = let a = simple r h in (d.stmt _ k a.0, takes t a.1)
    statement (g.if_only {c = v} {x = y} t q r e) h =
        let a = parenthesized P c q (takes t h) in
        let b = statement r a.1 in
        (d.stmt _ (s.If v y None) (d.choice v y None a.0 b.0 absent), b.1)
    statement (g.if_else {c = v} {x = y} {y = z} t q r u p) h =
        let a = parenthesized P c q (takes t h) in
        let b = statement r a.1 in
        let f = statement p (takes u b.1) in
        (d.stmt _ (s.If v y (Some z)) (d.choice v y (Some z) a.0 b.0 (present f.0)), f.1)
    statement (g.while_loop {c = v} {x = y} t q r) h =
        let a = parenthesized P c q (takes t h) in
        let b = statement r a.1 in
        (d.stmt _ (s.While v y) (d.while_loop v y a.0 b.0), b.1)
    statement (g.for_loop {first = i} {third = j} {test = v} {x = y} q r) h =
        let a = head q h in
        let b = statement r a.1 in
        (d.stmt _ (s.For i v j y None) (for_of i v j y None a.0 b.0), b.1)
    statement (g.noted_loop {n = w} {first = i} {third = j} {test = v} {x = y} t m u q r) h =
        let a = head q (takes u (note m (takes t h))) in
        let b = statement r a.1 in
        (d.stmt _ (s.For i v j y (Some w)) (for_of i v j y (Some w) a.0 b.0), b.1)
    statement (g.return_value {x = y} t q u) h =
        let a = maybe P c q (takes t h) in (d.stmt _ (s.Return y) (d.returns y a.0), takes u a.1)
    statement (g.break_loop t u) h = (d.stmt _ s.Break d.breaks, takes u (takes t h))
    statement (g.continue_loop t u) h = (d.stmt _ s.Continue d.continues, takes u (takes t h))

    inner : {k : ℕ} {ts us : Tokens} {ss : List Stmt} → Inner k ts ss us → Good ts → Found (AllOf S ss) us
    inner (g.declares b r) h = locals r (base b h)
    inner (g.statement r) h = let a = statement r h in (n.more a.0 n.none, a.1)

    pub inners : {k : ℕ} {ts us : Tokens} {ss : List Stmt} → Inners k ts ss us → Good ts → Found (AllOf S ss) us
    inners g.done h = (n.none, h)
    inners (g.next r q) h = let a = inner r h in let b = inners q a.1 in (all_append a.0 b.0, b.1)
