-- Statements that are cut off can be completed, with the levels of nesting that are left.
use Rattle.std.proofs.Common.{◌≡◌, ℕ, zero, suc, Bool, true, false, List, [], ◌∷◌, ◌++◌, Option, Some, None, refl, subst, ◌⊎◌, inl, inr}
use Rattle.al_source.specs.declared.tokens.TokenKind.{TokenKind}
use Rattle.al_source.specs.declared.tokens.TokenKind.TheVariants.{Key, Mark, Alter}
use Rattle.al_source.specs.declared.tokens.Mark.TheVariants as m
use Rattle.al_source.specs.declared.tokens.Key.TheVariants as key
use Rattle.al_source.specs.declared.annotations.LoopNote.{LoopNote}
use Rattle.al_source.specs.declared.source_tree.Expr.{Expr}
use Rattle.al_source.specs.declared.source_tree.Stmt.{Stmt}
use Rattle.al_source.specs.declared.source_tree.StmtKind.{StmtKind}
use Rattle.al_source.specs.declared.source_tree.StmtKind.TheVariants as kind
use Rattle.al_source.specs.Steps.{bind}
use Rattle.al_grammar.specs.Phrases.{Tokens, Takes, takes, line_at}
use Rattle.al_grammar.specs.Statements.{at, Parenthesized, Head, Note, Maybe, Statement, Inner, Inners, is_else, else_next}
use Rattle.al_grammar.specs.Statements as g
use Rattle.al_grammar.specs.Steps.{kind_at, key_at, tail, is_mark}
use Rattle.al_grammar.specs.StatementParser as p
use Rattle.al_grammar.proofs.StepFacts.{kind_takes}
use Rattle.al_grammar.proofs.CompleteStatements.{inner_shorter_turn}
use Rattle.al_grammar_laws.proofs.Completion.{token_of, no_else, bare, Relation, Completed, Fine, On, Full, on_then, then, on_gives, gives, maps, on_maps, anywhere, looks, full, pures, refuses, skips, expects, repeats}
use Rattle.al_grammar_laws.proofs.CompletedSimple.{parentheses, simples, notes, end_notes, lines, maybes, heads, declarations}

-- a statement where so many levels may nest
abbrev pub SomeStatement : {A : Type 0} → ℕ → Relation Tokens A
SomeStatement d ts _ us = (x : Stmt) × Statement d ts x us

statement_phrase : {A : Type 0} (a : A) (d : ℕ) → Completed bare (SomeStatement {A = A} (suc d)) []
statement_phrase a d = record {
  more = token_of (Mark m.Semicolon) ∷ [];
  answer = a;
  end = tt;
  plain = refl;
  reads = λ zs z. (at (token_of (Mark m.Semicolon) ∷ zs) kind.Empty, g.empty (takes refl));
}

abbrev AKind : ℕ → Relation Tokens StmtKind
AKind d = SomeStatement {A = StmtKind} (suc d)

kind_phrase : (d : ℕ) → Completed bare (AKind d) []
kind_phrase d = statement_phrase kind.Empty d

-- ---- an `else`

else_takes : (ts : Tokens) → else_next ts ≡ true → Takes (Key key.Else) ts (tail ts)
else_takes [] d = absurd cc
else_takes (t ∷ ts) d = takes (by t.kind d)
  where
    by : (k : TokenKind) → is_else k ≡ true → k ≡ Key key.Else
    by (Key key.Else) d = refl
    by _ d = absurd cc

-- what stands behind the first branch
abbrev AfterBranch : ℕ → Relation Tokens StmtKind
AfterBranch d ts _ us = ((else_next ts ≡ false) × (ts ≡ us)) ⊎ ((k : Tokens) × Takes (Key key.Else) ts k × ((y : Stmt) × Statement d k y us))

if_of : (d : ℕ) (ts us vs ws zs : Tokens) (c : Expr) (x : Stmt) → Takes (Key key.If) ts us → Parenthesized us c vs → Statement d vs x ws
    → AfterBranch d ws kind.Empty zs → (s : Stmt) × Statement (suc d) ts s zs
if_of d ts us vs ws zs c x t q s (inl (plain, same)) =
    let made : Stmt = at ts (kind.If c x None) in (made, subst (λ zs. Statement (suc d) ts made zs) same (g.if_only t q s plain))
if_of d ts us vs ws zs c x t q s (inr (k, u, (y, r))) = (at ts (kind.If c x (Some y)), g.if_else t q s u r)

-- ---- what nests, where a level is left for it

abbrev Nested : ℕ → Type 0
Nested zero = Unit {0}
Nested (suc d) = Full bare (SomeStatement {A = Stmt} (suc d)) (p.statement (suc d))

elses : (d : ℕ) → Full bare (SomeStatement {A = Stmt} d) (p.statement d) → (c : Expr) (x : Stmt)
    → Full bare (AfterBranch d) (λ ts. p.else_by d (p.statement d) c x (else_next ts) ts)
elses d h c x =
    full (looks else_next (p.else_by d (p.statement d) c x) by)
    (λ _. record { more = []; answer = kind.Empty; end = tt; plain = refl; reads = λ zs z. inl (z, refl) })
  where
    by : (b : Bool) → On bare (λ ts. else_next ts ≡ b) (AfterBranch d) (p.else_by d (p.statement d) c x b)
    by true =
        on_gives (λ y. kind.If c x (Some y)) (λ ts _ us p. let (_, k, t, r) = p in inr (k, t, r)) (on_then (skips (λ ts d. else_takes ts d)) (λ _. h))
    by false = pures (kind.If c x None) (λ ts d zs z. inl (no_else ts zs d z, refl))

branches : (d : ℕ) → Nested d → On bare (λ ts. kind_at ts ≡ Some (Key key.If)) (AKind d) (p.branch d (p.statement d))
branches zero h = refuses (kind_phrase zero)
branches (suc d) h =
    on_maps (λ ts _ us p.
    let (c, vs, (_, k, t, (c', q)), (x, ws, (x', s), r)) = p in
    if_of (suc d) ts k vs ws us c' x' t q s r)
    (on_then (on_then (skips (λ ts d. kind_takes ts d)) (λ _. parentheses)) (λ c. then h (λ x. elses (suc d) h c x)))

whiles : (d : ℕ) → Nested d → On bare (λ ts. kind_at ts ≡ Some (Key key.While)) (AKind d) (p.while_loop d (p.statement d))
whiles zero h = refuses (kind_phrase zero)
whiles (suc d) h =
    on_maps (λ ts _ us p. let (c, vs, (_, k, t, (c', q)), (x', s)) = p in (at ts (kind.While c' x'), g.while_loop t q s))
    (on_then (on_then (skips (λ ts d. kind_takes ts d)) (λ _. parentheses))
    (λ c. gives {T = λ ts k us. SomeStatement {A = Stmt} (suc d) ts (at ts k) us} (λ x. kind.While c x) (λ ts x us p. p) h))

-- from the `for` on
abbrev AFor : ℕ → Relation Tokens StmtKind
AFor d ts _ us = (k : Tokens) × (a : _) × (b : _) × (c : _) × Head ts a b c k × ((x : Stmt) × Statement d k x us)

fors : (d : ℕ) → Full bare (SomeStatement {A = Stmt} d) (p.statement d) → (n : Option LoopNote) → Full bare (AFor d) (p.for_loop d (p.statement d) n)
fors d h n =
    maps (λ ts _ us p. let (_, k, (a, b, c, q), s) = p in (k, a, b, c, q, s))
    (then heads (λ q. gives {T = λ ts k us. SomeStatement {A = Stmt} d ts (at ts k) us} (λ x. kind.For q.0 q.1 q.2 x n) (λ ts x us p. p) h))

plain_fors : (d : ℕ) → Nested d → On bare (λ ts. kind_at ts ≡ Some (Key key.For)) (AKind d) (λ ts. bind (p.gate d ts) (λ _. p.for_loop d (p.statement d) None))
plain_fors zero h = refuses (kind_phrase zero)
plain_fors (suc d) h =
    anywhere (maps (λ ts _ us p. let (k, a, b, c, q, (x, s)) = p in (at ts (kind.For a b c x None), g.for_loop q s)) (fors (suc d) h None))

noted_loops : (d : ℕ) → Nested d
    → On bare (λ ts. kind_at ts ≡ Some Alter) (SomeStatement {A = Stmt} (suc d)) (p.noted_loop d (p.statement d))
noted_loops zero h = refuses (statement_phrase (at [] kind.Empty) zero)
noted_loops (suc d) h =
    on_maps (λ ts _ us p.
    let (_, l, (_, i, t, (n, q)), (_, k, u, (j, a, b, c, r, (x, s)))) = p in
    (at k (kind.For a b c x (Some n)), g.noted_loop t q u r s))
    (on_then (on_then (skips (λ ts d. kind_takes ts d)) (λ _. notes))
    (λ n. then end_notes (λ _. lines {T = λ ts x us. AFor (suc d) ts kind.Empty us} (λ ts k x us p. p) (fors (suc d) h (Some n)))))

-- ---- what stands in a block

abbrev InnerTurn : ℕ → Relation Tokens Bool
InnerTurn d ts true us = ts ≡ us
InnerTurn d ts false us = (ss : List Stmt) × Inner d ts ss us

abbrev SomeInners : ℕ → Tokens → Tokens → Type 0
SomeInners d ts us = (ss : List Stmt) × Inners d ts ss us

inners_stop : (d : ℕ) (ts us : Tokens) → InnerTurn d ts true us → SomeInners d ts us
inners_stop d ts us same = ([], subst (Inners d ts []) same g.done)

inners_next : (d : ℕ) (ts us vs : Tokens) → InnerTurn d ts false us → SomeInners d us vs → SomeInners d ts vs
inners_next d ts us vs (ss, i) (rs, r) = (ss ++ rs, g.next i r)

abbrev AnInner : ℕ → Relation Tokens (List Stmt)
AnInner d ts _ us = (ss : List Stmt) × Inner d ts ss us

inner_by_full : (d : ℕ) → Full bare (SomeStatement {A = Stmt} (suc d)) (p.statement (suc d)) → (ss : List Stmt) (b : Bool)
    → Full bare (AnInner (suc d)) (p.inner_by (suc d) (p.statement (suc d)) ss b)
inner_by_full d h ss true =
    maps (λ ts _ us p. let (a, k, b, l) = p in let (ss, r) = l (line_at ts) in (ss, g.declares b r)) (declarations ss)
inner_by_full d h ss false = gives (λ x. ss ++ x ∷ []) (λ ts _ us p. let (x, s) = p in (x ∷ [], g.statement s)) h

no_inner : (d : ℕ) (ss : List Stmt) → Completed bare (λ ts (r : List Stmt × Bool) us. InnerTurn d ts r.1 us) []
no_inner d ss = record { more = []; answer = (ss, true); end = tt; plain = refl; reads = λ zs z. refl }

-- an inner part, where it is no `}`
inner_on : (d : ℕ) → Nested d → (ss : List Stmt)
    → On bare (λ ts. is_mark m.RightBrace ts ≡ false) (λ ts r us. InnerTurn d ts r.1 us) (p.inner_turn_by d (p.statement d) ss false)
inner_on zero h ss = refuses (no_inner zero ss)
inner_on (suc d) h ss =
    on_gives (λ all. (all, false)) (λ ts _ us p. p)
    (looks key_at (λ k. p.inner_by (suc d) (p.statement (suc d)) ss (p.begins_base k)) (λ k. anywhere (inner_by_full d h ss (p.begins_base k))))

inner_turns : (d : ℕ) → Nested d → (ss : List Stmt) → Full bare (λ ts r us. InnerTurn d ts r.1 us) (p.inner_turn d (p.statement d) ss)
inner_turns d h ss = full (looks (is_mark m.RightBrace) (p.inner_turn_by d (p.statement d) ss) by) (λ _. no_inner d ss)
  where
    by : (b : Bool) → On bare (λ ts. is_mark m.RightBrace ts ≡ b) (λ ts r us. InnerTurn d ts r.1 us) (p.inner_turn_by d (p.statement d) ss b)
    by true = pures (ss, true) (λ ts d zs z. refl)
    by false = inner_on d h ss

-- after the `{`
abbrev pub SomeBlock : ℕ → Relation Tokens (List Stmt)
SomeBlock d ts _ us = (k : Tokens) × (ss : List Stmt) × Inners d ts ss k × Takes (Mark m.RightBrace) k us

braces_of : (d : ℕ) → Nested d → Full bare (SomeBlock d) (p.braced d (p.statement d))
braces_of d h =
    maps (λ ts _ us p. let (_, k, (ss, r), (_, t)) = p in (k, ss, r, t))
    (then
    (repeats (p.inner_turn d (p.statement d)) (inner_shorter_turn d) (InnerTurn d) (SomeInners d) (inners_stop d) (inners_next d) (inner_turns d h)
    (record { more = []; answer = tt; end = tt; plain = refl; reads = λ zs z. ([], g.done) }) [])
    (λ ss. gives {T = λ ts rs us. Unit {0} × Takes (Mark m.RightBrace) ts us} (λ _. ss) (λ ts _ us t. (tt, t)) (expects m.RightBrace)))

-- ---- statements

-- to the `;`
ended : (k : StmtKind) → Full bare (λ ts _ us. Takes (Mark m.Semicolon) ts us) (p.ended k)
ended k = gives (λ _. k) (λ ts _ us t. t) (expects m.Semicolon)

simple_ended : (d : ℕ) → Full bare (AKind d) (λ ts. bind (p.simple ts) (λ k. p.ended k))
simple_ended d =
    maps (λ ts _ us p. let (_, k, (s, q), t) = p in (at ts s, g.simple q t)) (then simples (λ k. ended k))

kinds : (d : ℕ) → Nested d → (k : Option TokenKind) → On bare (λ ts. kind_at ts ≡ k) (AKind d) (p.kind_by d (p.statement d) k)
kinds d h (Some (Mark m.Semicolon)) = on_gives (λ _. kind.Empty) (λ ts _ us t. (at ts kind.Empty, g.empty t)) (skips (λ ts d. kind_takes ts d))
kinds d h (Some (Mark m.LeftBrace)) =
    on_gives kind.Block (λ ts _ us p. let (_, i, t, (k, ss, r, u)) = p in (at ts (kind.Block ss), g.block t r u))
    (on_then (skips (λ ts d. kind_takes ts d)) (λ _. braces_of d h))
kinds d h (Some (Key key.If)) = branches d h
kinds d h (Some (Key key.While)) = whiles d h
kinds d h (Some (Key key.For)) = plain_fors d h
kinds d h (Some (Key key.Return)) =
    on_maps (λ ts _ us p. let (_, i, t, (_, k, (x, q), u)) = p in (at ts (kind.Return x), g.return_value t q u))
    (on_then (skips (λ ts d. kind_takes ts d)) (λ _. then maybes (λ x. ended (kind.Return x))))
kinds d h (Some (Key key.Break)) =
    on_maps (λ ts _ us p. let (_, i, t, u) = p in (at ts kind.Break, g.break_loop t u))
    (on_then (skips (λ ts d. kind_takes ts d)) (λ _. ended kind.Break))
kinds d h (Some (Key key.Continue)) =
    on_maps (λ ts _ us p. let (_, i, t, u) = p in (at ts kind.Continue, g.continue_loop t u))
    (on_then (skips (λ ts d. kind_takes ts d)) (λ _. ended kind.Continue))
kinds d h _ = record { fine = λ ts c. (simple_ended d).fine ts }

lined_kinds : (d : ℕ) → Nested d → Full bare (SomeStatement {A = Stmt} (suc d)) (λ ts. p.lined (p.kind_by d (p.statement d) (kind_at ts)) ts)
lined_kinds d h =
    lines {R = AKind d} (λ ts k x us p. p) (full (looks kind_at (p.kind_by d (p.statement d)) (kinds d h)) (λ _. kind_phrase d))

statement_kinds : (d : ℕ) → Nested d → (k : Option TokenKind)
    → On bare (λ ts. kind_at ts ≡ k) (SomeStatement {A = Stmt} (suc d)) (p.statement_by d (p.statement d) k)
statement_kinds d h (Some Alter) = noted_loops d h
statement_kinds d h k = record {
  fine = λ ts c. subst (λ k. Fine bare (SomeStatement {A = Stmt} (suc d)) ts (p.lined (p.kind_by d (p.statement d) k) ts)) c ((lined_kinds d h).fine ts);
}

statement_next : (d : ℕ) → Nested d → Full bare (SomeStatement {A = Stmt} (suc d)) (p.statement (suc d))
unfolding p.statement
statement_next d h =
    full (looks kind_at (p.statement_by d (p.statement d)) (statement_kinds d h)) (λ _. statement_phrase (at [] kind.Empty) d)

nested : (d : ℕ) → Nested d
nested zero = tt
nested (suc d) = statement_next d (nested d)

pub braces : (d : ℕ) → Full bare (SomeBlock d) (p.braced d (p.statement d))
braces d = braces_of d (nested d)
