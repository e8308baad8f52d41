-- The printed tokens of statements are read as those statements, but for their lines.
use Rattle.std.proofs.Common.{◌≡◌, ℕ, suc, true, false, List, [], ◌∷◌, ◌++◌, append_assoc, map, Option, Some, None, refl, sym, ap, subst, ◌∙◌}
use Rattle.std.proofs.lemmas.List.{map-append}
use Rattle.al_source.specs.declared.tokens.TokenKind.TheVariants.{Key, Mark}
use Rattle.al_source.specs.declared.tokens.Mark.TheVariants as m
use Rattle.al_source.specs.declared.tokens.Key.TheVariants as key
use Rattle.al_source.specs.declared.source_tree.CType.{CType}
use Rattle.al_source.specs.declared.source_tree.Field.{Field}
use Rattle.al_source.specs.declared.source_tree.Expr.{Expr}
use Rattle.al_source.specs.declared.source_tree.Stmt.{Stmt}
use Rattle.al_source.specs.declared.source_tree.StmtKind.{StmtKind}
use Rattle.al_source.specs.declared.source_tree.StmtKind.TheVariants as kind
use Rattle.al_grammar.specs.Phrases.{Tokens, Takes, line_at}
use Rattle.al_grammar.specs.Types.{Declarator}
use Rattle.al_grammar.specs.Statements.{statement_of, at, else_next, Locals, Statement, Inner, Inners}
use Rattle.al_grammar.specs.Statements as g
use Rattle.al_print.specs.Lines.{unlined}
use Rattle.al_print.specs.Tokens.{Kinds, type_front, declared, optional_value, initializer, note, end, head, condition, statement, statement_kind, statements, part_of}
use Rattle.al_print.proofs.Cases.{kind-Empty, kind-Declare, kind-If, kind-While, kind-For, kind-Block, kind-Return, kind-Break, kind-Continue, statement_is}
use Rattle.al_print.proofs.Front.{Has, none, split, split3, first, only, whole}
use Rattle.al_print.proofs.Plain.{AllWritable, Orderly, orderly, orderly3, left}
use Rattle.al_print.proofs.Again.{given, tidied}
use Rattle.al_print.proofs.PrintedTypes.{BaseAgain, base, declarator}
use Rattle.al_print.proofs.PrintedSimple.{SimpleAgain, simple, whole_note, maybe, initializer_again, head_again, condition_again}
use Rattle.al_print.proofs.NoElse.{takes_other, takes_else, inners_other}
use Rattle.al_print.proofs.Unlined.{Same, SameList, same_line, same_if, same_while, same_for, same_block, same_none, same_some}

-- ---- lists of statements

statements-append : (ss rs : List Stmt) → statements (ss ++ rs) ≡ statements ss ++ statements rs
statements-append [] rs = refl
statements-append (s ∷ ss) rs =
    ap (λ (ks : Kinds). statement s true ++ ks) (statements-append ss rs) ∙ sym (append_assoc (statement s true) (statements ss) (statements rs))

join_inners : {d : ℕ} {ts us vs : Tokens} {ss rs : List Stmt} → Inners d ts ss us → Inners d us rs vs → Inners d ts (ss ++ rs) vs
join_inners g.done k = k
join_inners {d} {ts} {us} {vs} {rs = rs} (g.next {ss = ss} {rs = qs} i r) k =
    subst (λ (xs : List Stmt). Inners d ts xs vs) (sym (append_assoc ss qs rs)) (g.next i (join_inners r k))

same_nil : SameList [] []
same_nil = record { is = refl }

same_one : {x y : Stmt} → Same x y → SameList (x ∷ []) (y ∷ [])
same_one p = record { is = ap (λ (s : Stmt). s ∷ []) p.is }

same_append : (xs ys : List Stmt) {xs' ys' : List Stmt} → SameList xs xs' → SameList ys ys' → SameList (xs ++ ys) (xs' ++ ys')
same_append xs ys {xs'} {ys'} p q = record {
  is =
      map-append unlined xs ys ∙ ap (λ (zs : List Stmt). zs ++ map unlined ys) p.is ∙ ap (λ (zs : List Stmt). map unlined xs' ++ zs) q.is
      ∙ sym (map-append unlined xs' ys');
}

-- ---- what is printed

-- Where no `else` followed the statement, none may follow where it is printed.
pub record StatementAgain (d : ℕ) (x : Stmt) (us : Tokens) : Type 0 where
  pub reads : (vs ws : Tokens) → (else_next us ≡ false → else_next ws ≡ false) → Has (statement x true) vs ws → (y : Stmt) × Statement d vs y ws × Same y x
  pub tidy : Orderly false (statement x true)
  pub left : AllWritable us

pub record InnersAgain (d : ℕ) (ss : List Stmt) (us : Tokens) : Type 0 where
  pub reads : (vs ws : Tokens) → else_next ws ≡ false → Has (statements ss) vs ws → (rs : List Stmt) × Inners d vs rs ws × SameList rs ss
  pub tidy : Orderly false (statements ss)
  pub left : AllWritable us

-- the tokens of a statement by its kind
tokens_is : (l : ℕ) (k : StmtKind) {ks : Kinds} → statement_kind k true ≡ ks → statement (statement_of l k) true ≡ ks
tokens_is l k e = statement_is (statement_of l k) true ∙ e

-- ---- declarations

-- one declaration
local : {d : ℕ} {a : CType} {us : Tokens} (l : ℕ) (f : Field) (x : Option Expr) → BaseAgain a us
    → ((vs ws : Tokens) → Has (declared f.ty f.name) vs ws → (ms : Tokens) × Has (type_front a) vs ms × Declarator a ms f ws)
    → ((vs ws : Tokens) → Has (initializer x) vs ws → g.Initializer vs x ws)
    → (vs ws : Tokens) → Has (statement (statement_of l (kind.Declare f.ty f.name x)) true) vs ws
    → (y : Stmt) × Inner (suc d) vs (y ∷ []) ws × Same y (statement_of l (kind.Declare f.ty f.name x))
local l f x p c i vs ws k =
    let (m₁, m₂, k₁, k₂, k₃) = split3 (declared f.ty f.name) (initializer x)
    (given (tokens_is l (kind.Declare f.ty f.name x) (kind-Declare f.ty f.name x true)) k) in
    let (m₃, k₄, q) = c vs m₁ k₁ in (
      statement_of (line_at vs) (kind.Declare f.ty f.name x),
      g.declares (p.again.reads vs m₃ k₄) (g.last q (i m₁ m₂ k₂) (only k₃)),
      same_line (line_at vs) l (kind.Declare f.ty f.name x),
    )

-- the declarations of one line, each on its own
locals : {d l : ℕ} {a : CType} {ts us : Tokens} {ss : List Stmt} {bs : Tokens}
    → Locals l a ts ss us → BaseAgain a bs → AllWritable ts → InnersAgain (suc d) ss us
locals {d} {l} (g.last {f = f} {x = x} q i t) p h =
    let c = declarator q p.flat h in
    let v = initializer_again i c.left in
    let is = tokens_is l (kind.Declare f.ty f.name x) (kind-Declare f.ty f.name x true) in
    record {
      reads = λ vs ws e k.
          let (y, n, s) = local l f x p c.reads v.reads vs ws (whole (statement (statement_of l (kind.Declare f.ty f.name x)) true) k) in
          (y ∷ [], g.next n g.done, same_one s);
      tidy =
          orderly false (statement (statement_of l (kind.Declare f.ty f.name x)) true) _
          (tidied is (orderly3 (declared f.ty f.name) (initializer x) _ (c.tidy p.again.tidy) v.tidy tt)) tt;
      left = left t v.left;
    }
locals {d} {l} (g.more {f = f} {x = x} {ss = ss} q i t r) p h =
    let c = declarator q p.flat h in
    let v = initializer_again i c.left in
    let b = locals {d = d} r p (left t v.left) in
    let is = tokens_is l (kind.Declare f.ty f.name x) (kind-Declare f.ty f.name x true) in
    record {
      reads = λ vs ws e k.
          let (m₁, k₁, k₂) = split (statement (statement_of l (kind.Declare f.ty f.name x)) true) k in
          let (y, n, s) = local l f x p c.reads v.reads vs m₁ k₁ in
          let (rs, ns, z) = b.reads m₁ ws e k₂ in
          (y ∷ rs, g.next n ns, same_append (y ∷ []) rs (same_one s) z);
      tidy =
          orderly false (statement (statement_of l (kind.Declare f.ty f.name x)) true) _
          (tidied is (orderly3 (declared f.ty f.name) (initializer x) _ (c.tidy p.again.tidy) v.tidy tt)) b.tidy;
      left = b.left;
    }

-- ---- simple statements and jumps

-- a statement of which only the line can differ
plain_again : {d : ℕ} (l : ℕ) (k : StmtKind) {us : Tokens} (ks : Kinds) → statement_kind k true ≡ ks
    → ((vs ws : Tokens) → Has ks vs ws → Statement d vs (at vs k) ws) → Orderly false ks → AllWritable us → StatementAgain d (statement_of l k) us
plain_again l k ks e r o h = record {
  reads = λ vs ws n i. (at vs k, r vs ws (given (tokens_is l k e) i), same_line (line_at vs) l k);
  tidy = tidied (tokens_is l k e) o;
  left = h;
}

simple_again : {d : ℕ} (l : ℕ) {k : StmtKind} {us vs : Tokens}
    → SimpleAgain k us → Takes (Mark m.Semicolon) us vs → StatementAgain (suc d) (statement_of l k) vs
simple_again l {k} a t = plain_again l k (a.core ++ end true) (a.is true)
    (λ vs ws i. let (m₁, k₁, k₂) = split a.core i in g.simple (a.again.reads vs m₁ k₁) (only k₂))
    (orderly false a.core _ a.again.tidy tt) (left t a.again.left)

-- ---- statements that hold others

no_inners : {d : ℕ} {vs ws : Tokens} → Has [] vs ws → (rs : List Stmt) × Inners d vs rs ws × SameList rs []
no_inners none = ([], g.done, same_nil)

mutual
  pub statement_again : {d : ℕ} {ts us : Tokens} {x : Stmt} → Statement d ts x us → AllWritable ts → StatementAgain d x us
  statement_again (g.empty {ts = ts} t) h = plain_again (line_at ts) kind.Empty (end true) (kind-Empty true) (λ vs ws i. g.empty (only i)) tt (left t h)
  statement_again (g.block {ts = ts} {ss = ss} t q u) h =
      let a = inners_again q (left t h) in
      let is = tokens_is (line_at ts) (kind.Block ss) (kind-Block ss true) in
      record {
        reads = λ vs ws e k.
            let (m₁, a₁, k₁) = first (given is k) in
            let (m₂, k₂, k₃) = split (statements ss) k₁ in
            let a₂ = only k₃ in
            let (rs, n, s) = a.reads m₁ m₂ (takes_other a₂ refl) k₂ in
            (at vs (kind.Block rs), g.block a₁ n a₂, same_block (line_at vs) (line_at ts) s);
        tidy = tidied is (orderly false (statements ss) _ a.tidy tt);
        left = left u a.left;
      }
  statement_again (g.simple {ts = ts} q t) h = simple_again (line_at ts) (simple q h) t
  statement_again (g.if_only {ts = ts} {c = c} {x = x} t q r e) h =
      let o = condition_again key.If q (left t h) in
      let a = statement_again r o.left in
      let is = tokens_is (line_at ts) (kind.If c x None) (kind-If c x None true) in
      record {
        reads = λ vs ws n k.
            let (m₁, k₁, k₂) = split (condition key.If c) (whole (condition key.If c ++ statement x true) (given is k)) in
            let (m₂, a₁, b) = o.reads vs m₁ k₁ in
            let (y, s, z) = a.reads m₁ ws n k₂ in
            (at vs (kind.If c y None), g.if_only a₁ b s (n e), same_if (line_at vs) (line_at ts) z same_none);
        tidy = tidied is (orderly3 (condition key.If c) (statement x true) [] o.tidy a.tidy tt);
        left = a.left;
      }
  statement_again (g.if_else {ts = ts} {ws = ws₀} {c = c} {x = x} {y = y} t q r u p) h =
      let o = condition_again key.If q (left t h) in
      let a = statement_again r o.left in
      let b = statement_again p (left u a.left) in
      let is = tokens_is (line_at ts) (kind.If c x (Some y)) (kind-If c x (Some y) true) in
      record {
        reads = λ vs ws n k.
            let (m₁, m₂, k₁, k₂, k₃) = split3 (condition key.If c) (statement x true) (given is k) in
            let (m₃, a₁, d) = o.reads vs m₁ k₁ in
            let (m₄, a₂, k₄) = first k₃ in
            let (v, s, z) = a.reads m₁ m₂ (λ e. let both : true ≡ false = sym (takes_else u) ∙ e in absurd cc) k₂ in
            let (w, s', z') = b.reads m₄ ws n k₄ in
            (at vs (kind.If c v (Some w)), g.if_else a₁ d s a₂ s', same_if (line_at vs) (line_at ts) z (same_some z'));
        tidy = tidied is (orderly3 (condition key.If c) (statement x true) _ o.tidy a.tidy b.tidy);
        left = b.left;
      }
  statement_again (g.while_loop {ts = ts} {c = c} {x = x} t q r) h =
      let o = condition_again key.While q (left t h) in
      let a = statement_again r o.left in
      let is = tokens_is (line_at ts) (kind.While c x) (kind-While c x true) in
      record {
        reads = λ vs ws n k.
            let (m₁, k₁, k₂) = split (condition key.While c) (given is k) in
            let (m₂, a₁, b) = o.reads vs m₁ k₁ in
            let (y, s, z) = a.reads m₁ ws n k₂ in
            (at vs (kind.While c y), g.while_loop a₁ b s, same_while (line_at vs) (line_at ts) z);
        tidy = tidied is (orderly false (condition key.While c) _ o.tidy a.tidy);
        left = a.left;
      }
  statement_again (g.for_loop {ts = ts} {first = p} {third = q} {test = test} {x = x} d r) h =
      let o = head_again d h in
      let a = statement_again r o.left in
      let is = tokens_is (line_at ts) (kind.For p test q x None) (kind-For p test q x None true) in
      record {
        reads = λ vs ws n k.
            let (m₁, k₁, k₂) = split (head (part_of p) test (part_of q)) (given is k) in
            let (v, w, b, sv, sw) = o.reads vs m₁ k₁ in
            let (y, s, z) = a.reads m₁ ws n k₂ in
            (at vs (kind.For v test w y None), g.for_loop b s, same_for (line_at vs) (line_at ts) sv sw z);
        tidy = tidied is (orderly false (head (part_of p) test (part_of q)) _ o.tidy a.tidy);
        left = a.left;
      }
  statement_again (g.noted_loop {ws = t₀} {n = c} {first = p} {third = q} {test = test} {x = x} t i u d r) h =
      let j = whole_note i (left t h) in
      let o = head_again d (left u j.left) in
      let a = statement_again r o.left in
      let is = tokens_is (line_at t₀) (kind.For p test q x (Some c)) (kind-For p test q x (Some c) true) in
      record {
        reads = λ vs ws n k.
            let (m₁, m₂, k₁, k₂, k₃) = split3 (note c) (head (part_of p) test (part_of q)) (given is k) in
            let (m₃, m₄, a₁, b, a₂) = j.reads vs m₁ k₁ in
            let (v, w, e, sv, sw) = o.reads m₁ m₂ k₂ in
            let (y, s, z) = a.reads m₂ ws n k₃ in
            (at m₁ (kind.For v test w y (Some c)), g.noted_loop a₁ b a₂ e s, same_for (line_at m₁) (line_at t₀) sv sw z);
        tidy = tidied is (orderly3 (note c) (head (part_of p) test (part_of q)) _ j.tidy o.tidy a.tidy);
        left = a.left;
      }
  statement_again (g.return_value {ts = ts} {x = x} t q u) h =
      let a = maybe q (left t h) in
      plain_again (line_at ts) (kind.Return x) (Key key.Return ∷ optional_value x ++ end true) (kind-Return x true)
      (λ vs ws i. let (m₁, a₁, k₁) = first i in let (m₂, k₂, k₃) = split (optional_value x) k₁ in g.return_value a₁ (a.reads m₁ m₂ k₂) (only k₃))
      (orderly false (optional_value x) _ a.tidy tt) (left u a.left)
  statement_again (g.break_loop {ts = ts} t u) h =
      plain_again (line_at ts) kind.Break (Key key.Break ∷ end true) (kind-Break true) (λ vs ws i. let (m₁, a₁, k₁) = first i in g.break_loop a₁ (only k₁)) tt
      (left u (left t h))
  statement_again (g.continue_loop {ts = ts} t u) h =
      plain_again (line_at ts) kind.Continue (Key key.Continue ∷ end true) (kind-Continue true)
      (λ vs ws i. let (m₁, a₁, k₁) = first i in g.continue_loop a₁ (only k₁)) tt (left u (left t h))

  inner_again : {d : ℕ} {ts us : Tokens} {ss : List Stmt} → Inner d ts ss us → AllWritable ts → InnersAgain d ss us
  inner_again (g.declares q r) h = let p = base q h in locals r p p.again.left
  inner_again (g.statement {x = x} q) h = let a = statement_again q h in record {
    reads = λ vs ws e k. let (y, s, z) = a.reads vs ws (λ _. e) (whole (statement x true) k) in (y ∷ [], g.next (g.statement s) g.done, same_one z);
    tidy = orderly false (statement x true) _ a.tidy tt;
    left = a.left;
  }

  pub inners_again : {d : ℕ} {ts us : Tokens} {ss : List Stmt} → Inners d ts ss us → AllWritable ts → InnersAgain d ss us
  inners_again g.done h = record { reads = λ vs ws e k. no_inners k; tidy = tt; left = h }
  inners_again (g.next {ss = ss} {rs = rs} i r) h =
      let a = inner_again i h in
      let b = inners_again r a.left in
      record {
        reads = λ vs ws e k.
            let (m₁, k₁, k₂) = split (statements ss) (given (statements-append ss rs) k) in
            let (ys, ns, z) = b.reads m₁ ws e k₂ in
            let (xs, ms, w) = a.reads vs m₁ (inners_other ns e) k₁ in
            (xs ++ ys, join_inners ms ns, same_append xs ys w z);
        tidy = tidied (statements-append ss rs) (orderly false (statements ss) _ a.tidy b.tidy);
        left = b.left;
      }
