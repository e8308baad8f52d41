-- The numbers of the items that the grammar derives from tokens whose numbers have 64 bits, and how many globals there
-- are.
use Rattle.std.proofs.Common.{◌≡◌, ℕ, zero, suc, ◌+◌, ◌≤◌, true, List, [], ◌∷◌, ◌++◌, length, refl, arith}
use Rattle.std.specs.Prelude.{pos, neg_ℤ}
use Rattle.al_source.specs.declared.source_tree.CType.{CType}
use Rattle.al_source.specs.declared.source_tree.CType.TheVariants as t
use Rattle.al_source.specs.declared.source_tree.Field.{Field}
use Rattle.al_source.specs.declared.source_tree.Expr.{Expr}
use Rattle.al_source.specs.declared.source_tree.Stmt.{Stmt}
use Rattle.al_source.specs.declared.source_tree.StmtKind.{StmtKind}
use Rattle.al_source.specs.declared.source_tree.Start.{Start}
use Rattle.al_source.specs.declared.source_tree.GlobalDef.{GlobalDef}
use Rattle.al_source.specs.declared.source_tree.Func.{Func}
use Rattle.al_source.specs.declared.source_tree.Item.{Item}
use Rattle.al_source.specs.declared.source_tree.Item.TheVariants as item
use Rattle.al_grammar.specs.Phrases.{Tokens}
use Rattle.al_grammar.specs.Programs.{FieldNames, Fields, Starts, Globals, ResultBase, Param, ParamList, Params, Items, AllItems}
use Rattle.al_grammar.specs.Programs as g
use Rattle.al_grammar.proofs.StepFacts.{takes_shorter}
use Rattle.al_grammar.proofs.TypeFacts.{base_shorter, declarator_shorter}
use Rattle.al_grammar.proofs.ProgramFacts.{items_shorter}
use Rattle.al_rules.specs.Names.{AllOf}
use Rattle.al_rules.specs.Names as n
use Rattle.al_rules.specs.Scopes.{globals_in, funcs_in}
use Rattle.al_rules.specs.Programs.{start_of}
use Rattle.al_rules_laws.proofs.LoopEntries.{all_append}
use Rattle.al_graded_laws.specs.InRange.{has_64_bits}
use Rattle.al_runs_laws.proofs.NumberedTrees.{ExprCases, StmtCases}
use Rattle.al_sizes_laws.proofs.TreesOfTokens.{Sized, Good, Found, takes_kind, takes, base, stars, declarator, inners}

-- ---- phrases leave tokens whose numbers have 64 bits

names : {a : CType} {ts us : Tokens} {fs : List Field} → FieldNames a ts fs us → Good ts → Good us
names (g.last d t) h = takes t (declarator d h)
names (g.more d t r) h = names r (takes t (declarator d h))

fields : {ts us : Tokens} {fs : List Field} → Fields ts fs us → Good ts → Good us
fields (g.last b r) h = names r (base b h)
fields (g.more b r q) h = fields q (names r (base b h))

result_base : {ts us : Tokens} {a : CType} → ResultBase ts a us → Good ts → Good us
result_base (g.base b) h = base b h
result_base (g.void t) h = takes t h

param : {ts us : Tokens} {f : Field} → Param ts f us → Good ts → Good us
param (g.param b r t) h = takes t (stars r (base b h))

param_list : {ts us : Tokens} {fs : List Field} → ParamList ts fs us → Good ts → Good us
param_list (g.last p t) h = takes t (param p h)
param_list (g.more p t r) h = param_list r (takes t (param p h))

params : {ts us : Tokens} {fs : List Field} → Params ts fs us → Good ts → Good us
params (g.none t) h = takes t h
params (g.void t u) h = takes u (takes t h)
params (g.some r) h = param_list r h

-- ---- globals

abbrev pub StartSized : Start → Type 0
StartSized v = has_64_bits (start_of v) ≡ true

negated : (k : ℕ) → has_64_bits (pos k) ≡ true → has_64_bits (neg_ℤ (pos k)) ≡ true
negated zero e = refl
negated (suc k) e = grind arith

starts : {ts us : Tokens} {v : Start} → Starts ts v us → Good ts → Found (StartSized v) us
starts g.nothing h = (refl, h)
starts (g.number t u) h = (takes_kind u (takes t h), takes u (takes t h))
starts (g.negative {n = k} t u v) h = let i = takes u (takes t h) in (negated k (takes_kind v i), takes v i)
starts (g.null t u) h = (refl, takes u (takes t h))

starts_shorter : {ts us : Tokens} {v : Start} → Starts ts v us → length us ≤ length ts
starts_shorter g.nothing = omega arith
starts_shorter (g.number t u) = let a = takes_shorter t in let b = takes_shorter u in omega arith
starts_shorter (g.negative t u v) = let a = takes_shorter t in let b = takes_shorter u in let c = takes_shorter v in omega arith
starts_shorter (g.null t u) = let a = takes_shorter t in let b = takes_shorter u in omega arith

-- each takes a token
globals_counted : {line : ℕ} {a : CType} {ts us : Tokens} {is : List Item} → Globals line a ts is us
    → length (globals_in is) + length us ≤ length ts
globals_counted (g.last d v t) = let x = declarator_shorter d in let y = starts_shorter v in let z = takes_shorter t in omega arith
globals_counted (g.more d v t r) =
    let x = declarator_shorter d in let y = starts_shorter v in let z = takes_shorter t in let u = globals_counted r in omega arith

counted : {ts us : Tokens} {is : List Item} → Items ts is us → length (globals_in is) + length us ≤ length ts
counted (g.structure a b c r d e) = let x = items_shorter (g.structure a b c r d e) in omega arith
counted (g.globals b r) = let x = base_shorter b in let y = globals_counted r in omega arith
counted (g.function r p a b q c i d) = let x = items_shorter (g.function r p a b q c i d) in omega arith

globals_joined : (is js : List Item) → length (globals_in (is ++ js)) ≡ length (globals_in is) + length (globals_in js)
globals_joined [] js = omega arith
globals_joined (item.Struct d ∷ is) js = globals_joined is js
globals_joined (item.Global d ∷ is) js = let e = globals_joined is js in omega arith
globals_joined (item.Func d ∷ is) js = globals_joined is js

pub few_globals : {ts : Tokens} {is : List Item} → AllItems ts is → length (globals_in is) ≤ length ts
few_globals g.end = omega arith
few_globals (g.next {is = is} {js = js} r q) = let x = counted r in let y = few_globals q in let e = globals_joined is js in omega arith

-- ---- items

module _ (P : Expr → Type 0) (c : ExprCases Sized P) (S : ℕ → CType → Stmt → Type 0) (K : ℕ → CType → StmtKind → Type 0)
    (d : (m : ℕ) (a : CType) → StmtCases P (S m a) (K m a)) where
  -- the statements of a function, by its number and its result
  abbrev pub BodySized : Func → Type 0
  BodySized f = (m : ℕ) (a : CType) → AllOf (S m a) f.body

  abbrev ItemSized : Item → Type 0
  ItemSized (item.Struct s) = Unit {0}
  ItemSized (item.Global x) = StartSized x.start
  ItemSized (item.Func f) = BodySized f

  globals : {line : ℕ} {a : CType} {ts us : Tokens} {is : List Item} → Globals line a ts is us → Good ts → Found (AllOf ItemSized is) us
  globals (g.last r v t) h = let a = starts v (declarator r h) in (n.more a.0 n.none, takes t a.1)
  globals (g.more r v t q) h = let a = starts v (declarator r h) in let b = globals q (takes t a.1) in (n.more a.0 b.0, b.1)

  items : {ts us : Tokens} {is : List Item} → Items ts is us → Good ts → Found (AllOf ItemSized is) us
  items (g.structure i j k r l m) h = (n.more tt n.none, takes m (takes l (fields r (takes k (takes j (takes i h))))))
  items (g.globals b r) h = globals r (base b h)
  items (g.function r p i j q k l m) h =
      let b = takes k (params q (takes j (takes i (stars p (result_base r h))))) in
      (n.more (λ m a. (inners P c (S m a) (K m a) (d m a) l b).0) n.none, takes m (inners P c (S 0 t.Int) (K 0 t.Int) (d 0 t.Int) l b).1)

  all_items : {ts : Tokens} {is : List Item} → AllItems ts is → Good ts → AllOf ItemSized is
  all_items g.end h = n.none
  all_items (g.next r q) h = let a = items r h in all_append a.0 (all_items q a.1)

  funcs_of : (is : List Item) → AllOf ItemSized is → AllOf BodySized (funcs_in is)
  funcs_of [] h = n.none
  funcs_of (item.Struct s ∷ is) (n.more h hs) = funcs_of is hs
  funcs_of (item.Global x ∷ is) (n.more h hs) = funcs_of is hs
  funcs_of (item.Func f ∷ is) (n.more h hs) = n.more h (funcs_of is hs)

  globals_of : (is : List Item) → AllOf ItemSized is → AllOf (λ x. StartSized x.start) (globals_in is)
  globals_of [] h = n.none
  globals_of (item.Struct s ∷ is) (n.more h hs) = globals_of is hs
  globals_of (item.Global x ∷ is) (n.more h hs) = n.more h (globals_of is hs)
  globals_of (item.Func f ∷ is) (n.more h hs) = globals_of is hs

  pub bodies_sized : {ts : Tokens} {is : List Item} → AllItems ts is → Good ts → AllOf BodySized (funcs_in is)
  bodies_sized {is = is} r h = funcs_of is (all_items r h)

  pub starts_sized : {ts : Tokens} {is : List Item} → AllItems ts is → Good ts → AllOf (λ (x : GlobalDef). StartSized x.start) (globals_in is)
  starts_sized {is = is} r h = globals_of is (all_items r h)
