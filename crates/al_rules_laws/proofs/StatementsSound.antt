-- What the walk answers of a statement, the rules say of it.
use Rattle.std.proofs.Common.{◌≡◌, ℕ, ◌==◌, Bool, true, false, not, List, [], ◌∷◌, length, if◌then◌else◌, Option, Some, None, option_map, pos, Ok, bytes_eq, refl, sym, ap, ◌∙◌, subst, eqb-true, suc}
use Rattle.al_source.specs.Steps.{and_then}
use Rattle.al_source.specs.declared.annotations.LoopNote.{LoopNote}
use Rattle.al_source.specs.declared.annotations.NamedRed.{NamedRed}
use Rattle.al_source.specs.declared.operators.BinOp.{BinOp}
use Rattle.al_source.specs.declared.texts.Piece.{Piece}
use Rattle.al_source.specs.declared.source_tree.CType.{CType, out-CType}
use Rattle.al_source.specs.declared.source_tree.CType.TheVariants as t
use Rattle.al_source.specs.declared.source_tree.CType.TheOpen.{CType-F}
use Rattle.al_source.specs.declared.source_tree.Expr.{Expr}
use Rattle.al_source.specs.declared.source_tree.Expr.TheVariants as e
use Rattle.al_source.specs.declared.source_tree.Stmt.{Stmt, out-roll-Stmt}
use Rattle.al_source.specs.declared.source_tree.StmtKind.{StmtKind}
use Rattle.al_source.specs.declared.source_tree.StmtKind.TheOpen.{Stmt-F}
use Rattle.al_source.specs.declared.source_tree.StmtKind.TheVariants as k
use Rattle.al_core.specs.declared.choices.Choice.{Choice}
use Rattle.al_core.specs.declared.choices.Red.{Red}
use Rattle.al_core.specs.declared.values.Addr.{Addr}
use Rattle.al_core.specs.declared.typed_tree.TExpr.{TExpr}
use Rattle.al_core.specs.declared.typed_tree.TExpr.TheVariants as te
use Rattle.al_core.specs.declared.typed_tree.TStmt.{TStmt, roll-TStmt}
use Rattle.al_core.specs.declared.typed_tree.TKind.{TKind}
use Rattle.al_core.specs.declared.typed_tree.TKind.TheVariants as tk
use Rattle.al_core.specs.Lines.{by_words}
use Rattle.al_rules.specs.declared.faults.TypeKind.TheVariants.{Twice, Unknown, Shape, Mismatch, NotPlace, Count, Return, Outside}
use Rattle.al_rules.specs.declared.operands.Operand.{Operand}
use Rattle.al_rules.specs.declared.operands.Operand.TheVariants.{Literal, Null, Value, Variable, Place}
use Rattle.al_rules.specs.Names.{Name, AllOf, none, more}
use Rattle.al_rules.specs.Checks.{Checked, each, ensure, some_or}
use Rattle.al_rules.specs.Types.{is_int, is_int_case, is_scalar, type_checked}
use Rattle.al_rules.specs.Scopes.{Binding, Known, Scope, in_scope, nested, is_declared, is_struct, variable_named, frees}
use Rattle.al_rules.specs.Scopes as scopes
use Rattle.al_rules.specs.Operands as o
use Rattle.al_rules.specs.Expressions as x
use Rattle.al_rules.specs.Walks.{Progress, Walk, bind, pure, checks, lift, fails, add_local, begin_loop, end_loop}
use Rattle.al_rules.specs.Statements as w
use Rattle.al_rules.specs.ExpressionRules as r
use Rattle.al_rules.specs.StatementRules as st
use Rattle.al_rules.proofs.StatementNodes as nodes
use Rattle.al_rules_laws.proofs.Logic.{then_ok, ensure_ok}
use Rattle.al_rules_laws.proofs.SourceInduction.{StmtCases, stmt_induct, IfAny, present}
use Rattle.al_rules_laws.proofs.TypeFacts.{is_int_type, is_void_type, scalar_sound}
use Rattle.al_rules_laws.proofs.NameFacts.{names, field_of_binding, local_found, new_name, VariableIs, is_local, is_global, variable_is, frees_sound}
use Rattle.al_rules_laws.proofs.ExpressionsSound as sound
use Rattle.al_rules_laws.proofs.WalkFacts.{Ends, added, begun_loop, ended_loop, scoped, bind_ends, checks_ends, lift_ends, assoc, pure_ends, pure_is, bind_pure, check_is, add_ends, begin_ends, end_ends, within_ends, never_ends, block, map_append, block_nested}

-- ---- types by their tests

int_by : (a : CType) (y : CType-F CType) → out-CType a ≡ y → is_int_case y ≡ true → a ≡ t.Int
int_by a CType-F.Int is e = is_int_type a is
int_by a CType-F.Void is e = absurd cc
int_by a (CType-F.Struct name) is e = absurd cc
int_by a (CType-F.Ptr b) is e = absurd cc
int_by a (CType-F.Array b n) is e = absurd cc

pub int_true : (a : CType) → is_int a ≡ true → a ≡ t.Int
unfolding is_int
int_true a e = int_by a (out-CType a) refl e

void_by : (a : CType) (y : CType-F CType) → out-CType a ≡ y → w.is_void_case y ≡ true → a ≡ t.Void
void_by a CType-F.Void is e = is_void_type a is
void_by a CType-F.Int is e = absurd cc
void_by a (CType-F.Struct name) is e = absurd cc
void_by a (CType-F.Ptr b) is e = absurd cc
void_by a (CType-F.Array b n) is e = absurd cc

pub void_true : (a : CType) → w.is_void a ≡ true → a ≡ t.Void
unfolding w.is_void
void_true a e = void_by a (out-CType a) refl e

module _ (known : Known) (func : ℕ) (result : CType) where
  abbrev pub setting : st.Setting
  setting = record { names = λ locals. record { locals = locals; structs = known.structs; globals = known.globals; funcs = known.funcs }; result = result }

  pub in_names : (sc : Scope) → names known (in_scope sc) ≡ st.in_block setting (block sc)
  in_names sc = ap (λ locals. setting.names locals) (map_append field_of_binding sc.inner sc.outer)

  -- ---- the sort of a statement

  abbrev sort_of : Stmt → w.Sort
  sort_of b = (w.part known func result b).sort

  abbrev kind_sort : StmtKind → w.Sort
  kind_sort d = (w.kind_part known func result d).sort

  pub sort_at : (line : ℕ) (d : StmtKind) → sort_of (st.at line d) ≡ kind_sort d
  sort_at line d =
      nodes.sort-stmt known func result (st.at line d)
      ∙ ap (λ (b : Stmt-F StmtKind Stmt). kind_sort b.kind) (out-roll-Stmt (record { line = line; kind = d }))

  abbrev pub Sorts : Stmt → Type 0
  Sorts b = (w.is_first (sort_of b) ≡ true → st.IsFirst b) × (w.is_third (sort_of b) ≡ true → st.IsSimple b)

  abbrev KindSorts : StmtKind → Type 0
  KindSorts d = (line : ℕ) → (w.is_first (kind_sort d) ≡ true → st.IsFirst (st.at line d)) × (w.is_third (kind_sort d) ≡ true → st.IsSimple (st.at line d))

  of_simple : (d : StmtKind) → ((line : ℕ) → st.IsSimple (st.at line d)) → KindSorts d
  of_simple d h line = (λ e. st.simple (h line), λ e. h line)

  of_other : (d : StmtKind) → kind_sort d ≡ w.Other → KindSorts d
  of_other d is line = (
    λ e. let no : false ≡ true = sym (ap w.is_first is) ∙ e in absurd cc,
    λ e. let no : false ≡ true = sym (ap w.is_third is) ∙ e in absurd cc,
  )

  of_declare : (a : CType) (name : Name) (v : Option Expr) → KindSorts (k.Declare a name v)
  of_declare a name None line = (
    λ e. let no : false ≡ true = sym (ap w.is_first (nodes.sort-Declare known func result a name)) ∙ e in absurd cc,
    λ e. let no : false ≡ true = sym (ap w.is_third (nodes.sort-Declare known func result a name)) ∙ e in absurd cc,
  )
  of_declare a name (Some v) line = (
    λ e. st.declare,
    λ e. let no : false ≡ true = sym (ap w.is_third (nodes.sort-Sets known func result a name v)) ∙ e in absurd cc,
  )

  sort_cases : StmtCases Sorts KindSorts
  sort_cases = record {
    stmt = λ line d h. (λ e. (h line).0 (sym (ap w.is_first (sort_at line d)) ∙ e), λ e. (h line).1 (sym (ap w.is_third (sort_at line d)) ∙ e));
    empty = of_other k.Empty (nodes.sort-Empty known func result);
    declare = of_declare;
    assign = λ a b. of_simple (k.Assign a b) (λ line. st.assign);
    update = λ op a b. of_simple (k.Update op a b) (λ line. st.update);
    call = λ name xs. of_simple (k.Call name xs) (λ line. st.call);
    print = λ f xs. of_simple (k.Print f xs) (λ line. st.print);
    choice = λ c a b h i. of_other (k.If c a b) (nodes.sort-If known func result c a b);
    while_loop = λ c a h. of_other (k.While c a) (nodes.sort-While known func result c a);
    for_loop = λ first test third body note h i j. of_other (k.For first test third body note) (nodes.sort-For known func result first test third body note);
    block = λ ss h. of_other (k.Block ss) (nodes.sort-Block known func result ss);
    returns = λ v. of_other (k.Return v) (nodes.sort-Return known func result v);
    breaks = of_other k.Break (nodes.sort-Break known func result);
    continues = of_other k.Continue (nodes.sort-Continue known func result);
  }

  pub sorts : (b : Stmt) → Sorts b
  sorts = stmt_induct Sorts KindSorts sort_cases

  -- a declaration is no branch and no body
  declaration_sort : {b : Stmt} → st.IsDeclaration b → w.is_body (sort_of b) ≡ false
  declaration_sort (st.declare {line = line} {a = a} {name = name} {x = None}) =
      ap w.is_body (sort_at line (k.Declare a name None) ∙ nodes.sort-Declare known func result a name)
  declaration_sort (st.declare {line = line} {a = a} {name = name} {x = Some v}) =
      ap w.is_body (sort_at line (k.Declare a name (Some v)) ∙ nodes.sort-Sets known func result a name v)

  pub no_declaration : (b : Stmt) → w.is_body (sort_of b) ≡ true → st.IsDeclaration b → ⊥
  no_declaration b e d = let no : false ≡ true = sym (declaration_sort d) ∙ e in cc

  -- only a declaration changes what is in scope
  pub keeps : {looped : Bool} {b c : st.Block} {y : Stmt} → st.Statement setting looped b y c → (st.IsDeclaration y → ⊥) → b ≡ c
  keeps st.empty never = refl
  keeps (st.declare d s i) never = absurd (never st.declare)
  keeps (st.assign d h) never = refl
  keeps (st.update m d h) never = refl
  keeps (st.call d) never = refl
  keeps (st.free a d h) never = refl
  keeps (st.print l d) never = refl
  keeps (st.choice d h) never = refl
  keeps (st.choice_of_two d h i) never = refl
  keeps (st.while_loop d h) never = refl
  keeps (st.for_loop n f t h i) never = refl
  keeps (st.block d) never = refl
  keeps (st.return_none v) never = refl
  keeps (st.return_value d) never = refl
  keeps st.break_loop never = refl
  keeps st.continue_loop never = refl

  -- ---- what a walk that ends says

  abbrev pub Sound : Stmt → Type 0
  Sound b = (looped : Bool) (s : Progress) (z : TStmt × Progress) → Ends ((w.part known func result b).walk looped s) z
      → st.Statement setting looped (block s.scope) b (block z.1.scope)

  abbrev KindSound : StmtKind → Type 0
  KindSound d =
      (line : ℕ) (looped : Bool) (s : Progress) (z : TKind × Progress) → Ends ((w.kind_part known func result d).walk line looped s) z
      → st.Statement setting looped (block s.scope) (st.at line d) (block z.1.scope)

  by_walk : {A : Type 0} {p q : Walk A} → p ≡ q → (s : Progress) (z : A × Progress) → Ends (p s) z → Ends (q s) z
  by_walk same s z e = sym (ap (λ f. f s) same) ∙ e

  conclude : {A : Type 0} {looped : Bool} {b : st.Block} {y : Stmt} {q z : A × Progress} → q ≡ z → st.Statement setting looped b y (block q.1.scope)
      → st.Statement setting looped b y (block z.1.scope)
  conclude {looped = looped} {b = b} {y = y} same d = subst (λ q. st.Statement setting looped b y (block q.1.scope)) same d

  -- in the names of a scope
  into : (A : r.Names → Type 0) (sc : Scope) → A (names known (in_scope sc)) → A (st.in_block setting (block sc))
  into A sc d = subst A (in_names sc) d

  describes : (sc : Scope) (a : Expr) (p : Operand) → x.operand known (in_scope sc) a ≡ Ok p → sound.Describes known (in_scope sc) a p
  describes sc a p is = sound.expression_is known (in_scope sc) a p is

  assigns_by : (sc : Scope) (a b : Expr) (l v : Operand) (d : TKind) → sound.Describes known (in_scope sc) a l → sound.Describes known (in_scope sc) b v
      → w.assigned l v ≡ Ok d → (c : CType) × st.Assigns (names known (in_scope sc)) a c × r.Fits (names known (in_scope sc)) b c
  assigns_by sc a b (Variable n c) v d h i is =
      let f = then_ok (o.fitting c v) (λ v. Ok (tk.SetLocal n v)) d is in (c, st.to_local h, sound.fitting_is known (in_scope sc) b v c f.0 i f.1)
  assigns_by sc a b (Place c q) v d h i is =
      let f = then_ok (o.fitting c v) (λ v. Ok (tk.Store q v)) d is in (c, st.to_place h, sound.fitting_is known (in_scope sc) b v c f.0 i f.1)
  assigns_by sc a b (Literal n) v d h i is = absurd cc
  assigns_by sc a b Null v d h i is = absurd cc
  assigns_by sc a b (Value c y) v d h i is = absurd cc

  updates_by : (sc : Scope) (op : BinOp) (a b : Expr) (l v : Operand) (d : TKind) → sound.Describes known (in_scope sc) a l
      → sound.Describes known (in_scope sc) b v → w.updated op l v ≡ Ok d
      → st.Assigns (names known (in_scope sc)) a t.Int × r.Has (names known (in_scope sc)) b r.value t.Int
  updates_by sc op a b (Variable n c) v d h i is =
      let u = then_ok (ensure (is_int c) Mismatch) (λ _. and_then (o.integer v) (λ v. Ok (tk.UpdateLocal op n v))) d is in
      let f = then_ok (o.integer v) (λ v. Ok (tk.UpdateLocal op n v)) d u.2 in (
        subst (st.Assigns (names known (in_scope sc)) a) (int_true c (ensure_ok (is_int c) Mismatch u.0 u.1)) (st.to_local h),
        sound.integer_is known
            (in_scope sc) b v f.0 i f.1,
      )
  updates_by sc op a b (Place c q) v d h i is =
      let u = then_ok (ensure (is_int c) Mismatch) (λ _. and_then (o.integer v) (λ v. Ok (tk.UpdateAt op q v))) d is in
      let f = then_ok (o.integer v) (λ v. Ok (tk.UpdateAt op q v)) d u.2 in (
        subst (st.Assigns (names known (in_scope sc)) a) (int_true c (ensure_ok (is_int c) Mismatch u.0 u.1)) (st.to_place h),
        sound.integer_is known
            (in_scope sc) b v f.0 i f.1,
      )
  updates_by sc op a b (Literal n) v d h i is = absurd cc
  updates_by sc op a b Null v d h i is = absurd cc
  updates_by sc op a b (Value c y) v d h i is = absurd cc

  integers_all : (sc : Scope) {xs : List Expr} {ps : List Operand} (vs : List TExpr) → sound.DescribeAll known (in_scope sc) xs ps → each o.integer ps ≡ Ok vs
      → AllOf (λ y. r.Has (names known (in_scope sc)) y r.value t.Int) xs
  integers_all sc vs sound.none is = none
  integers_all sc vs (sound.more {x = y} {p = p} {ps = ps} d ds) is =
      let v = then_ok (o.integer p) (λ b. and_then (each o.integer ps) (λ bs. Ok (b ∷ bs))) vs is in
      let vs = then_ok (each o.integer ps) (λ bs. Ok (v.0 ∷ bs)) vs v.2 in
      more (sound.integer_is known (in_scope sc) y p v.0 d v.1) (integers_all sc vs.0 ds vs.1)

  as_many : (sc : Scope) {xs : List Expr} {ps : List Operand} → sound.DescribeAll known (in_scope sc) xs ps → length xs ≡ length ps
  as_many sc sound.none = refl
  as_many sc (sound.more d ds) = ap suc (as_many sc ds)

  -- a condition, and then more
  condition_ends : {B : Type 0} (line : ℕ) (c : Expr) (f : TExpr → Walk B) (s : Progress) (z : B × Progress)
      → Ends (bind (w.condition known func result line c) f s) z → r.Condition (st.in_block setting (block s.scope)) c × ((v : TExpr) × Ends (f v s) z)
  condition_ends line c f s z e =
      let p = checks_ends line (λ scope. x.operand known (in_scope scope) c) (λ p. bind (lift line (o.scalar p)) f) s z
      (sym (assoc (w.operand_of known func result line c) (λ p. lift line (o.scalar p)) f s) ∙ e) in
      let v = lift_ends line (o.scalar p.0) f s z p.2 in
      (into (λ n. r.Condition n c) s.scope (sound.scalar_is known (in_scope s.scope) c p.0 v.0 (describes s.scope c p.0 p.1) v.1), (v.0, v.2))

  test_ends : {B : Type 0} (line : ℕ) (test : Option Expr) (f : Option TExpr → Walk B) (s : Progress) (z : B × Progress)
      → Ends (bind (w.any_condition known func result line test) f s) z
      → st.Tested (st.in_block setting (block s.scope)) test × ((v : Option TExpr) × Ends (f v s) z)
  test_ends line None f s z e = (st.always, (None, sym (pure_ends None f s) ∙ e))
  test_ends line (Some c) f s z e =
      let p = condition_ends line c (λ v. bind (pure (Some v)) f) s z (sym (assoc (w.condition known func result line c) (λ v. pure (Some v)) f s) ∙ e) in
      (st.test p.0, (Some p.1.0, sym (pure_ends (Some p.1.0) f s) ∙ p.1.1))

  -- a part that may stand there, and then more
  part_ends : {B : Type 0} (allowed : w.Sort → Bool) (b : Stmt) (looped : Bool) (f : TStmt → Walk B) (s : Progress) (z : B × Progress) → Sound b
      → Ends (bind (w.part_if allowed (w.part known func result b) looped) f s) z
      → (allowed (sort_of b) ≡ true) × ((q : TStmt × Progress) × st.Statement setting looped (block s.scope) b (block q.1.scope) × Ends (f q.0 q.1) z)
  part_ends allowed b looped f s z h e =
      let q = bind_ends (w.part_if allowed (w.part known func result b) looped) f s z e in
      by (allowed (sort_of b)) refl q.0 q.1 q.2
    where
      by : (c : Bool) → allowed (sort_of b) ≡ c → (q : TStmt × Progress)
          → Ends ((if c then (w.part known func result b).walk looped else fails (w.part known func result b).line Shape) s) q → Ends (f q.0 q.1) z
          → (allowed (sort_of b) ≡ true) × ((q : TStmt × Progress) × st.Statement setting looped (block s.scope) b (block q.1.scope) × Ends (f q.0 q.1) z)
      by true is q run rest = (is, (q, h looped s q run, rest))
      by false is q run rest = absurd (never_ends (w.part known func result b).line Shape s q run)

  branch_ends : {B : Type 0} (b : Stmt) (looped : Bool) (f : TStmt → Walk B) (s : Progress) (z : B × Progress) → Sound b
      → Ends (bind (w.part_if w.is_body (w.part known func result b) looped) f s) z
      → st.Branch setting looped (block s.scope) b × ((q : TStmt × Progress) × (block s.scope ≡ block q.1.scope) × Ends (f q.0 q.1) z)
  branch_ends b looped f s z h e =
      let p = part_ends w.is_body b looped f s z h e in
      (st.branch (no_declaration b p.0) p.1.1, (p.1.0, keeps p.1.1 (no_declaration b p.0), p.1.2))

  first_ends : {B : Type 0} (first : Option Stmt) (looped : Bool) (f : Option TStmt → Walk B) (s : Progress) (z : B × Progress) → IfAny Sound first
      → Ends (bind (w.any_part w.is_first (nodes.part_of known func result first) looped) f s) z
      → (q : Option TStmt × Progress) × st.First setting looped (block s.scope) first (block q.1.scope) × Ends (f q.0 q.1) z
  first_ends None looped f s z h e = ((None, s), st.no_first, sym (pure_ends None f s) ∙ e)
  first_ends (Some b) looped f s z (present h) e =
      let p = part_ends w.is_first b looped (λ t. bind (pure (Some t)) f) s z h
      (sym (assoc (w.part_if w.is_first (w.part known func result b) looped) (λ t. pure (Some t)) f s) ∙ e) in
      ((Some p.1.0.0, p.1.0.1), st.first ((sorts b).0 p.0) p.1.1, sym (pure_ends (Some p.1.0.0) f p.1.0.1) ∙ p.1.2)

  third_ends : {B : Type 0} (third : Option Stmt) (looped : Bool) (f : Option TStmt → Walk B) (s : Progress) (z : B × Progress) → IfAny Sound third
      → Ends (bind (w.any_part w.is_third (nodes.part_of known func result third) looped) f s) z
      → (q : Option TStmt × Progress) × st.Third setting looped (block s.scope) third (block q.1.scope) × Ends (f q.0 q.1) z
  third_ends None looped f s z h e = ((None, s), st.no_third, sym (pure_ends None f s) ∙ e)
  third_ends (Some b) looped f s z (present h) e =
      let p = part_ends w.is_third b looped (λ t. bind (pure (Some t)) f) s z h
      (sym (assoc (w.part_if w.is_third (w.part known func result b) looped) (λ t. pure (Some t)) f s) ∙ e) in
      ((Some p.1.0.0, p.1.0.1), st.third ((sorts b).1 p.0) p.1.1, sym (pure_ends (Some p.1.0.0) f p.1.0.1) ∙ p.1.2)

  -- ---- annotations

  reduces_by : (sc : Scope) (red : NamedRed) (m : Option scopes.Variable) → VariableIs known (in_scope sc) red.name m → (at : Addr)
      → and_then (some_or m Unknown) w.variable_at ≡ Ok at → st.Reduces (names known (in_scope sc)) red
  reduces_by sc red _ (is_local b found) at is =
      let u = then_ok (ensure (is_int b.ty) Mismatch) (λ _. Ok _) at is in st.of_local found (int_true b.ty (ensure_ok (is_int b.ty) Mismatch u.0 u.1))
  reduces_by sc red _ (is_global n g l found) at is =
      let u = then_ok (ensure (is_int g.ty) Mismatch) (λ _. Ok _) at is in st.of_global l found (int_true g.ty (ensure_ok (is_int g.ty) Mismatch u.0 u.1))
  reduces_by sc red None h at is = absurd cc

  reductions_end : {B : Type 0} (line : ℕ) (reds : List NamedRed) (f : List Red → Walk B) (s : Progress) (z : B × Progress)
      → Ends (bind (w.reductions known func result line reds) f s) z
      → AllOf (st.Reduces (names known (in_scope s.scope))) reds × ((v : List Red) × Ends (f v s) z)
  reductions_end line [] f s z e = (none, ([], sym (pure_ends [] f s) ∙ e))
  reductions_end line (red ∷ reds) f s z e =
      let a = sym (assoc (w.reduction known func result line red) (λ a. bind (w.reductions known func result line reds) (λ as'. pure (a ∷ as'))) f s) ∙ e in
      let b = sym
      (assoc (checks line (λ scope. and_then (some_or (variable_named known (in_scope scope) red.name) Unknown) w.variable_at))
      (λ at. pure (record { op = red.op; at = at })) (λ a. bind (bind (w.reductions known func result line reds) (λ as'. pure (a ∷ as'))) f) s) ∙ a in
      let c = checks_ends line (λ scope. and_then (some_or (variable_named known (in_scope scope) red.name) Unknown) w.variable_at)
      (λ at. bind (pure (record { op = red.op; at = at })) (λ a. bind (bind (w.reductions known func result line reds) (λ as'. pure (a ∷ as'))) f)) s z b in
      let d = sym (pure_ends (record { op = red.op; at = c.0 }) (λ a. bind (bind (w.reductions known func result line reds) (λ as'. pure (a ∷ as'))) f) s)
      ∙ c.2 in
      let q = reductions_end line reds (λ as'. bind (pure (record { op = red.op; at = c.0 } ∷ as')) f) s z
      (sym (assoc (w.reductions known func result line reds) (λ as'. pure (record { op = red.op; at = c.0 } ∷ as')) f s) ∙ d) in (
        more (reduces_by s.scope red (variable_named known (in_scope s.scope) red.name) (variable_is known (in_scope s.scope) red.name) c.0 c.1) q.0,
        (record { op = red.op; at = c.0 } ∷ q.1.0, sym (pure_ends (record { op = red.op; at = c.0 } ∷ q.1.0) f s) ∙ q.1.1),
      )

  choice_ends : {B : Type 0} (line : ℕ) (note : Option LoopNote) (f : Option Choice → Walk B) (s : Progress) (z : B × Progress)
      → Ends (bind (w.choice_of known func result line note) f s) z
      → st.Noted (st.in_block setting (block s.scope)) note × ((v : Option Choice) × Ends (f v s) z)
  choice_ends line None f s z e = (st.plain, (None, sym (pure_ends None f s) ∙ e))
  choice_ends line (Some n) f s z e =
      let q = reductions_end line n.reduce (λ reds. bind (pure (Some (by_words n.policy n.order reds))) f) s z
      (sym (assoc (w.reductions known func result line n.reduce) (λ reds. pure (Some (by_words n.policy n.order reds))) f s) ∙ e) in (
        st.annotated (into (λ g. AllOf (st.Reduces g) n.reduce) s.scope q.0),
        (Some (by_words n.policy n.order q.1.0), sym (pure_ends (Some (by_words n.policy n.order q.1.0)) f s) ∙ q.1.1),
      )

  body_ends : {B : Type 0} (line : ℕ) (own : Option Choice) (body : Stmt) (f : TStmt × Option ℕ → Walk B) (s : Progress) (z : B × Progress) → Sound body
      → Ends (bind (w.looped_body known func result line own (w.part known func result body)) f s) z
      → st.Branch setting true (block s.scope) body × ((v : TStmt × Option ℕ) × ((s' : Progress) × (block s.scope ≡ block s'.scope) × Ends (f v s') z))
  body_ends line None body f s z h e =
      let q = branch_ends body true (λ b. bind (pure (b, None)) f) s z h
      (sym (assoc (w.part_if w.is_body (w.part known func result body) true) (λ b. pure (b, None)) f s) ∙ e) in
      (q.0, ((q.1.0.0, None), (q.1.0.1, q.1.1, sym (pure_ends (q.1.0.0, None) f q.1.0.1) ∙ q.1.2)))
  body_ends line (Some own) body f s z h e =
      let a = sym
      (assoc (begin_loop func line own)
      (λ n. bind (w.part_if w.is_body (w.part known func result body) true) (λ b. bind (end_loop n) (λ _. pure (b, Some n)))) f s) ∙ e in
      let b = sym
      (begin_ends func line own
      (λ n. bind (bind (w.part_if w.is_body (w.part known func result body) true) (λ b. bind (end_loop n) (λ _. pure (b, Some n)))) f) s) ∙ a in
      let n = length s.loops in
      let c = sym
      (assoc (w.part_if w.is_body (w.part known func result body) true) (λ b. bind (end_loop n) (λ _. pure (b, Some n))) f (begun_loop func line own s))
      ∙ b in
      let q = branch_ends body true (λ b. bind (bind (end_loop n) (λ _. pure (b, Some n))) f) (begun_loop func line own s) z h c in
      let d = sym (assoc (end_loop n) (λ _. pure (q.1.0.0, Some n)) f q.1.0.1) ∙ q.1.2 in
      let g = sym (end_ends n (λ _. bind (pure (q.1.0.0, Some n)) f) q.1.0.1) ∙ d in
      (q.0, ((q.1.0.0, Some n), (ended_loop n q.1.0.1, q.1.1, sym (pure_ends (q.1.0.0, Some n) f (ended_loop n q.1.0.1)) ∙ g)))

  -- ---- each kind of statement

  starts_by : (line : ℕ) (a : CType) (v : Option Expr) (f : TExpr → Walk TKind) (s : Progress) (z : TKind × Progress)
      → Ends (bind (w.initial known func result line a v) f s) z → st.Starts (st.in_block setting (block s.scope)) a v × ((y : TExpr) × Ends (f y s) z)
  starts_by line a None f s z e = (st.zeroed, (te.Number (pos 0), sym (pure_ends (te.Number (pos 0)) f s) ∙ e))
  starts_by line a (Some v) f s z e =
      let p = checks_ends line (λ scope. x.operand known (in_scope scope) v) (λ p. bind (lift line (o.fitting a p)) f) s z
      (sym (assoc (w.operand_of known func result line v) (λ p. lift line (o.fitting a p)) f s) ∙ e) in
      let y = lift_ends line (o.fitting a p.0) f s z p.2 in
      (st.by (into (λ n. r.Fits n v a) s.scope (sound.fitting_is known (in_scope s.scope) v p.0 a y.0 (describes s.scope v p.0 p.1) y.1)), (y.0, y.2))

  declare_sound : (a : CType) (name : Name) (v : Option Expr) → KindSound (k.Declare a name v)
  declare_sound a name v line looped s z e =
      let rest : Unit {0} → Walk TKind = λ _. bind (add_local name a) (λ n. bind (w.initial known func result line a v) (λ y. pure (tk.SetLocal n y))) in
      let new = λ (scope : Scope). ensure (not (is_declared name scope)) Twice in
      let shaped = type_checked (is_struct known.structs) (is_struct known.structs) is_scalar a in
      let d = by_walk (nodes.walks-Declare known func result a name v line looped) s z e in
      let c = checks_ends line new (λ _. bind (lift line shaped) rest) s z (sym (assoc (checks line new) (λ _. lift line shaped) rest s) ∙ d) in
      let l = lift_ends line shaped rest s z c.2 in
      let i = starts_by line a v (λ y. pure (tk.SetLocal (length s.locals) y)) (added name a s) z
      (sym (add_ends name a (λ n. bind (w.initial known func result line a v) (λ y. pure (tk.SetLocal n y))) s) ∙ l.2) in
      let p = pure_is (tk.SetLocal (length s.locals) i.1.0) (added name a s) z i.1.1 in
      conclude p (st.declare
      (local_found name s.scope.inner
      ∙ ap (λ m. option_map field_of_binding m)
      (new_name (λ b. bytes_eq b.name name) s.scope.inner (ensure_ok (not (is_declared name s.scope)) Twice c.0 c.1)))
      (scalar_sound (is_struct known.structs) (is_struct known.structs) a l.0 l.1)
      i.0)

  assign_sound : (a b : Expr) → KindSound (k.Assign a b)
  assign_sound a b line looped s z e =
      let d = by_walk (nodes.walks-Assign known func result a b line looped) s z e in
      let l = checks_ends line (λ scope. x.operand known (in_scope scope) a)
      (λ l. bind (lift line (ensure (w.is_place l) NotPlace))
      (λ _. bind (w.operand_of known func result line b) (λ v. lift line (w.assigned l v)))) s z d in
      let u = lift_ends line (ensure (w.is_place l.0) NotPlace)
      (λ _. bind (w.operand_of known func result line b) (λ v. lift line (w.assigned l.0 v))) s z l.2 in
      let v = checks_ends line (λ scope. x.operand known (in_scope scope) b) (λ v. lift line (w.assigned l.0 v)) s z u.2 in
      let q = check_is line (λ _. w.assigned l.0 v.0) s z v.2 in
      let h = assigns_by s.scope a b l.0 v.0 z.0 (describes s.scope a l.0 l.1) (describes s.scope b v.0 v.1) q.0 in
      subst (λ (p : Progress). st.Statement setting looped (block s.scope) (st.at line (k.Assign a b)) (block p.scope)) q.1
      (st.assign (into (λ n. st.Assigns n a h.0) s.scope h.1) (into (λ n. r.Fits n b h.0) s.scope h.2))

  update_sound : (op : BinOp) (a b : Expr) → KindSound (k.Update op a b)
  update_sound op a b line looped s z e =
      let d = by_walk (nodes.walks-Update known func result op a b line looped) s z e in
      let m = lift_ends line (ensure (w.may_update op) Shape)
      (λ _. bind (w.operand_of known func result line a)
      (λ l. bind (lift line (ensure (w.is_place l) NotPlace))
      (λ _. bind (w.operand_of known func result line b) (λ v. lift line (w.updated op l v))))) s z d in
      let l = checks_ends line (λ scope. x.operand known (in_scope scope) a)
      (λ l. bind (lift line (ensure (w.is_place l) NotPlace))
      (λ _. bind (w.operand_of known func result line b) (λ v. lift line (w.updated op l v)))) s z m.2 in
      let u = lift_ends line (ensure (w.is_place l.0) NotPlace)
      (λ _. bind (w.operand_of known func result line b) (λ v. lift line (w.updated op l.0 v))) s z l.2 in
      let v = checks_ends line (λ scope. x.operand known (in_scope scope) b) (λ v. lift line (w.updated op l.0 v)) s z u.2 in
      let q = check_is line (λ _. w.updated op l.0 v.0) s z v.2 in
      let h = updates_by s.scope op a b l.0 v.0 z.0 (describes s.scope a l.0 l.1) (describes s.scope b v.0 v.1) q.0 in
      subst (λ (p : Progress). st.Statement setting looped (block s.scope) (st.at line (k.Update op a b)) (block p.scope)) q.1
      (st.update (ensure_ok (w.may_update op) Shape m.0 m.1) (into (λ n. st.Assigns n a t.Int) s.scope h.0) (into (λ n. r.Has n b r.value t.Int) s.scope h.1))

  abbrev alone_by : Scope → Name → List Expr → Bool → Checked TExpr
  alone_by sc name xs b =
      if b then and_then (x.operands known (in_scope sc) xs) o.freed
      else and_then (x.call known (in_scope sc) name (x.operands known (in_scope sc) xs)) (λ c. Ok c.1)

  alone_sound : (sc : Scope) (name : Name) (xs : List Expr) (v : TExpr) (line : ℕ) (looped : Bool) (b : Bool) → frees known (in_scope sc) name ≡ b
      → alone_by sc name xs b ≡ Ok v → st.Statement setting looped (block sc) (st.at line (k.Call name xs)) (block sc)
  alone_sound sc name xs v line looped true is e =
      let h = sound.freed_is known (in_scope sc) xs v (sound.each_reads known (in_scope sc) xs) e in
      subst (λ ys. st.Statement setting looped (block sc) (st.at line (k.Call name ys)) (block sc)) (sym h.1)
      (st.free h.2.0 (into (λ n. st.Frees n name) sc (frees_sound known (in_scope sc) name is)) (into (λ n. r.Fits n h.0 (t.Ptr h.2.0)) sc h.2.1))
  alone_sound sc name xs v line looped false is run =
      let c = then_ok (x.call known (in_scope sc) name (x.operands known (in_scope sc) xs)) (λ c. Ok c.1) v run in
      let h = sound.call_is known (in_scope sc) name xs c.0 (sound.each_reads known (in_scope sc) xs) c.1 in
      st.call (into (λ n. r.Has n (e.Call name xs) r.value c.0.0) sc h)

  call_sound : (name : Name) (xs : List Expr) → KindSound (k.Call name xs)
  call_sound name xs line looped s z run =
      let d = by_walk (nodes.walks-Call known func result name xs line looped) s z run in
      let c = checks_ends line (λ scope. x.call_alone known (in_scope scope) name (x.operands known (in_scope scope) xs)) (λ c. pure (tk.Call c)) s z d in
      conclude (pure_is (tk.Call c.0) s z c.2) (alone_sound s.scope name xs c.0 line looped (frees known (in_scope s.scope) name) refl c.1)

  print_sound : (f : List Piece) (xs : List Expr) → KindSound (k.Print f xs)
  print_sound f xs line looped s z e =
      let d = by_walk (nodes.walks-Print known func result f xs line looped) s z e in
      let p = checks_ends line (λ scope. x.operands known (in_scope scope) xs)
      (λ ps. bind (lift line (ensure (length ps == w.numbers_in f) Count))
      (λ _. bind (lift line (each o.integer ps)) (λ ns. pure (tk.Print f ns)))) s z d in
      let u = lift_ends line (ensure (length p.0 == w.numbers_in f) Count) (λ _. bind (lift line (each o.integer p.0)) (λ ns. pure (tk.Print f ns))) s z p.2 in
      let v = lift_ends line (each o.integer p.0) (λ ns. pure (tk.Print f ns)) s z u.2 in
      let h = sound.expressions_are known (in_scope s.scope) xs p.0 p.1 in
      conclude (pure_is (tk.Print f v.0) s z v.2)
      (st.print (as_many s.scope h ∙ eqb-true (length p.0) (w.numbers_in f) (ensure_ok (length p.0 == w.numbers_in f) Count u.0 u.1))
      (into (λ n. AllOf (λ y. r.Has n y r.value t.Int) xs) s.scope (integers_all s.scope v.0 h v.1)))

  -- in the end the same is in scope as before
  same_end : {A : Type 0} {looped : Bool} {y : Stmt} (s s' : Progress) (a : A) (z : A × Progress) → block s.scope ≡ block s'.scope → (a, s') ≡ z
      → st.Statement setting looped (block s.scope) y (block s.scope) → st.Statement setting looped (block s.scope) y (block z.1.scope)
  same_end {looped = looped} {y = y} s s' a z same p d = conclude p (subst (λ b. st.Statement setting looped (block s.scope) y b) same d)

  choice_sound : (c : Expr) (a : Stmt) (b : Option Stmt) → Sound a → IfAny Sound b → KindSound (k.If c a b)
  choice_sound c a None h i line looped s z e =
      let d = by_walk (nodes.walks-If known func result c a None line looped) s z e in
      let v = condition_ends line c
      (λ v. bind (w.part_if w.is_body (w.part known func result a) looped) (λ p. bind (pure None) (λ q. pure (tk.If v p q)))) s z d in
      let p = branch_ends a looped (λ p. bind (pure None) (λ q. pure (tk.If v.1.0 p q))) s z h v.1.1 in
      let g = sym (pure_ends None (λ q. pure (tk.If v.1.0 p.1.0.0 q)) p.1.0.1) ∙ p.1.2 in
      same_end s p.1.0.1 (tk.If v.1.0 p.1.0.0 None) z p.1.1 (pure_is (tk.If v.1.0 p.1.0.0 None) p.1.0.1 z g) (st.choice v.0 p.0)
  choice_sound c a (Some b) h (present i) line looped s z e =
      let d = by_walk (nodes.walks-If known func result c a (Some b) line looped) s z e in
      let v = condition_ends line c
      (λ v. bind (w.part_if w.is_body (w.part known func result a) looped)
      (λ p. bind (bind (w.part_if w.is_body (w.part known func result b) looped) (λ t. pure (Some t))) (λ q. pure (tk.If v p q)))) s z d in
      let p = branch_ends a looped
      (λ p. bind (bind (w.part_if w.is_body (w.part known func result b) looped) (λ t. pure (Some t))) (λ q. pure (tk.If v.1.0 p q))) s z h v.1.1 in
      let g = sym (assoc (w.part_if w.is_body (w.part known func result b) looped) (λ t. pure (Some t)) (λ q. pure (tk.If v.1.0 p.1.0.0 q)) p.1.0.1) ∙ p.1.2 in
      let q = branch_ends b looped (λ t. bind (pure (Some t)) (λ q. pure (tk.If v.1.0 p.1.0.0 q))) p.1.0.1 z i g in
      let j = sym (pure_ends (Some q.1.0.0) (λ q. pure (tk.If v.1.0 p.1.0.0 q)) q.1.0.1) ∙ q.1.2 in
      same_end s q.1.0.1 (tk.If v.1.0 p.1.0.0 (Some q.1.0.0)) z (p.1.1 ∙ q.1.1) (pure_is (tk.If v.1.0 p.1.0.0 (Some q.1.0.0)) q.1.0.1 z j)
      (st.choice_of_two v.0 p.0 (subst (λ n. st.Branch setting looped n b) (sym p.1.1) q.0))

  while_sound : (c : Expr) (a : Stmt) → Sound a → KindSound (k.While c a)
  while_sound c a h line looped s z e =
      let d = by_walk (nodes.walks-While known func result c a line looped) s z e in
      let v = condition_ends line c (λ v. bind (w.part_if w.is_body (w.part known func result a) true) (λ p. pure (tk.While v p))) s z d in
      let p = branch_ends a true (λ p. pure (tk.While v.1.0 p)) s z h v.1.1 in
      same_end s p.1.0.1 (tk.While v.1.0 p.1.0.0) z p.1.1 (pure_is (tk.While v.1.0 p.1.0.0) p.1.0.1 z p.1.2) (st.while_loop v.0 p.0)

  for_sound : (first : Option Stmt) (test : Option Expr) (third : Option Stmt) (body : Stmt) (note : Option LoopNote) → IfAny Sound first → IfAny Sound third
      → Sound body → KindSound (k.For first test third body note)
  for_sound first test third body note h i j line looped s z e =
      let d = by_walk (nodes.walks-For known func result first test third body note line looped) s z e in
      let n = choice_ends line note
      (w.for_loop known func result line looped (nodes.part_of known func result first) test (nodes.part_of known func result third)
      (w.part known func result body)) s z d in
      let own = n.1.0 in
      let s1 = scoped s (nested s.scope) in
      let inside =
      bind (w.any_part w.is_first (nodes.part_of known func result first) looped)
      (λ a. bind (w.any_condition known func result line test)
      (λ c. bind (w.any_part w.is_third (nodes.part_of known func result third) looped)
      (λ u. bind (w.looped_body known func result line own (w.part known func result body)) (λ b. pure (tk.For a c u b.0 b.1))))) in
      let q = within_ends inside s z n.1.1 in
      let a = first_ends first looped
      (λ a. bind (w.any_condition known func result line test)
      (λ c. bind (w.any_part w.is_third (nodes.part_of known func result third) looped)
      (λ u. bind (w.looped_body known func result line own (w.part known func result body)) (λ b. pure (tk.For a c u b.0 b.1))))) s1 q.0 h q.1 in
      let c = test_ends line test
      (λ c. bind (w.any_part w.is_third (nodes.part_of known func result third) looped)
      (λ u. bind (w.looped_body known func result line own (w.part known func result body)) (λ b. pure (tk.For a.0.0 c u b.0 b.1)))) a.0.1 q.0 a.2 in
      let u = third_ends third looped
      (λ u. bind (w.looped_body known func result line own (w.part known func result body)) (λ b. pure (tk.For a.0.0 c.1.0 u b.0 b.1))) a.0.1 q.0 i c.1.1 in
      let b = body_ends line own body (λ b. pure (tk.For a.0.0 c.1.0 u.0.0 b.0 b.1)) u.0.1 q.0 j u.2 in
      conclude q.2 (st.for_loop n.0 (subst (λ m. st.First setting looped m first (block a.0.1.scope)) (block_nested s.scope) a.1) c.0 u.1 b.0)

  statements_end : {B : Type 0} (ss : List Stmt) (looped : Bool) (f : List TStmt → Walk B) (s : Progress) (z : B × Progress) → AllOf Sound ss
      → Ends (bind (w.statements known func result looped ss) f s) z
      → (q : List TStmt × Progress) × st.Statements setting looped (block s.scope) ss (block q.1.scope) × Ends (f q.0 q.1) z
  statements_end [] looped f s z hs e = (([], s), st.done, sym (pure_ends [] f s) ∙ e)
  statements_end (b ∷ ss) looped f s z (more h hs) e =
      let d = sym (assoc ((w.part known func result b).walk looped) (λ t. bind (w.statements known func result looped ss) (λ ts. pure (t ∷ ts))) f s) ∙ e in
      let p = bind_ends ((w.part known func result b).walk looped)
      (λ t. bind (bind (w.statements known func result looped ss) (λ ts. pure (t ∷ ts))) f) s z d in
      let g = sym (assoc (w.statements known func result looped ss) (λ ts. pure (p.0.0 ∷ ts)) f p.0.1) ∙ p.2 in
      let q = statements_end ss looped (λ ts. bind (pure (p.0.0 ∷ ts)) f) p.0.1 z hs g in
      ((p.0.0 ∷ q.0.0, q.0.1), st.next (h looped s p.0 p.1) q.1, sym (pure_ends (p.0.0 ∷ q.0.0) f q.0.1) ∙ q.2)

  block_sound : (ss : List Stmt) → AllOf Sound ss → KindSound (k.Block ss)
  block_sound ss hs line looped s z e =
      let d = by_walk (nodes.walks-Block known func result ss line looped) s z e in
      let q = within_ends (bind (w.statements known func result looped ss) (λ ts. pure (tk.Block ts))) s z d in
      let p = statements_end ss looped (λ ts. pure (tk.Block ts)) (scoped s (nested s.scope)) q.0 hs q.1 in
      conclude q.2 (st.block (subst (λ m. st.Statements setting looped m ss (block p.0.1.scope)) (block_nested s.scope) p.1))

  return_sound : (v : Option Expr) → KindSound (k.Return v)
  return_sound None line looped s z e =
      let d = by_walk (nodes.walks-Return known func result None line looped) s z e in
      let u = lift_ends line (ensure (w.is_void result) Return) (λ _. pure (tk.Return None)) s z d in
      conclude (pure_is (tk.Return None) s z u.2) (st.return_none (void_true result (ensure_ok (w.is_void result) Return u.0 u.1)))
  return_sound (Some y) line looped s z e =
      let d = by_walk (nodes.walks-Return known func result (Some y) line looped) s z e in
      let p = checks_ends line (λ scope. x.operand known (in_scope scope) y)
      (λ p. bind (lift line (ensure (not (w.is_void result)) Return))
      (λ _. bind (lift line (o.fitting result p)) (λ a. pure (tk.Return (Some a))))) s z d in
      let u = lift_ends line (ensure (not (w.is_void result)) Return) (λ _. bind (lift line (o.fitting result p.0)) (λ a. pure (tk.Return (Some a)))) s z p.2 in
      let v = lift_ends line (o.fitting result p.0) (λ a. pure (tk.Return (Some a))) s z u.2 in
      conclude (pure_is (tk.Return (Some v.0)) s z v.2)
      (st.return_value
      (into (λ n. r.Fits n y result) s.scope (sound.fitting_is known (in_scope s.scope) y p.0 result v.0 (describes s.scope y p.0 p.1) v.1)))

  break_sound : KindSound k.Break
  break_sound line true s z e =
      let d = by_walk (nodes.walks-Break known func result line true) s z e in
      let u = lift_ends line (ensure true Outside) (λ _. pure tk.Break) s z d in conclude (pure_is tk.Break s z u.2) st.break_loop
  break_sound line false s z e =
      let d = by_walk (nodes.walks-Break known func result line false) s z e in
      let u = lift_ends line (ensure false Outside) (λ _. pure tk.Break) s z d in
      let no : false ≡ true = ensure_ok false Outside u.0 u.1 in absurd cc

  continue_sound : KindSound k.Continue
  continue_sound line true s z e =
      let d = by_walk (nodes.walks-Continue known func result line true) s z e in
      let u = lift_ends line (ensure true Outside) (λ _. pure tk.Continue) s z d in conclude (pure_is tk.Continue s z u.2) st.continue_loop
  continue_sound line false s z e =
      let d = by_walk (nodes.walks-Continue known func result line false) s z e in
      let u = lift_ends line (ensure false Outside) (λ _. pure tk.Continue) s z d in
      let no : false ≡ true = ensure_ok false Outside u.0 u.1 in absurd cc

  empty_sound : KindSound k.Empty
  empty_sound line looped s z e = conclude (pure_is tk.Empty s z (by_walk (nodes.walks-Empty known func result line looped) s z e)) st.empty

  stmt_sound : (line : ℕ) (d : StmtKind) → KindSound d → Sound (st.at line d)
  stmt_sound line d h looped s z e =
      let p = by_walk (nodes.walks-stmt known func result (st.at line d) looped) s z e in
      let q = sym
      (ap (λ (b : Stmt-F StmtKind Stmt). bind ((w.kind_part known func result b.kind).walk b.line looped)
      (λ d. pure (roll-TStmt (record { line = b.line; kind = d }))) s) (out-roll-Stmt (record { line = line; kind = d }))) ∙ p in
      let a = bind_ends ((w.kind_part known func result d).walk line looped) (λ d. pure (roll-TStmt (record { line = line; kind = d }))) s z q in
      conclude (pure_is (roll-TStmt (record { line = line; kind = a.0.0 })) a.0.1 z a.2) (h line looped s a.0 a.1)

  sound_cases : StmtCases Sound KindSound
  sound_cases = record {
    stmt = stmt_sound;
    empty = empty_sound;
    declare = declare_sound;
    assign = assign_sound;
    update = update_sound;
    call = call_sound;
    print = print_sound;
    choice = choice_sound;
    while_loop = while_sound;
    for_loop = for_sound;
    block = block_sound;
    returns = return_sound;
    breaks = break_sound;
    continues = continue_sound;
  }

  pub statement_is : (b : Stmt) → Sound b
  statement_is = stmt_induct Sound KindSound sound_cases

  all_sound : (ss : List Stmt) → AllOf Sound ss
  all_sound [] = none
  all_sound (b ∷ ss) = more (statement_is b) (all_sound ss)

  pub statements_are : (ss : List Stmt) (looped : Bool) (s : Progress) (z : List TStmt × Progress) → Ends (w.statements known func result looped ss s) z
      → st.Statements setting looped (block s.scope) ss (block z.1.scope)
  statements_are ss looped s z e =
      let q = statements_end ss looped (λ ts. pure ts) s z (all_sound ss) (bind_pure (w.statements known func result looped ss) s ∙ e) in
      subst (λ (q : List TStmt × Progress). st.Statements setting looped (block s.scope) ss (block q.1.scope)) (pure_is q.0.0 q.0.1 z q.2) q.1
