-- What the rules say of a statement, the walk answers.
use Rattle.std.proofs.Common.{◌≡◌, ℕ, ◌==◌, Bool, true, false, not, List, [], ◌∷◌, length, if◌then◌else◌, Option, Some, None, option_map, pos, Ok, bytes_eq, find, refl, sym, ap, ◌∙◌, subst, eq-eqb, suc}
use Rattle.al_source.specs.Steps.{and_then}
use Rattle.al_source.specs.declared.annotations.LoopNote.{LoopNote}
use Rattle.al_source.specs.declared.annotations.NamedRed.{NamedRed}
use Rattle.al_source.specs.declared.operators.BinOp.{BinOp}
use Rattle.al_source.specs.declared.source_tree.CType.{CType, out-CType}
use Rattle.al_source.specs.declared.source_tree.CType.TheVariants as t
use Rattle.al_source.specs.declared.source_tree.Expr.{Expr}
use Rattle.al_source.specs.declared.source_tree.Expr.TheVariants as e
use Rattle.al_source.specs.declared.source_tree.Stmt.{Stmt, out-roll-Stmt}
use Rattle.al_source.specs.declared.source_tree.StmtKind.{StmtKind}
use Rattle.al_source.specs.declared.source_tree.StmtKind.TheOpen.{Stmt-F}
use Rattle.al_source.specs.declared.source_tree.StmtKind.TheVariants as k
use Rattle.al_core.specs.declared.choices.Choice.{Choice}
use Rattle.al_core.specs.declared.choices.Red.{Red}
use Rattle.al_core.specs.declared.values.Obj.TheVariants as obj
use Rattle.al_core.specs.declared.values.Addr.{Addr}
use Rattle.al_core.specs.declared.values.Addr.TheVariants as addr
use Rattle.al_core.specs.declared.typed_tree.TExpr.{TExpr}
use Rattle.al_core.specs.declared.typed_tree.TExpr.TheVariants as te
use Rattle.al_core.specs.declared.typed_tree.TStmt.{TStmt, roll-TStmt}
use Rattle.al_core.specs.declared.typed_tree.TKind.{TKind}
use Rattle.al_core.specs.declared.typed_tree.TKind.TheVariants as tk
use Rattle.al_core.specs.Lines.{by_words}
use Rattle.al_rules.specs.declared.faults.TypeKind.TheVariants.{Twice, Unknown, Shape, Mismatch, NotPlace, Count, Return, Outside}
use Rattle.al_rules.specs.declared.operands.Operand.{Operand}
use Rattle.al_rules.specs.declared.operands.Operand.TheVariants.{Value, Variable, Place}
use Rattle.al_rules.specs.Names.{Name, AllOf, none, more}
use Rattle.al_rules.specs.Checks.{Checked, each, ensure, some_or}
use Rattle.al_rules.specs.Types.{is_int, is_scalar, type_checked}
use Rattle.al_rules.specs.Scopes.{Binding, Known, Scope, in_scope, nested, is_declared, is_struct, variable_named, callee_named}
use Rattle.al_rules.specs.Operands as o
use Rattle.al_rules.specs.Expressions as x
use Rattle.al_rules.specs.Walks.{Progress, Walk, bind, pure, checks, lift, fails, add_local, begin_loop, end_loop}
use Rattle.al_rules.specs.Statements as w
use Rattle.al_rules.specs.ExpressionRules as r
use Rattle.al_rules.specs.StatementRules as st
use Rattle.al_rules.proofs.StatementNodes as nodes
use Rattle.al_rules.proofs.ExpressionNodes.{operand-Call}
use Rattle.al_rules.proofs.TypeNodes.{int-Int}
use Rattle.al_rules_laws.proofs.Logic.{ensured, then_ok}
use Rattle.al_rules_laws.proofs.SourceInduction.{StmtCases, stmt_induct}
use Rattle.al_rules_laws.proofs.TypeFacts.{scalar_complete}
use Rattle.al_rules_laws.proofs.NameFacts.{names, field_of_binding, local_found, new_name_back, variable_is, called_frees_nothing, frees_complete}
use Rattle.al_rules_laws.proofs.ExpressionsComplete as complete
use Rattle.al_rules_laws.proofs.WalkFacts.{Ends, added, begun_loop, ended_loop, scoped, assoc, pure_ends, add_ends, begin_ends, end_ends, within_by_end, bind_by, checks_by, lift_by, check_end, pure_end, block, block_nested}
use Rattle.al_rules_laws.proofs.StatementsSound.{setting, in_names, sort_at, keeps}

module _ (known : Known) (func : ℕ) (result : CType) where
  abbrev g : st.Setting
  g = setting known func result

  abbrev sort_of : Stmt → w.Sort
  sort_of b = (w.part known func result b).sort

  -- ---- the sort of a statement

  simple_sort : {b : Stmt} → st.IsSimple b → sort_of b ≡ w.Simple
  simple_sort (st.assign {line = line} {x = y} {y = v}) = sort_at known func result line (k.Assign y v) ∙ nodes.sort-Assign known func result y v
  simple_sort (st.update {line = line} {op = op} {x = y} {y = v}) =
      sort_at known func result line (k.Update op y v) ∙ nodes.sort-Update known func result op y v
  simple_sort (st.call {line = line} {name = name} {xs = xs}) = sort_at known func result line (k.Call name xs) ∙ nodes.sort-Call known func result name xs
  simple_sort (st.print {line = line} {f = f} {xs = xs}) = sort_at known func result line (k.Print f xs) ∙ nodes.sort-Print known func result f xs

  first_sort : {b : Stmt} → st.IsFirst b → w.is_first (sort_of b) ≡ true
  first_sort (st.declare {line = line} {a = a} {name = name} {x = v}) =
      ap w.is_first (sort_at known func result line (k.Declare a name (Some v)) ∙ nodes.sort-Sets known func result a name v)
  first_sort (st.simple d) = ap w.is_first (simple_sort d)

  abbrev IsBody : Stmt → Type 0
  IsBody b = (st.IsDeclaration b → ⊥) → w.is_body (sort_of b) ≡ true

  abbrev KindIsBody : StmtKind → Type 0
  KindIsBody d = (line : ℕ) → (st.IsDeclaration (st.at line d) → ⊥) → w.is_body ((w.kind_part known func result d).sort) ≡ true

  body_cases : StmtCases IsBody KindIsBody
  body_cases = record {
    stmt = λ line d h never. ap w.is_body (sort_at known func result line d) ∙ h line never;
    empty = λ line never. ap w.is_body (nodes.sort-Empty known func result);
    declare = λ a name v line never. absurd (never st.declare);
    assign = λ a b line never. ap w.is_body (nodes.sort-Assign known func result a b);
    update = λ op a b line never. ap w.is_body (nodes.sort-Update known func result op a b);
    call = λ name xs line never. ap w.is_body (nodes.sort-Call known func result name xs);
    print = λ f xs line never. ap w.is_body (nodes.sort-Print known func result f xs);
    choice = λ c a b h i line never. ap w.is_body (nodes.sort-If known func result c a b);
    while_loop = λ c a h line never. ap w.is_body (nodes.sort-While known func result c a);
    for_loop = λ first test third body note h i j line never. ap w.is_body (nodes.sort-For known func result first test third body note);
    block = λ ss h line never. ap w.is_body (nodes.sort-Block known func result ss);
    returns = λ v line never. ap w.is_body (nodes.sort-Return known func result v);
    breaks = λ line never. ap w.is_body (nodes.sort-Break known func result);
    continues = λ line never. ap w.is_body (nodes.sort-Continue known func result);
  }

  body_sort : (b : Stmt) → IsBody b
  body_sort = stmt_induct IsBody KindIsBody body_cases

  -- ---- names

  -- out of the names of a block
  out_of : (A : r.Names → Type 0) (s : Progress) (b : st.Block) → block s.scope ≡ b → A (st.in_block g b) → A (names known (in_scope s.scope))
  out_of A s b same d = subst A (sym (in_names known func result s.scope ∙ ap (st.in_block g) same)) d

  -- what a walk of a statement comes to
  pub record Walks (looped : Bool) (b : Stmt) (s : Progress) (after : st.Block) : Type 0 where
    pub end : TStmt × Progress
    pub ends : Ends ((w.part known func result b).walk looped s) end
    pub scope : block end.1.scope ≡ after

  walks_by : (line : ℕ) (d : StmtKind) (looped : Bool) (s : Progress) (after : st.Block) (q : TKind × Progress)
      → Ends ((w.kind_part known func result d).walk line looped s) q → block q.1.scope ≡ after → Walks looped (st.at line d) s after
  walks_by line d looped s after q e same = record {
    end = (roll-TStmt (record { line = line; kind = q.0 }), q.1);
    ends =
        ap (λ f. f s) (nodes.walks-stmt known func result (st.at line d) looped)
        ∙ ap (λ (b : Stmt-F StmtKind Stmt). bind ((w.kind_part known func result b.kind).walk b.line looped)
        (λ d. pure (roll-TStmt (record { line = b.line; kind = d }))) s) (out-roll-Stmt (record { line = line; kind = d }))
        ∙ bind_by ((w.kind_part known func result d).walk line looped) (λ d. pure (roll-TStmt (record { line = line; kind = d }))) s q e
        ∙ pure_end (roll-TStmt (record { line = line; kind = q.0 })) q.1;
    scope = same;
  }

  -- ---- parts of statements

  operand_by : {B : Type 0} (line : ℕ) (a : Expr) (f : Operand → Walk B) (s : Progress) (p : Operand) → x.operand known (in_scope s.scope) a ≡ Ok p
      → bind (w.operand_of known func result line a) f s ≡ f p s
  operand_by line a f s p e = checks_by line (λ scope. x.operand known (in_scope scope) a) f s p e

  condition_by : {B : Type 0} (line : ℕ) (c : Expr) (f : TExpr → Walk B) (s : Progress) → r.Condition (names known (in_scope s.scope)) c
      → (v : TExpr) × (bind (w.condition known func result line c) f s ≡ f v s)
  condition_by line c f s d =
      let p = complete.condition known (in_scope s.scope) d in (
        p.2.0,
        assoc (w.operand_of known func result line c) (λ p. lift line (o.scalar p)) f s
            ∙ operand_by line c (λ p. bind (lift line (o.scalar p)) f) s p.0 p.1
            ∙ lift_by line (o.scalar p.0) f s p.2.0 p.2.1,
      )

  test_by : {B : Type 0} (line : ℕ) (test : Option Expr) (f : Option TExpr → Walk B) (s : Progress) → st.Tested (names known (in_scope s.scope)) test
      → (v : Option TExpr) × (bind (w.any_condition known func result line test) f s ≡ f v s)
  test_by line None f s st.always = (None, pure_ends None f s)
  test_by line (Some c) f s (st.test d) =
      let v = condition_by line c (λ v. bind (pure (Some v)) f) s d in
      (Some v.0, assoc (w.condition known func result line c) (λ v. pure (Some v)) f s ∙ v.1 ∙ pure_ends (Some v.0) f s)

  starts_by : {B : Type 0} (line : ℕ) (a : CType) (v : Option Expr) (f : TExpr → Walk B) (s : Progress) → st.Starts (names known (in_scope s.scope)) a v
      → (y : TExpr) × (bind (w.initial known func result line a v) f s ≡ f y s)
  starts_by line a None f s st.zeroed = (te.Number (pos 0), pure_ends (te.Number (pos 0)) f s)
  starts_by line a (Some v) f s (st.by d) =
      let p = complete.fits known (in_scope s.scope) d in
      let y = complete.fitting_at p.2 in (
        y.0,
        assoc (w.operand_of known func result line v) (λ p. lift line (o.fitting a p)) f s
            ∙ operand_by line v (λ p. bind (lift line (o.fitting a p)) f) s p.0 p.1
            ∙ lift_by line (o.fitting a p.0) f s y.0 y.1,
      )

  pub record Integers (sc : Scope) (xs : List Expr) : Type 0 where
    pub operands : List Operand
    pub are : x.operands known (in_scope sc) xs ≡ Ok operands
    pub as_many : length operands ≡ length xs
    pub terms : List TExpr
    pub integers : each o.integer operands ≡ Ok terms

  integers_by : (sc : Scope) {xs : List Expr} → AllOf (λ y. r.Has (names known (in_scope sc)) y r.value t.Int) xs → Integers sc xs
  integers_by sc none = record { operands = []; are = refl; as_many = refl; terms = []; integers = refl }
  integers_by sc (more d ds) =
      let p = complete.has known (in_scope sc) d in
      let v = complete.integer_at p.2 in
      let h = integers_by sc ds in
      record {
        operands = p.0 ∷ h.operands;
        are = rw (p.1, h.are) refl;
        as_many = ap suc h.as_many;
        terms = v.0 ∷ h.terms;
        integers = rw
            (v.1, h.integers) refl;
      }

  -- the place of an assignment, and what it is
  pub record PlaceOf (sc : Scope) (y : Expr) (a : CType) : Type 0 where
    pub operand : Operand
    pub is : x.operand known (in_scope sc) y ≡ Ok operand
    pub place : w.is_place operand ≡ true
    pub assigned : (p : Operand) (v : TExpr) → o.fitting a p ≡ Ok v → (d : TKind) × (w.assigned operand p ≡ Ok d)
    pub updated : (op : BinOp) (p : Operand) (v : TExpr) → is_int a ≡ true → o.integer p ≡ Ok v → (d : TKind) × (w.updated op operand p ≡ Ok d)

  place_by : (sc : Scope) {y : Expr} {a : CType} → st.Assigns (names known (in_scope sc)) y a → PlaceOf sc y a
  place_by sc {a = a} (st.to_local d) =
      let n = complete.has known (in_scope sc) d in
      record {
        operand = Variable n.0 a;
        is = n.1;
        place = refl;
        assigned = λ p v f. (tk.SetLocal n.0 v, rw f refl);
        updated = λ op p v i f. (tk.UpdateLocal op n.0 v, rw (i, f) refl);
      }
  place_by sc {a = a} (st.to_place d) =
      let q = complete.has known (in_scope sc) d in
      record {
        operand = Place a q.0;
        is = q.1;
        place = refl;
        assigned = λ p v f. (tk.Store q.0 v, rw f refl);
        updated = λ op p v i f. (tk.UpdateAt op q.0 v, rw (i, f) refl);
      }

  -- ---- annotations

  reduction_by : (sc : Scope) (red : NamedRed) → st.Reduces (names known (in_scope sc)) red
      → (at : Addr) × (and_then (some_or (variable_named known (in_scope sc) red.name) Unknown) w.variable_at ≡ Ok at)
  reduction_by sc red (st.of_local {f = f} found is) =
      let v = complete.variable_local known (in_scope sc) red.name f (variable_named known (in_scope sc) red.name)
      (variable_is known (in_scope sc) red.name) found in (
        addr.Local v.0,
        ap (λ m. and_then (some_or m Unknown) w.variable_at) v.1
            ∙ ap (λ a. and_then (ensure (is_int a) Mismatch) (λ _. Ok (addr.Local v.0))) is
            ∙ ap (λ b. and_then (ensure b Mismatch) (λ _. Ok (addr.Local v.0))) int-Int,
      )
  reduction_by sc red (st.of_global {x = y} l found is) =
      let v = complete.variable_global known (in_scope sc) red.name y (variable_named known (in_scope sc) red.name)
      (variable_is known (in_scope sc) red.name) l found in (
        addr.Word (obj.Global v.0) 0,
        ap (λ m. and_then (some_or m Unknown) w.variable_at) v.1
            ∙ ap (λ a. and_then (ensure (is_int a) Mismatch) (λ _. Ok (addr.Word (obj.Global v.0) 0))) is
            ∙ ap (λ b. and_then (ensure b Mismatch) (λ _. Ok (addr.Word (obj.Global v.0) 0))) int-Int,
      )

  reductions_by : {B : Type 0} (line : ℕ) (reds : List NamedRed) (f : List Red → Walk B) (s : Progress)
      → AllOf (st.Reduces (names known (in_scope s.scope))) reds → (v : List Red) × (bind (w.reductions known func result line reds) f s ≡ f v s)
  reductions_by line [] f s none = ([], pure_ends [] f s)
  reductions_by line (red ∷ reds) f s (more d ds) =
      let a = reduction_by s.scope red d in
      let one : Red = record { op = red.op; at = a.0 } in
      let q = reductions_by line reds (λ as'. bind (pure (one ∷ as')) f) s ds in (
        one ∷ q.0,
        assoc (w.reduction known func result line red) (λ a. bind (w.reductions known func result line reds) (λ as'. pure (a ∷ as'))) f s
            ∙ assoc (checks line (λ scope. and_then (some_or (variable_named known (in_scope scope) red.name) Unknown) w.variable_at))
            (λ at. pure (record { op = red.op; at = at })) (λ a. bind (bind (w.reductions known func result line reds) (λ as'. pure (a ∷ as'))) f) s
            ∙ checks_by line (λ scope. and_then (some_or (variable_named known (in_scope scope) red.name) Unknown) w.variable_at)
            (λ at. bind (pure (record { op = red.op; at = at }))
            (λ a. bind (bind (w.reductions known func result line reds) (λ as'. pure (a ∷ as'))) f)) s a.0 a.1
            ∙ pure_ends one (λ a. bind (bind (w.reductions known func result line reds) (λ as'. pure (a ∷ as'))) f) s
            ∙ assoc (w.reductions known func result line reds) (λ as'. pure (one ∷ as')) f s
            ∙ q.1
            ∙ pure_ends (one ∷ q.0) f s,
      )

  choice_by : {B : Type 0} (line : ℕ) (note : Option LoopNote) (f : Option Choice → Walk B) (s : Progress) → st.Noted (names known (in_scope s.scope)) note
      → (v : Option Choice) × (bind (w.choice_of known func result line note) f s ≡ f v s)
  choice_by line None f s st.plain = (None, pure_ends None f s)
  choice_by line (Some n) f s (st.annotated ds) =
      let q = reductions_by line n.reduce (λ reds. bind (pure (Some (by_words n.policy n.order reds))) f) s ds in
      let own : Choice = by_words n.policy n.order q.0 in (
        Some own,
        assoc (w.reductions known func result line n.reduce) (λ reds. pure (Some (by_words n.policy n.order reds))) f s ∙ q.1
            ∙ pure_ends (Some own) f s,
      )

  -- ---- each kind of statement

  void_is : (a : CType) → a ≡ t.Void → w.is_void a ≡ true
  unfolding w.is_void
  void_is a is = ap w.is_void_case (ap out-CType is ∙ t.outs-Void)

  -- nothing fits `void`
  fits_no_void : {n : r.Names} {y : Expr} {a : CType} → r.Fits n y a → w.is_void a ≡ false
  unfolding w.is_void
  fits_no_void (r.fits_int d) = ap w.is_void_case t.outs-Int
  fits_no_void (r.fits_pointer a d) = ap w.is_void_case (t.outs-Ptr a)
  fits_no_void (r.null a) = ap w.is_void_case (t.outs-Ptr a)
  fits_no_void (r.zero_literal a) = ap w.is_void_case (t.outs-Ptr a)

  -- a call, as a statement has it
  called_by : (s : Progress) (name : Name) (xs : List Expr) (a : CType) → r.Has (names known (in_scope s.scope)) (e.Call name xs) r.value a
      → (v : TExpr) × (x.call_alone known (in_scope s.scope) name (x.operands known (in_scope s.scope) xs) ≡ Ok v)
  called_by s name xs a d =
      let p = complete.has known (in_scope s.scope) d in
      let q = then_ok (x.call known (in_scope s.scope) name (x.operands known (in_scope s.scope) xs)) (λ c. Ok (Value c.0 c.1)) p.0
      (sym (operand-Call known (in_scope s.scope) name xs) ∙ p.1) in
      let ps = then_ok (x.operands known (in_scope s.scope) xs) (λ ps. and_then (callee_named known (in_scope s.scope) name) (λ f. o.called f ps)) q.0 q.1 in
      let c = then_ok (callee_named known (in_scope s.scope) name) (λ f. o.called f ps.0) q.0 ps.2 in (
        q.0.1,
        ap (λ b. if b then and_then (x.operands known (in_scope s.scope) xs) o.freed else and_then
            (x.call known (in_scope s.scope) name (x.operands known (in_scope s.scope) xs)) (λ c. Ok c.1))
            (called_frees_nothing known (in_scope s.scope) name c.0 c.1)
            ∙ ap (λ m. and_then m (λ c. Ok c.1)) q.1,
      )

  -- a statement that frees an object
  freed_by : (s : Progress) (name : Name) (y : Expr) (a : CType) → st.Frees (names known (in_scope s.scope)) name
      → r.Fits (names known (in_scope s.scope)) y (t.Ptr a)
      → (v : TExpr) × (x.call_alone known (in_scope s.scope) name (x.operands known (in_scope s.scope) (y ∷ [])) ≡ Ok v)
  unfolding o.freed
  freed_by s name y a h d =
      let p = complete.fits known (in_scope s.scope) d in
      let m = complete.fits_pointer_at a p.2 refl in
      (te.Free m.0.1, rw (frees_complete known (in_scope s.scope) name h, p.1, m.1) refl)

  new_by : (name : Name) (s : Progress) (b : st.Block) → block s.scope ≡ b → r.named (λ f. f.name) name b.inner ≡ None → not (is_declared name s.scope) ≡ true
  new_by name s b same is =
      new_name_back (λ b. bytes_eq b.name name) s.scope.inner
      (none_mapped (find (λ b. bytes_eq b.name name) s.scope.inner) (sym (local_found name s.scope.inner)
      ∙ ap (λ (c : st.Block). r.named (λ f. f.name) name c.inner) same ∙ is))
    where
      none_mapped : (m : Option Binding) → option_map field_of_binding m ≡ None → m ≡ None
      none_mapped None e = refl
      none_mapped (Some b) e = absurd cc

  part_by : {B : Type 0} (allowed : w.Sort → Bool) (b : Stmt) (looped : Bool) (f : TStmt → Walk B) (s : Progress) (q : TStmt × Progress)
      → allowed (sort_of b) ≡ true → Ends ((w.part known func result b).walk looped s) q
      → bind (w.part_if allowed (w.part known func result b) looped) f s ≡ f q.0 q.1
  part_by allowed b looped f s q is e =
      ap (λ c. bind (if c then (w.part known func result b).walk looped else fails (w.part known func result b).line Shape) f s) is
      ∙ bind_by ((w.part known func result b).walk looped) f s q e

  -- a branch that ends, and what is in scope behind it
  pub record Branches (looped : Bool) (b : Stmt) (s : Progress) : Type 0 where
    pub body : w.is_body (sort_of b) ≡ true
    pub end : TStmt × Progress
    pub ends : Ends ((w.part known func result b).walk looped s) end
    pub scope : block s.scope ≡ block end.1.scope

  pub record Firsts (looped : Bool) (first : Option Stmt) (s : Progress) (after : st.Block) : Type 0 where
    pub end : Option TStmt × Progress
    pub goes : (f : Option TStmt → Walk TKind) → bind (w.any_part w.is_first (nodes.part_of known func result first) looped) f s ≡ f end.0 end.1
    pub scope : block end.1.scope ≡ after

  pub record Thirds (looped : Bool) (third : Option Stmt) (s : Progress) (after : st.Block) : Type 0 where
    pub end : Option TStmt × Progress
    pub goes : (f : Option TStmt → Walk TKind) → bind (w.any_part w.is_third (nodes.part_of known func result third) looped) f s ≡ f end.0 end.1
    pub scope : block end.1.scope ≡ after

  pub record Lists (looped : Bool) (ss : List Stmt) (s : Progress) (after : st.Block) : Type 0 where
    pub end : List TStmt × Progress
    pub ends : Ends (w.statements known func result looped ss s) end
    pub scope : block end.1.scope ≡ after

  pub record Bodies (own : Option Choice) (body : Stmt) (line : ℕ) (s : Progress) : Type 0 where
    pub end : (TStmt × Option ℕ) × Progress
    pub goes : (f : TStmt × Option ℕ → Walk TKind) → bind (w.looped_body known func result line own (w.part known func result body)) f s ≡ f end.0 end.1

  -- the body of a loop, from where it is begun
  abbrev start_of : ℕ → Option Choice → Progress → Progress
  start_of line None s = s
  start_of line (Some own) s = begun_loop func line own s

  start_scope : (line : ℕ) (own : Option Choice) (s : Progress) → block (start_of line own s).scope ≡ block s.scope
  start_scope line None s = refl
  start_scope line (Some own) s = refl

  body_by : (own : Option Choice) (body : Stmt) (line : ℕ) (s : Progress) → Branches true body (start_of line own s) → Bodies own body line s
  body_by None body line s h = record {
    end = ((h.end.0, None), h.end.1);
    goes = λ f.
        assoc (w.part_if w.is_body (w.part known func result body) true) (λ b. pure (b, None)) f s
        ∙ part_by w.is_body body true (λ b. bind (pure (b, None)) f) s h.end h.body h.ends
        ∙ pure_ends (h.end.0, None) f h.end.1;
  }
  body_by (Some own) body line s h = record {
    end = ((h.end.0, Some (length s.loops)), ended_loop (length s.loops) h.end.1);
    goes = λ f.
        assoc (begin_loop func line own)
        (λ n. bind (w.part_if w.is_body (w.part known func result body) true) (λ b. bind (end_loop n) (λ _. pure (b, Some n)))) f s
        ∙ begin_ends func line own
        (λ n. bind (bind (w.part_if w.is_body (w.part known func result body) true) (λ b. bind (end_loop n) (λ _. pure (b, Some n)))) f) s
        ∙ assoc (w.part_if w.is_body (w.part known func result body) true) (λ b. bind (end_loop (length s.loops)) (λ _. pure (b, Some (length s.loops)))) f
        (begun_loop func line own s)
        ∙ part_by w.is_body body true (λ b. bind (bind (end_loop (length s.loops)) (λ _. pure (b, Some (length s.loops)))) f)
        (begun_loop func line own s) h.end h.body h.ends
        ∙ assoc (end_loop (length s.loops)) (λ _. pure (h.end.0, Some (length s.loops))) f h.end.1
        ∙ end_ends (length s.loops) (λ _. bind (pure (h.end.0, Some (length s.loops))) f) h.end.1
        ∙ pure_ends (h.end.0, Some (length s.loops)) f (ended_loop (length s.loops) h.end.1);
  }

  mutual
    pub statement : {looped : Bool} {b c : st.Block} {y : Stmt} → st.Statement g looped b y c → (s : Progress) → block s.scope ≡ b → Walks looped y s c
    statement (st.empty {looped = looped} {b = b} {line = line}) s same =
        walks_by line k.Empty looped s b (tk.Empty, s) (ap (λ f. f s) (nodes.walks-Empty known func result line looped) ∙ pure_end tk.Empty s) same
    statement (st.declare {looped = looped} {b = b} {line = line} {a = a} {name = name} {x = v} new d h) s same =
        let rest : Unit {0} → Walk TKind = λ _. bind (add_local name a) (λ n. bind (w.initial known func result line a v) (λ y. pure (tk.SetLocal n y))) in
        let free : Scope → Checked (Unit {0}) = λ scope. ensure (not (is_declared name scope)) Twice in
        let shaped = type_checked (is_struct known.structs) (is_struct known.structs) is_scalar a in
        let s1 = added name a s in
        let same1 = ap (st.with_local name a) same in
        let i = starts_by line a v (λ y. pure (tk.SetLocal (length s.locals) y)) s1 (out_of (λ n. st.Starts n a v) s1 (st.with_local name a b) same1 h) in
        walks_by line (k.Declare a name v) looped s (st.with_local name a b) (tk.SetLocal (length s.locals) i.0, s1)
        (ap (λ f. f s) (nodes.walks-Declare known func result a name v line looped)
        ∙ assoc (checks line free) (λ _. lift line shaped) rest s
        ∙ checks_by line free (λ _. bind (lift line shaped) rest) s tt (ensured Twice (new_by name s b same new))
        ∙ lift_by line shaped rest s tt (scalar_complete (is_struct known.structs) (is_struct known.structs) d)
        ∙ add_ends name a (λ n. bind (w.initial known func result line a v) (λ y. pure (tk.SetLocal n y))) s
        ∙ i.1
        ∙ pure_end (tk.SetLocal (length s.locals) i.0) s1)
        same1
    statement (st.assign {looped = looped} {b = b} {line = line} {x = y} {y = z} {a = a} d h) s same =
        let l = place_by s.scope (out_of (λ n. st.Assigns n y a) s b same d) in
        let p = complete.fits known (in_scope s.scope) (out_of (λ n. r.Fits n z a) s b same h) in
        let v = complete.fitting_at p.2 in
        let q = l.assigned p.0 v.0 v.1 in
        walks_by line (k.Assign y z) looped s b (q.0, s)
        (ap (λ f. f s) (nodes.walks-Assign known func result y z line looped)
        ∙ operand_by line y
        (λ l. bind (lift line (ensure (w.is_place l) NotPlace))
        (λ _. bind (w.operand_of known func result line z) (λ v. lift line (w.assigned l v)))) s l.operand l.is
        ∙ lift_by line (ensure (w.is_place l.operand) NotPlace)
        (λ _. bind (w.operand_of known func result line z) (λ v. lift line (w.assigned l.operand v))) s tt (ensured NotPlace l.place)
        ∙ operand_by line z (λ v. lift line (w.assigned l.operand v)) s p.0 p.1
        ∙ check_end line (λ _. w.assigned l.operand p.0) s q.0 q.1)
        same
    statement (st.update {looped = looped} {b = b} {line = line} {op = op} {x = y} {y = z} m d h) s same =
        let l = place_by s.scope (out_of (λ n. st.Assigns n y t.Int) s b same d) in
        let p = complete.has known (in_scope s.scope) (out_of (λ n. r.Has n z r.value t.Int) s b same h) in
        let v = complete.integer_at p.2 in
        let q = l.updated op p.0 v.0 int-Int v.1 in
        walks_by line (k.Update op y z) looped s b (q.0, s)
        (ap (λ f. f s) (nodes.walks-Update known func result op y z line looped)
        ∙ lift_by line (ensure (w.may_update op) Shape)
        (λ _. bind (w.operand_of known func result line y)
        (λ l. bind (lift line (ensure (w.is_place l) NotPlace))
        (λ _. bind (w.operand_of known func result line z) (λ v. lift line (w.updated op l v))))) s tt (ensured Shape m)
        ∙ operand_by line y
        (λ l. bind (lift line (ensure (w.is_place l) NotPlace))
        (λ _. bind (w.operand_of known func result line z) (λ v. lift line (w.updated op l v)))) s l.operand l.is
        ∙ lift_by line (ensure (w.is_place l.operand) NotPlace)
        (λ _. bind (w.operand_of known func result line z) (λ v. lift line (w.updated op l.operand v))) s tt (ensured NotPlace l.place)
        ∙ operand_by line z (λ v. lift line (w.updated op l.operand v)) s p.0 p.1
        ∙ check_end line (λ _. w.updated op l.operand p.0) s q.0 q.1)
        same
    statement (st.call {looped = looped} {b = b} {line = line} {name = name} {xs = xs} {a = a} d) s same =
        let p = called_by s name xs a (out_of (λ n. r.Has n (e.Call name xs) r.value a) s b same d) in
        walks_by line (k.Call name xs) looped s b (tk.Call p.0, s)
        (ap (λ f. f s) (nodes.walks-Call known func result name xs line looped)
        ∙ checks_by line (λ scope. x.call_alone known (in_scope scope) name (x.operands known (in_scope scope) xs)) (λ c. pure (tk.Call c)) s p.0 p.1
        ∙ pure_end (tk.Call p.0) s)
        same
    statement (st.free {looped = looped} {b = b} {line = line} {name = name} {x = y} a h d) s same =
        let p = freed_by s name y a (out_of (λ n. st.Frees n name) s b same h) (out_of (λ n. r.Fits n y (t.Ptr a)) s b same d) in
        walks_by line (k.Call name (y ∷ [])) looped s b (tk.Call p.0, s)
        (ap (λ f. f s) (nodes.walks-Call known func result name (y ∷ []) line looped)
        ∙ checks_by line (λ scope. x.call_alone known (in_scope scope) name (x.operands known (in_scope scope) (y ∷ []))) (λ c. pure (tk.Call c)) s p.0 p.1
        ∙ pure_end (tk.Call p.0) s)
        same
    statement (st.print {looped = looped} {b = b} {line = line} {f = f} {xs = xs} l d) s same =
        let h = integers_by s.scope (out_of (λ n. AllOf (λ y. r.Has n y r.value t.Int) xs) s b same d) in
        walks_by line (k.Print f xs) looped s b (tk.Print f h.terms, s)
        (ap (λ f. f s) (nodes.walks-Print known func result f xs line looped)
        ∙ checks_by line (λ scope. x.operands known (in_scope scope) xs)
        (λ ps. bind (lift line (ensure (length ps == w.numbers_in f) Count))
        (λ _. bind (lift line (each o.integer ps)) (λ ns. pure (tk.Print f ns)))) s h.operands h.are
        ∙ lift_by line (ensure (length h.operands == w.numbers_in f) Count)
        (λ _. bind (lift line (each o.integer h.operands)) (λ ns. pure (tk.Print f ns))) s tt
        (ensured Count (eq-eqb (length h.operands) (w.numbers_in f) (h.as_many ∙ l)))
        ∙ lift_by line (each o.integer h.operands) (λ ns. pure (tk.Print f ns)) s h.terms h.integers
        ∙ pure_end (tk.Print f h.terms) s)
        same
    statement (st.choice {looped = looped} {b = b} {line = line} {c = c} {x = y} d h) s same =
        let v = condition_by line c (λ v. bind (w.part_if w.is_body (w.part known func result y) looped) (λ p. bind (pure None) (λ q. pure (tk.If v p q)))) s
        (out_of (λ n. r.Condition n c) s b same d) in
        let p = branch h s same in
        walks_by line (k.If c y None) looped s b (tk.If v.0 p.end.0 None, p.end.1)
        (ap (λ f. f s) (nodes.walks-If known func result c y None line looped)
        ∙ v.1
        ∙ part_by w.is_body y looped (λ p. bind (pure None) (λ q. pure (tk.If v.0 p q))) s p.end p.body p.ends
        ∙ pure_ends None (λ q. pure (tk.If v.0 p.end.0 q)) p.end.1
        ∙ pure_end (tk.If v.0 p.end.0 None) p.end.1)
        (sym p.scope ∙ same)
    statement (st.choice_of_two {looped = looped} {b = b} {line = line} {c = c} {x = y} {y = z} d h i) s same =
        let v = condition_by line c
        (λ v. bind (w.part_if w.is_body (w.part known func result y) looped)
        (λ p. bind (bind (w.part_if w.is_body (w.part known func result z) looped) (λ t. pure (Some t))) (λ q. pure (tk.If v p q)))) s
        (out_of (λ n. r.Condition n c) s b same d) in
        let p = branch h s same in
        let q = branch i p.end.1 (sym p.scope ∙ same) in
        walks_by line (k.If c y (Some z)) looped s b (tk.If v.0 p.end.0 (Some q.end.0), q.end.1)
        (ap (λ f. f s) (nodes.walks-If known func result c y (Some z) line looped)
        ∙ v.1
        ∙ part_by w.is_body y looped
        (λ p. bind (bind (w.part_if w.is_body (w.part known func result z) looped) (λ t. pure (Some t))) (λ q. pure (tk.If v.0 p q))) s p.end p.body p.ends
        ∙ assoc (w.part_if w.is_body (w.part known func result z) looped) (λ t. pure (Some t)) (λ q. pure (tk.If v.0 p.end.0 q)) p.end.1
        ∙ part_by w.is_body z looped (λ t. bind (pure (Some t)) (λ q. pure (tk.If v.0 p.end.0 q))) p.end.1 q.end q.body q.ends
        ∙ pure_ends (Some q.end.0) (λ q. pure (tk.If v.0 p.end.0 q)) q.end.1
        ∙ pure_end (tk.If v.0 p.end.0 (Some q.end.0)) q.end.1)
        (sym q.scope ∙ sym p.scope ∙ same)
    statement (st.while_loop {looped = looped} {b = b} {line = line} {c = c} {x = y} d h) s same =
        let v = condition_by line c (λ v. bind (w.part_if w.is_body (w.part known func result y) true) (λ p. pure (tk.While v p))) s
        (out_of (λ n. r.Condition n c) s b same d) in
        let p = branch h s same in
        walks_by line (k.While c y) looped s b (tk.While v.0 p.end.0, p.end.1)
        (ap (λ f. f s) (nodes.walks-While known func result c y line looped)
        ∙ v.1
        ∙ part_by w.is_body y true (λ p. pure (tk.While v.0 p)) s p.end p.body p.ends
        ∙ pure_end (tk.While v.0 p.end.0) p.end.1)
        (sym p.scope ∙ same)
    statement (st.for_loop {looped = looped} {b = b} {b₁ = b1} {b₂ = b2} {line = line} {first = first} {third = third} {test = test} {x = body} {n = note} d f c
        u h) s same =
        let n = choice_by line note
        (w.for_loop known func result line looped (nodes.part_of known func result first) test (nodes.part_of known func result third)
        (w.part known func result body)) s (out_of (λ n. st.Noted n note) s b same d) in
        let own = n.0 in
        let s1 = scoped s (nested s.scope) in
        let a = start f s1 (block_nested s.scope ∙ ap st.within same) in
        let v = test_by line test
        (λ c. bind (w.any_part w.is_third (nodes.part_of known func result third) looped)
        (λ u. bind (w.looped_body known func result line own (w.part known func result body)) (λ b. pure (tk.For a.end.0 c u b.0 b.1)))) a.end.1
        (out_of (λ n. st.Tested n test) a.end.1 b1 a.scope c) in
        let i = step u a.end.1 a.scope in
        let j = body_by own body line i.end.1 (branch h (start_of line own i.end.1) (start_scope line own i.end.1 ∙ i.scope)) in
        let inside =
        bind (w.any_part w.is_first (nodes.part_of known func result first) looped)
        (λ a. bind (w.any_condition known func result line test)
        (λ c. bind (w.any_part w.is_third (nodes.part_of known func result third) looped)
        (λ u. bind (w.looped_body known func result line own (w.part known func result body)) (λ b. pure (tk.For a c u b.0 b.1))))) in
        let typed = tk.For a.end.0 v.0 i.end.0 j.end.0.0 j.end.0.1 in
        walks_by line (k.For first test third body note) looped s b (typed, scoped j.end.1 s.scope)
        (ap (λ f. f s) (nodes.walks-For known func result first test third body note line looped)
        ∙ n.1
        ∙ within_by_end inside s (typed, j.end.1)
        (a.goes (λ a. bind (w.any_condition known func result line test)
        (λ c. bind (w.any_part w.is_third (nodes.part_of known func result third) looped)
        (λ u. bind (w.looped_body known func result line own (w.part known func result body)) (λ b. pure (tk.For a c u b.0 b.1)))))
        ∙ v.1
        ∙ i.goes (λ u. bind (w.looped_body known func result line own (w.part known func result body)) (λ b. pure (tk.For a.end.0 v.0 u b.0 b.1)))
        ∙ j.goes (λ b. pure (tk.For a.end.0 v.0 i.end.0 b.0 b.1))
        ∙ pure_end typed j.end.1))
        same
    statement (st.block {looped = looped} {b = b} {line = line} {ss = ss} d) s same =
        let h = statements d (scoped s (nested s.scope)) (block_nested s.scope ∙ ap st.within same) in
        walks_by line (k.Block ss) looped s b (tk.Block h.end.0, scoped h.end.1 s.scope)
        (ap (λ f. f s) (nodes.walks-Block known func result ss line looped)
        ∙ within_by_end (bind (w.statements known func result looped ss) (λ ts. pure (tk.Block ts))) s (tk.Block h.end.0, h.end.1)
        (bind_by (w.statements known func result looped ss) (λ ts. pure (tk.Block ts)) (scoped s (nested s.scope)) h.end h.ends
        ∙ pure_end (tk.Block h.end.0) h.end.1))
        same
    statement (st.return_none {looped = looped} {b = b} {line = line} is) s same =
        walks_by line (k.Return None) looped s b (tk.Return None, s)
        (ap (λ f. f s) (nodes.walks-Return known func result None line looped)
        ∙ lift_by line (ensure (w.is_void result) Return) (λ _. pure (tk.Return None)) s tt (ensured Return (void_is result is))
        ∙ pure_end (tk.Return None) s)
        same
    statement (st.return_value {looped = looped} {b = b} {line = line} {x = y} d) s same =
        let p = complete.fits known (in_scope s.scope) (out_of (λ n. r.Fits n y result) s b same d) in
        let v = complete.fitting_at p.2 in
        walks_by line (k.Return (Some y)) looped s b (tk.Return (Some v.0), s)
        (ap (λ f. f s) (nodes.walks-Return known func result (Some y) line looped)
        ∙ operand_by line y
        (λ p. bind (lift line (ensure (not (w.is_void result)) Return))
        (λ _. bind (lift line (o.fitting result p)) (λ a. pure (tk.Return (Some a))))) s p.0 p.1
        ∙ lift_by line (ensure (not (w.is_void result)) Return) (λ _. bind (lift line (o.fitting result p.0)) (λ a. pure (tk.Return (Some a)))) s tt
        (ensured Return (ap not (fits_no_void d)))
        ∙ lift_by line (o.fitting result p.0) (λ a. pure (tk.Return (Some a))) s v.0 v.1
        ∙ pure_end (tk.Return (Some v.0)) s)
        same
    statement (st.break_loop {b = b} {line = line}) s same =
        walks_by line k.Break true s b (tk.Break, s)
        (ap (λ f. f s) (nodes.walks-Break known func result line true) ∙ lift_by line (ensure true Outside) (λ _. pure tk.Break) s tt refl
        ∙ pure_end tk.Break s) same
    statement (st.continue_loop {b = b} {line = line}) s same =
        walks_by line k.Continue true s b (tk.Continue, s)
        (ap (λ f. f s) (nodes.walks-Continue known func result line true) ∙ lift_by line (ensure true Outside) (λ _. pure tk.Continue) s tt refl
        ∙ pure_end tk.Continue s) same

    branch : {looped : Bool} {b : st.Block} {y : Stmt} → st.Branch g looped b y → (s : Progress) → block s.scope ≡ b → Branches looped y s
    branch (st.branch {looped = looped} {b = b} {x = y} never d) s same =
        let h = statement d s same in
        record { body = body_sort y never; end = h.end; ends = h.ends; scope = same ∙ keeps known func result d never ∙ sym h.scope }

    start : {looped : Bool} {b c : st.Block} {first : Option Stmt} → st.First g looped b first c → (s : Progress) → block s.scope ≡ b → Firsts looped first s c
    start (st.no_first {looped = looped} {b = b}) s same = record { end = (None, s); goes = λ f. pure_ends None f s; scope = same }
    start (st.first {looped = looped} {b = b} {x = y} d i) s same =
        let h = statement i s same in
        record {
          end = (Some h.end.0, h.end.1);
          goes = λ f.
              assoc (w.part_if w.is_first (w.part known func result y) looped) (λ t. pure (Some t)) f s
              ∙ part_by w.is_first y looped (λ t. bind (pure (Some t)) f) s h.end (first_sort d) h.ends
              ∙ pure_ends (Some h.end.0) f h.end.1;
          scope = h.scope;
        }

    step : {looped : Bool} {b c : st.Block} {third : Option Stmt} → st.Third g looped b third c → (s : Progress) → block s.scope ≡ b → Thirds looped third s c
    step (st.no_third {looped = looped} {b = b}) s same = record { end = (None, s); goes = λ f. pure_ends None f s; scope = same }
    step (st.third {looped = looped} {b = b} {x = y} d i) s same =
        let h = statement i s same in
        record {
          end = (Some h.end.0, h.end.1);
          goes = λ f.
              assoc (w.part_if w.is_third (w.part known func result y) looped) (λ t. pure (Some t)) f s
              ∙ part_by w.is_third y looped (λ t. bind (pure (Some t)) f) s h.end (ap w.is_third (simple_sort d)) h.ends
              ∙ pure_ends (Some h.end.0) f h.end.1;
          scope = h.scope;
        }

    pub statements : {looped : Bool} {b c : st.Block} {ss : List Stmt} → st.Statements g looped b ss c → (s : Progress) → block s.scope ≡ b
        → Lists looped ss s c
    statements st.done s same = record { end = ([], s); ends = pure_end [] s; scope = same }
    statements (st.next {looped = looped} {x = y} {xs = ss} d ds) s same =
        let h = statement d s same in
        let i = statements ds h.end.1 h.scope in
        record {
          end = (h.end.0 ∷ i.end.0, i.end.1);
          ends =
              bind_by ((w.part known func result y).walk looped) (λ t. bind (w.statements known func result looped ss) (λ ts. pure (t ∷ ts))) s h.end h.ends
              ∙ bind_by (w.statements known func result looped ss) (λ ts. pure (h.end.0 ∷ ts)) h.end.1 i.end i.ends
              ∙ pure_end (h.end.0 ∷ i.end.0) i.end.1;
          scope = i.scope;
        }
