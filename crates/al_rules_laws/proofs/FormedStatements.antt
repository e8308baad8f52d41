-- What the walk makes of a statement is well formed.
use Rattle.std.proofs.Common.{◌≡◌, ℕ, suc, ◌+◌, ◌≤◌, ◌<◌, find, bytes_eq, option_map, option_and_then, ◌==◌, Bool, true, false, not, ◌||◌, List, [], ◌∷◌, ◌++◌, length, if◌then◌else◌, Option, Some, None, Ok, slice_get, pos, refl, sym, ap, ◌∙◌, subst, arith}
use Rattle.std.specs.List.{list_all}
use Rattle.std.proofs.lemmas.Option.{slice_get_within}
use Rattle.al_source.specs.Steps.{and_then}
use Rattle.al_source.specs.declared.annotations.LoopNote.{LoopNote}
use Rattle.al_source.specs.declared.annotations.NamedRed.{NamedRed}
use Rattle.al_source.specs.declared.operators.BinOp.{BinOp}
use Rattle.al_source.specs.declared.texts.Piece.{Piece}
use Rattle.al_source.specs.declared.source_tree.CType.{CType}
use Rattle.al_source.specs.declared.source_tree.CType.TheVariants as t
use Rattle.al_source.specs.declared.operators.RedOp.{RedOp}
use Rattle.al_source.specs.declared.source_tree.GlobalDef.{GlobalDef}
use Rattle.al_source.specs.declared.source_tree.Expr.TheVariants as e
use Rattle.al_source.specs.declared.source_tree.Expr.{Expr}
use Rattle.al_source.specs.declared.source_tree.Stmt.{Stmt, roll-Stmt, out-roll-Stmt}
use Rattle.al_source.specs.declared.source_tree.StmtKind.{StmtKind}
use Rattle.al_source.specs.declared.source_tree.StmtKind.TheOpen.{Stmt-F}
use Rattle.al_source.specs.declared.source_tree.StmtKind.TheVariants as k
use Rattle.al_core.specs.declared.choices.Choice.{Choice}
use Rattle.al_core.specs.declared.choices.Red.{Red}
use Rattle.al_core.specs.declared.values.Kind.{Kind}
use Rattle.al_core.specs.declared.values.Kind.TheVariants as kind
use Rattle.al_core.specs.declared.values.Obj.TheVariants as obj
use Rattle.al_core.specs.declared.values.Addr.{Addr}
use Rattle.al_core.specs.declared.values.Addr.TheVariants as addr
use Rattle.al_core.specs.declared.typed_tree.TExpr.{TExpr}
use Rattle.al_core.specs.declared.typed_tree.TExpr.TheVariants as te
use Rattle.al_core.specs.declared.typed_tree.TStmt.{TStmt, roll-TStmt, out-TStmt, fold_out-TStmt}
use Rattle.al_core.specs.declared.typed_tree.TKind.{TKind, out-TKind, roll-out-TKind}
use Rattle.al_core.specs.declared.typed_tree.TKind.TheViews.{roll-TKind}
use Rattle.al_core.specs.declared.typed_tree.TKind.TheOpen.{TKind-F}
use Rattle.al_core.specs.declared.typed_tree.TKind.TheVariants as tk
use Rattle.al_core.specs.declared.typed_tree.TLocal.{TLocal}
use Rattle.al_core.specs.declared.typed_tree.TNote.{TNote}
use Rattle.al_core.specs.declared.typed_tree.TFunc.{TFunc}
use Rattle.al_core.specs.declared.typed_tree.Typed.{Typed}
use Rattle.al_core.specs.Lines.{by_words}
use Rattle.al_rules.specs.declared.faults.TypeKind.TheVariants.{Twice, Unknown, Shape, Mismatch, NotPlace, Count, Return, Outside}
use Rattle.al_rules.specs.declared.operands.Operand.{Operand}
use Rattle.al_rules.specs.declared.operands.Operand.TheVariants.{Literal, Null, Value, Variable, Place}
use Rattle.al_rules.specs.Names.{Name, AllOf, none, more, place_named}
use Rattle.al_rules.specs.Checks.{Checked, each, ensure, some_or}
use Rattle.al_rules.specs.Types.{is_int, is_scalar, kind_of, type_checked}
use Rattle.al_rules.specs.Scopes.{Binding, Known, Scope, in_scope, nested, is_declared, is_struct, variable_named}
use Rattle.al_rules.specs.Scopes as scopes
use Rattle.al_rules.specs.Operands as o
use Rattle.al_rules.specs.Expressions as x
use Rattle.al_rules.specs.Walks.{Progress, Walk, bind, pure, checks, lift, fails, add_local, begin_loop, end_loop, local_of, or_integer}
use Rattle.al_rules.specs.Statements as w
use Rattle.al_rules.specs.ExpressionRules as r
use Rattle.al_rules.specs.WellFormed.{is_one, is_some_kind, is_int_global, local_kind, fits_want, fits_either, fits, place_kind, sets_formed, test_formed, return_formed, simple_kind, is_simple, formed, formed_in, Counted, both_counted, if_counted, for_counted, kind_counted, counted, counted_in, counted_all, IsNoted, IsNotedAt, notes_from}
use Rattle.al_rules.proofs.ExpressionNodes.{operand-Var}
use Rattle.al_rules.proofs.StatementNodes as nodes
use Rattle.al_rules.proofs.TypeNodes.{kind-Int, kind-Ptr, kind-Void}
use Rattle.al_rules.proofs.WellFormedNodes as wf
use Rattle.al_rules_laws.proofs.Logic.{then_ok, ensure_ok, some_ok, ok_is, some_is, and_both}
use Rattle.al_rules_laws.proofs.SourceInduction.{StmtCases, stmt_induct, IfAny, present}
use Rattle.al_rules_laws.proofs.TypeFacts.{scalar_sound}
use Rattle.al_rules_laws.proofs.WalkFacts.{Ends, added, begun_loop, ended_loop, scoped, bind_ends, checks_ends, lift_ends, assoc, pure_ends, pure_is, bind_pure, check_is, add_ends, begin_ends, end_ends, within_ends, never_ends}
use Rattle.al_rules_laws.proofs.StatementsSound.{int_true, void_true, sort_at}
use Rattle.al_rules_laws.proofs.FormedExpressions as fe
use Rattle.al_rules_laws.proofs.FormedExpressions.{Context, GlobalOf, Placed, one_refl}
use Rattle.al_rules_laws.proofs.FormedSteps.{Prefix, prefix_get, get_last, placed_grows, ScopeGood, Step, step_here, step_then, step_as, step_map, step_with, step_within, step_add, step_set, step_loop}

-- an integer or a pointer has a kind
pub scalar_kind : {known : Name → Bool} {a : CType} → r.Scalar known a → (k : Kind) × (kind_of a ≡ Some k)
scalar_kind r.int = (kind.Int, kind-Int)
scalar_kind (r.pointer {a = a} d) = (kind.Ptr, kind-Ptr a)
scalar_kind (r.to_struct {name = name} e) = (kind.Ptr, kind-Ptr (t.Struct name))

-- a statement that is simple has no loops
module _ (func : ℕ) where
  quiet_kind : (d : TKind) (line : ℕ) (y : TKind-F TKind TStmt) → out-TKind d ≡ y → simple_kind y ≡ true → (j : ℕ) → (counted_in func d line).loops j ≡ []
  quiet_kind d line (TKind-F.SetLocal n v) is e j =
      ap (λ d. (counted_in func d line).loops j) (sym (roll-out-TKind d) ∙ ap roll-TKind is ∙ tk.rolls-SetLocal n v)
      ∙ ap (λ (c : Counted). c.loops j) (wf.counted-SetLocal func n v line)
  quiet_kind d line (TKind-F.Store q v) is e j =
      ap (λ d. (counted_in func d line).loops j) (sym (roll-out-TKind d) ∙ ap roll-TKind is ∙ tk.rolls-Store q v)
      ∙ ap (λ (c : Counted). c.loops j) (wf.counted-Store func q v line)
  quiet_kind d line (TKind-F.UpdateLocal op n v) is e j =
      ap (λ d. (counted_in func d line).loops j) (sym (roll-out-TKind d) ∙ ap roll-TKind is ∙ tk.rolls-UpdateLocal op n v)
      ∙ ap (λ (c : Counted). c.loops j) (wf.counted-UpdateLocal func op n v line)
  quiet_kind d line (TKind-F.UpdateAt op q v) is e j =
      ap (λ d. (counted_in func d line).loops j) (sym (roll-out-TKind d) ∙ ap roll-TKind is ∙ tk.rolls-UpdateAt op q v)
      ∙ ap (λ (c : Counted). c.loops j) (wf.counted-UpdateAt func op q v line)
  quiet_kind d line (TKind-F.Call v) is e j =
      ap (λ d. (counted_in func d line).loops j) (sym (roll-out-TKind d) ∙ ap roll-TKind is ∙ tk.rolls-Call v)
      ∙ ap (λ (c : Counted). c.loops j) (wf.counted-Call func v line)
  quiet_kind d line (TKind-F.Print format vs) is e j =
      ap (λ d. (counted_in func d line).loops j) (sym (roll-out-TKind d) ∙ ap roll-TKind is ∙ tk.rolls-Print format vs)
      ∙ ap (λ (c : Counted). c.loops j) (wf.counted-Print func format vs line)
  quiet_kind d line TKind-F.Empty is e j = absurd cc
  quiet_kind d line (TKind-F.If v a b) is e j = absurd cc
  quiet_kind d line (TKind-F.While v a) is e j = absurd cc
  quiet_kind d line (TKind-F.For a v b c m) is e j = absurd cc
  quiet_kind d line (TKind-F.Block ss) is e j = absurd cc
  quiet_kind d line (TKind-F.Return v) is e j = absurd cc
  quiet_kind d line TKind-F.Break is e j = absurd cc
  quiet_kind d line TKind-F.Continue is e j = absurd cc

  counted_out : (b : TStmt) → counted func b ≡ counted_in func (out-TStmt b).kind (out-TStmt b).line
  unfolding counted counted_in
  counted_out b = fold_out-TStmt (ℕ → Counted) Counted (kind_counted func) (λ s. s.kind s.line) b

  pub quiet_stmt : (b : TStmt) → is_simple b ≡ true → (j : ℕ) → (counted func b).loops j ≡ []
  unfolding is_simple
  quiet_stmt b e j = ap (λ (c : Counted). c.loops j) (counted_out b) ∙ quiet_kind (out-TStmt b).kind (out-TStmt b).line (out-TKind (out-TStmt b).kind) refl e j

  pub quiet_any : (b : Option TStmt) → ((c : TStmt) → b ≡ Some c → is_simple c ≡ true) → (j : ℕ) → (if_counted (wf.counted_any func b)).loops j ≡ []
  quiet_any None h j = refl
  quiet_any (Some c) h j = quiet_stmt c (h c refl) j

third_is_first : (d : w.Sort) → w.is_third d ≡ true → w.is_first d ≡ true
third_is_first w.Simple e = refl
third_is_first w.Declares e = absurd cc
third_is_first w.Sets e = absurd cc
third_is_first w.Other e = absurd cc

module _ (typed : Typed) (results : List (Option Kind)) (known : Known) (n : ℕ) (tf : TFunc) (rty : CType) (stands : slice_get typed.funcs n
    ≡ Some tf) (cx : Context typed results known) where
  abbrev L : List TLocal
  L = tf.locals

  abbrev Fit : TExpr → Kind → Type 0
  Fit v k = fits typed results L v k ≡ true

  -- an operand, by the names before it, good in the function
  abbrev GoodIn : (s : Progress) → List TLocal → Operand → Type 0
  GoodIn s locals p = (placed : AllOf (Placed locals) (in_scope s.scope)) → fe.Good typed results locals known (in_scope s.scope) cx placed p

  good_in : (s : Progress) (locals : List TLocal) (a : Expr) (p : Operand) → x.operand known (in_scope s.scope) a ≡ Ok p → GoodIn s locals p
  good_in s locals a p e placed = fe.operand_good typed results locals known (in_scope s.scope) cx placed a p e

  -- ---- what is said of statements

  abbrev StmtFacts : Bool → Progress → TStmt × Progress → Type 0
  StmtFacts looped s z = Step typed L s z.1 (counted n z.0) (formed typed results L (kind_of rty) z.0 looped ≡ true)

  abbrev KindFacts : ℕ → Bool → Progress → TKind × Progress → Type 0
  KindFacts line looped s z = Step typed L s z.1 (counted_in n z.0 line) (formed_in typed results L (kind_of rty) z.0 looped ≡ true)

  abbrev sort_of : Stmt → w.Sort
  sort_of b = (w.part known n rty b).sort

  abbrev kind_sort : StmtKind → w.Sort
  kind_sort d = (w.kind_part known n rty d).sort

  abbrev pub Formed : Stmt → Type 0
  Formed b = (looped : Bool) (s : Progress) (z : TStmt × Progress) → Ends ((w.part known n rty b).walk looped s) z
      → StmtFacts looped s z × (w.is_first (sort_of b) ≡ true → is_simple z.0 ≡ true)

  abbrev KindFormed : StmtKind → Type 0
  KindFormed d =
      (line : ℕ) (looped : Bool) (s : Progress) (z : TKind × Progress) → Ends ((w.kind_part known n rty d).walk line looped s) z
      → KindFacts line looped s z × (w.is_first (kind_sort d) ≡ true → simple_kind (out-TKind z.0) ≡ true)

  by_walk : {A : Type 0} {p q : Walk A} → p ≡ q → (s : Progress) (z : A × Progress) → Ends (p s) z → Ends (q s) z
  by_walk same s z e = sym (ap (λ f. f s) same) ∙ e

  -- a kind that was made, with what it is
  made : (line : ℕ) (looped : Bool) {s : Progress} {first : Bool} (q : TKind × Progress) (z : TKind × Progress) → q ≡ z
      → KindFacts line looped s q → (first ≡ true → simple_kind (out-TKind q.0) ≡ true)
      → KindFacts line looped s z × (first ≡ true → simple_kind (out-TKind z.0) ≡ true)
  made line looped {s = s} {first = first} q z same h i =
      subst (λ (z : TKind × Progress). KindFacts line looped s z × (first ≡ true → simple_kind (out-TKind z.0) ≡ true)) same (h, i)

  -- no first part of a `for`
  never_first : (d : StmtKind) → kind_sort d ≡ w.Other → (t : TKind) → w.is_first (kind_sort d) ≡ true → simple_kind (out-TKind t) ≡ true
  never_first d is t e = let never : false ≡ true = sym (ap w.is_first is) ∙ e in absurd cc

  -- ---- parts

  condition_ends : {B : Type 0} (line : ℕ) (c : Expr) (f : TExpr → Walk B) (s : Progress) (z : B × Progress)
      → Ends (bind (w.condition known n rty line c) f s) z
      → (v : TExpr) × Ends (f v s) z × (ScopeGood s → Prefix s.locals L → fits_either (fits typed results L v) ≡ true)
  condition_ends line c f s z e =
      let p = checks_ends line (λ scope. x.operand known (in_scope scope) c) (λ p. bind (lift line (o.scalar p)) f) s z
      (sym (assoc (w.operand_of known n rty line c) (λ p. lift line (o.scalar p)) f s) ∙ e) in
      let v = lift_ends line (o.scalar p.0) f s z p.2 in (
        v.0,
        v.2,
        λ ok pre. fe.scalar_fits typed results L known (in_scope s.scope) cx (placed_grows pre ok) p.0 v.0
            (good_in s L c p.0 p.1 (placed_grows pre ok)) v.1,
      )

  test_ends : {B : Type 0} (line : ℕ) (test : Option Expr) (f : Option TExpr → Walk B) (s : Progress) (z : B × Progress)
      → Ends (bind (w.any_condition known n rty line test) f s) z
      → (v : Option TExpr) × Ends (f v s) z × (ScopeGood s → Prefix s.locals L → test_formed typed results L v ≡ true)
  test_ends line None f s z e = (None, sym (pure_ends None f s) ∙ e, λ ok pre. refl)
  test_ends line (Some c) f s z e =
      let p = condition_ends line c (λ v. bind (pure (Some v)) f) s z (sym (assoc (w.condition known n rty line c) (λ v. pure (Some v)) f s) ∙ e) in
      (Some p.0, sym (pure_ends (Some p.0) f s) ∙ p.1, p.2)

  part_ends : {B : Type 0} (allowed : w.Sort → Bool) (b : Stmt) (looped : Bool) (f : TStmt → Walk B) (s : Progress) (z : B × Progress) → Formed b
      → Ends (bind (w.part_if allowed (w.part known n rty b) looped) f s) z
      → (q : TStmt × Progress) × (allowed (sort_of b) ≡ true) × StmtFacts looped s q × (w.is_first (sort_of b) ≡ true → is_simple q.0 ≡ true)
      × Ends (f q.0 q.1) z
  part_ends allowed b looped f s z h e =
      let q = bind_ends (w.part_if allowed (w.part known n rty b) looped) f s z e in
      by (allowed (sort_of b)) refl q.0 q.1 q.2
    where
      by : (c : Bool) → allowed (sort_of b) ≡ c → (q : TStmt × Progress)
          → Ends ((if c then (w.part known n rty b).walk looped else fails (w.part known n rty b).line Shape) s) q → Ends (f q.0 q.1) z
          → (q : TStmt × Progress) × (allowed (sort_of b) ≡ true) × StmtFacts looped s q × (w.is_first (sort_of b) ≡ true → is_simple q.0 ≡ true)
          × Ends (f q.0 q.1) z
      by true is q run rest = let g = h looped s q run in (q, is, g.0, g.1, rest)
      by false is q run rest = absurd (never_ends (w.part known n rty b).line Shape s q run)

  pub record PartEnds {B : Type 0} (looped : Bool) (f : Option TStmt → Walk B) (s : Progress) (z : B × Progress) : Type 0 where
    pub end : Option TStmt × Progress
    pub rest : Ends (f end.0 end.1) z
    pub facts : Step typed L s end.1 (if_counted (wf.counted_any n end.0)) (wf.simple_any typed results L (kind_of rty) end.0 looped ≡ true)
    pub quiet : (j : ℕ) → (if_counted (wf.counted_any n end.0)).loops j ≡ []

  any_ends : {B : Type 0} (allowed : w.Sort → Bool) → ((d : w.Sort) → allowed d ≡ true → w.is_first d ≡ true)
      → (part : Option Stmt) (looped : Bool) (f : Option TStmt → Walk B) (s : Progress) (z : B × Progress) → IfAny Formed part
      → Ends (bind (w.any_part allowed (nodes.part_of known n rty part) looped) f s) z → PartEnds looped f s z
  any_ends allowed first None looped f s z h e =
      record { end = (None, s); rest = sym (pure_ends None f s) ∙ e; facts = step_here typed L (λ ok pre. refl); quiet = λ j. refl }
  any_ends allowed first (Some b) looped f s z (present h) e =
      let p = part_ends allowed b looped (λ t. bind (pure (Some t)) f) s z h
      (sym (assoc (w.part_if allowed (w.part known n rty b) looped) (λ t. pure (Some t)) f s) ∙ e) in
      let simple = p.3 (first (sort_of b) p.1) in
      record {
        end = (Some p.0.0, p.0.1);
        rest = sym (pure_ends (Some p.0.0) f p.0.1) ∙ p.4;
        facts = step_map typed L (λ g. and_both simple g) p.2;
        quiet = quiet_stmt n p.0.0 simple;
      }

  -- ---- annotations

  abbrev OwnNoted : TNote → Option Choice → Type 0
  OwnNoted entry None = Unit {0}
  OwnNoted entry (Some own) = AllOf (IsNoted typed entry) own.reds

  -- the entry of a loop of this function, whose body comes after these locals
  abbrev Entry : Progress → TNote → Type 0
  Entry s entry = (entry.func ≡ n) × (length s.locals ≤ entry.first)

  int_kind : (a : CType) (k : Kind) → is_int a ≡ true → kind_of a ≡ Some k → k ≡ kind.Int
  int_kind a k e is = some_is (sym is ∙ ap kind_of (int_true a e) ∙ kind-Int)

  -- what a global that is named is in the source
  global_by : (m : Option ℕ) (j : ℕ) (a : CType)
      → option_and_then (λ k. option_map (λ y. scopes.Global k y.ty) (slice_get known.globals k)) m ≡ Some (scopes.Global j a)
      → (y : GlobalDef) × (slice_get known.globals j ≡ Some y) × (y.ty ≡ a)
  global_by None j a e = absurd cc
  global_by (Some k) j a e = by (slice_get known.globals k) refl e
    where
      number_of : Option scopes.Variable → ℕ
      number_of (Some (scopes.Global k a)) = k
      number_of _ = j

      type_of : Option scopes.Variable → CType
      type_of (Some (scopes.Global k a)) = a
      type_of _ = a

      by : (y : Option GlobalDef) → slice_get known.globals k ≡ y → option_map (λ y. scopes.Global k y.ty) y ≡ Some (scopes.Global j a)
          → (y : GlobalDef) × (slice_get known.globals j ≡ Some y) × (y.ty ≡ a)
      by (Some y) is e = (y, subst (λ m. slice_get known.globals m ≡ Some y) (ap number_of e) is, ap type_of e)
      by None is e = absurd cc

  global_there : (scope : List Binding) (name : Name) (j : ℕ) (a : CType) → variable_named known scope name ≡ Some (scopes.Global j a)
      → (y : GlobalDef) × (slice_get known.globals j ≡ Some y) × (y.ty ≡ a)
  global_there scope name j a e = by (find (λ b. bytes_eq b.name name) scope) e
    where
      by : (m : Option Binding)
          → scopes.first_some (option_map (λ b. scopes.Local b.number b.ty) m) (scopes.global_named name known.globals) ≡ Some (scopes.Global j a)
          → (y : GlobalDef) × (slice_get known.globals j ≡ Some y) × (y.ty ≡ a)
      by (Some b) e = absurd cc
      by None e = global_by (place_named (λ y. y.name) name known.globals) j a e

  suc_le : (m k : ℕ) (j : ℕ) → m < k → k ≤ j → m + 1 ≤ j
  suc_le m k j p q = omega arith

  named_good : (s : Progress) (name : Name) (v : scopes.Variable) → variable_named known (in_scope s.scope) name ≡ Some v → GoodIn s s.locals (o.of_variable v)
  named_good s name v named =
      good_in s s.locals (e.Var name) (o.of_variable v) (operand-Var known (in_scope s.scope) name
      ∙ ap (λ m. and_then (some_or m Unknown) (λ v. Ok (o.of_variable v))) named)

  noted_by : (s : Progress) (name : Name) (op : RedOp) (at : Addr) (v : scopes.Variable) → variable_named known (in_scope s.scope) name ≡ Some v
      → w.variable_at v ≡ Ok at
      → ScopeGood s → Prefix s.locals L → (entry : TNote) → Entry s entry → IsNoted typed entry (record { op = op; at = at })
  noted_by s name op at (scopes.Local m a) named is ok pre entry h =
      let u = then_ok (ensure (is_int a) Mismatch) (λ _. Ok (addr.Local m)) at is in
      let g = named_good s name (scopes.Local m a) named ok in
      let int = int_kind a g.0.kind (ensure_ok (is_int a) Mismatch u.0 u.1) g.2 in
      subst (λ at. IsNotedAt typed entry at) (ok_is u.2) (record {
        func = tf;
        stands = ap (slice_get typed.funcs) h.0 ∙ stands;
        integer = ap (λ y. is_some_kind (local_kind y) kind.Int) (prefix_get m g.0 pre g.1) ∙ ap (λ j. is_one j kind.Int) int;
        outside = suc_le m (length s.locals) entry.first (slice_get_within s.locals m g.0 g.1) h.1;
      })
  noted_by s name op at (scopes.Global m a) named is ok pre entry h =
      let u = then_ok (ensure (is_int a) Mismatch) (λ _. Ok (addr.Word (obj.Global m) 0)) at is in
      let y = global_there (in_scope s.scope) name m a named in
      let g = cx.globals m y.0 y.1 in
      let scalar : g.global.scalar ≡ Some kind.Int = g.scalar ∙ ap kind_of y.2 ∙ ap kind_of (int_true a (ensure_ok (is_int a) Mismatch u.0 u.1)) ∙ kind-Int in
      subst (λ at. IsNotedAt typed entry at) (ok_is u.2) (ap is_int_global g.stands ∙ ap (λ j. is_some_kind j kind.Int) scalar, refl)

  noted_reds : {B : Type 0} (line : ℕ) (reds : List NamedRed) (f : List Red → Walk B) (s : Progress) (z : B × Progress)
      → Ends (bind (w.reductions known n rty line reds) f s) z
      → (v : List Red) × Ends (f v s) z × (ScopeGood s → Prefix s.locals L → (entry : TNote) → Entry s entry → AllOf (IsNoted typed entry) v)
  noted_reds line [] f s z e = ([], sym (pure_ends [] f s) ∙ e, λ ok pre entry h. none)
  noted_reds line (red ∷ reds) f s z e =
      let rest : Red → Walk _ = λ a. bind (bind (w.reductions known n rty line reds) (λ as'. pure (a ∷ as'))) f in
      let check : Scope → Checked Addr = λ scope. and_then (some_or (variable_named known (in_scope scope) red.name) Unknown) w.variable_at in
      let a = sym (assoc (w.reduction known n rty line red) (λ a. bind (w.reductions known n rty line reds) (λ as'. pure (a ∷ as'))) f s) ∙ e in
      let b = sym (assoc (checks line check) (λ at. pure (record { op = red.op; at = at })) rest s) ∙ a in
      let c = checks_ends line check (λ at. bind (pure (record { op = red.op; at = at })) rest) s z b in
      let one : Red = record { op = red.op; at = c.0 } in
      let d = sym (pure_ends one rest s) ∙ c.2 in
      let q = noted_reds line reds (λ as'. bind (pure (one ∷ as')) f) s z (sym (assoc (w.reductions known n rty line reds) (λ as'. pure (one ∷ as')) f s)
      ∙ d) in
      let v = then_ok (some_or (variable_named known (in_scope s.scope) red.name) Unknown) w.variable_at c.0 c.1 in (
        one ∷ q.0,
        sym (pure_ends (one ∷ q.0) f s) ∙ q.1,
        λ ok pre entry h. more
            (noted_by s red.name red.op c.0 v.0 (some_ok (variable_named known (in_scope s.scope) red.name) Unknown v.0 v.1) v.2 ok pre entry h)
            (q.2 ok pre entry h),
      )

  choice_ends : {B : Type 0} (line : ℕ) (note : Option LoopNote) (f : Option Choice → Walk B) (s : Progress) (z : B × Progress)
      → Ends (bind (w.choice_of known n rty line note) f s) z
      → (v : Option Choice) × Ends (f v s) z × (ScopeGood s → Prefix s.locals L → (entry : TNote) → Entry s entry → OwnNoted entry v)
  choice_ends line None f s z e = (None, sym (pure_ends None f s) ∙ e, λ ok pre entry h. tt)
  choice_ends line (Some m) f s z e =
      let q = noted_reds line m.reduce (λ reds. bind (pure (Some (by_words m.policy m.order reds))) f) s z
      (sym (assoc (w.reductions known n rty line m.reduce) (λ reds. pure (Some (by_words m.policy m.order reds))) f s) ∙ e) in
      let own : Choice = by_words m.policy m.order q.0 in
      (Some own, sym (pure_ends (Some own) f s) ∙ q.1, q.2)

  -- ---- loops

  body_ends : {B : Type 0} {s1 : Progress} {head : Counted} {E : Type 0} (line : ℕ) (own : Option Choice) (body : Stmt) (f : TStmt × Option ℕ
      → Walk B) (s : Progress) (z : B × Progress)
      → Formed body → ((j : ℕ) → head.loops j ≡ [])
      → (ScopeGood s1 → Prefix s1.locals L → (entry : TNote) → Entry s1 entry → OwnNoted entry own)
      → Step typed L s1 s head E → Ends (bind (w.looped_body known n rty line own (w.part known n rty body)) f s) z
      → (v : TStmt × Option ℕ)
      × ((s' : Progress) × Ends (f v s') z
      × Step typed L s1 s' (for_counted n line v.1 head (counted n v.0)) (E × (formed typed results L (kind_of rty) v.0 true ≡ true)))
  body_ends line None body f s z h quiet reds p e =
      let q = part_ends w.is_body body true (λ b. bind (pure (b, None)) f) s z h
      (sym (assoc (w.part_if w.is_body (w.part known n rty body) true) (λ b. pure (b, None)) f s) ∙ e) in
      ((q.0.0, None), (q.0.1, sym (pure_ends (q.0.0, None) f q.0.1) ∙ q.4, step_then typed L p q.2))
  body_ends line (Some own) body f s z h quiet reds p e =
      let m = length s.loops in
      let a = sym
      (assoc (begin_loop n line own) (λ m. bind (w.part_if w.is_body (w.part known n rty body) true) (λ b. bind (end_loop m) (λ _. pure (b, Some m)))) f s)
      ∙ e in
      let b = sym
      (begin_ends n line own (λ m. bind (bind (w.part_if w.is_body (w.part known n rty body) true) (λ b. bind (end_loop m) (λ _. pure (b, Some m)))) f) s)
      ∙ a in
      let c = sym (assoc (w.part_if w.is_body (w.part known n rty body) true) (λ b. bind (end_loop m) (λ _. pure (b, Some m))) f (begun_loop n line own s))
      ∙ b in
      let q = part_ends w.is_body body true (λ b. bind (bind (end_loop m) (λ _. pure (b, Some m))) f) (begun_loop n line own s) z h c in
      let d = sym (assoc (end_loop m) (λ _. pure (q.0.0, Some m)) f q.0.1) ∙ q.4 in
      let g = sym (end_ends m (λ _. bind (pure (q.0.0, Some m)) f) q.0.1) ∙ d in (
        (q.0.0, Some m),
        (
          ended_loop m q.0.1,
          sym (pure_ends (q.0.0, Some m) f (ended_loop m q.0.1)) ∙ g,
          step_loop typed L n line own quiet
              (λ ok pre le. reds ok pre (record { func = n; line = line; own = own; first = length s.locals; last = length s.locals }) (refl, le)) p q.2,
        ),
      )

  -- ---- each kind of statement

  zero_fits : (j : Kind) → Fit (te.Number (pos 0)) j
  zero_fits kind.Int = wf.fits-Number typed results L (pos 0)
  zero_fits kind.Ptr = wf.fits-Null typed results L (pos 0)

  starts_end : (line : ℕ) (a : CType) (v : Option Expr) (f : TExpr → Walk TKind) (s : Progress) (z : TKind × Progress)
      → Ends (bind (w.initial known n rty line a v) f s) z
      → (y : TExpr) × Ends (f y s) z × (ScopeGood s → Prefix s.locals L → (j : Kind) → kind_of a ≡ Some j → Fit y j)
  starts_end line a None f s z e = (te.Number (pos 0), sym (pure_ends (te.Number (pos 0)) f s) ∙ e, λ ok pre j is. zero_fits j)
  starts_end line a (Some v) f s z e =
      let p = checks_ends line (λ scope. x.operand known (in_scope scope) v) (λ p. bind (lift line (o.fitting a p)) f) s z
      (sym (assoc (w.operand_of known n rty line v) (λ p. lift line (o.fitting a p)) f s) ∙ e) in
      let y = lift_ends line (o.fitting a p.0) f s z p.2 in (
        y.0,
        y.2,
        λ ok pre. fe.fitting_fits typed results L known (in_scope s.scope) cx (placed_grows pre ok) p.0 a y.0
            (good_in s L v p.0 p.1 (placed_grows pre ok)) y.1,
      )

  declare_formed : (a : CType) (name : Name) (v : Option Expr) → KindFormed (k.Declare a name v)
  declare_formed a name v line looped s z e =
      let rest : Unit {0} → Walk TKind = λ _. bind (add_local name a) (λ m. bind (w.initial known n rty line a v) (λ y. pure (tk.SetLocal m y))) in
      let new : Scope → Checked (Unit {0}) = λ scope. ensure (not (is_declared name scope)) Twice in
      let shaped = type_checked (is_struct known.structs) (is_struct known.structs) is_scalar a in
      let d = by_walk (nodes.walks-Declare known n rty a name v line looped) s z e in
      let c = checks_ends line new (λ _. bind (lift line shaped) rest) s z (sym (assoc (checks line new) (λ _. lift line shaped) rest s) ∙ d) in
      let l = lift_ends line shaped rest s z c.2 in
      let s1 = added name a s in
      let m = length s.locals in
      let i = starts_end line a v (λ y. pure (tk.SetLocal m y)) s1 z
      (sym (add_ends name a (λ m. bind (w.initial known n rty line a v) (λ y. pure (tk.SetLocal m y))) s) ∙ l.2) in
      let j = scalar_kind (scalar_sound (is_struct known.structs) (is_struct known.structs) a l.0 l.1) in
      let added_facts : KindFacts line looped s (tk.SetLocal m i.0, s1) = λ ok.
      let g = step_add typed L name a s j.0 j.1 ok in
      record {
        grows = g.grows;
        counts = ap (λ (c : Counted). c.after m) (wf.counted-SetLocal n m i.0 line) ∙ g.counts;
        notes = g.notes ∙ ap (λ (c : Counted). notes_from 0 s.loops ++ c.loops m) (sym (wf.counted-SetLocal n m i.0 line));
        scope = g.scope;
        facts = λ pre.
            wf.formed-SetLocal typed results L (kind_of rty) m i.0 looped
            ∙ ap (λ y. sets_formed typed results L (local_kind y) i.0) (prefix_get m (local_of name a) pre (get_last s.locals [] (local_of name a)))
            ∙ ap (λ y. fits typed results L i.0 (or_integer y)) j.1
            ∙ i.2 g.scope pre j.0 j.1;
        reductions = g.reductions;
      } in
      made line looped (tk.SetLocal m i.0, s1) z (pure_is (tk.SetLocal m i.0) s1 z i.1) added_facts (λ first. ap simple_kind (tk.outs-SetLocal m i.0))

  -- what a place wants, its value fits
  wants_fit : (wants : Option Kind) (v : TExpr) (j : Kind) → ((i : Kind) → wants ≡ Some i → i ≡ j) → Fit v j → fits_want wants (fits typed results L v) ≡ true
  wants_fit None v kind.Int h fit = rw fit refl
  wants_fit None v kind.Ptr h fit = either_by (fits typed results L v kind.Int) fit
    where
      either_by : (b : Bool) {c : Bool} → c ≡ true → (b || c) ≡ true
      either_by true e = refl
      either_by false e = e
  wants_fit (Some i) v j h fit = ap (fits typed results L v) (h i refl) ∙ fit

  assigned_facts : (line : ℕ) (looped : Bool) (s : Progress) (a b : Expr) (l v : Operand) (d : TKind) → GoodIn s s.locals l → GoodIn s L l → GoodIn s L v
      → w.assigned l v ≡ Ok d
      → KindFacts line looped s (d, s) × (simple_kind (out-TKind d) ≡ true)
  assigned_facts line looped s a b (Variable m c) v d here there value is =
      let y = then_ok (o.fitting c v) (λ v. Ok (tk.SetLocal m v)) d is in
      let facts : KindFacts line looped s (tk.SetLocal m y.0, s) =
      step_as typed L (sym (wf.counted-SetLocal n m y.0 line)) (step_set typed L m s
      (λ ok. slice_get_within s.locals m (here ok).0 (here ok).1)
      (λ ok pre.
      let g = there (placed_grows pre ok) in
      wf.formed-SetLocal typed results L (kind_of rty) m y.0 looped
      ∙ ap (λ y'. sets_formed typed results L (local_kind y') y.0) g.1
      ∙ fe.fitting_fits typed results L known (in_scope s.scope) cx (placed_grows pre ok) v c y.0 (value (placed_grows pre ok)) y.1 g.0.kind g.2)) in
      subst (λ d. KindFacts line looped s (d, s) × (simple_kind (out-TKind d) ≡ true)) (ok_is y.2) (facts, ap simple_kind (tk.outs-SetLocal m y.0))
  assigned_facts line looped s a b (Place c q) v d here there value is =
      let y = then_ok (o.fitting c v) (λ v. Ok (tk.Store q v)) d is in
      let j = fe.fitting_kind typed results L known (in_scope s.scope) cx in
      let facts : KindFacts line looped s (tk.Store q y.0, s) =
      step_as typed L (sym (wf.counted-Store n q y.0 line)) (step_here typed L (λ ok pre.
      let g = there (placed_grows pre ok) in
      let i = fe.fitting_kind typed results L known (in_scope s.scope) cx (placed_grows pre ok) v c y.0 y.1 in
      wf.formed-Store typed results L (kind_of rty) q y.0 looped
      ∙ and_both g.0 (wants_fit (place_kind typed results L q).wants y.0 i.0 (λ w e. some_is (sym (g.1 w e)
      ∙ i.1)) (fe.fitting_fits typed results L known (in_scope s.scope) cx (placed_grows pre ok) v c y.0 (value (placed_grows pre ok)) y.1 i.0 i.1)))) in
      subst (λ d. KindFacts line looped s (d, s) × (simple_kind (out-TKind d) ≡ true)) (ok_is y.2) (facts, ap simple_kind (tk.outs-Store q y.0))
  assigned_facts line looped s a b (Literal m) v d here there value is = absurd cc
  assigned_facts line looped s a b Null v d here there value is = absurd cc
  assigned_facts line looped s a b (Value c y) v d here there value is = absurd cc

  assign_formed : (a b : Expr) → KindFormed (k.Assign a b)
  assign_formed a b line looped s z e =
      let d = by_walk (nodes.walks-Assign known n rty a b line looped) s z e in
      let l = checks_ends line (λ scope. x.operand known (in_scope scope) a)
      (λ l. bind (lift line (ensure (w.is_place l) NotPlace)) (λ _. bind (w.operand_of known n rty line b) (λ v. lift line (w.assigned l v)))) s z d in
      let u = lift_ends line (ensure (w.is_place l.0) NotPlace) (λ _. bind (w.operand_of known n rty line b) (λ v. lift line (w.assigned l.0 v))) s z l.2 in
      let v = checks_ends line (λ scope. x.operand known (in_scope scope) b) (λ v. lift line (w.assigned l.0 v)) s z u.2 in
      let q = check_is line (λ _. w.assigned l.0 v.0) s z v.2 in
      let g = assigned_facts line looped s a b l.0 v.0 z.0 (good_in s s.locals a l.0 l.1) (good_in s L a l.0 l.1) (good_in s L b v.0 v.1) q.0 in
      (subst (λ (p : Progress). KindFacts line looped s (z.0, p)) q.1 g.0, λ first. g.1)

  updated_facts : (line : ℕ) (looped : Bool) (s : Progress) (op : BinOp) (l v : Operand) (d : TKind) → GoodIn s L l → GoodIn s L v → w.updated op l v ≡ Ok d
      → KindFacts line looped s (d, s) × (simple_kind (out-TKind d) ≡ true)
  updated_facts line looped s op (Variable m c) v d there value is =
      let u = then_ok (ensure (is_int c) Mismatch) (λ _. and_then (o.integer v) (λ v. Ok (tk.UpdateLocal op m v))) d is in
      let y = then_ok (o.integer v) (λ v. Ok (tk.UpdateLocal op m v)) d u.2 in
      let facts : KindFacts line looped s (tk.UpdateLocal op m y.0, s) =
      step_as typed L (sym (wf.counted-UpdateLocal n op m y.0 line)) (step_here typed L (λ ok pre.
      let g = there (placed_grows pre ok) in
      wf.formed-UpdateLocal typed results L (kind_of rty) op m y.0 looped
      ∙ and_both (ap (λ y'. is_some_kind (local_kind y') kind.Int) g.1
      ∙ ap (λ j. is_one j kind.Int) (int_kind c g.0.kind (ensure_ok (is_int c) Mismatch u.0 u.1) g.2))
      (fe.integer_fits typed results L known (in_scope s.scope) cx (placed_grows pre ok) v y.0 (value (placed_grows pre ok)) y.1))) in
      subst (λ d. KindFacts line looped s (d, s) × (simple_kind (out-TKind d) ≡ true)) (ok_is y.2) (facts, ap simple_kind (tk.outs-UpdateLocal op m y.0))
  updated_facts line looped s op (Place c q) v d there value is =
      let u = then_ok (ensure (is_int c) Mismatch) (λ _. and_then (o.integer v) (λ v. Ok (tk.UpdateAt op q v))) d is in
      let y = then_ok (o.integer v) (λ v. Ok (tk.UpdateAt op q v)) d u.2 in
      let facts : KindFacts line looped s (tk.UpdateAt op q y.0, s) =
      step_as typed L (sym (wf.counted-UpdateAt n op q y.0 line)) (step_here typed L (λ ok pre.
      let g = there (placed_grows pre ok) in
      let int : kind_of c ≡ Some kind.Int = ap kind_of (int_true c (ensure_ok (is_int c) Mismatch u.0 u.1)) ∙ kind-Int in
      wf.formed-UpdateAt typed results L (kind_of rty) op q y.0 looped
      ∙ and_both (and_both g.0
      (fe.may_load typed results L known (in_scope s.scope) cx (placed_grows pre ok) (place_kind typed results L q).wants kind.Int
      (λ j w. some_is (sym (g.1 j w) ∙ int))))
      (fe.integer_fits typed results L known (in_scope s.scope) cx (placed_grows pre ok) v y.0 (value (placed_grows pre ok)) y.1))) in
      subst (λ d. KindFacts line looped s (d, s) × (simple_kind (out-TKind d) ≡ true)) (ok_is y.2) (facts, ap simple_kind (tk.outs-UpdateAt op q y.0))
  updated_facts line looped s op (Literal m) v d there value is = absurd cc
  updated_facts line looped s op Null v d there value is = absurd cc
  updated_facts line looped s op (Value c y) v d there value is = absurd cc

  update_formed : (op : BinOp) (a b : Expr) → KindFormed (k.Update op a b)
  update_formed op a b line looped s z e =
      let d = by_walk (nodes.walks-Update known n rty op a b line looped) s z e in
      let m = lift_ends line (ensure (w.may_update op) Shape)
      (λ _. bind (w.operand_of known n rty line a)
      (λ l. bind (lift line (ensure (w.is_place l) NotPlace))
      (λ _. bind (w.operand_of known n rty line b) (λ v. lift line (w.updated op l v))))) s z d in
      let l = checks_ends line (λ scope. x.operand known (in_scope scope) a)
      (λ l. bind (lift line (ensure (w.is_place l) NotPlace)) (λ _. bind (w.operand_of known n rty line b) (λ v. lift line (w.updated op l v)))) s z m.2 in
      let u = lift_ends line (ensure (w.is_place l.0) NotPlace) (λ _. bind (w.operand_of known n rty line b) (λ v. lift line (w.updated op l.0 v))) s z l.2 in
      let v = checks_ends line (λ scope. x.operand known (in_scope scope) b) (λ v. lift line (w.updated op l.0 v)) s z u.2 in
      let q = check_is line (λ _. w.updated op l.0 v.0) s z v.2 in
      let g = updated_facts line looped s op l.0 v.0 z.0 (good_in s L a l.0 l.1) (good_in s L b v.0 v.1) q.0 in
      (subst (λ (p : Progress). KindFacts line looped s (z.0, p)) q.1 g.0, λ first. g.1)

  call_formed_at : (name : Name) (xs : List Expr) → KindFormed (k.Call name xs)
  call_formed_at name xs line looped s z run =
      let d = by_walk (nodes.walks-Call known n rty name xs line looped) s z run in
      let c = checks_ends line (λ scope. x.call_alone known (in_scope scope) name (x.operands known (in_scope scope) xs)) (λ c. pure (tk.Call c)) s z d in
      made line looped (tk.Call c.0, s) z (pure_is (tk.Call c.0) s z c.2)
      (step_as typed L (sym (wf.counted-Call n c.0 line)) (step_here typed L (λ ok pre.
      wf.formed-Call typed results L (kind_of rty) c.0 looped
      ∙ fe.alone_good typed results L known (in_scope s.scope) cx (placed_grows pre ok) name xs c.0 c.1)))
      (λ first. ap simple_kind (tk.outs-Call c.0))

  integers_fit : (s : Progress) (placed : AllOf (Placed L) (in_scope s.scope)) {ps : List Operand} (vs : List TExpr)
      → fe.AllGood typed results L known (in_scope s.scope) cx placed ps → each o.integer ps ≡ Ok vs → list_all (λ v. fits typed results L v kind.Int) vs ≡ true
  integers_fit s placed vs fe.none is = ap (list_all (λ v. fits typed results L v kind.Int)) (sym (ok_is is))
  integers_fit s placed vs (fe.more {p = p} {ps = ps} d ds) is =
      let v = then_ok (o.integer p) (λ b. and_then (each o.integer ps) (λ bs. Ok (b ∷ bs))) vs is in
      let us = then_ok (each o.integer ps) (λ bs. Ok (v.0 ∷ bs)) vs v.2 in
      subst (λ vs. list_all (λ v. fits typed results L v kind.Int) vs ≡ true) (ok_is us.2)
      (and_both (fe.integer_fits typed results L known (in_scope s.scope) cx placed p v.0 d v.1) (integers_fit s placed us.0 ds us.1))

  as_many_integers : (ps : List Operand) (vs : List TExpr) → each o.integer ps ≡ Ok vs → length vs ≡ length ps
  as_many_integers [] vs is = ap length (sym (ok_is is))
  as_many_integers (p ∷ ps) vs is =
      let v = then_ok (o.integer p) (λ b. and_then (each o.integer ps) (λ bs. Ok (b ∷ bs))) vs is in
      let us = then_ok (each o.integer ps) (λ bs. Ok (v.0 ∷ bs)) vs v.2 in
      ap length (sym (ok_is us.2)) ∙ ap suc (as_many_integers ps us.0 us.1)

  print_formed : (format : List Piece) (xs : List Expr) → KindFormed (k.Print format xs)
  print_formed format xs line looped s z e =
      let d = by_walk (nodes.walks-Print known n rty format xs line looped) s z e in
      let p = checks_ends line (λ scope. x.operands known (in_scope scope) xs)
      (λ ps. bind (lift line (ensure (length ps == w.numbers_in format) Count))
      (λ _. bind (lift line (each o.integer ps)) (λ ns. pure (tk.Print format ns)))) s z d in
      let u = lift_ends line (ensure (length p.0 == w.numbers_in format) Count)
      (λ _. bind (lift line (each o.integer p.0)) (λ ns. pure (tk.Print format ns))) s z p.2 in
      let v = lift_ends line (each o.integer p.0) (λ ns. pure (tk.Print format ns)) s z u.2 in
      made line looped (tk.Print format v.0, s) z (pure_is (tk.Print format v.0) s z v.2)
      (step_as typed L (sym (wf.counted-Print n format v.0 line)) (step_here typed L (λ ok pre.
      wf.formed-Print typed results L (kind_of rty) format v.0 looped
      ∙ and_both (ap (λ m. m == w.numbers_in format) (as_many_integers p.0 v.0 v.1) ∙ ensure_ok (length p.0 == w.numbers_in format) Count u.0 u.1)
      (integers_fit s (placed_grows pre ok) v.0 (fe.operands_good typed results L known (in_scope s.scope) cx (placed_grows pre ok) xs p.0 p.1) v.1))))
      (λ first. ap simple_kind (tk.outs-Print format v.0))

  choice_formed : (c : Expr) (a : Stmt) (b : Option Stmt) → Formed a → IfAny Formed b → KindFormed (k.If c a b)
  choice_formed c a None h i line looped s z e =
      let d = by_walk (nodes.walks-If known n rty c a None line looped) s z e in
      let v = condition_ends line c (λ v. bind (w.part_if w.is_body (w.part known n rty a) looped) (λ p. bind (pure None) (λ q. pure (tk.If v p q)))) s z d in
      let p = part_ends w.is_body a looped (λ p. bind (pure None) (λ q. pure (tk.If v.0 p q))) s z h v.1 in
      let g = sym (pure_ends None (λ q. pure (tk.If v.0 p.0.0 q)) p.0.1) ∙ p.4 in
      made line looped (tk.If v.0 p.0.0 None, p.0.1) z (pure_is (tk.If v.0 p.0.0 None) p.0.1 z g)
      (step_as typed L (sym (wf.counted-If n v.0 p.0.0 None line))
      (step_map typed L (λ (q : (fits_either (fits typed results L v.0) ≡ true) × (formed typed results L (kind_of rty) p.0.0 looped ≡ true)
      × Unit {0}). wf.formed-If typed results L (kind_of rty) v.0 p.0.0 None looped ∙ and_both (and_both q.0 q.1) refl)
      (step_map typed L (λ q. (q.0, q.1.0, q.1.1)) (step_with typed L v.2 (step_then typed L p.2 (step_here typed L (λ ok pre. tt)))))))
      (never_first (k.If c a None) (nodes.sort-If known n rty c a None) (tk.If v.0 p.0.0 None))
  choice_formed c a (Some b) h (present i) line looped s z e =
      let d = by_walk (nodes.walks-If known n rty c a (Some b) line looped) s z e in
      let v = condition_ends line c
      (λ v. bind (w.part_if w.is_body (w.part known n rty a) looped)
      (λ p. bind (bind (w.part_if w.is_body (w.part known n rty b) looped) (λ t. pure (Some t))) (λ q. pure (tk.If v p q)))) s z d in
      let p = part_ends w.is_body a looped
      (λ p. bind (bind (w.part_if w.is_body (w.part known n rty b) looped) (λ t. pure (Some t))) (λ q. pure (tk.If v.0 p q))) s z h v.1 in
      let g = sym (assoc (w.part_if w.is_body (w.part known n rty b) looped) (λ t. pure (Some t)) (λ q. pure (tk.If v.0 p.0.0 q)) p.0.1) ∙ p.4 in
      let q = part_ends w.is_body b looped (λ t. bind (pure (Some t)) (λ q. pure (tk.If v.0 p.0.0 q))) p.0.1 z i g in
      let j = sym (pure_ends (Some q.0.0) (λ q. pure (tk.If v.0 p.0.0 q)) q.0.1) ∙ q.4 in
      made line looped (tk.If v.0 p.0.0 (Some q.0.0), q.0.1) z (pure_is (tk.If v.0 p.0.0 (Some q.0.0)) q.0.1 z j)
      (step_as typed L (sym (wf.counted-If n v.0 p.0.0 (Some q.0.0) line))
      (step_map typed L (λ (u : (fits_either (fits typed results L v.0) ≡ true) × (formed typed results L (kind_of rty) p.0.0 looped ≡ true)
      × (formed typed results L (kind_of rty) q.0.0 looped ≡ true)). wf.formed-If typed results L (kind_of rty) v.0 p.0.0 (Some q.0.0) looped
      ∙ and_both (and_both u.0 u.1) u.2)
      (step_map typed L (λ q. (q.0, q.1.0, q.1.1)) (step_with typed L v.2 (step_then typed L p.2 q.2)))))
      (never_first (k.If c a (Some b)) (nodes.sort-If known n rty c a (Some b)) (tk.If v.0 p.0.0 (Some q.0.0)))

  while_formed : (c : Expr) (a : Stmt) → Formed a → KindFormed (k.While c a)
  while_formed c a h line looped s z e =
      let d = by_walk (nodes.walks-While known n rty c a line looped) s z e in
      let v = condition_ends line c (λ v. bind (w.part_if w.is_body (w.part known n rty a) true) (λ p. pure (tk.While v p))) s z d in
      let p = part_ends w.is_body a true (λ p. pure (tk.While v.0 p)) s z h v.1 in
      made line looped (tk.While v.0 p.0.0, p.0.1) z (pure_is (tk.While v.0 p.0.0) p.0.1 z p.4)
      (step_as typed L (sym (wf.counted-While n v.0 p.0.0 line))
      (step_map typed L (λ q. wf.formed-While typed results L (kind_of rty) v.0 p.0.0 looped ∙ and_both q.0 q.1) (step_with typed L v.2 p.2)))
      (never_first (k.While c a) (nodes.sort-While known n rty c a) (tk.While v.0 p.0.0))

  for_formed : (first : Option Stmt) (test : Option Expr) (third : Option Stmt) (body : Stmt) (note : Option LoopNote) → IfAny Formed first → IfAny Formed third
      → Formed body → KindFormed (k.For first test third body note)
  for_formed first test third body note h i j line looped s z e =
      let d = by_walk (nodes.walks-For known n rty first test third body note line looped) s z e in
      let m = choice_ends line note
      (w.for_loop known n rty line looped (nodes.part_of known n rty first) test (nodes.part_of known n rty third) (w.part known n rty body)) s z d in
      let own = m.0 in
      let s1 = scoped s (nested s.scope) in
      let inside =
      bind (w.any_part w.is_first (nodes.part_of known n rty first) looped)
      (λ a. bind (w.any_condition known n rty line test)
      (λ c. bind (w.any_part w.is_third (nodes.part_of known n rty third) looped)
      (λ u. bind (w.looped_body known n rty line own (w.part known n rty body)) (λ b. pure (tk.For a c u b.0 b.1))))) in
      let q = within_ends inside s z m.1 in
      let a = any_ends w.is_first (λ d e. e) first looped
      (λ a. bind (w.any_condition known n rty line test)
      (λ c. bind (w.any_part w.is_third (nodes.part_of known n rty third) looped)
      (λ u. bind (w.looped_body known n rty line own (w.part known n rty body)) (λ b. pure (tk.For a c u b.0 b.1))))) s1 q.0 h q.1 in
      let c = test_ends line test
      (λ c. bind (w.any_part w.is_third (nodes.part_of known n rty third) looped)
      (λ u. bind (w.looped_body known n rty line own (w.part known n rty body)) (λ b. pure (tk.For a.end.0 c u b.0 b.1)))) a.end.1 q.0 a.rest in
      let u = any_ends w.is_third third_is_first third looped
      (λ u. bind (w.looped_body known n rty line own (w.part known n rty body)) (λ b. pure (tk.For a.end.0 c.0 u b.0 b.1))) a.end.1 q.0 i c.1 in
      let c1 = if_counted (wf.counted_any n a.end.0) in
      let c2 = if_counted (wf.counted_any n u.end.0) in
      let quiet : (l : ℕ) → (both_counted c1 c2).loops l ≡ [] = λ l. ap (λ us. us ++ c2.loops (c1.after l)) (a.quiet l) ∙ u.quiet (c1.after l) in
      let b = body_ends line own body (λ b. pure (tk.For a.end.0 c.0 u.end.0 b.0 b.1)) u.end.1 q.0 j quiet (λ ok pre. m.2 ok pre)
      (step_then typed L a.facts (step_with typed L c.2 u.facts)) u.rest in
      let t = tk.For a.end.0 c.0 u.end.0 b.0.0 b.0.1 in
      let same : (t, scoped b.1.0 s.scope) ≡ z = ap (λ (p : TKind × Progress). (p.0, scoped p.1 s.scope)) (pure_is t b.1.0 q.0 b.1.1) ∙ q.2 in
      made line looped (t, scoped b.1.0 s.scope) z same
      (step_within typed L (step_as typed L (sym (wf.counted-For n a.end.0 c.0 u.end.0 b.0.0 b.0.1 line))
      (step_map typed L (λ v. wf.formed-For typed results L (kind_of rty) a.end.0 c.0 u.end.0 b.0.0 b.0.1 looped
      ∙ and_both (and_both (and_both v.0.0 v.0.1.0) v.0.1.1) v.1) b.1.2)))
      (never_first (k.For first test third body note) (nodes.sort-For known n rty first test third body note) t)

  abbrev ListFacts : Bool → Progress → List TStmt × Progress → Type 0
  ListFacts looped s z = Step typed L s z.1 (counted_all n z.0) (list_all (λ b. formed typed results L (kind_of rty) b looped) z.0 ≡ true)

  list_ends : {B : Type 0} (ss : List Stmt) (looped : Bool) (f : List TStmt → Walk B) (s : Progress) (z : B × Progress) → AllOf Formed ss
      → Ends (bind (w.statements known n rty looped ss) f s) z
      → (q : List TStmt × Progress) × Ends (f q.0 q.1) z × ListFacts looped s q
  list_ends [] looped f s z hs e = (([], s), sym (pure_ends [] f s) ∙ e, step_here typed L (λ ok pre. refl))
  list_ends (b ∷ ss) looped f s z (more h hs) e =
      let d = sym (assoc ((w.part known n rty b).walk looped) (λ t. bind (w.statements known n rty looped ss) (λ ts. pure (t ∷ ts))) f s) ∙ e in
      let p = bind_ends ((w.part known n rty b).walk looped) (λ t. bind (bind (w.statements known n rty looped ss) (λ ts. pure (t ∷ ts))) f) s z d in
      let g = sym (assoc (w.statements known n rty looped ss) (λ ts. pure (p.0.0 ∷ ts)) f p.0.1) ∙ p.2 in
      let q = list_ends ss looped (λ ts. bind (pure (p.0.0 ∷ ts)) f) p.0.1 z hs g in (
        (p.0.0 ∷ q.0.0, q.0.1),
        sym (pure_ends (p.0.0 ∷ q.0.0) f q.0.1) ∙ q.1,
        step_map typed L (λ u. and_both u.0 u.1) (step_then typed L (h looped s p.0 p.1).0 q.2),
      )

  block_formed : (ss : List Stmt) → AllOf Formed ss → KindFormed (k.Block ss)
  block_formed ss hs line looped s z e =
      let d = by_walk (nodes.walks-Block known n rty ss line looped) s z e in
      let q = within_ends (bind (w.statements known n rty looped ss) (λ ts. pure (tk.Block ts))) s z d in
      let p = list_ends ss looped (λ ts. pure (tk.Block ts)) (scoped s (nested s.scope)) q.0 hs q.1 in
      let same : (tk.Block p.0.0, scoped p.0.1 s.scope) ≡ z =
      ap (λ (p : TKind × Progress). (p.0, scoped p.1 s.scope)) (pure_is (tk.Block p.0.0) p.0.1 q.0 p.1) ∙ q.2 in
      made line looped (tk.Block p.0.0, scoped p.0.1 s.scope) z same
      (step_within typed L
      (step_as typed L (sym (wf.counted-Block n p.0.0 line)) (step_map typed L (λ u. wf.formed-Block typed results L (kind_of rty) p.0.0 looped ∙ u) p.2)))
      (never_first (k.Block ss) (nodes.sort-Block known n rty ss) (tk.Block p.0.0))

  return_formed_at : (v : Option Expr) → KindFormed (k.Return v)
  return_formed_at None line looped s z e =
      let d = by_walk (nodes.walks-Return known n rty None line looped) s z e in
      let u = lift_ends line (ensure (w.is_void rty) Return) (λ _. pure (tk.Return None)) s z d in
      made line looped (tk.Return None, s) z (pure_is (tk.Return None) s z u.2)
      (step_as typed L (sym (wf.counted-Return n None line)) (step_here typed L (λ ok pre.
      wf.formed-Return typed results L (kind_of rty) None looped
      ∙ ap (λ j. return_formed typed results L j None) (ap kind_of (void_true rty (ensure_ok (w.is_void rty) Return u.0 u.1)) ∙ kind-Void))))
      (never_first (k.Return None) (nodes.sort-Return known n rty None) (tk.Return None))
  return_formed_at (Some y) line looped s z e =
      let d = by_walk (nodes.walks-Return known n rty (Some y) line looped) s z e in
      let p = checks_ends line (λ scope. x.operand known (in_scope scope) y)
      (λ p. bind (lift line (ensure (not (w.is_void rty)) Return)) (λ _. bind (lift line (o.fitting rty p)) (λ a. pure (tk.Return (Some a))))) s z d in
      let u = lift_ends line (ensure (not (w.is_void rty)) Return) (λ _. bind (lift line (o.fitting rty p.0)) (λ a. pure (tk.Return (Some a)))) s z p.2 in
      let v = lift_ends line (o.fitting rty p.0) (λ a. pure (tk.Return (Some a))) s z u.2 in
      made line looped (tk.Return (Some v.0), s) z (pure_is (tk.Return (Some v.0)) s z v.2)
      (step_as typed L (sym (wf.counted-Return n (Some v.0) line)) (step_here typed L (λ ok pre.
      let j = fe.fitting_kind typed results L known (in_scope s.scope) cx (placed_grows pre ok) p.0 rty v.0 v.1 in
      wf.formed-Return typed results L (kind_of rty) (Some v.0) looped
      ∙ ap (λ j. return_formed typed results L j (Some v.0)) j.1
      ∙ fe.fitting_fits typed results L known (in_scope s.scope) cx (placed_grows pre ok) p.0 rty v.0
      (good_in s L y p.0 p.1 (placed_grows pre ok)) v.1 j.0 j.1)))
      (never_first (k.Return (Some y)) (nodes.sort-Return known n rty (Some y)) (tk.Return (Some v.0)))

  break_formed : KindFormed k.Break
  break_formed line looped s z e =
      let d = by_walk (nodes.walks-Break known n rty line looped) s z e in
      let u = lift_ends line (ensure looped Outside) (λ _. pure tk.Break) s z d in
      made line looped (tk.Break, s) z (pure_is tk.Break s z u.2)
      (step_as typed L (sym (wf.counted-Break n line)) (step_here typed L (λ ok pre. wf.formed-Break typed results L (kind_of rty) looped
      ∙ ensure_ok looped Outside u.0 u.1)))
      (never_first k.Break (nodes.sort-Break known n rty) tk.Break)

  continue_formed : KindFormed k.Continue
  continue_formed line looped s z e =
      let d = by_walk (nodes.walks-Continue known n rty line looped) s z e in
      let u = lift_ends line (ensure looped Outside) (λ _. pure tk.Continue) s z d in
      made line looped (tk.Continue, s) z (pure_is tk.Continue s z u.2)
      (step_as typed L (sym (wf.counted-Continue n line)) (step_here typed L (λ ok pre. wf.formed-Continue typed results L (kind_of rty) looped
      ∙ ensure_ok looped Outside u.0 u.1)))
      (never_first k.Continue (nodes.sort-Continue known n rty) tk.Continue)

  empty_formed : KindFormed k.Empty
  empty_formed line looped s z e =
      made line looped (tk.Empty, s) z (pure_is tk.Empty s z (by_walk (nodes.walks-Empty known n rty line looped) s z e))
      (step_as typed L (sym (wf.counted-Empty n line)) (step_here typed L (λ ok pre. wf.formed-Empty typed results L (kind_of rty) looped)))
      (never_first k.Empty (nodes.sort-Empty known n rty) tk.Empty)

  stmt_formed : (line : ℕ) (d : StmtKind) → KindFormed d → Formed (roll-Stmt (record { line = line; kind = d }))
  stmt_formed line d h looped s z e =
      let p = by_walk (nodes.walks-stmt known n rty (roll-Stmt (record { line = line; kind = d })) looped) s z e in
      let q = sym
      (ap (λ (b : Stmt-F StmtKind Stmt). bind ((w.kind_part known n rty b.kind).walk b.line looped)
      (λ d. pure (roll-TStmt (record { line = b.line; kind = d }))) s) (out-roll-Stmt (record { line = line; kind = d }))) ∙ p in
      let a = bind_ends ((w.kind_part known n rty d).walk line looped) (λ d. pure (roll-TStmt (record { line = line; kind = d }))) s z q in
      let t = roll-TStmt (record { line = line; kind = a.0.0 }) in
      let same = pure_is t a.0.1 z a.2 in
      let g = h line looped s a.0 a.1 in
      let facts : StmtFacts looped s (t, a.0.1) =
      step_as typed L (sym (wf.counted-stmt n line a.0.0)) (step_map typed L (λ u. ap (λ (b : Bool
      → Bool). b looped) (wf.formed-stmt typed results L (kind_of rty) line a.0.0) ∙ u) g.0) in
      subst (λ (z : TStmt × Progress). StmtFacts looped s z
      × (w.is_first (sort_of (roll-Stmt (record { line = line; kind = d }))) ≡ true → is_simple z.0 ≡ true)) same
      (facts, λ first. wf.simple-stmt line a.0.0 ∙ g.1 (sym (ap w.is_first (sort_at known n rty line d)) ∙ first))

  formed_cases : StmtCases Formed KindFormed
  formed_cases = record {
    stmt = stmt_formed;
    empty = empty_formed;
    declare = declare_formed;
    assign = assign_formed;
    update = update_formed;
    call = call_formed_at;
    print = print_formed;
    choice = choice_formed;
    while_loop = while_formed;
    for_loop = for_formed;
    block = block_formed;
    returns = return_formed_at;
    breaks = break_formed;
    continues = continue_formed;
  }

  all_formed_of : (ss : List Stmt) → AllOf Formed ss
  all_formed_of [] = none
  all_formed_of (b ∷ ss) = more (stmt_induct Formed KindFormed formed_cases b) (all_formed_of ss)

  pub statements_formed : (ss : List Stmt) (looped : Bool) (s : Progress) (z : List TStmt × Progress) → Ends (w.statements known n rty looped ss s) z
      → ListFacts looped s z
  statements_formed ss looped s z e =
      let q = list_ends ss looped (λ ts. pure ts) s z (all_formed_of ss) (bind_pure (w.statements known n rty looped ss) s ∙ e) in
      subst (ListFacts looped s) (pure_is q.0.0 q.0.1 z q.1) q.2
