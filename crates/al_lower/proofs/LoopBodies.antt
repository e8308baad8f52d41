-- Where the code of statements lies, that of each annotated loop in them does.
use Rattle.std.proofs.Common.{◌≡◌, ℕ, suc, Bool, true, false, ◌&&◌, List, [], ◌∷◌, ◌++◌, map, Option, Some, None, refl, sym, ap, ◌∙◌, subst}
use Rattle.std.specs.List.{list_all}
use Rattle.al_core.specs.declared.choices.Bound.{Bound}
use Rattle.al_core.specs.declared.choices.LoopInfo.{LoopInfo}
use Rattle.al_core.specs.declared.values.Kind.{Kind}
use Rattle.al_core.specs.declared.typed_tree.TExpr.{TExpr}
use Rattle.al_core.specs.declared.typed_tree.TStmt.{TStmt, map-TStmt, para-roll-TStmt}
use Rattle.al_core.specs.declared.typed_tree.TKind.{TKind, map-TKind, para-roll-TKind}
use Rattle.al_core.specs.declared.typed_tree.TKind.TheViews.{roll-TStmt, roll-TKind}
use Rattle.al_core.specs.declared.typed_tree.TKind.TheOpen.{TStmt-F, TKind-F}
use Rattle.al_core.specs.declared.typed_tree.TLocal.{TLocal}
use Rattle.al_core.specs.declared.typed_tree.Typed.{Typed}
use Rattle.al_core.specs.Loops.{ForLoop, Seen, SeenKind, all_loops, loops_here, for_loops, for_loops_of, for_loops_in, Start, start_of, bound_of}
use Rattle.al_laws.proofs.Induction.{With, stmt_induct}
use Rattle.al_rules.specs.Names.{AllOf, none, more}
use Rattle.al_rules.specs.WellFormed.{fits_either, fits, is_simple, FormedStmt, FormedKind, test_formed, all_formed, kind_formed, formed, formed_in, body_formed}
use Rattle.al_rules_laws.proofs.Logic.{and_parts}
use Rattle.al_code_laws.specs.declared.plan.Op.TheVariants.{JumpTo, EndOf}
use Rattle.al_code_laws.specs.Planned.{planned, Plan, past, Emit, nothing, ◌⨟◌}
use Rattle.al_code_laws.specs.declared.plan.Planned.{Planned}
use Rattle.al_code_laws.specs.Tree.{Ended, Part, expr_code, block_code, if_code, when_code, test_code, turn_code, loop_code, trips_code, annotated_code, kind_code, stmt_code_case, stmt_code, code_of_kind, stmts_code}
use Rattle.al_rules_laws.proofs.LoopEntries.{all_append}
use Rattle.al_lower.proofs.FineStatements.{all_split, simple_loops, LoopFine}

-- a way to lie: with its front, its back and what follows its first operation
pub record Way (H : ℕ → Plan → Type 0) : Type 0 where
  pub front : (n : ℕ) (a b : Plan) → H n (a ++ b) → H (past b n) a
  pub back : (n : ℕ) (a b : Plan) → H n (a ++ b) → H n b
  pub rest : (n : ℕ) (p : Planned) (ps : Plan) → H n (p ∷ ps) → H n ps

-- a loop, whose code lies somewhere
pub record LoopLies (H : ℕ → Plan → Type 0) (l : ForLoop) : Type 0 where
  pub line : ℕ
  pub counter : ℕ
  pub bound : Bound
  pub after : ℕ
  pub lies : H after (trips_code line l.number counter bound (stmt_code l.body) after)

module _ (H : ℕ → Plan → Type 0) (way : Way H) where
  abbrev Lies : ForLoop → Type 0
  Lies l = LoopLies H l

  abbrev HasAt : Emit → ℕ → Type 0
  HasAt c n = H n (c n)

  split : (a b : Emit) (n : ℕ) → HasAt (a ⨟ b) n → HasAt a (past (b n) n) × HasAt b n
  split a b n h = (way.front n (a (past (b n) n)) (b n) h, way.back n (a (past (b n) n)) (b n) h)

  module _ (typed : Typed) (infos : List LoopInfo) (locals : List TLocal) (results : List (Option Kind)) (result : Option Kind) where
    abbrev LoopsFine : List ForLoop → Type 0
    LoopsFine = AllOf (LoopFine infos)

    abbrev is_formed : TStmt → Bool → Bool
    is_formed s = formed typed results locals result s

    abbrev KindLies : TKind → Type 0
    KindLies d = (line : ℕ) (looped : Bool) → formed_in typed results locals result d looped ≡ true → LoopsFine (for_loops_of d) → (out : Option ℕ)
        (cont n : ℕ) → HasAt (code_of_kind d line out cont) n → AllOf Lies (for_loops_of d)

    abbrev StmtLies : TStmt → Type 0
    StmtLies s = (looped : Bool) → is_formed s looped ≡ true → LoopsFine (for_loops s) → (out : Option ℕ) (cont n : ℕ) → HasAt (stmt_code s out cont) n
        → AllOf Lies (for_loops s)

    abbrev W : Type 0
    W = With TKind KindLies

    abbrev Z : Type 0
    Z = With TStmt StmtLies

    abbrev kind_layer : TKind-F W Z → TKind-F TKind TStmt
    kind_layer y = map-TKind W Z TKind TStmt (λ e. e.0) (λ e. e.0) y

    abbrev formed_pair : TStmt → FormedStmt
    formed_pair d = (d, is_formed d)

    abbrev seen_pair : TStmt → Seen
    seen_pair d = (d, for_loops d)

    abbrev code_pair : TStmt → Part
    code_pair d = (d, stmt_code d)

    abbrev map_formed : TKind-F TKind TStmt → TKind-F FormedKind FormedStmt
    map_formed x = map-TKind TKind TStmt FormedKind FormedStmt (λ d. (d, formed_in typed results locals result d)) formed_pair x

    abbrev map_seen : TKind-F TKind TStmt → TKind-F SeenKind Seen
    map_seen x = map-TKind TKind TStmt SeenKind Seen (λ d. (d, for_loops_of d)) seen_pair x

    abbrev map_code : TKind-F TKind TStmt → TKind-F (TKind × (ℕ → Ended)) Part
    map_code x = map-TKind TKind TStmt (TKind × (ℕ → Ended)) Part (λ d. (d, code_of_kind d)) code_pair x

    block_lies : (zs : List Z) (looped : Bool) → all_formed typed results locals (map formed_pair (map (λ e. e.0) zs)) looped ≡ true
        → LoopsFine (all_loops (map seen_pair (map (λ e. e.0) zs))) → (out : Option ℕ) (cont n : ℕ)
        → HasAt (block_code (map code_pair (map (λ e. e.0) zs)) out cont) n → AllOf Lies (all_loops (map seen_pair (map (λ e. e.0) zs)))
    block_lies [] looped e l out cont n has = none
    block_lies (z ∷ zs) looped e l out cont n has =
        let q = and_parts (is_formed z.0 looped) (all_formed typed results locals (map formed_pair (map (λ e. e.0) zs)) looped) e in
        let p = all_split (for_loops z.0) (all_loops (map seen_pair (map (λ e. e.0) zs))) l in
        let h = split (stmt_code z.0 out cont) (block_code (map code_pair (map (λ e. e.0) zs)) out cont) n has in
        all_append (z.1 looped q.0 p.0 out cont _ h.0) (block_lies zs looped q.1 p.1 out cont n h.1)

    -- a part has no loops
    abbrev IsPart : Z → Bool → Type 0
    IsPart a looped = (is_simple a.0 && is_formed a.0 looped) ≡ true

    part_lies : (a : Z) (looped : Bool) → IsPart a looped → AllOf Lies (for_loops a.0)
    part_lies a looped e = subst (AllOf Lies) (sym (simple_loops a.0 (and_parts (is_simple a.0) (is_formed a.0 looped) e).0)) none

    -- the body in a loop
    body_in_loop : (line : ℕ) (test : Option TExpr) (body : Ended) (third : Emit) (n : ℕ) → HasAt (loop_code line test body third) n
        → (m : ℕ) × H m (body (Some n) m m)
    body_in_loop line test body third n has =
        let turn = turn_code line test body third n (suc n) in
        let front = way.front n turn (planned (JumpTo (past turn (suc n))) line 0 ∷ []) has in
        let rest = way.rest (suc n) _ _ front in
        let work = split (test_code test line n) ((λ m. body (Some n) m m) ⨟ third) (suc n) rest in
        (past (third (suc n)) (suc n), (split (λ m. body (Some n) m m) third (suc n) work.1).0)

    loop_lies : (line : ℕ) (test : Option TExpr) (a : Z) (third : Emit) → is_formed a.0 true ≡ true → LoopsFine (for_loops a.0) → (n : ℕ)
        → HasAt (loop_code line test (stmt_code a.0) third) n → AllOf Lies (for_loops a.0)
    loop_lies line test a third e l n has = let h = body_in_loop line test (stmt_code a.0) third n has in a.1 true e l (Some n) h.0 h.0 h.1

    with_parts : (l : ForLoop) {ps ls : List ForLoop} → AllOf Lies ps → AllOf Lies (l ∷ ls) → AllOf Lies (l ∷ (ps ++ ls))
    with_parts l p (more h hs) = more h (all_append p hs)

    annotated_lies : (line k : ℕ) (l : ForLoop) (a body : Z) → l.number ≡ k → l.first ≡ Some a.0 → l.body ≡ body.0 → is_formed body.0 true ≡ true
        → LoopFine infos l → LoopsFine (for_loops body.0) → (n : ℕ)
        → HasAt (annotated_code line k (start_of (Some a.0)) (bound_of l.test) (stmt_code body.0)) n → AllOf Lies (l ∷ for_loops body.0)
    annotated_lies line k l a body is first at formed f ls n has =
        let starts : start_of (Some a.0) ≡ Some f.start = ap start_of (sym first) ∙ f.starts in
        let has' = subst (λ s. HasAt (annotated_code line k s (bound_of l.test) (stmt_code body.0)) n) starts has in
        let trips = trips_code line k f.start.counter (bound_of l.test) (stmt_code body.0) in
        let h = (split (expr_code f.start.value f.start.line 0) trips n has').1 in
        let end = planned (EndOf k) line 0 ∷ [] in
        let whole : H n (trips_code line l.number f.start.counter (bound_of l.test) (stmt_code l.body) n) =
        subst (λ b. H n (trips_code line l.number f.start.counter (bound_of l.test) (stmt_code b) n)) (sym at)
        (subst (λ m. H n (trips_code line m f.start.counter (bound_of l.test) (stmt_code body.0) n)) (sym is) h) in
        more (record { line = line; counter = f.start.counter; bound = bound_of l.test; after = n; lies = whole })
        (body.1 true formed ls None (suc n) (suc n) (way.front n (stmt_code body.0 None (suc n) (suc n)) end (way.rest n _ _ h)))

    layer_lies : (y : TKind-F W Z) (line : ℕ) (looped : Bool) → kind_formed typed results locals result (map_formed (kind_layer y)) looped ≡ true
        → LoopsFine (loops_here (map_seen (kind_layer y))) → (out : Option ℕ) (cont n : ℕ) → HasAt (kind_code (map_code (kind_layer y)) line out cont) n
        → AllOf Lies (loops_here (map_seen (kind_layer y)))
    layer_lies TKind-F.Empty line looped e l out cont n has = none
    layer_lies (TKind-F.SetLocal k x) line looped e l out cont n has = none
    layer_lies (TKind-F.Store q x) line looped e l out cont n has = none
    layer_lies (TKind-F.UpdateLocal op k x) line looped e l out cont n has = none
    layer_lies (TKind-F.UpdateAt op q x) line looped e l out cont n has = none
    layer_lies (TKind-F.Call x) line looped e l out cont n has = none
    layer_lies (TKind-F.Print format xs) line looped e l out cont n has = none
    layer_lies (TKind-F.If x a None) line looped e l out cont n has =
        let h = and_parts (fits_either (fits typed results locals x) && is_formed a.0 looped) true e in
        let k = and_parts (fits_either (fits typed results locals x)) (is_formed a.0 looped) h.0 in
        let p = all_split (for_loops a.0) [] l in
        let q = split (expr_code x line 0) (when_code line (stmt_code a.0 out cont)) n has in
        all_append (a.1 looped k.1 p.0 out cont n (way.rest n _ _ q.1)) none
    layer_lies (TKind-F.If x a (Some d)) line looped e l out cont n has =
        let h = and_parts (fits_either (fits typed results locals x) && is_formed a.0 looped) (is_formed d.0 looped) e in
        let k = and_parts (fits_either (fits typed results locals x)) (is_formed a.0 looped) h.0 in
        let p = all_split (for_loops a.0) (for_loops d.0) l in
        let q = split (expr_code x line 0) (if_code line (stmt_code a.0 out cont) (stmt_code d.0 out cont)) n has in
        let m = past (stmt_code d.0 out cont n) n in
        let rest = planned (JumpTo n) line 0 ∷ stmt_code d.0 out cont n in
        let both = way.rest n _ _ q.1 in
        all_append
        (a.1 looped k.1 p.0 out cont (suc m) (way.front n (stmt_code a.0 out cont (suc m)) rest both))
        (d.1 looped h.1 p.1 out cont n (way.rest n _ _ (way.back n (stmt_code a.0 out cont (suc m)) rest both)))
    layer_lies (TKind-F.While x a) line looped e l out cont n has =
        loop_lies line (Some x) a nothing (and_parts (fits_either (fits typed results locals x)) (is_formed a.0 true) e).1 l n has
    layer_lies (TKind-F.For None test None body None) line looped e l out cont n has =
        let h = and_parts (true && (test_formed typed results locals test) && true) (is_formed body.0 true) e in
        loop_lies line test body nothing h.1 l n (split nothing (loop_code line test (stmt_code body.0) nothing) n has).1
    layer_lies (TKind-F.For None test (Some third) body None) line looped e l out cont n has =
        let h = and_parts (true && (test_formed typed results locals test) && (is_simple third.0 && is_formed third.0 looped)) (is_formed body.0 true) e in
        let c = and_parts (true && (test_formed typed results locals test)) (is_simple third.0 && is_formed third.0 looped) h.0 in
        let p = all_split (for_loops third.0) (for_loops body.0) l in
        all_append (part_lies third looped c.1)
        (loop_lies line test body (stmt_code third.0 out cont) h.1 p.1 n
        (split nothing (loop_code line test (stmt_code body.0) (stmt_code third.0 out cont)) n has).1)
    layer_lies (TKind-F.For (Some first) test None body None) line looped e l out cont n has =
        let h = and_parts ((is_simple first.0 && is_formed first.0 looped) && (test_formed typed results locals test) && true) (is_formed body.0 true) e in
        let c = and_parts ((is_simple first.0 && is_formed first.0 looped) && (test_formed typed results locals test)) true h.0 in
        let d = and_parts (is_simple first.0 && is_formed first.0 looped) (test_formed typed results locals test) c.0 in
        let p = all_split (for_loops first.0 ++ []) (for_loops body.0) l in
        all_append (all_append (part_lies first looped d.0) none)
        (loop_lies line test body nothing h.1 p.1 n (split (stmt_code first.0 out cont) (loop_code line test (stmt_code body.0) nothing) n has).1)
    layer_lies (TKind-F.For (Some first) test (Some third) body None) line looped e l out cont n has =
        let h = and_parts ((is_simple first.0 && is_formed first.0 looped) && (test_formed typed results locals test) &&
        (is_simple third.0 && is_formed third.0 looped)) (is_formed body.0 true) e in
        let c = and_parts ((is_simple first.0 && is_formed first.0 looped) && (test_formed typed results locals test))
        (is_simple third.0 && is_formed third.0 looped) h.0 in
        let d = and_parts (is_simple first.0 && is_formed first.0 looped) (test_formed typed results locals test) c.0 in
        let p = all_split (for_loops first.0 ++ for_loops third.0) (for_loops body.0) l in
        all_append (all_append (part_lies first looped d.0) (part_lies third looped c.1))
        (loop_lies line test body (stmt_code third.0 out cont) h.1 p.1 n
        (split (stmt_code first.0 out cont) (loop_code line test (stmt_code body.0) (stmt_code third.0 out cont)) n has).1)
    layer_lies (TKind-F.For (Some first) test None body (Some k)) line looped e (more f l) out cont n has =
        let h = and_parts ((is_simple first.0 && is_formed first.0 looped) && (test_formed typed results locals test) && true) (is_formed body.0 true) e in
        let c = and_parts ((is_simple first.0 && is_formed first.0 looped) && (test_formed typed results locals test)) true h.0 in
        let d = and_parts (is_simple first.0 && is_formed first.0 looped) (test_formed typed results locals test) c.0 in
        let this : ForLoop = record { number = k; first = Some first.0; test = test; third = None; body = body.0 } in
        let p = all_split (for_loops first.0 ++ []) (for_loops body.0) l in
        with_parts this (all_append (part_lies first looped d.0) none)
        (annotated_lies line k this first body refl refl refl h.1 f p.1 n has)
    layer_lies (TKind-F.For (Some first) test (Some third) body (Some k)) line looped e (more f l) out cont n has =
        let h = and_parts ((is_simple first.0 && is_formed first.0 looped) && (test_formed typed results locals test) &&
        (is_simple third.0 && is_formed third.0 looped)) (is_formed body.0 true) e in
        let c = and_parts ((is_simple first.0 && is_formed first.0 looped) && (test_formed typed results locals test))
        (is_simple third.0 && is_formed third.0 looped) h.0 in
        let d = and_parts (is_simple first.0 && is_formed first.0 looped) (test_formed typed results locals test) c.0 in
        let this : ForLoop = record { number = k; first = Some first.0; test = test; third = Some third.0; body = body.0 } in
        let p = all_split (for_loops first.0 ++ for_loops third.0) (for_loops body.0) l in
        with_parts this (all_append (part_lies first looped d.0) (part_lies third looped c.1))
        (annotated_lies line k this first body refl refl refl h.1 f p.1 n has)
    layer_lies (TKind-F.For None test third body (Some k)) line looped e (more f l) out cont n has = absurd (no_start f.starts)
      where
        no_start : ◌≡◌ {A = Option Start} None (Some f.start) → ⊥
        no_start e = absurd cc
    layer_lies (TKind-F.Block zs) line looped e l out cont n has = block_lies zs looped e l out cont n has
    layer_lies (TKind-F.Return x) line looped e l out cont n has = none
    layer_lies TKind-F.Break line looped e l out cont n has = none
    layer_lies TKind-F.Continue line looped e l out cont n has = none

    kind_step : (y : TKind-F W Z) → KindLies (roll-TKind (kind_layer y))
    unfolding formed formed_in stmt_code code_of_kind for_loops for_loops_of
    kind_step y line looped e l out cont n has =
        let d = kind_layer y in
        let loops = para-roll-TKind (List ForLoop) (List ForLoop) loops_here (λ s. s.kind.1) d in
        subst (AllOf Lies) (sym loops)
        (layer_lies y line looped
        (sym (ap (λ (f : Bool → Bool). f looped) (para-roll-TKind (Bool → Bool) (Bool → Bool) (kind_formed typed results locals result) (λ s. s.kind.1) d))
        ∙ e)
        (subst LoopsFine loops l) out cont n
        (subst (λ (c : ℕ → Ended). HasAt (c line out cont) n) (para-roll-TKind (ℕ → Ended) Ended kind_code stmt_code_case d) has))

    abbrev stmt_layer : TStmt-F W Z → TStmt-F TKind TStmt
    stmt_layer y = map-TStmt W Z TKind TStmt (λ e. e.0) (λ e. e.0) y

    stmt_step : (y : TStmt-F W Z) → StmtLies (roll-TStmt (stmt_layer y))
    unfolding formed formed_in stmt_code code_of_kind for_loops for_loops_of
    stmt_step y looped e l out cont n has =
        let d = stmt_layer y in
        let loops = para-roll-TStmt (List ForLoop) (List ForLoop) loops_here (λ s. s.kind.1) d in
        subst (AllOf Lies) (sym loops)
        (y.kind.1 y.line looped
        (sym (ap (λ (f : Bool → Bool). f looped) (para-roll-TStmt (Bool → Bool) (Bool → Bool) (kind_formed typed results locals result) (λ s. s.kind.1) d))
        ∙ e)
        (subst LoopsFine loops l) out cont n
        (way.rest n _ _ (subst (λ (c : Ended). HasAt (c out cont) n) (para-roll-TStmt (ℕ → Ended) Ended kind_code stmt_code_case d) has)))

    stmt_lies : (s : TStmt) → StmtLies s
    stmt_lies = stmt_induct KindLies StmtLies kind_step stmt_step

    pub stmts_lie : (ss : List TStmt) → body_formed typed results locals result ss ≡ true → LoopsFine (for_loops_in ss) → (out : Option ℕ) (cont n : ℕ)
        → HasAt (stmts_code ss out cont) n → AllOf Lies (for_loops_in ss)
    stmts_lie [] e l out cont n has = none
    stmts_lie (s ∷ ss) e l out cont n has =
        let q = and_parts (is_formed s false) (list_all (λ s. is_formed s false) ss) e in
        let p = all_split (for_loops s) (for_loops_in ss) l in
        let h = split (stmt_code s out cont) (stmts_code ss out cont) n has in
        all_append (stmt_lies s false q.0 p.0 out cont _ h.0) (stmts_lie ss q.1 p.1 out cont n h.1)
