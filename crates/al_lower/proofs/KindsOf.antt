-- The code of each kind of statement, as it is written in front of what is there.
use Rattle.std.proofs.Common.{◌≡◌, ℕ, suc, ◌+◌, ◌-◌, ◌<◌, ◌≤◌, append_assoc, length-append, List, [], ◌∷◌, ◌++◌, length, map, Option, Some, None, refl, sym, ap, ◌∙◌, arith, get_or}
use Rattle.std.specs.Prelude.{false, drop, slice_set}
use Rattle.std.proofs.lemmas.List.{drop_all, drop_more}
use Rattle.std.proofs.Math.Seq.{set-append_seam}
use Rattle.al_source.specs.declared.operators.BinOp.{BinOp}
use Rattle.al_source.specs.declared.texts.Piece.{Piece}
use Rattle.al_core.specs.declared.values.Kind.TheVariants as kind
use Rattle.al_core.specs.declared.typed_tree.TExpr.{TExpr}
use Rattle.al_core.specs.declared.typed_tree.TPlace.{TPlace}
use Rattle.al_core.specs.declared.typed_tree.TStmt.{TStmt, out-TStmt, para-TStmt, para-roll-TStmt, roll-out-TStmt}
use Rattle.al_core.specs.declared.typed_tree.TKind.{TKind, map-TKind, para-TKind, para-roll-TKind}
use Rattle.al_core.specs.declared.typed_tree.TKind.TheVariants as k
use Rattle.al_core.specs.declared.typed_tree.TKind.TheViews.{roll-TKind}
use Rattle.al_core.specs.declared.typed_tree.TKind.TheOpen.{TKind-F}
use Rattle.al_core.specs.declared.choices.Bound.{Bound}
use Rattle.al_core.specs.Loops.{Start, start_of, bound_of}
use Rattle.al_code.specs.declared.instructions.Instr.TheVariants as i
use Rattle.al_code_laws.specs.declared.plan.Op.{Op}
use Rattle.al_code_laws.specs.declared.plan.Op.TheVariants.{As, JumpTo, JumpIfTo, PrintOf, LoopTo, EndOf}
use Rattle.al_code_laws.specs.Planned.{planned, Plan, past, Emit, nothing, one, ◌⨟◌}
use Rattle.al_code_laws.specs.Tree.{Ended, Part, expr_code, place_code, exprs_code, block_code, if_code, when_code, test_code, turn_code, loop_code, trips_code, annotated_code, out_op, result_code, kind_code, stmt_code_case, stmt_code, code_of_kind, stmts_code}
use Rattle.al_lower.specs.Emits.{emits, part_code, either_code, led_to, headed}
use Rattle.al_lower.proofs.CodeOf.{past_is, emits-seq, emits-one}

abbrev parts : TKind-F TKind TStmt → TKind-F (TKind × (ℕ → Ended)) Part
parts x = map-TKind TKind TStmt (TKind × (ℕ → Ended)) Part (λ d. (d, code_of_kind d)) (λ d. (d, stmt_code d)) x

of_kind : (x : TKind-F TKind TStmt) (d : TKind) (line : ℕ) (out : Option ℕ) (cont : ℕ) → roll-TKind x ≡ d
    → code_of_kind d line out cont ≡ kind_code (parts x) line out cont
unfolding stmt_code code_of_kind
of_kind x d line out cont e =
    ap (λ d. para-TKind (ℕ → Ended) Ended kind_code stmt_code_case d line out cont) (sym e)
    ∙ ap (λ (c : ℕ → Ended). c line out cont) (para-roll-TKind (ℕ → Ended) Ended kind_code stmt_code_case x)

pub code-stmt : (s : TStmt) (out : Option ℕ) (cont : ℕ)
    → stmt_code s out cont ≡ (one (As i.Step) (out-TStmt s).line 0 ⨟ code_of_kind (out-TStmt s).kind (out-TStmt s).line out cont)
unfolding stmt_code code_of_kind
code-stmt s out cont =
    ap (λ s. para-TStmt (ℕ → Ended) Ended kind_code stmt_code_case s out cont) (sym (roll-out-TStmt s))
    ∙ ap (λ (c : Ended). c out cont) (para-roll-TStmt (ℕ → Ended) Ended kind_code stmt_code_case (out-TStmt s))

pub emits-nothing : (old : Plan) → emits nothing old ≡ old
unfolding emits
emits-nothing old = refl

pub emits-if : (line : ℕ) (a b : Emit) (old : Plan)
    → emits (if_code line a b) old
    ≡ planned (JumpIfTo false (length (emits b old))) line 1 ∷ emits a (planned (JumpTo (length old)) line 0 ∷ emits b old)
unfolding emits
emits-if line a b old =
    let n = past (b (length old)) (length old) in
    ap (λ l. planned (JumpIfTo false n) line 1 ∷ l) (append_assoc (a (suc n)) (planned (JumpTo (length old)) line 0 ∷ b (length old)) old)
    ∙ ap (λ m. planned (JumpIfTo false m) line 1 ∷ (a (suc m) ++ (planned (JumpTo (length old)) line 0 ∷ (b (length old) ++ old))))
    (past_is (b (length old)) old)

pub emits-when : (line : ℕ) (a : Emit) (old : Plan) → emits (when_code line a) old ≡ planned (JumpIfTo false (length old)) line 1 ∷ emits a old
unfolding emits
emits-when line a old = refl

emits-here : (body : ℕ → ℕ → Plan) (old : Plan) → emits (λ m. body m m) old ≡ emits (body (length old)) old
unfolding emits
emits-here body old = refl

emits_longer : (c : Emit) (old : Plan) → length old ≤ length (emits c old)
unfolding emits
emits_longer c old = omega (arith, length-append (c (length old)) old)

pub emits-first : (op : Op) (line h : ℕ) (c : Emit) (old : Plan) → emits (one op line h ⨟ c) old ≡ planned op line h ∷ emits c old
emits-first op line h c old = emits-seq (one op line h) c old ∙ emits-one op line h (emits c old)

-- two operations at the end
emits-last : (x : Emit) (a b : Op) (line h k : ℕ) (old : Plan)
    → emits (x ⨟ (one a line h ⨟ one b line k)) old ≡ emits x (planned a line h ∷ planned b line k ∷ old)
emits-last x a b line h k old =
    emits-seq x (one a line h ⨟ one b line k) old
    ∙ ap (emits x) (emits-first a line h (one b line k) old ∙ ap (λ l. planned a line h ∷ l) (emits-one b line k old))

pub emits-update : (a b c : Op) (x : Emit) (line h k l : ℕ) (old : Plan)
    → emits (one a line h ⨟ (x ⨟ (one b line k ⨟ one c line l))) old
    ≡ planned a line h ∷ emits x (planned b line k ∷ planned c line l ∷ old)
emits-update a b c x line h k l old =
    emits-first a line h (x ⨟ (one b line k ⨟ one c line l)) old ∙ ap (λ ps. planned a line h ∷ ps) (emits-last x b c line k l old)

pub emits-update_at : (a b c d : Op) (p x : Emit) (line h k l m : ℕ) (old : Plan)
    → emits (p ⨟ (one a line h ⨟ (one b line k ⨟ (x ⨟ (one c line l ⨟ one d line m))))) old
    ≡ emits p (planned a line h ∷ planned b line k ∷ emits x (planned c line l ∷ planned d line m ∷ old))
emits-update_at a b c d p x line h k l m old =
    let rest = x ⨟ (one c line l ⨟ one d line m) in
    emits-seq p (one a line h ⨟ (one b line k ⨟ rest)) old
    ∙ ap (emits p) (emits-first a line h (one b line k ⨟ rest) old ∙ ap (λ ps. planned a line h ∷ ps)
    (emits-first b line k rest old ∙ ap (λ ps. planned b line k ∷ ps) (emits-last x c d line l m old)))

pub still_within : (c : Emit) (old new : Plan) (end : ℕ) → end < length old → new ≡ emits c old → end < length new
still_within c old new end h is = let l = ap length is in omega (arith, h, emits_longer c old)

pub test_emits : (x : TExpr) (line end : ℕ) (old : Plan)
    → emits (test_code (Some x) line end) old ≡ emits (expr_code x line 0) (planned (JumpIfTo false end) line 1 ∷ old)
test_emits x line end old = emits-seq (expr_code x line 0) (one (JumpIfTo false end) line 1) old
    ∙ ap (emits (expr_code x line 0)) (emits-one (JumpIfTo false end) line 1 old)

pub while_headed : (x : TExpr) (line end : ℕ) (old c1 c2 new : Plan) → c1 ≡ planned (JumpIfTo false end) line 1 ∷ old → c2 ≡ emits (expr_code x line 0) c1
    → new ≡ led_to line end (planned (As i.Step) line 0 ∷ c2) → new ≡ headed line (Some x) end old
while_headed x line end old c1 c2 new e1 e2 now =
    now ∙ ap (λ c. led_to line end (planned (As i.Step) line 0 ∷ c)) (e2 ∙ ap (emits (expr_code x line 0)) e1 ∙ sym (test_emits x line end old))

pub while_within : (x : TExpr) (line end : ℕ) (old c1 c2 : Plan) → end < length old → c1 ≡ planned (JumpIfTo false end) line 1 ∷ old
    → c2 ≡ emits (expr_code x line 0) c1 → end < length c2
while_within x line end old c1 c2 h e1 e2 = let l = ap length e1 in still_within (expr_code x line 0) c1 c2 end (omega arith) e2

-- ---- loops

-- a loop, whose jump back was written over
loop_lowered : (line : ℕ) (test : Option TExpr) (body : Ended) (third : Emit) (x : Op) (old all new : Plan) (end : ℕ) → end ≡ length old
    → all ≡ emits (turn_code line test body third end) (planned x line 0 ∷ old) → new ≡ led_to line end all → new ≡ emits (loop_code line test body third) old
unfolding emits
loop_lowered line test body third x old all new end e is now =
    let turn = turn_code line test body third (length old) (suc (length old)) in
    let all_is : all ≡ turn ++ planned x line 0 ∷ old = is ∙ ap (λ n. turn_code line test body third n (suc (length old)) ++ planned x line 0 ∷ old) e in
    let size = ap length all_is ∙ length-append turn (planned x line 0 ∷ old) in
    let at : length all - 1 - end ≡ length turn = omega arith in
    let top : length all ≡ past turn (suc (length old)) = ap length all_is ∙ sym (past_is turn (planned x line 0 ∷ old)) in
    now
    ∙ (λ j. slice_set (all_is j) (at j) (planned (JumpTo (top j)) line 0))
    ∙ set-append_seam turn (planned x line 0) old (planned (JumpTo (past turn (suc (length old)))) line 0)
    ∙ sym (append_assoc turn (planned (JumpTo (past turn (suc (length old)))) line 0 ∷ []) old)

-- a turn
turn_is : (line : ℕ) (test : Option TExpr) (body : Ended) (third : Emit) (end : ℕ) (old : Plan)
    → emits (turn_code line test body third end) old
    ≡ planned (As i.Step) line 0 ∷ emits (test_code test line end) (emits (body (Some end) (length (emits third old))) (emits third old))
turn_is line test body third end old =
    let check = test_code test line end in
    let work : Emit = λ m. body (Some end) m m in
    emits-first (As i.Step) line 0 (check ⨟ (work ⨟ third)) old
    ∙ ap (λ l. planned (As i.Step) line 0 ∷ l)
    (emits-seq check (work ⨟ third) old ∙ ap (emits check) (emits-seq work third old ∙ emits-here (body (Some end)) (emits third old)))

pub loop_closed : (line : ℕ) (test : Option TExpr) (body : Ended) (third : Emit) (old c1 c2 c3 new : Plan) (end next : ℕ) → end ≡ length old
    → c1 ≡ planned (JumpTo 0) line 0 ∷ old → c2 ≡ emits third c1 → next ≡ length c2 → c3 ≡ emits (body (Some end) next) c2
    → new ≡ headed line test end c3 → new ≡ emits (loop_code line test body third) old
loop_closed line test body third old c1 c2 c3 new end next en e1 e2 ec e3 now =
    loop_lowered line test body third (JumpTo 0) old (planned (As i.Step) line 0 ∷ emits (test_code test line end) c3) new end en
    (ap (λ l. planned (As i.Step) line 0 ∷ emits (test_code test line end) l)
    (e3 ∙ (λ j. emits (body (Some end) (ec j)) c2) ∙ ap (λ c. emits (body (Some end) (length c)) c) (e2 ∙ ap (emits third) e1))
    ∙ sym (turn_is line test body third end (planned (JumpTo 0) line 0 ∷ old)))
    now

pub end_within : (line : ℕ) (a b : Emit) (old c1 c2 c3 : Plan) (end : ℕ) → end ≡ length old → c1 ≡ planned (JumpTo 0) line 0 ∷ old
    → c2 ≡ emits a c1 → c3 ≡ emits b c2 → end < length c3
end_within line a b old c1 c2 c3 end en e1 e2 e3 =
    let l1 = ap length e1 in let l2 = ap length e2 in let l3 = ap length e3 in
    omega (arith, emits_longer a c1, emits_longer b c2)

-- ---- lists of statements

block_of : (ss : List TStmt) (out : Option ℕ) (cont : ℕ) → block_code (map (λ d. (d, stmt_code d)) ss) out cont ≡ stmts_code ss out cont
block_of [] out cont = λ j after. []
block_of (s ∷ ss) out cont = λ j after. (stmt_code s out cont ⨟ block_of ss out cont j) after

pub stmts_start : (ss : List TStmt) (out : Option ℕ) (cont : ℕ) (old : Plan) → old ≡ emits (stmts_code (drop (length ss) ss) out cont) old
unfolding emits
stmts_start ss out cont old = ap (λ (ss : List TStmt). emits (stmts_code ss out cont) old) (sym (drop_all (length ss) ss (omega arith)))

pub stmts_next : (ss : List TStmt) (out : Option ℕ) (cont n : ℕ) (s : TStmt) (old code new : Plan) → 0 < n → n ≤ length ss → s ≡ get_or ss (n - 1) s
    → code ≡ emits (stmts_code (drop n ss) out cont) old → new ≡ emits (stmt_code s out cont) code
    → new ≡ emits (stmts_code (drop (n - 1) ss) out cont) old
stmts_next ss out cont n s old code new some le is was now =
    let e : n - 1 + 1 ≡ n = omega arith in
    now
    ∙ ap (λ c. emits (stmt_code s out cont) c) was
    ∙ sym (emits-seq (stmt_code s out cont) (stmts_code (drop n ss) out cont) old)
    ∙ ap (λ m. emits (stmts_code (s ∷ drop m ss) out cont) old) (sym e)
    ∙ ap (λ y. emits (stmts_code (y ∷ drop (n - 1 + 1) ss) out cont) old) is
    ∙ ap (λ ss. emits (stmts_code ss out cont) old) (sym (drop_more ss (n - 1) s (omega arith)))

-- ---- nodes

pub code-Block : (ss : List TStmt) (line : ℕ) (out : Option ℕ) (cont : ℕ) → code_of_kind (k.Block ss) line out cont ≡ stmts_code ss out cont
code-Block ss line out cont = of_kind (TKind-F.Block ss) _ line out cont (k.rolls-Block ss) ∙ block_of ss out cont

pub code-Empty : (line : ℕ) (out : Option ℕ) (cont : ℕ) → code_of_kind k.Empty line out cont ≡ nothing
code-Empty line out cont = of_kind TKind-F.Empty _ line out cont k.rolls-Empty

pub code-SetLocal : (n : ℕ) (x : TExpr) (line : ℕ) (out : Option ℕ) (cont : ℕ)
    → code_of_kind (k.SetLocal n x) line out cont ≡ (expr_code x line 0 ⨟ one (As (i.SetLocal n)) line 1)
code-SetLocal n x line out cont = of_kind (TKind-F.SetLocal n x) _ line out cont (k.rolls-SetLocal n x)

pub code-Store : (q : TPlace) (x : TExpr) (line : ℕ) (out : Option ℕ) (cont : ℕ)
    → code_of_kind (k.Store q x) line out cont ≡ (place_code q line 0 ⨟ (expr_code x line 1 ⨟ one (As i.Store) line 2))
code-Store q x line out cont = of_kind (TKind-F.Store q x) _ line out cont (k.rolls-Store q x)

pub code-UpdateLocal : (op : BinOp) (n : ℕ) (x : TExpr) (line : ℕ) (out : Option ℕ) (cont : ℕ)
    → code_of_kind (k.UpdateLocal op n x) line out cont
    ≡ (one (As (i.GetLocal n)) line 0 ⨟ (expr_code x line 1 ⨟ (one (As (i.Binary op)) line 2 ⨟ one (As (i.SetLocal n)) line 1)))
code-UpdateLocal op n x line out cont = of_kind (TKind-F.UpdateLocal op n x) _ line out cont (k.rolls-UpdateLocal op n x)

pub code-UpdateAt : (op : BinOp) (q : TPlace) (x : TExpr) (line : ℕ) (out : Option ℕ) (cont : ℕ)
    → code_of_kind (k.UpdateAt op q x) line out cont
    ≡ (place_code q line 0 ⨟ (one (As i.Dup) line 1 ⨟ (one (As (i.Load kind.Int)) line 2
    ⨟ (expr_code x line 2 ⨟ (one (As (i.Binary op)) line 3 ⨟ one (As i.Store) line 2)))))
code-UpdateAt op q x line out cont = of_kind (TKind-F.UpdateAt op q x) _ line out cont (k.rolls-UpdateAt op q x)

pub code-Call : (x : TExpr) (line : ℕ) (out : Option ℕ) (cont : ℕ)
    → code_of_kind (k.Call x) line out cont ≡ (expr_code x line 0 ⨟ one (As i.Drop) line 1)
code-Call x line out cont = of_kind (TKind-F.Call x) _ line out cont (k.rolls-Call x)

pub code-Print : (format : List Piece) (xs : List TExpr) (line : ℕ) (out : Option ℕ) (cont : ℕ)
    → code_of_kind (k.Print format xs) line out cont ≡ (exprs_code xs line 0 ⨟ one (PrintOf format (length xs)) line (length xs))
code-Print format xs line out cont = of_kind (TKind-F.Print format xs) _ line out cont (k.rolls-Print format xs)

pub code-If : (x : TExpr) (a : TStmt) (b : Option TStmt) (line : ℕ) (out : Option ℕ) (cont : ℕ)
    → code_of_kind (k.If x a b) line out cont ≡ (expr_code x line 0 ⨟ either_code line a b out cont)
code-If x a (Some b) line out cont = of_kind (TKind-F.If x a (Some b)) _ line out cont (k.rolls-If x a (Some b))
code-If x a None line out cont = of_kind (TKind-F.If x a None) _ line out cont (k.rolls-If x a None)

pub code-While : (x : TExpr) (a : TStmt) (line : ℕ) (out : Option ℕ) (cont : ℕ)
    → code_of_kind (k.While x a) line out cont ≡ loop_code line (Some x) (stmt_code a) nothing
code-While x a line out cont = of_kind (TKind-F.While x a) _ line out cont (k.rolls-While x a)

pub code-For : (first : Option TStmt) (test : Option TExpr) (third : Option TStmt) (body : TStmt) (line : ℕ) (out : Option ℕ) (cont : ℕ)
    → code_of_kind (k.For first test third body None) line out cont
    ≡ (part_code first out cont ⨟ loop_code line test (stmt_code body) (part_code third out cont))
code-For (Some a) test (Some b) body line out cont = of_kind (TKind-F.For (Some a) test (Some b) body None) _ line out cont
    (k.rolls-For (Some a) test (Some b) body None)
code-For (Some a) test None body line out cont = of_kind (TKind-F.For (Some a) test None body None) _ line out cont (k.rolls-For (Some a) test None body None)
code-For None test (Some b) body line out cont = of_kind (TKind-F.For None test (Some b) body None) _ line out cont (k.rolls-For None test (Some b) body None)
code-For None test None body line out cont = of_kind (TKind-F.For None test None body None) _ line out cont (k.rolls-For None test None body None)

pub code-Annotated : (first : Option TStmt) (test : Option TExpr) (third : Option TStmt) (body : TStmt) (n line : ℕ) (out : Option ℕ) (cont : ℕ)
    → code_of_kind (k.For first test third body (Some n)) line out cont ≡ annotated_code line n (start_of first) (bound_of test) (stmt_code body)
code-Annotated (Some a) test third body n line out cont = of_kind (TKind-F.For (Some a) test third body (Some n)) _ line out cont
    (k.rolls-For (Some a) test third body (Some n))
code-Annotated None test third body n line out cont = of_kind (TKind-F.For None test third body (Some n)) _ line out cont
    (k.rolls-For None test third body (Some n))

pub code-Return : (x : Option TExpr) (line : ℕ) (out : Option ℕ) (cont : ℕ)
    → code_of_kind (k.Return x) line out cont ≡ (result_code x line ⨟ one (As i.Return) line 1)
code-Return x line out cont = of_kind (TKind-F.Return x) _ line out cont (k.rolls-Return x)

pub code-Break : (line : ℕ) (out : Option ℕ) (cont : ℕ) → code_of_kind k.Break line out cont ≡ one (out_op out) line 0
code-Break line out cont = of_kind TKind-F.Break _ line out cont k.rolls-Break

pub code-Continue : (line : ℕ) (out : Option ℕ) (cont : ℕ) → code_of_kind k.Continue line out cont ≡ one (JumpTo cont) line 0
code-Continue line out cont = of_kind TKind-F.Continue _ line out cont k.rolls-Continue

-- ---- loops as statements

pub while_lowered : (x : TExpr) (a : TStmt) (line : ℕ) (out : Option ℕ) (cont : ℕ) (old c1 c2 new : Plan) (end next : ℕ) → end ≡ length old
    → c1 ≡ planned (JumpTo 0) line 0 ∷ old → next ≡ length c1 → c2 ≡ emits (stmt_code a (Some end) next) c1 → new ≡ headed line (Some x) end c2
    → new ≡ emits (code_of_kind (k.While x a) line out cont) old
while_lowered x a line out cont old c1 c2 new end next en e1 ec e2 now =
    loop_closed line (Some x) (stmt_code a) nothing old c1 c1 c2 new end next en e1 (sym (emits-nothing c1)) ec e2 now
    ∙ ap (λ (c : Emit). emits c old) (sym (code-While x a line out cont))

pub for_lowered : (first : Option TStmt) (test : Option TExpr) (third : Option TStmt) (body : TStmt) (number : Option ℕ) (line : ℕ) (out : Option ℕ)
    (cont : ℕ)
    (old c1 c2 c3 c4 new : Plan) (end next : ℕ) → number ≡ None → end ≡ length old
    → c1 ≡ planned (JumpTo 0) line 0 ∷ old → c2 ≡ emits (part_code third out cont) c1 → next ≡ length c2
    → c3 ≡ emits (stmt_code body (Some end) next) c2 → c4 ≡ headed line test end c3 → new ≡ emits (part_code first out cont) c4
    → new ≡ emits (code_of_kind (k.For first test third body number) line out cont) old
for_lowered first test third body number line out cont old c1 c2 c3 c4 new end next none en e1 e2 ec e3 e4 now =
    now
    ∙ ap (emits (part_code first out cont)) (loop_closed line test (stmt_code body) (part_code third out cont) old c1 c2 c3 c4 end next en e1 e2 ec e3 e4)
    ∙ sym (emits-seq (part_code first out cont) (loop_code line test (stmt_code body) (part_code third out cont)) old)
    ∙ ap (λ (c : Emit). emits c old) (sym (code-For first test third body line out cont))
    ∙ ap (λ n. emits (code_of_kind (k.For first test third body n) line out cont) old) (sym none)

emits-trips : (line n counter : ℕ) (bound : Bound) (body : Ended) (old : Plan)
    → emits (trips_code line n counter bound body) old
    ≡ planned (LoopTo n counter bound (length old)) line 1 ∷ emits (body None (suc (length old))) (planned (EndOf n) line 0 ∷ old)
unfolding emits
emits-trips line n counter bound body old =
    ap (λ l. planned (LoopTo n counter bound (length old)) line 1 ∷ l)
    (append_assoc (body None (suc (length old)) (suc (length old))) (planned (EndOf n) line 0 ∷ []) old)

pub annotated_lowered : (first : Option TStmt) (test : Option TExpr) (third : Option TStmt) (body : TStmt) (number : Option ℕ) (line : ℕ) (out : Option ℕ)
    (cont : ℕ) (n : ℕ) (start : Start) (bound : Bound) (old c1 c2 c3 new : Plan) (after next : ℕ) → number ≡ Some n → start_of first ≡ Some start
    → bound ≡ bound_of test → after ≡ length old → c1 ≡ planned (EndOf n) line 0 ∷ old → next ≡ length c1
    → c2 ≡ emits (stmt_code body None next) c1 → c3 ≡ planned (LoopTo n start.counter bound after) line 1 ∷ c2
    → new ≡ emits (expr_code start.value start.line 0) c3
    → new ≡ emits (code_of_kind (k.For first test third body number) line out cont) old
annotated_lowered first test third body number line out cont n start bound old c1 c2 c3 new after next is starts bounds en e1 ec e2 e3 now =
    let trips = trips_code line n start.counter bound (stmt_code body) in
    let all : c3 ≡ emits trips old =
    e3 ∙ (λ j. planned (LoopTo n start.counter bound (en j)) line 1 ∷ (e2 ∙ (λ j. emits (stmt_code body None (ec j)) c1)
    ∙ ap (λ c. emits (stmt_code body None (length c)) c) e1) j)
    ∙ sym (emits-trips line n start.counter bound (stmt_code body) old) in
    now
    ∙ ap (emits (expr_code start.value start.line 0)) all
    ∙ sym (emits-seq (expr_code start.value start.line 0) trips old)
    ∙ ap (λ b. emits (annotated_code line n (Some start) b (stmt_code body)) old) bounds
    ∙ ap (λ s. emits (annotated_code line n s (bound_of test) (stmt_code body)) old) (sym starts)
    ∙ ap (λ (c : Emit). emits c old) (sym (code-Annotated first test third body n line out cont))
    ∙ ap (λ m. emits (code_of_kind (k.For first test third body m) line out cont) old) (sym is)

pub no_start_lowered : (first : Option TStmt) (test : Option TExpr) (third : Option TStmt) (body : TStmt) (number : Option ℕ) (line : ℕ) (out : Option ℕ)
    (cont n : ℕ) (old : Plan) → number ≡ Some n → start_of first ≡ None → old ≡ emits (code_of_kind (k.For first test third body number) line out cont) old
no_start_lowered first test third body number line out cont n old is none =
    sym (emits-nothing old)
    ∙ ap (λ s. emits (annotated_code line n s (bound_of test) (stmt_code body)) old) (sym none)
    ∙ ap (λ (c : Emit). emits c old) (sym (code-Annotated first test third body n line out cont))
    ∙ ap (λ m. emits (code_of_kind (k.For first test third body m) line out cont) old) (sym is)

pub update_lowered : (op : BinOp) (n : ℕ) (x : TExpr) (line : ℕ) (old c1 c2 c3 new : Plan) → c1 ≡ planned (As (i.SetLocal n)) line 1 ∷ old
    → c2 ≡ planned (As (i.Binary op)) line 2 ∷ c1 → c3 ≡ emits (expr_code x line 1) c2 → new ≡ planned (As (i.GetLocal n)) line 0 ∷ c3
    → new ≡ emits (one (As (i.GetLocal n)) line 0 ⨟ (expr_code x line 1 ⨟ (one (As (i.Binary op)) line 2 ⨟ one (As (i.SetLocal n)) line 1))) old
update_lowered op n x line old c1 c2 c3 new e1 e2 e3 now =
    now
    ∙ ap (λ l. planned (As (i.GetLocal n)) line 0 ∷ l) (e3 ∙ ap (emits (expr_code x line 1)) (e2 ∙ ap (λ l. planned (As (i.Binary op)) line 2 ∷ l) e1))
    ∙ sym (emits-update (As (i.GetLocal n)) (As (i.Binary op)) (As (i.SetLocal n)) (expr_code x line 1) line 0 2 1 old)

-- ---- choices

pub if_lowered : (x : TExpr) (a b : TStmt) (o : Option TStmt) (line : ℕ) (out : Option ℕ) (cont : ℕ) (old c1 c2 c3 c4 c5 : Plan) (end second : ℕ)
    → o ≡ Some b → end ≡ length old → c1 ≡ emits (stmt_code b out cont) old → second ≡ length c1 → c2 ≡ planned (JumpTo end) line 0 ∷ c1
    → c3 ≡ emits (stmt_code a out cont) c2 → c4 ≡ planned (JumpIfTo false second) line 1 ∷ c3 → c5 ≡ emits (expr_code x line 0) c4
    → c5 ≡ emits (code_of_kind (k.If x a o) line out cont) old
if_lowered x a b o line out cont old c1 c2 c3 c4 c5 end second is en e1 es e2 e3 e4 e5 =
    let pa = stmt_code a out cont in
    let pb = stmt_code b out cont in
    e5 ∙ ap (λ l. emits (expr_code x line 0) l)
    (e4 ∙ (λ j. planned (JumpIfTo false (es j)) line 1 ∷ (e3 ∙ ap (λ l. emits pa l) (e2 ∙ (λ j. planned (JumpTo (en j)) line 0 ∷ c1))) j))
    ∙ ap (λ c. emits (expr_code x line 0) (planned (JumpIfTo false (length c)) line 1 ∷ emits pa (planned (JumpTo (length old)) line 0 ∷ c))) e1
    ∙ ap (λ l. emits (expr_code x line 0) l) (sym (emits-if line pa pb old))
    ∙ sym (emits-seq (expr_code x line 0) (if_code line pa pb) old)
    ∙ ap (λ o. emits (expr_code x line 0 ⨟ either_code line a o out cont) old) (sym is)
    ∙ ap (λ (c : Emit). emits c old) (sym (code-If x a o line out cont))

pub when_lowered : (x : TExpr) (a : TStmt) (o : Option TStmt) (line : ℕ) (out : Option ℕ) (cont : ℕ) (old c1 c2 c3 : Plan) (end : ℕ) → o ≡ None
    → end ≡ length old → c1 ≡ emits (stmt_code a out cont) old → c2 ≡ planned (JumpIfTo false end) line 1 ∷ c1 → c3 ≡ emits (expr_code x line 0) c2
    → c3 ≡ emits (code_of_kind (k.If x a o) line out cont) old
when_lowered x a o line out cont old c1 c2 c3 end is en e1 e2 e3 =
    let pa = stmt_code a out cont in
    e3 ∙ ap (λ l. emits (expr_code x line 0) l) (e2 ∙ (λ j. planned (JumpIfTo false (en j)) line 1 ∷ e1 j) ∙ sym (emits-when line pa old))
    ∙ sym (emits-seq (expr_code x line 0) (when_code line pa) old)
    ∙ ap (λ o. emits (expr_code x line 0 ⨟ either_code line a o out cont) old) (sym is)
    ∙ ap (λ (c : Emit). emits c old) (sym (code-If x a o line out cont))

-- ---- the rules

pub ruleset update_codes = (emits-update, emits-update_at)

pub ruleset kind_codes = (
  if_lowered,
  when_lowered,
  code-stmt,
  code-Empty,
  code-SetLocal,
  code-Store,
  code-UpdateLocal,
  code-UpdateAt,
  code-Call,
  code-Print,
  code-Return,
  code-Break,
  code-Continue,
  code-Block,
  emits-nothing,
  emits-seq,
  emits-one,
)
