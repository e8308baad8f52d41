-- The code of functions, as it is written in front of what is there.
use Rattle.std.proofs.Common.{◌≡◌, ℕ, suc, ◌+◌, ◌-◌, ◌<◌, ◌≤◌, append_assoc, List, [], ◌∷◌, ◌++◌, length, map, Some, refl, sym, ap, ◌∙◌, arith, get_or}
use Rattle.std.specs.Prelude.{pos, drop, reverse}
use Rattle.std.proofs.lemmas.List.{drop_all, drop_more, reverse-append}
use Rattle.al_core.specs.declared.choices.LoopInfo.{LoopInfo}
use Rattle.al_core.specs.declared.typed_tree.TFunc.{TFunc}
use Rattle.al_core.specs.declared.typed_tree.TGlobal.{TGlobal}
use Rattle.al_core.specs.declared.typed_tree.Typed.{Typed}
use Rattle.al_code.specs.declared.instructions.Instr.TheVariants as i
use Rattle.al_code.specs.declared.lowered.Entry.{Entry}
use Rattle.al_code_laws.specs.declared.plan.Op.TheVariants.{As}
use Rattle.al_code_laws.specs.Planned.{planned, Plan, past}
use Rattle.al_code_laws.specs.Tree.{stmts_code, function_code}
use Rattle.al_lower.specs.Emits.{emits, program_code}
use Rattle.al_lower.specs.declared.assembly.Parts.{Parts}
use Rattle.al_lower.specs.Assembly.{entries_from_end, no_parts, assembled, turned, with_parts, code_by_plan, code_of}

pub function_lowered : (f : TFunc) (old c1 c2 new : Plan) (end : ℕ) → c1 ≡ planned (As i.Return) f.line 1 ∷ old
    → c2 ≡ planned (As (i.Push (pos 0))) f.line 0 ∷ c1 → end ≡ length c2 → new ≡ emits (stmts_code f.body (Some end) end) c2
    → new ≡ emits (function_code f) old
unfolding emits
function_lowered f old c1 c2 new end e1 e2 en now =
    let tail = planned (As (i.Push (pos 0))) f.line 0 ∷ planned (As i.Return) f.line 1 ∷ [] in
    let all : c2 ≡ tail ++ old = e2 ∙ ap (λ l. planned (As (i.Push (pos 0))) f.line 0 ∷ l) e1 in
    now
    ∙ (λ j. emits (stmts_code f.body (Some (en j)) (en j)) c2)
    ∙ ap (λ c. emits (stmts_code f.body (Some (length c)) (length c)) c) all
    ∙ sym (append_assoc (stmts_code f.body (Some (suc (suc (length old)))) (suc (suc (length old))) (suc (suc (length old)))) tail old)

abbrev entry_here : TFunc → List TFunc → Entry
entry_here f fs = record {
  start = past (program_code (f ∷ fs) 0) 0;
  end = past (program_code fs 0) 0;
  params = f.params;
  locals = length f.locals;
}

past_length : (ps : Plan) → past ps 0 ≡ length ps
past_length [] = refl
past_length (p ∷ ps) = ap suc (past_length ps)

pub functions_start : (fs : List TFunc) → [] ≡ program_code (drop (length fs) fs) 0
functions_start fs = ap (λ fs. program_code fs 0) (sym (drop_all (length fs) fs (omega arith)))

pub entries_start : (fs : List TFunc) → [] ≡ entries_from_end (drop (length fs) fs) 0
entries_start fs = ap (λ fs. entries_from_end fs 0) (sym (drop_all (length fs) fs (omega arith)))

-- the functions from one on
from_here : (fs : List TFunc) (n : ℕ) (f : TFunc) → 0 < n → n ≤ length fs → f ≡ get_or fs (n - 1) f → f ∷ drop n fs ≡ drop (n - 1) fs
from_here fs n f some le is =
    let e : n - 1 + 1 ≡ n = omega arith in
    ap (λ m. f ∷ drop m fs) (sym e) ∙ ap (λ y. y ∷ drop (n - 1 + 1) fs) is ∙ sym (drop_more fs (n - 1) f (omega arith))

pub functions_next : (fs : List TFunc) (n : ℕ) (f : TFunc) (code new : Plan) → 0 < n → n ≤ length fs → f ≡ get_or fs (n - 1) f
    → code ≡ program_code (drop n fs) 0 → new ≡ emits (function_code f) code → new ≡ program_code (drop (n - 1) fs) 0
unfolding emits
functions_next fs n f code new some le is was now =
    let rest = program_code (drop n fs) 0 in
    now
    ∙ ap (emits (function_code f)) was
    ∙ ap (λ m. function_code f m ++ rest) (sym (past_length rest))
    ∙ ap (λ fs. program_code fs 0) (from_here fs n f some le is)

pub entries_next : (fs : List TFunc) (n : ℕ) (f : TFunc) (code new : Plan) (es : List Entry) (e : Entry) → 0 < n → n ≤ length fs → f ≡ get_or fs (n - 1) f
    → code ≡ program_code (drop n fs) 0 → new ≡ emits (function_code f) code
    → e ≡ record { start = length new; end = length code; params = f.params; locals = length f.locals }
    → reverse es ≡ entries_from_end (drop n fs) 0 → reverse (es ++ e ∷ []) ≡ entries_from_end (drop (n - 1) fs) 0
entries_next fs n f code new es e some le is was now entry so =
    let here = from_here fs n f some le is in
    let after = functions_next fs n f code new some le is was now in
    let start : length new ≡ past (program_code (f ∷ drop n fs) 0) 0 =
    ap length after ∙ ap (λ fs. length (program_code fs 0)) (sym here) ∙ sym (past_length (program_code (f ∷ drop n fs) 0)) in
    let end : length code ≡ past (program_code (drop n fs) 0) 0 = ap length was ∙ sym (past_length (program_code (drop n fs) 0)) in
    reverse-append es (e ∷ [])
    ∙ (λ j. (entry ∙ (λ t. record { start = start t; end = end t; params = f.params; locals = length f.locals })) j ∷ so j)
    ∙ ap (λ fs. entries_from_end fs 0) here

-- the whole
pub written : (typed : Typed) (infos copied : List LoopInfo) (funcs : List TFunc) (globals : List TGlobal) (plan : Plan) (es : List Entry) (total : ℕ)
    (parts : Parts) (entries : List Entry) → funcs ≡ typed.funcs → plan ≡ program_code funcs 0 → reverse es ≡ entries_from_end funcs 0
    → total ≡ length plan → parts ≡ assembled total plan no_parts → globals ≡ typed.globals → entries ≡ map (turned total) (reverse es)
    → copied ≡ infos
    → record (with_parts parts typed entries copied) { globals = globals } ≡ code_of typed infos
unfolding code_of
written typed infos copied funcs globals plan es total parts entries is plan_is es_is total_is parts_is globals_is entries_is copied_is =
    let whole : plan ≡ program_code typed.funcs 0 = plan_is ∙ ap (λ fs. program_code fs 0) is in
    let turns : entries ≡ map (turned (length plan)) (entries_from_end typed.funcs 0) =
    entries_is ∙ (λ j. map (turned (total_is j)) (es_is j)) ∙ ap (λ fs. map (turned (length plan)) (entries_from_end fs 0)) is in
    let all : parts ≡ assembled (length plan) plan no_parts = parts_is ∙ ap (λ n. assembled n plan no_parts) total_is in
    (λ j. record (with_parts (all j) typed (turns j) (copied_is j)) { globals = globals_is j })
    ∙ ap (λ p. code_by_plan p typed infos) whole
