-- The lists of code show what is planned.
use Rattle.std.proofs.Common.{◌≡◌, ℕ, zero, suc, ◌+◌, ◌-◌, List, [], ◌∷◌, ◌++◌, length, map, Some, refl, sym, ap, ◌∙◌, subst, append-nil, append_assoc, length-append, arith}
use Rattle.std.specs.Prelude.{slice_get, option_map}
use Rattle.std.proofs.lemmas.Option.{slice_get-map}
use Rattle.al_source.specs.declared.texts.Piece.{Piece}
use Rattle.al_core.specs.declared.choices.LoopInfo.{LoopInfo}
use Rattle.al_core.specs.declared.typed_tree.TFunc.{TFunc}
use Rattle.al_core.specs.declared.typed_tree.Typed.{Typed}
use Rattle.al_rules.specs.Names.{AllOf, more}
use Rattle.al_rules_laws.proofs.Logic.{some_is}
use Rattle.al_code.specs.declared.instructions.Instr.{Instr}
use Rattle.al_code.specs.declared.instructions.Instr.TheVariants as i
use Rattle.al_code.specs.declared.lowered.Body.{Body}
use Rattle.al_code.specs.declared.lowered.Code.{Code}
use Rattle.al_code.specs.declared.lowered.Entry.{Entry}
use Rattle.al_code_laws.specs.declared.plan.Op.{Op}
use Rattle.al_code_laws.specs.declared.plan.Op.TheVariants.{As, JumpTo, JumpIfTo, CallOf, PrintOf, LoopTo, EndOf, Never}
use Rattle.al_code_laws.specs.declared.plan.Planned.{Planned}
use Rattle.al_code_laws.specs.Planned.{Plan, past, place_of, ShowsOp, Shows, Has}
use Rattle.al_code_laws.specs.Tree.{function_code}
use Rattle.al_code_laws.specs.Laid.{LiesAt}
use Rattle.al_code_laws.proofs.Leads.{past_append, has_front, has_back}
use Rattle.al_lower.specs.declared.assembly.Parts.{Parts}
use Rattle.al_lower.specs.Emits.{program_code}
use Rattle.al_lower.specs.Assembly.{instr_of, text_in, body_in, no_parts, with_planned, assembled, entries_from_end, turned, code_by_plan}
use Rattle.al_lower.specs.Fine.{IsFine, number_in, numbers_of}

-- ---- lists

pub get_seam : {A : Type 0} (a : List A) (x : A) (b : List A) → slice_get (a ++ x ∷ b) (length a) ≡ Some x
get_seam [] x b = refl
get_seam (y ∷ a) x b = get_seam a x b

pub map_length : {A B : Type 0} (f : A → B) (xs : List A) → length (map f xs) ≡ length xs
map_length f [] = refl
map_length f (x ∷ xs) = ap suc (map_length f xs)

pub past_length : (ps : Plan) → past ps 0 ≡ length ps
past_length [] = refl
past_length (p ∷ ps) = ap suc (past_length ps)

-- ---- the lists of a plan

module _ (total : ℕ) where
  instrs_from : ℕ → Plan → List Instr
  instrs_from t [] = []
  instrs_from t (p ∷ ps) = instr_of total t p.op ∷ instrs_from (t + length (text_in p.op)) ps

  abbrev texts_of : Plan → List (List Piece)
  texts_of [] = []
  texts_of (p ∷ ps) = text_in p.op ++ texts_of ps

  abbrev bodies_of : Plan → List Body
  bodies_of [] = []
  bodies_of (p ∷ ps) = body_in total (length ps) p.op ++ bodies_of ps

  record Assembly (parts : Parts) (ps : Plan) (r : Parts) : Type 0 where
    instrs : r.instrs ≡ parts.instrs ++ instrs_from (length parts.texts) ps
    lines : r.lines ≡ parts.lines ++ map (λ p. p.line) ps
    heights : r.heights ≡ parts.heights ++ map (λ p. p.height) ps
    texts : r.texts ≡ parts.texts ++ texts_of ps
    bodies : r.bodies ≡ parts.bodies ++ bodies_of ps

  assembled_is : (ps : Plan) (parts : Parts) → Assembly parts ps (assembled total ps parts)
  unfolding instrs_from
  assembled_is [] parts = record {
    instrs = sym (append-nil parts.instrs);
    lines = sym (append-nil parts.lines);
    heights = sym (append-nil parts.heights);
    texts = sym (append-nil parts.texts);
    bodies = sym (append-nil parts.bodies);
  }
  assembled_is (p ∷ ps) parts =
      let q = with_planned total (length ps) p parts in
      let h = assembled_is ps q in
      record {
        instrs = h.instrs ∙ append_assoc parts.instrs (instr_of total (length parts.texts) p.op ∷ []) (instrs_from (length q.texts) ps)
            ∙ ap (λ n. parts.instrs ++ instr_of total (length parts.texts) p.op ∷ instrs_from n ps) (length-append parts.texts (text_in p.op));
        lines = h.lines ∙ append_assoc parts.lines (p.line ∷ []) (map (λ p. p.line) ps);
        heights = h.heights ∙ append_assoc parts.heights (p.height ∷ []) (map (λ p. p.height) ps);
        texts = h.texts ∙ append_assoc parts.texts (text_in p.op) (texts_of ps);
        bodies = h.bodies ∙ append_assoc parts.bodies (body_in total (length ps) p.op) (bodies_of ps);
      }

  instrs_length : (t : ℕ) (ps : Plan) → length (instrs_from t ps) ≡ length ps
  unfolding instrs_from
  instrs_length t [] = refl
  instrs_length t (p ∷ ps) = ap suc (instrs_length (t + length (text_in p.op)) ps)

  instr_seam : (pre : Plan) (t : ℕ) (p : Planned) (ps : Plan)
      → slice_get (instrs_from t (pre ++ p ∷ ps)) (length pre) ≡ Some (instr_of total (t + length (texts_of pre)) p.op)
  unfolding instrs_from
  instr_seam [] t p ps = let e : t ≡ t + 0 = omega arith in ap (λ n. Some (instr_of total n p.op)) e
  instr_seam (q ∷ pre) t p ps =
      let s = length-append (text_in q.op) (texts_of pre) in
      let e : t + length (text_in q.op) + length (texts_of pre) ≡ t + length (texts_of (q ∷ pre)) = omega arith in
      instr_seam pre (t + length (text_in q.op)) p ps ∙ ap (λ n. Some (instr_of total n p.op)) e

  value_seam : {A : Type 0} (f : Planned → A) (pre : Plan) (p : Planned) (ps : Plan) → slice_get (map f (pre ++ p ∷ ps)) (length pre) ≡ Some (f p)
  value_seam f [] p ps = refl
  value_seam f (q ∷ pre) p ps = value_seam f pre p ps

  texts_append : (a b : Plan) → texts_of (a ++ b) ≡ texts_of a ++ texts_of b
  texts_append [] b = refl
  texts_append (p ∷ a) b = ap (λ l. text_in p.op ++ l) (texts_append a b) ∙ sym (append_assoc (text_in p.op) (texts_of a) (texts_of b))

  text_seam : (pre : Plan) (p : Planned) (ps : Plan) (format : List Piece) → text_in p.op ≡ format ∷ []
      → slice_get (texts_of (pre ++ p ∷ ps)) (length (texts_of pre)) ≡ Some format
  text_seam pre p ps format e =
      ap (λ l. slice_get l (length (texts_of pre))) (texts_append pre (p ∷ ps) ∙ ap (λ l. texts_of pre ++ (l ++ texts_of ps)) e)
      ∙ get_seam (texts_of pre) format (texts_of ps)

  -- the loops of a plan, each with its number
  abbrev loop_in : ℕ → Op → List (ℕ × Body)
  loop_in left (LoopTo k counter bound after) = (k, record { start = total - left; end = total - after }) ∷ []
  loop_in left _ = []

  abbrev loops_of : Plan → List (ℕ × Body)
  loops_of [] = []
  loops_of (p ∷ ps) = loop_in (length ps) p.op ++ loops_of ps

  more_bodies : (ps : Plan) → map (λ x. x.1) (loops_of ps) ≡ bodies_of ps → (op : Op)
      → map (λ x. x.1) (loop_in (length ps) op ++ loops_of ps) ≡ body_in total (length ps) op ++ bodies_of ps
  more_bodies ps h (As x) = h
  more_bodies ps h (JumpTo to) = h
  more_bodies ps h (JumpIfTo b to) = h
  more_bodies ps h (CallOf f count) = h
  more_bodies ps h (PrintOf format count) = h
  more_bodies ps h (LoopTo k counter bound after) = λ j. record { start = total - length ps; end = total - after } ∷ h j
  more_bodies ps h (EndOf k) = h
  more_bodies ps h Never = h

  loops_bodies : (ps : Plan) → map (λ x. x.1) (loops_of ps) ≡ bodies_of ps
  loops_bodies [] = refl
  loops_bodies (p ∷ ps) = more_bodies ps (loops_bodies ps) p.op

  more_numbers : (ps : Plan) → map (λ x. x.0) (loops_of ps) ≡ numbers_of ps → (op : Op)
      → map (λ x. x.0) (loop_in (length ps) op ++ loops_of ps) ≡ number_in op ++ numbers_of ps
  more_numbers ps h (As x) = h
  more_numbers ps h (JumpTo to) = h
  more_numbers ps h (JumpIfTo b to) = h
  more_numbers ps h (CallOf f count) = h
  more_numbers ps h (PrintOf format count) = h
  more_numbers ps h (LoopTo k counter bound after) = λ j. k ∷ h j
  more_numbers ps h (EndOf k) = h
  more_numbers ps h Never = h

  loops_numbers : (ps : Plan) → map (λ x. x.0) (loops_of ps) ≡ numbers_of ps
  loops_numbers [] = refl
  loops_numbers (p ∷ ps) = more_numbers ps (loops_numbers ps) p.op

  -- those of the end of a plan come last
  before : (pre rest : Plan) → (a : List (ℕ × Body)) × (loops_of (pre ++ rest) ≡ a ++ loops_of rest)
  before [] rest = ([], refl)
  before (p ∷ pre) rest =
      let h = before pre rest in
      let own = loop_in (length (pre ++ rest)) p.op in
      (own ++ h.0, ap (λ l. own ++ l) h.1 ∙ sym (append_assoc own h.0 (loops_of rest)))

-- ---- what the code shows

-- each loop is planned in its place
abbrev pub InOrder : Plan → Type 0
InOrder plan = (j k : ℕ) → slice_get (numbers_of plan) j ≡ Some k → k ≡ j

abbrev pub Usable : Typed → List LoopInfo → Planned → Type 0
Usable typed infos p = (n : ℕ) × IsFine typed infos n p.op

module _ (typed : Typed) (infos : List LoopInfo) (plan : Plan) (ordered : InOrder plan) where
  abbrev total : ℕ
  total = length plan

  abbrev code : Code
  code = code_by_plan plan typed infos

  abbrev lists : Assembly total no_parts plan (assembled total plan no_parts)
  lists = assembled_is total plan no_parts

  pub size : length code.instrs ≡ length plan
  size = ap length lists.instrs ∙ instrs_length total 0 plan

  pub lines_size : length code.lines ≡ length plan
  lines_size = ap length lists.lines ∙ map_length (λ (p : Planned). p.line) plan

  pub heights_size : length code.heights ≡ length plan
  heights_size = ap length lists.heights ∙ map_length (λ (p : Planned). p.height) plan

  pub bodies_size : length code.bodies ≡ length (numbers_of plan)
  bodies_size =
      ap length (lists.bodies ∙ sym (loops_bodies total plan)) ∙ map_length (λ (x : ℕ × Body). x.1) (loops_of total plan)
      ∙ sym (map_length (λ (x : ℕ × Body). x.0) (loops_of total plan)) ∙ ap length (loops_numbers total plan)

  -- an entry has its function's numbers
  pub entry_at : (fs : List TFunc) (n f : ℕ) (fn : TFunc) → slice_get fs f ≡ Some fn
      → (e : Entry) × (slice_get (map (turned total) (entries_from_end fs n)) f ≡ Some e) × (e.params ≡ fn.params) × (e.locals ≡ length fn.locals)
  entry_at [] n f fn at = absurd cc
  entry_at (g ∷ fs) n zero fn at =
      let same : g ≡ fn = some_is at in
      (_, refl, ap (λ (f : TFunc). f.params) same, ap (λ (f : TFunc). length f.locals) same)
  entry_at (g ∷ fs) n (suc f) fn at = entry_at fs n f fn at

  module _ (pre : Plan) (p : Planned) (ps : Plan) (is : pre ++ p ∷ ps ≡ plan) where
    place : place_of code (suc (length ps)) ≡ length pre
    place =
        let l = ap length is in
        let m = length-append pre (p ∷ ps) in
        let s = size in
        omega arith

    instr_here : slice_get code.instrs (place_of code (suc (length ps))) ≡ Some (instr_of total (length (texts_of total pre)) p.op)
    instr_here =
        (λ j. slice_get (lists.instrs j) (place j))
        ∙ ap (λ l. slice_get (instrs_from total 0 l) (length pre)) (sym is)
        ∙ instr_seam total pre 0 p ps
        ∙ (let e : 0 + length (texts_of total pre) ≡ length (texts_of total pre) = omega arith in ap (λ n. Some (instr_of total n p.op)) e)

    line_here : slice_get code.lines (place_of code (suc (length ps))) ≡ Some p.line
    line_here =
        (λ j. slice_get (lists.lines j) (place j))
        ∙ ap (λ l. slice_get (map (λ p. p.line) l) (length pre)) (sym is)
        ∙ value_seam total (λ p. p.line) pre p ps

    height_here : slice_get code.heights (place_of code (suc (length ps))) ≡ Some p.height
    height_here =
        (λ j. slice_get (lists.heights j) (place j))
        ∙ ap (λ l. slice_get (map (λ p. p.height) l) (length pre)) (sym is)
        ∙ value_seam total (λ p. p.height) pre p ps

    text_here : (format : List Piece) → text_in p.op ≡ format ∷ [] → slice_get code.texts (length (texts_of total pre)) ≡ Some format
    text_here format e =
        ap (λ l. slice_get l (length (texts_of total pre))) (lists.texts ∙ ap (texts_of total) (sym is)) ∙ text_seam total pre p ps format e

    body_here : (k : ℕ) (b : Body) → loop_in total (length ps) p.op ≡ (k, b) ∷ [] → slice_get code.bodies k ≡ Some b
    body_here k b e =
        let h = before total pre (p ∷ ps) in
        let all : loops_of total plan ≡ h.0 ++ (k, b) ∷ loops_of total ps = ap (loops_of total) (sym is) ∙ h.1
        ∙ ap (λ l. h.0 ++ (l ++ loops_of total ps)) e in
        let at : slice_get (loops_of total plan) (length h.0) ≡ Some (k, b) = ap (λ l. slice_get l (length h.0)) all
        ∙ get_seam h.0 (k, b) (loops_of total ps) in
        let number : slice_get (numbers_of plan) (length h.0) ≡ Some k =
        ap (λ l. slice_get l (length h.0)) (sym (loops_numbers total plan))
        ∙ slice_get-map (λ x. x.0) (loops_of total plan) (length h.0) ∙ ap (option_map (λ x. x.0)) at in
        let there : slice_get code.bodies (length h.0) ≡ Some b =
        ap (λ l. slice_get l (length h.0)) (lists.bodies ∙ sym (loops_bodies total plan))
        ∙ slice_get-map (λ x. x.1) (loops_of total plan) (length h.0) ∙ ap (option_map (λ x. x.1)) at in
        ap (slice_get code.bodies) (ordered (length h.0) k number) ∙ there

    place_is : (n : ℕ) → total - n ≡ place_of code n
    place_is n = ap (λ m. m - n) (sym size)

    shows_op : (op : Op) → p.op ≡ op → (locals : ℕ) → IsFine typed infos locals op → ShowsOp code (length ps) op
    shows_op (As x) e locals f = instr_here ∙ ap (λ op. Some (instr_of total (length (texts_of total pre)) op)) e
    shows_op (JumpTo to) e locals f =
        instr_here ∙ ap (λ op. Some (instr_of total (length (texts_of total pre)) op)) e ∙ ap (λ n. Some (i.Jump n)) (place_is to)
    shows_op (JumpIfTo b to) e locals f =
        instr_here ∙ ap (λ op. Some (instr_of total (length (texts_of total pre)) op)) e ∙ ap (λ n. Some (i.JumpIf b n)) (place_is to)
    shows_op (CallOf f count) e locals fine =
        let h = entry_at typed.funcs 0 f fine.func fine.has in
        record {
          instr = instr_here ∙ ap (λ op. Some (instr_of total (length (texts_of total pre)) op)) e;
          entry = h.0;
          has_entry = h.1;
          takes = h.2 ∙ fine.takes;
        }
    shows_op (PrintOf format count) e locals fine = record {
      number = length (texts_of total pre);
      instr = instr_here ∙ ap (λ op. Some (instr_of total (length (texts_of total pre)) op)) e;
      has_text = text_here format (ap text_in e);
      takes = fine;
    }
    shows_op (LoopTo k counter bound after) e locals fine = record {
      instr = instr_here ∙ ap (λ op. Some (instr_of total (length (texts_of total pre)) op)) e;
      info = fine.info;
      has_info = fine.has;
      counts = fine.counts;
      bounds = fine.bounds;
      body = record { start = total - length ps; end = total - after };
      has_body = body_here k (record { start = total - length ps; end = total - after }) (ap (loop_in total (length ps)) e);
      starts = place_is (length ps);
      ends = place_is after;
    }
    shows_op (EndOf k) e locals f = instr_here ∙ ap (λ op. Some (instr_of total (length (texts_of total pre)) op)) e
    shows_op Never e locals fine = absurd fine

    shows : Usable typed infos p → Shows code (past ps 0) p
    shows u =
        let l = ap length is in
        let m = length-append pre (p ∷ ps) in
        let s = size in
        subst (λ n. Shows code n p) (sym (past_length ps)) (record {
          within = omega arith;
          at_line = line_here;
          at_height = height_here;
          op = shows_op p.op refl u.0 u.1;
        })

  has_from : (pre ps : Plan) → pre ++ ps ≡ plan → AllOf (Usable typed infos) ps → Has code 0 ps
  has_from pre [] is all = tt
  has_from pre (p ∷ ps) is (more u us) =
      (shows pre p ps is u, has_from (pre ++ p ∷ []) ps (append_assoc pre (p ∷ []) ps ∙ is) us)

  pub has_all : AllOf (Usable typed infos) plan → Has code 0 plan
  has_all us = has_from [] plan refl us

  -- functions lie where their entries say
  pub functions_lie : (fs : List TFunc) (n : ℕ) → Has code n (program_code fs n) → (f : ℕ)
      → LiesAt code (slice_get fs f) (slice_get (map (turned total) (entries_from_end fs n)) f)
  functions_lie [] n has f = tt
  functions_lie (g ∷ fs) n has zero =
      let rest = program_code fs n in
      let own = function_code g (past rest n) in
      record {
        after = past rest n;
        has = has_front code n own rest has;
        starts = ap (λ m. m - past (own ++ rest) n) (sym size) ∙ ap (place_of code) (past_append own rest n);
        ends = ap (λ m. m - past rest n) (sym size);
        params = refl;
        locals = refl;
      }
  functions_lie (g ∷ fs) n has (suc f) =
      functions_lie fs n (has_back code n (function_code g (past (program_code fs n) n)) (program_code fs n) has) f
