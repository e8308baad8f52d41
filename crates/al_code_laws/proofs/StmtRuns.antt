-- The code of a statement does what the statement means.
use Rattle.std.proofs.Common.{◌≡◌, ℕ, zero, suc, ◌+◌, ◌<◌, ◌≤◌, List, [], ◌∷◌, ◌++◌, Option, Some, None, Ok, refl, sym, ap, ◌∙◌, subst, arith}
use Rattle.std.specs.Prelude.{slice_get, false, if◌then◌else◌, ℤ, pos, ◌+ℤ◌}
use Rattle.std.specs.Int.{int_max}
use Rattle.al_core.specs.declared.choices.Bound.{Bound}
use Rattle.al_core.specs.declared.values.Val.{Val}
use Rattle.al_core.specs.declared.values.Val.TheVariants.{Int}
use Rattle.al_core.specs.declared.typed_tree.TExpr.{TExpr}
use Rattle.al_core.specs.World.{World}
use Rattle.al_core.specs.Values.{truth, number, trips}
use Rattle.al_core.specs.Action.{State, Act, At, after, bind, ◌>>=◌, ◌>>◌, pure, lift, spend, get_budget, set_local}
use Rattle.al_core.specs.Meaning.{Flow, Next, Broke, Continued, Returned, Where, Outside, Inside, then_flow, turn_end, turns_to, turns, bound_value, trips_to, annotated, test_value}
use Rattle.al_code.specs.declared.lowered.Body.{Body}
use Rattle.al_code.specs.declared.instructions.Instr.{Instr}
use Rattle.al_code.specs.declared.instructions.Instr.TheVariants as i
use Rattle.al_code.specs.declared.lowered.Code.{Code}
use Rattle.al_code.specs.Machine.{InnerLoop, Caller, Goes, does, trip, begins, loop_at, again_at, iteration_end}
use Rattle.al_code_laws.specs.declared.plan.Op.TheVariants.{As, JumpTo, JumpIfTo, EndOf}
use Rattle.al_code_laws.specs.Planned.{planned, Plan, past, Emit, nothing, one, ◌⨟◌, place_of, HasLoop, Shows, Has}
use Rattle.al_code_laws.specs.Tree.{Ended, expr_code, if_code, when_code, test_code, turn_code, loop_code, trips_code}
use Rattle.al_laws.specs.Budgets.{NeverAdds}
use Rattle.al_laws.proofs.Falls.{value_never_adds}
use Rattle.al_code_laws.proofs.Steps.{step_paid}
use Rattle.al_code_laws.proofs.Leads.{Target, To, Back, Nowhere, has_front, has_back, Leads, leads_pure, leads_bind, leads_same, leads_onward, leads_one, leads_jump, leads_seam, leads_if, spot, at}
use Rattle.al_code_laws.proofs.Moves.{assoc, pure_then, Moves, moves_at, moves_goes, moves_same, moves_bind, moves_stops}
use Rattle.al_code_laws.proofs.ExprRuns.{CallsRun, Runs, value_runs}

module _ {S : Type 0} (world : World S) (here : Where) (input : List ℤ) (code : Code) (callers : List Caller) (room : ℕ) where
  abbrev on : List InnerLoop → ℕ → List Val → Target
  on = at code callers room

  abbrev Gets : {A : Type 0} → State S → Target → Act S A → (A → Target) → Type 0
  Gets = Leads world here input code

  abbrev pub out_to : List InnerLoop → Option ℕ → Target
  out_to inner (Some out) = on inner out []
  out_to inner None = Nowhere

  -- where a statement's code comes to
  abbrev pub flow_to : List InnerLoop → Option ℕ → ℕ → ℕ → Flow → Target
  flow_to inner out cont after Next = on inner after []
  flow_to inner out cont after Broke = out_to inner out
  flow_to inner out cont after Continued = on inner cont []
  flow_to inner out cont after (Returned v) = Back callers room v

  abbrev pub Flows : Option ℕ → ℕ → Emit → Act S Flow → Type 0
  Flows out cont c p = (after : ℕ) → Has code after (c after) → (inner : List InnerLoop) (s : State S)
      → Gets s (on inner (past (c after) after) []) p (flow_to inner out cont after)

  abbrev pub FlowRuns : Ended → Act S Flow → Type 0
  FlowRuns c p = (out : Option ℕ) (cont : ℕ) → Flows out cont (c out cont) p

  -- an operand, and what comes after it
  pub after_value : {A B : Type 0} {show : A → Val} (c rest : Emit) {p : Act S A} (f : A → Act S B) (to : B → Target)
      → Runs world here input code callers room show c p → (after : ℕ) → Has code after ((c ⨟ rest) after)
      → (inner : List InnerLoop) (st : List Val) (s : State S)
      → ((n : A) (t : State S) → Has code after (rest after) → Gets t (on inner (past (rest after) after) (show n ∷ st)) (f n) to)
      → Gets s (on inner (past ((c ⨟ rest) after) after) st) (p >>= f) to
  after_value c rest f to h after has inner st s k =
      let r = rest after in
      let a = c (past r after) in
      leads_seam callers room a r after
      (leads_bind (h (past r after) (has_front code after a r has) inner st s) (λ n _. k n _ (has_back code after a r has)))

  pub flows_nothing : (out : Option ℕ) (cont : ℕ) → Flows out cont nothing (pure Next)
  flows_nothing out cont after has inner s = leads_pure s _ Next refl

  -- an instruction that ends a statement
  pub last : {s : State S} {inner : List InnerLoop} {after : ℕ} {st : List Val} {x : Instr} {line d : ℕ} (out : Option ℕ) (cont : ℕ) (p : Act S (Unit {0}))
      → Shows code after (planned (As x) line d) → ((pc : ℕ) → does world here input code (Some x) line (spot callers room inner pc st) ≡ (p >>=
      (λ a. pure (Goes (spot callers room inner (pc + 1) []))))) → Gets s (on inner (suc after) st) (p >> pure Next) (flow_to inner out cont after)
  last out cont p h e = leads_bind (leads_one callers room (λ u. []) h e) (λ u _. leads_pure _ _ Next refl)

  pub then_run : (inner : List InnerLoop) (out : Option ℕ) (cont m after : ℕ) (q : Act S Flow)
      → ((t : State S) → Gets t (on inner m []) q (flow_to inner out cont after)) → (f : Flow) (t : State S)
      → Gets t (flow_to inner out cont m f) (then_flow q f) (flow_to inner out cont after)
  then_run inner out cont m after q h Next t = h t
  then_run inner out cont m after q h Broke t = leads_pure t _ Broke refl
  then_run inner out cont m after q h Continued t = leads_pure t _ Continued refl
  then_run inner out cont m after q h (Returned v) t = leads_pure t _ (Returned v) refl

  pub flows_then : (out : Option ℕ) (cont : ℕ) (a b : Emit) (p q : Act S Flow) → Flows out cont a p → Flows out cont b q
      → Flows out cont (a ⨟ b) (p >>= then_flow q)
  flows_then out cont a b p q h k after has inner s =
      let cb = b after in
      let ca = a (past cb after) in
      leads_seam callers room ca cb after
      (leads_bind (h (past cb after) (has_front code after ca cb has) inner s) (λ f _.
      then_run inner out cont (past cb after) after q (k after (has_back code after ca cb has) inner) f _))

  -- ---- choices

  pub if_runs : (line : ℕ) (out : Option ℕ) (cont : ℕ) (a b : Emit) (p q : Act S Flow) → Flows out cont a p → Flows out cont b q → (after : ℕ)
      → Has code after (if_code line a b after) → (inner : List InnerLoop) (v : Val) (s : State S)
      → Gets s (on inner (past (if_code line a b after) after) (v ∷ [])) (if truth v then p else q) (flow_to inner out cont after)
  if_runs line out cont a b p q h k after has inner v s =
      let cb = b after in
      let m = past cb after in
      let ca = a (suc m) in
      let rest = planned (JumpTo after) line 0 ∷ cb in
      let hb = has_back code after ca rest has.1 in
      leads_if callers room v has.0
      (leads_seam callers room ca rest after
      (leads_onward (h (suc m) (has_front code after ca rest has.1) inner s) (ends inner m after hb.0)))
      (k after hb.1 inner s)
    where
      ends : (inner : List InnerLoop) (m after : ℕ) → Shows code m (planned (JumpTo after) line 0) → (f : Flow) (t : State S)
          → Gets t (flow_to inner out cont (suc m) f) (pure f) (flow_to inner out cont after)
      ends inner m after h Next t = leads_jump callers room h (leads_pure t _ Next refl)
      ends inner m after h Broke t = leads_pure t _ Broke refl
      ends inner m after h Continued t = leads_pure t _ Continued refl
      ends inner m after h (Returned v) t = leads_pure t _ (Returned v) refl

  pub when_runs : (line : ℕ) (out : Option ℕ) (cont : ℕ) (a : Emit) (p : Act S Flow) → Flows out cont a p → (after : ℕ)
      → Has code after (when_code line a after) → (inner : List InnerLoop) (v : Val) (s : State S)
      → Gets s (on inner (past (when_code line a after) after) (v ∷ [])) (if truth v then p else pure Next) (flow_to inner out cont after)
  when_runs line out cont a p h after has inner v s = leads_if callers room v has.0 (h after has.1 inner s) (leads_pure s _ Next refl)

  -- ---- turns

  test_runs : (call : ℕ → List Val → At S Val) (calls : CallsRun world here input code callers room call) (falls : (f : ℕ) (vs : List Val) (line : ℕ)
      → NeverAdds (call f vs line)) (test : Option TExpr) (line exit after : ℕ) → Has code after (test_code test line exit after)
      → (inner : List InnerLoop) (s : State S) (p q : Act S Flow) (to : Flow → Target)
      → ((t : State S) → t.budget ≤ s.budget → Gets t (on inner after []) p to) → ((t : State S) → Gets t (on inner exit []) q to)
      → Gets s (on inner (past (test_code test line exit after) after) []) (test_value world here input call test line >>= (λ v. if truth v then p else q)) to
  test_runs call calls falls (Some e) line exit after has inner s p q to h k =
      let rest = one (JumpIfTo false exit) line 1 after in
      let c = expr_code e line 0 (suc after) in
      leads_seam callers room c rest after
      (leads_bind (value_runs world here input code callers room call calls e line 0 (suc after) (has_front code after c rest has) inner [] s) (λ v _.
      leads_if callers room v (has_back code after c rest has).0 (h _ (value_never_adds world here input call falls e line s)) (k _)))
  test_runs call calls falls None line exit after has inner s p q to h k = leads_same p _
      (ap (λ (a : Act S Flow). a s) (sym (pure_then (Int (pos 1)) (λ v. if truth v then p else q)))) (h s (omega arith))

  module _ (call : ℕ → List Val → At S Val) (calls : CallsRun world here input code callers room call) (falls : (f : ℕ) (vs : List Val) (line : ℕ)
      → NeverAdds (call f vs line)) where
    module _ (line : ℕ) (test : Option TExpr) (body : Ended) (third : Emit) (p q : Act S Flow) (out : Option ℕ) (cont : ℕ) (body_runs : FlowRuns body p)
        (third_runs : Flows out cont third q) (body_falls : NeverAdds p) (third_falls : NeverAdds q) (after : ℕ)
        (has : Has code after (loop_code line test body third after)) (inner : List InnerLoop) where
      abbrev turn : Plan
      turn = turn_code line test body third after (suc after)

      abbrev head : ℕ
      head = past turn (suc after)

      abbrev back : Plan
      back = planned (JumpTo head) line 0 ∷ []

      abbrev third_at : ℕ
      third_at = past (third (suc after)) (suc after)

      abbrev body_at : Plan
      body_at = body (Some after) third_at third_at

      abbrev tv : Act S Val
      tv = test_value world here input call test line

      has_turn : Has code (suc after) turn
      has_turn = has_front code after turn back has

      has_jump : Shows code after (planned (JumpTo head) line 0)
      has_jump = (has_back code after turn back has).0

      abbrev work : Plan
      work = body_at ++ third (suc after)

      has_work : Has code (suc after) work
      has_work = has_back code (suc after) (test_code test line after (past work (suc after))) work has_turn.1

      -- after the body: the third part and the jump back
      third_run : (again : Act S Flow) (n : ℕ) → ((t : State S) → t.budget < n → Gets t (on inner head []) again (flow_to inner out cont after))
          → (t : State S) → t.budget < n → Gets t (on inner third_at []) (q >>= then_flow again) (flow_to inner out cont after)
      third_run again n h t lt =
          leads_bind (third_runs (suc after) (has_back code (suc after) body_at (third (suc after)) has_work) inner t) (λ f _.
          goes_back f (q t).1 (omega (arith, lt, third_falls t)))
        where
          goes_back : (f : Flow) (t : State S) → t.budget < n
              → Gets t (flow_to inner out cont (suc after) f) (then_flow again f) (flow_to inner out cont after)
          goes_back Next t lt = leads_jump callers room has_jump (h t lt)
          goes_back Broke t lt = leads_pure t _ Broke refl
          goes_back Continued t lt = leads_pure t _ Continued refl
          goes_back (Returned v) t lt = leads_pure t _ (Returned v) refl

      turn_run : (again : Act S Flow) (n : ℕ) → ((t : State S) → t.budget < n → Gets t (on inner head []) again (flow_to inner out cont after))
          → (f : Flow) (t : State S) → t.budget < n → Gets t (flow_to inner (Some after) third_at third_at f) (turn_end (q >>= then_flow again) f)
          (flow_to inner out cont after)
      turn_run again n h Next t lt = third_run again n h t lt
      turn_run again n h Broke t lt = leads_pure t _ Next refl
      turn_run again n h Continued t lt = third_run again n h t lt
      turn_run again n h (Returned v) t lt = leads_pure t _ (Returned v) refl

      turns_run : (n : ℕ) (s : State S) → s.budget < n → Gets s (on inner head []) (turns_to n line tv p q) (flow_to inner out cont after)
      turns_run zero s lt = absurd (omega arith)
      turns_run (suc n) s lt =
          leads_bind (leads_one callers room (λ u. []) has_turn.0 (λ pc. refl)) (λ u paid.
          let less = step_paid line s u paid in
          leads_seam callers room (test_code test line after (past work (suc after))) work (suc after)
          (test_runs call calls falls test line after (past work (suc after))
          (has_front code (suc after) (test_code test line after (past work (suc after))) work has_turn.1) inner (spend line s).1 _ _
          (flow_to inner out cont after)
          (λ t le. leads_seam callers room body_at (third (suc after)) (suc after)
          (leads_bind (body_runs (Some after) third_at third_at (has_front code (suc after) body_at (third (suc after)) has_work) inner t) (λ f _.
          turn_run (turns_to n line tv p q) n (turns_run n) f (p t).1 (omega (arith, lt, less, le, body_falls t)))))
          (λ t. leads_pure t _ Next refl)))

      pub loop_runs : (s : State S) → Gets s (on inner (past (loop_code line test body third after) after) []) (turns line tv p q)
          (flow_to inner out cont after)
      unfolding get_budget bind
      loop_runs s =
          leads_seam callers room turn back after
          (leads_same (turns_to (suc s.budget) line tv p q) (turns line tv p q) refl (turns_run (suc s.budget) s (omega arith)))

  -- ---- trips of an annotated loop

  -- a loop's instruction, its body and its end, in one place
  module _ (line k counter : ℕ) (bound : Bound) (body : Ended) (p : Act S Flow) (out : Option ℕ) (cont : ℕ) (body_runs : FlowRuns body p) (after : ℕ)
      (has : Has code after (trips_code line k counter bound body after)) (inner : List InnerLoop) where
    abbrev end_op : Plan
    end_op = planned (EndOf k) line 0 ∷ []

    abbrev inside : Plan
    inside = body None (suc after) (suc after)

    has_loop : HasLoop code (past (inside ++ end_op) after) k counter bound after
    has_loop = has.0.op

    abbrev b : Body
    b = has_loop.body

    has_end : Shows code after (planned (EndOf k) line 0)
    has_end = (has_back code after inside end_op has.1).0

    -- what comes after the trips
    abbrev over : ℤ → ℤ → Act S Flow
    over lo hi = set_local world counter (Int (int_max lo hi)) line >> pure Next

    abbrev within : ℤ → ℤ → ℕ → ℕ → List InnerLoop
    within lo hi j n = record { loop = k; lo = lo; hi = hi; next = j; left = n } ∷ inner

    -- a trip, and what follows it
    abbrev trip_then : ℤ → ℤ → ℕ → ℕ → Act S Flow
    trip_then lo hi j n = spend line >> (set_local world counter (Int (lo +ℤ pos j)) line >> (p >>=
        (λ f. turn_end (trips_to world n line counter lo (suc j) p) f >>= then_flow (over lo hi))))

    trips_open : (lo hi : ℤ) (j n : ℕ) → (trips_to world (suc n) line counter lo j p >>= then_flow (over lo hi)) ≡ trip_then lo hi j n
    trips_open lo hi j n =
        let again = turn_end (trips_to world n line counter lo (suc j) p) in
        let set = set_local world counter (Int (lo +ℤ pos j)) line in
        assoc (spend line) (λ _. set >> (p >>= again)) (then_flow (over lo hi))
        ∙ ap (λ (x : Act S Flow). spend line >> x) (assoc set (λ _. p >>= again) (then_flow (over lo hi)))
        ∙ ap (λ (x : Act S Flow). spend line >> (set >> x)) (assoc p again (then_flow (over lo hi)))

    -- where a trip's end leads
    again_same : (lo hi : ℤ) (j n pc : ℕ) → iteration_end world code line (spot callers room (within lo hi j n) pc []) (within lo hi j n)
        ≡ trip world line counter b (spot callers room (within lo hi j n) pc []) inner k lo hi j n
    again_same lo hi j n pc =
        let c = spot callers room (within lo hi j n) pc [] in
        let x : InnerLoop = record { loop = k; lo = lo; hi = hi; next = j; left = n } in
        ap (λ info. again_at world line c x inner info (slice_get code.bodies k)) has_loop.has_info
        ∙ ap (λ body. again_at world line c x inner (Some has_loop.info) body) has_loop.has_body
        ∙ ap (λ n'. trip world line n' b c inner k lo hi j n) has_loop.counts

    -- the trips from one on, wherever the machine is
    abbrev TripsRun : ℤ → ℤ → ℕ → ℕ → Type 0
    TripsRun lo hi n j = (before : List InnerLoop) (pc : ℕ) (s : State S)
        → Moves world here input code s (trip world line counter b (spot callers room before pc []) inner k lo hi j n)
        (trips_to world n line counter lo j p >>= then_flow (over lo hi)) (flow_to inner out cont after)

    module _ (lo hi : ℤ) (n j : ℕ) (more : TripsRun lo hi n j) where
      again_run : (t : State S) → Gets t (on (within lo hi j n) (suc after) []) (trips_to world n line counter lo j p >>= then_flow (over lo hi))
          (flow_to inner out cont after)
      again_run t =
          moves_at i.EndIteration line _ (has_end.op, has_end.at_line) (again_same lo hi j n (place_of code (suc after)))
          (more (within lo hi j n) (place_of code (suc after)) t)

      trip_ends : (t : State S) → Gets t (on (within lo hi j n) (past inside (suc after)) []) p (flow_to (within lo hi j n) None (suc after) (suc after))
          → (f : Flow) → (p t).0 ≡ Ok f → Gets (p t).1 (flow_to (within lo hi j n) None (suc after) (suc after) f) (turn_end
          (trips_to world n line counter lo j p) f >>= then_flow (over lo hi)) (flow_to inner out cont after)
      trip_ends t l Next is = again_run _
      trip_ends t l Broke is = absurd (l.real tt Broke is)
      trip_ends t l Continued is = again_run _
      trip_ends t l (Returned v) is = leads_same (pure (Returned v)) _
          (ap (λ (x : Act S Flow). x (p t).1) (sym (pure_then (Returned v) (then_flow (over lo hi))))) (leads_pure _ _ (Returned v) refl)

      body_leads : (t : State S) → Gets t (To (spot callers room (within lo hi j n) b.start [])) (p >>= (λ f. turn_end
          (trips_to world n line counter lo j p) f >>= then_flow (over lo hi))) (flow_to inner out cont after)
      body_leads t =
          let l = body_runs None (suc after) (suc after) (has_front code after inside end_op has.1) (within lo hi j n) t in
          subst (λ m. Gets t (To (spot callers room (within lo hi j n) m []))
          (p >>= (λ f. turn_end (trips_to world n line counter lo j p) f >>= then_flow (over lo hi))) (flow_to inner out cont after))
          (sym has_loop.starts)
          (leads_seam callers room inside end_op after (leads_bind l (trip_ends t l)))

    trips_run : (lo hi : ℤ) (n j : ℕ) → TripsRun lo hi n j
    trips_run lo hi zero j before pc s =
        moves_same (over lo hi) _ (sym (pure_then Next (then_flow (over lo hi))))
        (moves_bind (set_local world counter (Int (int_max lo hi)) line)
        (λ u _. moves_goes (leads_pure _ _ Next (ap (λ n. To (spot callers room inner n [])) has_loop.ends))))
    trips_run lo hi (suc n) j before pc s =
        moves_same (trip_then lo hi j n) _ (sym (trips_open lo hi j n))
        (moves_bind (spend line) (λ u _.
        moves_bind (set_local world counter (Int (lo +ℤ pos j)) line) (λ u _.
        moves_goes (body_leads lo hi n (suc j) (trips_run lo hi n (suc j)) _))))

    -- outside the loop is handed on, and inside its trips are done
    begins_run : (w : Where) (lo hi : ℤ) (pc : ℕ) (s : State S)
        → Moves world here input code s (begins world w line counter b (spot callers room inner pc []) k lo hi) (annotated world w k line counter lo hi p)
        (flow_to inner out cont after)
    begins_run Outside lo hi pc s = moves_stops k lo hi _ (λ u _. leads_pure _ _ Next (ap (λ n. To (spot callers room inner n [])) has_loop.ends))
    begins_run Inside lo hi pc s = moves_bind (lift line (trips lo hi)) (λ n _. trips_run lo hi n 0 inner pc _)

    loop_same : (v : Val) (pc : ℕ) → loop_at world here line (spot callers room inner pc []) k v (slice_get code.loops k) (slice_get code.bodies k)
        ≡ (lift line (number v) >>= (λ lo. bound_value world bound line >>= (λ hi. begins world here line counter b (spot callers room inner pc []) k lo hi)))
    loop_same v pc =
        let c = spot callers room inner pc [] in
        ap (λ info. loop_at world here line c k v info (slice_get code.bodies k)) has_loop.has_info
        ∙ ap (λ body. loop_at world here line c k v (Some has_loop.info) body) has_loop.has_body
        ∙ ap (λ n. lift line (number v) >>= (λ lo. bound_value world has_loop.info.bound line >>=
        (λ hi. begins world here line n b c k lo hi))) has_loop.counts
        ∙ ap (λ x. lift line (number v) >>= (λ lo. bound_value world x line >>= (λ hi. begins world here line counter b c k lo hi))) has_loop.bounds

    pub annotated_runs : (v : Val) (s : State S) → Gets s (on inner (past (trips_code line k counter bound body after) after) (v ∷ [])) (lift line
        (number v) >>= (λ lo. bound_value world bound line >>= (λ hi. annotated world here k line counter lo hi p))) (flow_to inner out cont after)
    annotated_runs v s =
        moves_at (i.Loop k) line _ (has_loop.instr, has.0.at_line) (loop_same v (place_of code (past (trips_code line k counter bound body after) after)))
        (moves_bind (lift line (number v)) (λ lo _. moves_bind (bound_value world bound line) (λ hi _. begins_run here lo hi _ _)))
