-- A relation between actions in two worlds that their words keep is kept by the machine up to a stop. Loops are not handed on there.
use Rattle.std.proofs.Common.{◌≡◌, ℕ, zero, suc, List, [], ◌∷◌, Option, Some, None, Result, Ok, Err, refl, ap, ◌∙◌}
use Rattle.std.specs.Prelude.{ℤ, pos, ◌+ℤ◌, Bool, true, false, if◌then◌else◌, slice_get, slice_set, take, drop, reverse}
use Rattle.std.specs.Int.{int_max}
use Rattle.al_source.specs.declared.texts.Piece.{Piece}
use Rattle.al_core.specs.declared.choices.Bound.{Bound}
use Rattle.al_core.specs.declared.choices.Bound.TheVariants as bound
use Rattle.al_core.specs.declared.choices.LoopInfo.{LoopInfo}
use Rattle.al_core.specs.declared.values.Obj.{Obj}
use Rattle.al_core.specs.declared.values.Addr.{Addr}
use Rattle.al_core.specs.declared.values.Kind.{Kind}
use Rattle.al_core.specs.declared.values.Trap.{Trap}
use Rattle.al_core.specs.declared.values.Val.{Val}
use Rattle.al_core.specs.declared.values.Val.TheVariants.{Int, Ptr}
use Rattle.al_core.specs.declared.values.Addr.TheVariants.{Word, Local}
use Rattle.al_core.specs.declared.values.Kind.TheVariants as kind
use Rattle.al_core.specs.declared.values.Trap.TheVariants as trap
use Rattle.al_core.specs.World.{World}
use Rattle.al_core.specs.Values.{number, numbers, operate, operate_one, choose, point, shift, element, input_at, words_of, text, trips}
use Rattle.al_core.specs.Action.{Frame, State, Answer, Act, after, bind, pure, lift, asks, spend, spend_from, get_frame, set_frame, or_zero, is_private, with_locals, ◌>>=◌, ◌>>◌, get_local, set_local, free, print, enter}
use Rattle.al_core.specs.Meaning.{Where, Outside, Inside, bound_value}
use Rattle.al_core.specs.Access.{Content, in_iteration}
use Rattle.al_core.specs.Run.{Whole}
use Rattle.al_source.specs.Steps.{and_then}
use Rattle.al_code.specs.Answerers.{Answerer, answered}
use Rattle.al_code_laws.specs.Stops.{raise, Lifts}
use Rattle.al_code.specs.declared.instructions.Instr.{Instr}
use Rattle.al_code.specs.declared.instructions.Instr.TheVariants as i
use Rattle.al_code.specs.declared.lowered.Entry.{Entry}
use Rattle.al_code.specs.declared.lowered.Body.{Body}
use Rattle.al_code.specs.declared.lowered.Code.{Code}
use Rattle.al_code.specs.Machine.{at_start, InnerLoop, Caller, Spot, Move, Goes, Stops, Ends, top, below, pointer_in, on_stack, holes, next, frame_at, then_push, push_place, call_in, if_room, call_at, return_to, trip, begins, loop_at, again_at, iteration_end, print_at, does}
use Rattle.al_code.specs.Runs.{entry_line, from_function, Stop, or_no_line, exec_to_stop, moved_to_stop}

pub record Kept {S T : Type 0} (v : World S) (w : World T) (Rel : (A : Type 0) → Act S A → Act T A → Type 0) : Type 1 where
  pub of_pure : {A : Type 0} (a : A) → Rel A (pure a) (pure a)
  pub of_lift : {A : Type 0} (line : ℕ) (r : Result A Trap) → Rel A (lift line r) (lift line r)
  pub of_bind : {A B : Type 0} {p : Act S A} {q : Act T A} {f : A → Act S B} {g : A → Act T B} → Rel A p q → ((a : A) → Rel B (f a) (g a))
      → Rel B (p >>= f) (q >>= g)
  pub of_spend : (line : ℕ) → Rel (Unit {0}) (spend line) (spend line)
  pub of_get_frame : Rel Frame get_frame get_frame
  pub of_set_frame : (frame : Frame) → Rel (Unit {0}) (set_frame frame) (set_frame frame)
  pub of_load : (line : ℕ) (a : Addr) (k : Kind) → Rel Val (asks line (v.load a k)) (asks line (w.load a k))
  pub of_store : (line : ℕ) (a : Addr) (x : Val) → Rel (Unit {0}) (asks line (v.store a x)) (asks line (w.store a x))
  pub of_make : (line words : ℕ) → Rel Obj (asks line (v.make words)) (asks line (w.make words))
  pub of_free : (line : ℕ) (o : Obj) (at : ℕ) → Rel (Unit {0}) (asks line (v.free o at)) (asks line (w.free o at))
  pub of_print : (line : ℕ) (bytes : List ℕ) → Rel (Unit {0}) (print v bytes line) (print w bytes line)

module _ {S T : Type 0} (v : World S) (w : World T) (Rel : (A : Type 0) → Act S A → Act T A → Type 0) (c : Kept v w Rel) where
  of_cond : {A : Type 0} (b : Bool) {p p' : Act S A} {q q' : Act T A} → Rel A p q → Rel A p' q' → Rel A (if b then p else p') (if b then q else q')
  of_cond true h k = h
  of_cond false h k = k

  of_get_local : (k line : ℕ) → Rel Val (get_local v k line) (get_local w k line)
  of_get_local k line = c.of_bind c.of_get_frame (λ f. of_cond (is_private f.own k) (c.of_pure (or_zero (slice_get f.locals k))) (c.of_load line
      (Local k) kind.Int))

  of_set_local : (k : ℕ) (x : Val) (line : ℕ) → Rel (Unit {0}) (set_local v k x line) (set_local w k x line)
  of_set_local k x line = c.of_bind c.of_get_frame (λ f. of_cond (is_private f.own k) (c.of_set_frame (with_locals f (slice_set f.locals k x)))
      (c.of_store line (Local k) x))

  of_free_at : (x : Val) (line : ℕ) → Rel Val (free v x line) (free w x line)
  of_free_at (Int n) line = c.of_pure (Int (pos 0))
  of_free_at (Ptr o at) line = c.of_bind (c.of_free line o at) (λ u. c.of_pure (Int (pos 0)))

  of_bound : (b : Bound) (line : ℕ) → Rel ℤ (bound_value v b line) (bound_value w b line)
  of_bound (bound.Number n) line = c.of_pure n
  of_bound (bound.Local k) line = c.of_bind (of_get_local k line) (λ x. c.of_lift line (number x))

  of_push : (d : Spot) (st : List Val) {p : Act S Val} {q : Act T Val} → Rel Val p q → Rel Move (then_push d st p) (then_push d st q)
  of_push d st h = c.of_bind h (λ x. c.of_pure (next d (x ∷ st)))

  of_place : (d : Spot) (st : List Val) (line : ℕ) (r : Result (Obj × ℕ) Trap) → Rel Move (push_place d st (lift line r)) (push_place d st (lift line r))
  of_place d st line r = c.of_bind (c.of_lift line r) (λ q. c.of_pure (next d (on_stack q ∷ st)))

  of_unit : {p : Act S (Unit {0})} {q : Act T (Unit {0})} (m : Move) → Rel (Unit {0}) p q → Rel Move (p >> pure m) (q >> pure m)
  of_unit m h = c.of_bind h (λ u. c.of_pure m)

  of_trip : (line counter : ℕ) (b : Body) (d : Spot) (outer : List InnerLoop) (k : ℕ) (lo hi : ℤ) (j n : ℕ)
      → Rel Move (trip v line counter b d outer k lo hi j n) (trip w line counter b d outer k lo hi j n)
  of_trip line counter b d outer k lo hi j zero = of_unit _ (of_set_local counter (Int (int_max lo hi)) line)
  of_trip line counter b d outer k lo hi j (suc n) = c.of_bind (c.of_spend line) (λ u. of_unit _ (of_set_local counter (Int (lo +ℤ pos j)) line))

  of_begins : (here : Where) (line counter : ℕ) (b : Body) (d : Spot) (k : ℕ) (lo hi : ℤ)
      → Rel Move (begins v here line counter b d k lo hi) (begins w here line counter b d k lo hi)
  of_begins Outside line counter b d k lo hi = c.of_pure _
  of_begins Inside line counter b d k lo hi = c.of_bind (c.of_lift line (trips lo hi)) (λ n. of_trip line counter b d d.inner k lo hi 0 n)

  of_loop : (here : Where) (line : ℕ) (d : Spot) (k : ℕ) (x : Val) (info : Option LoopInfo) (b : Option Body)
      → Rel Move (loop_at v here line d k x info b) (loop_at w here line d k x info b)
  of_loop here line d k x (Some info) (Some b) =
      c.of_bind (c.of_lift line (number x)) (λ lo. c.of_bind (of_bound info.bound line) (λ hi. of_begins here line info.counter b d k lo hi))
  of_loop here line d k x (Some info) None = c.of_pure _
  of_loop here line d k x None b = c.of_pure _

  of_again : (line : ℕ) (d : Spot) (x : InnerLoop) (outer : List InnerLoop) (info : Option LoopInfo) (b : Option Body)
      → Rel Move (again_at v line d x outer info b) (again_at w line d x outer info b)
  of_again line d x outer (Some info) (Some b) = of_trip line info.counter b d outer x.loop x.lo x.hi x.next x.left
  of_again line d x outer (Some info) None = c.of_pure _
  of_again line d x outer None b = c.of_pure _

  of_iteration_end : (code : Code) (line : ℕ) (d : Spot) (inner : List InnerLoop)
      → Rel Move (iteration_end v code line d inner) (iteration_end w code line d inner)
  of_iteration_end code line d [] = c.of_pure _
  of_iteration_end code line d (x ∷ outer) = of_again line d x outer (slice_get code.loops x.loop) (slice_get code.bodies x.loop)

  of_print_at : (line : ℕ) (d : Spot) (format : Option (List Piece)) → Rel Move (print_at v line d format) (print_at w line d format)
  of_print_at line d None = c.of_pure _
  of_print_at line d (Some format) = c.of_bind (c.of_lift line (numbers (reverse (take (holes format) d.stack))))
      (λ ns. of_unit _ (c.of_print line (text format ns)))

  of_enter : (frame : Frame) → Rel Frame (enter frame) (enter frame)
  of_enter frame = c.of_bind c.of_get_frame (λ old. c.of_bind (c.of_set_frame frame) (λ u. c.of_pure old))

  of_room : (d : Spot) (line : ℕ) (e : Entry) (n : ℕ) → Rel Move (if_room n line (call_in d line e (reverse (take e.params d.stack))
      (drop e.params d.stack))) (if_room n line (call_in d line e (reverse (take e.params d.stack)) (drop e.params d.stack)))
  of_room d line e zero = c.of_lift line (Err trap.Depth)
  of_room d line e (suc n) = c.of_bind (c.of_spend line) (λ u. c.of_bind (of_enter (frame_at e (reverse (take e.params d.stack)))) (λ old. c.of_pure _))

  of_call : (d : Spot) (line : ℕ) (e : Option Entry) → Rel Move (call_at d line e) (call_at d line e)
  of_call d line None = c.of_pure _
  of_call d line (Some e) = of_room d line e d.room

  of_return : (room : ℕ) (x : Val) (ks : List Caller) → Rel Move (return_to room x ks) (return_to room x ks)
  of_return room x [] = c.of_pure _
  of_return room x (k ∷ ks) = of_unit _ (c.of_set_frame k.frame)

  module _ (here : Where) (input : List ℤ) (code : Code) where
    pub of_does : (o : Option Instr) (line : ℕ) (d : Spot) → Rel Move (does v here input code o line d) (does w here input code o line d)
    of_does None line d = c.of_pure _
    of_does (Some (i.Push n)) line d = c.of_pure _
    of_does (Some (i.GetLocal k)) line d = of_push d d.stack (of_get_local k line)
    of_does (Some (i.SetLocal k)) line d = of_unit _ (of_set_local k (top d.stack) line)
    of_does (Some (i.Global k)) line d = c.of_pure _
    of_does (Some i.NotNull) line d = of_place d (below d.stack) line (point (top d.stack))
    of_does (Some (i.Plus n)) line d = of_place d (below d.stack) line (shift (pointer_in (top d.stack)) n)
    of_does (Some (i.Elem size)) line d = of_place d (below (below d.stack)) line (element (pointer_in (top (below d.stack))) (top d.stack) size)
    of_does (Some (i.Load want)) line d = of_push d (below d.stack) (c.of_load line (Word (pointer_in (top d.stack)).0 (pointer_in (top d.stack)).1) want)
    of_does (Some i.Store) line d = of_unit _ (c.of_store line (Word (pointer_in (top (below d.stack))).0 (pointer_in (top (below d.stack))).1) (top d.stack))
    of_does (Some i.Dup) line d = c.of_pure _
    of_does (Some i.Drop) line d = c.of_pure _
    of_does (Some (i.Unary op)) line d = of_push d (below d.stack) (c.of_lift line (operate_one op (top d.stack)))
    of_does (Some i.Truth) line d = c.of_pure _
    of_does (Some (i.Binary op)) line d = of_push d (below (below d.stack)) (c.of_lift line (operate op (top (below d.stack)) (top d.stack)))
    of_does (Some (i.Same equal)) line d = c.of_pure _
    of_does (Some (i.Choose op)) line d = of_push d (below (below d.stack)) (c.of_lift line (choose op (top (below d.stack)) (top d.stack)))
    of_does (Some (i.Jump to)) line d = c.of_pure _
    of_does (Some (i.JumpIf true to)) line d = c.of_pure _
    of_does (Some (i.JumpIf false to)) line d = c.of_pure _
    of_does (Some (i.Call f)) line d = of_call d line (slice_get code.funcs f)
    of_does (Some i.Return) line d = of_return d.room (top d.stack) d.callers
    of_does (Some i.Input) line d = of_push d (below d.stack) (c.of_lift line (and_then (number (top d.stack)) (input_at input)))
    of_does (Some i.Inputs) line d = c.of_pure _
    of_does (Some (i.Calloc size)) line d =
        of_push d (below d.stack) (c.of_bind (c.of_lift line (and_then (number (top d.stack)) (λ n. words_of n size))) (λ words. c.of_bind
        (c.of_make line words) (λ o. c.of_pure (Ptr o 0))))
    of_does (Some i.Free) line d = of_push d (below d.stack) (of_free_at (top d.stack) line)
    of_does (Some (i.Print k)) line d = of_print_at line d (slice_get code.texts k)
    of_does (Some i.Step) line d = of_unit _ (c.of_spend line)
    of_does (Some (i.Loop k)) line d = of_loop here line (record d { stack = below d.stack }) k (top d.stack) (slice_get code.loops k)
        (slice_get code.bodies k)
    of_does (Some i.EndIteration) line d = of_iteration_end code line d d.inner

    of_moved : (f : Spot → Act S (Option Stop)) (g : Spot → Act T (Option Stop)) → ((d : Spot) → Rel (Option Stop) (f d) (g d)) → (m : Move)
        → Rel (Option Stop) (moved_to_stop v here input code f m) (moved_to_stop w here input code g m)
    of_moved f g h (Goes d) = h d
    of_moved f g h (Stops k lo hi d) = c.of_pure _
    of_moved f g h (Ends x) = c.of_pure _

    pub of_run : (n : ℕ) (d : Spot) → Rel (Option Stop) (exec_to_stop v here input code n d) (exec_to_stop w here input code n d)
    of_run zero d = c.of_pure None
    of_run (suc n) d = c.of_bind (of_does (slice_get code.instrs d.place) (or_no_line (slice_get code.lines d.place)) d)
        (of_moved (exec_to_stop v here input code n) (exec_to_stop w here input code n) (of_run n))

-- ---- a content within a whole

lifts_after : {A B : Type 0} (r : Answer A) (t : State Content) (w : Whole) (f : A → Act Content B) (g : A → Act Whole B) → ((a : A) → Lifts (f a) (g a))
    → after r (raise t w) g ≡ ((after r t f).0, raise (after r t f).1 w)
lifts_after (Ok a) t w f g k = (k a).by t w
lifts_after (Err e) t w f g k = refl

lifts_bind : {A B : Type 0} {p : Act Content A} {q : Act Whole A} {f : A → Act Content B} {g : A → Act Whole B} → Lifts p q → ((a : A) → Lifts (f a) (g a))
    → Lifts (p >>= f) (q >>= g)
unfolding bind
lifts_bind {p = p} {q = q} {f = f} {g = g} h k = record { by = λ s w. ap (λ r. after r.0 r.1 g) (h.by s w) ∙ lifts_after (p s).0 (p s).1 w f g k }

lifts_pure : {A : Type 0} (a : A) → Lifts (pure a) (pure a)
unfolding pure
lifts_pure a = record { by = λ s w. refl }

lifts_lift : {A : Type 0} (line : ℕ) (r : Result A Trap) → Lifts (lift line r) (lift line r)
unfolding lift
lifts_lift line r = record { by = λ s w. refl }

spends : (line n : ℕ) (s : State Content) (w : Whole) → spend_from line n (raise s w) ≡ ((spend_from line n s).0, raise (spend_from line n s).1 w)
spends line zero s w = refl
spends line (suc n) s w = refl

lifts_spend : (line : ℕ) → Lifts (spend line) (spend line)
unfolding spend
lifts_spend line = record { by = λ s w. spends line s.budget s w }

lifts_get_frame : Lifts get_frame get_frame
unfolding get_frame
lifts_get_frame = record { by = λ s w. refl }

lifts_set_frame : (frame : Frame) → Lifts (set_frame frame) (set_frame frame)
unfolding set_frame
lifts_set_frame frame = record { by = λ s w. refl }

module _ (answer : Answerer) where
  lifts_load : (line : ℕ) (a : Addr) (k : Kind) → Lifts (asks line (in_iteration.load a k)) (asks line ((answered answer).load a k))
  unfolding asks
  lifts_load line a k = record { by = λ s w. refl }

  lifts_store : (line : ℕ) (a : Addr) (x : Val) → Lifts (asks line (in_iteration.store a x)) (asks line ((answered answer).store a x))
  unfolding asks
  lifts_store line a x = record { by = λ s w. refl }

  lifts_make : (line words : ℕ) → Lifts (asks line (in_iteration.make words)) (asks line ((answered answer).make words))
  unfolding asks
  lifts_make line words = record { by = λ s w. refl }

  lifts_free : (line : ℕ) (o : Obj) (at : ℕ) → Lifts (asks line (in_iteration.free o at)) (asks line ((answered answer).free o at))
  unfolding asks
  lifts_free line o at = record { by = λ s w. refl }

  lifts_print : (line : ℕ) (bytes : List ℕ) → Lifts (print in_iteration bytes line) (print (answered answer) bytes line)
  unfolding asks
  lifts_print line bytes = record { by = λ s w. refl }

  -- code runs to its next stop in a content as it does in the whole
  pub to_stop : (here : Where) (input : List ℤ) (code : Code) (n : ℕ) (d : Spot)
      → Lifts (exec_to_stop in_iteration here input code n d) (exec_to_stop (answered answer) here input code n d)
  to_stop here input code = of_run in_iteration (answered answer) (λ A. Lifts {A = A}) (record {
    of_pure = lifts_pure;
    of_lift = lifts_lift;
    of_bind = lifts_bind;
    of_spend = lifts_spend;
    of_get_frame = lifts_get_frame;
    of_set_frame = lifts_set_frame;
    of_load = lifts_load;
    of_store = lifts_store;
    of_make = lifts_make;
    of_free = lifts_free;
    of_print = lifts_print;
  }) here input code

  pub stops_lift : (here : Where) (input : List ℤ) (code : Code)
      → (((n : ℕ) (c : Spot) → Lifts (exec_to_stop in_iteration here input code n c) (exec_to_stop (answered answer) here input code n c))
      × ((n : ℕ) (e : Entry) (room : ℕ)
      → Lifts (from_function in_iteration code e room (exec_to_stop in_iteration here input code n))
      (from_function (answered answer) code e room (exec_to_stop (answered answer) here input code n))))
  stops_lift here input code = (
    to_stop here input code,
    λ n e room. lifts_bind (lifts_spend (entry_line code e)) (λ u. to_stop here input code n (at_start e.start room)),
  )
