-- Calls.
use Rattle.std.proofs.Common.{◌≡◌, ℕ, zero, suc, ◌+◌, ◌-◌, ◌≤◌, List, [], ◌∷◌, ◌++◌, length, take, drop, reverse, Some, Ok, Err, refl, sym, ap, ◌∙◌, arith, length-append}
use Rattle.std.specs.Prelude.{slice_get, replicate, ℤ, pos}
use Rattle.std.proofs.Math.Seq.{take-append-add, drop-append-add}
use Rattle.std.proofs.lemmas.List.{length-reverse, reverse-append, length-replicate, length-take-le, replicate-append-replicate}
use Rattle.al_core.specs.declared.values.Val.{Val}
use Rattle.al_core.specs.declared.values.Val.TheVariants.{Int}
use Rattle.al_core.specs.declared.values.Trap.TheVariants as trap
use Rattle.al_core.specs.Action.{Frame, State, bind, pure, lift, spend, get_frame, set_frame}
use Rattle.al_core.specs.Access.{Content, in_iteration}
use Rattle.al_core.specs.Meaning.{Where}
use Rattle.al_code.specs.declared.instructions.Instr.TheVariants as i
use Rattle.al_code.specs.declared.lowered.Entry.{Entry}
use Rattle.al_code.specs.declared.lowered.Code.{Code}
use Rattle.al_code.specs.Machine.{Spot, Goes, does, call_at, call_in, if_room, called_from, frame_at}
use Rattle.al_exec.specs.declared.active.Left.{Left}
use Rattle.al_exec.specs.Active.{Active, private_of}
use Rattle.al_exec.specs.Frames.{Opened, Filled}

abbrev pub zero_value : Val
zero_value = Int (pos 0)

reverse_replicate : (n : ℕ) (v : Val) → reverse (replicate n v) ≡ replicate n v
reverse_replicate zero v = refl
reverse_replicate (suc n) v =
    let split : replicate (suc n) v ≡ replicate n v ++ v ∷ [] =
    sym (replicate-append-replicate n 1 v ∙ (let e : n + 1 ≡ suc n = omega arith in ap (λ k. replicate k v) e)) in
    ap reverse (sym (replicate-append-replicate 1 n v ∙ (let e : 1 + n ≡ suc n = omega arith in ap (λ k. replicate k v) e)))
    ∙ reverse-append (replicate 1 v) (replicate n v)
    ∙ ap (λ l. l ++ v ∷ []) (reverse_replicate n v) ∙ sym split

-- ---- the instruction

module _ (here : Where) (input : List ℤ) (code : Code) (f : ℕ) (e : Entry) (at : slice_get code.funcs f ≡ Some e) (c : Spot) (line : ℕ) where
  abbrev args : List Val
  args = reverse (take e.params c.stack)

  abbrev under : List Val
  under = drop e.params c.stack

  called : (s : State Content) → does in_iteration here input code (Some (i.Call f)) line c s ≡ if_room c.room line (call_in c line e args under) s
  called s = ap (λ o. call_at c line o s) at

  pub call_too_deep : (s : State Content) → c.room ≡ 0 → does in_iteration here input code (Some (i.Call f)) line c s ≡ (Err (trap.Depth, line), s)
  unfolding lift
  call_too_deep s full = called s ∙ ap (λ r. if_room r line (call_in c line e args under) s) full

  pub call_unpaid : (s : State Content) (n : ℕ) → c.room ≡ suc n → s.budget ≡ 0
      → does in_iteration here input code (Some (i.Call f)) line c s ≡ (Err (trap.Steps, line), s)
  unfolding bind spend
  call_unpaid s n room none =
      called s ∙ ap (λ r. if_room r line (call_in c line e args under) s) room
      ∙ ap (λ k. call_in c line e args under n (record s { budget = k })) none
      ∙ (λ j. (Err (trap.Steps, line), record s { budget = sym none j }))

  pub call_goes : (s : State Content) (n left : ℕ) → c.room ≡ suc n → s.budget ≡ suc left
      → does in_iteration here input code (Some (i.Call f)) line c s
      ≡ (Ok (Goes (called_from c e.start under n s.frame)), record { frame = frame_at e args; budget = left; world = s.world })
  unfolding bind pure spend get_frame set_frame
  call_goes s n left room paid =
      called s ∙ ap (λ r. if_room r line (call_in c line e args under) s) room
      ∙ ap (λ k. call_in c line e args under n (record s { budget = k })) paid

-- ---- the frames

module _ (e : Entry) (tallest : ℕ) (s s1 s2 s3 : Active) (left : Left) (fits : e.params ≤ e.locals)
    (paid : s1 ≡ record s { budget = s1.budget }) (filled : Filled s1 (e.locals - e.params) tallest s2)
    (opened : Opened s2 e.locals e.start left s3) where
  abbrev zeros : ℕ
  zeros = e.locals - e.params

  pub enough : e.params ≤ s.height → e.locals ≤ s2.height
  enough h = omega (arith, h, fits, ap (λ (s : Active). s.height) filled.same, ap (λ (s : Active). s.height) paid)

  stack_is : s2.stack ≡ replicate zeros zero_value ++ s.stack
  stack_is = ap (λ (s : Active). s.stack) filled.same ∙ ap (λ (s : Active). replicate zeros zero_value ++ s.stack) paid

  height_is : s2.height ≡ s.height + zeros
  height_is = ap (λ (s : Active). s.height) filled.same ∙ ap (λ (s : Active). s.height + zeros) paid

  count_is : length (replicate zeros zero_value) + e.params ≡ e.locals
  count_is = let l = length-replicate zeros zero_value in omega (arith, l, fits)

  pub under_is : drop e.locals s2.stack ≡ drop e.params s.stack
  under_is =
      ap (drop e.locals) stack_is ∙ ap (λ k. drop k (replicate zeros zero_value ++ s.stack)) (sym count_is)
      ∙ drop-append-add (replicate zeros zero_value) s.stack e.params

  depth_is : length s.stack ≡ s.height
  depth_is =
      let a = ap length stack_is ∙ length-append (replicate zeros zero_value) s.stack in
      let l = length-replicate zeros zero_value in
      omega (arith, a, l, opened.depth, height_is)

  pub locals_are : e.params ≤ s.height → s3.locals ≡ (frame_at e (reverse (take e.params s.stack))).locals
  locals_are h =
      let size : length (reverse (take e.params s.stack)) ≡ e.params =
      length-reverse (take e.params s.stack) ∙ length-take-le e.params s.stack (omega (arith, h, depth_is)) in
      ap (λ (s : Active). s.locals) opened.new
      ∙ ap (λ l. reverse (take e.locals l)) stack_is
      ∙ ap (λ k. reverse (take k (replicate zeros zero_value ++ s.stack))) (sym count_is)
      ∙ ap reverse (take-append-add (replicate zeros zero_value) s.stack e.params)
      ∙ reverse-append (replicate zeros zero_value) (take e.params s.stack)
      ∙ ap (λ l. reverse (take e.params s.stack) ++ l) (reverse_replicate zeros zero_value)
      ∙ ap (λ k. reverse (take e.params s.stack) ++ replicate (e.locals - k) zero_value) (sym size)

  pub place_is : left.place ≡ s.place + 1
  place_is = opened.place ∙ ap (λ (s : Active). s.place + 1) filled.same ∙ ap (λ (s : Active). s.place + 1) paid

  pub below_is : take left.base s3.below ≡ s.below
  below_is = opened.below ∙ ap (λ (s : Active). s.below) filled.same ∙ ap (λ (s : Active). s.below) paid

  abbrev pub frame_left : Frame
  frame_left = record { locals = drop left.base (take left.floor s3.below); own = private_of left.own }

  abbrev pub frame_before : Frame
  frame_before = record { locals = s.locals; own = s.own }

  pub caller_frame : frame_left ≡ frame_before
  caller_frame = λ j. record {
    locals = (opened.locals ∙ ap (λ (s : Active). s.locals) filled.same ∙ ap (λ (s : Active). s.locals) paid) j;
    own = (opened.own ∙ ap (λ (s : Active). s.own) filled.same ∙ ap (λ (s : Active). s.own) paid) j;
  }

  pub caller_stack : reverse (drop left.floor s3.below) ≡ drop e.params s.stack
  caller_stack = opened.stack ∙ under_is

  pub caller_height : e.params ≤ s.height → length s3.below - left.floor ≡ s.height - e.params
  caller_height h = omega (arith, opened.size, height_is, h, fits)

  pub floor_within : left.floor ≤ length s3.below
  floor_within = omega (arith, opened.size)

  pub budget_is : s3.budget ≡ s1.budget
  budget_is = ap (λ (s : Active). s.budget) opened.new ∙ ap (λ (s : Active). s.budget) filled.same

  pub room_is : tallest ≤ s3.room
  room_is = omega (arith, filled.wide, ap (λ (s : Active). s.room) opened.new)
