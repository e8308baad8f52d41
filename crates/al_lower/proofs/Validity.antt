-- The code of a well-formed tree is valid.
use Rattle.std.proofs.Common.{◌≡◌, ℕ, zero, suc, ◌+◌, ◌-◌, ◌<◌, ◌≤◌, List, [], ◌∷◌, ◌++◌, length, map, Option, Some, None, Ok, refl, sym, ap, ◌∙◌, subst, ⊎_elim, arith}
use Rattle.std.specs.Prelude.{slice_get}
use Rattle.std.specs.List.{AllByRecursion}
use Rattle.std.proofs.lemmas.Bool.{cases_lt}
use Rattle.std.proofs.lemmas.Option.{slice_get_within}
use Rattle.al_core.specs.declared.choices.LoopInfo.{LoopInfo}
use Rattle.al_core.specs.declared.typed_tree.TFunc.{TFunc}
use Rattle.al_core.specs.declared.typed_tree.Typed.{Typed}
use Rattle.al_core.specs.Loops.{PlacedLoop, program_loops}
use Rattle.al_rules.specs.Names.{AllOf}
use Rattle.al_rules.specs.Notes.{notes_of}
use Rattle.al_rules.specs.WellFormed.{IsWellFormed}
use Rattle.al_rules_laws.proofs.Logic.{some_is}
use Rattle.al_rules_laws.proofs.LoopEntries.{form_parts, as_many_loops, loop_in_place}
use Rattle.al_code.specs.declared.instructions.Instr.{Instr}
use Rattle.al_code.specs.declared.instructions.Instr.TheVariants as i
use Rattle.al_code.specs.declared.lowered.Body.{Body}
use Rattle.al_code.specs.declared.lowered.Code.{Code}
use Rattle.al_code.specs.declared.lowered.Entry.{Entry}
use Rattle.al_code.specs.Valid.{body_places, places_after, LocalInRange, BoundInRange, IsSound, IsIn, IsFunction, IsBody, EndsOneBody, IsValid}
use Rattle.al_code_laws.specs.declared.plan.Op.TheVariants.{LoopTo, EndOf}
use Rattle.al_code_laws.specs.declared.plan.Planned.{Planned}
use Rattle.al_code_laws.specs.Planned.{planned, Plan, past, place_of, Shows}
use Rattle.al_code_laws.specs.Tree.{stmt_code, function_code}
use Rattle.al_code_laws.proofs.Leads.{past_append, has_back}
use Rattle.al_lower.specs.Assembly.{entries_from_end, turned, code_of}
use Rattle.al_lower.specs.Fine.{IsFine, numbers_of}
use Rattle.al_lower.proofs.Assembled.{map_length, lines_size, heights_size, bodies_size, entry_at}
use Rattle.al_lower.proofs.EntriesFine.{at_index, at_least, of_function, loops_fine, as_many, number_is, entry_of}
use Rattle.al_lower.proofs.Laying as laying
use Rattle.al_lower.proofs.LoopRanges.{counter_ranged, bound_ranged}
use Rattle.al_lower.proofs.Places.{plan, code, size_is, InPlan, At, top, top_within, function_at, covered, LoopPlace, loop_places}
use Rattle.al_lower.proofs.SoundPlaces.{EndsApart, past_grows, NextIs, IsGood, AllGood}
use Rattle.al_lower.proofs.SoundTrees.{function_good}

module _ (typed : Typed) (infos : List LoopInfo) (formed : IsWellFormed typed) (are : notes_of typed ≡ Ok infos) where
  abbrev c : Code
  c = code typed infos formed are

  abbrev Place : PlacedLoop → Type 0
  Place = LoopPlace typed infos formed are

  -- a loop of the code, by its number
  record Found (k : ℕ) (b : Body) : Type 0 where
    loop : PlacedLoop
    at : slice_get (program_loops typed) k ≡ Some loop
    number : loop.loop.number ≡ k
    place : Place loop
    same : place.lies.lies.0.0.op.body ≡ b

  ordered : (j n : ℕ) → slice_get (numbers_of (plan typed infos formed are)) j ≡ Some n → n ≡ j
  ordered = laying.ordered typed infos formed are

  many_bodies : length c.bodies ≡ length (program_loops typed)
  unfolding program_loops
  many_bodies =
      bodies_size typed infos (plan typed infos formed are) ordered
      ∙ ap length (laying.all_fine typed infos formed are).numbers ∙ map_length (λ (l : PlacedLoop). l.loop.number) (program_loops typed)

  found : (k : ℕ) (b : Body) → slice_get c.bodies k ≡ Some b → Found k b
  found k b has =
      let within = slice_get_within c.bodies k b has in
      let many = many_bodies in
      let l = at_least (program_loops typed) k (omega arith) in
      let number = loop_in_place typed formed.loops k l.0 l.1 in
      let place = at_index (program_loops typed) k l.0 (loop_places typed infos formed are) l.1 in
      record {
        loop = l.0;
        at = l.1;
        number = number;
        place = place;
        same = some_is (sym place.lies.lies.0.0.op.has_body ∙ ap (slice_get c.bodies) number ∙ has);
      }

  same_op : (j k : ℕ) → EndOf j ≡ EndOf k → j ≡ k
  same_op j k e = cc

  same_end : (j k line row : ℕ) → Some (planned (EndOf j) line 0) ≡ Some (planned (EndOf k) row 0) → j ≡ k
  same_end j k line row e = same_op j k (ap (λ (p : Planned). p.op) (some_is e))

  module _ {k : ℕ} {b : Body} (f : Found k b) where
    abbrev l : ℕ
    l = f.place.lies.after

    abbrev inside : Plan
    inside = stmt_code f.loop.loop.body None (suc l) (suc l)

    abbrev close : Plan
    close = planned (EndOf f.loop.loop.number) f.place.lies.line 0 ∷ []

    -- how many follow the loop's instruction
    abbrev r : ℕ
    r = past (inside ++ close) l

    abbrev shows_loop : Shows c r (planned (LoopTo f.loop.loop.number f.place.lies.counter f.place.lies.bound l) f.place.lies.line 1)
    shows_loop = f.place.lies.lies.0.0

    shows_end : Shows c l (planned (EndOf f.loop.loop.number) f.place.lies.line 0)
    shows_end = (has_back c l inside close f.place.lies.lies.0.1).0

    end_planned : slice_get (plan typed infos formed are) (length (plan typed infos formed are) - suc l)
        ≡ Some (planned (EndOf f.loop.loop.number) f.place.lies.line 0)
    end_planned = (back l inside close f.place.lies.lies.1.1).0
      where
        back : (n : ℕ) (a z : Plan) → InPlan typed infos formed are n (a ++ z) → InPlan typed infos formed are n z
        back n [] z h = h
        back n (p ∷ a) z h = back n a z h.1

    end_at : b.end ≡ place_of c l
    end_at = ap (λ (b : Body). b.end) (sym f.same) ∙ shows_loop.op.ends

    start_at : b.start ≡ place_of c r
    start_at = ap (λ (b : Body). b.start) (sym f.same) ∙ shows_loop.op.starts

    longer : l < r
    longer = let whole = past_append inside close l in let grows = past_grows inside (suc l) in omega arith

  ends_apart : EndsApart c
  ends_apart j k b d hb hd is =
      let f = found j b hb in
      let g = found k d hd in
      let fe = (shows_end f).within in
      let ge = (shows_end g).within in
      let fa = end_at f in
      let ga = end_at g in
      let same : f.place.lies.after ≡ g.place.lies.after = omega arith in
      sym f.number
      ∙ same_end f.loop.loop.number g.loop.loop.number f.place.lies.line g.place.lies.line
      (sym (end_planned f) ∙ ap (λ n. slice_get (plan typed infos formed are) (length (plan typed infos formed are) - suc n)) same ∙ end_planned g)
      ∙ g.number

  -- ---- functions

  abbrev F : ℕ → TFunc → Type 0
  F = At typed infos formed are

  fine_of : (g : ℕ) (f : TFunc) (a : F g f) → AllOf (λ (p : Planned). IsFine typed infos (length f.locals) p.op) (function_code f a.after)
  unfolding program_loops
  fine_of g f a =
      (laying.function_fine typed infos formed are g f a.func (of_function typed.funcs g f (loops_fine typed infos formed.loops are) a.func) a.after).fine

  abbrev Good : {g : ℕ} {f : TFunc} → F g f → ℕ → Type 0
  Good {f = f} a =
      IsGood typed infos (length f.locals) c refl a.e a.locals (top typed infos formed are a) a.after a.starts a.ends
      (top_within typed infos formed are a).1 ends_apart

  abbrev Goods : {g : ℕ} {f : TFunc} → F g f → ℕ → Plan → Type 0
  Goods {f = f} a =
      AllGood typed infos (length f.locals) c refl a.e a.locals (top typed infos formed are a) a.after a.starts a.ends
      (top_within typed infos formed are a).1 ends_apart

  abbrev Next : {g : ℕ} {f : TFunc} → F g f → ℕ → ℕ → Type 0
  Next {f = f} a =
      NextIs typed infos (length f.locals) c refl a.e a.locals (top typed infos formed are a) a.after a.starts a.ends
      (top_within typed infos formed are a).1 ends_apart

  goods : {g : ℕ} {f : TFunc} (a : F g f) → Goods a a.after (function_code f a.after) × Next a (top typed infos formed are a) 0
  goods {g = g} {f = f} a =
      function_good typed infos (length f.locals) c refl a.e a.locals (top typed infos formed are a) a.after a.starts a.ends
      (top_within typed infos formed are a).1 ends_apart f a.has (fine_of g f a) (omega arith)

  good_in : {g : ℕ} {f : TFunc} (a : F g f) (ps : Plan) (n r : ℕ) → Goods a n ps → n ≤ r → r < past ps n → Good a r
  good_in a [] n r h lo hi = absurd (omega arith)
  good_in a (p ∷ ps) n r h lo hi =
      ⊎_elim
      (λ lt. good_in a ps n r h.1 lo lt)
      (λ le. let same : past ps n ≡ r = omega arith in subst (Good a) same h.0)
      (cases_lt r (past ps n))

  good_at : {g : ℕ} {f : TFunc} (a : F g f) (r : ℕ) → a.after ≤ r → r < top typed infos formed are a → Good a r
  good_at {f = f} a r lo hi = good_in a (function_code f a.after) a.after r (goods a).0 lo hi

  -- the place that so many follow after it
  turn_back : (place : ℕ) → place < length c.instrs → place_of c (suc (length c.instrs - suc place)) ≡ place
  turn_back place lt = omega arith

  is_function : (g : ℕ) (f : TFunc) (a : F g f) → IsFunction c a.e
  is_function g f a =
      let starts = a.starts in
      let ends = a.ends in
      let within = top_within typed infos formed are a in
      let below = within.1 in
      let inside = within.0 in
      let next = (goods a).1 in
      let above = next.above in
      let w = formed.funcs g f a.func in
      let params = a.params in
      let locals = a.locals in
      let fits = w.params in
      record {
        begins = omega arith;
        within = omega arith;
        params = omega arith;
        height = ap (slice_get c.heights) starts ∙ next.high;
        stays = λ place x is at.
            let lo = is.0 in
            let hi = is.1 in
            let there = slice_get_within c.instrs place x at in
            let good = good_at a (length c.instrs - suc place) (omega arith) (omega arith) in
            let back = turn_back place there in
            let same : good.instr ≡ x = some_is (sym good.stands ∙ ap (slice_get c.instrs) back ∙ at) in
            subst (λ x. AllByRecursion (IsIn a.e) (places_after c place x) × LocalInRange a.e.locals x) same
            (subst (λ q. AllByRecursion (IsIn a.e) (places_after c q good.instr) × LocalInRange a.e.locals good.instr) back good.stays);
      }

  -- ---- all places

  record Sound (place : ℕ) : Type 0 where
    instr : Instr
    height : ℕ
    stands : slice_get c.instrs place ≡ Some instr
    high : slice_get c.heights place ≡ Some height
    sound : IsSound c place instr height
    begins : (k : ℕ) (b : Body) → instr ≡ i.Loop k → slice_get c.bodies k ≡ Some b → b.start ≡ suc place
    closes : instr ≡ i.EndIteration → (k : ℕ) × (b : Body) × (slice_get c.bodies k ≡ Some b) × (b.end ≡ suc place)

  sound_at : (place : ℕ) → place < length c.instrs → Sound place
  sound_at place lt =
      let r = length c.instrs - suc place in
      let cover = covered typed infos formed are r (omega arith) in
      let good = good_at cover.a r cover.above cover.below in
      subst Sound (turn_back place lt) (record {
        instr = good.instr;
        height = good.height;
        stands = good.stands;
        high = good.high;
        sound = good.sound;
        begins = good.begins;
        closes = good.closes;
      })

  sound_of : (place : ℕ) (x : Instr) (height : ℕ) → slice_get c.instrs place ≡ Some x → slice_get c.heights place ≡ Some height → IsSound c place x height
  sound_of place x height at high =
      let s = sound_at place (slice_get_within c.instrs place x at) in
      subst (λ h. IsSound c place x h) (some_is (sym s.high ∙ high))
      (subst (λ x. IsSound c place x s.height) (some_is (sym s.stands ∙ at)) s.sound)

  -- ---- loops

  body_of : (k : ℕ) (info : LoopInfo) (b : Body) → slice_get c.loops k ≡ Some info → slice_get c.bodies k ≡ Some b → IsBody c k info b
  body_of k info b has_info has_body =
      let f = found k b has_body in
      let p = f.place in
      let n = r f in
      let s = shows_loop f in
      let e = shows_end f in
      let place = place_of c (suc n) in
      let loop_within = s.within in
      let end_within = e.within in
      let lt = longer f in
      let start = start_at f in
      let end = end_at f in
      let lo = p.lies.lies.2 in
      let hi = p.lies.lies.3 in
      let a_starts = p.a.starts in
      let a_ends = p.a.ends in
      let entry = entry_of typed infos formed.loops are k info has_info in
      let number = number_is typed infos formed.loops are k info has_info in
      let same_loop : entry.loop ≡ f.loop = some_is (sym entry.there ∙ ap (slice_get (program_loops typed)) number ∙ f.at) in
      let same_note : entry.note ≡ p.note = some_is (sym entry.noted ∙ ap (slice_get typed.loops) (number ∙ sym f.number) ∙ p.noted) in
      let func_is : info.func ≡ p.g = ap (λ (i : LoopInfo). i.func) (sym entry.is) ∙ ap (λ note. note.func) same_note ∙ p.named in
      let parts = form_parts entry.loop.func.locals entry.loop.loop entry.form entry.formed in
      let locals_are : length entry.loop.func.locals ≡ p.a.e.locals = ap (λ (l : PlacedLoop). length l.func.locals) same_loop ∙ sym p.a.locals in
      let stands : slice_get c.instrs place ≡ Some (i.Loop k) = s.op.instr ∙ ap (λ m. Some (i.Loop m)) f.number in
      let starts : b.start ≡ suc place = omega arith in
      let one : slice_get c.heights place ≡ Some 1 = s.at_height in
      let sound = (sound_of place (i.Loop k) 1 stands one).heights in
      let leaves = subst (AllByRecursion (λ q. slice_get c.heights q ≡ Some (1 - 1 + 0))) (ap body_places has_body) sound in
      record {
        place = place;
        stands = stands;
        once = λ q at.
            let t = sound_at q (slice_get_within c.instrs q (i.Loop k) at) in
            let again = t.begins k b (some_is (sym t.stands ∙ at)) has_body in
            omega arith;
        func = p.a.e;
        has_func = ap (slice_get c.funcs) func_is ∙ p.a.entry;
        stays = (omega arith, omega arith);
        counter = subst (λ m. info.counter < m) locals_are
            (subst (λ (i : LoopInfo). i.counter < length entry.loop.func.locals) entry.is
            (counter_ranged entry.loop.func.locals entry.loop.loop.first entry.form.0 parts.counter));
        bound = subst (λ m. BoundInRange m info.bound) locals_are
            (subst (λ (i : LoopInfo). BoundInRange (length entry.loop.func.locals) i.bound) entry.is
            (bound_ranged entry.loop.func.locals entry.form.0 entry.loop.loop.test entry.form.1 parts.bound));
        starts = starts;
        begins = omega arith;
        last = (let before : b.end - 1 ≡ place_of c (suc f.place.lies.after) = omega arith in ap (slice_get c.instrs) before ∙ e.op);
        start_height = leaves.0;
        end_height = leaves.1.0;
      }

  ends_of : (place : ℕ) → slice_get c.instrs place ≡ Some i.EndIteration → EndsOneBody c place
  ends_of place at =
      let s = sound_at place (slice_get_within c.instrs place i.EndIteration at) in
      let h = s.closes (some_is (sym s.stands ∙ at)) in
      record {
        loop = h.0;
        body = h.1;
        has = h.2;
        is = h.3;
        only = λ k b has is. ends_apart k h.0 b h.1 has h.2 (is ∙ sym h.3);
      }

  -- ---- the whole

  function_of : (g : ℕ) (e : Entry) → slice_get c.funcs g ≡ Some e → IsFunction c e
  function_of g e has = by (slice_get typed.funcs g) refl
    where
      by : (o : Option TFunc) → slice_get typed.funcs g ≡ o → IsFunction c e
      by (Some f) is =
          let a = function_at typed infos formed are g f is in
          subst (IsFunction c) (some_is (sym a.entry ∙ has)) (is_function g f a)
      by None is = absurd (no_entry typed.funcs g 0 is has)
        where
          no_entry : (fs : List TFunc) (g n : ℕ) → slice_get fs g ≡ None
              → slice_get (map (turned (length (plan typed infos formed are))) (entries_from_end fs n)) g ≡ Some e → ⊥
          no_entry [] g n is has = absurd cc
          no_entry (f ∷ fs) zero n is has = absurd cc
          no_entry (f ∷ fs) (suc g) n is has = no_entry fs g n is has

  pub valid : IsValid (code_of typed infos)
  unfolding code_of
  valid =
      let s = size_is typed infos formed are in
      let p = plan typed infos formed are in
      let main = entry_at typed infos p ordered typed.funcs 0 typed.main formed.main.0 formed.main.1 in
      record {
        lines = lines_size typed infos p ordered ∙ sym s;
        heights = heights_size typed infos p ordered ∙ sym s;
        bodies = many_bodies ∙ as_many_loops typed formed.loops ∙ sym (as_many typed infos formed.loops are);
        main = slice_get_within c.funcs typed.main main.0 main.1;
        functions = function_of;
        instrs = sound_of;
        loops = body_of;
        ends = ends_of;
      }
