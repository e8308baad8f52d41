-- Where a machine starts.
use Rattle.std.proofs.Common.{◌≡◌, ℕ, ◌-◌, ◌<◌, ◌≤◌, true, false, List, [], ◌++◌, length, take, reverse, Some, sym, ap, ◌∙◌, ⊎_elim, subst, arith, append-nil}
use Rattle.std.specs.Prelude.{slice_get, replicate, ℤ, pos}
use Rattle.std.proofs.Math.Seq.{take-length}
use Rattle.std.proofs.lemmas.List.{length-reverse, reverse-reverse}
use Rattle.std.proofs.lemmas.Option.{slice_get_within, slice_get_cases}
use Rattle.al_core.specs.declared.choices.LoopInfo.{LoopInfo}
use Rattle.al_core.specs.declared.values.Val.{Val}
use Rattle.al_core.specs.declared.values.Val.TheVariants.{Int}
use Rattle.al_core.specs.Action.{Own}
use Rattle.al_code.specs.declared.lowered.Body.{Body}
use Rattle.al_code.specs.declared.lowered.Code.{Code}
use Rattle.al_code.specs.declared.lowered.Entry.{Entry}
use Rattle.al_code.specs.Machine.{at_start, frame_at}
use Rattle.al_code.specs.Runs.{entry_line}
use Rattle.al_code.specs.Valid.{IsValid}
use Rattle.al_exec.specs.declared.machine.Machine.{Machine}
use Rattle.al_exec.specs.declared.machine.Start.TheVariants as start
use Rattle.al_exec.specs.Active.{Active}
use Rattle.al_exec.specs.Frames.{Laid}
use Rattle.al_exec.specs.Machines.{Lie, callers_in, spot_in, Keeps, Stands}
use Rattle.al_exec.specs.Starts.{IsTall, HasRoom, StartsFunction, StartsIteration}

module _ (code : Code) (m : Machine) (place : ℕ) (at : m.active.place ≡ place) (stack : m.active.stack ≡ []) (height : m.active.height ≡ 0)
    (inner : m.inner.items ≡ []) (callers : m.callers.items ≡ []) (room : m.room ≡ 255) where
  fresh_spot : spot_in m ≡ at_start place 255
  fresh_spot = λ j. record {
    place = at j;
    stack = stack j;
    inner = reverse (inner j);
    callers = callers_in m.active.below (reverse (callers j));
    room = room j;
  }

  fresh_stands : slice_get code.heights place ≡ Some 0 → IsTall code m.tallest → m.tallest ≤ m.active.room → Stands code m
  fresh_stands low tall wide = record {
    fits = record {
      height = ap (slice_get code.heights) at ∙ low ∙ ap Some (sym height);
      room = λ q h g. let a = tall q h g in omega (arith, a, wide);
    };
    callers = subst (λ l. Lie code m.active.below (reverse l)) (sym callers) tt;
    tall = tall;
    calls = let e = ap length callers in omega (arith, e, room);
  }

-- what is there stays there
pub room_kept : (code : Code) (info : LoopInfo) (m m' : Machine) → Keeps m m' → HasRoom code info m → HasRoom code info m'
room_kept code info m m' kept room = record {
  tall = λ q h g. subst (λ n. h ≤ n) (sym kept.tallest) (room.tall q h g);
  cells = λ e g. let a = room.cells e g in omega (arith, a, kept.cells, kept.tallest);
}

pub function_starts : (code : Code) (valid : IsValid code) (f : ℕ) (e : Entry) → slice_get code.funcs f ≡ Some e → (args : List Val) → length args ≡ e.params
    → (s : Active) → s.stack ≡ reverse args ++ [] → (m : Machine) → Laid s e m.tallest m.active
    → IsTall code m.tallest → m.inner.items ≡ [] → m.callers.items ≡ []
    → m.room ≡ 255 → m.inside ≡ false → m.start ≡ start.Function (entry_line code e) → StartsFunction code e args m
function_starts code valid f e has args count s given m laid tall inner callers room inside start =
    let backwards : s.stack ≡ reverse args = given ∙ append-nil (reverse args) in
    let same : reverse (take e.params s.stack) ≡ args =
    (λ j. reverse (take (sym (length-reverse args ∙ count) j) (backwards j))) ∙ ap reverse (take-length (reverse args)) ∙ reverse-reverse args in
    record {
      stands = fresh_stands code m e.start laid.place laid.stack laid.height inner callers room (valid.functions f e has).height tall laid.room;
      start = start;
      outside = inside;
      spot = fresh_spot code m e.start laid.place laid.stack laid.height inner callers room;
      frame = λ j. record { locals = (laid.locals ∙ ap (λ l. (frame_at e l).locals) same) j; own = laid.own j };
    }

pub iteration_starts : (code : Code) (valid : IsValid code) (info : LoopInfo) (one : slice_get code.loops info.number ≡ Some info) (e e0 : Entry) (b : Body)
    → slice_get code.bodies info.number ≡ Some b → e0.start ≡ b.start → e0.params ≡ 0 → e0.locals ≡ e.locals → (counter : ℤ) (s s3 : Active) (m : Machine)
    → Laid s e0 m.tallest s3 → m.active ≡ record s3 { own = Own info.counter info.first info.last }
    → IsTall code m.tallest → m.inner.items ≡ [] → m.callers.items ≡ []
    → m.room ≡ 255 → m.inside ≡ true → m.start ≡ start.Iteration info.line info.counter counter → StartsIteration code info e b counter m
iteration_starts code valid info one e e0 b has first params same counter s s3 m laid own tall inner callers room inside start =
    let place : m.active.place ≡ b.start = ap (λ (s : Active). s.place) own ∙ laid.place ∙ first in
    let stack : m.active.stack ≡ [] = ap (λ (s : Active). s.stack) own ∙ laid.stack in
    let height : m.active.height ≡ 0 = ap (λ (s : Active). s.height) own ∙ laid.height in
    let wide : m.tallest ≤ m.active.room = subst (λ n. m.tallest ≤ n) (sym (ap (λ (s : Active). s.room) own)) laid.room in
    let none : reverse (take e0.params s.stack) ≡ [] = ap (λ k. reverse (take k s.stack)) params in
    let all : e0.locals - 0 ≡ e.locals = omega (arith, same) in
    record {
      stands = fresh_stands code m b.start place stack height inner callers room (valid.loops info.number info b one has).start_height tall wide;
      start = start;
      inside = inside;
      spot = fresh_spot code m b.start place stack height inner callers room;
      frame = λ j. record {
        locals = (ap (λ (s : Active). s.locals) own ∙ laid.locals ∙ ap (λ l. (frame_at e0 l).locals) none ∙ ap (λ k. replicate k (Int (pos 0))) all) j;
        own = ap (λ (s : Active). s.own) own j;
      };
    }

pub body_number : (code : Code) (valid : IsValid code) (info : LoopInfo) → slice_get code.loops info.number ≡ Some info → info.number < length code.bodies
body_number code valid info one = let h = slice_get_within code.loops info.number info one in omega (arith, h, valid.bodies)

pub func_number : (code : Code) (valid : IsValid code) (info : LoopInfo) (b : Body) → slice_get code.loops info.number ≡ Some info
    → slice_get code.bodies info.number ≡ Some b → info.func < length code.funcs
func_number code valid info b one has =
    let h = valid.loops info.number info b one has in
    slice_get_within code.funcs info.func h.func h.has_func

pub func_there : (code : Code) (valid : IsValid code) (info : LoopInfo) → slice_get code.loops info.number ≡ Some info → info.func < length code.funcs
func_there code valid info one =
    let within = body_number code valid info one in
    ⊎_elim
    (λ p. func_number code valid info p.0 one p.2)
    (λ p. let past = p.0 in absurd (omega (arith, within, past)))
    (slice_get_cases code.bodies info.number).1
