use Rattle.std.proofs.Common.{take, reverse, ap, ◌∙◌, arith}
use Rattle.al_code.specs.Machine.{frame_at}
use Rattle.al_exec.specs.Active.{Active}
use Rattle.al_exec.specs.Frames.{Laid}
use Rattle.al_exec.proofs.active.Active.lay.Goals as goal

pub lay_here-requires-clause-args : goal.lay_here-requires-clause-args
lay_here-requires-clause-args c =
    let high = ap (λ (s : Active). s.height) c.in_ok-grow.ensures.ok.same in
    omega (arith, high, c.requires.args)

pub lay_here-requires-clause-room : goal.lay_here-requires-clause-room
lay_here-requires-clause-room c =
    let high = ap (λ (s : Active). s.height) c.in_ok-grow.ensures.ok.same in
    omega (arith, high, c.in_ok-grow.ensures.ok.wide)

pub returns : goal.returns
returns c =
    let s1 : Active = c.grow.new.self in
    let e = c.args.entry in
    let high = ap (λ (s : Active). s.height) c.in_ok-grow.ensures.ok.same in
    let laid : Laid s1 e c.args.more c.lay_here.new.self = c.lay_here.ensures.laid c.args.more (omega (arith, high, c.in_ok-grow.ensures.ok.wide)) in
    record {
      place = laid.place;
      locals = laid.locals ∙ ap (λ (s : Active). (frame_at e (reverse (take e.params s.stack))).locals) c.in_ok-grow.ensures.ok.same;
      own = laid.own;
      stack = laid.stack;
      height = laid.height;
      room = laid.room;
    }
