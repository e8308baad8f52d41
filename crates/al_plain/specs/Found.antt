-- Annotated loops, as the code finds them.
use Rattle.al_core.specs.Loops.{Loop}
use Rattle.al_plain.specs.declared.loops.Loop.{Loop as Kept}

abbrev pub loop_of : Kept → Loop
loop_of l = record {
  info = record {
    number = l.number;
    func = l.note.now.func;
    line = l.note.now.line;
    counter = l.counter;
    bound = l.bound;
    first = l.note.now.first;
    last = l.note.now.last;
    own = l.note.now.own;
  };
  locals = l.locals;
  body = l.body.now;
}
