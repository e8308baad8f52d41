use Rattle.std.proofs.Common.{rules, ◌≡◌, false}
use Rattle.al_io.specs.MemSink.{put_fails}
use Rattle.al_io.proofs.mem_sink.MemSinkSink.put.Goals as goal

pub returns-clause-failed : goal.returns-clause-failed
returns-clause-failed c =
    let whole : put_fails c.args.self.now c.args.bytes.now ≡ false = search rules in
    (λ failed. absurd (cc), λ fails. absurd (cc))
