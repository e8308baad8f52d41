use Rattle.std.proofs.Common.{rules, ◌≡◌, true, false}
use Rattle.al_io.specs.MemFiles.{next_fails}
use Rattle.al_io.proofs.mem_files.MemFilesFiles.read.Goals as goal

pub returns-then-fails-clause-no_such : goal.returns-then-fails-clause-no_such
returns-then-fails-clause-no_such c =
    let fails : next_fails c.args.self.now ≡ true = search rules in
    λ quiet. absurd (cc)

pub returns-clause-failed : goal.returns-clause-failed
returns-clause-failed c =
    let quiet : next_fails c.args.self.now ≡ false = search rules in
    (λ failed. absurd (c.beginning.ensures.no_fault failed), λ fails. absurd (cc))
