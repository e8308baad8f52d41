use Rattle.std.proofs.Common.{arith}
use Rattle.al_io.proofs.host_files.HostFilesFiles.TheImpl.Goals as goal

pub read-tells : goal.read-tells
read-tells g c = grind arith
