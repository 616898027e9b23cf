use Rattle.std.proofs.Common.{length}
use Rattle.sx_paged.proofs.paged.Paged.+copy_bytes.Given as goal

abbrev pub decreases-copy_bytes : goal.decreases-copy_bytes
decreases-copy_bytes l = length l.into.now
