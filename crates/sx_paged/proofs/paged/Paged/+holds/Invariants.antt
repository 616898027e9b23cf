use Rattle.std.proofs.Common.{length}
use Rattle.sx_paged.proofs.paged.Paged.+holds.Given as goal

abbrev pub decreases-holds : goal.decreases-holds
decreases-holds l = length l.expected.now
