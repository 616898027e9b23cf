use Rattle.std.proofs.Common.{length}
use Rattle.sx_model.proofs.sendings.+send_all.Given as goal

abbrev pub decreases-send_all : goal.decreases-send_all
decreases-send_all l = length l.sendings.now
