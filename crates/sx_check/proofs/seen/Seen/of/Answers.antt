use Rattle.std.proofs.Common.{[]}
use Rattle.sx_check.proofs.seen.Seen.of.Goals as goal

pub returns : goal.returns
returns c = c.push.ensures [] c.new.ensures.empty
