use Rattle.std.proofs.Common.{◌∙◌, arith}
use Rattle.sx_paged.proofs.Joined.{byte-joined}
use Rattle.sx_paged.proofs.bus.PagedBusBus.get.Goals as goal

pub returns : goal.returns
returns c = c.get.ensures ∙ byte-joined c.args.self.now.pages c.args.at c.args.self.now.shaped (omega (arith, c.ranges.at.fits))
