use Rattle.std.proofs.Common.{◌∙◌, arith}
use Rattle.sx_pages.proofs.Slots.{with-slot-at}
use Rattle.sx_pages.proofs.block.Block.put.Goals as goal

pub returns : goal.returns
returns c = (c.put_at.ensures.0, c.put_at.ensures.1 ∙ with-slot-at c.args.self.now.pages c.args.page c.args.at c.args.byte (omega (arith, c.ranges.at.fits)))
