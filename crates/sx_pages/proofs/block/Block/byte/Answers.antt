use Rattle.std.proofs.Common.{sym, subst, ◌∙◌, arith}
use Rattle.sx_pages.specs.Arena.{HasByte}
use Rattle.sx_pages.proofs.Slots.{slot-at}
use Rattle.sx_pages.proofs.block.Block.byte.Goals as goal

pub byte_at-requires : goal.byte_at-requires
byte_at-requires c =
    (omega (arith, c.ranges.page.fits, c.ranges.at.fits), subst HasByte (sym (slot-at c.args.self.now.pages c.args.page c.args.at (omega (arith, c.ranges.at.fits)))) c.requires)

pub returns : goal.returns
returns c = sym (slot-at c.args.self.now.pages c.args.page c.args.at (omega (arith, c.ranges.at.fits))) ∙ c.byte_at.ensures
