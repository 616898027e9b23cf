use Rattle.std.proofs.Common.{[], get_or, refl, ◌∙◌, arith, None}
use Rattle.std.proofs.lemmas.List.Elements.{All-get_or}
use Rattle.sx_pages.specs.Arena.{HasByte}
use Rattle.sx_pages.proofs.Slots.{length-page}
use Rattle.sx_pages.proofs.Loops.{blend-begins, blend-goes, blend-ends}
use Rattle.sx_pages.proofs.block.Block.copy_page.Goals as goal

pub loop-at-init : goal.loop-at-init
loop-at-init c = (refl, blend-begins c.args.self.now.pages c.args.page (get_or c.args.from.now.pages c.args.page []))

pub byte-requires : goal.byte-requires
byte-requires c =
    let page = get_or c.args.from.now.pages c.args.page [] in
    All-get_or HasByte page c.loop-at.at None (omega (arith, length-page c.args.from.now.pages c.args.page (omega (arith, c.ranges.page.fits)) c.args.from.now.shaped, c.loop-at-test.true)) c.requires

pub loop-at-preserved : goal.loop-at-preserved
loop-at-preserved c = (
  c.put.ensures.0 ∙ c.loop-at.invariant.0,
  c.put.ensures.1 ∙ blend-goes c.args.self.now.pages c.loop-at.self.pages c.args.page c.loop-at.at (get_or c.args.from.now.pages c.args.page []) _
      c.args.self.now.shaped (omega (arith, c.ranges.page.fits)) c.loop-at-test.true (length-page c.args.from.now.pages c.args.page (omega (arith, c.ranges.page.fits)) c.args.from.now.shaped)
      c.byte.ensures c.loop-at.invariant.1,
)

pub returns : goal.returns
returns c = (
  c.loop-at.invariant.0,
  c.loop-at.invariant.1 ∙ blend-ends c.args.self.now.pages c.args.page c.loop-at.at (get_or c.args.from.now.pages c.args.page []) c.args.self.now.shaped (omega (arith, c.ranges.page.fits))
      (omega (arith, c.loop-at-test.false, c.loop-at.auto.at-end)) (length-page c.args.from.now.pages c.args.page (omega (arith, c.ranges.page.fits)) c.args.from.now.shaped),
)
