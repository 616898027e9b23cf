use Rattle.std.proofs.Common.{◌≡◌, ◌<◌, ◌∙◌, ap, arith}
use Rattle.std.specs.Prelude.{slice_index}
use Rattle.sx_ir.specs.Sizes.{routines}
use Rattle.sx_tmpl.proofs.Texts.TextTurns.{before_below}
use Rattle.sx_tmpl.proofs.templates.routines_before.Goals as goal

pub preceding-requires : goal.preceding-requires
preceding-requires c =
    let count = c.requires.table.counts.count in
    let index = c.from.ensures in
    omega (arith, c.ranges.end.fits, count, index)

pub returns-clause-count : goal.returns-clause-count
returns-clause-count c =
    let byte : c.args.end < 256 = omega (arith, c.ranges.end.fits) in
    c.preceding.ensures ∙ ap (slice_index c.args.table.now.routines.items) c.from.ensures ∙ c.requires.table.counts.each c.args.end byte

pub returns-clause-below : goal.returns-clause-below
returns-clause-below c =
    let byte : c.args.end < 256 = omega (arith, c.ranges.end.fits) in
    let count : c.preceding.result ≡ routines c.args.code.now.ops.items c.args.end =
    c.preceding.ensures ∙ ap (slice_index c.args.table.now.routines.items) c.from.ensures ∙ c.requires.table.counts.each c.args.end byte in
    before_below c.args.layout.now c.args.code.now c.args.table.now c.args.end c.preceding.result c.requires.table byte count
