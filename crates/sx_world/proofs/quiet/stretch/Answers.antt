use Rattle.sx_world.proofs.passing.Counted.{part_of, part_all, part_over, part_last, part_left, part_on, counted_boot, all_quiet, all_leaves}
use Rattle.sx_world.proofs.quiet.stretch.Goals as goal

pub part-part-requires : goal.part-part-requires
part-part-requires g c = counted_boot g.T.Tag.mac c.args.idle c.args.count c.parts.left c.args.node.now c.parts.node c.parts.invariant.counted c.requires

pub returns-in_default-clause-quiet : goal.returns-in_default-clause-quiet
returns-in_default-clause-quiet g c =
    let all = part_all g.T.Tag.mac c.args.idle c.args.count c.parts.left c.part-part.result.count c.args.node.now c.parts.node c.part-part.new.node c.part-part.result.last
    c.parts.invariant.counted c.part-part.ensures.quiet c.part-part.ensures.last c.part-part.ensures.left c.in_default.not-Some in
    all_quiet g.T.Tag.mac c.args.idle c.args.count c.args.node.now c.part-part.new.node all

pub returns-in_default-clause-left : goal.returns-in_default-clause-left
returns-in_default-clause-left g c =
    let all = part_all g.T.Tag.mac c.args.idle c.args.count c.parts.left c.part-part.result.count c.args.node.now c.parts.node c.part-part.new.node c.part-part.result.last
    c.parts.invariant.counted c.part-part.ensures.quiet c.part-part.ensures.last c.part-part.ensures.left c.in_default.not-Some in
    all_leaves g.T.Tag.mac c.args.idle c.args.count c.args.node.now c.part-part.new.node all

pub returns-then-ends-clause-quiet : goal.returns-then-ends-clause-quiet
returns-then-ends-clause-quiet g c =
    let p = part_of g.T.Tag.mac c.args.idle c.parts.left c.part-part.result.count c.parts.node c.part-part.new.node c.part-part.result.last c.in-Some.seen
    c.part-part.ensures.quiet c.part-part.ensures.last c.part-part.ensures.left c.in-Some.is in
    (part_over g.T.Tag.mac c.args.idle c.args.count c.parts.left c.part-part.result.count c.args.node.now c.parts.node c.part-part.new.node c.in-Some.seen c.parts.invariant.counted p).quiet

pub returns-then-ends-clause-last : goal.returns-then-ends-clause-last
returns-then-ends-clause-last g c =
    let p = part_of g.T.Tag.mac c.args.idle c.parts.left c.part-part.result.count c.parts.node c.part-part.new.node c.part-part.result.last c.in-Some.seen
    c.part-part.ensures.quiet c.part-part.ensures.last c.part-part.ensures.left c.in-Some.is in
    part_last g.T.Tag.mac c.args.idle c.args.count c.parts.left c.part-part.result.count c.args.node.now c.parts.node c.part-part.new.node c.in-Some.seen c.parts.invariant.counted p

pub returns-then-ends-clause-left : goal.returns-then-ends-clause-left
returns-then-ends-clause-left g c =
    let p = part_of g.T.Tag.mac c.args.idle c.parts.left c.part-part.result.count c.parts.node c.part-part.new.node c.part-part.result.last c.in-Some.seen
    c.part-part.ensures.quiet c.part-part.ensures.last c.part-part.ensures.left c.in-Some.is in
    part_left g.T.Tag.mac c.args.idle c.args.count c.parts.left c.part-part.result.count c.args.node.now c.parts.node c.part-part.new.node c.in-Some.seen c.parts.invariant.counted p

pub parts-preserved : goal.parts-preserved
parts-preserved g c =
    let p = part_of g.T.Tag.mac c.args.idle c.parts.left c.part-part.result.count c.parts.node c.part-part.new.node c.part-part.result.last c.in-Some.seen
    c.part-part.ensures.quiet c.part-part.ensures.last c.part-part.ensures.left c.in-Some.is in
    record { counted = part_on g.T.Tag.mac c.args.idle c.args.count c.parts.left c.part-part.result.count c.args.node.now c.parts.node c.part-part.new.node c.in-Some.seen c.parts.invariant.counted p (c.ends.ensures.silent c.if-ends.false) (c.ends.ensures.runs c.if-ends.false) }
