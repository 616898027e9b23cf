use Rattle.std.proofs.Common.{arith}
use Rattle.sx_io.proofs.Parts.{part_more, part_too_long, part_whole}
use Rattle.sx_io.proofs.line_parts.take_chunk.Goals as goal

pub returns-then-count-limit-clause-takes : goal.returns-then-count-limit-clause-takes
returns-then-count-limit-clause-takes c line h =
    part_too_long c.args.limit c.args.front.now c.args.front.now line c.args.chunk.now c.args.begun c.newline_or_len-count.result h c.newline_or_len-count.ensures.plain c.args.chunk.now
    c.newline_or_len-count.ensures.within (omega (arith, c.if-count-limit.true, c.requires.few))

pub returns-then-count-chunk-clause-takes : goal.returns-then-count-chunk-clause-takes
returns-then-count-chunk-clause-takes c line h =
    part_more c.args.limit c.args.front.now c.copy_front.new.front line c.args.chunk.now c.args.begun c.newline_or_len-count.result h
    c.newline_or_len-count.ensures.plain c.ends_in_return-ends.result
    (omega (arith, c.if-count-limit.false, c.requires.few)) c.newline_or_len-count.ensures.within c.copy_front.ensures.room (c.copy_front.ensures.front line h.count h.first)
    (c.ends_in_return-ends.ensures line h.ends) c.if-count-chunk.true

pub returns-clause-takes : goal.returns-clause-takes
returns-clause-takes c line h =
    part_whole c.args.limit c.args.front.now c.copy_front.new.front line c.args.chunk.now c.args.begun c.newline_or_len-count.result h
    c.newline_or_len-count.ensures.plain c.ends_in_return-ends.result
    (omega (arith, c.if-count-limit.false, c.requires.few)) c.newline_or_len-count.ensures.within c.copy_front.ensures.room (c.copy_front.ensures.front line h.count h.first)
    (c.ends_in_return-ends.ensures line h.ends)
    c.trimmed_count.result c.trimmed_count.ensures (omega (arith, c.if-count-chunk.false, c.newline_or_len-count.ensures.within))
    (c.newline_or_len-count.ensures.newline (omega (arith, c.if-count-chunk.false, c.newline_or_len-count.ensures.within)))
