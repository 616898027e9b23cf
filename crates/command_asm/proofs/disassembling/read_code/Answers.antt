use Rattle.std.proofs.Common.{[], ◌++◌, arith}
use Rattle.command_asm.proofs.Coming.{come_new, come_line, come_bad, come_end, come_long, come_failed}
use Rattle.command_asm.proofs.disassembling.read_code.Goals as goal

pub lines-init : goal.lines-init
lines-init g c =
    record { few = omega arith; come = ([], c.requires, come_new _ c.new-lines.ensures) }

pub returns-in-End : goal.returns-in-End
returns-in-End g c =
    let h = c.lines.invariant.come in
    (h.0, h.1, come_end c.lines.number h.0 h.2 c.in-End.ensures.next)

pub returns-in-TooLong : goal.returns-in-TooLong
returns-in-TooLong g c =
    let h = c.lines.invariant.come in
    come_long c.lines.number h.0 h.2 c.in-TooLong.ensures.next

pub returns-in-Failed : goal.returns-in-Failed
returns-in-Failed g c =
    let h = c.lines.invariant.come in
    come_failed c.lines.number h.0 h.2 c.in-Failed.ensures.next

pub returns-then-not-take_line : goal.returns-then-not-take_line
returns-then-not-take_line g c =
    let h = c.lines.invariant.come in
    come_bad c.lines.number h.0 h.2 c.in-Text.ensures.next
    (c.take_line.ensures.bad c.if-not-take_line.true)

pub lines-preserved : goal.lines-preserved
lines-preserved g c =
    let h = c.lines.invariant.come in
    let line = c.take_line.ensures.taken c.if-not-take_line.false in record {
      few = omega (arith, c.take_line.ensures.few c.if-not-take_line.false);
      come = (
        h.0 ++ line.0,
        line.2 h.0 h.1,
        come_line c.lines.number h.0 line.0 h.2 c.in-Text.ensures.next line.1,
      );
    }
