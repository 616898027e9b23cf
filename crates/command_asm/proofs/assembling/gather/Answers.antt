use Rattle.std.proofs.Common.{sym, arith, ◌∙◌, take}
use Rattle.command_asm.specs.Assembling.{broken_at, with_line}
use Rattle.command_asm.specs.Gathering.{gathered_bytes}
use Rattle.command_asm.proofs.Gathering.{come_line, come_past, come_starved, come_end, come_long, come_failed, come_as, whole_as, starved}
use Rattle.command_asm.proofs.assembling.gather.Goals as goal

pub returns-in-End : goal.returns-in-End
returns-in-End g c = come_end c.lines.number c.lines.count (gathered_bytes c.lines.gathered) c.lines.invariant.come c.in-End.ensures.next

pub returns-in-Failed : goal.returns-in-Failed
returns-in-Failed g c = come_failed c.lines.number c.lines.count (gathered_bytes c.lines.gathered) c.lines.invariant.come c.in-Failed.ensures.next

pub returns-in-TooLong : goal.returns-in-TooLong
returns-in-TooLong g c =
    let number = c.lines.number in
    let before = gathered_bytes c.lines.gathered in
    whole_as (broken_at number before) (gathered_bytes c.break_at.result) (sym c.break_at.ensures)
    (come_long number c.lines.count before c.lines.invariant.come c.in-TooLong.ensures.next)

pub returns-then-passes : goal.returns-then-passes
returns-then-passes g c =
    let number = c.lines.number in
    let before = gathered_bytes c.lines.gathered in
    whole_as (broken_at number before) (gathered_bytes c.break_at-then-passes.result) (sym c.break_at-then-passes.ensures)
    (come_past number c.lines.count before c.lines.invariant.come c.in-Text.ensures.next (sym c.passes.ensures.value ∙ c.if-passes.true))

pub returns-in_err-add_line-in-Text : goal.returns-in_err-add_line-in-Text
returns-in_err-add_line-in-Text g c =
    starved c.from_residual.result c.from_residual.ensures.1
    (come_starved c.lines.number c.lines.count (gathered_bytes c.lines.gathered) c.lines.invariant.come c.in-Text.ensures.next)

pub lines-preserved : goal.lines-preserved
lines-preserved g c =
    let number = c.lines.number in
    let before = gathered_bytes c.lines.gathered in
    record {
      few = c.passes.ensures.fits c.if-passes.false;
      numbered = omega arith;
      come =
          come_as (with_line number (take c.in-Text.n c.next.new.into) before) (gathered_bytes c.add_line.new.gathered) (sym c.in_ok-add_line-in-Text.ensures)
          (come_line number c.lines.count before c.lines.invariant.come c.in-Text.ensures.next (sym c.passes.ensures.value ∙ c.if-passes.false));
    }
