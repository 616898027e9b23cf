use Rattle.std.proofs.Common.{◌∙◌, ◌+◌, take, arith, sym}
use Rattle.sx_asm.specs.Assembled.{assembled}
use Rattle.command_promise.specs.Told.{read_line}
use Rattle.command_promise.proofs.Laws.{begun-line, begun-same, ends-same, told-end, told-failed, told-stop, told-too-long}
use Rattle.command_batch.specs.Output.{Passes, schedules_from}
use Rattle.command_batch.specs.Parts.{next_from, passed_from}
use Rattle.command_batch.proofs.Giving.{may_mark, since_line, since_none, since_then, wants_line}
use Rattle.command_batch.proofs.Written.{goes_on_passing, passing_ends, schedule_ended, schedule_ends, schedule_passes, schedule_too_long, schedule_unread}
use Rattle.command_batch.proofs.passing.pass_over.Goals as goal

pub lines-init : goal.lines-init
lines-init g c = record { since = since_none _ _ _; begun = λ names set start first count limit m0 defined aside noted b. b }

pub returns-in-End-clause-reads : goal.returns-in-End-clause-reads
returns-in-End-clause-reads g c = λ names set start first count limit m0 defined aside noted b.
    let n = c.lines.number in
    told-end {f = schedules_from assembled names set start first count Passes (n + 1)} (schedule_unread assembled names set start first count Passes (n + 1))
    (goes_on_passing names set start first count n c.lines-test.true (c.lines.invariant.begun names set start first count limit m0 defined aside noted b)) c.in-End.ensures.next
    (ends-same _ _ _ _ _ _ (schedule_ended assembled names set start first count Passes (n + 1)) c.finish.ensures.ends)

pub returns-in-TooLong-clause-reads : goal.returns-in-TooLong-clause-reads
returns-in-TooLong-clause-reads g c = λ names set start first count limit m0 defined aside noted b.
    let n = c.lines.number in
    told-too-long {f = schedules_from assembled names set start first count Passes (n + 1)} (schedule_unread assembled names set start first count Passes (n + 1))
    (goes_on_passing names set start first count n c.lines-test.true (c.lines.invariant.begun names set start first count limit m0 defined aside noted b)) c.in-TooLong.ensures.next
    (ends-same _ _ _ _ _ _ (schedule_too_long assembled names set start first count Passes (n + 1)) c.break_off.ensures.ends)

pub returns-in-Failed-clause-reads : goal.returns-in-Failed-clause-reads
unfolding read_line
returns-in-Failed-clause-reads g c = λ names set start first count limit m0 defined aside noted b.
    let n = c.lines.number in
    told-failed {f = schedules_from assembled names set start first count Passes (n + 1)} (schedule_unread assembled names set start first count Passes (n + 1))
    (goes_on_passing names set start first count n c.lines-test.true (c.lines.invariant.begun names set start first count limit m0 defined aside noted b)) c.in-Failed.ensures.next
    (ends-same _ _ _ _ _ _ (schedule_unread assembled names set start first count Passes (n + 1)) c.finish-in-Failed.ensures.ends)

pub returns-then-is_mark-clause-reads : goal.returns-then-is_mark-clause-reads
returns-then-is_mark-clause-reads g c = λ names set start first count limit m0 defined aside noted b.
    let n = c.lines.number in
    let left = schedules_from assembled names set start first count Passes (n + 1) in
    begun-same (next_from names set start first count)
    (λ more. schedule_ends assembled names set start first count Passes (n + 1) (take c.in-Text.n c.next.new.into) more (sym c.is_mark.ensures ∙ c.if-is_mark.true))
    (begun-line left (schedule_unread assembled names set start first count Passes (n + 1))
    (goes_on_passing names set start first count n c.lines-test.true (c.lines.invariant.begun names set start first count limit m0 defined aside noted b)) c.in-Text.ensures.next)

pub returns-then-is_mark-clause-marked : goal.returns-then-is_mark-clause-marked
returns-then-is_mark-clause-marked g c = λ on d s1 old w.
    wants_line d c.next.new.into c.in-Text.n (since_then w c.lines.invariant.since) c.in-Text.ensures.next
    (may_mark d (take c.in-Text.n c.next.new.into) (sym c.is_mark.ensures ∙ c.if-is_mark.true))

pub lines-preserved : goal.lines-preserved
lines-preserved g c =
    record {
      since = since_line c.next.new.into c.in-Text.n c.lines.invariant.since c.in-Text.ensures.next;
      begun = λ names set start first count limit m0 defined aside noted b.
          let n = c.lines.number in
          begun-same (passed_from names set start first count (n + 1))
          (λ more. schedule_passes assembled names set start first count (n + 1) (take c.in-Text.n c.next.new.into) more (sym c.is_mark.ensures ∙ c.if-is_mark.false))
          (begun-line (schedules_from assembled names set start first count Passes (n + 1)) (schedule_unread assembled names set start first count Passes (n + 1))
          (goes_on_passing names set start first count n c.lines-test.true (c.lines.invariant.begun names set start first count limit m0 defined aside noted b)) c.in-Text.ensures.next);
    }

pub returns-clause-reads : goal.returns-clause-reads
returns-clause-reads g c = λ names set start first count limit m0 defined aside noted b.
    let fits = c.lines.auto.number-fits in
    let last = c.lines-test.false in
    told-stop (c.lines.invariant.begun names set start first count limit m0 defined aside noted b)
    (λ more. ends-same _ _ _ _ _ _ (passing_ends names set start first count c.lines.number more (omega arith)) c.end_long.ensures.ends)
