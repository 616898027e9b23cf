use Rattle.std.proofs.Common.{◌≡◌, ◌∙◌, ◌+◌, ◌∷◌, ℕ, List, take, arith, ap, refl, subst, sym}
use Rattle.sx_asm.specs.Assembled.{assembled}
use Rattle.sx_io.specs.Reading.{Line}
use Rattle.command_promise.specs.declared.status.Status.TheVariants.{OutOfMemory}
use Rattle.command_promise.specs.Told.{command_at, read_line}
use Rattle.command_promise.proofs.Laws.{begun-line, begun-put, begun-same, ends-same, told-stop, told-end, told-too-long, told-failed}
use Rattle.sx_deploy.specs.SeenDeployment.{deployed_as}
use Rattle.spec_run.specs.Accepted.{setting}
use Rattle.spec_run.specs.Law.{IsSoundSetting}
use Rattle.spec_run.specs.Setting.{Site}
use Rattle.spec_run.specs.State.{World}
use Rattle.sx_world.specs.Standing.{Stands}
use Rattle.command_text.specs.Output.{end_line}
use Rattle.command_batch.specs.Output.{Runs, schedules_from}
use Rattle.command_batch.specs.Parts.{RepliesLine, next_from, passed_from}
use Rattle.command_batch.specs.declared.schedules.Outcome.TheVariants.{Broken, On, Stop}
use Rattle.command_batch.proofs.Giving.{may_line, may_mark, since_line, since_none, since_then, wants_line}
use Rattle.command_batch.proofs.Reading.{reads_put, reads_then}
use Rattle.command_batch.proofs.Written.{schedule_ended, schedule_ends, schedule_too_long, schedule_unread}
use Rattle.command_batch.proofs.schedules.run_schedule.Goals as goal

pub lines-init : goal.lines-init
lines-init g c = record {
  few = c.requires.few;
  counted = c.requires.counted;
  sites = refl;
  between = λ start stands. record { world = start; stands = stands; begun = λ count limit m0 defined aside noted b. b };
  since = since_none _ _ _;
}

pub returns-in-End-clause-reads : goal.returns-in-End-clause-reads
unfolding end_line
returns-in-End-clause-reads g c = λ start count stands limit m0 defined aside noted b.
    let d = deployed_as c.args.deployment.now in
    let set = setting g.T.Tag.mac d c.args.world.now.sites in
    let st = c.lines.invariant.between start stands in
    let first = c.args.first in
    told-end {f = schedules_from assembled d.names set start first count (Runs st.world) c.lines.number} (schedule_unread assembled d.names set start first count (Runs st.world) c.lines.number)
    (st.begun count limit m0 defined aside noted b) c.in-End.ensures.next
    (ends-same _ _ _ _ _ _ (schedule_ended assembled d.names set start first count (Runs st.world) c.lines.number) c.finish.ensures.ends)

pub returns-in-TooLong-clause-reads : goal.returns-in-TooLong-clause-reads
returns-in-TooLong-clause-reads g c = λ start count stands limit m0 defined aside noted b.
    let d = deployed_as c.args.deployment.now in
    let set = setting g.T.Tag.mac d c.args.world.now.sites in
    let st = c.lines.invariant.between start stands in
    let first = c.args.first in
    told-too-long {f = schedules_from assembled d.names set start first count (Runs st.world) c.lines.number} (schedule_unread assembled d.names set start first count (Runs st.world) c.lines.number)
    (st.begun count limit m0 defined aside noted b) c.in-TooLong.ensures.next
    (ends-same _ _ _ _ _ _ (schedule_too_long assembled d.names set start first count (Runs st.world) c.lines.number) c.break_off.ensures.ends)

pub returns-in-Failed-clause-reads : goal.returns-in-Failed-clause-reads
unfolding read_line
returns-in-Failed-clause-reads g c = λ start count stands limit m0 defined aside noted b.
    let d = deployed_as c.args.deployment.now in
    let set = setting g.T.Tag.mac d c.args.world.now.sites in
    let st = c.lines.invariant.between start stands in
    let first = c.args.first in
    told-failed {f = schedules_from assembled d.names set start first count (Runs st.world) c.lines.number} (schedule_unread assembled d.names set start first count (Runs st.world) c.lines.number)
    (st.begun count limit m0 defined aside noted b) c.in-Failed.ensures.next
    (ends-same _ _ _ _ _ _ (schedule_unread assembled d.names set start first count (Runs st.world) c.lines.number) c.finish-in-Failed.ensures.ends)

-- ---- the mark

pub returns-then-is_mark-clause-reads : goal.returns-then-is_mark-clause-reads
unfolding end_line
returns-then-is_mark-clause-reads g c = λ start count stands.
    let d = deployed_as c.args.deployment.now in
    let set = setting g.T.Tag.mac d c.args.world.now.sites in
    let st = c.lines.invariant.between start stands in
    let first = c.args.first in
    let here = schedules_from assembled d.names set start first count (Runs st.world) c.lines.number in
    reads_put (g.K.Sink.at c.put_text.new.output) c.put_text.result end_line (schedules_from assembled d.names set start first count (Runs start) first) (next_from d.names set start first count)
    (λ limit m0 defined aside noted b.
    begun-same _ (λ more. schedule_ends assembled d.names set start first count (Runs st.world) c.lines.number (take c.in-Text.n c.next.new.into) more (sym c.is_mark.ensures ∙ c.if-is_mark.true))
    (begun-line here (schedule_unread assembled d.names set start first count (Runs st.world) c.lines.number) (st.begun count limit m0 defined aside noted b) c.in-Text.ensures.next))
    (c.put_text.ensures.does (next_from d.names set start first count))

pub returns-then-is_mark-clause-marked : goal.returns-then-is_mark-clause-marked
returns-then-is_mark-clause-marked g c = λ on s1 old w.
    let d = deployed_as c.args.deployment.now in
    wants_line d c.next.new.into c.in-Text.n (since_then w c.lines.invariant.since) c.in-Text.ensures.next
    (may_mark d (take c.in-Text.n c.next.new.into) (sym c.is_mark.ensures ∙ c.if-is_mark.true))

pub returns-then-is_mark-clause-memory : goal.returns-then-is_mark-clause-memory
returns-then-is_mark-clause-memory g c = λ six. absurd (c.put_text.ensures.memory six)

-- ---- a line

pub turn-requires-clause-images : goal.turn-requires-clause-images
turn-requires-clause-images g c =
    let P : List Site → Type 0 = λ sites. IsSoundSetting (setting g.T.Tag.mac (deployed_as c.args.deployment.now) sites) in
    subst P (sym c.lines.invariant.sites) c.requires.images

pub turn-requires-clause-going : goal.turn-requires-clause-going
turn-requires-clause-going g c = λ goes.
    let st = c.lines.invariant.between c.requires.stood.0 c.requires.stood.1 in
    let P : List Site → Type 0 = λ sites. Stands (setting g.T.Tag.mac (deployed_as c.args.deployment.now) sites) c.lines.world st.world in
    (st.world, subst P (sym c.lines.invariant.sites) st.stands)

pub turn-requires-clause-unmarked : goal.turn-requires-clause-unmarked
turn-requires-clause-unmarked g c = sym c.is_mark.ensures ∙ c.if-is_mark.false

pub returns-in-Stop-clause-reads : goal.returns-in-Stop-clause-reads
returns-in-Stop-clause-reads g c = λ start count stands limit m0 defined aside noted b.
    let d = deployed_as c.args.deployment.now in
    let set = setting g.T.Tag.mac d c.args.world.now.sites in
    let st = c.lines.invariant.between start stands in
    let first = c.args.first in
    let text = take c.in-Text.n c.next.new.into in
    let P : List Site → Type 0 = λ sites. (w : World) → Stands (setting g.T.Tag.mac d sites) c.lines.world w
    → RepliesLine g.K.Sink.tells (g.K.Sink.at c.lines.output) (g.K.Sink.at c.turn.new.output) d.names (setting g.T.Tag.mac d sites)
    c.turn.new.world c.lines.number text (Stop c.in-Stop.status) w in
    told-stop (begun-line (schedules_from assembled d.names set start first count (Runs st.world) c.lines.number)
    (schedule_unread assembled d.names set start first count (Runs st.world) c.lines.number) (st.begun count limit m0 defined aside noted b) c.in-Text.ensures.next)
    ((subst P c.lines.invariant.sites c.in-Stop.ensures.replies st.world st.stands).replies start first count)

pub returns-in-Stop-clause-memory : goal.returns-in-Stop-clause-memory
returns-in-Stop-clause-memory g c = λ six s1 old w.
    let d = deployed_as c.args.deployment.now in
    let text = take c.in-Text.n c.next.new.into in
    wants_line d c.next.new.into c.in-Text.n (since_then w c.lines.invariant.since) c.in-Text.ensures.next
    (may_line d c.lines.number text (c.in-Stop.ensures.memory (let same : c.in-Stop.status ≡ OutOfMemory = cc six in ap Stop same)))

-- ---- one that breaks a rule

pub returns-in-Broken-clause-reads : goal.returns-in-Broken-clause-reads
returns-in-Broken-clause-reads g c = λ start count stands.
    let d = deployed_as c.args.deployment.now in
    let set = setting g.T.Tag.mac d c.args.world.now.sites in
    let st = c.lines.invariant.between start stands in
    let first = c.args.first in
    let text = take c.in-Text.n c.next.new.into in
    let here = schedules_from assembled d.names set start first count (Runs st.world) c.lines.number in
    let P : List Site → Type 0 = λ sites. (w : World) → Stands (setting g.T.Tag.mac d sites) c.lines.world w
    → RepliesLine g.K.Sink.tells (g.K.Sink.at c.lines.output) (g.K.Sink.at c.turn.new.output) d.names (setting g.T.Tag.mac d sites)
    c.turn.new.world c.lines.number text Broken w in
    let t = subst P c.lines.invariant.sites c.in-Broken.ensures.replies st.world st.stands in
    reads_then c.pass_over.new.lines (command_at (g.S.Source.at c.pass_over.new.input) (g.K.Sink.at c.pass_over.new.output)) c.pass_over.result (schedules_from assembled d.names set start first count (Runs start) first) (passed_from d.names set start first count c.lines.number)
    (next_from d.names set start first count)
    (λ limit m0 defined aside noted b.
    begun-put (λ more. here (Line text ∷ more)) (passed_from d.names set start first count c.lines.number)
    (begun-line here (schedule_unread assembled d.names set start first count (Runs st.world) c.lines.number) (st.begun count limit m0 defined aside noted b) c.in-Text.ensures.next)
    (t.replies start first count))
    (c.pass_over.ensures.reads d.names set start first count)

pub returns-in-Broken-clause-marked : goal.returns-in-Broken-clause-marked
returns-in-Broken-clause-marked g c = λ on s1 old w.
    let d = deployed_as c.args.deployment.now in
    c.pass_over.ensures.marked on d s1 old (since_line c.next.new.into c.in-Text.n (since_then w c.lines.invariant.since) c.in-Text.ensures.next)

pub returns-in-Broken-clause-memory : goal.returns-in-Broken-clause-memory
returns-in-Broken-clause-memory g c = λ six. absurd (c.pass_over.ensures.memory six)

pub lines-preserved : goal.lines-preserved
lines-preserved g c =
    let d = deployed_as c.args.deployment.now in
    let set = setting g.T.Tag.mac d c.args.world.now.sites in
    let text = take c.in-Text.n c.next.new.into in
    let first = c.args.first in
    let n = c.lines.number in
    let P : List Site → Type 0 = λ sites. (w : World) → Stands (setting g.T.Tag.mac d sites) c.lines.world w
    → RepliesLine g.K.Sink.tells (g.K.Sink.at c.lines.output) (g.K.Sink.at c.turn.new.output) d.names (setting g.T.Tag.mac d sites)
    c.turn.new.world c.lines.number text On w in
    let replies = subst P c.lines.invariant.sites c.in-On.ensures.replies in record {
      few = omega (arith, c.in-On.ensures.few refl);
      counted = ap (λ (k : ℕ). k + 1) (c.in-On.ensures.counts refl);
      sites = c.in-On.ensures.sites ∙ c.lines.invariant.sites;
      between = λ start stands.
          let st = c.lines.invariant.between start stands in
          let t = replies st.world st.stands in record {
            world = t.next;
            stands = t.stands refl;
            begun = λ count limit m0 defined aside noted b.
                begun-put (λ more. schedules_from assembled d.names set start first count (Runs st.world) n (Line text ∷ more))
                (schedules_from assembled d.names set start first count (Runs t.next) (n + 1))
                (begun-line (schedules_from assembled d.names set start first count (Runs st.world) n) (schedule_unread assembled d.names set start first count (Runs st.world) n)
                (st.begun count limit m0 defined aside noted b) c.in-Text.ensures.next)
                (t.replies start first count);
          };
      since = since_line c.next.new.into c.in-Text.n c.lines.invariant.since c.in-Text.ensures.next;
    }
