use Rattle.std.proofs.Common.{◌∙◌, ◌+◌, ◌∷◌, ℕ, List, take, arith, ap, refl, subst, sym}
use Rattle.sx_asm.specs.Assembled.{assembled}
use Rattle.sx_io.specs.Reading.{Line}
use Rattle.command_promise.specs.Told.{read_line}
use Rattle.command_promise.specs.declared.turned.Turned.TheVariants.{On, Stop}
use Rattle.command_promise.proofs.Laws.{begun-line, begun-put, begun-same, ends-same, told-stop, told-end, told-too-long, told-failed}
use Rattle.sx_deploy.specs.SeenDeployment.{deployed_as}
use Rattle.spec_run.specs.Accepted.{setting}
use Rattle.spec_run.specs.Law.{IsSoundSetting}
use Rattle.spec_run.specs.Setting.{Site}
use Rattle.sx_world.specs.Standing.{Stands}
use Rattle.spec_run.specs.State.{World, switched_on}
use Rattle.command_text.specs.Output.{end_line}
use Rattle.command_batch.specs.Output.{Runs, common_from, schedules_from}
use Rattle.command_batch.specs.Parts.{TurnsCommon}
use Rattle.command_batch.proofs.Giving.{may_line, may_mark, ran_out, since_line, since_none, wants_line}
use Rattle.command_batch.proofs.Written.{common_ended, common_ends, common_too_long, common_unread}
use Rattle.command_batch.proofs.common.common_lines.Goals as goal

pub lines-init : goal.lines-init
lines-init g c =
    let set = setting g.T.Tag.mac (deployed_as c.args.deployment.now) c.args.world.now.sites in record {
      few = omega arith;
      counted = ap (λ (k : ℕ). k + 1) c.requires.new;
      sites = refl;
      between = record { world = switched_on set; stands = c.requires.stands; begun = λ limit m0 defined aside noted b. b; since = since_none _ _ _ };
    }

pub returns-in-End-clause-rest : goal.returns-in-End-clause-rest
unfolding end_line
returns-in-End-clause-rest g c = λ limit m0 defined aside noted b.
    let d = deployed_as c.args.deployment.now in
    let set = setting g.T.Tag.mac d c.args.world.now.sites in
    let st = c.lines.invariant.between in
    told-end {f = common_from assembled d.names set st.world c.lines.number} (common_unread assembled d.names set st.world c.lines.number) (st.begun limit m0 defined aside noted b) c.in-End.ensures.next
    (ends-same _ _ _ _ _ _ (common_ended assembled d.names set st.world c.lines.number) c.finish.ensures.ends)

pub returns-in-TooLong-clause-rest : goal.returns-in-TooLong-clause-rest
returns-in-TooLong-clause-rest g c = λ limit m0 defined aside noted b.
    let d = deployed_as c.args.deployment.now in
    let set = setting g.T.Tag.mac d c.args.world.now.sites in
    let st = c.lines.invariant.between in
    told-too-long {f = common_from assembled d.names set st.world c.lines.number} (common_unread assembled d.names set st.world c.lines.number) (st.begun limit m0 defined aside noted b)
    c.in-TooLong.ensures.next (ends-same _ _ _ _ _ _ (common_too_long assembled d.names set st.world c.lines.number) c.break_off.ensures.ends)

pub returns-in-Failed-clause-rest : goal.returns-in-Failed-clause-rest
unfolding read_line
returns-in-Failed-clause-rest g c = λ limit m0 defined aside noted b.
    let d = deployed_as c.args.deployment.now in
    let set = setting g.T.Tag.mac d c.args.world.now.sites in
    let st = c.lines.invariant.between in
    told-failed {f = common_from assembled d.names set st.world c.lines.number} (common_unread assembled d.names set st.world c.lines.number) (st.begun limit m0 defined aside noted b)
    c.in-Failed.ensures.next (ends-same _ _ _ _ _ _ (common_unread assembled d.names set st.world c.lines.number) c.finish-in-Failed.ensures.ends)

-- ---- the schedules

pub run_schedules-requires-clause-images : goal.run_schedules-requires-clause-images
run_schedules-requires-clause-images g c =
    let P : List Site → Type 0 = λ sites. IsSoundSetting (setting g.T.Tag.mac (deployed_as c.args.deployment.now) sites) in
    subst P (sym c.lines.invariant.sites) c.requires.images

pub run_schedules-requires-clause-stood : goal.run_schedules-requires-clause-stood
run_schedules-requires-clause-stood g c =
    let st = c.lines.invariant.between in
    let P : List Site → Type 0 = λ sites. Stands (setting g.T.Tag.mac (deployed_as c.args.deployment.now) sites) c.lines.world st.world in
    (st.world, subst P (sym c.lines.invariant.sites) st.stands)

pub returns-then-is_mark-clause-rest : goal.returns-then-is_mark-clause-rest
returns-then-is_mark-clause-rest g c = λ limit m0 defined aside noted b.
    let mac = g.T.Tag.mac in
    let d = deployed_as c.args.deployment.now in
    let set = setting mac d c.args.world.now.sites in
    let st = c.lines.invariant.between in
    let n = c.lines.number in
    let text = take c.in-Text.n c.next.new.into in
    let P : List Site → Type 0 = λ sites. Stands (setting mac d sites) c.lines.world st.world in
    c.run_schedules.ensures.rest st.world (subst P (sym c.lines.invariant.sites) st.stands) limit m0 defined aside noted
    (begun-same (schedules_from assembled d.names (setting mac d c.lines.world.sites) st.world n 1 (Runs st.world) n)
    (λ more. common_ends assembled d.names set st.world n text more (sym c.is_mark.ensures ∙ c.if-is_mark.true)
    ∙ ap (λ (sites : List Site). schedules_from assembled d.names (setting mac d sites) st.world n 1 (Runs st.world) n more) (sym c.lines.invariant.sites))
    (begun-line (common_from assembled d.names set st.world n) (common_unread assembled d.names set st.world n) (st.begun limit m0 defined aside noted b) c.in-Text.ensures.next))

pub returns-then-is_mark-clause-wanted : goal.returns-then-is_mark-clause-wanted
returns-then-is_mark-clause-wanted g c = λ six.
    let d = deployed_as c.args.deployment.now in
    let text = take c.in-Text.n c.next.new.into in
    ran_out d (c.run_schedules.ensures.memory six _ _
    (wants_line d c.next.new.into c.in-Text.n c.lines.invariant.between.since c.in-Text.ensures.next (may_mark d text (sym c.is_mark.ensures ∙ c.if-is_mark.true))))

-- ---- a common line

pub turn-requires-clause-images : goal.turn-requires-clause-images
turn-requires-clause-images g c =
    let P : List Site → Type 0 = λ sites. IsSoundSetting (setting g.T.Tag.mac (deployed_as c.args.deployment.now) sites) in
    subst P (sym c.lines.invariant.sites) c.requires.images

pub turn-requires-clause-going : goal.turn-requires-clause-going
turn-requires-clause-going g c = λ goes.
    let st = c.lines.invariant.between in
    let P : List Site → Type 0 = λ sites. Stands (setting g.T.Tag.mac (deployed_as c.args.deployment.now) sites) c.lines.world st.world in
    (st.world, subst P (sym c.lines.invariant.sites) st.stands)

pub turn-requires-clause-unmarked : goal.turn-requires-clause-unmarked
turn-requires-clause-unmarked g c = sym c.is_mark.ensures ∙ c.if-is_mark.false

pub returns-in-Stop-clause-rest : goal.returns-in-Stop-clause-rest
returns-in-Stop-clause-rest g c = λ limit m0 defined aside noted b.
    let d = deployed_as c.args.deployment.now in
    let set = setting g.T.Tag.mac d c.args.world.now.sites in
    let st = c.lines.invariant.between in
    let text = take c.in-Text.n c.next.new.into in
    let P : List Site → Type 0 = λ sites. (w : World) → Stands (setting g.T.Tag.mac d sites) c.lines.world w
    → TurnsCommon g.K.Sink.tells (g.K.Sink.at c.lines.output) (g.K.Sink.at c.turn.new.output) d.names (setting g.T.Tag.mac d sites)
    c.turn.new.world c.lines.number text (Stop c.in-Stop.status) w in
    told-stop (begun-line (common_from assembled d.names set st.world c.lines.number) (common_unread assembled d.names set st.world c.lines.number) (st.begun limit m0 defined aside noted b) c.in-Text.ensures.next)
    (subst P c.lines.invariant.sites c.in-Stop.ensures.turns st.world st.stands).does

pub returns-in-Stop-clause-wanted : goal.returns-in-Stop-clause-wanted
returns-in-Stop-clause-wanted g c = λ six.
    let d = deployed_as c.args.deployment.now in
    let text = take c.in-Text.n c.next.new.into in
    ran_out d (wants_line d c.next.new.into c.in-Text.n c.lines.invariant.between.since c.in-Text.ensures.next
    (may_line d c.lines.number text (c.in-Stop.ensures.memory (ap Stop six))))

pub returns-in-End-clause-wanted : goal.returns-in-End-clause-wanted
returns-in-End-clause-wanted g c = λ six. absurd (cc (six, c.finish.ensures.status (λ five. cc (six, five))))

pub returns-in-TooLong-clause-wanted : goal.returns-in-TooLong-clause-wanted
returns-in-TooLong-clause-wanted g c = λ six. absurd (c.break_off.ensures.memory six)

pub returns-in-Failed-clause-wanted : goal.returns-in-Failed-clause-wanted
returns-in-Failed-clause-wanted g c = λ six. absurd (cc (six, c.finish-in-Failed.ensures.status (λ five. cc (six, five))))

pub lines-preserved : goal.lines-preserved
lines-preserved g c =
    let d = deployed_as c.args.deployment.now in
    let set = setting g.T.Tag.mac d c.args.world.now.sites in
    let st = c.lines.invariant.between in
    let text = take c.in-Text.n c.next.new.into in
    let P : List Site → Type 0 = λ sites. (w : World) → Stands (setting g.T.Tag.mac d sites) c.lines.world w
    → TurnsCommon g.K.Sink.tells (g.K.Sink.at c.lines.output) (g.K.Sink.at c.turn.new.output) d.names (setting g.T.Tag.mac d sites)
    c.turn.new.world c.lines.number text On w in
    let t = subst P c.lines.invariant.sites c.in-On.ensures.turns st.world st.stands in record {
      few = omega (arith, c.in-On.ensures.few refl);
      counted = ap (λ (k : ℕ). k + 1) (c.in-On.ensures.counts refl);
      sites = c.in-On.ensures.sites ∙ c.lines.invariant.sites;
      between = record {
        world = t.next;
        stands = t.stands refl;
        begun = λ limit m0 defined aside noted b.
            begun-put (λ more. common_from assembled d.names set st.world c.lines.number (Line text ∷ more)) (common_from assembled d.names set t.next (c.lines.number + 1))
            (begun-line (common_from assembled d.names set st.world c.lines.number) (common_unread assembled d.names set st.world c.lines.number) (st.begun limit m0 defined aside noted b) c.in-Text.ensures.next)
            t.does;
        since = since_line c.next.new.into c.in-Text.n st.since c.in-Text.ensures.next;
      };
    }
