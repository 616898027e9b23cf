use Rattle.std.proofs.Common.{◌∙◌, ◌+◌, ◌∷◌, ℕ, List, Ok, take, arith, ap, refl, subst, sym}
use Rattle.sx_asm.specs.Assembled.{assembled}
use Rattle.sx_io.specs.Reading.{Answer, Line}
use Rattle.sx_io.specs.Streams.{SourceAt}
use Rattle.sx_io.specs.declared.lines.LineRead.TheVariants as read
use Rattle.command_promise.specs.declared.status.Status.TheVariants.{WriteFailed}
use Rattle.command_promise.specs.Told.{Output, Told, command_at, read_line}
use Rattle.command_promise.specs.Parts.{Notes}
use Rattle.command_promise.specs.declared.turned.Turned.TheVariants.{On, Stop}
use Rattle.command_promise.proofs.Laws.{ends-same, told-end, told-too-long, told-failed}
use Rattle.sx_deploy.specs.SeenDeployment.{deployed_as}
use Rattle.spec_run.specs.Accepted.{setting}
use Rattle.spec_run.specs.Law.{IsSoundSetting}
use Rattle.spec_run.specs.Setting.{Site}
use Rattle.sx_world.specs.Standing.{Stands}
use Rattle.spec_run.specs.State.{World, switched_on}
use Rattle.command_text.specs.Output.{end_line}
use Rattle.command_text.proofs.Keeping.{Keeps, keeps_asked, keeps_failed, keeps_more, keeps_new, keeps_stop, keeps_text}
use Rattle.command_head.proofs.Came.{came_text}
use Rattle.command_deploy.proofs.Given.{gave_none}
use Rattle.command_world.specs.Schedule.{judged_line}
use Rattle.command_world.specs.Turning.{MayRunOut}
use Rattle.command_run.specs.Promise.{run_may}
use Rattle.command_run.specs.Turns.{TurnsLine, shown_from}
use Rattle.command_run.proofs.Counted.{gave_came, ran_out_came}
use Rattle.command_run.proofs.Written.{shown_ended, shown_too_long, shown_unread}
use Rattle.command_run.proofs.schedule.run_lines.Goals as goal

pub lines-init : goal.lines-init
lines-init g c =
    let d = deployed_as c.args.deployment.now in
    let set = setting g.T.Tag.mac d c.args.world.now.sites in record {
      few = omega arith;
      counted = ap (λ (k : ℕ). k + 1) c.requires.new;
      sites = refl;
      between = record {
        world = switched_on set;
        stands = c.requires.stands;
        keeps = λ limit m0 defined aside noted b. subst (λ (t : List ℕ). Keeps g.S.Source.tells g.K.Sink.tells limit m0
            (command_at (g.S.Source.at c.args.input.now) (g.K.Sink.at c.args.output.now)) c.args.lines.now defined t
            (shown_from c.args.shown d.names set (switched_on set) 1) (Notes aside noted)) (sym c.new-kept.ensures) (keeps_new b);
        gave = gave_none _ _ _;
      };
    }

pub returns-in-Err-clause-rest : goal.returns-in-Err-clause-rest
returns-in-Err-clause-rest g c = λ limit m0 defined aside noted b.
    let d = deployed_as c.args.deployment.now in
    let set = setting g.T.Tag.mac d c.args.world.now.sites in
    let st = c.lines.invariant.between in
    let e = c.in-Err.ensures.comes in
    subst (λ (s : SourceAt). Told g.S.Source.tells g.K.Sink.tells limit m0 (command_at s (g.K.Sink.at c.next_line.new.output)) WriteFailed defined (Notes aside noted)) (sym e.1)
    (keeps_failed (shown_from c.args.shown d.names set st.world c.lines.number) (st.keeps limit m0 defined aside noted b) e.0)

pub returns-in-Ok-End-clause-rest : goal.returns-in-Ok-End-clause-rest
unfolding end_line
returns-in-Ok-End-clause-rest g c = λ limit m0 defined aside noted b.
    let d = deployed_as c.args.deployment.now in
    let set = setting g.T.Tag.mac d c.args.world.now.sites in
    let st = c.lines.invariant.between in
    let f = shown_from c.args.shown d.names set st.world c.lines.number in
    let unread = shown_unread c.args.shown d.names set st.world c.lines.number in
    let now = keeps_asked (g.S.Source.at c.next_line.new.input) (g.K.Sink.at c.next_line.new.output) c.next_line.new.lines c.next_line.new.kept.items c.next_line.new.into read.End f
    c.next_line.result (c.in-Ok-End.is ∙ ap Ok c.in-Ok-End.field-0-is) (λ h. h) unread (st.keeps limit m0 defined aside noted b) c.next_line.ensures.comes in
    told-end {f = f} unread now.0 now.1 (ends-same _ _ _ _ _ _ (shown_ended c.args.shown d.names set st.world c.lines.number) c.finish.ensures.ends)

pub returns-in-Ok-TooLong-clause-rest : goal.returns-in-Ok-TooLong-clause-rest
returns-in-Ok-TooLong-clause-rest g c = λ limit m0 defined aside noted b.
    let d = deployed_as c.args.deployment.now in
    let set = setting g.T.Tag.mac d c.args.world.now.sites in
    let st = c.lines.invariant.between in
    let f = shown_from c.args.shown d.names set st.world c.lines.number in
    let unread = shown_unread c.args.shown d.names set st.world c.lines.number in
    let now = keeps_asked (g.S.Source.at c.next_line.new.input) (g.K.Sink.at c.next_line.new.output) c.next_line.new.lines c.next_line.new.kept.items c.next_line.new.into read.TooLong f
    c.next_line.result (c.in-Ok-TooLong.is ∙ ap Ok c.in-Ok-TooLong.field-0-is) (λ h. h) unread (st.keeps limit m0 defined aside noted b) c.next_line.ensures.comes in
    told-too-long {f = f} unread now.0 now.1 (ends-same _ _ _ _ _ _ (shown_too_long c.args.shown d.names set st.world c.lines.number) c.break_off.ensures.ends)

pub returns-in-Ok-Failed-clause-rest : goal.returns-in-Ok-Failed-clause-rest
unfolding read_line
returns-in-Ok-Failed-clause-rest g c = λ limit m0 defined aside noted b.
    let d = deployed_as c.args.deployment.now in
    let set = setting g.T.Tag.mac d c.args.world.now.sites in
    let st = c.lines.invariant.between in
    let f = shown_from c.args.shown d.names set st.world c.lines.number in
    let unread = shown_unread c.args.shown d.names set st.world c.lines.number in
    let now = keeps_asked (g.S.Source.at c.next_line.new.input) (g.K.Sink.at c.next_line.new.output) c.next_line.new.lines c.next_line.new.kept.items c.next_line.new.into read.Failed f
    c.next_line.result (c.in-Ok-Failed.is ∙ ap Ok c.in-Ok-Failed.field-0-is) (λ h. h) unread (st.keeps limit m0 defined aside noted b) c.next_line.ensures.comes in
    told-failed {f = f} unread now.0 now.1 (ends-same _ _ _ _ _ _ unread c.finish-in-Ok-Failed.ensures.ends)

pub turn-requires-clause-images : goal.turn-requires-clause-images
turn-requires-clause-images g c =
    let P : List Site → Type 0 = λ sites. IsSoundSetting (setting g.T.Tag.mac (deployed_as c.args.deployment.now) sites) in
    subst P (sym c.lines.invariant.sites) c.requires.images

pub turn-requires-clause-going : goal.turn-requires-clause-going
turn-requires-clause-going g c = λ goes.
    let st = c.lines.invariant.between in
    let P : List Site → Type 0 = λ sites. Stands (setting g.T.Tag.mac (deployed_as c.args.deployment.now) sites) c.lines.world st.world in
    (st.world, subst P (sym c.lines.invariant.sites) st.stands)

pub returns-in-Stop-clause-rest : goal.returns-in-Stop-clause-rest
returns-in-Stop-clause-rest g c = λ limit m0 defined aside noted b.
    let d = deployed_as c.args.deployment.now in
    let set = setting g.T.Tag.mac d c.args.world.now.sites in
    let st = c.lines.invariant.between in
    let f = shown_from c.args.shown d.names set st.world c.lines.number in
    let text = take c.in-Ok-Text.n c.next_line.new.into in
    let now = keeps_text (g.S.Source.at c.next_line.new.input) (g.K.Sink.at c.next_line.new.output) c.next_line.new.lines c.next_line.new.kept.items c.next_line.new.into c.in-Ok-Text.n f
    c.next_line.result (c.in-Ok-Text.is ∙ ap Ok c.in-Ok-Text.field-0-is) (shown_unread c.args.shown d.names set st.world c.lines.number) (st.keeps limit m0 defined aside noted b)
    c.next_line.ensures.comes in
    let P : List Site → Type 0 = λ sites. (w : World) → Stands (setting g.T.Tag.mac d sites) c.lines.world w
    → TurnsLine c.args.shown g.K.Sink.tells (g.K.Sink.at c.next_line.new.output) (g.K.Sink.at c.turn.new.output) c.next_line.new.kept.items c.turn.new.kept.items d.names
    (setting g.T.Tag.mac d sites) c.turn.new.world c.lines.number text (Stop c.in-Stop.status) w in
    keeps_stop (λ more. f (Line text ∷ more)) now (subst P c.lines.invariant.sites c.in-Stop.ensures.turns st.world st.stands).does

pub returns-in-Err-clause-wanted : goal.returns-in-Err-clause-wanted
returns-in-Err-clause-wanted g c = λ six. absurd (cc six)

pub returns-in-Ok-End-clause-wanted : goal.returns-in-Ok-End-clause-wanted
returns-in-Ok-End-clause-wanted g c = λ six. absurd (cc (six, c.finish.ensures.status (λ five. cc (six, five))))

pub returns-in-Ok-TooLong-clause-wanted : goal.returns-in-Ok-TooLong-clause-wanted
returns-in-Ok-TooLong-clause-wanted g c = λ six. absurd (c.break_off.ensures.memory six)

pub returns-in-Ok-Failed-clause-wanted : goal.returns-in-Ok-Failed-clause-wanted
returns-in-Ok-Failed-clause-wanted g c = λ six. absurd (cc (six, c.finish-in-Ok-Failed.ensures.status (λ five. cc (six, five))))

pub returns-in-Stop-clause-wanted : goal.returns-in-Stop-clause-wanted
returns-in-Stop-clause-wanted g c = λ six.
    let d = deployed_as c.args.deployment.now in
    let gave = c.lines.invariant.between.gave in
    let came = came_text _ _ _ _ _ _ _ _ _ _ c.next_line.result (c.in-Ok-Text.is ∙ ap Ok c.in-Ok-Text.field-0-is) c.next_line.ensures.comes in
    let P : ℕ → Type 0 = λ number. MayRunOut (judged_line assembled d.names number (take c.in-Ok-Text.n c.next_line.new.into)) in
    ran_out_came c.next_line.new.into c.in-Ok-Text.n gave came (run_may assembled d) (subst P gave.numbered (c.in-Stop.ensures.memory (ap Stop six)))

pub lines-preserved : goal.lines-preserved
lines-preserved g c =
    let d = deployed_as c.args.deployment.now in
    let set = setting g.T.Tag.mac d c.args.world.now.sites in
    let st = c.lines.invariant.between in
    let f = shown_from c.args.shown d.names set st.world c.lines.number in
    let text = take c.in-Ok-Text.n c.next_line.new.into in
    let is = c.in-Ok-Text.is ∙ ap Ok c.in-Ok-Text.field-0-is in
    let P : List Site → Type 0 = λ sites. (w : World) → Stands (setting g.T.Tag.mac d sites) c.lines.world w
    → TurnsLine c.args.shown g.K.Sink.tells (g.K.Sink.at c.next_line.new.output) (g.K.Sink.at c.turn.new.output) c.next_line.new.kept.items c.turn.new.kept.items d.names
    (setting g.T.Tag.mac d sites) c.turn.new.world c.lines.number text On w in
    let t = subst P c.lines.invariant.sites c.in-On.ensures.turns st.world st.stands in record {
      few = omega (arith, c.in-On.ensures.few refl);
      counted = ap (λ (k : ℕ). k + 1) (c.in-On.ensures.counts refl);
      sites = c.in-On.ensures.sites ∙ c.lines.invariant.sites;
      between = record {
        world = t.next;
        stands = t.stands refl;
        keeps = λ limit m0 defined aside noted b.
            keeps_more (λ more. f (Line text ∷ more)) (shown_from c.args.shown d.names set t.next (c.lines.number + 1))
            (keeps_text (g.S.Source.at c.next_line.new.input) (g.K.Sink.at c.next_line.new.output) c.next_line.new.lines c.next_line.new.kept.items c.next_line.new.into c.in-Ok-Text.n f
            c.next_line.result is (shown_unread c.args.shown d.names set st.world c.lines.number) (st.keeps limit m0 defined aside noted b) c.next_line.ensures.comes)
            t.does;
        gave = gave_came c.next_line.new.into c.in-Ok-Text.n st.gave (came_text _ _ _ _ _ _ _ _ _ _ c.next_line.result is c.next_line.ensures.comes);
      };
    }
