use Rattle.std.proofs.Common.{◌∙◌, ◌+◌, ◌∷◌, ℕ, take, arith, ap, refl, subst, sym}
use Rattle.sx_io.specs.Reading.{Line}
use Rattle.command_promise.specs.declared.status.Status.TheVariants.{Done}
use Rattle.command_promise.specs.Told.{read_line}
use Rattle.command_promise.specs.declared.turned.Turned.TheVariants.{Stop}
use Rattle.command_promise.proofs.Laws.{begun-line, begun-put, ends-same, told-stop, told-end, told-too-long, told-failed}
use Rattle.sx_deploy.specs.SeenDeployment.{deployed_as}
use Rattle.command_deploy.proofs.Given.{gave_last, gave_line, gave_none}
use Rattle.command_drive.specs.Output.{steps_text}
use Rattle.command_drive.specs.Promise.{drive_may}
use Rattle.command_drive.specs.Parts.{drive_from}
use Rattle.command_drive.specs.Input.{MayRunOut, judged_reading}
use Rattle.command_drive.proofs.Written.{drive_ended, drive_too_long, drive_unread}
use Rattle.command_drive.proofs.lines.read_lines.Goals as goal

pub lines-init : goal.lines-init
lines-init g c = record {
  few = omega arith;
  going = c.requires.going;
  memory = c.requires.memory;
  gave = gave_none _ _ _;
  between = λ set h f s. record { honest = h; follows = f; short = s; begun = λ limit m0 defined aside noted b. b };
}

pub returns-in-End-clause-rest : goal.returns-in-End-clause-rest
returns-in-End-clause-rest g c = λ set h f s limit m0 defined aside noted b.
    let d = deployed_as c.args.deployment.now in
    let st = c.lines.invariant.between set h f s in
    told-end {f = drive_from d set st.honest c.lines.number} (drive_unread d set st.honest c.lines.number st.short) (st.begun limit m0 defined aside noted b) c.in-End.ensures.next
    (ends-same _ _ _ _ _ _
    (drive_ended d set st.honest c.lines.number st.short
    ∙ ap (λ (n : ℕ). record { text = steps_text n; status = Done }) (sym (c.steps.ensures ∙ st.follows.world.shows.steps))) c.end_run.ensures.ends)

pub returns-in-TooLong-clause-rest : goal.returns-in-TooLong-clause-rest
returns-in-TooLong-clause-rest g c = λ set h f s limit m0 defined aside noted b.
    let d = deployed_as c.args.deployment.now in
    let st = c.lines.invariant.between set h f s in
    told-too-long {f = drive_from d set st.honest c.lines.number} (drive_unread d set st.honest c.lines.number st.short) (st.begun limit m0 defined aside noted b)
    c.in-TooLong.ensures.next (ends-same _ _ _ _ _ _ (drive_too_long d set st.honest c.lines.number st.short) c.break_reading.ensures.ends)

pub returns-in-Failed-clause-rest : goal.returns-in-Failed-clause-rest
unfolding read_line
returns-in-Failed-clause-rest g c = λ set h f s limit m0 defined aside noted b.
    let d = deployed_as c.args.deployment.now in
    let st = c.lines.invariant.between set h f s in
    told-failed {f = drive_from d set st.honest c.lines.number} (drive_unread d set st.honest c.lines.number st.short) (st.begun limit m0 defined aside noted b)
    c.in-Failed.ensures.next (ends-same _ _ _ _ _ _ (drive_unread d set st.honest c.lines.number st.short) c.finish.ensures.ends)

pub returns-in-Stop-clause-rest : goal.returns-in-Stop-clause-rest
returns-in-Stop-clause-rest g c = λ set h f s limit m0 defined aside noted b.
    let d = deployed_as c.args.deployment.now in
    let st = c.lines.invariant.between set h f s in
    told-stop
    (begun-line (drive_from d set st.honest c.lines.number) (drive_unread d set st.honest c.lines.number st.short) (st.begun limit m0 defined aside noted b) c.in-Text.ensures.next)
    (c.in-Stop.ensures.turns set st.honest st.follows st.short).does

pub returns-in-End-clause-wanted : goal.returns-in-End-clause-wanted
returns-in-End-clause-wanted g c = λ six. absurd (c.end_run.ensures.memory six)

pub returns-in-TooLong-clause-wanted : goal.returns-in-TooLong-clause-wanted
returns-in-TooLong-clause-wanted g c = λ six. absurd (c.break_reading.ensures.memory six)

pub returns-in-Failed-clause-wanted : goal.returns-in-Failed-clause-wanted
returns-in-Failed-clause-wanted g c = λ six. absurd (cc (six, c.finish.ensures.status (λ five. cc (six, five))))

pub returns-in-Stop-clause-wanted : goal.returns-in-Stop-clause-wanted
returns-in-Stop-clause-wanted g c = λ six.
    let d = deployed_as c.args.deployment.now in
    let gave = c.lines.invariant.gave in
    let P : ℕ → Type 0 = λ number. MayRunOut (judged_reading d number (take c.in-Text.n c.next.new.into)) in
    gave_last (drive_may d) c.next.new.into c.in-Text.n gave c.in-Text.ensures.next (subst P gave.numbered (c.in-Stop.ensures.certain (ap Stop six)))

pub lines-preserved : goal.lines-preserved
lines-preserved g c = record {
  few = omega (arith, c.in-On.ensures.few refl);
  going = c.in-On.ensures.goes_on refl;
  memory = c.in-On.ensures.memory refl;
  gave = gave_line c.next.new.into c.in-Text.n c.lines.invariant.gave c.in-Text.ensures.next;
  between = λ set h f s.
      let d = deployed_as c.args.deployment.now in
      let st = c.lines.invariant.between set h f s in
      let text = take c.in-Text.n c.next.new.into in
      let t = c.in-On.ensures.turns set st.honest st.follows st.short in
      record {
        honest = t.next;
        follows = t.follows refl;
        short = t.short refl;
        begun = λ limit m0 defined aside noted b.
            begun-put (λ more. drive_from d set st.honest c.lines.number (Line text ∷ more)) (drive_from d set t.next (c.lines.number + 1))
            (begun-line (drive_from d set st.honest c.lines.number) (drive_unread d set st.honest c.lines.number st.short) (st.begun limit m0 defined aside noted b) c.in-Text.ensures.next)
            t.does;
      };
}
