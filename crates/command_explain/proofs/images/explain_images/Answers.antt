use Rattle.std.proofs.Common.{◌∙◌, ◌+◌, arith, ap, refl, sym}
use Rattle.command_promise.specs.Told.{read_line}
use Rattle.command_promise.proofs.Laws.{ends-same, told-stop, told-end, told-too-long, told-failed}
use Rattle.sx_mean.specs.View.{app_as}
use Rattle.sx_deploy.specs.SeenDeployment.{deployed_as}
use Rattle.command_explain.specs.Output.{explain_start}
use Rattle.command_explain.specs.Trace.{on_image, start}
use Rattle.command_explain.proofs.Fronts.{passed_line}
use Rattle.command_explain.proofs.Starting.{behind_image, behind_trace, given, start_from}
use Rattle.command_explain.proofs.Wanted.{images_more, images_none, images_wants}
use Rattle.command_explain.proofs.images.explain_images.Goals as goal

pub lines-init : goal.lines-init
lines-init g c = record { few = omega arith; begun = λ means is limit m0 defined aside noted b. b; gave = images_none _ _ _ }

pub returns-in-End-clause-rest : goal.returns-in-End-clause-rest
returns-in-End-clause-rest g c = λ means is limit m0 defined aside noted b.
    let f = start_from (explain_start (app_as c.args.deployment.now.app) (means.item c.args.deployment.now.names)) c.lines.number in
    told-end {f = f} refl (c.lines.invariant.begun means is limit m0 defined aside noted b) c.in-End.ensures.passes.next c.break_off.ensures.ends

pub returns-in-TooLong-clause-rest : goal.returns-in-TooLong-clause-rest
returns-in-TooLong-clause-rest g c = λ means is limit m0 defined aside noted b.
    let f = start_from (explain_start (app_as c.args.deployment.now.app) (means.item c.args.deployment.now.names)) c.lines.number in
    told-too-long {f = f} refl (c.lines.invariant.begun means is limit m0 defined aside noted b) c.in-TooLong.ensures.passes.next c.break_off-in-TooLong.ensures.ends

pub returns-in-Failed-clause-rest : goal.returns-in-Failed-clause-rest
unfolding read_line
returns-in-Failed-clause-rest g c = λ means is limit m0 defined aside noted b.
    let f = start_from (explain_start (app_as c.args.deployment.now.app) (means.item c.args.deployment.now.names)) c.lines.number in
    told-failed {f = f} refl (c.lines.invariant.begun means is limit m0 defined aside noted b) c.in-Failed.ensures.passes.next c.finish.ensures.ends

pub returns-in-Trace-clause-rest : goal.returns-in-Trace-clause-rest
returns-in-Trace-clause-rest g c = λ means is limit m0 defined aside noted b.
    let app = app_as c.args.deployment.now.app in
    let item = means.item c.args.deployment.now.names in
    let p = c.in-Text.ensures.passes in
    let is_trace = sym (passed_line c.in-Text.count c.pass.new.front p.into c.in-Trace.ensures.room p.fronts c.lines.number) ∙ sym c.in-Trace.ensures.line in
    c.explain_trace.ensures.rest means is limit m0 defined aside noted
    (behind_trace (explain_start app item) refl c.lines.number (c.lines.invariant.begun means is limit m0 defined aside noted b) p.next is_trace)

pub returns-in-Other-clause-rest : goal.returns-in-Other-clause-rest
returns-in-Other-clause-rest g c = λ means is limit m0 defined aside noted b.
    let app = app_as c.args.deployment.now.app in
    let item = means.item c.args.deployment.now.names in
    let p = c.in-Text.ensures.passes in
    let is_other = sym (passed_line c.in-Text.count c.pass.new.front p.into c.in-Other.ensures.room p.fronts c.lines.number) ∙ sym c.in-Other.ensures.line in
    told-stop (given (explain_start app item) refl c.lines.number (c.lines.invariant.begun means is limit m0 defined aside noted b) p.next)
    (λ more. ends-same _ _ _ _ _ _ (ap (λ l. explain_start app item (on_image c.lines.number l more (start (c.lines.number + 1) more))) is_other) c.break_off-in-Other.ensures.ends)

pub returns-in-End-clause-wanted : goal.returns-in-End-clause-wanted
returns-in-End-clause-wanted g c = λ means is six. absurd (c.break_off.ensures.memory six)

pub returns-in-TooLong-clause-wanted : goal.returns-in-TooLong-clause-wanted
returns-in-TooLong-clause-wanted g c = λ means is six. absurd (c.break_off-in-TooLong.ensures.memory six)

pub returns-in-Failed-clause-wanted : goal.returns-in-Failed-clause-wanted
returns-in-Failed-clause-wanted g c = λ means is six. absurd (cc (six, c.finish.ensures.status (λ five. cc (six, five))))

pub returns-in-Trace-clause-wanted : goal.returns-in-Trace-clause-wanted
returns-in-Trace-clause-wanted g c = λ means is six.
    let p = c.in-Text.ensures.passes in
    let is_trace = sym (passed_line c.in-Text.count c.pass.new.front p.into c.in-Trace.ensures.room p.fronts c.lines.number) ∙ sym c.in-Trace.ensures.line in
    images_wants p.into c.in-Text.count c.lines.invariant.gave p.next means (deployed_as c.args.deployment.now) is_trace (c.explain_trace.ensures.wanted means is six)

pub returns-in-Other-clause-wanted : goal.returns-in-Other-clause-wanted
returns-in-Other-clause-wanted g c = λ means is six. absurd (c.break_off-in-Other.ensures.memory six)

pub lines-preserved : goal.lines-preserved
lines-preserved g c =
    let p = c.in-Text.ensures.passes in
    let is_image = sym (passed_line c.in-Text.count c.pass.new.front p.into c.in-Image.ensures.room p.fronts c.lines.number) ∙ sym c.in-Image.ensures.line in
    let few = c.in-Image.ensures.few refl in record {
      few = omega (arith, few);
      begun = λ means is limit m0 defined aside noted b.
          behind_image (explain_start (app_as c.args.deployment.now.app) (means.item c.args.deployment.now.names)) refl c.lines.number (c.lines.invariant.begun means is limit m0 defined aside noted b) p.next is_image;
      gave = images_more p.into c.in-Text.count c.lines.invariant.gave p.next is_image;
    }
