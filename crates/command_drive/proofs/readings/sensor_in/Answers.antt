use Rattle.std.proofs.Common.{◌∙◌, List, ap, sym}
use Rattle.sx_deploy.specs.SeenDeployment.{deployed_as}
use Rattle.sx_mean.specs.declared.apps.Part.{Part}
use Rattle.command_drive.specs.Parts.{is_driven}
use Rattle.command_drive.proofs.Sensors.{given_there, is_driven_there, not_driven_there, not_given, sensor_given}
use Rattle.command_drive.proofs.readings.sensor_in.Goals as goal

pub returns-then-is_driven-clause-sensor : goal.returns-then-is_driven-clause-sensor
returns-then-is_driven-clause-sensor c =
    let d = c.args.deployment.now in
    let device = c.in-Some.device in
    given_there (deployed_as d) c.args.word.now device (sym c.sensor.ensures.place ∙ c.in-Some.is)
    (is_driven_there d device (ap (λ (ps : List Part). is_driven ps device) (sym c.deref.ensures.value) ∙ sym c.is_driven.ensures ∙ c.if-is_driven.true))

pub returns-then-is_driven-clause-driven : goal.returns-then-is_driven-clause-driven
returns-then-is_driven-clause-driven c =
    let d = c.args.deployment.now in
    let device = c.in-Some.device in
    sensor_given (deployed_as d) c.args.word.now device
    (sym (given_there (deployed_as d) c.args.word.now device (sym c.sensor.ensures.place ∙ c.in-Some.is)
    (is_driven_there d device (ap (λ (ps : List Part). is_driven ps device) (sym c.deref.ensures.value) ∙ sym c.is_driven.ensures ∙ c.if-is_driven.true))))

pub returns-else-is_driven-clause-sensor : goal.returns-else-is_driven-clause-sensor
returns-else-is_driven-clause-sensor c =
    let d = c.args.deployment.now in
    let device = c.in-Some.device in
    not_given (deployed_as d) c.args.word.now device (sym c.sensor.ensures.place ∙ c.in-Some.is)
    (not_driven_there d device (ap (λ (ps : List Part). is_driven ps device) (sym c.deref.ensures.value) ∙ sym c.is_driven.ensures ∙ c.if-is_driven.false))
