use Rattle.sx_deploy.specs.SeenDeployment.{deployed_as}
use Rattle.sx_mean.specs.View.{app_as}
use Rattle.sx_watch.specs.Watching.{property_as}
use Rattle.command_holds.proofs.Endings.{fault_ends, fault_read, property_ends}
use Rattle.command_holds.proofs.holds.judge_text.Goals as goal

pub returns-in-Ok : goal.returns-in-Ok
returns-in-Ok g c = property_ends (deployed_as c.args.deployment.now) c.args.text.now (property_as c.in-Ok.property) c.in-Ok.ensures c.answer.ensures

pub returns-in-Err-Fault : goal.returns-in-Err-Fault
returns-in-Err-Fault g c =
    let names = c.args.deployment.now.names in
    let read = fault_read names (app_as c.args.deployment.now.app) c.args.text.now c.read_property.result c.in-Err-Fault.field-0 c.in-Err-Fault.fault
    c.in-Err-Fault.is c.in-Err-Fault.field-0-is c.read_property.ensures in
    fault_ends (deployed_as c.args.deployment.now) c.args.text.now c.in-Err-Fault.fault _ c.in-Err-Fault.fault-is read c.refuse_property.ensures.ends
