use Rattle.std.proofs.Common.{map, Vec, Global}
use Rattle.sx_deploy.specs.Seen.{parsed_as}
use Rattle.sx_deploy.specs.SeenDeployment.{deployed_as}
use Rattle.sx_deploy.specs.declared.sources.ParsedModule.{ParsedModule}
use Rattle.sx_deploy.proofs.Outcomes.{breaks, goes_on}
use Rattle.sx_deploy.proofs.deployment.deployed_from.Goals as goal

pub returns-in-Ok : goal.returns-in-Ok
returns-in-Ok c = goes_on deployed_as c.args.e.now (map parsed_as c.in-Ok.coded.items) c.deployed.result c.in-Ok.ensures c.deployed.ensures

pub returns-in-Err : goal.returns-in-Err
returns-in-Err c = breaks (λ (v : Vec ParsedModule Global). map parsed_as v.items) deployed_as c.args.e.now c.in-Err.error c.in-Err.ensures
