use Rattle.std.proofs.Common.{subst, [], Result, List, Vec, Global}
use Rattle.sx_entries.specs.Gives.{Gives}
use Rattle.sx_entries.specs.declared.fault.DeployFault.{DeployFault}
use Rattle.sx_entries.proofs.Mapped.{made_after-map}
use Rattle.sx_deploy.specs.Places.{placed_module}
use Rattle.sx_deploy.specs.Seen.{checked_as}
use Rattle.sx_deploy.specs.declared.placing.Placement.{Placement}
use Rattle.sx_deploy.proofs.placing.sections_placed.Goals as goal

pub returns : goal.returns
returns c =
    subst (λ (meant : Result (List Placement) DeployFault). Gives (λ (v : Vec Placement Global). v.items) c.derived.result meant)
    (made_after-map checked_as (placed_module c.args.devices.now c.args.links.now) [] c.args.modules.now) c.derived.ensures
