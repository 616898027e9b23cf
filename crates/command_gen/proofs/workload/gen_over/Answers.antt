use Rattle.std.proofs.Common.{ℕ, List, subst, Ok, Err}
use Rattle.sx_entries.specs.Gives.{GivesOne}
use Rattle.sx_deploy.specs.Deployment.{IsRead}
use Rattle.sx_deploy.specs.SeenDeployment.{deployed_as}
use Rattle.sx_deploy.specs.declared.deployment.Deployment.{Deployment}
use Rattle.command_gen.proofs.Generated.{gen_refused, wrote_told}
use Rattle.command_gen.proofs.workload.gen_over.Goals as goal

pub gen_deployment-requires-clause-read : goal.gen_deployment-requires-clause-read
gen_deployment-requires-clause-read g c =
    let P : List ℕ → Type 0 = λ text. IsRead text (Ok (deployed_as c.in-Ok.deployment)) in subst P c.head.ensures c.in-Ok.ensures.read

pub returns-in-Ok : goal.returns-in-Ok
returns-in-Ok g c = wrote_told c.requires c.gen_deployment.ensures

pub returns-in-Err : goal.returns-in-Err
returns-in-Err g c =
    let Q : List ℕ → Type 0 = λ t. GivesOne {T = Deployment} deployed_as (Err c.in-Err.error) (IsRead t) in
    wrote_told c.requires (gen_refused g.T.Tag.mac c.args.samples c.in-Err.error (subst Q c.head.ensures c.in-Err.ensures.read) c.refuse.ensures)
