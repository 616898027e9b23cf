use Rattle.std.proofs.Common.{◌≡◌, subst, IfOk, List}
use Rattle.sx_mean.specs.declared.apps.Link.{Link}
use Rattle.sx_mean.specs.View.{app_as}
use Rattle.sx_deploy.specs.Ends.{ends_held}
use Rattle.sx_deploy.proofs.Held.{held_if}
use Rattle.sx_deploy.proofs.deployment.Deployment.ends.Goals as goal

pub returns : goal.returns
returns c =
    held_if (app_as c.args.self.now.app) c.args.module c.ends_in.result
    (subst (λ (links : List Link). IfOk c.ends_in.result (λ ends. ends.items ≡ ends_held links c.args.module)) c.deref.ensures.value c.ends_in.ensures)
