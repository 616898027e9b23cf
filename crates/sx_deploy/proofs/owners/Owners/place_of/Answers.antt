use Rattle.std.proofs.Common.{◌∙◌}
use Rattle.sx_deploy.specs.Seen.{checked_as}
use Rattle.sx_deploy.proofs.Mapped.{place_of-among}
use Rattle.sx_deploy.proofs.owners.Owners.place_of.Goals as goal

pub returns-in-Some : goal.returns-in-Some
returns-in-Some c = rw c.in-Some.is (c.place_named.ensures ∙ place_of-among checked_as (λ m. m.name) c.args.self.now c.in-Some.name)
