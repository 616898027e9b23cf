use Rattle.std.proofs.Common.{map}
use Rattle.sx_deployer.specs.Keeping.{known}
use Rattle.sx_deployer.proofs.Firsts.{first_at_all}
use Rattle.sx_deployer.proofs.deployer.Deployer.new.Goals as goal

pub invariant_of-result : goal.invariant_of-result
invariant_of-result g c = (c.requires, first_at_all (map known c.args.targets.items) 64, record {})
