use Rattle.std.proofs.Common.{◌≡◌, ◌++◌, drop}
use Rattle.sx_world.specs.Granted.{own_from}
use Rattle.sx_world.proofs.grants.add_own.Given as goal

abbrev pub invariant-loop-n : goal.invariant-loop-n
invariant-loop-n g l =
    l.grants.items ++ own_from l.deployer.state.epochs l.m l.boot l.n (drop l.n l.links) ≡ l.fn.grants.items ++ own_from l.deployer.state.epochs l.m l.boot 0 l.links
