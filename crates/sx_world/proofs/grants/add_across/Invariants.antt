use Rattle.std.proofs.Common.{◌≡◌, ◌++◌, drop}
use Rattle.sx_world.specs.Granted.{across_from}
use Rattle.sx_world.proofs.grants.add_across.Given as goal

abbrev pub invariant-loop-n : goal.invariant-loop-n
invariant-loop-n g l =
    l.grants.items ++ across_from l.deployer l.parts l.m l.n (drop l.n l.links) ≡ l.fn.grants.items ++ across_from l.deployer l.parts l.m 0 l.links
