use Rattle.std.proofs.Common.{◌≡◌, ◌++◌, drop}
use Rattle.sx_deploy.specs.Ends.{ends_after, ends_held}
use Rattle.sx_deploy.proofs.ends.ends_in.Given as goal

abbrev pub invariant-loop-number : goal.invariant-loop-number
invariant-loop-number l = l.ends.items ++ ends_after l.number l.place (drop l.number l.links) ≡ ends_held l.links l.place
