use Rattle.std.proofs.Common.{◌≡◌, ◌++◌, drop}
use Rattle.sx_mean.specs.Ends.{ends_after}
use Rattle.sx_mean.proofs.connections.ends_of.Given as goal

-- the ends of the connections so far, and after them those of the others
abbrev pub invariant-loop-n : goal.invariant-loop-n
invariant-loop-n l = l.ends.items ++ ends_after l.n l.part (drop l.n l.links) ≡ ends_after 0 l.part l.links
