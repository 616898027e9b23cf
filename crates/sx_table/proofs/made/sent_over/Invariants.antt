use Rattle.std.proofs.Common.{◌≡◌, ◌++◌, drop}
use Rattle.sx_table.specs.Made.{sent_over}
use Rattle.sx_table.proofs.made.sent_over.Given as goal

abbrev pub invariant-loop-n : goal.invariant-loop-n
invariant-loop-n l = l.found.items ++ sent_over l.m l.n (drop l.n l.links) l.acts ≡ l.fn.found.items ++ sent_over l.m 0 l.links l.acts
