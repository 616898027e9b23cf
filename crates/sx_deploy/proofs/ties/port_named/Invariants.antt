use Rattle.std.proofs.Common.{◌≤◌, drop}
use Rattle.sx_deploy.proofs.Ports.{Passed}
use Rattle.sx_deploy.proofs.ties.port_named.Given as goal

abbrev pub invariant-loop-d : goal.invariant-loop-d
invariant-loop-d l = (l.before ≤ l.d-index) × Passed l.output l.decls l.name l.before (drop l.d-index l.decls)
