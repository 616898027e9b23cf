use Rattle.std.proofs.Common.{drop, map}
use Rattle.sx_deploy.specs.Seen.{parsed_as}
use Rattle.sx_deploy.proofs.Begun.{Begun}
use Rattle.sx_deploy.proofs.sources.coded_all.Given as goal

abbrev pub invariant-loop-entry : goal.invariant-loop-entry
invariant-loop-entry l = Begun l.modules (map parsed_as l.done.items) (drop l.entry-index l.modules)
