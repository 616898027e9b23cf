use Rattle.std.proofs.Common.{refl, []}
use Rattle.command_promise.proofs.Laws.{told-stop, ends-out-of-memory, prefix-none}
use Rattle.sx_watch.specs.Watching.{property_as}
use Rattle.command_watch.specs.Output.{watch_from}
use Rattle.command_watch.proofs.trace.watch_trace.Goals as goal

pub returns-in-Ok-clause-rest : goal.returns-in-Ok-clause-rest
returns-in-Ok-clause-rest g c = λ means is. c.watch_lines.ensures.rest means (property_as c.args.property) is c.in-Ok.ensures

pub returns-in-Err-clause-rest : goal.returns-in-Err-clause-rest
returns-in-Err-clause-rest g c = λ means is limit m0 defined aside noted b.
    told-stop b (λ more. ends-out-of-memory _ _ _ (watch_from (property_as c.args.property) (means.item c.args.names.now) [] more) (λ t. prefix-none _ _ _ refl) refl)
