use Rattle.std.proofs.Common.{◌≡◌, [], map, length}
use Rattle.std.specs.Vec.Iter.{into_iter_items}
use Rattle.sx_entries.specs.Stage.{made_after}
use Rattle.sx_deploy.specs.Checks.{checked_nth}
use Rattle.sx_deploy.specs.Seen.{checked_as, parsed_as}
use Rattle.sx_deploy.proofs.checks.checked_all.Given as goal

abbrev pub invariant-loop-module : goal.invariant-loop-module
invariant-loop-module l =
    made_after (λ done m. checked_nth (length done) m) (map checked_as l.done.items) (map parsed_as (into_iter_items l.module-iterator))
    ≡ made_after (λ done m. checked_nth (length done) m) [] (map parsed_as l.fn.modules.items)
