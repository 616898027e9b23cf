use Rattle.std.specs.Prelude.{◌≡◌, drop}
use Rattle.std.specs.List.{list_any}
use Rattle.sx_watch.specs.Watched.{is_emit}
use Rattle.sx_watch.proofs.watcher.has_emit.Given as goal

abbrev pub invariant-loop-act : goal.invariant-loop-act
invariant-loop-act l = list_any is_emit (drop l.act-index l.acts) ≡ list_any is_emit l.acts
