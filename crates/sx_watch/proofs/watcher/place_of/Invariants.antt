use Rattle.std.specs.Prelude.{◌≡◌, drop}
use Rattle.std.specs.List.{position_from}
use Rattle.sx_watch.specs.Topics.{same_topic}
use Rattle.sx_watch.proofs.watcher.place_of.Given as goal

abbrev pub invariant-loop-other : goal.invariant-loop-other
invariant-loop-other l = (l.place ≡ l.other-index) × (position_from (same_topic l.topic) l.place (drop l.other-index l.topics) ≡ position_from (same_topic l.topic) 0 l.topics)
