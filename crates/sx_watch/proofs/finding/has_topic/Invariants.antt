use Rattle.std.specs.Prelude.{◌≡◌, drop}
use Rattle.std.specs.List.{list_any}
use Rattle.std.specs.Option.{option_eq}
use Rattle.sx_watch.specs.Topics.{same_topic}
use Rattle.sx_watch.proofs.finding.has_topic.Given as goal

abbrev pub invariant-loop-other : goal.invariant-loop-other
invariant-loop-other l = list_any (option_eq same_topic l.topic) (drop l.other-index l.topics) ≡ list_any (option_eq same_topic l.topic) l.topics
