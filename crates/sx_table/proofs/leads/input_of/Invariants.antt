use Rattle.std.proofs.Common.{◌≡◌, drop}
use Rattle.std.specs.List.{position_from}
use Rattle.sx_watch.specs.Topics.{same_topic}
use Rattle.sx_table.proofs.leads.input_of.Given as goal

abbrev pub invariant-loop-n : goal.invariant-loop-n
invariant-loop-n l = position_from (same_topic l.topic) l.n (drop l.n l.topics) ≡ position_from (same_topic l.topic) 0 l.topics
