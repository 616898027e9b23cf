use Rattle.std.specs.Prelude.{◌≡◌, ◌++◌, drop}
use Rattle.command_snap.specs.Answers.{items_text}
use Rattle.command_snap.proofs.answers.items_text.Given as goal

-- the lines so far, and after them those of the items that are left
abbrev pub invariant-loop-item : goal.invariant-loop-item
invariant-loop-item l = l.text.items ++ items_text l.names l.at (drop l.item-index l.items) ≡ items_text l.names l.at l.items
