use Rattle.std.proofs.Common.{◌∙◌}
use Rattle.std.proofs.lemmas.List.{at_drop_all}
use Rattle.command_text.proofs.Ends.{all_lines}
use Rattle.command_snap.specs.Answers.{items_text}
use Rattle.command_snap.proofs.Registers.{next_item}
use Rattle.command_snap.proofs.answers.items_text.Goals as goal

pub loop-item-preserved : goal.loop-item-preserved
loop-item-preserved c =
    next_item c.args.names.now c.args.at c.args.items.now c.loop-item.item-index c.loop-item.text.items _ _ c.loop-item-test.true c.in_ok-push_item.ensures ∙ c.loop-item.invariant

pub returns : goal.returns
returns c =
    all_lines _ _ _ c.loop-item.invariant (at_drop_all (items_text c.args.names.now c.args.at) c.args.items.now c.loop-item.item-index c.loop-item-test.false)
