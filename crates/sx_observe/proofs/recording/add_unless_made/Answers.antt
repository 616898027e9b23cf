use Rattle.sx_observe.proofs.Fronts.{told_front}
use Rattle.sx_observe.proofs.recording.add_unless_made.Goals as goal

pub returns-in-Ok-clause-front : goal.returns-in-Ok-clause-front
returns-in-Ok-clause-front c =
    told_front c.push_item-in-Ok.result c.args.items.now.items _ c.push_item-in-Ok.new.items.items c.args.who c.args.made c.args.item c.if-made.false c.in-Ok.ensures.ok c.push_item-in-Ok.ensures.err
