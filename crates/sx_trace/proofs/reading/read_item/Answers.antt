use Rattle.sx_trace.proofs.ItemsDiffer.{read_as_said}
use Rattle.sx_trace.proofs.reading.read_item.Goals as goal

pub returns : goal.returns
returns c = read_as_said c.args.names.now c.args.line.now c.item_in.result c.requires c.item_in.ensures.item c.item_in.ensures.fit
