use Rattle.sx_trace.proofs.ItemsDiffer.{items_differ}
use Rattle.sx_trace.proofs.laws.items_differ.Goals as goal

pub returns : goal.returns
returns c = items_differ
