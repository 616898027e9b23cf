use Rattle.sx_entries.proofs.EntriesKeep.{entries_keep}
use Rattle.sx_entries.proofs.laws.entries_keep.Goals as goal

pub returns : goal.returns
returns c = entries_keep
