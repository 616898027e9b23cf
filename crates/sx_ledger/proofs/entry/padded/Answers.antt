use Rattle.std.proofs.Common.{List, ◌++◌, ap, length}
use Rattle.std.proofs.lemmas.List.{drop-replicate}
use Rattle.sx_ledger.proofs.entry.padded.Goals as goal

pub returns : goal.returns
returns c = rw c.copy_from_slice.ensures.after (ap (λ (s : List _). c.args.bytes.now ++ s) (drop-replicate (length c.args.bytes.now) 32 0))
