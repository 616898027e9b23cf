use Rattle.spec_invocation.proofs.PiecesMarked.{pieces_marked}
use Rattle.spec_invocation.proofs.laws.pieces_marked.Goals as goal

pub returns : goal.returns
returns c = pieces_marked
