use Rattle.sx_stub.proofs.JoinedInvokes.{joined_invokes}
use Rattle.sx_stub.proofs.laws.joined_invokes.Goals as goal

pub returns : goal.returns
returns c = joined_invokes
