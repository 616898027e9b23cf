use Rattle.sx_stub.proofs.StubInvokes.{stub_invokes}
use Rattle.sx_stub.proofs.laws.stub_invokes.Goals as goal

pub returns : goal.returns
returns c = stub_invokes
