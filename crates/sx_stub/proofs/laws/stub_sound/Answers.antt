use Rattle.sx_stub.proofs.StubSound.{stub_sound}
use Rattle.sx_stub.proofs.laws.stub_sound.Goals as goal

pub returns : goal.returns
returns c = stub_sound
