use Rattle.sx_isa.proofs.WithWords.{reads_extended}
use Rattle.sx_executor.proofs.decoded.Decoded.reads_on.Goals as goal

pub returns : goal.returns
returns c = λ second third.
    reads_extended c.args.self.now.first 0 0 second third c.args.self.now.words c.args.self.now.instruction c.args.self.now.read
