use Rattle.sx_isa.proofs.WithWords.{reads_extended}
use Rattle.sx_executor.specs.Shortcuts.{instruction_of, words_of}
use Rattle.sx_executor.proofs.shortcut.Shortcut.reads_on.Goals as goal

pub returns : goal.returns
returns c = λ second third.
    reads_extended c.args.self.now.first 0 0 second third (words_of c.args.self.now.form) (instruction_of c.args.self.now.form) c.args.self.now.read
