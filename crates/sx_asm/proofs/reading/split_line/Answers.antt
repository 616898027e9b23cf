use Rattle.sx_asm.specs.Reading.{is_newline}
use Rattle.sx_asm.proofs.Growing.{nothing_in_front}
use Rattle.sx_asm.proofs.reading.split_line.Goals as goal

pub loop-i-init : goal.loop-i-init
loop-i-init c = nothing_in_front is_newline c.args.text.now
