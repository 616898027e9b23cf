use Rattle.sx_asm.specs.Grammar.{is_semicolon}
use Rattle.sx_asm.proofs.Growing.{nothing_in_front}
use Rattle.sx_asm.proofs.reading.split_piece.Goals as goal

pub loop-i-init : goal.loop-i-init
loop-i-init c = nothing_in_front is_semicolon c.args.tokens.now
