use Rattle.std.proofs.Common.{arith, ◌*◌, ◌%◌}
use Rattle.sx_isa.proofs.Bits.{two_fields}
use Rattle.sx_isa.proofs.writing.two_word.Goals as goal
use Rattle.lemmas.specs.Truth.{truth}

pub returns : goal.returns
returns c =
    two_fields (c.args.op * 4096 % 65536) (c.args.source * 256 % 65536) (c.args.ad * 128 % 65536) (c.from.result * 64 % 65536) (c.args.mode * 16 % 65536)
    c.args.destination c.args.op c.args.source c.args.ad (truth c.args.byte) c.args.mode
    (omega arith) (omega arith) (omega arith) (grind arith) (omega arith) (omega arith) (omega arith) (omega arith) (omega arith) (grind arith) (omega arith)
