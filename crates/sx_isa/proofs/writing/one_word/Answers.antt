use Rattle.std.proofs.Common.{arith, ◌*◌, ◌%◌}
use Rattle.sx_isa.proofs.Bits.{one_fields}
use Rattle.sx_isa.proofs.writing.one_word.Goals as goal
use Rattle.lemmas.specs.Truth.{truth}

pub returns : goal.returns
returns c =
    one_fields (c.args.op * 128 % 65536) (c.from.result * 64 % 65536) (c.args.mode * 16 % 65536) c.args.register c.args.op (truth c.args.byte) c.args.mode
    (omega arith) (grind arith) (omega arith) (omega arith) (omega arith) (grind arith) (omega arith)
