use Rattle.std.proofs.Common.{arith, ◌*◌, ◌%◌}
use Rattle.sx_isa.proofs.Bits.{jump_fields}
use Rattle.sx_isa.proofs.writing.jump_word.Goals as goal

pub returns : goal.returns
returns c = jump_fields (c.args.cond * 1024 % 65536) c.args.field c.args.cond (omega arith) (omega arith) (omega arith)
