use Rattle.sx_isa.specs.Legal.{is_allowed}
use Rattle.std.proofs.Common.{[]}
use Rattle.std.proofs.lemmas.Bool.{and_parts}
use Rattle.sx_asm.specs.Meaning.{operand_at}
use Rattle.sx_asm.specs.Assembled.{is_source}
use Rattle.sx_asm.proofs.meaning.one_at.Goals as goal

pub source_at-requires : goal.source_at-requires
source_at-requires c =
    let arg = operand_at [] 0 c.args.arg.now in (and_parts (is_source arg) (is_allowed c.args.op c.args.byte arg) c.requires).0
