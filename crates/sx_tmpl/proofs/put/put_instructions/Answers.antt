use Rattle.std.proofs.Common.{◌<◌, length, arith}
use Rattle.sx_tmpl.proofs.Putting.{written, shaped_behind}
use Rattle.sx_tmpl.proofs.put.put_instructions.Goals as goal

pub loop-instruction-preserved : goal.loop-instruction-preserved
loop-instruction-preserved c =
    let lt : c.loop-instruction.instruction-index < length c.args.instructions.now = omega (arith, c.loop-instruction-test.true, c.loop-instruction.auto.instruction-index-end) in (
      written c.args.instructions.now c.loop-instruction.instruction-index _ c.loop-instruction.text.items c.put_instruction.new.text.items _ lt
          c.in_ok-put_instruction.ensures c.loop-instruction.invariant.0,
      shaped_behind c.args.instructions.now c.loop-instruction.instruction-index lt c.loop-instruction.invariant.1,
    )
