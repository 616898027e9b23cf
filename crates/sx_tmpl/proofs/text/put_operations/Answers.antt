use Rattle.std.proofs.Common.{arith}
use Rattle.sx_tmpl.specs.Text.{addresses}
use Rattle.sx_tmpl.proofs.Texts.TextTurns.{turn}
use Rattle.sx_tmpl.proofs.text.put_operations.Goals as goal

pub loop-place-preserved : goal.loop-place-preserved
loop-place-preserved c =
    turn c.args.layout.now (addresses c.args.layout.now c.args.code.now) c.deref-operation-items.result.now c.loop-place.place _ c.loop-place.text.items c.put_operation.new.text.items _
    (omega (arith, c.loop-place-test.true, c.loop-place.auto.place-end)) c.in_ok-put_operation.ensures
    c.loop-place.invariant
