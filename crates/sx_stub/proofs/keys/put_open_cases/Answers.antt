use Rattle.std.proofs.Common.{length, arith}
use Rattle.sx_mean.specs.declared.events.End.{End}
use Rattle.sx_lang.specs.declared.sides.Side.TheVariants.{From}
use Rattle.sx_stub.specs.Stub.{case_of, open_any}
use Rattle.sx_stub.proofs.Steps.{cases_turn, grown}
use Rattle.sx_stub.proofs.keys.put_open_cases.Goals as goal

pub loop-e-preserved : goal.loop-e-preserved
loop-e-preserved c =
    let d : End = record { link = 0; side = From; port = 0 } in
    let x = c.loop-e.code.items in
    let y = c.put_open_case.new.code.items in
    let long = grown x y (case_of open_any (length x) c.loop-e.k d) c.in_ok-put_open_case.ensures in
    let before = c.loop-e.invariant.1 in
    let number = c.loop-e.invariant.0 in (
      omega (arith, number),
      omega (arith, long, before),
      cases_turn open_any c.args.ends.now c.loop-e.e-index c.loop-e.k d x y _ c.loop-e-test.true c.in_ok-put_open_case.ensures c.loop-e.invariant.2,
    )
