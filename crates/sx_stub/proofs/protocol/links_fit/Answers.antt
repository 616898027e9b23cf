use Rattle.sx_lang.specs.declared.sides.Side.TheVariants.{From}
use Rattle.sx_mean.specs.declared.events.End.{End}
use Rattle.sx_stub.proofs.Made.{links_turn}
use Rattle.sx_stub.proofs.protocol.links_fit.Goals as goal

pub loop-e-preserved : goal.loop-e-preserved
loop-e-preserved c =
    let d : End = record { link = 0; side = From; port = 0 } in
    links_turn c.args.ends.now c.loop-e.e-index d c.loop-e-test.true c.link_fits.ensures c.loop-e.invariant
