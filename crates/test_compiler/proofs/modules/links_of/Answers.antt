use Rattle.sx_lang.specs.declared.sides.Side.TheVariants.{From}
use Rattle.sx_mean.specs.declared.events.End.{End}
use Rattle.sx_compile.proofs.Links.{links_done, links_turn}
use Rattle.test_compiler.proofs.modules.links_of.Goals as goal

pub loop-e-preserved : goal.loop-e-preserved
loop-e-preserved c =
    let d : End = record { link = 0; side = From; port = 0 } in
    links_turn c.args.ends.now c.loop-e.e-index d c.loop-e.links.items c.push.new.self.items c.link_of.result c.loop-e-test.true c.link_of.ensures c.in_ok-push.ensures.items c.loop-e.invariant

pub returns : goal.returns
returns c = links_done c.args.ends.now c.loop-e.e-index c.loop-e.links.items c.loop-e-test.false c.loop-e.invariant
