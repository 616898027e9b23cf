use Rattle.sx_check.specs.Source.{source_tree}
use Rattle.sx_stub.proofs.Made.{stubs}
use Rattle.sx_stub.proofs.protocol.stub.Goals as goal

pub returns : goal.returns
returns g c = stubs (source_tree c.args.m.now) c.args.ends.now _ c.requires.few c.links_fit.ensures c.in_ok-ops.ensures c.new.ensures.items
