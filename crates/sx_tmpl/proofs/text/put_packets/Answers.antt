use Rattle.std.proofs.Common.{arith}
use Rattle.sx_tmpl.proofs.Texts.TextTurns.{packets_turn}
use Rattle.sx_tmpl.proofs.text.put_packets.Goals as goal

pub put_packet-requires-clause-slot : goal.put_packet-requires-clause-slot
put_packet-requires-clause-slot c = c.requires.slots c.loop-end.end (omega (arith, c.loop-end-test.true, c.loop-end.auto.end-end))

pub loop-end-preserved : goal.loop-end-preserved
loop-end-preserved c =
    packets_turn c.args.layout.now.priv_from c.args.code.now.ops.items c.loop-end.end c.loop-end.text.items c.put_packet.new.text.items c.args.text.now.items
    c.in_ok-put_packet.ensures c.loop-end.invariant
