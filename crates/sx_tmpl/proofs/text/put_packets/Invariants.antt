use Rattle.std.proofs.Common.{◌≡◌, ◌++◌}
use Rattle.sx_tmpl.specs.Text.{bytes_of, packet_words}
use Rattle.sx_tmpl.proofs.text.put_packets.Given as goal

abbrev pub invariant-loop-end : goal.invariant-loop-end
invariant-loop-end l = l.text.items ≡ l.fn.text.items ++ bytes_of (packet_words l.fn.layout.priv_from l.fn.code.ops.items l.end)
