use Rattle.std.proofs.Common.{◌≡◌, ◌+◌, ◌≤◌, drop}
use Rattle.std.proofs.Common.{min}
use Rattle.sx_lang.specs.View.{block_of}
use Rattle.sx_mean.specs.Application.{links_from, block_packets}
use Rattle.sx_mean.proofs.apps.+packets.Given as goal

abbrev pub invariant-packets_of_block-loop-s : goal.invariant-packets_of_block-loop-s
invariant-packets_of_block-loop-s l = (l.total ≤ 65536) × (min (l.total + block_packets (links_from l.links l.part) l.decls
    (block_of (drop l.s-index l.s-items))) 65536 ≡ min (block_packets (links_from l.links l.part) l.decls (block_of l.s-items)) 65536)
