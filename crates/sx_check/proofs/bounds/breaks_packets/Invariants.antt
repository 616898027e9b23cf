use Rattle.std.proofs.Common.{◌≡◌, drop, map}
use Rattle.std.specs.List.{list_any}
use Rattle.std.proofs.Common.{nat_lt}
use Rattle.sx_check.specs.Bounds.{block_sends}
use Rattle.sx_lang.specs.View.{handler_of}
use Rattle.sx_check.proofs.bounds.breaks_packets.Given as goal

abbrev pub invariant-loop-h : goal.invariant-loop-h
invariant-loop-h l = list_any (λ h. nat_lt 16 (block_sends h.body)) (map handler_of (drop l.h-index l.h-items)) ≡ list_any (λ h. nat_lt 16 (block_sends h.body)) (map handler_of l.h-items)
