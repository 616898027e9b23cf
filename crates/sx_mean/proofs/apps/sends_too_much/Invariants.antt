use Rattle.std.proofs.Common.{◌≡◌, drop, map, nat_lt}
use Rattle.std.proofs.Common.{nat_lt}
use Rattle.std.specs.List.{list_any}
use Rattle.sx_lang.specs.View.{handler_of}
use Rattle.sx_mean.specs.Application.{links_from, block_packets}
use Rattle.sx_mean.proofs.apps.sends_too_much.Given as goal

abbrev pub invariant-loop-h : goal.invariant-loop-h
invariant-loop-h l = list_any (λ h. nat_lt 16 (block_packets (links_from l.links l.part) l.m.decls.items h.body)) (map handler_of (drop l.h-index l.h-items))
    ≡ list_any (λ h. nat_lt 16 (block_packets (links_from l.links l.part) l.m.decls.items h.body)) (map handler_of l.h-items)
