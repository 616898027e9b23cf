use Rattle.std.proofs.Common.{◌≡◌, ◌≤◌, max, min, drop, map}
use Rattle.sx_lang.specs.Sizes.{handlers_cost}
use Rattle.sx_lang.specs.View.{handler_of}
use Rattle.sx_lang.proofs.sizes.cost.Given as goal

abbrev pub invariant-loop-h : goal.invariant-loop-h
invariant-loop-h l =
    (l.greatest ≤ 262145) × (min (max l.greatest (handlers_cost (map handler_of (drop l.h-index l.h-items)))) 262145 ≡ min (handlers_cost (map handler_of l.h-items)) 262145)
