use Rattle.std.proofs.Common.{◌≡◌, drop, map}
use Rattle.std.specs.List.{list_any}
use Rattle.sx_check.specs.Bounds.{block_counts, is_miscounted}
use Rattle.sx_lang.specs.View.{handler_of}
use Rattle.sx_check.proofs.bounds.breaks_repeat.Given as goal

abbrev pub invariant-loop-h : goal.invariant-loop-h
invariant-loop-h l = list_any (λ h. list_any is_miscounted (block_counts h.body)) (map handler_of (drop l.h-index l.h-items))
    ≡ list_any (λ h. list_any is_miscounted (block_counts h.body)) (map handler_of l.h-items)
