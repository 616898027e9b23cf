use Rattle.std.proofs.Common.{◌≡◌, drop, map, length}
use Rattle.std.specs.List.{list_any}
use Rattle.std.proofs.Common.{nat_lt}
use Rattle.sx_check.specs.Names.{locals}
use Rattle.sx_lang.specs.View.{handler_of}
use Rattle.sx_check.proofs.bounds.breaks_locals.Given as goal

abbrev pub invariant-loop-h : goal.invariant-loop-h
invariant-loop-h l = list_any (λ h. nat_lt 16 (length (locals h))) (map handler_of (drop l.h-index l.h-items)) ≡ list_any (λ h. nat_lt 16 (length (locals h))) (map handler_of l.h-items)
