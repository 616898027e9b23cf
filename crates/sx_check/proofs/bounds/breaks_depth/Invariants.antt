use Rattle.std.proofs.Common.{◌≡◌, drop, map}
use Rattle.std.specs.List.{list_any}
use Rattle.sx_check.specs.Rules.{is_too_deep}
use Rattle.sx_lang.specs.View.{handler_of}
use Rattle.sx_check.proofs.bounds.breaks_depth.Given as goal

abbrev pub invariant-loop-h : goal.invariant-loop-h
invariant-loop-h l = list_any is_too_deep (map handler_of (drop l.h-index l.h-items)) ≡ list_any is_too_deep (map handler_of l.h-items)
