use Rattle.std.proofs.Common.{◌≡◌, drop, map}
use Rattle.std.specs.List.{list_any}
use Rattle.sx_check.specs.Bounds.{block_emits}
use Rattle.sx_lang.specs.View.{handler_of}
use Rattle.sx_check.proofs.bounds.has_emit.Given as goal

abbrev pub invariant-loop-h : goal.invariant-loop-h
invariant-loop-h l = list_any (λ h. block_emits h.body) (map handler_of (drop l.h-index l.handlers)) ≡ list_any (λ h. block_emits h.body) (map handler_of l.handlers)
