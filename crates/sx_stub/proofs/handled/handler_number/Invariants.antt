use Rattle.std.proofs.Common.{◌≡◌, drop, map}
use Rattle.std.specs.List.{position_from}
use Rattle.sx_lang.specs.View.{handler_of}
use Rattle.sx_check.specs.Names.{same_input}
use Rattle.sx_stub.proofs.handled.handler_number.Given as goal

abbrev pub invariant-loop-h : goal.invariant-loop-h
invariant-loop-h l =
    (l.number ≡ l.h-index)
    × (position_from (λ h. same_input l.input h.input) l.number (map handler_of (drop l.h-index l.handlers)) ≡ position_from (λ h. same_input l.input h.input) 0 (map handler_of l.handlers))
