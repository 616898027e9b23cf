use Rattle.std.proofs.Common.{◌≡◌, drop, map, nat_le}
use Rattle.sx_lang.specs.View.{handler_of}
use Rattle.sx_print.specs.Printable.{handlers_open}
use Rattle.sx_print.proofs.conditions.opens_in_handlers.Given as goal

abbrev pub invariant-loop-h : goal.invariant-loop-h
invariant-loop-h l = nat_le (handlers_open (map handler_of (drop l.h-index l.handlers))) 48 ≡ nat_le (handlers_open (map handler_of l.handlers)) 48
