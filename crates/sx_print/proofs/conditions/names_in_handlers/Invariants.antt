use Rattle.std.proofs.Common.{◌≡◌, drop, map}
use Rattle.sx_lang.specs.View.{handler_of}
use Rattle.sx_print.specs.Printable.{handlers_plain}
use Rattle.sx_print.proofs.conditions.names_in_handlers.Given as goal

abbrev pub invariant-loop-h : goal.invariant-loop-h
invariant-loop-h l = handlers_plain (map handler_of (drop l.h-index l.handlers)) ≡ handlers_plain (map handler_of l.handlers)
