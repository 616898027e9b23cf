use Rattle.std.proofs.Common.{◌≡◌, ◌++◌, drop, map}
use Rattle.sx_lang.specs.View.{handler_of}
use Rattle.sx_check.specs.Listed.{inputs_of}
use Rattle.sx_check.proofs.locals.inputs_of.Given as goal

abbrev pub invariant-loop-h : goal.invariant-loop-h
invariant-loop-h l = l.names.items ++ inputs_of (map handler_of (drop l.h-index l.handlers)) ≡ inputs_of (map handler_of l.handlers)
