use Rattle.std.proofs.Common.{◌≡◌, drop, map}
use Rattle.std.specs.List.{list_any}
use Rattle.sx_check.specs.Names.{is_handled_twice}
use Rattle.sx_lang.specs.View.{handler_of}
use Rattle.sx_check.proofs.locals.lists_handled_twice.Given as goal

abbrev pub invariant-loop-h : goal.invariant-loop-h
invariant-loop-h l = list_any (is_handled_twice (map handler_of l.handlers)) (map handler_of (drop l.h-index l.handlers))
    ≡ list_any (is_handled_twice (map handler_of l.handlers)) (map handler_of l.handlers)
