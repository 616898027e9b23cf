use Rattle.std.proofs.Common.{◌≡◌, ◌+◌, ◌≤◌, drop, map, count_by}
use Rattle.sx_check.specs.Names.{same_input}
use Rattle.sx_lang.specs.View.{handler_of}
use Rattle.sx_check.proofs.locals.handlers_of.Given as goal

abbrev pub invariant-loop-h : goal.invariant-loop-h
invariant-loop-h l = (l.times ≤ l.h-index) × (l.times + count_by (λ g. same_input l.input g.input) (map handler_of (drop l.h-index l.handlers))
    ≡ count_by (λ g. same_input l.input g.input) (map handler_of l.handlers))
