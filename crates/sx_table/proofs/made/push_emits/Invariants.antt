use Rattle.std.proofs.Common.{◌≡◌, ◌++◌, drop}
use Rattle.sx_table.specs.Made.{may_emit}
use Rattle.sx_table.proofs.made.push_emits.Given as goal

abbrev pub invariant-loop-a : goal.invariant-loop-a
invariant-loop-a l = l.found.items ++ may_emit (drop l.a-index l.acts) ≡ l.fn.found.items ++ may_emit l.acts
