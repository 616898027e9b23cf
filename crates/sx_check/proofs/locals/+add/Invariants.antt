use Rattle.std.proofs.Common.{◌≡◌, ◌++◌, drop}
use Rattle.sx_check.specs.Names.{block_lets}
use Rattle.sx_lang.specs.View.{block_of}
use Rattle.sx_check.proofs.locals.+add.Given as goal

abbrev pub invariant-add_lets-loop-s : goal.invariant-add_lets-loop-s
invariant-add_lets-loop-s l = l.names.items ++ block_lets (block_of (drop l.s-index l.s-items)) ≡ l.fn.names.items ++ block_lets (block_of l.s-items)
