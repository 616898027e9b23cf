use Rattle.std.proofs.Common.{arith}
use Rattle.sx_check.specs.Source.{source_tree}
use Rattle.sx_watch.proofs.Inputs.{no_input}
use Rattle.sx_watch.proofs.watcher.has_input.Goals as goal

pub returns-else-number-lt256-clause-none : goal.returns-else-number-lt256-clause-none
returns-else-number-lt256-clause-none c = λ _. no_input (source_tree c.args.code.now) c.args.number c.module-module.ensures.keeps (omega (arith, c.if-number-lt256.false))
