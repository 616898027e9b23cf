use Rattle.std.proofs.Common.{arith, ap, count_by}
use Rattle.std.proofs.lemmas.Grind.{common_steps}
use Rattle.sx_check.specs.Names.{statement_lets, same}
use Rattle.std.proofs.lemmas.List.Sums.{sum_by-append}
use Rattle.sx_check.proofs.locals.+count.Goals as goal
use Rattle.sx_lang.proofs.Rows.{if_seen, repeat_seen}

pub lets_in_statement-returns-in-If : goal.lets_in_statement-returns-in-If
lets_in_statement-returns-in-If t c = grind (
  arith,
  common_steps,
  sum_by-append,
  ap (λ s. count_by (same c.args.x.now) (statement_lets s)) (if_seen _ c.in-If.field-0 c.in-If.then c.in-If.otherwise c.in-If.is),
)

pub lets_in_statement-returns-in-Repeat : goal.lets_in_statement-returns-in-Repeat
lets_in_statement-returns-in-Repeat t c = grind (arith, common_steps, ap (λ s. count_by (same c.args.x.now) (statement_lets s)) (repeat_seen _ c.in-Repeat.field-0 c.in-Repeat.body c.in-Repeat.is))
