use Rattle.std.proofs.Common.{arith, ap}
use Rattle.std.proofs.lemmas.Grind.{common_steps}
use Rattle.sx_check.specs.Bounds.{statement_counts, is_miscounted}
use Rattle.std.specs.List.{list_any}
use Rattle.std.proofs.lemmas.List.Folds.{list_any-append}
use Rattle.sx_check.proofs.bounds.+counts.Goals as goal
use Rattle.sx_lang.proofs.Rows.{if_seen, repeat_seen}

pub miscounts_in_statement-returns-then-miscounts_in_block : goal.miscounts_in_statement-returns-then-miscounts_in_block
miscounts_in_statement-returns-then-miscounts_in_block t c = grind (
  arith,
  common_steps,
  list_any-append,
  ap (λ s. list_any is_miscounted (statement_counts s)) (if_seen _ c.in-If.field-0 c.in-If.then c.in-If.otherwise c.in-If.is),
)

pub miscounts_in_statement-returns-else-miscounts_in_block : goal.miscounts_in_statement-returns-else-miscounts_in_block
miscounts_in_statement-returns-else-miscounts_in_block t c = grind (
  arith,
  common_steps,
  list_any-append,
  ap (λ s. list_any is_miscounted (statement_counts s)) (if_seen _ c.in-If.field-0 c.in-If.then c.in-If.otherwise c.in-If.is),
)

pub miscounts_in_statement-returns-else-is_no_count : goal.miscounts_in_statement-returns-else-is_no_count
miscounts_in_statement-returns-else-is_no_count t c = grind (arith, common_steps, ap (λ s. list_any is_miscounted (statement_counts s)) (repeat_seen _ c.in-Repeat.n c.in-Repeat.body c.in-Repeat.is))
