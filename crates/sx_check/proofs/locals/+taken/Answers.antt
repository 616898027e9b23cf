use Rattle.std.proofs.Common.{arith, ap}
use Rattle.std.proofs.lemmas.Grind.{common_steps}
use Rattle.sx_lang.specs.View.{handler_of}
use Rattle.sx_check.specs.Names.{statement_lets, is_taken}
use Rattle.std.specs.List.{list_any}
use Rattle.std.proofs.lemmas.List.Folds.{list_any-append}
use Rattle.sx_check.proofs.locals.+taken.Goals as goal
use Rattle.sx_lang.proofs.Rows.{if_seen, repeat_seen}

pub taken_in_statement-returns-then-taken_in_block : goal.taken_in_statement-returns-then-taken_in_block
taken_in_statement-returns-then-taken_in_block t c = grind (
  arith,
  common_steps,
  list_any-append,
  ap (λ s. list_any (is_taken c.args.decls.now (handler_of c.args.h.now)) (statement_lets s))
      (if_seen _ c.in-If.field-0 c.in-If.then c.in-If.otherwise c.in-If.is),
)

pub taken_in_statement-returns-else-taken_in_block : goal.taken_in_statement-returns-else-taken_in_block
taken_in_statement-returns-else-taken_in_block t c = grind (
  arith,
  common_steps,
  list_any-append,
  ap (λ s. list_any (is_taken c.args.decls.now (handler_of c.args.h.now)) (statement_lets s))
      (if_seen _ c.in-If.field-0 c.in-If.then c.in-If.otherwise c.in-If.is),
)

pub taken_in_statement-returns-in-Repeat : goal.taken_in_statement-returns-in-Repeat
taken_in_statement-returns-in-Repeat t c = grind (
  arith,
  common_steps,
  ap (λ s. list_any (is_taken c.args.decls.now (handler_of c.args.h.now)) (statement_lets s))
      (repeat_seen _ c.in-Repeat.field-0 c.in-Repeat.body c.in-Repeat.is),
)
