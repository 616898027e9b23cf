use Rattle.std.proofs.Common.{arith, ap}
use Rattle.std.proofs.lemmas.Grind.{common_steps}
use Rattle.sx_check.specs.Scopes.{is_flawed, seen_in}
use Rattle.sx_check.specs.Uses.{statement_uses}
use Rattle.sx_check.proofs.Places.{known_further, loop_further}
use Rattle.std.specs.List.{list_any}
use Rattle.std.proofs.lemmas.List.Folds.{list_any-append}
use Rattle.sx_check.proofs.uses.+uses.Goals as goal
use Rattle.sx_lang.proofs.Rows.{if_seen, repeat_seen}

pub in_statement-returns-then-in_block : goal.in_statement-returns-then-in_block
in_statement-returns-then-in_block t c = grind (
  arith,
  common_steps,
  list_any-append,
  ap (λ s. list_any (is_flawed c.args.flaw c.args.decls.now) (statement_uses (seen_in c.args.scope.now) s))
      (if_seen _ c.in-If.e c.in-If.then c.in-If.otherwise c.in-If.is),
)

pub in_statement-returns-else-in_block : goal.in_statement-returns-else-in_block
in_statement-returns-else-in_block t c = grind (
  arith,
  common_steps,
  list_any-append,
  ap (λ s. list_any (is_flawed c.args.flaw c.args.decls.now) (statement_uses (seen_in c.args.scope.now) s))
      (if_seen _ c.in-If.e c.in-If.then c.in-If.otherwise c.in-If.is),
)

pub in_statement-returns-in-Repeat : goal.in_statement-returns-in-Repeat
in_statement-returns-in-Repeat t c = grind (
  arith,
  common_steps,
  ap (λ s. list_any (is_flawed c.args.flaw c.args.decls.now) (statement_uses (seen_in c.args.scope.now) s))
      (repeat_seen _ c.in-Repeat.field-0 c.in-Repeat.body c.in-Repeat.is),
)

pub in_block-loop-i-preserved : goal.in_block-loop-i-preserved
in_block-loop-i-preserved t c =
    let seen = seen_in c.args.scope.now in
    let items = c.args.block.now.items in
    let left = c.deref-s-items.ensures.value in
    let right = c.deref.ensures.value in (
      loop_further _ seen items _ _ _ c.loop-i.i c.s-item.result _ _ left right c.loop-i-test.true c.s-item.is c.split_at.ensures.front c.in_statement.ensures.flawed
          c.if-in_statement.false c.loop-i.invariant.0,
      known_further c.define.new.self seen items _ _ _ c.loop-i.i c.s-item.result left right c.loop-i-test.true c.s-item.is c.split_at.ensures.front
          (c.define.ensures _ (c.in_statement.ensures.known c.if-in_statement.false)),
    )
