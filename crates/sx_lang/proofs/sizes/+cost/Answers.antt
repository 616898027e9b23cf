use Rattle.std.proofs.Common.{◌+◌, ◌*◌, ◌∙◌, ap, sym, min, arith}
use Rattle.sx_lang.specs.Sizes.{block_cost}
use Rattle.sx_lang.specs.View.{block_of}
use Rattle.sx_lang.proofs.Cost.{if_cost, repeat_cost, turns_cut}
use Rattle.sx_lang.proofs.sizes.+cost.Goals as goal

pub cost_of_statement-returns-in-If : goal.cost_of_statement-returns-in-If
cost_of_statement-returns-in-If t c = grind (arith, if_cost _ c.in-If.e c.in-If.then c.in-If.otherwise c.in-If.is)

pub cost_of_statement-returns-in-Repeat : goal.cost_of_statement-returns-in-Repeat
cost_of_statement-returns-in-Repeat t c =
    c.cost_of_turns.ensures ∙ ap (λ b. min (64 + c.in-Repeat.turns * (64 + b)) 262145) c.cost_of_block-in-Repeat.ensures
    ∙ turns_cut c.in-Repeat.turns (block_cost (block_of c.in-Repeat.body.items))
    ∙ sym (ap (λ n. min n 262145) (repeat_cost _ c.in-Repeat.turns c.in-Repeat.body c.in-Repeat.is))
