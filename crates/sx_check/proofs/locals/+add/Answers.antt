use Rattle.std.proofs.Common.{◌∙◌, ◌++◌, ℕ, List, ap, sym, append_assoc}
use Rattle.sx_check.specs.Names.{statement_lets, block_lets}
use Rattle.sx_lang.specs.View.{block_of}
use Rattle.sx_lang.proofs.Rows.{if_seen, repeat_seen}
use Rattle.sx_check.proofs.locals.+add.Goals as goal

pub add_lets_of_statement-returns-in_ok-add_lets-in-If-2 : goal.add_lets_of_statement-returns-in_ok-add_lets-in-If-2
add_lets_of_statement-returns-in_ok-add_lets-in-If-2 t c =
    let old : List (List ℕ) = c.args.names.now.items in
    let last : List (List ℕ) = block_lets (block_of c.in-If.otherwise.items) in
    c.in_ok-add_lets-in-If-2.ensures
    ∙ ap (λ (v : List (List ℕ)). v ++ last) c.in_ok-add_lets-in-If.ensures
    ∙ append_assoc old (block_lets (block_of c.in-If.then.items)) last
    ∙ ap (λ s. old ++ statement_lets s) (sym (if_seen _ c.in-If.field-0 c.in-If.then c.in-If.otherwise c.in-If.is))

pub add_lets_of_statement-returns-in_ok-add_lets-in-Repeat : goal.add_lets_of_statement-returns-in_ok-add_lets-in-Repeat
add_lets_of_statement-returns-in_ok-add_lets-in-Repeat t c =
    c.in_ok-add_lets-in-Repeat.ensures ∙ ap (λ s. c.args.names.now.items ++ statement_lets s) (sym (repeat_seen _ c.in-Repeat.field-0 c.in-Repeat.body c.in-Repeat.is))
