use Rattle.std.proofs.Common.{sym, ap, ◌∙◌, subst, arith}
use Rattle.sx_lang.specs.Tree.{Chooses, Repeats}
use Rattle.sx_lang.specs.View.{block_of, expression_of, statement_of}
use Rattle.sx_lang.specs.Words.{HasWords}
use Rattle.sx_lang.proofs.Rows.{if_is, repeat_is}
use Rattle.sx_lang.proofs.words.+words.Goals as goal

pub of_statement-returns-in-If : goal.of_statement-returns-in-If
of_statement-returns-in-If t c =
    let made : HasWords (Chooses (expression_of c.in-If.e) (block_of c.in-If.then.items) (block_of c.in-If.otherwise.items)) =
    (c.of_expression-in-If.ensures, c.of_block.ensures, c.of_block-in-If.ensures) in
    subst HasWords (sym (ap statement_of c.in-If.is ∙ if_is c.in-If.e c.in-If.then c.in-If.otherwise)) made

pub of_statement-returns-in-Repeat : goal.of_statement-returns-in-Repeat
of_statement-returns-in-Repeat t c =
    let made : HasWords (Repeats c.in-Repeat.n (block_of c.in-Repeat.body.items)) = (omega arith, c.of_block-in-Repeat.ensures) in
    subst HasWords (sym (ap statement_of c.in-Repeat.is ∙ repeat_is c.in-Repeat.n c.in-Repeat.body)) made
