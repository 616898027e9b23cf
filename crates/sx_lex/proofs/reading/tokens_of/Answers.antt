use Rattle.std.proofs.Common.{sym}
use Rattle.std.proofs.lemmas.Bool.{ne_eqb}
use Rattle.sx_lex.proofs.Turns.{adds_bad}
use Rattle.sx_lex.proofs.reading.tokens_of.Goals as goal

pub returns-in_default-word_at : goal.returns-in_default-word_at
returns-in_default-word_at c = adds_bad _ c.loop-first.rest.now c.in-Some.after.now c.loop-first.list.items
    _ _ c.in-Some.first.now c.loop-first.invariant c.in-Some.ensures.cases.0 (ne_eqb c.in-Some.first.now 10 c.if-first-eq10.false) (sym c.if-is_gap.ensures)
    (sym c.if-is_comment.ensures) c.in_default-word_at.ensures.none c.in_ok-push.ensures.items
