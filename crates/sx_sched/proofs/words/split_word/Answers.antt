use Rattle.std.proofs.Common.{◌<◌, length, sym, ap, ◌∙◌, arith}
use Rattle.sx_sched.specs.Words.{past_word}
use Rattle.sx_sched.proofs.Blanks.{first_of, no_words}
use Rattle.sx_sched.proofs.Texts.{behind_word}
use Rattle.sx_sched.proofs.words.split_word.Goals as goal

pub returns-then-is_empty-clause-words : goal.returns-then-is_empty-clause-words
returns-then-is_empty-clause-words c = sym c.past_blanks-begun.ensures.words ∙ no_words c.past_blanks-begun.result.now (grind arith)

pub returns-clause-words : goal.returns-clause-words
returns-clause-words c =
    let begun = c.past_blanks-begun in
    let found = c.word_length.ensures in
    let some : 0 < length begun.result.now = grind arith in
    rw (c.split_at.ensures.front, c.split_at.ensures.back)
    (sym begun.ensures.words ∙ first_of begun.result.now c.word_length.result some (begun.ensures.first some) found.within found.before found.first)

pub returns-clause-rest : goal.returns-clause-rest
returns-clause-rest c =
    let begun = c.past_blanks-begun in
    let found = c.word_length.ensures in
    c.split_at.ensures.back ∙ behind_word begun.result.now c.word_length.result found.within found.before found.first ∙ ap past_word begun.ensures.text
