use Rattle.std.proofs.Common.{◌∙◌, sym}
use Rattle.sx_lex.specs.Words.{beginning_words, statement_words}
use Rattle.sx_lex.proofs.Tables.{found_first, found_later}
use Rattle.sx_lex.proofs.quoted.keyword.Goals as goal

pub returns-in-Some : goal.returns-in-Some
returns-in-Some c =
    sym (found_first beginning_words statement_words c.args.word.now c.in-Some.kind (sym c.beginning_word.ensures ∙ c.in-Some.is))

pub returns : goal.returns
returns c =
    c.statement_word.ensures
    ∙ sym (found_later beginning_words statement_words c.args.word.now (sym c.beginning_word.ensures ∙ c.in_default.is))
