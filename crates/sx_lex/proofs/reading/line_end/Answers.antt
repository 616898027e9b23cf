use Rattle.std.proofs.Common.{◌∙◌}
use Rattle.sx_lex.proofs.Turns.{line_found}
use Rattle.sx_lex.proofs.reading.line_end.Goals as goal

pub returns-clause-count : goal.returns-clause-count
returns-clause-count c = c.unwrap_or.ensures ∙ line_found c.args.text.now c.memchr.result c.memchr.ensures
