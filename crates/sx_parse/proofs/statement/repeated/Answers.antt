use Rattle.sx_lang.proofs.Rows.{repeat_is}
use Rattle.sx_parse.proofs.statement.repeated.Goals as goal

pub returns : goal.returns
returns c = repeat_is c.args.turns c.args.body
