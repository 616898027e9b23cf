use Rattle.sx_sched.specs.Words.{words_of, text_behind}
use Rattle.sx_sched.proofs.Form.{answered_in_form}
use Rattle.sx_sched.proofs.parsing.parse_line.Goals as goal

pub returns-clause-in_form : goal.returns-clause-in_form
returns-clause-in_form c =
    answered_in_form c.args.names.now (text_behind 2 c.in-Some.fields.now) c.in-Some.first.now (words_of c.in-Some.fields.now)
    c.kind_line.result c.kind_line.ensures
