use Rattle.sx_sched.proofs.Answered.{code_given, no_text}
use Rattle.sx_sched.proofs.fields.code_of.Goals as goal

pub returns-in-Ok : goal.returns-in-Ok
returns-in-Ok c =
    let given = c.in-Ok.ensures.cases in
    code_given _ c.args.at c.args.text.now c.code_in.result given.1 (rw given.0 at c.code_in.ensures)

pub returns-in-Err : goal.returns-in-Err
returns-in-Err c = no_text c.args.at c.args.text.now c.in-Err.ensures.cases.0
