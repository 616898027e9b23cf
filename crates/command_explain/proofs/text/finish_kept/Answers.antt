use Rattle.command_text.proofs.Keeping.{ends_kept, ends_stopped}
use Rattle.command_explain.proofs.text.finish_kept.Goals as goal

pub returns-in-Ok-clause-ends : goal.returns-in-Ok-clause-ends
returns-in-Ok-clause-ends g c = ends_kept (record { text = c.args.text.now; status = c.args.status }) c.in-Ok.ensures c.finish.ensures.ends

pub returns-in-Err-clause-ends : goal.returns-in-Err-clause-ends
returns-in-Err-clause-ends g c = ends_stopped (record { text = c.args.text.now; status = c.args.status }) c.in-Err.ensures
