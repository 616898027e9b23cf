use Rattle.command_explain.proofs.Promised.{explain_promise}
use Rattle.command_explain.proofs.explain.explain_over.Goals as goal

pub returns : goal.returns
returns g c = explain_promise c.explain_told.ensures.told c.explain_told.ensures.memory
