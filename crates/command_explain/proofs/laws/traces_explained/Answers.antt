use Rattle.command_explain.proofs.Explained.{traces_explained}
use Rattle.command_explain.proofs.laws.traces_explained.Goals as goal

pub returns : goal.returns
returns c = traces_explained
