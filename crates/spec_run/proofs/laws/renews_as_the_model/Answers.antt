use Rattle.spec_run.proofs.RenewsAsTheModel.{renews_as_the_model}
use Rattle.spec_run.proofs.laws.renews_as_the_model.Goals as goal

pub returns : goal.returns
returns c = renews_as_the_model
