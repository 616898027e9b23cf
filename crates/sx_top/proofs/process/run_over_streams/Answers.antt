use Rattle.std.proofs.Common.{◌∙◌}
use Rattle.sx_top.proofs.process.run_over_streams.Goals as goal

pub returns : goal.returns
returns g c = record { told = (c.top.result, c.from.ensures ∙ c.number.ensures, c.top.ensures.told) }
