use Rattle.std.proofs.Common.{sym, ◌∙◌}
use Rattle.sx_mean.specs.View.{app_as}
use Rattle.sx_observe.proofs.Drivers.{read_driven, read_other}
use Rattle.sx_observe.proofs.observation.read_item.Goals as goal

pub returns-in-Some : goal.returns-in-Some
returns-in-Some c = read_driven (app_as c.args.app.now) c.args.runner c.args.d c.in-Some.m c.args.v (sym c.driver_of.ensures ∙ c.in-Some.is)

pub returns-in-None : goal.returns-in-None
returns-in-None c = read_other (app_as c.args.app.now) c.args.runner c.args.d c.args.v (sym c.driver_of.ensures ∙ c.in-None.is)
