use Rattle.std.proofs.Common.{sym, ◌∙◌}
use Rattle.sx_mean.specs.View.{app_as}
use Rattle.sx_observe.proofs.Drivers.{write_driven, write_other}
use Rattle.sx_observe.proofs.observation.write_item.Goals as goal

pub returns-in-Some : goal.returns-in-Some
returns-in-Some c = write_driven (app_as c.args.app.now) c.args.runner c.args.d c.in-Some.m c.args.v (sym c.driver_of.ensures ∙ c.in-Some.is)

pub returns-in-None : goal.returns-in-None
returns-in-None c = write_other (app_as c.args.app.now) c.args.runner c.args.d c.args.v (sym c.driver_of.ensures ∙ c.in-None.is)
