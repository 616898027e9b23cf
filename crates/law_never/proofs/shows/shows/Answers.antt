use Rattle.sx_mean.specs.View.{app_as}
use Rattle.sx_table.specs.Rows.{table_as}
use Rattle.sx_watch.specs.Watching.{property_as}
use Rattle.law_never.proofs.Keeping.{shown_never}
use Rattle.law_never.proofs.shows.shows.Goals as goal

pub returns-clause-kept : goal.returns-clause-kept
returns-clause-kept c = shown_never (app_as c.args.app.now) (property_as c.args.property.now) (table_as c.args.table.now) c.passes.result c.passes.ensures
