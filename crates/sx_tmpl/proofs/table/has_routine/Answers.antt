use Rattle.std.proofs.Common.{◌∙◌}
use Rattle.sx_tmpl.proofs.table.has_routine.Goals as goal

pub returns : goal.returns
returns c = c.is_noted.ensures ∙ c.requires.noted.each c.args.end c.requires.end
