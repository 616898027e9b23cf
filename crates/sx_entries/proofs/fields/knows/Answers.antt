use Rattle.std.proofs.Common.{◌∙◌}
use Rattle.sx_entries.proofs.FieldLemmas.{knows-now}
use Rattle.sx_entries.proofs.fields.knows.Goals as goal

pub returns : goal.returns
returns c = c.contains.ensures.value ∙ knows-now c.args.keys.now c.args.key.now
