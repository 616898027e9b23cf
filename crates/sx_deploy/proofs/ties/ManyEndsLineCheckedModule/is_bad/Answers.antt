use Rattle.std.proofs.lemmas.List.{length-map}
use Rattle.sx_deploy.specs.Seen.{checked_as}
use Rattle.sx_deploy.proofs.ties.ManyEndsLineCheckedModule.is_bad.Goals as goal

pub returns : goal.returns
returns c = rw (length-map c.args.earlier.now checked_as) c.has_many.ensures
