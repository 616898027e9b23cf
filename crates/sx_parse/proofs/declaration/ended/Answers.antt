use Rattle.sx_parse.proofs.Declarations.{ended}
use Rattle.sx_parse.proofs.declaration.ended.Goals as goal

pub returns-clause-declares : goal.returns-clause-declares
returns-clause-declares c = ended _ _ _ _ c.args.found c.in_ok-rest.ensures.takes c.in_ok-push.ensures.items
