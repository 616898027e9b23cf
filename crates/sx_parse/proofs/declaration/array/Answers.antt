use Rattle.spec_grammar.specs.Machine.{After_array}
use Rattle.sx_parse.proofs.Declarations.{named, shorter}
use Rattle.sx_parse.proofs.declaration.array.Goals as goal

pub returns-clause-declares : goal.returns-clause-declares
returns-clause-declares c = named After_array _ _ _ _ _ c.length.result (λ r. r.now) c.in_ok-name.ensures.named c.length.ensures.declares

pub returns-clause-shorter : goal.returns-clause-shorter
returns-clause-shorter c = shorter c.length.result (λ r. r.now) _ _ c.in_ok-name.ensures.shorter c.length.ensures.shorter
