use Rattle.spec_grammar.specs.Machine.{After_input}
use Rattle.sx_parse.proofs.Declarations.{named, shorter}
use Rattle.sx_parse.proofs.declaration.input.Goals as goal

pub returns-clause-declares : goal.returns-clause-declares
returns-clause-declares c = named After_input _ _ _ _ _ c.ended.result (λ r. r.now) c.in_ok-name.ensures.named c.ended.ensures.declares

pub returns-clause-shorter : goal.returns-clause-shorter
returns-clause-shorter c = shorter c.ended.result (λ r. r.now) _ _ c.in_ok-name.ensures.shorter c.ended.ensures.shorter
