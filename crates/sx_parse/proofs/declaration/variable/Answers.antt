use Rattle.spec_grammar.specs.Machine.{After_var}
use Rattle.sx_parse.proofs.Declarations.{named, shorter}
use Rattle.sx_parse.proofs.declaration.variable.Goals as goal

pub returns-clause-declares : goal.returns-clause-declares
returns-clause-declares c = named After_var _ _ _ _ _ c.initial.result (λ r. r.now) c.in_ok-name.ensures.named c.initial.ensures.declares

pub returns-clause-shorter : goal.returns-clause-shorter
returns-clause-shorter c = shorter c.initial.result (λ r. r.now) _ _ c.in_ok-name.ensures.shorter c.initial.ensures.shorter
