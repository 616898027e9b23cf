use Rattle.std.proofs.Common.{◌∙◌, ℕ, Option, ap, is_some}
use Rattle.sx_index.proofs.Placed.{placed}
use Rattle.sx_index.proofs.index.NameIndex.has.Goals as goal

pub returns : goal.returns
returns c = λ names is. c.is_some.ensures ∙ ap (λ (o : Option ℕ). is_some o) (c.place_of.ensures names is) ∙ placed names c.args.text.now
