use Rattle.std.proofs.Common.{◌∙◌, sym}
use Rattle.sx_index.proofs.Placed.{placed_before, placed_nowhere}
use Rattle.sx_index.proofs.index.NameIndex.has_before.Goals as goal

pub returns-in-Some : goal.returns-in-Some
returns-in-Some c = λ names is. placed_before names c.args.text.now c.args.count c.in-Some.place (sym (c.place_of.ensures names is) ∙ c.in-Some.is)

pub returns-in-None : goal.returns-in-None
returns-in-None c = λ names is. placed_nowhere names c.args.text.now c.args.count (sym (c.place_of.ensures names is) ∙ c.in-None.is)
