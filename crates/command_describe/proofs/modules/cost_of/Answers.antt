use Rattle.std.proofs.Common.{◌∙◌, ap, min}
use Rattle.sx_check.specs.Source.{source_tree}
use Rattle.sx_lang.specs.Sizes.{module_cost}
use Rattle.sx_lang.specs.View.{module_of}
use Rattle.command_describe.proofs.Sizes.{whole_cost}
use Rattle.command_describe.proofs.modules.cost_of.Goals as goal

pub returns : goal.returns
returns c =
    c.cost.ensures ∙ ap (λ m. min (module_cost (module_of m)) 262145) c.module.ensures.tree
    ∙ whole_cost (source_tree c.args.code.now) c.module.ensures.keeps
