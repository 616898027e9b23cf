use Rattle.std.proofs.Common.{◌∙◌, ap, min}
use Rattle.sx_check.specs.Source.{source_tree}
use Rattle.sx_lang.specs.Sizes.{module_weight}
use Rattle.sx_lang.specs.View.{module_of}
use Rattle.command_describe.proofs.Sizes.{whole_weight}
use Rattle.command_describe.proofs.modules.weight_of.Goals as goal

pub returns : goal.returns
returns c =
    c.weight.ensures ∙ ap (λ m. min (module_weight (module_of m) c.args.ends) 4294967295) c.module.ensures.tree
    ∙ whole_weight (source_tree c.args.code.now) c.args.ends c.module.ensures.keeps c.requires
