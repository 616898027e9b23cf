use Rattle.std.proofs.Common.{◌≤◌, ◌∙◌, ap, arith, min}
use Rattle.sx_check.specs.Source.{source_tree}
use Rattle.sx_lang.specs.Sizes.{module_weight}
use Rattle.sx_lang.specs.View.{module_of}
use Rattle.sx_deploy.proofs.Sizes.{small_weight, uncut}
use Rattle.sx_deploy.proofs.placing.weight_of.Goals as goal

pub returns-clause-exact : goal.returns-clause-exact
returns-clause-exact c =
    let small : module_weight (source_tree c.args.code.now) c.args.ends ≤ 131072 = small_weight (source_tree c.args.code.now) c.args.ends c.module.ensures.keeps (omega arith) in
    c.weight.ensures ∙ ap (λ m. min (module_weight (module_of m) c.args.ends) 4294967295) c.module.ensures.tree ∙ uncut _ small

pub returns-clause-small : goal.returns-clause-small
returns-clause-small c =
    let small : module_weight (source_tree c.args.code.now) c.args.ends ≤ 131072 = small_weight (source_tree c.args.code.now) c.args.ends c.module.ensures.keeps (omega arith) in
    let exact = c.weight.ensures ∙ ap (λ m. min (module_weight (module_of m) c.args.ends) 4294967295) c.module.ensures.tree ∙ uncut _ small in
    omega (arith, exact)
