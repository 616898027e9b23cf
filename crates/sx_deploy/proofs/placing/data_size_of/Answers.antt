use Rattle.std.proofs.Common.{◌≤◌, ◌∙◌, ap, arith, min}
use Rattle.sx_check.specs.Source.{source_tree}
use Rattle.sx_lang.specs.Sizes.{module_data_size}
use Rattle.sx_lang.specs.View.{module_of}
use Rattle.sx_deploy.proofs.Sizes.{small_data_size, uncut}
use Rattle.sx_deploy.proofs.placing.data_size_of.Goals as goal

pub returns-clause-exact : goal.returns-clause-exact
returns-clause-exact c =
    let small : module_data_size (source_tree c.args.code.now) c.args.ends ≤ 131072 = small_data_size (source_tree c.args.code.now) c.args.ends c.module.ensures.keeps (omega arith) in
    c.data_size.ensures ∙ ap (λ m. min (module_data_size (module_of m) c.args.ends) 4294967295) c.module.ensures.tree ∙ uncut _ small

pub returns-clause-small : goal.returns-clause-small
returns-clause-small c =
    let small : module_data_size (source_tree c.args.code.now) c.args.ends ≤ 131072 = small_data_size (source_tree c.args.code.now) c.args.ends c.module.ensures.keeps (omega arith) in
    let exact = c.data_size.ensures ∙ ap (λ m. min (module_data_size (module_of m) c.args.ends) 4294967295) c.module.ensures.tree ∙ uncut _ small in
    omega (arith, exact)
