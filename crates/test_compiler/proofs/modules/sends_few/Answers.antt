use Rattle.std.proofs.Common.{ap, sym, subst, ◌∙◌}
use Rattle.sx_lang.specs.View.{module_of}
use Rattle.sx_lang.specs.declared.tree.Module.{Module}
use Rattle.sx_check.specs.Source.{source_tree}
use Rattle.sx_mean.specs.Application.{sends_too_much}
use Rattle.sx_mean.specs.Sized.{AreSizedDecls}
use Rattle.sx_mean.proofs.Kept.{sized}
use Rattle.sx_compile.proofs.Links.{few_tested}
use Rattle.test_compiler.proofs.modules.sends_few.Goals as goal

pub sends_too_much-requires : goal.sends_too_much-requires
sends_too_much-requires c =
    subst (λ (m : Module). AreSizedDecls m.decls.items) (sym c.module.ensures.tree) (sized (source_tree c.args.m.now) c.module.ensures.keeps)

pub returns : goal.returns
returns c =
    few_tested (source_tree c.args.m.now) c.args.links.now c.args.ends.now c.requires c.sends_too_much.result
    (c.sends_too_much.ensures ∙ ap (λ (m : Module). sends_too_much c.args.links.now 0 (module_of m)) c.module.ensures.tree)
