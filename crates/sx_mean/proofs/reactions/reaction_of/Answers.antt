use Rattle.std.proofs.Common.{sym, subst}
use Rattle.sx_lang.specs.declared.tree.Module.{Module}
use Rattle.sx_check.specs.Source.{source_tree}
use Rattle.sx_mean.specs.Sized.{AreSizedDecls}
use Rattle.sx_mean.proofs.Kept.{sized}
use Rattle.sx_mean.proofs.reactions.reaction_of.Goals as goal

pub outcome-requires : goal.outcome-requires
outcome-requires c =
    subst (λ (m : Module). AreSizedDecls m.decls.items) (sym c.module.ensures.tree) (sized (source_tree c.args.m.now) c.module.ensures.keeps)
