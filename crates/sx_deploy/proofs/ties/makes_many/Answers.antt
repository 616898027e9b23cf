use Rattle.std.proofs.Common.{sym, subst}
use Rattle.sx_lang.specs.declared.tree.Module.{Module}
use Rattle.sx_check.specs.Source.{source_tree}
use Rattle.sx_mean.specs.Sized.{AreSizedDecls}
use Rattle.sx_mean.proofs.Kept.{sized}
use Rattle.sx_deploy.proofs.ties.makes_many.Goals as goal

pub sends_too_much-requires : goal.sends_too_much-requires
sends_too_much-requires c =
    subst (λ (m : Module). AreSizedDecls m.decls.items) (sym c.module.ensures.tree) (sized (source_tree c.args.code.now) c.module.ensures.keeps)
