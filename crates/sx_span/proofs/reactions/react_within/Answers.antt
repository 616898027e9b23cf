use Rattle.std.proofs.Common.{IfOk, sym, subst}
use Rattle.sx_lang.specs.declared.tree.Module.{Module}
use Rattle.sx_lang.specs.View.{module_of}
use Rattle.sx_span.specs.Sound.{EachFollows}
use Rattle.sx_span.specs.View.{paths_in}
use Rattle.sx_check.specs.Source.{source_tree}
use Rattle.sx_mean.specs.Sized.{AreSizedDecls}
use Rattle.sx_mean.proofs.Kept.{sized}
use Rattle.sx_span.proofs.Steps.{each_follows}
use Rattle.sx_span.proofs.reactions.react_within.Goals as goal

pub outcome-requires : goal.outcome-requires
outcome-requires c =
    subst (λ (m : Module). AreSizedDecls m.decls.items) (sym c.module.ensures.tree) (sized (source_tree c.args.m.now) c.module.ensures.keeps)

pub returns-clause-sound : goal.returns-clause-sound
returns-clause-sound c =
    subst (λ (m : Module). IfOk c.outcome.result (λ r. EachFollows (module_of m) c.args.event c.args.cells.now (paths_in r.items))) c.module.ensures.tree
    (each_follows c.outcome.result (module_of c.module.result.now) c.args.event c.args.cells.now c.outcome.ensures)
