use Rattle.std.proofs.Common.{◌∙◌, List, ap, subst, sym}
use Rattle.sx_lang.specs.declared.tree.Decl.{Decl}
use Rattle.sx_lang.specs.declared.tree.Module.{Module}
use Rattle.sx_check.specs.Source.{source_tree}
use Rattle.sx_mean.specs.Sized.{AreSizedDecls}
use Rattle.sx_mean.proofs.Kept.{sized}
use Rattle.command_describe.proofs.modules.push_lines.Goals as goal

pub push_declarations-requires-clause-sized : goal.push_declarations-requires-clause-sized
push_declarations-requires-clause-sized c =
    let decls = c.deref-2.ensures.value ∙ ap (λ (m : Module). m.decls.items) c.module.ensures.tree in
    subst (λ (ds : List Decl). AreSizedDecls ds) (sym decls) (sized (source_tree c.args.part.now.code) c.module.ensures.keeps)
