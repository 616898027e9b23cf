use Rattle.std.proofs.Common.{◌≤◌, List, subst, sym, length}
use Rattle.sx_check.specs.Source.{source_tree}
use Rattle.sx_lower.specs.Lowering.{SendFew}
use Rattle.sx_mean.specs.declared.events.End.{End}
use Rattle.sx_mean.specs.EndLaws.{senders}
use Rattle.sx_mean.specs.View.{part_as}
use Rattle.sx_deploy.specs.SeenDeployment.{deployed_as}
use Rattle.sx_compile.specs.Compiled.{HasSections}
use Rattle.command_world.proofs.Building.{few_ends, few_packets, has_sections, get_part}
use Rattle.command_world.proofs.compiling.can_be_compiled.Goals as goal

pub returns-clause-few : goal.returns-clause-few
returns-clause-few c =
    let d = deployed_as c.args.deployment.now in
    subst (λ (es : List End). length es ≤ 16) (sym c.requires.ends)
    (few_ends d c.args.number (part_as c.args.part.now) c.requires.sound (get_part c.args.deployment.now.app.parts.items c.args.number c.args.part.now c.requires.part))

pub returns-clause-packets : goal.returns-clause-packets
returns-clause-packets c =
    let d = deployed_as c.args.deployment.now in
    let tree = source_tree c.args.part.now.code in
    subst (λ (es : List End). SendFew (senders es) tree tree.handlers) (sym c.requires.ends)
    (few_packets d c.args.number (part_as c.args.part.now) c.requires.sound (get_part c.args.deployment.now.app.parts.items c.args.number c.args.part.now c.requires.part))

pub returns-clause-room : goal.returns-clause-room
returns-clause-room c =
    let d = deployed_as c.args.deployment.now in
    subst (λ (es : List End). HasSections (source_tree c.args.part.now.code) es c.args.layout.now) (sym c.requires.ends)
    (has_sections d c.args.number (part_as c.args.part.now) c.args.layout.now c.requires.sound
    (get_part c.args.deployment.now.app.parts.items c.args.number c.args.part.now c.requires.part) c.requires.layout)
