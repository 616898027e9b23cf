use Rattle.std.proofs.Common.{arith, drop, map}
use Rattle.sx_mean.specs.View.{part_as}
use Rattle.sx_deploy.specs.SeenDeployment.{deployed_as}
use Rattle.command_text.proofs.Ends.{all_lines}
use Rattle.command_describe.proofs.Remaining.{no_layouts}
use Rattle.command_describe.proofs.modules.push_modules.Goals as goal

pub returns-else-i-len : goal.returns-else-i-len
returns-else-i-len c =
    let d = c.args.deployment.now in
    all_lines _ _ _ c.modules.invariant.lines
    (no_layouts (deployed_as d) c.modules.i (map part_as (drop c.modules.i d.app.parts.items)) d.layouts.items c.modules.i
    (omega (arith, c.if-i-len.false, c.len-in-modules.ensures)))
