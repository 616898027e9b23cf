use Rattle.command_check.proofs.ModuleLines.{no_names, no_layouts}
use Rattle.command_text.proofs.Ends.{all_lines}
use Rattle.command_check.proofs.check.module_lines.Goals.{then-modules-test+else-i-layouts, else-modules-test}
use Rattle.command_check.proofs.check.module_lines.Goals as goal

pub returns : goal.returns
returns g =
    elim g.modules-test.branch [
      | then-modules-test+else-i-layouts w ↦ all_lines _ _ _ g.modules.invariant.lines (no_layouts g.args.names.now g.args.layouts.now g.modules.i w.if-i-layouts.false)
      | else-modules-test w ↦ all_lines _ _ _ g.modules.invariant.lines (no_names g.args.names.now g.args.layouts.now g.modules.i w.modules-test.false)
    ]
