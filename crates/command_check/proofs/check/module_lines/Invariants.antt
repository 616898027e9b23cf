use Rattle.std.specs.Prelude.{◌≡◌, ◌≤◌, ◌-◌, ◌++◌, length, drop}
use Rattle.command_check.specs.Output.{module_lines}
use Rattle.command_check.proofs.check.module_lines.Given as goal

-- the lines so far, and after them those of the modules that are left
abbrev pub invariant-modules : goal.invariant-modules
invariant-modules l = record {
  names : l.i ≤ length l.fn.names;
  layouts : l.i ≤ length l.fn.layouts;
  lines : l.text.items ++ module_lines (drop l.i l.fn.names) (drop l.i l.fn.layouts) ≡ module_lines l.fn.names l.fn.layouts;
}

abbrev pub decreases-modules : goal.decreases-modules
decreases-modules l = length l.fn.names - l.i
