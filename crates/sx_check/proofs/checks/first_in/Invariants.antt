use Rattle.std.proofs.Common.{◌≡◌, drop}
use Rattle.std.specs.List.{find}
use Rattle.sx_lang.specs.View.{module_of}
use Rattle.sx_check.specs.Rules.{breaks}
use Rattle.sx_check.proofs.checks.first_in.Given as goal

abbrev pub invariant-loop-rule : goal.invariant-loop-rule
invariant-loop-rule l = find (breaks (module_of l.m)) (drop l.rule-index l.rules) ≡ find (breaks (module_of l.m)) l.rules
