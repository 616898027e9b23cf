use Rattle.std.proofs.Common.{◌≡◌, drop}
use Rattle.sx_table.specs.Leads.{are_quiet}
use Rattle.sx_table.proofs.leads.are_quiet.Given as goal

abbrev pub invariant-loop-a : goal.invariant-loop-a
invariant-loop-a l = are_quiet (drop l.a-index l.acts) ≡ are_quiet l.acts
