use Rattle.std.specs.Prelude.{◌≡◌, drop}
use Rattle.sx_trace.specs.Items.{name_at}
use Rattle.sx_deploy.specs.Ties.{port_names}
use Rattle.command_describe.proofs.ports.port_named.Given as goal

abbrev pub invariant-loop-declared : goal.invariant-loop-declared
invariant-loop-declared l = name_at (port_names l.output (drop l.declared-index l.decls)) l.left ≡ name_at (port_names l.output l.decls) l.port
