use Rattle.std.proofs.Common.{subst}
use Rattle.spec_machine.specs.Registers.{at_pc}
use Rattle.spec_machine.specs.Rows.{in_memory}
use Rattle.sx_executor.specs.Machine.{Machine, RunsPlan}
use Rattle.sx_core.proofs.one_operand.in_memory.Goals as goal

pub returns : goal.returns
returns g c =
    let m = c.args.executor.now in
    let n : Machine = record m { regs = at_pc m.regs c.args.next } in
    let From : Machine → Type 0 = λ x. RunsPlan (in_memory c.args.kind c.args.wide c.args.at x.regs) x c.operate.result c.operate.new.executor in
    let runs : From n = subst From c.set_pc.ensures c.operate.ensures in
    (runs.0, record { own = runs.1.own; sections = runs.1.sections; devices = runs.1.devices })
