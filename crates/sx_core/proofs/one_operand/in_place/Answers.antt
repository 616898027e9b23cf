use Rattle.std.proofs.Common.{ℕ, subst}
use Rattle.spec_machine.specs.Registers.{at_pc, reg, incremented}
use Rattle.spec_machine.specs.Rows.{in_memory}
use Rattle.sx_executor.specs.Machine.{Machine, RunsPlan}
use Rattle.sx_core.proofs.one_operand.in_place.Goals as goal

pub returns-in-Indexed : goal.returns-in-Indexed
returns-in-Indexed g c = rw c.in-Indexed.is (rw c.register.ensures at c.in_memory.ensures)

pub returns-in-Symbolic : goal.returns-in-Symbolic
returns-in-Symbolic g c = rw c.in-Symbolic.is (rw c.register-in-Symbolic.ensures at c.in_memory-in-Symbolic.ensures)

pub returns-in-Indirect : goal.returns-in-Indirect
returns-in-Indirect g c = rw c.in-Indirect.is (rw c.register-at.ensures at c.in_memory-in-Indirect.ensures)

pub returns-in-Increment : goal.returns-in-Increment
returns-in-Increment g c =
    let m = c.args.executor.now in
    let n : Machine = record m { regs = incremented c.args.wide m.regs c.in-Increment.r } in
    let From : ℕ → Machine → Type 0 =
    λ at x. RunsPlan (in_memory c.args.kind c.args.wide at (at_pc x.regs c.args.next)) x c.in_memory-in-Increment.result c.in_memory-in-Increment.new.executor in
    let moved : From c.register-at-in-Increment.result n =
    subst (From c.register-at-in-Increment.result) c.increment.ensures c.in_memory-in-Increment.ensures in
    let runs : From (reg m.regs c.in-Increment.r) n = subst (λ (at : ℕ). From at n) c.register-at-in-Increment.ensures moved in
    rw c.in-Increment.is (runs.0, record { own = runs.1.own; sections = runs.1.sections; devices = runs.1.devices })
