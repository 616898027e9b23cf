use Rattle.std.proofs.Common.{rules, ◌≡◌, sym, subst}
use Rattle.spec_machine.specs.Run.{Outcome}
use Rattle.sx_sancus.specs.Told.{given_by, Concludes}
use Rattle.sx_tag.specs.Keys.{boot_key}
use Rattle.sx_sancus.proofs.Rows.{other_code}
use Rattle.sx_sancus.proofs.step.step_sancus.Goals as goal

pub returns-in-0 : goal.returns-in-0
returns-in-0 g c = rw c.in-0.is (c.unprotect.ensures c.args.caller (boot_key g.T.Tag.mac c.args.node_key.now c.args.boot) c.args.exchange.now)

pub returns-in-1 : goal.returns-in-1
returns-in-1 g c = rw c.in-1.is (c.protect.ensures c.args.caller c.args.exchange.now)

pub returns-in_default : goal.returns-in_default
returns-in_default g c =
    let m = c.args.executor.now in
    let base = boot_key g.T.Tag.mac c.args.node_key.now c.args.boot in
    let given = given_by m c.args.caller base c.args.exchange.now in
    let Does : Outcome → Type 0 = λ outcome. Concludes outcome m c.run_plan.result c.run_plan.new.executor c.run_plan.new.exchange in
    let zeroth : c.args.code ≡ 0 → ⊥ = search rules in
    let first : c.args.code ≡ 1 → ⊥ = search rules in
    subst Does (sym (other_code g.T.Tag.mac c.args.code given m.mem zeroth first)) (c.run_plan.ensures base)
