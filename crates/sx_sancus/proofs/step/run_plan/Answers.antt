use Rattle.std.proofs.Common.{◌≡◌, Some, sym, subst, ◌∙◌}
use Rattle.sx_rules.specs.Access.{section_of}
use Rattle.spec_machine.specs.Plan.{Plan}
use Rattle.sx_sancus.specs.Told.{given_by, ran_with, Concludes}
use Rattle.sx_sancus.proofs.Rows.{attest_row, wrap_row, unwrap_row}
use Rattle.sx_sancus.proofs.step.run_plan.Goals as goal

pub returns-in-2 : goal.returns-in-2
returns-in-2 g c = λ base.
    let m = c.args.executor.now in
    let given = given_by m c.args.caller base c.args.exchange.now in
    let stands : section_of m.sections.live m.own ≡ Some c.in-Some.own = sym c.running.ensures ∙ c.in-Some.is in
    let Does : Plan → Type 0 = λ plan. Concludes (ran_with given plan m.mem) m c.attest.result c.attest.new.executor c.args.exchange.now in
    rw c.in-2.is (subst Does (sym (attest_row g.T.Tag.mac given c.in-Some.own stands)) (c.attest.ensures c.args.caller base))

pub returns-in-4 : goal.returns-in-4
returns-in-4 g c = λ base.
    let m = c.args.executor.now in
    let given = given_by m c.args.caller base c.args.exchange.now in
    let stands : section_of m.sections.live m.own ≡ Some c.in-Some.own = sym c.running.ensures ∙ c.in-Some.is in
    let Does : Plan → Type 0 = λ plan. Concludes (ran_with given plan m.mem) m c.wrap.result c.wrap.new.executor c.wrap.new.exchange in
    rw c.in-4.is (subst Does (sym (wrap_row g.T.Tag.mac given c.in-Some.own stands)) (c.wrap.ensures c.args.caller base))

pub returns-in-5 : goal.returns-in-5
returns-in-5 g c = λ base.
    let m = c.args.executor.now in
    let given = given_by m c.args.caller base c.args.exchange.now in
    let stands : section_of m.sections.live m.own ≡ Some c.in-Some.own = sym c.running.ensures ∙ c.in-Some.is in
    let Does : Plan → Type 0 = λ plan. Concludes (ran_with given plan m.mem) m c.unwrap.result c.unwrap.new.executor c.unwrap.new.exchange in
    rw c.in-5.is (subst Does (sym (unwrap_row g.T.Tag.mac given c.in-Some.own stands)) (c.unwrap.ensures c.args.caller base))
