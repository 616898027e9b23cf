use Rattle.std.proofs.Common.{rules, ◌≡◌, List, ℕ, slice_index, subst, ◌∙◌}
use Rattle.spec_machine.specs.Run.{Outcome, Violated}
use Rattle.spec_machine.specs.Answers.{followed}
use Rattle.sx_sancus.specs.Told.{given_by}
use Rattle.sx_sancus.specs.Parts.{given_tag, attested_by, answer_outcome}
use Rattle.sx_sancus.proofs.attest.identified.Goals as goal

pub returns-in_err-given : goal.returns-in_err-given
returns-in_err-given g c = λ caller base exchange.
    let m = c.args.executor.now in
    let given = given_by m caller base exchange in
    let rest = λ (regs tag : List ℕ). attested_by g.T.Tag.mac given m (slice_index regs 9) c.args.own.now tag in
    let ends : (after : ℕ → Outcome) → Violated c.in_err-given.field-0.0 ≡ followed c.from_residual.result after = λ after. search rules in
    let Violates : List ℕ → Type 0 = λ regs. given_tag m (slice_index regs 10) (rest regs) ≡ Violated c.in_err-given.field-0.0 in
    subst Violates c.regs-regs.ensures (c.in_err-given.ensures (rest c.regs-regs.result.now)) ∙ ends _

pub returns : goal.returns
returns g c = λ caller base exchange.
    let m = c.args.executor.now in
    let given = given_by m caller base exchange in
    let rest = λ (regs tag : List ℕ). attested_by g.T.Tag.mac given m (slice_index regs 9) c.args.own.now tag in
    let Ends : List ℕ → Type 0 = λ regs. given_tag m (slice_index regs 10) (rest regs) ≡ followed c.attested.result (answer_outcome given m) in
    subst Ends c.regs-regs.ensures (c.in_ok-given.ensures (rest c.regs-regs.result.now) ∙ c.attested.ensures given)
