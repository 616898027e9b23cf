use Rattle.std.proofs.Common.{rules, ◌≡◌, List, ℕ, slice_index, subst, ◌∙◌}
use Rattle.sx_bus.specs.declared.devices.Window.{Window}
use Rattle.spec_machine.specs.Plan.{Plan, Bytes}
use Rattle.spec_machine.specs.ModuleRows.{with_key}
use Rattle.spec_machine.specs.Run.{Outcome}
use Rattle.sx_sancus.specs.Told.{ran_of}
use Rattle.sx_sancus.specs.Parts.{tested_buffers}
use Rattle.sx_sancus.proofs.inputs.read_inputs.Goals as goal

-- what follows the key
abbrev texts : List ℕ → (List ℕ → List ℕ → List ℕ → Plan) → List ℕ → Plan
texts regs rest key =
    Bytes (slice_index regs 10) (slice_index regs 11) (λ ad. Bytes (slice_index regs 12) (slice_index regs 13) (λ text. rest key ad text))

-- tests of buffers that are passed are those of the machine's own registers and devices
passed : (regs regs' : List ℕ) (devices devices' : List Window) (rest : Outcome) → regs ≡ regs' → devices ≡ devices'
    → tested_buffers regs devices rest ≡ rest → tested_buffers regs' devices' rest ≡ rest
passed regs regs' devices devices' rest e f h =
    subst (λ (rs : List ℕ). tested_buffers rs devices' rest ≡ rest) e
    (subst (λ (ws : List Window). tested_buffers regs ws rest ≡ rest) f h)

pub returns-in_err-key-clause-then : goal.returns-in_err-key-clause-then
returns-in_err-key-clause-then g c = λ caller base exchange rest.
    let m = c.args.executor.now in
    let keyed = ran_of (λ given. with_key given c.args.own.now (texts m.regs rest)) m caller base exchange in
    passed c.regs.result.now m.regs c.windows.result.now m.devices keyed c.regs.ensures c.windows.ensures (c.in_ok-buffers.ensures.then keyed)
    ∙ c.in_err-key.ensures caller base exchange (texts m.regs rest)
    ∙ search rules

pub returns-clause-then : goal.returns-clause-then
returns-clause-then g c = λ caller base exchange rest.
    let m = c.args.executor.now in
    let keyed = ran_of (λ given. with_key given c.args.own.now (texts m.regs rest)) m caller base exchange in
    let key = c.in_ok-key.key in
    let read : ran_of (λ given. texts m.regs rest key) m caller base exchange
    ≡ ran_of (λ given. rest key c.in_ok-header.header c.in_ok-text.text) m caller base exchange = search rules in
    passed c.regs.result.now m.regs c.windows.result.now m.devices keyed c.regs.ensures c.windows.ensures (c.in_ok-buffers.ensures.then keyed)
    ∙ c.in_ok-key.ensures caller base exchange (texts m.regs rest)
    ∙ read
