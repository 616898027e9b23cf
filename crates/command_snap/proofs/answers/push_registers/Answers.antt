use Rattle.std.proofs.Common.{◌∙◌, ◌++◌, ℕ, ap}
use Rattle.command_text.proofs.Ends.{all_lines}
use Rattle.command_snap.specs.Answers.{register_text}
use Rattle.command_snap.proofs.Registers.{next_register, no_registers}
use Rattle.command_snap.proofs.answers.push_registers.Goals as goal

pub loop-k-preserved : goal.loop-k-preserved
loop-k-preserved g c =
    let text = c.loop-k.text.items in
    next_register c.args.count c.loop-k.k c.args.node.now.regs text c.push_register.new.text.items c.loop-k-test.true
    (c.in_ok-push_register.ensures ∙ ap (λ (v : ℕ). text ++ register_text v) c.reg.ensures)
    ∙ c.loop-k.invariant

pub returns : goal.returns
returns g c = all_lines _ _ _ c.loop-k.invariant (no_registers c.args.count c.loop-k.k c.args.node.now.regs c.loop-k-test.false)
