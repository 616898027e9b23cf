use Rattle.std.specs.Prelude.{◌≡◌, ◌-◌, ◌++◌}
use Rattle.command_snap.specs.Answers.{registers_text}
use Rattle.command_snap.proofs.answers.push_registers.Given as goal

-- what was appended, and after it the registers that are left
abbrev pub invariant-loop-k : goal.invariant-loop-k
invariant-loop-k g l =
    l.text.items ++ registers_text (l.count - l.k) l.k l.node.regs ≡ l.fn.text.items ++ registers_text l.count 0 l.node.regs
