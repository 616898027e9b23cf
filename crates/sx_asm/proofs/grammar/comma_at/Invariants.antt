use Rattle.std.proofs.Common.{◌≡◌, ◌++◌, take, drop}
use Rattle.std.specs.Prelude.{option_map}
use Rattle.sx_asm.specs.Grammar.{parted}
use Rattle.sx_asm.proofs.grammar.comma_at.Given as goal

abbrev pub invariant-loop-i : goal.invariant-loop-i
invariant-loop-i l = parted l.tokens ≡ option_map (λ p. (take l.i l.tokens ++ p.0, p.1)) (parted (drop l.i l.tokens))
