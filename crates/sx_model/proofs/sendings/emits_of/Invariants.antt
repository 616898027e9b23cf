use Rattle.std.proofs.Common.{◌≡◌, ◌++◌, drop}
use Rattle.sx_model.specs.Sendings.{emits_of}
use Rattle.sx_model.proofs.sendings.emits_of.Given as goal

-- what the acts so far emit, and after it the others
abbrev pub invariant-loop-act : goal.invariant-loop-act
invariant-loop-act l = l.emits.items ++ emits_of (drop l.act-index l.acts) ≡ emits_of l.acts
