use Rattle.std.proofs.Common.{◌≡◌, ◌++◌, drop}
use Rattle.sx_model.specs.Sendings.{all_to_send}
use Rattle.sx_model.proofs.sendings.to_send.Given as goal

-- what the acts so far are sent as, and after it the others
abbrev pub invariant-loop-act : goal.invariant-loop-act
invariant-loop-act l = l.sendings.items ++ all_to_send l.ends l.views (drop l.act-index l.acts) ≡ all_to_send l.ends l.views l.acts
