use Rattle.std.proofs.Common.{◌≡◌, ◌++◌, drop}
use Rattle.sx_model.specs.Sendings.{to_send}
use Rattle.sx_model.proofs.sendings.add_sent.Given as goal

-- what the ends so far send, and after it what the others do
abbrev pub invariant-loop-at : goal.invariant-loop-at
invariant-loop-at l =
    l.sendings.items ++ to_send (drop l.at l.ends) (drop l.at l.views) l.output l.value ≡ l.initial.sendings.items ++ to_send l.ends l.views l.output l.value
