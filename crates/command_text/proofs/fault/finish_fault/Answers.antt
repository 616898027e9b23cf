use Rattle.std.specs.Prelude.{codes, decimal, ◌∷◌, []}
use Rattle.command_promise.proofs.Laws.{ends-write-failed, prefix-more}
use Rattle.command_text.specs.Refusals.{fault_output}
use Rattle.command_text.proofs.fault.finish_fault.Goals as goal

pub returns-in-Err-clause-ends : goal.returns-in-Err-clause-ends
returns-in-Err-clause-ends g c =
    ends-write-failed _ _ _ (fault_output c.args.words.now c.args.rule c.args.number c.args.status)
    (λ t.
    prefix-more _ _ _ (10 ∷ []) (prefix-more _ _ _ (decimal c.args.number)
    (prefix-more _ _ _ (codes " ") (prefix-more _ _ c.args.words.now (decimal c.args.rule) (c.in-Err.ensures.failed t)))))
    c.in-Err.ensures.fault
