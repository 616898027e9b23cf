use Rattle.command_promise.proofs.Laws.{ends-write-failed, prefix-more}
use Rattle.command_promise.proofs.turned.put_text.Goals as goal

pub returns-in-Err-clause-does : goal.returns-in-Err-clause-does
returns-in-Err-clause-does g c = λ left more. ends-write-failed _ _ _ _ (λ t. prefix-more _ _ c.args.text.now (left more).text (c.in-Err.ensures.failed t)) c.in-Err.ensures.fault
