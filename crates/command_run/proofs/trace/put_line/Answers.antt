use Rattle.command_promise.proofs.Laws.{ends-write-failed, prefix-more}
use Rattle.command_text.proofs.Batches.{does_whole, whole_text}
use Rattle.command_run.proofs.trace.put_line.Goals as goal

pub returns-in-Ok-clause-does : goal.returns-in-Ok-clause-does
returns-in-Ok-clause-does g c = λ left. does_whole c.in-Ok.ensures left

pub returns-in-Ok-clause-whole : goal.returns-in-Ok-clause-whole
returns-in-Ok-clause-whole g c = λ on t. whole_text c.in-Ok.ensures t

pub returns-in-Err-clause-does : goal.returns-in-Err-clause-does
returns-in-Err-clause-does g c = λ left more. ends-write-failed _ _ _ _ (λ t. prefix-more _ _ _ (left more).text (c.in-Err.ensures.prefix t)) c.in-Err.ensures.fault
