use Rattle.std.proofs.Common.{refl}
use Rattle.command_promise.proofs.Laws.{ends-out-of-memory, prefix-none}
use Rattle.command_text.proofs.Keeping.{ends_kept, ends_stopped}
use Rattle.command_text.proofs.batch.finish_wanted.Goals as goal

pub returns-in-Ok-clause-ends : goal.returns-in-Ok-clause-ends
returns-in-Ok-clause-ends g c = λ o. ends_kept o c.in-Ok.ensures (ends-out-of-memory _ _ _ o (λ t. prefix-none _ _ _ refl) refl)

pub returns-in-Err-clause-ends : goal.returns-in-Err-clause-ends
returns-in-Err-clause-ends g c = λ o. ends_stopped o c.in-Err.ensures

pub returns-in-Ok-clause-made : goal.returns-in-Ok-clause-made
returns-in-Ok-clause-made g c = λ six t. c.in-Ok.ensures.wrote t
