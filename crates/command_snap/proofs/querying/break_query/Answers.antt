use Rattle.std.proofs.Common.{ap, sym}
use Rattle.std.specs.Prelude.{codes}
use Rattle.command_promise.specs.declared.status.Status.TheVariants.{NoQuery}
use Rattle.command_promise.proofs.Laws.{ends-same}
use Rattle.command_text.specs.Refusals.{fault_output}
use Rattle.command_snap.proofs.querying.break_query.Goals as goal

pub returns-clause-ends : goal.returns-clause-ends
returns-clause-ends g c =
    ends-same _ _ _ _ _ _ (ap (λ n. fault_output (codes "fault query Y") n c.args.number NoQuery) (sym c.number.ensures)) c.finish_fault.ensures.ends
