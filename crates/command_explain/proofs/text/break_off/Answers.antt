use Rattle.std.proofs.Common.{ap, sym}
use Rattle.std.specs.Prelude.{codes}
use Rattle.command_promise.specs.declared.status.Status.TheVariants.{Broken}
use Rattle.command_promise.proofs.Laws.{ends-same}
use Rattle.command_text.specs.Refusals.{fault_output}
use Rattle.command_explain.proofs.text.break_off.Goals as goal

pub returns-clause-ends : goal.returns-clause-ends
returns-clause-ends g c =
    ends-same _ _ _ _ _ _ (ap (λ n. fault_output (codes "fault trace E") n c.args.number Broken) (sym c.number.ensures)) c.finish_fault.ensures.ends
