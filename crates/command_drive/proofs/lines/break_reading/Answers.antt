use Rattle.std.proofs.Common.{ap, sym}
use Rattle.command_promise.proofs.Laws.{ends-same}
use Rattle.command_drive.specs.Output.{reading_fault}
use Rattle.command_drive.proofs.lines.break_reading.Goals as goal

pub returns-clause-ends : goal.returns-clause-ends
returns-clause-ends g c =
    ends-same _ _ _ _ _ _ (ap (λ n. reading_fault n c.args.number) (sym c.number.ensures)) c.finish_fault.ensures.ends
