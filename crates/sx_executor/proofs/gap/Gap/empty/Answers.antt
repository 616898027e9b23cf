use Rattle.sx_executor.proofs.Gaps.{empty}
use Rattle.sx_executor.proofs.Readable as readable
use Rattle.sx_executor.proofs.gap.Gap.empty.Goals as goal

pub returns-clause-gap : goal.returns-clause-gap
returns-clause-gap c = λ live. empty live

pub returns-clause-readable : goal.returns-clause-readable
returns-clause-readable c = λ live places. readable.empty live places
