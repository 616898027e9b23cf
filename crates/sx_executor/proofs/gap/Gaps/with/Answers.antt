use Rattle.sx_executor.proofs.gap.Gaps.with.Goals as goal

pub returns : goal.returns
returns c = λ live kept gap. record { last = gap; older = kept.last }
