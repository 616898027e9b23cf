use Rattle.sx_executor.proofs.gap.Gaps.empty.Goals as goal

pub returns : goal.returns
returns c = λ live. record { last = c.empty-gap.ensures.gap live; older = c.empty-gap.ensures.gap live }
