use Rattle.sx_explain.proofs.Filled.{LinksDone}
use Rattle.sx_explain.proofs.numbers.fill_all.Given as goal

-- the connections so far
abbrev pub invariant-loop-c : goal.invariant-loop-c
invariant-loop-c l = LinksDone l.latest.number l.links l.model.state l.latest.part l.initial.causes.items l.causes.items l.c l.«end»
