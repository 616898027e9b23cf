use Rattle.sx_parse.proofs.Statements.{assigns}
use Rattle.sx_parse.proofs.statement.assignment.Goals as goal

pub returns-in_ok-new-in-Equals-clause-adds : goal.returns-in_ok-new-in-Equals-clause-adds
returns-in_ok-new-in-Equals-clause-adds c = assigns _ _ _ c.in-Some.rest.now _ c.in-Some.first.now _ c.in-Some.ensures.cases.0 c.in-Equals.is c.in_ok-new-in-Equals.ensures.reads
