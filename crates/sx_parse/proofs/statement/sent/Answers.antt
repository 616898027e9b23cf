use Rattle.std.proofs.Common.{arith}
use Rattle.sx_parse.proofs.Statements.{argument}
use Rattle.sx_parse.proofs.statement.sent.Goals as goal

pub returns-clause-adds : goal.returns-clause-adds
returns-clause-adds c = argument _ _ _ c.in-Some.rest.now c.in_ok-sent.rest.now c.in_ok-rest.rest.now _ c.in-Some.first.now _ c.in-Some.ensures.cases.0
    c.in-Open.is (omega arith) c.in_ok-sent.ensures.reads c.in_ok-rest.ensures.takes c.in_ok-rest-2.ensures.takes
