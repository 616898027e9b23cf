use Rattle.sx_parse.proofs.Statements.{emits}
use Rattle.sx_parse.proofs.statement.+statement.Goals as goal

pub statement-returns-in_ok-emitted-in-Emit-clause-adds : goal.statement-returns-in_ok-emitted-in-Emit-clause-adds
statement-returns-in_ok-emitted-in-Emit-clause-adds t c =
    emits _ _ c.in-Some.rest.now _ c.in-Some.first.now _ c.in-Some.ensures.cases.0 c.in-Emit.is c.in_ok-emitted-in-Emit.ensures.reads
