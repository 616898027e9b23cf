use Rattle.sx_parse.proofs.Statements.{stores}
use Rattle.sx_parse.proofs.statement.element.Goals as goal

pub returns-clause-adds : goal.returns-clause-adds
returns-clause-adds c = stores _ _ _ c.in_ok-index.rest.now c.in_ok-rest.rest.now c.in_ok-rest-2.rest.now _ _ _ c.in_ok-index.ensures.reads
    c.in_ok-rest.ensures.takes c.in_ok-rest-2.ensures.takes c.in_ok-new.ensures.reads
