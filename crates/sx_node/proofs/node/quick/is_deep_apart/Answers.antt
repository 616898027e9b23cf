use Rattle.sx_node.proofs.node.quick.is_deep_apart.Goals as goal

pub returns-then-is_vacant-clause-ahead : goal.returns-then-is_vacant-clause-ahead
returns-then-is_vacant-clause-ahead g c = λ t. c.is_vacant.ensures.ahead c.if-is_vacant.true 0

pub returns-clause-ahead : goal.returns-clause-ahead
returns-clause-ahead g c = λ t. c.is_deep_in_gap.ensures.ahead t 0
