use Rattle.sx_lex.proofs.Signs.{longest_pair}
use Rattle.sx_lex.proofs.scan.pair_at.Goals as goal

pub returns-clause-found : goal.returns-clause-found
returns-clause-found c = longest_pair _ c.in-Some.behind.now c.in-Some-split_first.field-0-1.now c.in-Some.first.now c.in-Some-split_first.second.now
    c.in-Some-sign_of_two.kind c.in-Some.ensures.cases.0 c.in-Some-split_first.ensures.cases.0 c.requires.lower c.requires.digit c.in-Some-sign_of_two.ensures
