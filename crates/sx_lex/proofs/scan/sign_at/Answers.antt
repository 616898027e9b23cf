use Rattle.sx_lex.proofs.Signs.{no_sign, longest_sign}
use Rattle.sx_lex.proofs.scan.sign_at.Goals as goal

pub returns-in_default-sign-clause-none : goal.returns-in_default-sign-clause-none
returns-in_default-sign-clause-none c = no_sign _ c.in-Some.field-0-1.now c.in-Some.first.now c.in-Some.ensures.cases.0 c.requires.lower c.requires.digit c.requires.pair c.in_default-sign.ensures

pub returns-clause-found : goal.returns-clause-found
returns-clause-found c = longest_sign _ c.in-Some.field-0-1.now c.in-Some.first.now c.in-Some-sign.kind c.in-Some.ensures.cases.0 c.requires.lower
    c.requires.digit c.requires.pair c.in-Some-sign.ensures
