use Rattle.std.proofs.Common.{refl, arith}
use Rattle.std.proofs.lemmas.Bool.{ne_eqb}
use Rattle.sx_lex.proofs.Numbers.{other_second, no_digits, longest_hexadecimal}
use Rattle.sx_lex.proofs.scan.hexadecimal_at.Goals as goal

pub returns-then-second-ne120-clause-none : goal.returns-then-second-ne120-clause-none
returns-then-second-ne120-clause-none c =
    other_second _ c.in-Some.behind.now c.in-Some-split_first.rest.now c.in-Some.first.now c.in-Some-split_first.second.now c.in-Some.ensures.cases.0
    c.in-Some-split_first.ensures.cases.0 (ne_eqb c.in-Some-split_first.second.now 120 c.if-second-ne120.true)

pub returns-then-digits-eq0-clause-none : goal.returns-then-digits-eq0-clause-none
returns-then-digits-eq0-clause-none c = no_digits _ c.in-Some.behind.now c.in-Some-split_first.rest.now c.in-Some.first.now c.in-Some-split_first.second.now
    c.digits_at-digits.result.count c.in-Some.ensures.cases.0 c.in-Some-split_first.ensures.cases.0 c.digits_at-digits.ensures.count c.if-digits-eq0.true

pub returns-clause-found : goal.returns-clause-found
returns-clause-found c = longest_hexadecimal _ c.in-Some.behind.now c.in-Some-split_first.rest.now c.in-Some.first.now c.in-Some-split_first.second.now
    c.digits_at-digits.result.count _ _ c.in-Some.ensures.cases.0 c.in-Some-split_first.ensures.cases.0 c.if-first-ne48.false c.if-second-ne120.false
    c.digits_at-digits.ensures.count c.digits_at-digits.ensures.number (omega (arith, c.if-digits-eq0.false)) refl
