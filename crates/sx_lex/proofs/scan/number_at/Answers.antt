use Rattle.std.proofs.Common.{arith}
use Rattle.sx_lex.proofs.Numbers.{longest_decimal}
use Rattle.sx_lex.proofs.scan.number_at.Goals as goal

pub returns-clause-found : goal.returns-clause-found
returns-clause-found c = longest_decimal _ c.digits_at-digits.result.count c.digits_at-digits.result.number c.in_default.ensures.none
    c.digits_at-digits.ensures.count c.digits_at-digits.ensures.number (omega (arith, c.if-digits-eq0.false))
