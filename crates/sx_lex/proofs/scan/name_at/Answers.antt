use Rattle.std.proofs.Common.{refl, sym, ap, ◌+◌}
use Rattle.sx_lex.proofs.Names.{longest_name}
use Rattle.sx_lex.proofs.scan.name_at.Goals as goal

pub returns-clause-found : goal.returns-clause-found
returns-clause-found c = longest_name _ c.in-Some.rest.now _ c.in-Some.first.now _ _ c.in-Some.ensures.cases.0 (sym c.if-not-is_ascii_lowercase.ensures.value)
    (ap (λ n. 1 + n) c.name_run.ensures.front) refl c.keyword_or_name-kind.ensures
