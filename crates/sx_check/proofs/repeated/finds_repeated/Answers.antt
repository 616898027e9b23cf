use Rattle.std.proofs.Common.{rules, ◌≡◌, ◌∙◌, ◌||◌, None, nat_lt, count_by, sym}
use Rattle.sx_check.specs.Names.{is_device}
use Rattle.sx_check.specs.Listed.{is_in_twice, names_as}
use Rattle.sx_check.proofs.Named.{repeated_is}
use Rattle.sx_check.proofs.repeated.finds_repeated.Goals as goal

pub returns : goal.returns
returns c =
    let ds = c.args.decls.now in
    let either : c.if-devices-gt1.result ≡ (nat_lt 1 (count_by is_device ds) || is_in_twice (names_as None ds)) = search rules in
    either ∙ sym (repeated_is ds)
