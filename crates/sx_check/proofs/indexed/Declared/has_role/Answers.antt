use Rattle.std.proofs.Common.{◌∙◌, Some}
use Rattle.sx_index.proofs.Placed.{some_of}
use Rattle.sx_index.specs.Index.{IsNameIndex}
use Rattle.sx_check.specs.Listed.{names_as}
use Rattle.sx_check.proofs.Named.{role_is}
use Rattle.sx_check.proofs.indexed.Declared.has_role.Goals as goal

pub returns-in-Some : goal.returns-in-Some
returns-in-Some c =
    let names = names_as (Some c.args.role) c.args.self.now in
    c.is_in.ensures names (some_of (λ index. IsNameIndex index names) c.index_of.result.now c.in-Some.index c.in-Some.is c.index_of.ensures)
    ∙ role_is c.args.role c.args.self.now c.args.x.now
