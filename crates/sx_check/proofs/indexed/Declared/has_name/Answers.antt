use Rattle.std.proofs.Common.{◌∙◌, None, ap}
use Rattle.sx_index.proofs.Placed.{some_of}
use Rattle.sx_index.specs.Index.{IsNameIndex}
use Rattle.sx_check.specs.Names.{is_declared}
use Rattle.sx_check.specs.Listed.{names_as}
use Rattle.sx_check.proofs.Named.{declared_is}
use Rattle.sx_check.proofs.indexed.Declared.has_name.Goals as goal

pub returns-in-Some : goal.returns-in-Some
returns-in-Some c =
    let ds = c.self.inside.decls.now in
    let names = names_as None ds in
    c.is_in.ensures names (some_of (λ index. IsNameIndex index names) c.self.inside.all c.in-Some.index c.in-Some.is c.self.invariant.0)
    ∙ declared_is ds c.args.x.now ∙ ap (λ ds. is_declared ds c.args.x.now) c.self.view_is
