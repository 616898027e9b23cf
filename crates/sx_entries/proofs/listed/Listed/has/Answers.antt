use Rattle.std.proofs.Common.{is_some, ap, ◌∙◌}
use Rattle.std.specs.Str.{bytes_eq}
use Rattle.sx_entries.proofs.Listing.{some_any}
use Rattle.sx_entries.proofs.listed.Listed.has.Goals as goal

pub returns : goal.returns
returns g c =
    c.is_some.ensures ∙ ap is_some c.place_named.ensures
    ∙ some_any (λ e. bytes_eq (g.T.HasName.name_of e) c.args.name.now) c.args.self.now
