use Rattle.std.proofs.Common.{map, ap, ◌∙◌}
use Rattle.sx_index.specs.Places.{place_of}
use Rattle.sx_index.proofs.Indexed.{place_is}
use Rattle.sx_entries.proofs.Listing.{place_entry}
use Rattle.sx_entries.proofs.listed.Listed.place_named.Goals as goal

pub returns : goal.returns
returns g c =
    place_entry g.T.HasName.name_of c.args.self.now c.args.name.now c.place_of.result
    (place_is c.self.inside.names (map g.T.HasName.name_of c.self.inside.entries.items) (map g.T.HasName.name_of c.args.self.now) c.bytes.result.now c.place_of.result
    (ap (map g.T.HasName.name_of) c.self.view_is) c.self.invariant c.place_of.ensures
    ∙ ap (place_of (map g.T.HasName.name_of c.args.self.now)) c.bytes.ensures.bytes)
