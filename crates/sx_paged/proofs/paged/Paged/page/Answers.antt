use Rattle.std.proofs.Common.{ap, ◌∙◌, arith}
use Rattle.sx_pages.specs.Pages.{is_live, held}
use Rattle.sx_paged.proofs.Starts.{live-at, held-at}
use Rattle.sx_paged.proofs.paged.Paged.page.Goals as goal

pub page-requires : goal.page-requires
page-requires c =
    let inside = c.self.inside in
    ap (is_live inside.arena) c.number_of.ensures ∙ live-at inside.arena inside.starts inside.blank c.self.invariant c.args.index (omega (arith, c.ranges.index.fits))

pub returns : goal.returns
returns c =
    let inside = c.self.inside in
    rw (← c.self.view_is) (c.page.ensures ∙ ap (held inside.arena) c.number_of.ensures
    ∙ held-at inside.arena inside.starts inside.blank c.self.invariant c.args.index (omega (arith, c.ranges.index.fits)))
