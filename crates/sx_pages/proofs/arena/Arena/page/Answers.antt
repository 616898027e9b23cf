use Rattle.std.proofs.Common.{◌≡◌, true, false, get_or, sym, ◌∙◌, arith}
use Rattle.sx_pages.proofs.Views.{is_live-pages_of, page-is}
use Rattle.sx_pages.proofs.arena.Arena.page.Goals as goal

pub page-requires : goal.page-requires
page-requires c =
    let a = c.self.inside in let same = c.self.invariant.2.flags ∙ sym a.block.shaped.0 in
    let live : get_or a.lives c.args.page false ≡ true = sym (is_live-pages_of a.lives a.block.pages c.args.page same) ∙ (rw c.self.view_is c.requires) in
    c.self.invariant.2.full c.args.page (omega (arith, c.ranges.page.fits)) live

pub returns : goal.returns
returns c =
    let a = c.self.inside in let same = c.self.invariant.2.flags ∙ sym a.block.shaped.0 in
    let live : get_or a.lives c.args.page false ≡ true = sym (is_live-pages_of a.lives a.block.pages c.args.page same) ∙ (rw c.self.view_is c.requires) in
    rw (← c.self.view_is) (page-is a.lives a.block.pages c.args.page c.page.result.now same live c.page.ensures)
