use Rattle.std.proofs.Common.{◌≡◌, true, false, get_or, sym, ◌∙◌, arith}
use Rattle.sx_pages.proofs.Kept.{written}
use Rattle.sx_pages.proofs.Views.{is_live-pages_of, read-is}
use Rattle.sx_pages.proofs.arena.Arena.read.Goals as goal

pub byte-requires : goal.byte-requires
byte-requires c =
    let a = c.self.inside in let same = c.self.invariant.2.flags ∙ sym a.block.shaped.0 in
    let live : get_or a.lives c.args.page false ≡ true = sym (is_live-pages_of a.lives a.block.pages c.args.page same) ∙ (rw c.self.view_is c.requires) in
    written a.lives a.block.pages a.head a.free c.args.page c.args.at a.block.shaped c.self.invariant.2 (omega (arith, c.ranges.page.fits)) (omega (arith, c.ranges.at.fits)) live

pub returns : goal.returns
returns c =
    let a = c.self.inside in let same = c.self.invariant.2.flags ∙ sym a.block.shaped.0 in
    let live : get_or a.lives c.args.page false ≡ true = sym (is_live-pages_of a.lives a.block.pages c.args.page same) ∙ (rw c.self.view_is c.requires) in
    rw (← c.self.view_is) (read-is a.lives a.block.pages c.args.page c.args.at c.byte.result.now same live c.byte.ensures)
