use Rattle.std.proofs.Common.{◌≡◌, ◌+◌, ◌-◌, ◌%◌, ℕ, List, length, take, drop, sym, ap, ◌∙◌, arith}
use Rattle.sx_paged.proofs.Standing.{stand_on_page}
use Rattle.sx_paged.proofs.paged.Paged.copy_on_page.Goals as goal

pub returns : goal.returns
returns c =
    let at = c.args.at in let n = length c.args.into.now in
    let count : at % 256 + n - at % 256 ≡ n = omega arith in
    c.copy_from_slice.ensures.after ∙ ap (λ (k : ℕ). take k (drop (at % 256) c.page-page.result.now)) count
    ∙ ap (λ (bytes : List ℕ). take n (drop (at % 256) bytes)) c.page-page.ensures
    ∙ sym (stand_on_page c.args.self.now at n c.requires.shaped (omega (arith, c.ranges.at.fits)) c.requires.within)
