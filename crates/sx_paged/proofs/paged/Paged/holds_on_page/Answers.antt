use Rattle.std.proofs.Common.{◌≡◌, ◌+◌, ◌-◌, ◌%◌, ℕ, List, length, take, drop, sym, ap, ◌∙◌, arith}
use Rattle.std.specs.Prelude.{bytes_eq}
use Rattle.sx_paged.proofs.Standing.{stand_on_page}
use Rattle.sx_paged.proofs.paged.Paged.holds_on_page.Goals as goal

pub returns : goal.returns
returns c =
    let at = c.args.at in let expected = c.args.expected.now in let n = length expected in
    let count : at % 256 + n - at % 256 ≡ n = omega arith in
    c.eq.ensures ∙ ap (λ (k : ℕ). bytes_eq (take k (drop (at % 256) c.page-page.result.now)) expected) count
    ∙ ap (λ (bytes : List ℕ). bytes_eq (take n (drop (at % 256) bytes)) expected) c.page-page.ensures
    ∙ ap (λ (bytes : List ℕ). bytes_eq bytes expected) (sym (stand_on_page c.args.self.now at n c.requires.shaped (omega (arith, c.ranges.at.fits)) c.requires.within))
