use Rattle.std.proofs.Common.{◌∙◌, ap, List, ℕ}
use Rattle.sx_paged.specs.Paged.{kept}
use Rattle.sx_paged.proofs.Starts.{kept-empty}
use Rattle.sx_paged.proofs.paged.Paged.wipe.Goals as goal

pub returns : goal.returns
returns c =
    let arena = c.release_all.new.arena in let blank = c.blank_page-blank.result in
    ap (λ (starts : List ℕ). kept arena starts blank) c.release_all.ensures.none ∙ kept-empty arena blank
