use Rattle.std.proofs.Common.{◌<◌, ap, ◌∙◌, arith}
use Rattle.sx_pages.specs.Pages.{is_live}
use Rattle.sx_paged.proofs.Kept.{keep-step}
use Rattle.sx_paged.proofs.Starts.{live-at, drop-step}
use Rattle.sx_paged.proofs.paged.release_run.Goals.{then-start-blank, else-start-blank}
use Rattle.sx_paged.proofs.paged.release_run.Goals as goal

pub release-requires : goal.release-requires
release-requires c =
    let l = c.loop-index in
    ap (is_live l.arena) c.number_of.ensures ∙ live-at l.arena l.starts c.args.blank l.invariant.0 l.index (omega (arith, c.loop-index-test.true, c.requires.within))

pub loop-index-preserved : goal.loop-index-preserved
loop-index-preserved c =
    let l = c.loop-index in let is = l.invariant.0 in let inside : l.index < 256 = omega (arith, c.loop-index-test.true, c.requires.within) in
    elim c.if-start-blank.branch [
      | then-start-blank w ↦ rw (w.arena-is, w.starts-is, w.release.ensures, w.number_of.ensures)
          (drop-step l.arena l.starts c.args.blank l.index inside is c.requires.page w.if-start-blank.true l.invariant.1)
      | else-start-blank w ↦ rw (w.arena-is, w.starts-is) (is, keep-step l.starts c.args.blank l.index w.if-start-blank.false l.invariant.1)
    ]
