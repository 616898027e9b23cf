use Rattle.std.proofs.Common.{◌≡◌, ◌+◌, ◌-◌, ◌*◌, ℕ, true, take, drop, replicate, sym, ap, subst, ◌∙◌, arith}
use Rattle.std.specs.Prelude.{bytes_eq}
use Rattle.std.proofs.lemmas.Bool.{false≢true, true_from_ne_false, not_from_false}
use Rattle.std.proofs.lemmas.List.{length-map}
use Rattle.std.proofs.lemmas.Slice.Eq.{bytes_eq-Decides}
use Rattle.sx_paged.specs.Paged.{AreBlank, number}
use Rattle.sx_paged.proofs.Kept.{run-step, all-same}
use Rattle.sx_paged.proofs.paged.release_all.Goals.{then-ne, else-ne}
use Rattle.sx_paged.proofs.paged.release_all.Goals as goal

pub loop-run-preserved : goal.loop-run-preserved
loop-run-preserved c =
    let l = c.loop-run in let from : ℕ = 32 * l.run in
    let next : from + 32 ≡ 32 * (l.run + 1) = omega arith in
    elim c.if-ne.branch [
      | then-ne w ↦ rw (w.arena-is, w.starts-is, ← next) w.release_run.ensures
      | else-ne w ↦
          let count : from + 32 - from ≡ 32 = omega arith in
          let same : bytes_eq (take (from + 32 - from) (drop from l.starts)) c.as_slice.result.now ≡ true =
          true_from_ne_false _ (λ f. false≢true (sym w.if-ne.false ∙ c.ne.ensures ∙ not_from_false _ f)) in
          let run : take 32 (drop from l.starts) ≡ replicate 32 c.args.blank =
          ap (λ (n : ℕ). take n (drop from l.starts)) (sym count) ∙ (bytes_eq-Decides _ _).0 same ∙ c.as_slice.ensures in
          rw (w.arena-is, w.starts-is) (l.invariant.0, subst (AreBlank l.starts c.args.blank) next (run-step l.starts c.args.blank from 32 run l.invariant.1))
    ]

pub returns-clause-none : goal.returns-clause-none
returns-clause-none c =
    let l = c.loop-run in let is = l.invariant.0 in
    all-same l.starts c.args.blank 256 (sym (length-map l.starts number) ∙ is.pages.long) (λ i h. l.invariant.1 i (omega (arith, h, c.loop-run-test.false)))
