use Rattle.std.proofs.Common.{◌≡◌, ◌+◌, ◌-◌, ◌*◌, ◌%◌, ◌++◌, List, ℕ, subst, append-nil, ap, ◌∙◌, arith}
use Rattle.sx_tag.specs.Stream.{Leads}
use Rattle.spec_machine.specs.Memory.{bytes_from}
use Rattle.spec_machine.proofs.BytesFrom.{bytes_none}
use Rattle.sx_sancus.proofs.Stretches.{fed_on}
use Rattle.sx_sancus.proofs.identity.feed_public.Goals as goal

pub loop-i-init : goal.loop-i-init
loop-i-init g c = λ answer fed h. rw (bytes_none c.args.executor.now.mem c.args.layout.now.pub_from, append-nil) h

pub loop-i-preserved : goal.loop-i-preserved
loop-i-preserved g c = λ answer fed h.
    let mem = c.args.executor.now.mem in let at = c.args.layout.now.pub_from in let n = 64 * c.loop-i.i in
    let taken = c.feed_part.ensures answer (fed ++ bytes_from mem at n) (c.loop-i.invariant answer fed h) in
    let more : n + 64 ≡ 64 * (c.loop-i.i + 1) = omega arith in
    subst (λ (bs : List ℕ). Leads g.T.Tag.has g.T.Tag.mac answer c.feed_part.new.run bs)
    (fed_on fed mem at n 64 ∙ ap (λ (k : ℕ). fed ++ bytes_from mem at k) more) taken

pub returns : goal.returns
returns g c = λ answer fed h.
    let mem = c.args.executor.now.mem in let at = c.args.layout.now.pub_from in
    let n = c.saturating_sub-count.result in
    let done : 64 * c.loop-i.i ≡ n - n % 64 = omega (arith, c.loop-i-test.false, c.loop-i.auto.i-end) in
    let all : (n - n % 64) + n % 64 ≡ c.args.layout.now.pub_to - c.args.layout.now.pub_from = omega (arith, c.saturating_sub-count.ensures) in
    let before : Leads g.T.Tag.has g.T.Tag.mac answer c.loop-i.run (fed ++ bytes_from mem at (n - n % 64)) =
    subst (λ (k : ℕ). Leads g.T.Tag.has g.T.Tag.mac answer c.loop-i.run (fed ++ bytes_from mem at k)) done (c.loop-i.invariant answer fed h) in
    subst (λ (bs : List ℕ). Leads g.T.Tag.has g.T.Tag.mac answer c.feed_part-2.new.run bs)
    (fed_on fed mem at (n - n % 64) (n % 64) ∙ ap (λ (k : ℕ). fed ++ bytes_from mem at k) all)
    (c.feed_part-2.ensures answer (fed ++ bytes_from mem at (n - n % 64)) before)
