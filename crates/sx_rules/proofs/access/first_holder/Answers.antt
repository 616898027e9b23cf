use Rattle.std.proofs.Common.{drop, sym, ◌∙◌}
use Rattle.sx_rules.proofs.Away.{ends_held, past_end, bits_turn, held_turn}
use Rattle.sx_rules.proofs.access.first_holder.Goals as goal
use Rattle.sx_rules.proofs.access.first_holder.Goals.{else-rest-eq1-via-then-rest-eq1+else-in_public, else-rest-eq1-via-else-rest-eq1}

pub returns-then-rest-eq0 : goal.returns-then-rest-eq0
returns-then-rest-eq0 c =
    sym (ends_held c.args.at (drop c.loop-s.s-index c.args.live.now) c.loop-s.rest c.loop-s.invariant.bits c.if-rest-eq0.true)
    ∙ c.loop-s.invariant.same

pub loop-s-preserved : goal.loop-s-preserved
loop-s-preserved c =
    let i = c.loop-s.s-index in
    let live = c.args.live.now in
    let bits = c.loop-s.rest in
    record {
      bits = bits_turn _ live i past_end bits c.loop-s-test.true c.loop-s.invariant.bits;
      same = held_turn c.args.at live i past_end bits c.loop-s-test.true c.loop-s.invariant.bits
          (elim c.else-rest-eq1.branch [
            | else-rest-eq1-via-then-rest-eq1+else-in_public w ↦ λ one. sym w.in_public.ensures ∙ w.if-in_public.false
            | else-rest-eq1-via-else-rest-eq1 w ↦ λ one. absurd (w.if-rest-eq1.false one)
          ])
          ∙ c.loop-s.invariant.same;
    }
