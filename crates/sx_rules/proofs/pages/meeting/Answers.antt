use Rattle.std.proofs.Common.{◌≡◌, ℕ, ◌<◌, ◌≤◌, ◌^◌, true, false, List, length, drop, arith, length-drop}
use mir.Val.{bool_byte}
use Rattle.sx_rules.specs.declared.section.Section.{Section}
use Rattle.sx_rules.specs.Pages.{meeting}
use Rattle.sx_rules.proofs.Away.{meeting_below}
use Rattle.sx_rules.proofs.pages.meeting.Goals as goal

-- the bits of all sections but one at least
fits : (page i bits : ℕ) (live : List Section) → 0 < i → length live ≤ 8 → bits ≡ meeting page (drop i live) → bits < 128
fits page i bits live h room e =
    let below : meeting page (drop i live) < 2 ^ 7 = meeting_below page 7 (drop i live) (omega (arith, length-drop i live)) in
    omega arith

pub overflow_mul-meeting : goal.overflow_mul-meeting
overflow_mul-meeting c =
    let small : c.loop-i.meeting < 128 = fits c.args.page c.loop-i.i c.loop-i.meeting c.args.live.now c.loop-i-test.true c.requires c.loop-i.invariant in
    omega arith

pub overflow_add-meeting : goal.overflow_add-meeting
overflow_add-meeting c =
    let small : c.loop-i.meeting < 128 = fits c.args.page c.loop-i.i c.loop-i.meeting c.args.live.now c.loop-i-test.true c.requires c.loop-i.invariant in
    let bit : bool_byte c.meets.result ≤ 1 = elim c.meets.result as (λ b. bool_byte b ≤ 1) [ true ↦ omega arith | false ↦ omega arith ] in
    omega (arith, c.from.ensures)
