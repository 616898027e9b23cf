use Rattle.std.proofs.Common.{◌≡◌, drop}
use Rattle.sx_rules.specs.Pages.{meeting}
use Rattle.sx_rules.proofs.pages.meeting.Given as goal

-- the bits are those of the sections so far, which are the last ones
abbrev pub invariant-loop-i : goal.invariant-loop-i
invariant-loop-i l = l.meeting ≡ meeting l.page (drop l.i l.live)
