use Rattle.std.proofs.Common.{◌≡◌, ◌/◌, drop}
use Rattle.sx_rules.specs.Access.{holder}
use Rattle.sx_rules.specs.Pages.{meeting}
use Rattle.sx_rules.proofs.access.first_holder.Given as goal

-- the sections so far don't hold the byte, and the bits are those of the others
abbrev pub invariant-loop-s : goal.invariant-loop-s
invariant-loop-s l = record {
  bits : l.rest ≡ meeting (l.at / 256) (drop l.s-index l.live);
  same : holder (drop l.s-index l.live) l.at ≡ holder l.live l.at;
}
