use Rattle.std.proofs.Common.{◌≡◌, drop, take}
use Rattle.sx_index.specs.Index.{IsNameIndex}
use Rattle.sx_check.specs.Listed.{is_in_twice}
use Rattle.sx_check.proofs.Meets.{meets}
use Rattle.sx_check.proofs.repeated.is_in_twice.Given as goal

abbrev pub invariant-loop-place : goal.invariant-loop-place
invariant-loop-place l = IsNameIndex l.index (take l.place l.names) × (meets (take l.place l.names) (drop l.place l.names) ≡ is_in_twice l.names)
