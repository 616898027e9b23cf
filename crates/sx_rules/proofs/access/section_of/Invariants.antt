use Rattle.std.proofs.Common.{◌≡◌, drop}
use Rattle.sx_rules.specs.Access.{section_of}
use Rattle.sx_rules.proofs.access.section_of.Given as goal

-- the sections so far have other ids
abbrev pub invariant-loop-s : goal.invariant-loop-s
invariant-loop-s l = section_of (drop l.s-index l.live) l.id ≡ section_of l.live l.id
