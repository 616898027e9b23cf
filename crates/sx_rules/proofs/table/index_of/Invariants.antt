use Rattle.std.proofs.Common.{◌≡◌, ◌++◌, take, drop}
use Rattle.sx_rules.specs.Access.{section_of}
use Rattle.sx_rules.specs.Admission.{without}
use Rattle.sx_rules.proofs.table.index_of.Given as goal

-- the sections so far have other ids
abbrev pub invariant-loop-index : goal.invariant-loop-index
invariant-loop-index l = record {
  found : section_of (drop l.index l.live) l.id ≡ section_of l.live l.id;
  rest : take l.index l.live ++ without (drop l.index l.live) l.id ≡ without l.live l.id;
}
