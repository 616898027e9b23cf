use Rattle.std.proofs.Common.{◌≡◌, ◌/◌, drop}
use Rattle.std.specs.List.{list_all}
use Rattle.sx_rules.specs.Pages.{meeting, answer}
use Rattle.sx_rules.proofs.access.each_answers.Given as goal

-- the sections so far say yes, and the bits are those of the others
abbrev pub invariant-loop-s : goal.invariant-loop-s
invariant-loop-s l = record {
  bits : l.rest ≡ meeting (l.at / 256) (drop l.s-index l.live);
  same : list_all (answer l.question l.at) (drop l.s-index l.live) ≡ list_all (answer l.question l.at) l.live;
}
