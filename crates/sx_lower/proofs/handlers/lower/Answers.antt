use Rattle.sx_check.specs.Source.{source_tree}
use Rattle.sx_lower.proofs.Reacts.{lowers}
use Rattle.sx_lower.proofs.handlers.lower.Goals as goal

pub returns : goal.returns
returns g c = record {
  does = lowers (source_tree c.args.m.now) c.args.ends.now c.in_ok-code.code.ops.items c.in_ok-code.code.parts.items
      (record { checked = c.facts_of.ensures.checked; words = c.facts_of.ensures.words; few_ends = c.requires.few; few_packets = c.requires.packets })
      c.in_ok-code.ensures.ops c.in_ok-code.ensures.parts;
  is = record { ops = c.in_ok-code.ensures.ops; parts = c.in_ok-code.ensures.parts };
}
