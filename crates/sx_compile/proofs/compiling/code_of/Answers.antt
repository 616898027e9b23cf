use Rattle.sx_check.specs.Source.{source_tree}
use Rattle.sx_compile.proofs.Joins.{join_short, joined}
use Rattle.sx_compile.proofs.compiling.code_of.Goals as goal

pub join-requires : goal.join-requires
join-requires g c = record {
  short = join_short (source_tree c.args.m.now) c.args.ends.now c.args.layout.now c.in_ok-protocol.protocol c.in_ok-handlers.handlers c.requires.able c.requires.links c.requires.room
      c.in_ok-protocol.ensures c.in_ok-handlers.ensures;
}

pub returns : goal.returns
returns g c =
    joined (source_tree c.args.m.now) c.args.ends.now c.args.layout.now c.in_ok-protocol.protocol c.in_ok-handlers.handlers c.requires.able c.requires.links c.requires.room c.in_ok-protocol.ensures
    c.in_ok-handlers.ensures
    c.join.result c.join.ensures.ops c.join.ensures.parts
