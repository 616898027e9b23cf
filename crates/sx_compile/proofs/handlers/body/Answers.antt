use Rattle.std.proofs.Common.{◌∙◌}
use Rattle.sx_check.specs.Source.{source_tree}
use Rattle.sx_compile.specs.Body.{part_return, part_start}
use Rattle.sx_compile.proofs.BodyDoes.{body_does, body_small, places_are, text_is}
use Rattle.sx_compile.proofs.BodyText.{body_sound}
use Rattle.sx_compile.proofs.handlers.body.Goals as goal

pub emit-requires-clause-sound : goal.emit-requires-clause-sound
emit-requires-clause-sound g c = body_sound (source_tree c.args.m.now) c.args.ends.now c.in_ok-code.code c.lowerable.ensures c.in_ok-code.ensures c.args.layout.now c.requires.room

pub starts-requires-clause-small : goal.starts-requires-clause-small
starts-requires-clause-small g c = body_small g.T.Tag.mac
    (source_tree c.args.m.now) c.args.ends.now c.args.layout.now c.in_ok-code.code g.met.T.Tag.is_tag c.lowerable.ensures c.in_ok-code.ensures c.requires.room

pub returns-requires-clause-small : goal.returns-requires-clause-small
returns-requires-clause-small g c = body_small g.T.Tag.mac
    (source_tree c.args.m.now) c.args.ends.now c.args.layout.now c.in_ok-code.code g.met.T.Tag.is_tag c.lowerable.ensures c.in_ok-code.ensures c.requires.room

pub returns : goal.returns
returns g c =
    let tree = source_tree c.args.m.now in
    let ends = c.args.ends.now in
    let l = c.args.layout.now in
    let code = c.in_ok-code.code in
    let tag = g.met.T.Tag.is_tag in
    let able = c.lowerable.ensures in
    let low = c.in_ok-code.ensures in
    let room = c.requires.room in
    record {
      text = c.in_ok-text.ensures.text ∙ text_is g.T.Tag.mac tree ends l code tag able low room;
      from = c.in_ok-from.ensures ∙ places_are g.T.Tag.mac tree ends l code tag able low room part_start;
      to = c.in_ok-to.ensures ∙ places_are g.T.Tag.mac tree ends l code tag able low room part_return;
      does = body_does g.T.Tag.mac tree ends l code tag able low room c.in_ok-text.text.items c.in_ok-from.from.items c.in_ok-to.to.items c.in_ok-text.ensures.text c.in_ok-from.ensures
          c.in_ok-to.ensures;
    }
