use Rattle.std.proofs.Common.{ℕ, ap, subst, sym, ◌∙◌}
use Rattle.sx_check.specs.Source.{source_tree}
use Rattle.sx_image.specs.Image.{Image}
use Rattle.sx_image.specs.Realizes.{Realizes}
use Rattle.sx_compile.specs.Compiled.{padded_to}
use Rattle.sx_compile.proofs.CompiledRealizes.{compiled_realizes, image_is, sound_of}
use Rattle.sx_compile.proofs.compiling.compile.Goals as goal

pub emit-requires-clause-sound : goal.emit-requires-clause-sound
emit-requires-clause-sound g c = sound_of (source_tree c.args.m.now) c.args.ends.now c.args.layout.now c.in_ok-code.code c.lowerable.ensures c.links_fit.ensures c.requires.room c.in_ok-code.ensures

pub returns : goal.returns
returns g c =
    let same = image_is (source_tree c.args.m.now) c.args.ends.now c.args.layout.now c.args.provider c.in_ok-code.code c.in_ok-text.text.items c.pad.new.text.items c.requires.room
    c.in_ok-code.ensures c.in_ok-text.ensures.text
    (c.in_ok-pad.ensures ∙ ap (λ (n : ℕ). padded_to n c.in_ok-text.text.items) c.from.ensures) in
    record {
      is = same;
      realizes = subst (λ (i : Image). Realizes g.T.Tag.mac (source_tree c.args.m.now) c.args.ends.now i) (sym same)
          (compiled_realizes g.T.Tag.mac
          (source_tree c.args.m.now) c.args.ends.now c.args.layout.now c.args.provider c.in_ok-code.code g.met.T.Tag.is_tag c.lowerable.ensures c.links_fit.ensures c.requires.room
          c.in_ok-code.ensures);
    }
