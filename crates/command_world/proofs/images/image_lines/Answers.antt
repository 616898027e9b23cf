use Rattle.command_world.proofs.ImageLines.{no_images_named, no_images}
use Rattle.command_text.proofs.Ends.{all_lines}
use Rattle.command_world.proofs.images.image_lines.Goals.{then-images-test+else-i-images, else-images-test}
use Rattle.command_world.proofs.images.image_lines.Goals as goal

pub returns : goal.returns
returns g =
    elim g.images-test.branch [
      | then-images-test+else-i-images w ↦ all_lines _ _ _ g.images.invariant.lines (no_images (λ i. i.text.items) _ g.args.images.now g.images.i w.if-i-images.false)
      | else-images-test w ↦ all_lines _ _ _ g.images.invariant.lines (no_images_named g.args.names.now _ g.images.i w.images-test.false)
    ]
