use Rattle.std.specs.Prelude.{◌≡◌, ◌≤◌, ◌-◌, ◌++◌, length, drop, map}
use Rattle.command_world.specs.Images.{images_text}
use Rattle.command_world.proofs.images.image_lines.Given as goal

-- the lines so far, and after them those of the images that are left
abbrev pub invariant-images : goal.invariant-images
invariant-images l = record {
  names : l.i ≤ length l.fn.names;
  images : l.i ≤ length l.fn.images;
  lines : l.text.items ++ images_text (drop l.i l.fn.names) (map (λ i. i.text.items) (drop l.i l.fn.images)) ≡ images_text l.fn.names (map (λ i. i.text.items) l.fn.images);
}

abbrev pub decreases-images : goal.decreases-images
decreases-images l = length l.fn.names - l.i
