use Rattle.std.proofs.Common.{ℕ, List, ◌<◌, arith, subst}
use Rattle.std.specs.Prelude.{All}
use Rattle.command_world.proofs.Bytes.{all_bytes, one_more}
use Rattle.command_world.proofs.compiling.have_bytes.Goals as goal

pub loop-image-init : goal.loop-image-init
loop-image-init c = λ m t lt e. absurd (omega (arith, lt))

pub loop-image-preserved : goal.loop-image-preserved
loop-image-preserved c =
    let P : List ℕ → Type 0 = λ xs. All (λ b. b < 256) xs in
    one_more c.args.images.now c.loop-image.image-index c.image-item.result c.loop-image-test.true c.image-item.is (subst P c.deref.ensures.value c.are_bytes.ensures) c.loop-image.invariant

pub returns : goal.returns
returns c = all_bytes c.args.images.now c.loop-image.image-index c.loop-image-test.false c.loop-image.invariant
