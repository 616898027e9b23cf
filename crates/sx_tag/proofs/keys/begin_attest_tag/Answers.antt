use Rattle.std.proofs.Common.{[], ◌∷◌, refl}
use Rattle.sx_tag.specs.Keys.{attest_tag}
use Rattle.sx_tag.proofs.keys.begin_attest_tag.Goals as goal

pub returns : goal.returns
unfolding attest_tag
returns g c = record { key = c.args.key.now; before = 0x41 ∷ []; holds = c.feed.ensures _ _ c.begin-run.ensures; answers = λ message. refl }
