-- What loading and calling a module are, where no module of its node runs.
use Rattle.std.specs.Prelude.{◌≢◌, ◌+◌, ◌/◌, ◌<◌, false, List, [], ◌∷◌, length}
use Rattle.spec_run.specs.Setting.{Site, Setting}
use Rattle.spec_run.specs.State.{World, Acted}
use Rattle.spec_run.specs.Acts.{then_}
use Rattle.spec_run.specs.Run.{Register, protect_registers, put_on, put_pieces, set_all, steps_of}

-- registers that can be set: all but R3
abbrev pub AreSettable : List Register → Type 0
AreSettable [] = Unit {0}
AreSettable (r ∷ rs) = (r.number < 16) × (r.number ≢ 3) × AreSettable rs

-- the image is put, and protected
abbrev pub after_loading : Setting → Site → World → Acted
after_loading set site w =
    then_ (put_pieces site.node ((length site.text + 1023) / 1024) site.layout.pub_from site.text w)
    (λ w1.
    then_ (put_on site.node 0 (0x81 ∷ 0x13 ∷ []) w1) (λ w2.
    then_ (set_all site.node (protect_registers site) w2)
    (steps_of set (λ s. false) [] site.node 1)))
