-- What the keys of nodes show.
use Rattle.std.specs.Prelude.{◌≡◌, ℕ, zero, suc, List, [], ◌∷◌}
use Rattle.sx_sched.specs.Lines.{Line}
use Rattle.spec_run.specs.Setting.{Setting}
use Rattle.spec_run.specs.State.{World, Acted, switched_on}
use Rattle.spec_run.specs.Acts.{only, then_}
use Rattle.spec_run.specs.Run.{run}
use Rattle.law_isolation.specs.Script.{Script, performed}
use Rattle.law_forgery.specs.Tags.{AgreeOnTags}
use Rattle.law_forgery.specs.Bare.{bare}

-- they show the same items, and leave the same world but for the keys of nodes and modules
abbrev pub ShowTheSame : Acted → Acted → Type 0
ShowTheSame x y = (x.items ≡ y.items) × (bare x.world ≡ bare y.world)

-- Settings that no tag tells apart show the same, whatever is done from power-on on.
abbrev pub KeysUnseen : Type 0
KeysUnseen = (a b : Setting) (script : Script) → AgreeOnTags a b
    → ShowTheSame (performed a script (switched_on a)) (performed b script (switched_on b))

-- so do the runs of each schedule
abbrev pub RunsKeysUnseen : Type 0
RunsKeysUnseen = (a b : Setting) (lines : List Line) → AgreeOnTags a b
    → ShowTheSame (run a (switched_on a) lines) (run b (switched_on b) lines)

-- So many lines are done one after the other, and whoever makes them chooses each by all that
-- there is then, but for the keys of nodes and modules.
abbrev pub played : Setting → (World → Line) → ℕ → World → Acted
played set choose zero w = only w []
played set choose (suc n) w =
    then_ (run set w (choose (bare w) ∷ [])) (λ v. played set choose n v)

-- whoever makes the lines so, makes the same of both
abbrev pub PlayersSeeTheSame : Type 0
PlayersSeeTheSame = (a b : Setting) (choose : World → Line) (n : ℕ) → AgreeOnTags a b
    → ShowTheSame (played a choose n (switched_on a)) (played b choose n (switched_on b))
