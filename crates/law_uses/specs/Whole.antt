-- What follows for whole runs.
use Rattle.std.specs.Prelude.{◌≡◌, ℕ, List, ◌∷◌}
use Rattle.sx_sched.specs.Lines.{Line}
use Rattle.sx_tag.specs.Mac.{Mac, IsTag}
use Rattle.spec_run.specs.Setting.{Setting}
use Rattle.spec_run.specs.State.{switched_on}
use Rattle.spec_run.specs.Run.{run}
use Rattle.law_isolation.specs.Script.{Script, performed}
use Rattle.law_isolation.specs.Lines.{script_of}
use Rattle.law_forgery.specs.Tags.{AgreeOnTags}
use Rattle.law_forgery.specs.Moments.{Moment}
use Rattle.law_forgery.specs.Unseen.{ShowTheSame}
use Rattle.law_uses.specs.Uses.{Holder, Sizes, SameUse, SameUses, uses, key_held}
use Rattle.law_uses.specs.UsesAlone.{DifferInTags, AnswerAlike}

-- if each use of a script has the same answer in both, both show the same, and the worlds after
-- it differ in keys alone
abbrev pub ScriptsAlone : Type 0
ScriptsAlone = (a b : Setting) (script : Script) → DifferInTags a b
    → ((k : ℕ) → AnswerAlike a b script k)
    → ShowTheSame (performed a script (switched_on a)) (performed b script (switched_on b))

-- so do the runs of a schedule
abbrev pub RunsAlone : Type 0
RunsAlone = (a b : Setting) (lines : List Line) → DifferInTags a b
    → ((k : ℕ) → AnswerAlike a b (script_of a lines) k)
    → ShowTheSame (run a (switched_on a) lines) (run b (switched_on b) lines)

-- Settings that no tag tells apart answer alike whatever a moment can ask: no use is over `K`, and
-- what code holds has 16 bytes. With `ScriptsAlone` this is `keys_unseen`.
abbrev pub AgreeingAnswerAlike : Type 0
AgreeingAnswerAlike =
    (a b : Setting) → AgreeOnTags a b → (now : Moment) → SameUses a b (uses a now)

-- the sizes of what is wrapped are the same under lawful tag functions
abbrev pub SizesAreAlike : Type 0
SizesAreAlike = (a b : Setting) → IsTag a.mac → IsTag b.mac → (whose : Holder)
    (header body : List ℕ) → SameUse a b (Sizes whose header body)

-- A setting with another tag function that derives the same keys: all keys are the same, so that a
-- use has the same answer if the two functions give the same under this very key.
abbrev pub DeriveTheSame : Mac → Mac → Type 0
DeriveTheSame mac nac = (key rest : List ℕ) → mac key (0x4B ∷ rest) ≡ nac key (0x4B ∷ rest)

abbrev pub KeysAreHeld : Type 0
KeysAreHeld = (set : Setting) (nac : Mac) → DeriveTheSame set.mac nac
    → DifferInTags set (record set { mac = nac })
    × ((whose : Holder) → key_held set whose ≡ key_held (record set { mac = nac }) whose)
