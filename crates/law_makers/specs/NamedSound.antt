-- A setting with names is sound.
use Rattle.std.specs.Prelude.{◌≡◌, ℕ, List, length}
use Rattle.sx_lang.specs.Tree.{ModuleTree}
use Rattle.sx_mean.specs.declared.events.End.{End}
use Rattle.sx_tag.specs.Mac.{Mac, IsTag}
use Rattle.sx_image.specs.Image.{Image}
use Rattle.sx_image.specs.Realizes.{Realizes}
use Rattle.spec_run.specs.Setting.{Setting}
use Rattle.spec_run.specs.Law.{IsTagUnder, IsSoundSetting}
use Rattle.law_forgery.specs.Named.{named_setting}
use Rattle.law_connections.specs.Laws.{RealizesAlways}

-- An image that realizes its module under each lawful tag function does so under one that is lawful
-- where it makes tags: while a module runs no key is derived.
abbrev pub RealizesUnder : Type 0
RealizesUnder = (secret : List ℕ) (mac : Mac) → IsTagUnder secret mac
    → (tree : ModuleTree) (ends : List End) (image : Image)
    → ((nac : Mac) → IsTag nac → Realizes nac tree ends image) → Realizes mac tree ends image

-- So the setting with names is sound, whatever lawful table has its tags: the laws of runs hold
-- of it, too.
abbrev pub NamedIsSound : Type 0
NamedIsSound = (set : Setting) (table : Mac) → IsSoundSetting set → RealizesAlways set → IsTag table
    → length set.secret ≡ 16 → IsSoundSetting (named_setting table set)
