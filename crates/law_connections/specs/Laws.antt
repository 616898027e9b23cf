-- Both of every sound setting.
use Rattle.std.specs.Prelude.{◌≡◌, ℕ, List, slice_get, Some}
use Rattle.sx_mean.specs.Application.{PartTree}
use Rattle.sx_mean.specs.Ends.{ends_of}
use Rattle.sx_tag.specs.Mac.{Mac, IsTag}
use Rattle.sx_sched.specs.Lines.{Line}
use Rattle.sx_image.specs.Realizes.{Realizes}
use Rattle.sx_compile.specs.Laws.{ShowsNoKey}
use Rattle.spec_run.specs.Setting.{Setting, Site}
use Rattle.spec_run.specs.Law.{IsSoundSetting, IsLawfulSetting, LinesInForm, image_at}
use Rattle.law_connections.specs.LinksUnseen.{LinksAreUnseen}
use Rattle.law_connections.specs.Unlinks.{HasMoved}

-- Each image shows no key of its ends whatever the tag function is. Compiled images don't.
abbrev pub HidesKeys : Setting → Type 0
HidesKeys a = (m : ℕ) (q : PartTree) (site : Site) → slice_get a.app.parts m ≡ Some q
    → slice_get a.sites m ≡ Some site → (mac : Mac) → IsTag mac
    → ShowsNoKey mac q.tree (ends_of a.app m) (image_at site)

-- If no image shows a key, the keys of connections are unseen in the run of every schedule.
abbrev pub LinksUnseen : Type 0
LinksUnseen = (a : Setting) (lines : List Line) → IsSoundSetting a → HidesKeys a
    → LinesInForm a lines → LinksAreUnseen a lines

-- Each image realizes its module whatever the tag function is. Compiled images do.
abbrev pub RealizesAlways : Setting → Type 0
RealizesAlways a = (m : ℕ) (q : PartTree) (site : Site) → slice_get a.app.parts m ≡ Some q
    → slice_get a.sites m ≡ Some site → (mac : Mac) → IsTag mac
    → Realizes mac q.tree (ends_of a.app m) (image_at site)

-- If each image does, there is a setting for every choice of other keys.
abbrev pub UnlinksAll : Type 0
UnlinksAll = (a : Setting) → IsLawfulSetting a → RealizesAlways a → HasMoved a
