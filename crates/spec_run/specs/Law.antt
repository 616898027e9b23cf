-- What holds of every run: it is a legal run of the source, up to the first item that is forged.
use Rattle.std.specs.Prelude.{◌≡◌, ◌≢◌, ℕ, ◌+◌, ◌<◌, ◌≤◌, ◌⊎◌, List, [], ◌∷◌, length, slice_get}
use Rattle.std.specs.Prelude.{Some, None, true, All}
use Rattle.sx_lang.specs.Sizes.{module_data_size}
use Rattle.sx_mean.specs.Application.{declared_kind, AppTree, PartTree, is_sensor}
use Rattle.sx_mean.specs.declared.apps.AppDevice.{AppDevice}
use Rattle.sx_check.specs.Rules.{first_broken}
use Rattle.sx_rules.specs.declared.section.Layout.{Layout}
use Rattle.sx_rules.specs.Admission.{good_bounds, parts_apart, apart}
use Rattle.sx_bus.specs.declared.devices.Window.{Window}
use Rattle.sx_bus.specs.Devices.{ArePlaces, powered_on, places_of, device_at}
use Rattle.sx_sched.specs.Lines.{Line, Put, Set, Give, Sense, Irq, Ask, Call}
use Rattle.sx_tag.specs.Mac.{Mac, IsTag}
use Rattle.sx_image.specs.Image.{Image}
use Rattle.sx_image.specs.Realizes.{Realizes}
use Rattle.spec_invocation.specs.Devices.{HasDevices}
use Rattle.sx_mean.specs.Ends.{ends_of}
use Rattle.sx_model.specs.Step.{kind_is}
use Rattle.sx_model.specs.Legal.{Legal, before}
use Rattle.sx_trace.specs.declared.items.Item.{Item}
use Rattle.spec_run.specs.Setting.{Site, Setting, windows_at}
use Rattle.spec_run.specs.State.{switched_on}
use Rattle.spec_run.specs.Run.{run}

-- the image of a site
abbrev pub image_at : Site → Image
image_at site = record { text = site.text; layout = site.layout; provider = site.provider }

-- two modules of one node share no byte
abbrev pub AreApartLayouts : Layout → Layout → Type 0
AreApartLayouts a b =
    (apart a.pub_from a.pub_to b.pub_from b.pub_to ≡ true)
    × (apart a.pub_from a.pub_to b.priv_from b.priv_to ≡ true)
    × (apart a.priv_from a.priv_to b.pub_from b.pub_to ≡ true)
    × (apart a.priv_from a.priv_to b.priv_from b.priv_to ≡ true)

-- a node's devices when it is switched on
abbrev pub devices_of : Setting → ℕ → List Window
devices_of set n = powered_on (windows_at n set.app.devices set.places)

-- a module's device is at its node, of the kind that it declares, and is at the start of its
-- private section
pub record IsDriven (set : Setting) (q : PartTree) (site : Site) (d : ℕ) : Type 0 where
  pub device : AppDevice
  pub found : slice_get set.app.devices d ≡ Some device
  pub node : device.node ≡ q.node
  pub kind : declared_kind q.tree.decls ≡ Some device.kind
  pub place : slice_get set.places d ≡ Some site.layout.priv_from

-- the m-th module: its site is at its node, its image realizes it, and of its node's devices it
-- holds the one that it drives
pub record IsDeployedModule (set : Setting) (m : ℕ) (q : PartTree) (site : Site) : Type 0 where
  pub node : site.node ≡ q.node
  pub bounds : good_bounds site.layout ≡ true
  pub parts : parts_apart site.layout ≡ true
  pub checked : first_broken q.tree ≡ None
  pub provider : site.provider < 65536
  pub text_end : site.layout.pub_to ≤ 0xFFE0
  pub data_end : site.layout.priv_to ≤ 0xFFE0
  pub text : site.layout.pub_to ≡ site.layout.pub_from + length site.text
  pub data_size : site.layout.priv_to ≡ site.layout.priv_from
      + module_data_size q.tree (length (ends_of set.app m))
  pub realizes : Realizes set.mac q.tree (ends_of set.app m) (image_at site)
  pub devices : HasDevices (devices_of set q.node) (declared_kind q.tree.decls) site.layout
  pub text_free : (at : ℕ) → site.layout.pub_from ≤ at → at < site.layout.pub_to
      → device_at (devices_of set q.node) at ≡ None
  pub device : (d : ℕ) → q.device ≡ Some d → IsDriven set q site d
  pub none : q.device ≡ None → declared_kind q.tree.decls ≡ None

-- a tag of 32 bytes, each below 256
abbrev pub IsTagBytes : List ℕ → Type 0
IsTagBytes tag = (length tag ≡ 32) × All (λ b. b < 256) tag

-- A tag function is lawful where it makes tags, and where it derives keys from the secret. Under
-- other keys a message that begins with `K` may have any answer, so keys may be names.
pub record IsTagUnder (secret : List ℕ) (mac : Mac) : Type 0 where
  pub tags : (key : List ℕ) (kind : ℕ) (rest : List ℕ) → kind ≢ 0x4B
      → IsTagBytes (mac key (kind ∷ rest))
  pub derived : (rest : List ℕ) → IsTagBytes (mac secret (0x4B ∷ rest))

-- what the law asks of a setting: a lawful tag, lists that fit the application, devices at places
-- of their own, and modules that are deployed as the application says, on bytes of their own
pub record IsSoundSetting (set : Setting) : Type 0 where
  pub tag : IsTagUnder set.secret set.mac
  pub keys : length set.keys ≡ set.app.nodes
  pub sites : length set.sites ≡ length set.app.parts
  pub places : length set.places ≡ length set.app.devices
  pub links : length set.app.links ≤ 64
  pub windows : (n : ℕ) → ArePlaces (places_of (devices_of set n))
  pub deployed : (m : ℕ) (q : PartTree) (site : Site) → slice_get set.app.parts m ≡ Some q
      → slice_get set.sites m ≡ Some site → IsDeployedModule set m q site
  pub apart : (m k : ℕ) (a b : Site) → slice_get set.sites m ≡ Some a
      → slice_get set.sites k ≡ Some b → a.node ≡ b.node → (m ≡ k)
      ⊎ AreApartLayouts a.layout b.layout

-- and its tag function is lawful under every key
pub record IsLawfulSetting (set : Setting) : Type 0 where
  pub tag : IsTag set.mac
  pub sound : IsSoundSetting set

-- A line is in form: its numbers are in range, and `sense` is of a sensor.
abbrev pub LineInForm : Setting → Line → Type 0
LineInForm set (Put n at bytes) = at < 65536
LineInForm set (Set n r v) = (r < 16) × (v < 65536)
LineInForm set (Give k n at) = at < 65536
LineInForm set (Sense d v) = (kind_is is_sensor (slice_get set.app.devices d) ≡ true) × (v < 32768)
LineInForm set (Irq n line) = line < 15
LineInForm set (Ask m) = m < length set.app.parts
LineInForm set (Call m e input output) = (e < 65536) × (input < 65536) × (output < 65536)
LineInForm set _ = Unit {0}

-- each line is in form
abbrev pub LinesInForm : Setting → List Line → Type 0
LinesInForm set [] = Unit {0}
LinesInForm set (line ∷ lines) = LineInForm set line × LinesInForm set lines

-- so it is of the items of every run, up to the first forged one
abbrev pub OfRuns : (AppTree → List Item → Type 0) → Type 0
OfRuns Holds = (set : Setting) → IsSoundSetting set → (lines : List Line) → length lines ≤ 65536
    → LinesInForm set lines
    → Holds set.app (before (run set (switched_on set) lines).items)

-- every run is legal up to its first forged item
abbrev pub RunsLegal : Type 0
RunsLegal = OfRuns Legal
