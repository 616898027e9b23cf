-- What a run is given: the application, and where its modules, keys and devices are.
use Rattle.std.specs.Prelude.{ℕ, ◌+◌, ◌-◌, ◌==◌, ◌&&◌, Bool, if◌then◌else◌, List, [], ◌∷◌}
use Rattle.std.specs.Prelude.{slice_index, Option, option_and_then, bytes_eq}
use Rattle.std.specs.List.{position_from}
use Rattle.sx_lang.specs.declared.tree.DeviceKind.{DeviceKind}
use Rattle.sx_lang.specs.declared.tree.DeviceKind.TheVariants as declared_kind
use Rattle.sx_mean.specs.declared.apps.AppDevice.{AppDevice}
use Rattle.sx_rules.specs.declared.section.Layout.{Layout}
use Rattle.sx_rules.specs.declared.section.Section.{Section}
use Rattle.sx_rules.specs.Access.{section_of}
use Rattle.sx_bus.specs.declared.devices.Kind.{Kind}
use Rattle.sx_bus.specs.declared.devices.Kind.TheVariants.{Sensor, Actuator}
use Rattle.sx_tag.specs.Mac.{Mac}
use Rattle.spec_machine.specs.Memory.{bytes_from}
use Rattle.spec_machine.specs.State.{State}
use Rattle.sx_mean.specs.Application.{AppTree}

-- where a module is deployed, and its image's text
pub record Site : Type 0 where
  pub node : ℕ
  pub layout : Layout
  pub provider : ℕ
  pub text : List ℕ

-- the tag function, the application, its modules' sites, the secret, the nodes' keys and the
-- devices' places
pub record Setting : Type 0 where
  pub mac : Mac
  pub app : AppTree
  pub sites : List Site
  pub secret : List ℕ
  pub keys : List (List ℕ)
  pub places : List ℕ

-- the layouts are the same
abbrev pub same_layout : Layout → Layout → Bool
same_layout a b = (a.pub_from == b.pub_from) &&
    ((a.pub_to == b.pub_to) && ((a.priv_from == b.priv_from) && (a.priv_to == b.priv_to)))

-- a section of a node is of a site's identity: its layout, provider and public bytes
abbrev pub is_at_site : ℕ → List ℕ → Section → Site → Bool
is_at_site n mem x site =
    (site.node == n) && (same_layout x.layout site.layout && ((x.provider == site.provider)
    && bytes_eq (bytes_from mem x.layout.pub_from (x.layout.pub_to - x.layout.pub_from)) site.text))

-- the deployed module that a section of a node is
abbrev pub deployed : List Site → ℕ → List ℕ → Section → Option ℕ
deployed sites n mem x = position_from (is_at_site n mem x) 0 sites

-- the deployed module that the live section with the id is
abbrev pub module_of : List Site → ℕ → State → ℕ → Option ℕ
module_of sites n s id = option_and_then (deployed sites n s.mem) (section_of s.sections.live id)

-- the numbers of a node's devices, from the i-th device on
abbrev pub devices_at : ℕ → ℕ → List AppDevice → List ℕ
devices_at n i [] = []
devices_at n i (d ∷ ds) =
    if d.node == n then i ∷ devices_at n (i + 1) ds else devices_at n (i + 1) ds

-- the number of a node's k-th device
abbrev pub device_number : AppTree → ℕ → ℕ → ℕ
device_number app n k = slice_index (devices_at n 0 app.devices) k

-- the kind of device as the machine has it
abbrev pub kind_of : DeviceKind → Kind
kind_of declared_kind.Sensor = Sensor
kind_of declared_kind.Actuator = Actuator

-- a node's devices with their places and kinds
abbrev pub windows_at : ℕ → List AppDevice → List ℕ → List (ℕ × Kind)
windows_at n [] ats = []
windows_at n (d ∷ ds) [] = []
windows_at n (d ∷ ds) (at ∷ ats) =
    if d.node == n then (at, kind_of d.kind) ∷ windows_at n ds ats else windows_at n ds ats
