-- Rule 4 on one entry: its keys, and what they hold. None where it isn't in form.
use Rattle.std.specs.Prelude.{ℕ, ◌+◌, Bool, ◌==◌, codes, if◌then◌else◌, List, [], ◌∷◌, Option, Some}
use Rattle.std.specs.Prelude.{None, option_and_then, position, take, drop, is_some}
use Rattle.std.specs.Str.{bytes_eq}
use Rattle.toml.specs.Data.{Members, get_member}
use Rattle.sx_entries.specs.Fields.{name_of, text_at, name_at, word_at, key_at, has_only}
use Rattle.sx_lang.specs.declared.tree.DeviceKind.{DeviceKind}
use Rattle.sx_lang.specs.declared.tree.DeviceKind.TheVariants.{Sensor, Actuator}
use Rattle.sx_entries.specs.declared.rows.StartRow.{StartRow}
use Rattle.sx_entries.specs.declared.rows.StartRow.TheVariants.{At, Device}
use Rattle.sx_entries.specs.declared.rows.NodeRow.{NodeRow}
use Rattle.sx_entries.specs.declared.rows.DeviceRow.{DeviceRow}
use Rattle.sx_entries.specs.declared.rows.ModuleRow.{ModuleRow}
use Rattle.sx_entries.specs.declared.rows.EndRow.{EndRow}
use Rattle.sx_entries.specs.declared.rows.LinkRow.{LinkRow}

-- goes on with the value, where there is one
infixl 10 ◌>>=◌
abbrev pub ◌>>=◌ : {A B : Type 0} → Option A → (A → Option B) → Option B
o >>= f = option_and_then f o

-- a step that goes on only where the test holds
abbrev pub holds : Bool → Option (Unit {0})
holds b = if b then Some tt else None

-- a table as a node: exactly the keys `name` and `key`
abbrev pub node_row : Members → Option NodeRow
node_row t = do
  known ← holds (has_only (codes "name" ∷ codes "key" ∷ []) t)
  name ← name_at (codes "name") t
  key ← key_at (codes "key") t
  Some (record { name = name; key = key })

-- `sensor` or `actuator`
abbrev pub kind_of : List ℕ → Option DeviceKind
kind_of text =
    if bytes_eq text (codes "sensor") then Some Sensor
    else if bytes_eq text (codes "actuator") then Some Actuator
    else None

-- the kind of device at a key
abbrev pub kind_at : List ℕ → Members → Option DeviceKind
kind_at key t = option_and_then kind_of (text_at key t)

-- a table as a device: exactly the keys `name`, `node`, `kind` and `at`
abbrev pub device_row : Members → Option DeviceRow
device_row t = do
  known ← holds (has_only (codes "name" ∷ codes "node" ∷ codes "kind" ∷ codes "at" ∷ []) t)
  name ← name_at (codes "name") t
  node ← name_at (codes "node") t
  kind ← kind_at (codes "kind") t
  at ← word_at (codes "at") t
  Some (record { name = name; node = node; kind = kind; at = at })

-- exactly one of `data` and `device`
abbrev pub start_row : Members → Option StartRow
start_row t =
    if is_some (get_member (codes "data") t)
    then word_at (codes "data") t >>= (λ data_at. if is_some (get_member (codes "device") t) then
    None else Some (At data_at))
    else name_at (codes "device") t >>= (λ device. Some (Device device))

-- a table as a module: `name`, `node`, `provider`, `text`, `source`, and exactly one of `data` and
-- `device`
abbrev pub module_row : Members → Option ModuleRow
module_row t = do
  known ← holds (has_only (codes "name" ∷ codes "node" ∷ codes "provider" ∷ codes "text"
      ∷ codes "data" ∷ codes "device" ∷ codes "source" ∷ []) t)
  name ← name_at (codes "name") t
  node ← name_at (codes "node") t
  provider ← word_at (codes "provider") t
  text ← word_at (codes "text") t
  start ← start_row t
  source ← text_at (codes "source") t
  Some (record {
    name = name;
    node = node;
    provider = provider;
    text = text;
    start = start;
    source =
        source;
  })

-- the parts before and after the only dot
abbrev pub end_of : List ℕ → Option EndRow
end_of text = position (λ b. b == 46) text >>= (λ dot.
    if is_some (position (λ b. b == 46) (drop (dot + 1) text)) then None
    else Some (record { owner = name_of (take dot text); port = name_of (drop (dot + 1) text) }))

-- the end of a connection at a key
abbrev pub end_at : List ℕ → Members → Option EndRow
end_at key t = text_at key t >>= end_of

-- a table as a connection: exactly the keys `name`, `from` and `to`
abbrev pub link_row : Members → Option LinkRow
link_row t = do
  known ← holds (has_only (codes "name" ∷ codes "from" ∷ codes "to" ∷ []) t)
  name ← name_at (codes "name") t
  from ← end_at (codes "from") t
  to ← end_at (codes "to") t
  Some (record { name = name; from = from; to = to })
