-- What holds of the entries of every document that keeps the rules 4 and 5.
use Rattle.std.specs.Prelude.{◌≡◌, ℕ, ◌<◌, true, false, List, length, map, All, Ok}
use Rattle.std.specs.List.{list_all}
use Rattle.toml.specs.Data.{Members}
use Rattle.sx_lang.specs.Words.{IsWord}
use Rattle.sx_lang.specs.Form.{is_name}
use Rattle.sx_trace.specs.Names.{deployer}
use Rattle.sx_trace.specs.ValidNames.{has_name, no_repeat}
use Rattle.sx_entries.specs.Arrays.{RowLists, rows_of}
use Rattle.sx_entries.specs.Entries.{EntryLists, entries_of}
use Rattle.sx_entries.specs.declared.entries.Start.{Start}
use Rattle.sx_entries.specs.declared.entries.Start.TheVariants as start

-- each name is in form, and none occurs twice
pub record AreNamed (names : List (List ℕ)) : Type 0 where
  pub form : list_all is_name names ≡ true
  pub apart : no_repeat names ≡ true

-- where a module drives a device, it is one of this many
abbrev pub IsThere : Start → ℕ → Type 0
IsThere (start.At at) devices = Unit {0}
IsThere (start.Device n) devices = n < devices

-- what the rules 4 and 5 ask of entries: names that are in form and differ, places that are there,
-- numbers that are words
pub record AreEntries (e : EntryLists) : Type 0 where
  pub nodes : AreNamed (map (λ n. n.name) e.nodes)
  pub devices : AreNamed (map (λ d. d.name) e.devices)
  pub modules : AreNamed (map (λ m. m.name) e.modules)
  pub links : AreNamed (map (λ l. l.name) e.links)
  pub no_deployer : has_name (map (λ m. m.name) e.modules) deployer ≡ false
  pub device_nodes : All (λ d. d.node < length e.nodes) e.devices
  pub module_nodes : All (λ m. m.node < length e.nodes) e.modules
  pub module_providers : All (λ m. IsWord m.provider) e.modules
  pub module_devices : All (λ m. IsThere m.start (length e.devices)) e.modules

-- what is read keeps this
abbrev pub EntriesKeep : Type 0
EntriesKeep = (t : Members) (rows : RowLists) (e : EntryLists) → rows_of t ≡ Ok rows
    → entries_of rows ≡ Ok e → AreEntries e
