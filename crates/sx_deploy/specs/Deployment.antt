-- The deployment that a text means, or the first rule that it breaks and where.
use Rattle.std.specs.Prelude.{◌≡◌, ℕ, List, length, map, Result, Ok, Err}
use Rattle.toml.specs.Data.{Members}
use Rattle.sx_mean.specs.Application.{AppTree, PartTree, is_sensor}
use Rattle.sx_mean.specs.declared.apps.Link.{Link}
use Rattle.sx_rules.specs.declared.section.Layout.{Layout}
use Rattle.sx_trace.specs.Names.{NameLists}
use Rattle.sx_entries.specs.Fault.{◌>>=◌, passes}
use Rattle.sx_entries.specs.declared.fault.DeployFault.{DeployFault}
use Rattle.sx_entries.specs.Documents.{table_of}
use Rattle.sx_entries.specs.Arrays.{rows_of}
use Rattle.sx_entries.specs.Entries.{EntryLists, entries_of}
use Rattle.sx_deploy.specs.Counts.{counts_fault}
use Rattle.sx_deploy.specs.Sources.{AreCoded, Coded}
use Rattle.sx_deploy.specs.Checks.{checked_all}
use Rattle.sx_deploy.specs.Ties.{byte, app_device, start_device, links_of}
use Rattle.sx_deploy.specs.Places.{placements_of}
use Rattle.sx_deploy.specs.declared.placing.Placement.{Placement}

-- a deployment: the application, its names, and by node, device and module the keys, places,
-- layouts and providers
pub record Deployed : Type 0 where
  pub app : AppTree
  pub names : NameLists
  pub secret : List ℕ
  pub keys : List (List ℕ)
  pub places : List ℕ
  pub layouts : List Layout
  pub providers : List ℕ

-- the names of a deployment's entries
abbrev pub names_of : EntryLists → NameLists
names_of e = record {
  nodes = map (λ n. n.name) e.nodes;
  devices = map (λ d. d.name) e.devices;
  sensors = map (λ d. is_sensor d.kind) e.devices;
  modules = map (λ m. m.name) e.modules;
  links = map (λ l. l.name) e.links;
}

-- a module as a part of the application
abbrev pub part_of : Coded → PartTree
part_of m = record { node = byte m.node; device = start_device m.start; tree = m.tree }

-- the application: nodes, devices, parts and connections
abbrev pub app_of : EntryLists → List Coded → List Link → AppTree
app_of e modules links = record {
  nodes = byte (length e.nodes);
  devices = map app_device e.devices;
  parts = map part_of modules;
  links = links;
}

-- the deployment that entries, modules, connections and places give
abbrev pub arranged : EntryLists → List Coded → List Link → List Placement → Deployed
arranged e modules links placements = record {
  app = app_of e modules links;
  names = names_of e;
  secret = e.secret;
  keys = map (λ n. n.key) e.nodes;
  places = map (λ d. d.at) e.devices;
  layouts = map (λ p. p.layout) placements;
  providers = map (λ m. m.provider) e.modules;
}

-- Each rule is tried on the whole document before the next.

-- rule 6: the entries, where no count is too large
abbrev pub counted : EntryLists → Result EntryLists DeployFault
counted entries = do
  few ← passes (counts_fault entries)
  Ok entries

-- rules 4, 5 and 6
abbrev pub counted_in : Members → Result EntryLists DeployFault
counted_in table = do
  rows ← rows_of table
  entries ← entries_of rows
  counted entries

-- rules 8, 9 and 10
abbrev pub deployed : EntryLists → List Coded → Result Deployed DeployFault
deployed e coded = do
  modules ← checked_all coded
  links ← links_of (map app_device e.devices) modules e.links
  placements ← placements_of e.devices links modules
  Ok (arranged e modules links placements)

-- rule 7, between them: what the modules' sources are
pub record IsOutcome (e : EntryLists) (outcome : Result Deployed DeployFault) : Type 0 where
  pub coded : Result (List Coded) DeployFault
  pub are_coded : AreCoded 0 e.modules coded
  pub comes : outcome ≡ (coded >>= deployed e)

-- the deployment of a text's entries, or the fault that they have
abbrev pub IsFrom : Result EntryLists DeployFault → Result Deployed DeployFault → Type 0
IsFrom (Ok e) outcome = IsOutcome e outcome
IsFrom (Err f) outcome = outcome ≡ Err f

-- the deployment that the text means, or the first rule that it breaks and where
abbrev pub IsRead : List ℕ → Result Deployed DeployFault → Type 0
IsRead text outcome = IsFrom (table_of text >>= counted_in) outcome
