-- Rule 4: the arrays of a document, each entry in form.
use Rattle.std.specs.Prelude.{ℕ, codes, if◌then◌else◌, List, [], ◌∷◌, ◌++◌, length, replicate}
use Rattle.std.specs.Prelude.{Option, Some, None, option_and_then, Result, Ok, Err, is_some}
use Rattle.toml.specs.Data.{Data, Items, no_items, item, Members, get_member, as_table, as_array}
use Rattle.sx_entries.specs.Fields.{key_at, name_of, has_only}
use Rattle.sx_entries.specs.Rows.{holds, node_row, device_row, module_row, link_row}
use Rattle.sx_entries.specs.Fault.{fault, ◌>>=◌}
use Rattle.sx_entries.specs.Stage.{in_entry}
use Rattle.sx_entries.specs.declared.fault.Sort.{Sort}
use Rattle.sx_entries.specs.declared.fault.Sort.TheVariants.{Top, Node, Device, Module, Connection}
use Rattle.sx_entries.specs.declared.fault.Place.TheVariants.{Kind}
use Rattle.sx_entries.specs.declared.fault.DeployFault.{DeployFault}
use Rattle.sx_entries.specs.declared.rows.NodeRow.{NodeRow}
use Rattle.sx_entries.specs.declared.rows.DeviceRow.{DeviceRow}
use Rattle.sx_entries.specs.declared.rows.ModuleRow.{ModuleRow}
use Rattle.sx_entries.specs.declared.rows.LinkRow.{LinkRow}

-- the rows of a document's arrays
pub record RowLists : Type 0 where
  pub secret : List ℕ
  pub nodes : List NodeRow
  pub devices : List DeviceRow
  pub modules : List ModuleRow
  pub links : List LinkRow

-- goes on with the value, where there is one
infixr 10 ◌>>?◌
abbrev pub ◌>>?◌ : {A B : Type 0} → Option A → (A → Option B) → Option B
o >>? f = option_and_then f o

-- the rows of an array, after those that are done: the first entry that is no table in form is a
-- fault
abbrev pub made_in : {R : Type 0} → (Members → Option R) → Sort → List R → Items
    → Result (List R) DeployFault
made_in row sort done no_items = Ok done
made_in row sort done (item d ds) = in_entry 4 sort (length done) (option_and_then row (as_table d))
    >>= (λ r. made_in row sort (done ++ r ∷ []) ds)

-- the array at a key, none where the key is absent
abbrev pub array_of : Option Data → Option Items
array_of None = Some no_items
array_of (Some d) = as_array d

-- the bytes of `secret`, zeros where it is absent
abbrev pub secret_of : Members → Option (List ℕ)
secret_of t = if is_some (get_member (codes "secret") t) then key_at (codes "secret") t else
    Some (replicate 16 0)

-- the arrays of a document, before their entries are read
pub record Arrays : Type 0 where
  pub secret : List ℕ
  pub nodes : Items
  pub devices : Items
  pub modules : Items
  pub links : Items

-- `secret` and the four arrays, where the top is in form
abbrev pub arrays_of : Members → Option Arrays
arrays_of t =
    holds (has_only (codes "secret" ∷ codes "node" ∷ codes "device" ∷ codes "module"
    ∷ codes "connection" ∷ []) t) >>? (λ known.
    secret_of t >>? (λ secret.
    array_of (get_member (codes "node") t) >>? (λ nodes.
    array_of (get_member (codes "device") t) >>? (λ devices.
    array_of (get_member (codes "module") t) >>? (λ modules.
    array_of (get_member (codes "connection") t) >>? (λ links.
    Some (record {
      secret = secret;
      nodes = nodes;
      devices = devices;
      modules = modules;
      links =
          links;
    })))))))

-- a value at the top of the document, or the fault of rule 4 there
abbrev pub in_top : {A : Type 0} → Option A → Result A DeployFault
in_top None = Err (fault 4 (Kind Top))
in_top (Some x) = Ok x

-- where no node is listed there is one node `n`, with a key of zeros
abbrev pub listed : List NodeRow → List NodeRow
listed [] = record { name = name_of (codes "n"); key = replicate 16 0 } ∷ []
listed (row ∷ rows) = row ∷ rows

-- the rows, the arrays in their order
abbrev pub rows_in : Arrays → Result RowLists DeployFault
rows_in a = do
  nodes ← made_in node_row Node [] a.nodes
  devices ← made_in device_row Device [] a.devices
  modules ← made_in module_row Module [] a.modules
  links ← made_in link_row Connection [] a.links
  Ok (record {
    secret = a.secret;
    nodes = listed nodes;
    devices = devices;
    modules = modules;
    links = links;
  })

-- rule 4: the top is in form, and each entry of each array
abbrev pub rows_of : Members → Result RowLists DeployFault
rows_of t = in_top (arrays_of t) >>= rows_in
