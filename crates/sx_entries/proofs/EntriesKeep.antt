-- What holds of the entries that the rules 4 and 5 let through.
use Rattle.std.proofs.Common.{◌≡◌, ℕ, ◌<◌, false, List, [], ◌∷◌, ◌++◌, map, length, Option, Some, None, option_map, Ok, refl, subst}
use Rattle.std.proofs.lemmas.List.{map-append}
use Rattle.toml.specs.Data.{Members}
use Rattle.sx_trace.specs.Names.{deployer}
use Rattle.sx_trace.specs.ValidNames.{has_name}
use Rattle.sx_entries.specs.Stage.{made_after}
use Rattle.sx_entries.specs.declared.fault.Sort.TheVariants.{Node, Device, Module, Connection}
use Rattle.sx_entries.proofs.Each.{Each, each-snoc, all-each, bind-Ok, made-each}
use Rattle.sx_entries.specs.Rows.{node_row, device_row, module_row, link_row}
use Rattle.sx_entries.specs.Arrays.{RowLists, arrays_of, in_top, listed, made_in, rows_in, rows_of}
use Rattle.sx_entries.specs.Entries.{EntryLists, device_made, device_named, fresh, link_made, link_named, module_made, module_named, node_made, node_named, not_reserved, place_among, start_named}
use Rattle.sx_entries.specs.Law.{AreEntries, AreNamed, EntriesKeep, IsThere}
use Rattle.sx_entries.specs.declared.rows.NodeRow.{NodeRow}
use Rattle.sx_entries.specs.declared.rows.DeviceRow.{DeviceRow}
use Rattle.sx_entries.specs.declared.rows.ModuleRow.{ModuleRow}
use Rattle.sx_entries.specs.declared.rows.LinkRow.{LinkRow}
use Rattle.sx_entries.specs.declared.rows.StartRow.{StartRow}
use Rattle.sx_entries.specs.declared.rows.StartRow.TheVariants as row_start
use Rattle.sx_entries.specs.declared.entries.NodeEntry.{NodeEntry}
use Rattle.sx_entries.specs.declared.entries.DeviceEntry.{DeviceEntry}
use Rattle.sx_entries.specs.declared.entries.ModuleEntry.{ModuleEntry}
use Rattle.sx_entries.specs.declared.entries.LinkEntry.{LinkEntry}
use Rattle.sx_entries.specs.declared.entries.Start.{Start}
use Rattle.sx_entries.specs.declared.entries.Start.TheVariants as start
use Rattle.sx_lang.specs.Words.{IsWord}
use Rattle.sx_lang.specs.declared.tree.DeviceKind.TheVariants.{Sensor}
use Rattle.sx_entries.proofs.RowForms.{IsForm, IsModuleRow, through, node_form, device_form, module_form, link_form, rows_each}
use Rattle.sx_entries.proofs.Kept.{entry-named, has_name-snoc, in_entry-Ok, none_named, not_reserved-name, place-inside}

-- nodes

abbrev pub AreNodes : List NodeEntry → Type 0
AreNodes done = AreNamed (map (λ (n : NodeEntry). n.name) done)

node_keeps : (done : List NodeEntry) (row : NodeRow) (b : NodeEntry) → IsForm row.name → AreNodes done → node_made done row ≡ Ok b → AreNodes (done ++ b ∷ [])
node_keeps done row b f p h =
    through (λ (r : NodeEntry). AreNodes (done ++ r ∷ [])) (fresh (λ (e : NodeEntry). e.name) done row.name) _ b (λ name e i.
    let same : record { name = name; key = row.key } ≡ b = cc in
    subst (λ (r : NodeEntry). AreNodes (done ++ r ∷ [])) same (entry-named (λ (n : NodeEntry). n.name) done row.name (record { name = name; key = row.key }) f e p))
    (in_entry-Ok 5 Node (length done) (node_named done row) b h)

-- devices

no_node : NodeEntry
no_node = record { name = []; key = [] }

no_device : DeviceEntry
no_device = record { name = []; node = 0; kind = Sensor; at = 0 }

abbrev pub AreDevices : List NodeEntry → List DeviceEntry → Type 0
AreDevices nodes done = AreNamed (map (λ (d : DeviceEntry). d.name) done) × Each (λ (d : DeviceEntry). d.node < length nodes) done

device_keeps : (nodes : List NodeEntry) (done : List DeviceEntry) (row : DeviceRow) (b : DeviceEntry) → IsForm row.name → AreDevices nodes done
    → device_made nodes done row ≡ Ok b → AreDevices nodes (done ++ b ∷ [])
device_keeps nodes done row b f p h =
    through (λ (r : DeviceEntry). AreDevices nodes (done ++ r ∷ [])) (fresh (λ (e : DeviceEntry). e.name) done row.name) _ b (λ name e1 h1.
    through (λ (r : DeviceEntry). AreDevices nodes (done ++ r ∷ [])) (place_among (λ (e : NodeEntry). e.name) nodes row.node) _ b (λ node e2 h2.
    let new : DeviceEntry = record { name = name; node = node; kind = row.kind; at = row.at } in
    let same : new ≡ b = cc in
    let inside : node < length nodes = place-inside (λ (n : NodeEntry). n.name) nodes row.node node no_node e2 in
    subst (λ (r : DeviceEntry). AreDevices nodes (done ++ r ∷ [])) same
    (entry-named (λ (d : DeviceEntry). d.name) done row.name new f e1 p.0, each-snoc (λ (d : DeviceEntry). d.node < length nodes) done new p.1 inside)) h1)
    (in_entry-Ok 5 Device (length done) (device_named nodes done row) b h)

-- modules

start-there : (devices : List DeviceEntry) (row : StartRow) (s : Start) → start_named devices row ≡ Some s → IsThere s (length devices)
start-there devices (row_start.At at) s h = let same : start.At at ≡ s = cc in subst (λ (x : Start). IsThere x (length devices)) same tt
start-there devices (row_start.Device name) s h = by_case (place_among (λ (d : DeviceEntry). d.name) devices name) refl h
  where
    by_case : (o : Option ℕ) → place_among (λ (d : DeviceEntry). d.name) devices name ≡ o → option_map start.Device o ≡ Some s → IsThere s (length devices)
    by_case None e i = absurd (cc)
    by_case (Some n) e i =
        let same : start.Device n ≡ s = cc in
        subst (λ (x : Start). IsThere x (length devices)) same (place-inside (λ (d : DeviceEntry). d.name) devices name n no_device e)

pub record AreModules (nodes : List NodeEntry) (devices : List DeviceEntry) (done : List ModuleEntry) : Type 0 where
  pub named : AreNamed (map (λ (m : ModuleEntry). m.name) done)
  pub free : has_name (map (λ (m : ModuleEntry). m.name) done) deployer ≡ false
  pub on_nodes : Each (λ (m : ModuleEntry). m.node < length nodes) done
  pub provided : Each (λ (m : ModuleEntry). IsWord m.provider) done
  pub driving : Each (λ (m : ModuleEntry). IsThere m.start (length devices)) done

module_keeps : (nodes : List NodeEntry) (devices : List DeviceEntry) (done : List ModuleEntry) (row : ModuleRow) (b : ModuleEntry)
    → IsModuleRow row → AreModules nodes devices done → module_made nodes devices done row ≡ Ok b → AreModules nodes devices (done ++ b ∷ [])
module_keeps nodes devices done row b f p h =
    through (λ (r : ModuleEntry). AreModules nodes devices (done ++ r ∷ [])) (fresh (λ (e : ModuleEntry). e.name) done row.name) _ b (λ new e1 h1.
    through (λ (r : ModuleEntry). AreModules nodes devices (done ++ r ∷ [])) (not_reserved new) _ b (λ name e2 h2.
    through (λ (r : ModuleEntry). AreModules nodes devices (done ++ r ∷ [])) (place_among (λ (e : NodeEntry). e.name) nodes row.node) _ b (λ node e3 h3.
    through (λ (r : ModuleEntry). AreModules nodes devices (done ++ r ∷ [])) (start_named devices row.start) _ b (λ s e4 h4.
    let one : ModuleEntry = record { name = name; node = node; provider = row.provider; text = row.text; start = s; source = row.source } in
    let same : one ≡ b = cc in
    let free = not_reserved-name new name e2 in
    let taken : fresh (λ (e : ModuleEntry). e.name) done row.name ≡ Some name = subst (λ n. fresh (λ (e : ModuleEntry). e.name) done row.name ≡ Some n) free.0 e1 in
    subst (λ (r : ModuleEntry). AreModules nodes devices (done ++ r ∷ [])) same (record {
      named = entry-named (λ (m : ModuleEntry). m.name) done row.name one f.name taken p.named;
      free = rw (map-append (λ (m : ModuleEntry). m.name) done (one ∷ [])) (has_name-snoc (map (λ (m : ModuleEntry). m.name) done) name deployer p.free free.1);
      on_nodes = each-snoc (λ (m : ModuleEntry). m.node < length nodes) done one p.on_nodes (place-inside (λ (n : NodeEntry). n.name) nodes row.node node no_node e3);
      provided = each-snoc (λ (m : ModuleEntry). IsWord m.provider) done one p.provided f.provider;
      driving = each-snoc (λ (m : ModuleEntry). IsThere m.start (length devices)) done one p.driving (start-there devices row.start s e4);
    })) h3) h2) h1)
    (in_entry-Ok 5 Module (length done) (module_named nodes devices done row) b h)

-- connections

abbrev pub AreLinks : List LinkEntry → Type 0
AreLinks done = AreNamed (map (λ (l : LinkEntry). l.name) done)

link_keeps : (done : List LinkEntry) (row : LinkRow) (b : LinkEntry) → IsForm row.name → AreLinks done → link_made done row ≡ Ok b → AreLinks (done ++ b ∷ [])
link_keeps done row b f p h =
    through (λ (r : LinkEntry). AreLinks (done ++ r ∷ [])) (fresh (λ (e : LinkEntry). e.name) done row.name) _ b (λ name e i.
    let new : LinkEntry = record { name = name; from = row.from; to = row.to } in
    let same : new ≡ b = cc in
    subst (λ (r : LinkEntry). AreLinks (done ++ r ∷ [])) same (entry-named (λ (l : LinkEntry). l.name) done row.name new f e p))
    (in_entry-Ok 5 Connection (length done) (link_named done row) b h)

-- the rows that rule 4 lets through

pub record HaveForm (rows : RowLists) : Type 0 where
  pub nodes : Each (λ (r : NodeRow). IsForm r.name) rows.nodes
  pub devices : Each (λ (r : DeviceRow). IsForm r.name) rows.devices
  pub modules : Each IsModuleRow rows.modules
  pub links : Each (λ (r : LinkRow). IsForm r.name) rows.links

listed-form : (rows : List NodeRow) → Each (λ (r : NodeRow). IsForm r.name) rows → Each (λ (r : NodeRow). IsForm r.name) (listed rows)
listed-form [] h = (refl, tt)
listed-form (row ∷ rows) h = h

forms : (t : Members) (rows : RowLists) → rows_of t ≡ Ok rows → HaveForm rows
forms t rows h =
    let top = bind-Ok (in_top (arrays_of t)) rows_in rows h in
    let a = top.0 in
    let nodes = bind-Ok (made_in node_row Node [] a.nodes) _ rows top.2 in
    let devices = bind-Ok (made_in device_row Device [] a.devices) _ rows nodes.2 in
    let modules = bind-Ok (made_in module_row Module [] a.modules) _ rows devices.2 in
    let links = bind-Ok (made_in link_row Connection [] a.links) _ rows modules.2 in
    let all : RowLists = record { secret = a.secret; nodes = listed nodes.0; devices = devices.0; modules = modules.0; links = links.0 } in
    let same : all ≡ rows = cc in
    subst HaveForm same (record {
      nodes = listed-form nodes.0 (rows_each (λ (r : NodeRow). IsForm r.name) node_row Node node_form [] a.nodes nodes.0 tt nodes.1);
      devices = rows_each (λ (r : DeviceRow). IsForm r.name) device_row Device device_form [] a.devices devices.0 tt devices.1;
      modules = rows_each IsModuleRow module_row Module module_form [] a.modules modules.0 tt modules.1;
      links = rows_each (λ (r : LinkRow). IsForm r.name) link_row Connection link_form [] a.links links.0 tt links.1;
    })

pub entries_keep : EntriesKeep
entries_keep t rows e read made =
    let f = forms t rows read in
    let nodes = bind-Ok (made_after node_made [] rows.nodes) _ e made in
    let devices = bind-Ok (made_after (device_made nodes.0) [] rows.devices) _ e nodes.2 in
    let modules = bind-Ok (made_after (module_made nodes.0 devices.0) [] rows.modules) _ e devices.2 in
    let links = bind-Ok (made_after link_made [] rows.links) _ e modules.2 in
    let all : EntryLists = record { secret = rows.secret; nodes = nodes.0; devices = devices.0; modules = modules.0; links = links.0 } in
    let same : all ≡ e = cc in
    let of_nodes = made-each (λ (r : NodeRow). IsForm r.name) AreNodes node_made node_keeps [] rows.nodes nodes.0 f.nodes none_named nodes.1 in
    let of_devices = made-each (λ (r : DeviceRow). IsForm r.name) (AreDevices nodes.0) (device_made nodes.0) (device_keeps nodes.0) [] rows.devices devices.0 f.devices (none_named, tt) devices.1 in
    let of_modules = made-each IsModuleRow (AreModules nodes.0 devices.0) (module_made nodes.0 devices.0) (module_keeps nodes.0 devices.0) [] rows.modules modules.0 f.modules
    (record { named = none_named; free = refl; on_nodes = tt; provided = tt; driving = tt }) modules.1 in
    let of_links = made-each (λ (r : LinkRow). IsForm r.name) AreLinks link_made link_keeps [] rows.links links.0 f.links none_named links.1 in
    subst AreEntries same (record {
      nodes = of_nodes;
      devices = of_devices.0;
      modules = of_modules.named;
      links = of_links;
      no_deployer = of_modules.free;
      device_nodes = all-each (λ (d : DeviceEntry). d.node < length nodes.0) devices.0 of_devices.1;
      module_nodes = all-each (λ (m : ModuleEntry). m.node < length nodes.0) modules.0 of_modules.on_nodes;
      module_providers = all-each (λ (m : ModuleEntry). IsWord m.provider) modules.0 of_modules.provided;
      module_devices = all-each (λ (m : ModuleEntry). IsThere m.start (length devices.0)) modules.0 of_modules.driving;
    })
