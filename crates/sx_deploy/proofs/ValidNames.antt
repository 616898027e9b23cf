-- The names of a deployment that is read are valid.
use Rattle.std.proofs.Common.{◌≡◌, ℕ, ◌≤◌, ◌==◌, List, length, map, true, nat_le, Ok, refl, sym, subst, ◌∙◌}
use Rattle.std.proofs.lemmas.List.{length-map}
use Rattle.std.proofs.lemmas.Bool.{eq-eqb, le-leb}
use Rattle.sx_trace.specs.ValidNames.{are_names, are_valid}
use Rattle.sx_entries.specs.Law.{AreEntries, AreNamed}
use Rattle.sx_entries.specs.Entries.{EntryLists}
use Rattle.sx_entries.proofs.EntriesKeep.{entries_keep}
use Rattle.sx_mean.specs.Application.{is_sensor}
use Rattle.sx_deploy.specs.Deployment.{Deployed, IsRead, names_of}
use Rattle.sx_deploy.proofs.Accepted.{accepted}
use Rattle.sx_deploy.proofs.Few.{AreFew, few}
use Rattle.sx_entries.specs.declared.entries.NodeEntry.{NodeEntry}
use Rattle.sx_entries.specs.declared.entries.DeviceEntry.{DeviceEntry}
use Rattle.sx_entries.specs.declared.entries.ModuleEntry.{ModuleEntry}
use Rattle.sx_entries.specs.declared.entries.LinkEntry.{LinkEntry}

names : {A : Type 0} (name_of : A → List ℕ) (xs : List A) (most : ℕ) → length xs ≤ most → AreNamed (map name_of xs) → are_names most (map name_of xs) ≡ true
names name_of xs most h n =
    let short : nat_le (length (map name_of xs)) most ≡ true = le-leb _ most (rw (length-map xs name_of) h) in
    rw (short, n.form, n.apart) refl

pub valid_names : (e : EntryLists) → AreEntries e → AreFew e → are_valid (names_of e) ≡ true
unfolding are_valid
valid_names e k f =
    let nodes = names (λ (n : NodeEntry). n.name) e.nodes 16 f.nodes k.nodes in
    let devices = names (λ (d : DeviceEntry). d.name) e.devices 32 f.devices k.devices in
    let modules = names (λ (m : ModuleEntry). m.name) e.modules 32 f.modules k.modules in
    let links = names (λ (l : LinkEntry). l.name) e.links 64 f.links k.links in
    let sensors : (length (map (λ (d : DeviceEntry). is_sensor d.kind) e.devices) == length (map (λ (d : DeviceEntry). d.name) e.devices)) ≡ true =
    eq-eqb _ _ (length-map e.devices (λ (d : DeviceEntry). is_sensor d.kind) ∙ sym (length-map e.devices (λ (d : DeviceEntry). d.name))) in
    rw (nodes, devices, modules, links, k.no_deployer, sensors) refl

pub names_valid : (text : List ℕ) (d : Deployed) → IsRead text (Ok d) → are_valid d.names ≡ true
names_valid text d h =
    let a = accepted text d h in
    subst (λ (x : Deployed). are_valid x.names ≡ true) a.same (valid_names a.e (entries_keep a.table a.rows a.e a.read a.named) (few a.e a.few))
