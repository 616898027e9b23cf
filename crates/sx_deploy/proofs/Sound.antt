-- The deployment of every text that is accepted is sound.
use Rattle.std.proofs.Common.{◌≡◌, ℕ, ◌+◌, ◌<◌, ◌≤◌, false, nat_lt, List, [], length, map, Ok, refl, sym, ap, subst, ◌∙◌, arith}
use Rattle.std.specs.List.{All, AllPairs}
use Rattle.std.proofs.lemmas.Bool.Decides.{nat_tests}
use Rattle.std.proofs.lemmas.List.{length-map}
use Rattle.sx_lang.specs.Words.{IsWord}
use Rattle.sx_mean.specs.Application.{ends_from, ends_to}
use Rattle.sx_mean.proofs.ValidApplications.{valid_applications}
use Rattle.sx_entries.proofs.Each.{Each, all-each}
use Rattle.sx_entries.specs.Law.{AreEntries}
use Rattle.sx_entries.specs.declared.entries.NodeEntry.{NodeEntry}
use Rattle.sx_entries.specs.declared.entries.DeviceEntry.{DeviceEntry}
use Rattle.sx_entries.specs.declared.entries.ModuleEntry.{ModuleEntry}
use Rattle.sx_entries.specs.declared.entries.LinkEntry.{LinkEntry}
use Rattle.sx_entries.specs.declared.entries.Start.TheVariants as start
use Rattle.sx_entries.proofs.EntriesKeep.{entries_keep}
use Rattle.sx_deploy.specs.declared.placing.Placement.{Placement}
use Rattle.sx_deploy.specs.Sources.{Coded}
use Rattle.sx_deploy.specs.Ties.{app_device, byte, has_many_ends}
use Rattle.sx_deploy.specs.Deployment.{Deployed, IsRead, app_of, arranged, part_of}
use Rattle.sx_deploy.specs.Law.{AreBeside, AreLaid, IsSoundDeployment, IsWordPlace, Word, standing}
use Rattle.sx_deploy.proofs.Accepted.{Accepted, accepted}
use Rattle.sx_deploy.proofs.Apart.{all_beside, all_stand, stand_after, each-weaker}
use Rattle.sx_deploy.proofs.Drivers.{IsFit}
use Rattle.sx_deploy.proofs.Few.{AreFew, few, tested-at}
use Rattle.sx_deploy.proofs.Laid.{AreWordsApart, IsFitting, laid_from, pair-all, standing-map, word, words-map, words_apart, words_places}
use Rattle.sx_deploy.proofs.Parts.{are_parts, coded_words, sensors_same}
use Rattle.sx_deploy.proofs.ValidApp.{AreFit, each-all-back, each-map, fits, placed_modules, valid_app}

no_module : Coded
no_module = record { name = []; node = 0; provider = 0; text = 0; start = start.At 0; tree = record { decls = []; handlers = [] } }

module _ (d : Deployed) (a : Accepted d) (k : AreEntries a.e) (f : AreFew a.e) (t : AreFit a.e a.modules a.links) where
  few_ends : (p : ℕ) → p < length a.modules → ends_from a.links p + ends_to a.links p ≤ 16
  few_ends p h =
      let tested = tested-at (has_many_ends a.links) [] a.modules t.ends p no_module h in
      let at_p : length tested.0 ≡ p = (let x = tested.1 in omega (arith, x)) in
      let few_there : nat_lt 16 (ends_from a.links p + ends_to a.links p) ≡ false = subst (λ (n : ℕ). nat_lt 16 (ends_from a.links n + ends_to a.links n) ≡ false) at_p tested.2 in
      grind (arith, nat_tests, few_there)

  on_nodes : Each (λ (e : DeviceEntry). e.node < 16) a.e.devices
  on_nodes =
      let small : length a.e.nodes ≤ 16 = f.nodes in
      each-weaker (λ (e : DeviceEntry). e.node < length a.e.nodes) (λ (e : DeviceEntry). e.node < 16) (λ e h. omega (arith, h, small)) a.e.devices
      (each-all-back (λ (e : DeviceEntry). e.node < length a.e.nodes) a.e.devices k.device_nodes)

  pub sound_meant : IsSoundDeployment (arranged a.e a.modules a.links a.placements)
  sound_meant =
      let e = a.e in
      let stands = placed_modules e.devices a.links a.modules a.placements a.placed in
      let out : a.placements ≡ stand_after e.devices a.links 0 a.modules = all_stand e.devices a.links [] a.modules a.placements stands.1 in
      let fitting : Each (IsFitting e.devices) a.modules = each-weaker (IsFit e.devices) (IsFitting e.devices) (λ m h. record { node = h.node; there = h.there }) a.modules t.fit in
      let nodes : Each (λ (m : Coded). m.node < 16) a.modules = each-weaker (IsFit e.devices) (λ (m : Coded). m.node < 16) (λ m h. h.node) a.modules t.fit in
      let layouts : map (λ (p : Placement). p.layout) a.placements ≡ map (λ (p : Placement). p.layout) (stand_after e.devices a.links 0 a.modules) = ap (map (λ (p : Placement). p.layout)) out in
      let laid = laid_from (arranged e a.modules a.links a.placements) e.devices a.links
      (length a.modules) refl refl refl f.devices on_nodes few_ends [] a.modules a.placements stands.1 fitting (omega arith) in
      let small : length e.nodes ≤ 16 = f.nodes in
      let valid = valid_app e a.modules a.links f k t in
      let v = valid_applications (app_of e a.modules a.links) valid in
      record {
        nodes = (let cut : byte (length e.nodes) ≡ length e.nodes = omega (arith, small) in cut ∙ sym (length-map e.nodes (λ (n : NodeEntry). n.name)));
        keys = length-map e.nodes (λ (n : NodeEntry). n.key) ∙ sym (length-map e.nodes (λ (n : NodeEntry). n.name));
        devices = length-map e.devices app_device ∙ sym (length-map e.devices (λ (d : DeviceEntry). d.name));
        places = length-map e.devices (λ (d : DeviceEntry). d.at) ∙ sym (length-map e.devices (λ (d : DeviceEntry). d.name));
        parts = length-map a.modules part_of ∙ t.as_many_modules ∙ sym (length-map e.modules (λ (m : ModuleEntry). m.name));
        providers = length-map e.modules (λ (m : ModuleEntry). m.provider) ∙ sym (length-map e.modules (λ (m : ModuleEntry). m.name));
        few_nodes = v.few_nodes;
        few_devices = v.few_devices;
        few_parts = v.few_parts;
        few_links = v.few_links;
        sensors = sensors_same e.devices;
        provider_words = all-each IsWord (map (λ (m : ModuleEntry). m.provider) e.modules)
            (each-map (λ (m : ModuleEntry). m.provider) IsWord e.modules (each-all-back (λ (m : ModuleEntry). IsWord m.provider) e.modules k.module_providers));
        modules = are_parts (arranged e a.modules a.links a.placements) a.modules refl valid a.sound (coded_words 0 e.modules a.modules a.are_coded);
        links = t.as_many_links ∙ sym (length-map e.links (λ (l : LinkEntry). l.name));
        words = subst (λ (ws : List Word). All IsWordPlace ws) (sym (words-map e.devices)) (all-each IsWordPlace (map word e.devices) (words_places e.devices stands.0));
        words_apart = subst (λ (ws : List Word). AllPairs AreWordsApart ws) (sym (words-map e.devices)) (pair-all AreWordsApart (map word e.devices) (words_apart e.devices on_nodes stands.0));
        laid = subst (λ ls. AreLaid (arranged e a.modules a.links a.placements) 0 (map part_of a.modules) ls) (sym layouts) laid;
        beside = subst (λ ls. AllPairs AreBeside (standing (map part_of a.modules) ls)) (sym layouts)
            (subst (λ (ps : List Placement). AllPairs AreBeside ps) (sym (standing-map e.devices a.links 0 a.modules nodes))
            (pair-all AreBeside (stand_after e.devices a.links 0 a.modules) (all_beside e.devices a.links a.modules a.placements stands.1)));
      }

pub sound : (text : List ℕ) (d : Deployed) → IsRead text (Ok d) → IsSoundDeployment d
sound text d h =
    let a = accepted text d h in
    let k = entries_keep a.table a.rows a.e a.read a.named in
    let f = few a.e a.few in
    subst IsSoundDeployment a.same (sound_meant d a k f (fits d a k f))
