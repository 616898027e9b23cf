-- The application of a deployment that is read is valid.
use Rattle.std.proofs.Common.{◌≡◌, ℕ, zero, suc, ◌+◌, ◌<◌, ◌≤◌, ◌==◌, if◌then◌else◌, Bool, true, false, not, nat_lt, List, [], ◌∷◌, ◌++◌, length, map, get_or}
use Rattle.std.proofs.Common.{count_by, Some, None, Ok, refl, sym, ap, subst, ◌∙◌, arith, add-zero}
use Rattle.std.specs.List.{list_any, All}
use Rattle.std.proofs.lemmas.Bool.Decides.{nat_tests}
use Rattle.std.proofs.lemmas.List.{length-map}
use Rattle.std.proofs.lemmas.Bool.{not-false}
use Rattle.sx_mean.specs.Application.{AppTree, PartTree, declared_kind, ends_from, ends_to, is_driven, sends_too_much}
use Rattle.sx_mean.specs.Validity.{any_part, is_crowded, is_loose, is_misplaced, is_overloaded, is_stray, is_too_large, is_valid, is_wrong, same_device}
use Rattle.sx_mean.specs.declared.apps.AppDevice.{AppDevice}
use Rattle.sx_mean.specs.declared.apps.Link.{Link}
use Rattle.sx_entries.specs.Fault.{passes}
use Rattle.sx_entries.specs.Stage.{made_after}
use Rattle.sx_entries.specs.Lines.{entries, first_bad}
use Rattle.sx_entries.specs.declared.fault.Sort.TheVariants.{Device, Module}
use Rattle.sx_entries.proofs.Each.{Each, bind-Ok, each-at}
use Rattle.sx_entries.proofs.Tested.{entries-None}
use Rattle.sx_entries.specs.Entries.{EntryLists}
use Rattle.sx_entries.specs.Law.{AreEntries, IsThere}
use Rattle.sx_entries.specs.declared.entries.NodeEntry.{NodeEntry}
use Rattle.sx_entries.specs.declared.entries.DeviceEntry.{DeviceEntry}
use Rattle.sx_entries.specs.declared.entries.ModuleEntry.{ModuleEntry}
use Rattle.sx_entries.specs.declared.entries.LinkEntry.{LinkEntry}
use Rattle.sx_entries.proofs.EntriesKeep.{entries_keep}
use Rattle.sx_deploy.specs.Counts as counts
use Rattle.sx_deploy.specs.Sources.{Coded}
use Rattle.sx_deploy.specs.Ties.{app_device, byte, start_device, has_many_ends, is_mismatched, links_of, makes_many_packets, tied_link}
use Rattle.sx_deploy.specs.Places.{is_bad_place, placed_module, placements_of}
use Rattle.sx_deploy.specs.declared.placing.Placement.{Placement}
use Rattle.sx_deploy.specs.Deployment.{Deployed, IsRead, app_of, part_of}
use Rattle.sx_deploy.proofs.Accepted.{Accepted, accepted, passes-None}
use Rattle.sx_deploy.proofs.Counted.{count_by-map}
use Rattle.sx_deploy.proofs.Apart.{EachPair, all_beside, each-weaker}
use Rattle.sx_deploy.proofs.Drivers.{IsFit, all_unlike, one_drives}
use Rattle.sx_deploy.proofs.Few.{AreFew, few, tested-at}
use Rattle.sx_deploy.proofs.Linked.{IsLinked, all_linked, as_many}
use Rattle.sx_deploy.proofs.Pairs.{pairs, pairs-count, pairs-each, pairs-length}

pub each-all-back : {A : Type 0} (P : A → Type 0) (xs : List A) → All P xs → Each P xs
each-all-back P [] h = tt
each-all-back P (x ∷ xs) h = (h zero x (omega arith), each-all-back P xs (λ i d k. h (suc i) d (omega (arith, k))))

pub each-map : {A B : Type 0} (v : A → B) (P : B → Type 0) (xs : List A) → Each (λ x. P (v x)) xs → Each P (map v xs)
each-map v P [] h = tt
each-map v P (x ∷ xs) h = (h.0, each-map v P xs h.1)

pub any-none : {A : Type 0} (p : A → Bool) (xs : List A) → Each (λ x. p x ≡ false) xs → list_any p xs ≡ false
any-none p [] h = refl
any-none p (x ∷ xs) h = rw (h.0, any-none p xs h.1) refl

-- a line that doesn't look at earlier entries holds of none
each-clear : {A : Type 0} (bad : List A → A → Bool) (q : A → Bool) → ((e : List A) (x : A) → bad e x ≡ q x) → (earlier xs : List A) → first_bad bad earlier xs ≡ None → Each (λ x. q x ≡ false) xs
each-clear bad q same earlier [] h = tt
each-clear bad q same earlier (x ∷ xs) h = by_case (bad earlier x) refl h (each-clear bad q same (earlier ++ x ∷ []) xs)
  where
    by_case : (b : Bool) → bad earlier x ≡ b → (if b then Some (length earlier) else first_bad bad (earlier ++ x ∷ []) xs) ≡ None
        → (first_bad bad (earlier ++ x ∷ []) xs ≡ None → Each (λ x. q x ≡ false) xs) → (q x ≡ false) × Each (λ x. q x ≡ false) xs
    by_case true e i rest = absurd (cc)
    by_case false e i rest = (sym (same earlier x) ∙ e, rest i)

none_wrong : (test : ℕ → PartTree → Bool) (ms : List Coded) (p : ℕ) → ((i : ℕ) (d : Coded) → i < length ms → test (p + i) (part_of (get_or ms i d)) ≡ false) → any_part test p (map part_of ms) ≡ false
none_wrong test [] p h = refl
none_wrong test (m ∷ ms) p h =
    let first : test p (part_of m) ≡ false = subst (λ (n : ℕ). test n (part_of m) ≡ false) (add-zero p) (h zero m (omega arith)) in
    let later : (i : ℕ) (d : Coded) → i < length ms → test ((p + 1) + i) (part_of (get_or ms i d)) ≡ false =
    λ i d k. (let next : p + suc i ≡ (p + 1) + i = omega arith in subst (λ (n : ℕ). test n (part_of (get_or ms i d)) ≡ false) next (h (suc i) d (omega (arith, k)))) in
    rw (first, none_wrong test ms (p + 1) later) refl

below : (a b : ℕ) → a < b → b ≤ 64 → nat_lt (byte a) (byte b) ≡ true
below a b h k = grind (arith, nat_tests)

few_enough : (k n : ℕ) → n ≤ k → nat_lt k n ≡ false
few_enough k n h = grind (arith, nat_tests)

-- what the rules 5 to 10 leave, on the modules
pub record AreFit (e : EntryLists) (modules : List Coded) (links : List Link) : Type 0 where
  pub as_many_modules : length modules ≡ length e.modules
  pub as_many_links : length links ≡ length e.links
  pub nodes : Each (λ (m : Coded). m.node < length e.nodes) modules
  pub fit : Each (IsFit e.devices) modules
  pub crowd : (node : ℕ) → node < length e.nodes → count_by (λ (c : Coded). byte c.node == byte node) modules ≤ 8
  pub drivers : EachPair (λ (m c : Coded). same_device (start_device m.start) (start_device c.start) ≡ false) modules
  pub ends : first_bad (has_many_ends links) [] modules ≡ None
  pub packets : first_bad (makes_many_packets links) [] modules ≡ None
  pub linked : Each (λ (l : Link). IsLinked modules l) links

module _ (e : EntryLists) (modules : List Coded) (links : List Link) (f : AreFew e) (k : AreEntries e) (t : AreFit e modules links) where
  app : AppTree
  app = app_of e modules links

  no_strays : list_any (is_stray (app_of e modules links)) (map app_device e.devices) ≡ false
  no_strays =
      any-none (is_stray (app_of e modules links)) (map app_device e.devices) (each-map app_device (λ d. is_stray (app_of e modules links) d ≡ false) e.devices
      (each-weaker (λ (d : DeviceEntry). d.node < length e.nodes) (λ (d : DeviceEntry). is_stray (app_of e modules links) (app_device d) ≡ false)
      (λ d h. ap not (below d.node (length e.nodes) h (let n : length e.nodes ≤ 16 = f.nodes in omega (arith, n)))) e.devices
      (each-all-back (λ (d : DeviceEntry). d.node < length e.nodes) e.devices k.device_nodes)))

  not_large : is_too_large (app_of e modules links) ≡ false
  unfolding is_too_large
  not_large =
      let nodes : nat_lt 16 (byte (length e.nodes)) ≡ false = few_enough 16 _ (let n : length e.nodes ≤ 16 = f.nodes in omega (arith, n)) in
      let devices : nat_lt 32 (length (map app_device e.devices)) ≡ false = few_enough 32 _ (rw (length-map e.devices app_device) f.devices) in
      let parts : nat_lt 32 (length (map part_of modules)) ≡ false = few_enough 32 _ (rw (length-map modules part_of, t.as_many_modules) f.modules) in
      let all_links : nat_lt 64 (length links) ≡ false = few_enough 64 _ (rw t.as_many_links f.links) in
      rw (nodes, devices, parts, all_links) refl

  not_misplaced : (i : ℕ) (d : Coded) → i < length modules → is_misplaced (app_of e modules links) (part_of (get_or modules i d)) ≡ false
  unfolding is_misplaced
  not_misplaced i d h =
      let m = get_or modules i d in
      let node : m.node < length e.nodes = each-at (λ (m : Coded). m.node < length e.nodes) modules i d t.nodes h in
      let there : nat_lt (byte m.node) (byte (length e.nodes)) ≡ true = below m.node (length e.nodes) node (let n : length e.nodes ≤ 16 = f.nodes in omega (arith, n)) in
      let fit : IsFit e.devices m = each-at (IsFit e.devices) modules i d t.fit h in
      rw (there, fit.driven) refl

  not_crowded : (i : ℕ) (d : Coded) → i < length modules → is_crowded (app_of e modules links) (part_of (get_or modules i d)) ≡ false
  unfolding is_crowded
  not_crowded i d h =
      let m = get_or modules i d in
      let node : m.node < length e.nodes = each-at (λ (m : Coded). m.node < length e.nodes) modules i d t.nodes h in
      let few_there : nat_lt 8 (count_by (λ (r : PartTree). r.node == byte m.node) (map part_of modules)) ≡ false =
      few_enough 8 _ (subst (λ (n : ℕ). n ≤ 8) (count_by-map part_of (λ (r : PartTree). r.node == byte m.node) modules) (t.crowd m.node node)) in
      let alone : nat_lt 1 (count_by (λ (r : PartTree). same_device (start_device m.start) r.device) (map part_of modules)) ≡ false =
      few_enough 1 _ (subst (λ (n : ℕ). n ≤ 1) (count_by-map part_of (λ (r : PartTree). same_device (start_device m.start) r.device) modules) (one_drives (start_device m.start) modules t.drivers)) in
      rw (few_there, alone) refl

  not_overloaded : (i : ℕ) (d : Coded) → i < length modules → is_overloaded (app_of e modules links) i (part_of (get_or modules i d)) ≡ false
  unfolding is_overloaded
  not_overloaded i d h =
      let m = get_or modules i d in
      let ends = tested-at (has_many_ends links) [] modules t.ends i d h in
      let packets = tested-at (makes_many_packets links) [] modules t.packets i d h in
      let at_ends : length ends.0 ≡ i = (let x = ends.1 in omega (arith, x)) in
      let at_packets : length packets.0 ≡ i = (let x = packets.1 in omega (arith, x)) in
      let few_ends : nat_lt 16 (ends_from links i + ends_to links i) ≡ false = subst (λ (n : ℕ). nat_lt 16 (ends_from links n + ends_to links n) ≡ false) at_ends ends.2 in
      let few_packets : sends_too_much links i m.tree ≡ false = subst (λ (n : ℕ). sends_too_much links n m.tree ≡ false) at_packets packets.2 in
      rw (few_ends, few_packets) refl

  none_is_wrong : any_part (is_wrong (app_of e modules links)) 0 (map part_of modules) ≡ false
  unfolding is_wrong
  none_is_wrong =
      none_wrong (is_wrong (app_of e modules links)) modules 0 (λ i d h.
      (let place : i ≡ 0 + i = omega arith in
      subst (λ (n : ℕ). is_wrong (app_of e modules links) n (part_of (get_or modules i d)) ≡ false) place
      (rw (not_misplaced i d h, not_crowded i d h, not_overloaded i d h) refl)))

  none_is_loose : list_any (is_loose (app_of e modules links)) links ≡ false
  unfolding is_loose
  none_is_loose =
      any-none (is_loose (app_of e modules links)) links (each-weaker (λ (l : Link). IsLinked modules l) (λ l. is_loose (app_of e modules links) l ≡ false) (λ l h. rw (h.0, h.1) refl) links t.linked)

  pub valid_app : is_valid (app_of e modules links) ≡ true
  unfolding is_valid
  valid_app = rw (not_large, no_strays, none_is_wrong, none_is_loose) refl

pub each-both : {A : Type 0} (P Q R : A → Type 0) → ((x : A) → P x → Q x → R x) → (xs : List A) → Each P xs → Each Q xs → Each R xs
each-both P Q R k [] p q = tt
each-both P Q R k (x ∷ xs) p q = (k x p.0 q.0, each-both P Q R k xs p.1 q.1)

-- what each line of rule 9 left
pub record AreTied (devices : List AppDevice) (modules : List Coded) (rows : List LinkEntry) (links : List Link) : Type 0 where
  pub first : first_bad (is_mismatched devices) [] modules ≡ None
  pub made : made_after (tied_link modules) [] rows ≡ Ok links
  pub third : first_bad (has_many_ends links) [] modules ≡ None
  pub fourth : first_bad (makes_many_packets links) [] modules ≡ None

pub tied_lines : (devices : List AppDevice) (modules : List Coded) (rows : List LinkEntry) (links : List Link) → links_of devices modules rows ≡ Ok links → AreTied devices modules rows links
tied_lines devices modules rows links h =
    let first = bind-Ok (passes (entries 9 Module (is_mismatched devices) modules)) _ links h in
    let made = bind-Ok (made_after (tied_link modules) [] rows) _ links first.2 in
    let third = bind-Ok (passes (entries 9 Module (has_many_ends made.0) modules)) _ links made.2 in
    let fourth = bind-Ok (passes (entries 9 Module (makes_many_packets made.0) modules)) _ links third.2 in
    let same : made.0 ≡ links = cc in
    subst (λ (l : List Link). AreTied devices modules rows l) same (record {
      first = entries-None 9 Module (is_mismatched devices) modules (passes-None _ first.0 first.1);
      made = made.1;
      third = entries-None 9 Module (has_many_ends made.0) modules (passes-None _ third.0 third.1);
      fourth = entries-None 9 Module (makes_many_packets made.0) modules (passes-None _ fourth.0 fourth.1);
    })

pub placed_modules : (devices : List DeviceEntry) (links : List Link) (modules : List Coded) (out : List Placement) → placements_of devices links modules ≡ Ok out
    → (first_bad is_bad_place [] devices ≡ None) × (made_after (placed_module devices links) [] modules ≡ Ok out)
placed_modules devices links modules out h =
    let first = bind-Ok (passes (entries 10 Device is_bad_place devices)) _ out h in
    (entries-None 10 Device is_bad_place devices (passes-None _ first.0 first.1), first.2)

no_entry : NodeEntry
no_entry = record { name = []; key = [] }

pub fits : (d : Deployed) (a : Accepted d) → AreEntries a.e → AreFew a.e → AreFit a.e a.modules a.links
fits d a k f =
    let e = a.e in
    let ps = pairs 0 e.modules a.modules a.are_coded in
    let lines = tied_lines (map app_device e.devices) a.modules e.links a.links a.tied in
    let nodes : Each (λ (m : Coded). m.node < length e.nodes) a.modules =
    pairs-each (λ (m : ModuleEntry). m.node < length e.nodes) (λ (c : Coded). c.node < length e.nodes) (λ m tree h. h) e.modules a.modules ps
    (each-all-back (λ (m : ModuleEntry). m.node < length e.nodes) e.modules k.module_nodes) in
    let there : Each (λ (m : Coded). IsThere m.start (length e.devices)) a.modules =
    pairs-each (λ (m : ModuleEntry). IsThere m.start (length e.devices)) (λ (c : Coded). IsThere c.start (length e.devices)) (λ m tree h. h) e.modules a.modules ps
    (each-all-back (λ (m : ModuleEntry). IsThere m.start (length e.devices)) e.modules k.module_devices) in
    let driven : Each (λ (m : Coded). not (is_driven (map app_device e.devices) (byte m.node) (start_device m.start) (declared_kind m.tree.decls)) ≡ false) a.modules =
    each-clear (is_mismatched (map app_device e.devices)) (λ m.
    not (is_driven (map app_device e.devices) (byte m.node) (start_device m.start) (declared_kind m.tree.decls))) (λ e m. refl) [] a.modules lines.first in
    let small : length e.nodes ≤ 16 = f.nodes in
    let placed_there : Each (λ (m : Coded). (m.node < length e.nodes) × IsThere m.start (length e.devices)) a.modules =
    each-both (λ (m : Coded). m.node < length e.nodes) (λ (m : Coded). IsThere m.start (length e.devices)) _ (λ m p q. (p, q)) a.modules nodes there in
    let fit : Each (IsFit e.devices) a.modules =
    each-both (λ (m : Coded). (m.node < length e.nodes) × IsThere m.start (length e.devices))
    (λ (m : Coded). not (is_driven (map app_device e.devices) (byte m.node) (start_device m.start) (declared_kind m.tree.decls)) ≡ false)
    (IsFit e.devices)
    (λ m p q. record { node = (let n : m.node < length e.nodes = p.0 in omega (arith, n, small)); there = p.1; driven = not-false _ q }) a.modules placed_there driven in
    let many : length a.modules ≡ length e.modules = pairs-length e.modules a.modules ps in
    let few_modules : length a.modules ≤ 32 = (let n : length e.modules ≤ 32 = f.modules in omega (arith, many, n)) in
    let stands = placed_modules e.devices a.links a.modules a.placements a.placed in
    record {
      as_many_modules = many;
      as_many_links = (let n : length a.links ≡ length {A = Link} [] + length e.links = as_many a.modules [] e.links a.links lines.made in omega (arith, n));
      nodes = nodes;
      fit = fit;
      crowd = λ node h. crowd node h;
      drivers = all_unlike e.devices a.links f.devices 0 a.modules fit (all_beside e.devices a.links a.modules a.placements stands.1);
      ends = lines.third;
      packets = lines.fourth;
      linked = all_linked a.modules few_modules a.sound e.links a.links lines.made;
    }
  where
    crowd : (node : ℕ) → node < length a.e.nodes → count_by (λ (c : Coded). byte c.node == byte node) a.modules ≤ 8
    crowd node h =
        let small : length a.e.nodes ≤ 16 = f.nodes in
        let t = tested-at (counts.is_crowded a.e.modules) [] a.e.nodes f.crowds node no_entry h in
        let at_node : length t.0 ≡ node = (let x = t.1 in omega (arith, x)) in
        let few_there : nat_lt 8 (count_by (λ (m : ModuleEntry). m.node == node) a.e.modules) ≡ false =
        subst (λ (n : ℕ). nat_lt 8 (count_by (λ (m : ModuleEntry). m.node == n) a.e.modules) ≡ false) at_node t.2 in
        let at_most : count_by (λ (m : ModuleEntry). m.node == node) a.e.modules ≤ 8 = grind (arith, nat_tests, few_there) in
        let near : Each (λ (m : ModuleEntry). m.node < 255) a.e.modules =
        each-weaker (λ (m : ModuleEntry). m.node < length a.e.nodes) (λ (m : ModuleEntry). m.node < 255) (λ m p. omega (arith, p, small)) a.e.modules
        (each-all-back (λ (m : ModuleEntry). m.node < length a.e.nodes) a.e.modules k.module_nodes) in
        subst (λ (n : ℕ). n ≤ 8) (sym (pairs-count node (omega (arith, h, small)) a.e.modules a.modules (pairs 0 a.e.modules a.modules a.are_coded) near)) at_most

pub app_valid : (text : List ℕ) (d : Deployed) → IsRead text (Ok d) → is_valid d.app ≡ true
app_valid text d h =
    let a = accepted text d h in
    let k = entries_keep a.table a.rows a.e a.read a.named in
    let f = few a.e a.few in
    let t = fits d a k f in
    subst (λ (x : Deployed). is_valid x.app ≡ true) a.same (valid_app a.e a.modules a.links f k t)
