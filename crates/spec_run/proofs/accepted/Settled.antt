-- An accepted deployment, with images that realize its modules, is sound as the setting of a run.
use Rattle.std.proofs.Common.{◌≡◌, ℕ, zero, suc, ◌+◌, ◌-◌, ◌%◌, ◌<◌, ◌≤◌, ◌==◌, ◌&&◌, ◌⊎◌}
use Rattle.std.proofs.Common.{inl, inr, nat_le, true, false, if◌then◌else◌, List, [], ◌∷◌}
use Rattle.std.proofs.Common.{length, Option, Some, None, IfSome, IsSome, refl, sym, ◌∙◌, ap, subst}
use Rattle.std.proofs.Common.{arith}
use Rattle.std.specs.Prelude.{slice_get}
use Rattle.std.proofs.lemmas.Bool.{and_parts, eqb-true, eq-eqb, lt-ltb, le-leb, cases_lt, or_right}
use Rattle.std.proofs.lemmas.Bool.Decides.{nat_tests}
use Rattle.sx_lang.specs.declared.tree.DeviceKind.{DeviceKind}
use Rattle.sx_lang.specs.declared.tree.DeviceKind.TheVariants.{Sensor, Actuator}
use Rattle.sx_lang.specs.Sizes.{module_weight, module_data_size}
use Rattle.sx_mean.specs.Application.{declared_kind, is_at, is_driven, same_kind, ends_from, ends_to}
use Rattle.sx_mean.specs.declared.apps.AppDevice.{AppDevice}
use Rattle.sx_rules.specs.Admission.{good_bounds, apart}
use Rattle.sx_bus.specs.declared.devices.Window.{Window}
use Rattle.sx_bus.specs.Devices.{powered_on, device_at}
use Rattle.sx_tag.specs.Mac.{Mac}
use Rattle.sx_tag.specs.Mac.{IsTag}
use Rattle.sx_image.specs.Realizes.{Realizes}
use Rattle.spec_invocation.specs.Devices.{HasDevices, Drives}
use Rattle.sx_deploy.specs.Deployment.{Deployed}
use Rattle.sx_deploy.specs.Law.{Word, words_of, IsLaid, IsDeployedPart, AreBeside, standing}
use Rattle.sx_deploy.specs.Law as deployment
use Rattle.sx_mean.specs.Application.{PartTree}
use Rattle.sx_mean.specs.Ends.{ends_of}
use Rattle.sx_mean.proofs.Ends.{ends_counted}
use Rattle.spec_run.specs.Setting.{Site, kind_of, windows_at}
use Rattle.spec_run.specs.Law.{IsSoundSetting, IsLawfulSetting, IsDeployedModule, IsDriven, AreApartLayouts, image_at}
use Rattle.spec_run.proofs.Tags.{tag_under}
use Rattle.spec_run.proofs.tie.Lists.{some_inj}
use Rattle.spec_run.specs.Accepted.{setting_of, AreImages}
use Rattle.spec_run.proofs.accepted.Windows.{found_at, own_device}
use Rattle.spec_run.proofs.accepted.DeviceWords.{all_at, pair_at, window_powered, word_of_window, spaced, are_places, nothing_at}
use Rattle.spec_run.proofs.accepted.LaidSites.{IsSite, site_at, sites_long, laid_long, laid_at, standing_at}

-- numbers as tests

bounds_good : (a b c e : ℕ) → a < b → c < e → a % 2 ≡ 0 → b % 2 ≡ 0 → c % 2 ≡ 0 → e % 2 ≡ 0 → good_bounds (record { pub_from = a; pub_to = b; priv_from = c; priv_to = e }) ≡ true
bounds_good a b c e lt lt2 ea eb ec ee = rw (lt-ltb a b lt, lt-ltb c e lt2, eq-eqb (a % 2) 0 ea, eq-eqb (b % 2) 0 eb, eq-eqb (c % 2) 0 ec, eq-eqb (e % 2) 0 ee) refl

-- two ranges that don't meet
abbrev Off : ℕ → ℕ → ℕ → ℕ → Type 0
Off a b c e = (b ≤ c) ⊎ (e ≤ a)

apart_true : (a b c e : ℕ) → Off a b c e → apart a b c e ≡ true
apart_true a b c e (inl h) = rw (le-leb b c h) refl
apart_true a b c e (inr h) = or_right (nat_le b c) _ (le-leb e a h)

turned : (a b c e : ℕ) → Off a b c e → Off c e a b
turned a b c e (inl h) = inr h
turned a b c e (inr h) = inl h

outside : (a b c e at : ℕ) → Off a b c e → a ≤ at → at < b → c ≤ at → at < e → ⊥
outside a b c e at (inl h) p q r s = absurd (omega (arith, h, p, q, r, s))
outside a b c e at (inr h) p q r s = absurd (omega (arith, h, p, q, r, s))

-- the device that a test of its node and kind found

kind_same : (a b : DeviceKind) → same_kind a b ≡ true → a ≡ b
kind_same Sensor Sensor h = refl
kind_same Sensor Actuator h = absurd cc
kind_same Actuator Sensor h = absurd cc
kind_same Actuator Actuator h = refl

found_driven : (es : List AppDevice) (d node : ℕ) (k : DeviceKind) → is_at es d node k ≡ true → (x : AppDevice) × (slice_get es d ≡ Some x) × (x.node ≡ node) × (x.kind ≡ k)
found_driven [] d node k h = absurd cc
found_driven (e ∷ es) zero node k h = let p = and_parts (e.node == node) (same_kind e.kind k) h in (e, refl, eqb-true e.node node p.0, kind_same e.kind k p.1)
found_driven (e ∷ es) (suc d) node k h =
    let later : (suc d == 0) ≡ false = grind (arith, nat_tests) in
    let less : suc d - 1 ≡ d = omega arith in
    let there : is_at es d node k ≡ true = subst (λ j. is_at es j node k ≡ true) less
    (subst (λ b. (if b then (e.node == node) && same_kind e.kind k else is_at es (suc d - 1) node k) ≡ true) later h) in
    found_driven es d node k there

module _ (mac : Mac) (d : Deployed) (texts : List (List ℕ)) (acc : deployment.IsSoundDeployment d) (images : AreImages mac d texts) where
  module _ (m : ℕ) (site : Site) (r : IsSite d.app.parts d.layouts d.providers texts m site) where
    part : IsDeployedPart d m r.part
    part = acc.modules m r.part r.found

    laid : IsLaid d m r.part site.layout
    laid = subst (λ p. IsLaid d p r.part site.layout) (omega arith) (laid_at d 0 d.app.parts d.layouts m r.part site.layout acc.laid r.found r.layout)

    count : length (ends_of (setting_of mac d texts).app m) ≡ ends_from d.app.links m + ends_to d.app.links m
    count = (ends_counted d.app m).all

    realizes : Realizes mac r.part.tree (ends_of (setting_of mac d texts).app m) (image_at site)
    realizes = images.realize m r.part site.layout site.provider site.text r.found r.layout r.provider r.text

    parts_off : Off site.layout.pub_from site.layout.pub_to site.layout.priv_from site.layout.priv_to
    parts_off = laid.apart

    large : site.layout.priv_from + 512 ≤ site.layout.priv_to
    large = let s = laid.data_size in omega (arith, s)

    abbrev IsClear : Word → Type 0
    IsClear v = v.node ≡ r.part.node → (IsSome r.part.device × (v.at ≡ site.layout.priv_from))
        ⊎ (Off v.at (v.at + 2) site.layout.pub_from site.layout.pub_to × Off v.at (v.at + 2) site.layout.priv_from site.layout.priv_to)

    -- a window of the node is the module's own, or meets no part of it
    clear : (k : ℕ) (w : Window) → slice_get (powered_on (windows_at r.part.node d.app.devices d.places)) k ≡ Some w
        → (IsSome r.part.device × (w.at ≡ site.layout.priv_from)) ⊎ (Off w.at (w.at + 2) site.layout.pub_from site.layout.pub_to × Off w.at (w.at + 2) site.layout.priv_from site.layout.priv_to)
    clear k w e =
        let o = word_of_window d.app.devices d.places acc.few_devices acc.words acc.words_apart r.part.node k w e in
        let here : r.part.node ≡ r.part.node → (IsSome r.part.device × (w.at ≡ site.layout.priv_from))
        ⊎ (Off w.at (w.at + 2) site.layout.pub_from site.layout.pub_to × Off w.at (w.at + 2) site.layout.priv_from site.layout.priv_to) =
        all_at IsClear (words_of d.app.devices d.places) o.0 (record { node = r.part.node; at = w.at }) laid.words o.1 in
        here refl

    no_text : (at : ℕ) → site.layout.pub_from ≤ at → at < site.layout.pub_to → device_at (powered_on (windows_at r.part.node d.app.devices d.places)) at ≡ None
    no_text at from to = nothing_at d.app.devices d.places acc.few_devices acc.words acc.words_apart r.part.node at (λ k w e le lt. elim (clear k w e) [
      | inl own ↦ (let same = own.1 in outside site.layout.pub_from site.layout.pub_to site.layout.priv_from site.layout.priv_to at parts_off from to
          (omega (arith, le, same)) (omega (arith, lt, same, large)))
      | inr off ↦ outside w.at (w.at + 2) site.layout.pub_from site.layout.pub_to at off.0 le lt from to
    ])

    -- after a driver's word there is no device
    no_data : (at : ℕ) → site.layout.priv_from + 2 ≤ at → at < site.layout.priv_to → device_at (powered_on (windows_at r.part.node d.app.devices d.places)) at ≡ None
    no_data at from to = nothing_at d.app.devices d.places acc.few_devices acc.words acc.words_apart r.part.node at (λ k w e le lt. elim (clear k w e) [
      | inl own ↦ (let same = own.1 in absurd (omega (arith, lt, same, from)))
      | inr off ↦ outside w.at (w.at + 2) site.layout.priv_from site.layout.priv_to at off.1 le lt (omega (arith, from)) to
    ])

    -- and in no section of a module without a device
    no_device : r.part.device ≡ None → (at : ℕ) → site.layout.priv_from ≤ at → at < site.layout.priv_to → device_at (powered_on (windows_at r.part.node d.app.devices d.places)) at ≡ None
    no_device none at from to = nothing_at d.app.devices d.places acc.few_devices acc.words acc.words_apart r.part.node at (λ k w e le lt. elim (clear k w e) [
      | inl own ↦ absurd (empty (subst IsSome none own.0))
      | inr off ↦ outside w.at (w.at + 2) site.layout.priv_from site.layout.priv_to at off.1 le lt from to
    ])
      where
        empty : IsSome {T = ℕ} None → ⊥
        empty h = cc

    driven : (n : ℕ) → r.part.device ≡ Some n → IsDriven (setting_of mac d texts) r.part site n
    driven n e = by_kind (declared_kind r.part.tree.decls) refl (subst (λ o. is_driven d.app.devices r.part.node o (declared_kind r.part.tree.decls) ≡ true) e part.driven)
      where
        by_kind : (o : Option DeviceKind) → declared_kind r.part.tree.decls ≡ o → is_driven d.app.devices r.part.node (Some n) o ≡ true → IsDriven (setting_of mac d texts) r.part site n
        by_kind None k h = absurd cc
        by_kind (Some kd) k h =
            let x = found_driven d.app.devices n r.part.node kd h in
            record {
              device = x.0;
              found = x.1;
              node = x.2;
              kind = k ∙ ap (λ z. Some z) (sym x.3);
              place = subst (λ o. IfSome o (λ n. slice_get d.places n ≡ Some site.layout.priv_from)) e laid.device;
            }

    undriven : r.part.device ≡ None → declared_kind r.part.tree.decls ≡ None
    undriven e = by_kind (declared_kind r.part.tree.decls) (subst (λ o. is_driven d.app.devices r.part.node o (declared_kind r.part.tree.decls) ≡ true) e part.driven)
      where
        by_kind : (o : Option DeviceKind) → is_driven d.app.devices r.part.node None o ≡ true → o ≡ None
        by_kind None h = refl
        by_kind (Some kd) h = absurd cc

    drives : (n : ℕ) → r.part.device ≡ Some n → (kd : DeviceKind) → declared_kind r.part.tree.decls ≡ Some kd
        → Drives (powered_on (windows_at r.part.node d.app.devices d.places)) (kind_of kd) site.layout
    drives n e kd k =
        let o = driven n e in
        let own = own_device r.part.node 0 n d.app.devices d.places o.device site.layout.priv_from o.found o.node o.place in
        let w = window_powered (windows_at r.part.node d.app.devices d.places) own.0 _ own.2 in
        record {
          device = own.0;
          window = record { at = site.layout.priv_from; kind = kind_of o.device.kind; value = 0; fresh = false };
          found = found_at (powered_on (windows_at r.part.node d.app.devices d.places)) own.0 site.layout.priv_from _
              (spaced d.app.devices d.places acc.few_devices acc.words acc.words_apart r.part.node) w refl;
          at_start = refl;
          kind = ap kind_of (some_inj o.device.kind kd (sym o.kind ∙ k));
          alone = no_data;
        }

    has_devices : HasDevices (powered_on (windows_at r.part.node d.app.devices d.places)) (declared_kind r.part.tree.decls) site.layout
    has_devices = by_device r.part.device refl
      where
        by_kind : (n : ℕ) → r.part.device ≡ Some n → (o : Option DeviceKind) → declared_kind r.part.tree.decls ≡ o
            → HasDevices (powered_on (windows_at r.part.node d.app.devices d.places)) o site.layout
        by_kind n e None k = absurd (differ (sym k ∙ (driven n e).kind))
          where
            differ : {x : DeviceKind} → ◌≡◌ {A = Option DeviceKind} None (Some x) → ⊥
            differ e = cc
        by_kind n e (Some Sensor) k = drives n e Sensor k
        by_kind n e (Some Actuator) k = drives n e Actuator k

        by_device : (o : Option ℕ) → r.part.device ≡ o → HasDevices (powered_on (windows_at r.part.node d.app.devices d.places)) (declared_kind r.part.tree.decls) site.layout
        by_device None e = subst (λ o. HasDevices (powered_on (windows_at r.part.node d.app.devices d.places)) o site.layout) (sym (undriven e)) (no_device e)
        by_device (Some n) e = by_kind n e (declared_kind r.part.tree.decls) refl

    bounds : good_bounds site.layout ≡ true
    bounds =
        let w = laid.weight in
        let s = laid.data_size in
        let a = laid.text.even in
        let b = laid.data_part.even in
        bounds_good site.layout.pub_from site.layout.pub_to site.layout.priv_from site.layout.priv_to (omega (arith, w)) (omega (arith, s)) a (omega (arith, w, a)) b (omega (arith, s, b))

    pub deployed_at : IsDeployedModule (setting_of mac d texts) m r.part site
    deployed_at = record {
      node = r.node;
      bounds = bounds;
      parts = apart_true site.layout.pub_from site.layout.pub_to site.layout.priv_from site.layout.priv_to parts_off;
      checked = part.checked;
      provider = all_at (λ p. p < 65536) d.providers m site.provider acc.provider_words r.provider;
      text_end = laid.text.high;
      data_end = laid.data_part.high;
      text = laid.weight ∙ ap (λ k. site.layout.pub_from + module_weight r.part.tree k) (sym count) ∙ ap (λ k. site.layout.pub_from + k) (sym realizes.weight);
      data_size = laid.data_size ∙ ap (λ k. site.layout.priv_from + module_data_size r.part.tree k) (sym count);
      realizes = realizes;
      devices = has_devices;
      text_free = no_text;
      device = driven;
      none = undriven;
    }

  -- two sites of a node are apart

  earlier : (m k : ℕ) (a b : Site) → slice_get (setting_of mac d texts).sites m ≡ Some a → slice_get (setting_of mac d texts).sites k ≡ Some b → a.node ≡ b.node → m < k
      → Off a.layout.pub_from a.layout.pub_to b.layout.pub_from b.layout.pub_to × Off a.layout.pub_from a.layout.pub_to b.layout.priv_from b.layout.priv_to
      × Off a.layout.priv_from a.layout.priv_to b.layout.pub_from b.layout.pub_to × Off a.layout.priv_from a.layout.priv_to b.layout.priv_from b.layout.priv_to
  earlier m k a b ea eb node lt =
      let x = site_at d.app.parts d.layouts d.providers texts m a ea in
      let y = site_at d.app.parts d.layouts d.providers texts k b eb in
      let p = pair_at AreBeside (standing d.app.parts d.layouts) m k _ _ acc.beside lt
      (standing_at d.app.parts d.layouts m x.part a.layout x.found x.layout)
      (standing_at d.app.parts d.layouts k y.part b.layout y.found y.layout) in
      p.beside (sym x.node ∙ node ∙ y.node)

  apart_sites : (m k : ℕ) (a b : Site) → slice_get (setting_of mac d texts).sites m ≡ Some a
      → slice_get (setting_of mac d texts).sites k ≡ Some b → a.node ≡ b.node → (m ≡ k) ⊎ AreApartLayouts a.layout b.layout
  apart_sites m k a b ea eb node = elim (cases_lt m k) [
    | inl lt ↦ inr (
        let h = earlier m k a b ea eb node lt in
        (apart_true _ _ _ _ h.0, apart_true _ _ _ _ h.1, apart_true _ _ _ _ h.2, apart_true _ _ _ _ h.3))
    | inr ge ↦ elim (cases_lt k m) [
      | inl lt ↦ inr (
          let h = earlier k m b a eb ea (sym node) lt in
          (apart_true _ _ _ _ (turned _ _ _ _ h.0), apart_true _ _ _ _ (turned _ _ _ _ h.2), apart_true _ _ _ _ (turned _ _ _ _ h.1), apart_true _ _ _ _ (turned _ _ _ _ h.3)))
      | inr ge2 ↦ inl (omega (arith, ge, ge2))
    ]
  ]

  deployed_part : (m : ℕ) (q : PartTree) (site : Site) → slice_get (setting_of mac d texts).app.parts m ≡ Some q
      → slice_get (setting_of mac d texts).sites m ≡ Some site → IsDeployedModule (setting_of mac d texts) m q site
  deployed_part m q site eq es =
      let r = site_at d.app.parts d.layouts d.providers texts m site es in
      subst (λ (q : PartTree). IsDeployedModule (setting_of mac d texts) m q site) (some_inj r.part q (sym r.found ∙ eq)) (deployed_at m site r)

  pub settled : IsTag mac → IsSoundSetting (setting_of mac d texts)
  settled tag =
      let s = acc in
      record {
        tag = tag_under d.secret mac tag;
        keys = s.keys ∙ sym s.nodes;
        sites = sites_long d.app.parts d.layouts d.providers texts (laid_long d 0 d.app.parts d.layouts s.laid) (s.providers ∙ sym s.parts) images.as_many;
        places = s.places ∙ sym s.devices;
        links = acc.few_links;
        windows = λ n. are_places d.app.devices d.places acc.few_devices s.words s.words_apart n;
        deployed = deployed_part;
        apart = apart_sites;
      }

  pub lawfully : IsTag mac → IsLawfulSetting (setting_of mac d texts)
  lawfully tag = record { tag = tag; sound = settled tag }
