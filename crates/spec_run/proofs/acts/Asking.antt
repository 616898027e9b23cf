-- What the deployer does keeps a run tied: asks, answers, and the keys that it gives.
use Rattle.std.proofs.Common.{◌≡◌, ◌≢◌, ℕ, suc, ◌+◌, ◌<◌, ◌≤◌, ◌⊎◌, inl}
use Rattle.std.proofs.Common.{inr, ◌==◌, Bool, true, false, if◌then◌else◌, List, [], ◌∷◌, ◌++◌}
use Rattle.std.proofs.Common.{length, Option, Some, None, refl, sym, ◌∙◌, ap, subst, arith}
use Rattle.std.specs.Prelude.{slice_get, slice_set, slice_index, is_some}
use Rattle.std.proofs.lemmas.Bool.{and_parts, cases_eq, eq-eqb}
use Rattle.std.proofs.lemmas.Option.{none-some}
use Rattle.std.specs.Option.{option_flatten}
use Rattle.sx_lang.specs.declared.sides.Side.TheVariants.{From, To}
use Rattle.sx_mean.specs.declared.events.End.{End}
use Rattle.sx_trace.specs.declared.items.Item.{Item}
use Rattle.sx_trace.specs.declared.items.Item.TheVariants as item
use Rattle.sx_ledger.specs.declared.entry.Maker.{Maker}
use Rattle.sx_ledger.specs.declared.entry.Maker.TheVariants as maker
use Rattle.spec_machine.specs.State.{State}
use Rattle.sx_mean.specs.Application.{PartTree, AppTree}
use Rattle.sx_mean.specs.Ends.{ends_of}
use Rattle.sx_model.specs.State.{Attestation}
use Rattle.sx_model.specs.order.State.{Standing, Model}
use Rattle.sx_mean.specs.declared.apps.Link.{Link}
use Rattle.spec_invocation.specs.ModuleState.{link_of, epoch_of}
use Rattle.sx_model.specs.Step.{is_vouched}
use Rattle.sx_model.specs.order.Step.{step}
use Rattle.sx_model.specs.Renewal.{may_attest, boot_of, renewed}
use Rattle.sx_tag.specs.Wrap.{wrapped}
use Rattle.spec_run.specs.Setting.{Site, Setting}
use Rattle.sx_wire.specs.Headers.{ask_packet, challenge_in, is_ask}
use Rattle.sx_wire.proofs.Numbers.{challenge_same}
use Rattle.spec_run.specs.Ledger.{Made, NO_TARGET, made_entry, is_made}
use Rattle.sx_deployer.specs.Granting.{DeployerState, Grant, after_ask, grants_of, grant_to, grant_beyond, grants_beyond, grants_after}
use Rattle.spec_run.specs.Deployer.{key_of, accepts, after_acceptance, set_key, set_key_entry}
use Rattle.spec_run.specs.State.{World, Acted}
use Rattle.spec_run.specs.Observation.{unless_made}
use Rattle.spec_run.specs.Acts.{then_, new_packet, with_deployer, ask, key_given, keys_given, attested, after_denial, after_verdict, after_answer}
use Rattle.spec_run.specs.Run.{line_counted}
use Rattle.spec_run.proofs.tie.Lists.{get_other, get_within, length_set, some_inj}
use Rattle.spec_run.proofs.tie.Entries.{made_behind}
use Rattle.spec_run.proofs.acts.Renewal.{renewed_grows, renewed_long, renewed_small, later_boot, higher_epoch, from_end, to_end}
use Rattle.spec_run.proofs.tie.Verdicts.{Going, judge, Fares, fares_then}
use Rattle.spec_run.proofs.tie.Tied.{KnownKey, Known, HasEnd, asked_as, DeployerTied, IsTimely, HasSent, IsSane, ModuleTied, Absent, Rests, Runs, Tied}
use Rattle.lemmas.proofs.Lists.{get_same, get_some}

-- the tag that answers an ask at a boot
abbrev pub expected : Setting → Site → ℕ → List ℕ → List ℕ
expected set site boot ask = (wrapped set.mac (key_of set site boot) ask []).tag

-- a standing with the same presence
pub same_presence : (set : Setting) (n m : ℕ) (q : PartTree) (site : Site) (s : State) (x y : Standing) (sent : List (List ℕ))
    → y.present ≡ x.present → ModuleTied set n m q site s x sent → ModuleTied set n m q site s y sent
same_presence set n m q site s x y sent e (Absent none f) = Absent (e ∙ none) f
same_presence set n m q site s x y sent e (Rests sec pr p i c pend h) = Rests sec pr (e ∙ p) i c pend h
same_presence set n m q site s x y sent e (Runs sec pr p i c u) = Runs sec pr (e ∙ p) i c u

-- packets don't matter
pub tied_packet : (set : Setting) (w : World) (mo : Model) (bytes : List ℕ) → Tied set w mo → Fares (judge set.app mo (new_packet w bytes).items) (Tied set (new_packet w bytes).world)
tied_packet set w mo bytes t = record {
  size = record {
    nodes = t.size.nodes;
    boots = t.size.boots;
    devices = t.size.devices;
    modules =
        t.size.modules;
    epochs = t.size.epochs;
    sent = t.size.sent;
    asks = t.size.asks;
    attested = t.size.attested;
  };
  nodes = t.nodes;
  devices = t.devices;
  modules = t.modules;
  asks = t.asks;
  few = t.few;
  short = t.short;
  recent = t.recent;
  deployer = t.deployer;
  epochs = t.epochs;
  ledger = t.ledger;
  sane = t.sane;
}

module _ (set : Setting) (w : World) (mo : Model) (m : ℕ) (x : Standing) (t : Tied set w mo) (there : slice_get mo.modules m ≡ Some x) where
  abbrev with_asked : ℕ → Standing
  with_asked a = record { present = x.present; asked = Some a; vouched = x.vouched; attested = x.attested }

  abbrev with_attested : Attestation → Standing
  with_attested a = record { present = x.present; asked = None; vouched = x.vouched; attested = Some a }

  abbrev model_with : Standing → List ℕ → ℕ → Model
  model_with y epochs asks = record { boots = mo.boots; devices = mo.devices; modules = slice_set mo.modules m y; epochs = epochs; sent = mo.sent; asks = asks }

  -- another module, or this one
  which : (y : Standing) (k : ℕ) (z : Standing) → slice_get (slice_set mo.modules m y) k ≡ Some z → ((k ≡ m) × (z ≡ y)) ⊎ ((k ≢ m) × (slice_get mo.modules k ≡ Some z))
  which y k z e = elim (cases_eq k m) [
    | inl same ↦ inl (same, some_inj z y (sym e ∙ subst (λ j. slice_get (slice_set mo.modules m y) j ≡ Some y) (sym same) (get_same mo.modules m y x there)))
    | inr ne ↦ inr (ne, sym (get_other mo.modules m k y ne) ∙ e)
  ]

  -- the module is attested, for a challenge that it vouched for, at a later boot than before and, where it was before, with higher epochs
  pub record Again (y : Standing) (epochs : List ℕ) : Type 0 where
    pub a : Attestation
    pub attested : y.attested ≡ Some a
    pub challenge : ℕ
    pub vow : is_vouched challenge a.boot x.vouched ≡ true
    pub floors : a.floors ≡ epochs
    pub later : (old : Attestation) → x.attested ≡ Some old → old.boot < a.boot
    pub higher : (old : Attestation) (c : ℕ) (l : Link) → x.attested ≡ Some old → slice_get set.app.links c ≡ Some l → l.from ≡ m → slice_index mo.epochs c < slice_index epochs c

  -- what changes at the deployer alone: epochs grow, and the module was attested as before or again
  pub record Changes (y : Standing) (epochs : List ℕ) : Type 0 where
    pub present : y.present ≡ x.present
    pub vouched : y.vouched ≡ x.vouched
    pub grows : (c : ℕ) → slice_index mo.epochs c ≤ slice_index epochs c
    pub small : (c : ℕ) → slice_index epochs c ≤ 255
    pub attested : (y.attested ≡ x.attested) ⊎ Again y epochs

  -- it stays attested, at this boot with these floors, or at a later one
  stays : (y : Standing) (epochs : List ℕ) → Changes y epochs → (old : Attestation) → x.attested ≡ Some old → (b : Attestation) × (y.attested ≡ Some b) × ((b ≡ old) ⊎ (old.boot < b.boot))
  stays y epochs ch old e = elim ch.attested [
    | inl same ↦ (old, same ∙ e, inl refl)
    | inr again ↦ (again.a, again.attested, inr (again.later old e))
  ]

  on_grown : (a b c : ℕ) → a ≤ b → b ≤ c → a ≤ c
  on_grown a b c h g = omega (arith, h, g)

  -- keys that were given stay known
  key_known : (y : Standing) (epochs : List ℕ) (asks : ℕ) → Changes y epochs → (e : Made) → KnownKey set.app mo e → KnownKey set.app (model_with y epochs asks) e
  key_known y epochs asks ch e h = elim (cases_eq e.target m) [
    | inl same ↦
        let hx : h.x ≡ x = some_inj h.x x (sym h.there ∙ subst (λ j. slice_get mo.modules j ≡ Some x) (sym same) there) in
        let s = stays y epochs ch h.a (sym (ap (λ (z : Standing). z.attested) hx) ∙ h.attested) in
        record {
          x = y;
          there = subst (λ j. slice_get (slice_set mo.modules m y) j ≡ Some y) (sym same) (get_same mo.modules m y x there);
          a = s.0;
          attested = s.1;
          older = older_still s.0 s.2;
          «end» = h.«end»;
          held = h.held;
          epoch = h.epoch;
          header = h.header;
          floor = λ now. floor_still s.0 s.2 now;
          given = on_grown h.epoch _ _ h.given (ch.grows h.«end».link);
        }
    | inr ne ↦ record {
      x = h.x;
      there = get_other mo.modules m e.target y ne ∙ h.there;
      a = h.a;
      attested = h.attested;
      older = h.older;
      «end» = h.«end»;
      held = h.held;
      epoch = h.epoch;
      header = h.header;
      floor = h.floor;
      given = on_grown h.epoch _ _ h.given (ch.grows h.«end».link);
    }
  ]
    where
      older_still : (b : Attestation) → ((b ≡ h.a) ⊎ (h.a.boot < b.boot)) → e.boot ≤ b.boot
      older_still b (inl s) = subst (λ (z : Attestation). e.boot ≤ z.boot) (sym s) h.older
      older_still b (inr lt) = let le = h.older in omega (arith, le, lt)

      floor_still : (b : Attestation) → ((b ≡ h.a) ⊎ (h.a.boot < b.boot)) → e.boot ≡ b.boot → slice_index b.floors h.«end».link ≤ h.epoch
      floor_still b (inl s) now = subst (λ (z : Attestation). slice_index z.floors h.«end».link ≤ h.epoch) (sym s) (h.floor (now ∙ ap (λ (z : Attestation). z.boot) s))
      floor_still b (inr lt) now = let le = h.older in absurd (omega (arith, le, lt, now))

  standing_known : (y : Standing) (epochs : List ℕ) (asks : ℕ) → Changes y epochs → (k : Maker) (e : Made) → Known set.app mo k e → Known set.app (model_with y epochs asks) k e
  standing_known y epochs asks ch maker.Deployer e h = key_known y epochs asks ch e h
  standing_known y epochs asks ch (maker.Module k) e h = (
    λ ask. let f = h.0 ask in elim (cases_eq k m) [
      | inl same ↦
          let fx : f.x ≡ x = some_inj f.x x (sym f.there ∙ subst (λ j. slice_get mo.modules j ≡ Some x) (sym same) there) in
          record {
            x = y;
            there = subst (λ j. slice_get (slice_set mo.modules m y) j ≡ Some y) (sym same) (get_same mo.modules m y x there);
            vouched = subst (λ vs. is_vouched (challenge_in e.header) e.boot vs ≡ true) (ap (λ (z : Standing). z.vouched) fx ∙ sym ch.vouched) f.vouched;
          }
      | inr ne ↦ record { x = f.x; there = get_other mo.modules m k y ne ∙ f.there; vouched = f.vouched }
    ],
    h.1,
  )

  -- the module itself
  timely_here : (y : Standing) (epochs : List ℕ) (boot : ℕ) → Changes y epochs → IsTimely (ends_of set.app m) x boot mo.epochs → IsTimely (ends_of set.app m) y boot epochs
  timely_here y epochs boot ch tx = record {
    vouched = λ c b h. elim (tx.vouched c b (subst (λ vs. is_vouched c b vs ≡ true) ch.vouched h)) [ inl lt ↦ inl lt | inr r ↦ inr (r.0, ap is_some ch.present ∙ r.1) ];
    attested = λ a h. at_boot a (elim ch.attested [ inl same ↦ tx.attested a (sym same ∙ h) | inr again ↦ again_at again a h ]);
    opened = λ pr c side n pe o.
        let g = tx.opened pr c side n (sym ch.present ∙ pe) o in
        elim ch.attested [
          | inl same ↦ (g.0, same ∙ g.1, g.2, on_grown n _ _ g.3 (ch.grows c))
          | inr again ↦ absurd (not_again again g.0 g.1 g.2)
        ];
  }
    where
      at_boot : (a : Attestation) → ((a.boot < boot) ⊎ ((a.boot ≡ boot) × (is_some x.present ≡ true))) → (a.boot < boot) ⊎ ((a.boot ≡ boot) × (is_some y.present ≡ true))
      at_boot a (inl lt) = inl lt
      at_boot a (inr r) = inr (r.0, ap is_some ch.present ∙ r.1)

      again_at : (g : Again y epochs) (a : Attestation) → y.attested ≡ Some a → (a.boot < boot) ⊎ ((a.boot ≡ boot) × (is_some x.present ≡ true))
      again_at g a h = subst (λ (z : Attestation). (z.boot < boot) ⊎ ((z.boot ≡ boot) × (is_some x.present ≡ true))) (some_inj g.a a (sym g.attested ∙ h)) (tx.vouched g.challenge g.a.boot g.vow)

      not_again : (g : Again y epochs) (a : Attestation) → x.attested ≡ Some a → a.boot ≡ boot → ⊥
      not_again g a e now = too_late (tx.vouched g.challenge g.a.boot g.vow) (g.later a e)
        where
          too_late : ((g.a.boot < boot) ⊎ ((g.a.boot ≡ boot) × (is_some x.present ≡ true))) → a.boot < g.a.boot → ⊥
          too_late (inl lt) l = absurd (omega (arith, lt, l, now))
          too_late (inr r) l = let r0 = r.0 in absurd (omega (arith, r0, l, now))

  -- another one
  timely_beside : (es : List End) (z : Standing) (boot : ℕ) (epochs : List ℕ) → ((c : ℕ) → slice_index mo.epochs c ≤ slice_index epochs c) → IsTimely es z boot mo.epochs → IsTimely es z boot epochs
  timely_beside es z boot epochs grows tz = record {
    vouched = tz.vouched;
    attested = tz.attested;
    opened = λ pr c side n pe o. let g = tz.opened pr c side n pe o in (g.0, g.1, g.2, on_grown n _ _ g.3 (grows c));
  }

  sent_here : (y : Standing) (epochs : List ℕ) (boot : ℕ) (es : List End) (c n : ℕ) (l : Link) → Changes y epochs
      → slice_get set.app.links c ≡ Some l → l.from ≡ m → HasSent es x boot mo.epochs c n → HasSent es y boot epochs c n
  sent_here y epochs boot es c n l ch lk own h = elim ch.attested [
    | inl same ↦ (h.0, same ∙ h.1, on_grown n _ _ h.2 (ch.grows c), elim h.3 [ inl past ↦ inl past | inr o ↦ inr (o.0, ch.present ∙ o.1, o.2) ])
    | inr again ↦ (again.a, again.attested, on_grown n _ _ h.2 (ch.grows c), inl (inl (subst (λ fs. n < slice_index fs c) (sym again.floors) (below n _ _ h.2 (again.higher h.0 c l h.1 lk own)))))
  ]
    where
      below : (a b d : ℕ) → a ≤ b → b < d → a < d
      below a b d h g = omega (arith, h, g)

  standing_sane : (y : Standing) (epochs : List ℕ) (asks : ℕ) → Changes y epochs → IsSane set.app (model_with y epochs asks)
  standing_sane y epochs asks ch = record {
    small = ch.small;
    timely = λ k q z boot pk zk bk. elim (which y k z zk) [
      | inl here ↦
          subst (λ j. IsTimely (ends_of set.app j) z boot epochs) (sym here.0) (subst (λ s. IsTimely (ends_of set.app m) s boot epochs) (sym here.1)
          (timely_here y epochs boot ch (t.sane.timely m q x boot (subst (λ j. slice_get set.app.parts j ≡ Some q) here.0 pk) there bk)))
      | inr else_ ↦ timely_beside (ends_of set.app k) z boot epochs ch.grows (t.sane.timely k q z boot pk else_.1 bk)
    ];
    unsent = λ f l q z boot words lk pk zk bk wk. elim (which y l.from z zk) [
      | inl here ↦
          elim (t.sane.unsent f l q x boot words lk pk (subst (λ j. slice_get mo.modules j ≡ Some x) (sym here.0) there) bk wk) [
            | inl none ↦ inl none
            | inr hs ↦ inr (subst (λ s. HasSent (ends_of set.app l.from) s boot epochs (link_of f) (epoch_of f))
                (sym here.1) (sent_here y epochs boot (ends_of set.app l.from) (link_of f) (epoch_of f) l ch lk here.0 hs))
          ]
      | inr else_ ↦
          elim (t.sane.unsent f l q z boot words lk pk else_.1 bk wk) [
            | inl none ↦ inl none
            | inr hs ↦ inr (hs.0, hs.1, on_grown (epoch_of f) _ _ hs.2 (ch.grows (link_of f)), hs.3)
          ]
    ];
  }

  -- the tie after it
  standing_tied : (y : Standing) (d : DeployerState) (lines : ℕ) → Changes y d.epochs
      → length d.open_asks ≡ length set.app.parts → length d.attested ≡ length set.app.parts → length d.epochs ≡ length set.app.links → d.asks ≤ lines → lines ≤ 65536 → mo.asks ≤ d.asks
      → ((a : ℕ) → y.asked ≡ Some a → a < d.asks)
      → ((ask : Option (List ℕ)) (at : Option ℕ) → slice_get d.open_asks m ≡ Some ask → slice_get d.attested m ≡ Some at → DeployerTied y ask at d.epochs)
      → ((k : ℕ) → k ≢ m → (slice_get d.open_asks k ≡ slice_get w.deployer.open_asks k) × (slice_get d.attested k ≡ slice_get w.deployer.attested k))
      → Tied set (record { nodes = w.nodes; packets = w.packets; deployer = d; ledger = w.ledger; lines = lines; steps = w.steps }) (model_with y d.epochs d.asks)
  standing_tied y d lines ch la lt le few short grow now mine others = record {
    size = record {
      nodes = t.size.nodes;
      boots = t.size.boots;
      devices = t.size.devices;
      modules = length_set mo.modules m y
          ∙ t.size.modules;
      epochs = le;
      sent = t.size.sent;
      asks = la;
      attested = lt;
    };
    nodes = t.nodes;
    devices = t.devices;
    modules = λ k q site s z pk sk nk zk. elim (which y k z zk) [
      | inl here ↦ same_presence set q.node k q site s x z mo.sent (ap (λ (g : Standing). g.present) here.1 ∙ ch.present)
          (t.modules k q site s x pk sk nk (subst (λ j. slice_get mo.modules j ≡ Some x) (sym here.0) there))
      | inr else_ ↦ t.modules k q site s z pk sk nk else_.1
    ];
    asks = refl;
    epochs = refl;
    few = few;
    short = short;
    recent = λ k z a zk ae. elim (which y k z zk) [
      | inl here ↦ now a (sym (ap (λ (g : Standing). g.asked) here.1) ∙ ae)
      | inr else_ ↦ omega (arith, grow, t.recent k z a else_.1 ae)
    ];
    deployer = λ k z ask at zk ak tk. elim (which y k z zk) [
      | inl here ↦ subst (λ (g : Standing). DeployerTied g ask at d.epochs) (sym here.1)
          (mine ask at (subst (λ j. slice_get d.open_asks j ≡ Some ask) here.0 ak) (subst (λ j. slice_get d.attested j ≡ Some at) here.0 tk))
      | inr else_ ↦
          let o = t.deployer k z ask at else_.1 (sym (others k else_.0).0 ∙ ak) (sym (others k else_.0).1 ∙ tk) in
          record { when_attested = o.when_attested; open_ask = o.open_ask; floors = λ a c e. on_grown _ _ _ (o.floors a c e) (ch.grows c) }
    ];
    ledger = λ e h. standing_known y d.epochs d.asks ch e.maker e (t.ledger e h);
    sane = standing_sane y d.epochs d.asks ch;
  }

  -- an ask
  pub asked_step : (a : ℕ) → a ≡ mo.asks → step set.app mo (item.Ask m a) ≡ Some (model_with (with_asked a) mo.epochs (mo.asks + 1))
  asked_step a e = rw (there, e, eq-eqb mo.asks mo.asks refl) refl

  asked_fares : (lines : w.lines < 65536) → Fares (judge set.app mo (ask (line_counted w) m).items) (Tied set (ask (line_counted w) m).world)
  asked_fares lines =
      let a = w.deployer.asks in
      let y = with_asked a in
      let d = after_ask w.deployer m in
      let w1 : World = record { nodes = w.nodes; packets = w.packets; deployer = d; ledger = w.ledger; lines = w.lines + 1; steps = w.steps } in
      let same : model_with y mo.epochs (mo.asks + 1) ≡ model_with y d.epochs d.asks = ap (λ n. model_with y mo.epochs (n + 1)) (sym t.asks) ∙ ap (λ es. model_with y es d.asks) (sym t.epochs) in
      let room : (o : Option (List ℕ)) × (slice_get w.deployer.open_asks m ≡ Some o) = get_some w.deployer.open_asks m (omega (arith, get_within mo.modules m x there, t.size.modules, t.size.asks)) in
      let ch : Changes y d.epochs = record {
        present = refl;
        vouched = refl;
        grows = λ c. subst (λ es. slice_index mo.epochs c ≤ slice_index es c) (sym t.epochs) (omega arith);
        small = λ c. subst (λ es. slice_index es c ≤ 255) (sym t.epochs) (t.sane.small c);
        attested = inl refl;
      } in
      let tied : Tied set w1 (model_with y d.epochs d.asks) =
      standing_tied y d (w.lines + 1) ch
      (length_set w.deployer.open_asks m (Some (ask_packet a)) ∙ t.size.asks) t.size.attested (ap length t.epochs ∙ t.size.epochs) (omega (arith, t.few)) (omega (arith, lines)) (omega (arith, t.asks))
      (λ b e. subst (λ z. z < a + 1) (some_inj a b e) (omega arith))
      (λ o at ok tk.
      let old = t.deployer m x room.0 at there room.1 tk in
      record {
        when_attested = old.when_attested;
        open_ask = some_inj o (Some (ask_packet a)) (sym ok ∙ get_same w.deployer.open_asks m (Some (ask_packet a)) room.0 room.1);
        floors = λ v c e. subst (λ es. slice_index v.floors c ≤ slice_index es c) (sym t.epochs) (old.floors v c e);
      })
      (λ k ne. (get_other w.deployer.open_asks m k (Some (ask_packet a)) ne, refl)) in
      fares_then set.app mo (item.Ask m a ∷ []) (item.Packet (length w.packets) (length (ask_packet a)) ∷ []) (Tied set w1) (Tied set (ask (line_counted w) m).world)
      (subst (λ (o : Option Model). Fares (Rattle.spec_run.proofs.tie.Verdicts.judge_on o (λ z. Going z)) (Tied set w1)) (sym (asked_step a t.asks ∙ ap Some same)) tied)
      (λ mo1 t1. tied_packet set w1 mo1 (ask_packet a) t1)

  -- an answer that is accepted
  attested_step : (a b : ℕ) → x.asked ≡ Some a → is_vouched a b x.vouched ≡ true → may_attest m set.app.links mo.epochs (boot_of x.attested) b ≡ true
      → (let epochs = renewed m set.app.links (boot_of x.attested) mo.epochs in
      step set.app mo (item.Attested m b) ≡ Some (model_with (with_attested (record { boot = b; floors = epochs })) epochs mo.asks))
  attested_step a b e v n = rw (there, e, v, n) refl

-- a key that may be given: for an end of a module, at the boot at which it was last attested, with an epoch from the floor on that the connection has
pub record MayGive (app : AppTree) (mo : Model) (g : Grant) : Type 0 where
  pub x : Standing
  pub there : slice_get mo.modules g.holder ≡ Some x
  pub a : Attestation
  pub attested : x.attested ≡ Some a
  pub now : g.boot ≡ a.boot
  pub held : HasEnd (ends_of app g.holder) g.«end»
  pub floor : slice_index a.floors g.«end».link ≤ g.epoch
  pub given : g.epoch ≤ slice_index mo.epochs g.«end».link

abbrev pub MayGiveAll : AppTree → Model → List Grant → Type 0
MayGiveAll app mo [] = Unit {0}
MayGiveAll app mo (g ∷ gs) = MayGive app mo g × MayGiveAll app mo gs

give_all : (app : AppTree) (mo : Model) (gs hs : List Grant) → MayGiveAll app mo gs → MayGiveAll app mo hs → MayGiveAll app mo (gs ++ hs)
give_all app mo [] hs a b = b
give_all app mo (g ∷ gs) hs a b = (a.0, give_all app mo gs hs a.1 b)

key_tied : (set : Setting) (w : World) (mo : Model) (g : Grant) → MayGive set.app mo g → Tied set w mo → Tied set (with_deployer w w.deployer (w.ledger ++ set_key_entry set g ∷ [])) mo
key_tied set w mo g may t = record {
  size = record {
    nodes = t.size.nodes;
    boots = t.size.boots;
    devices = t.size.devices;
    modules =
        t.size.modules;
    epochs = t.size.epochs;
    sent = t.size.sent;
    asks = t.size.asks;
    attested = t.size.attested;
  };
  nodes = t.nodes;
  devices = t.devices;
  modules = t.modules;
  asks = t.asks;
  few = t.few;
  short = t.short;
  recent = t.recent;
  deployer = t.deployer;
  epochs = t.epochs;
  ledger = λ k was. elim (made_behind w.ledger (set_key_entry set g) k was) [
    | inl old ↦ t.ledger k old
    | inr new ↦ subst (λ (z : Made). Known set.app mo z.maker z) (sym new)
        (record {
          x = may.x;
          there = may.there;
          a = may.a;
          attested = may.attested;
          older = le_of may.now;
          «end» = g.«end»;
          held = may.held;
          epoch = g.epoch;
          header = refl;
          floor = λ _. may.floor;
          given = may.given;
        })
  ];
  sane = t.sane;
}
  where
    le_of : {a b : ℕ} → a ≡ b → a ≤ b
    le_of e = omega (arith, e)

keys_fares : (set : Setting) (gs : List Grant) (w : World) (mo : Model) → MayGiveAll set.app mo gs
    → Tied set w mo → Fares (judge set.app mo (keys_given set gs w).items) (Tied set (keys_given set gs w).world)
keys_fares set [] w mo may t = t
keys_fares set (g ∷ gs) w mo may t = one (slice_get set.sites g.holder) (λ v tv. keys_fares set gs v mo may.1 tv)
  where
    one : (o : Option Site) → ((v : World) → Tied set v mo → Fares (judge set.app mo (keys_given set gs v).items) (Tied set (keys_given set gs v).world))
        → Fares (judge set.app mo (then_ (key_given set w g o) (keys_given set gs)).items) (Tied set (then_ (key_given set w g o) (keys_given set gs)).world)
    one None rest = rest w t
    one (Some site) rest =
        let w1 = with_deployer w w.deployer (w.ledger ++ set_key_entry set g ∷ []) in
        rest (new_packet w1 (set_key set site g)).world (tied_packet set w1 mo (set_key set site g) (key_tied set w mo g may.0 t))

-- the keys that follow an answer may be given
module _ (set : Setting) (w : World) (mo : Model) (t : Tied set w mo) where
  give_own : (m : ℕ) (y : Standing) (a : Attestation) → slice_get mo.modules m ≡ Some y → y.attested ≡ Some a → a.floors ≡ w.deployer.epochs
      → (es : List End) → ((e : End) → HasEnd es e → HasEnd (ends_of set.app m) e) → MayGiveAll set.app mo (grants_of w.deployer.epochs m a.boot es)
  give_own m y a there at fs [] has = tt
  give_own m y a there at fs (e ∷ es) has = (
    record {
      x = y;
      there = there;
      a = a;
      attested = at;
      now = refl;
      held = has e (inl refl);
      floor = subst (λ z. slice_index z e.link ≤ slice_index w.deployer.epochs e.link) (sym fs) (omega arith);
      given = subst (λ z. slice_index w.deployer.epochs e.link ≤ slice_index z e.link) t.epochs (omega arith);
    },
    give_own m y a there at fs es (λ g h. has g (inr h)),
  )

  boot_parts : (o : Option Attestation) (boot : ℕ) → Some boot ≡ boot_of o → (a : Attestation) × (o ≡ Some a) × (boot ≡ a.boot)
  boot_parts None boot e = absurd cc
  boot_parts (Some a) boot e = (a, refl, cc)

  give_to : (k : ℕ) (e : End) (o : Option (Option ℕ)) → slice_get w.deployer.attested k ≡ o → HasEnd (ends_of set.app k) e → MayGiveAll set.app mo (grant_to w.deployer.epochs k o e)
  give_to k e None at has = tt
  give_to k e (Some None) at has = tt
  give_to k e (Some (Some boot)) at has =
      let within = get_within w.deployer.attested k (Some boot) at in
      let x : (x : Standing) × (slice_get mo.modules k ≡ Some x) = get_some mo.modules k (omega (arith, within, t.size.modules, t.size.attested)) in
      let ask : (o : Option (List ℕ)) × (slice_get w.deployer.open_asks k ≡ Some o) = get_some w.deployer.open_asks k (omega (arith, within, t.size.asks, t.size.attested)) in
      let d = t.deployer k x.0 ask.0 (Some boot) x.1 ask.1 at in
      let a = boot_parts x.0.attested boot d.when_attested in (
        record {
          x = x.0;
          there = x.1;
          a = a.0;
          attested = a.1;
          now = a.2;
          held = has;
          floor = subst (λ z. slice_index a.0.floors e.link ≤ slice_index z e.link) (sym t.epochs) (d.floors a.0 e.link a.1);
          given = subst (λ z. slice_index w.deployer.epochs e.link ≤ slice_index z e.link) t.epochs (omega arith);
        },
        tt,
      )

  give_if : (b : Bool) (gs hs : List Grant) → MayGiveAll set.app mo gs → MayGiveAll set.app mo hs → MayGiveAll set.app mo (if b then gs else hs)
  give_if true gs hs x y = x
  give_if false gs hs x y = y

  give_beyond : (m n : ℕ) (ls : List Link) → ((k : ℕ) (l : Link) → slice_get ls k ≡ Some l → slice_get set.app.links (n + k) ≡ Some l) → MayGiveAll set.app mo (grants_beyond w.deployer m n ls)
  give_beyond m n [] f = tt
  give_beyond m n (l ∷ ls) f =
      let here : slice_get set.app.links n ≡ Some l = subst (λ k. slice_get set.app.links k ≡ Some l) (omega arith) (f 0 l refl) in
      give_all set.app mo (grant_beyond w.deployer m n l) (grants_beyond w.deployer m (n + 1) ls)
      (give_if (l.from == l.to) [] _ tt
      (give_if (l.from == m) _ _ (give_to l.to (record { link = n; side = To; port = l.input }) (slice_get w.deployer.attested l.to) refl (to_end set.app n l here))
      (give_if (l.to == m) _ [] (give_to l.from (record { link = n; side = From; port = l.output }) (slice_get w.deployer.attested l.from) refl (from_end set.app n l here)) tt)))
      (give_beyond m (n + 1) ls (λ k j e. subst (λ i. slice_get set.app.links i ≡ Some j) (omega arith) (f (suc k) j e)))

  pub give_after : (m : ℕ) (y : Standing) (a : Attestation) (last : Option ℕ) → slice_get mo.modules m ≡ Some y
      → y.attested ≡ Some a → a.floors ≡ w.deployer.epochs → MayGiveAll set.app mo (grants_after set.app w.deployer m a.boot last)
  give_after m y a None there at fs = give_own m y a there at fs (ends_of set.app m) (λ e h. h)
  give_after m y a (Some last) there at fs =
      give_all set.app mo (grants_of w.deployer.epochs m a.boot (ends_of set.app m)) (grants_beyond w.deployer m 0 set.app.links)
      (give_own m y a there at fs (ends_of set.app m) (λ e h. h)) (give_beyond m 0 set.app.links (λ k l e. subst (λ i. slice_get set.app.links i ≡ Some l) (omega arith) e))

module _ (set : Setting) (w : World) (mo : Model) (m : ℕ) (site : Site) (boot : ℕ) (answer : List ℕ) (t : Tied set w mo) where
  unless_fares : (b : Bool) (i : Item) (rest : List Item) (good : Model → Type 0) → (b ≡ true → Fares (judge set.app mo (i ∷ rest)) good) → Fares (judge set.app mo (unless_made None b i ++ rest)) good
  unless_fares true i rest good f = f refl
  unless_fares false i rest good f = tt

  head_fares : (m2 b : ℕ) (mo1 : Model) (rest : List Item) (good : Model → Type 0) → step set.app mo (item.Attested m2 b) ≡ Some mo1
      → Fares (judge set.app mo1 rest) good → Fares (judge set.app mo (item.Attested m2 b ∷ rest)) good
  head_fares m2 b mo1 rest good e f = rw e f

  accepted_fares : (ask : List ℕ) (x : Standing) (a : ℕ) (last : Option ℕ) → slice_get mo.modules m ≡ Some x
      → last ≡ boot_of x.attested → may_attest m set.app.links w.deployer.epochs last boot ≡ true → x.asked ≡ Some a → ask ≡ ask_packet a
      → Fares (judge set.app mo (attested set w m boot ask last).items) (Tied set (attested set w m boot ask last).world)
  accepted_fares ask x a last there was_last may asked_a same =
      let d = after_acceptance set.app.links w.deployer m boot last in
      let w1 = with_deployer w d w.ledger in
      let entry : Made = made_entry (maker.Module m) NO_TARGET boot ask [] in
      let rest = keys_given set (grants_after set.app d m boot last) w1 in
      let new : Attestation = record { boot = boot; floors = d.epochs } in
      let y : Standing = record { present = x.present; asked = None; vouched = x.vouched; attested = Some new } in
      let mo1 : Model = record { boots = mo.boots; devices = mo.devices; modules = slice_set mo.modules m y; epochs = d.epochs; sent = mo.sent; asks = mo.asks } in
      unless_fares (is_made w.ledger entry) (item.Attested m boot) rest.items (Tied set rest.world) (λ was.
      let lt : a < 65536 = omega (arith, t.recent m x a there asked_a, t.asks, t.few, t.short) in
      let ask_is : is_ask ask ≡ true = subst (λ z. is_ask z ≡ true) (sym same) refl in
      let v = (t.ledger entry was).0 ask_is in
      let vx : v.x ≡ x = some_inj v.x x (sym v.there ∙ there) in
      let vow : is_vouched a boot x.vouched ≡ true =
      subst (λ c. is_vouched c boot x.vouched ≡ true) (ap challenge_in same ∙ challenge_same a (omega (arith, lt))) (subst (λ (z : Standing). is_vouched (challenge_in ask) boot z.vouched ≡ true) vx v.vouched) in
      let may2 : may_attest m set.app.links mo.epochs (boot_of x.attested) boot ≡ true =
      subst (λ o. may_attest m set.app.links mo.epochs o boot ≡ true) was_last (subst (λ es. may_attest m set.app.links es last boot ≡ true) t.epochs may) in
      let epochs : d.epochs ≡ renewed m set.app.links (boot_of x.attested) mo.epochs = ap
      (λ o. renewed m set.app.links o w.deployer.epochs) was_last ∙ ap (λ es. renewed m set.app.links (boot_of x.attested) es) t.epochs in
      let ch : Changes set w mo m x t there y d.epochs = record {
        present = refl;
        vouched = refl;
        grows = λ c. subst (λ es. slice_index mo.epochs c ≤ slice_index es c) (sym epochs) (renewed_grows m set.app.links (boot_of x.attested) mo.epochs c);
        small = λ c. subst (λ es. slice_index es c ≤ 255) (sym epochs) (renewed_small m set.app.links (boot_of x.attested) mo.epochs boot may2 t.sane.small c);
        attested = inr (record {
          a = new;
          attested = refl;
          challenge = a;
          vow = vow;
          floors = refl;
          later = λ old e. later_boot m set.app.links x.attested mo.epochs boot old may2 e;
          higher = λ old c l e lk own. subst (λ es. slice_index mo.epochs c < slice_index es c) (sym epochs) (higher_epoch m set.app.links x.attested mo.epochs old c l e lk own t.size.epochs);
        });
      } in
      let room : (o : Option ℕ) × (slice_get w.deployer.attested m ≡ Some o) = get_some w.deployer.attested m (omega (arith, get_within mo.modules m x there, t.size.modules, t.size.attested)) in
      let room2 : (o : Option (List ℕ)) × (slice_get w.deployer.open_asks m ≡ Some o) = get_some w.deployer.open_asks m (omega (arith, get_within mo.modules m x there, t.size.modules, t.size.asks)) in
      let t1 : Tied set w1 mo1 =
      subst (λ n. Tied set w1 (record { boots = mo.boots; devices = mo.devices; modules = slice_set mo.modules m y; epochs = d.epochs; sent = mo.sent; asks = n })) t.asks
      (standing_tied set w mo m x t there y d w.lines ch
      (length_set w.deployer.open_asks m None ∙ t.size.asks) (length_set w.deployer.attested m (Some boot) ∙ t.size.attested)
      (renewed_long m set.app.links last w.deployer.epochs ∙ ap length t.epochs ∙ t.size.epochs)
      t.few t.short (omega (arith, t.asks))
      (λ b e. absurd (none-some b e))
      (λ o at ok tk. record {
        when_attested = some_inj at (Some boot) (sym tk ∙ get_same w.deployer.attested m (Some boot) room.0 room.1);
        open_ask = some_inj o None (sym ok ∙ get_same w.deployer.open_asks m None room2.0 room2.1);
        floors = λ b c e. subst (λ (z : Attestation). slice_index z.floors c ≤ slice_index d.epochs c) (some_inj new b e) (omega arith);
      })
      (λ k ne. (get_other w.deployer.open_asks m k None ne, get_other w.deployer.attested m k (Some boot) ne))) in
      let step1 : step set.app mo (item.Attested m boot) ≡ Some mo1 =
      attested_step set w mo m x t there a boot asked_a vow may2
      ∙ ap (λ es. Some (record {
        boots = mo.boots;
        devices = mo.devices;
        modules = slice_set mo.modules m
            (record { present = x.present; asked = None; vouched = x.vouched; attested = Some (record { boot = boot; floors = es }) });
        epochs = es;
        sent = mo.sent;
        asks = mo.asks;
      })) (sym epochs) in
      head_fares m boot mo1 rest.items (Tied set rest.world) step1
      (keys_fares set (grants_after set.app d m boot last) w1 mo1 (give_after set w1 mo1 t1 m y new last (get_same mo.modules m y x there) refl refl) t1))

  asked_parts : (o : Option ℕ) (ask : List ℕ) → ◌≡◌ {A = Option (List ℕ)} (Some ask) (asked_as o) → (a : ℕ) × (o ≡ Some a) × (ask ≡ ask_packet a)
  asked_parts None ask e = absurd cc
  asked_parts (Some a) ask e = (a, refl, cc)

  open_parts : (o : Option (Option (List ℕ))) (ask : List ℕ) → option_flatten o ≡ Some ask → o ≡ Some (Some ask)
  open_parts None ask e = absurd cc
  open_parts (Some p) ask e = ap Some e

  answered_if : (b : Bool) (x y : Acted) → (b ≡ true → Fares (judge set.app mo x.items) (Tied set x.world)) → Fares (judge set.app mo y.items) (Tied set y.world)
      → Fares (judge set.app mo (if b then x else y).items) (Tied set (if b then x else y).world)
  answered_if true x y f g = f refl
  answered_if false x y f g = g

  judged_fares : (o : Option (List ℕ)) → option_flatten (slice_get w.deployer.open_asks m) ≡ o
      → Fares (judge set.app mo (after_verdict set w m site boot answer o).items) (Tied set (after_verdict set w m site boot answer o).world)
  judged_fares None e = t
  judged_fares (Some ask) e =
      let last = option_flatten (slice_get w.deployer.attested m) in
      answered_if (accepts set site w.deployer m boot answer (Some ask) last) (attested set w m boot ask last) (after_denial w m) (λ ok.
      let p = open_parts (slice_get w.deployer.open_asks m) ask e in
      let within = get_within w.deployer.open_asks m (Some ask) p in
      let x : (x : Standing) × (slice_get mo.modules m ≡ Some x) = get_some mo.modules m (omega (arith, within, t.size.modules, t.size.asks)) in
      let at : (at : Option ℕ) × (slice_get w.deployer.attested m ≡ Some at) = get_some w.deployer.attested m (omega (arith, within, t.size.attested, t.size.asks)) in
      let d = t.deployer m x.0 (Some ask) at.0 x.1 p at.1 in
      let a = asked_parts x.0.asked ask d.open_ask in
      accepted_fares ask x.0 a.0 last x.1 (ap option_flatten at.1 ∙ d.when_attested) (and_parts _ (may_attest m set.app.links w.deployer.epochs last boot) ok).1 a.1 a.2) t

  pub answered_fares : Fares (judge set.app mo (after_answer set w m boot (Some site) (Some answer)).items) (Tied set (after_answer set w m boot (Some site) (Some answer)).world)
  answered_fares = judged_fares (option_flatten (slice_get w.deployer.open_asks m)) refl

-- an ask of a module of the application
pub ask_fares : (set : Setting) (w : World) (m : ℕ) → m < length set.app.parts → w.lines < 65536 → (mo : Model)
    → Tied set w mo → Fares (judge set.app mo (ask (line_counted w) m).items) (Tied set (ask (line_counted w) m).world)
ask_fares set w m lt lines mo t =
    let x : (x : Standing) × (slice_get mo.modules m ≡ Some x) = get_some mo.modules m (omega (arith, lt, t.size.modules)) in
    asked_fares set w mo m x.0 t x.1 lines
