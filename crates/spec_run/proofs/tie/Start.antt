-- At power-on the world and the source are tied.
use Rattle.std.proofs.Common.{◌≡◌, ℕ, zero, suc, ◌+◌, ◌≤◌, inl, true, false, List, [], ◌∷◌, length, map, replicate, Option, Some, None, refl, sym, ◌∙◌, ap, subst, arith}
use Rattle.std.specs.Prelude.{slice_get, slice_index}
use Rattle.std.proofs.lemmas.Bool.{true≢false}
use Rattle.std.proofs.lemmas.List.{length-map}
use Rattle.sx_bus.specs.declared.devices.Kind.{Kind}
use Rattle.sx_bus.specs.declared.devices.Window.{Window}
use Rattle.sx_bus.specs.Devices.{powered_on}
use Rattle.spec_machine.specs.State.{State, power_on as node_on}
use Rattle.sx_model.specs.State.{Reading, FIELDS}
use Rattle.sx_model.specs.order.State.{power_on, Standing}
use Rattle.sx_mean.specs.Application.{AppTree}
use Rattle.sx_model.specs.Renewal.{boot_of}
use Rattle.sx_mean.specs.declared.apps.Link.{Link}
use Rattle.sx_bus.proofs.Changed.{HaveSamples-powered_on}
use Rattle.spec_run.specs.Setting.{Setting, windows_at, device_number}
use Rattle.spec_run.specs.State.{nodes_from, switched_on}
use Rattle.spec_machine.specs.Node.{IsNode}
use Rattle.spec_run.specs.Law.{IsSoundSetting, devices_of}
use Rattle.spec_run.proofs.tie.Lists.{some_inj}
use Rattle.spec_run.proofs.steps.Entry.{shapes_on}
use Rattle.spec_run.proofs.steps.Nodes.{zeros_long}
use Rattle.spec_run.proofs.tie.Tied.{NodeTied, Absent, Tied}

get_map : {X Y : Type 0} → (f : X → Y) (xs : List X) (k : ℕ) (y : Y) → slice_get (map f xs) k ≡ Some y → (x : X) × (slice_get xs k ≡ Some x) × (y ≡ f x)
get_map f [] k y e = absurd cc
get_map f (x ∷ xs) zero y e = (x, refl, sym (some_inj (f x) y e))
get_map f (x ∷ xs) (suc k) y e = get_map f xs k y e

pub get_nodes : (set : Setting) (i : ℕ) (keys : List (List ℕ)) (n : ℕ) (s : State) → slice_get (nodes_from set i keys) n ≡ Some s → (key : List ℕ) × (s ≡ node_on key (devices_of set (i + n)))
get_nodes set i [] n s e = absurd cc
get_nodes set i (key ∷ keys) zero s e = (key, sym (some_inj _ s e) ∙ ap (λ j. node_on key (devices_of set j)) (omega arith))
get_nodes set i (key ∷ keys) (suc n) s e = let r = get_nodes set (i + 1) keys n s e in (r.0, r.1 ∙ ap (λ j. node_on r.0 (devices_of set j)) (omega arith))

pub nodes_long : (set : Setting) (i : ℕ) (keys : List (List ℕ)) → length (nodes_from set i keys) ≡ length keys
nodes_long set i [] = refl
nodes_long set i (key ∷ keys) = ap suc (nodes_long set (i + 1) keys)

get_powered : (xs : List (ℕ × Kind)) (k : ℕ) (w : Window) → slice_get (powered_on xs) k ≡ Some w → (w.value ≡ 0) × (w.fresh ≡ false)
get_powered [] k w e = absurd cc
get_powered (x ∷ xs) zero w e = (sym (ap (λ (z : Window). z.value) (some_inj _ w e)), sym (ap (λ (z : Window). z.fresh) (some_inj _ w e)))
get_powered (x ∷ xs) (suc k) w e = get_powered xs k w e

get_zero : (n k v : ℕ) → slice_get (replicate n 0) k ≡ Some v → v ≡ 0
get_zero zero k v e = absurd cc
get_zero (suc n) zero v e = sym (some_inj 0 v e)
get_zero (suc n) (suc k) v e = get_zero n k v e

pub on_is_node : (set : Setting) (n : ℕ) (key : List ℕ) → IsSoundSetting set → IsNode (node_on key (devices_of set n))
on_is_node set n key sound = Rattle.spec_machine.proofs.Stays.power_on_is_node key (devices_of set n) (sound.windows n) (HaveSamples-powered_on (windows_at n set.app.devices set.places))

abbrev new_standing : Standing
new_standing = record { present = None; asked = None; vouched = []; attested = None }

standing_is : (app : AppTree) (m : ℕ) (x : Standing) → slice_get (power_on app).modules m ≡ Some x → x ≡ new_standing
standing_is app m x e = (get_map (λ p. new_standing) app.parts m x e).2

none_is : {X : Type 0} → (v : X) → ◌≡◌ {A = Option X} None (Some v) → ⊥
none_is v e = cc

blank_sent : (n : ℕ) → length (replicate {A = List ℕ} n []) ≡ n
blank_sent zero = refl
blank_sent (suc n) = ap suc (blank_sent n)

pub get_blank : (n k : ℕ) (words : List ℕ) → slice_get (replicate n []) k ≡ Some words → words ≡ []
get_blank zero k words e = absurd cc
get_blank (suc n) zero words e = sym (some_inj [] words e)
get_blank (suc n) (suc k) words e = get_blank n k words e

pub zero_epochs : (ls : List Link) (c : ℕ) → slice_index (map (λ l. 0) ls) c ≡ 0
zero_epochs [] c = refl
zero_epochs (l ∷ ls) zero = refl
zero_epochs (l ∷ ls) (suc c) = zero_epochs ls c

pub starts_tied : (set : Setting) → IsSoundSetting set → Tied set (switched_on set) (power_on set.app)
starts_tied set sound = record {
  size = record {
    nodes = nodes_long set 0 set.keys ∙ sound.keys;
    boots = zeros_long set.app.nodes;
    devices = length-map set.app.devices _;
    modules = length-map set.app.parts _;
    epochs = length-map set.app.links _;
    sent = blank_sent FIELDS;
    asks = length-map set.app.parts _;
    attested = length-map set.app.parts _;
  };
  nodes = λ n s boot sk bk.
      let r = get_nodes set 0 set.keys n s sk in
      let same : s ≡ node_on r.0 (devices_of set n) = r.1 ∙ ap (λ j. node_on r.0 (devices_of set j)) (omega arith) in
      let b = get_zero set.app.nodes n boot bk in
      subst (λ z. NodeTied set n z boot) (sym same) (record { windows = shapes_on (windows_at n set.app.devices set.places); node = on_is_node set n r.0 sound; runner = inl refl; count = sym b });
  devices = λ n k s x r sk xk rk.
      let g = get_nodes set 0 set.keys n s sk in
      let p = get_powered (windows_at (0 + n) set.app.devices set.places) k x (subst (λ (z : State). slice_get z.devices k ≡ Some x) g.1 xk) in
      let q = (get_map (λ d. record { value = 0; fresh = false }) set.app.devices (device_number set.app n k) r rk).2 in
      record { value = ap (λ (z : Reading). z.value) q ∙ sym p.0; fresh = ap (λ (z : Reading). z.fresh) q ∙ sym p.1 };
  modules = λ m q site s x pk sk nk xk.
      let g = get_nodes set 0 set.keys q.node s nk in
      Absent (ap (λ (z : Standing). z.present) (standing_is set.app m x xk)) (λ sec l. absurd (subst (λ (z : State). Rattle.sx_rules.specs.Access.Lives z.sections.live sec) g.1 l));
  asks = refl;
  epochs = refl;
  few = omega arith;
  short = omega arith;
  recent = λ m x a xk ae. absurd (none_is a (sym (ap (λ (z : Standing). z.asked) (standing_is set.app m x xk)) ∙ ae));
  deployer = λ m x ask at xk ak tk.
      let e = standing_is set.app m x xk in
      let a = (get_map (λ p. None) set.app.parts m ask ak).2 in
      let b = (get_map (λ p. None) set.app.parts m at tk).2 in
      record {
        when_attested = b ∙ sym (ap (λ (z : Standing). boot_of z.attested) e);
        open_ask = a ∙ sym (ap (λ (z : Standing). Rattle.spec_run.proofs.tie.Tied.asked_as z.asked) e);
        floors = λ v c h. absurd (none_is v (sym (ap (λ (z : Standing). z.attested) e) ∙ h));
      };
  ledger = λ e h. absurd (true≢false (sym h));
  sane = record {
    small = λ c. subst (λ n. n ≤ 255) (sym (zero_epochs set.app.links c)) (omega arith);
    timely = λ m q x boot pk xk bk.
        let e = standing_is set.app m x xk in
        record {
          vouched = λ a b h. absurd (true≢false (sym (subst (λ (z : Standing). Rattle.sx_model.specs.Step.is_vouched a b z.vouched ≡ true) e h)));
          attested = λ b h. absurd (none_is b (sym (ap (λ (z : Standing). z.attested) e) ∙ h));
          opened = λ pr c side n h o. absurd (none_is pr (sym (ap (λ (z : Standing). z.present) e) ∙ h));
        };
    unsent = λ c l q x boot words lk pk xk bk wk. inl (get_blank FIELDS c words wk);
  };
}
