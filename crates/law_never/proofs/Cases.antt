-- What holds after an allowed item, by kinds.
use Rattle.std.proofs.Common.{◌≡◌, ℕ, ◌+◌, ◌*◌, ◌/◌, ◌%◌, ◌==◌, ◌&&◌, ◌||◌, not, Bool, true, false, if◌then◌else◌, List, [], ◌∷◌, ◌++◌, Option, Some, None}
use Rattle.std.proofs.Common.{subst}
use Rattle.std.specs.Prelude.{IfSome, is_none, nat_le, slice_get}
use Rattle.std.proofs.lemmas.Bool.{and_parts}
use Rattle.sx_lang.specs.declared.sides.Side.TheVariants.{To}
use Rattle.sx_mean.specs.declared.apps.AppDevice.{AppDevice}
use Rattle.sx_mean.specs.declared.apps.Link.{Link}
use Rattle.sx_mean.specs.declared.events.SourceEvent.TheVariants as event
use Rattle.sx_mean.specs.Application.{AppTree, PartTree, is_sensor}
use Rattle.sx_mean.specs.Ends.{ends_of}
use Rattle.sx_trace.specs.declared.items.Item.TheVariants.{Protect, Sense, Drain, Ask, Attested, Vouch, Take, Raw, Done}
use Rattle.sx_model.specs.State.{EndView, Model, Pending, Present, Reading, Standing, contains}
use Rattle.sx_model.specs.Renewal.{boot_of, may_attest, renewed, takes}
use Rattle.sx_model.specs.Step.{changed_views, first_present, idle, is_nothing, is_vouched, kind_is, reacts}
use Rattle.sx_model.specs.Step.{step, is_undriven, waits, with_device, with_present, with_standing}
use Rattle.sx_model.specs.Changes.{with_pending}
use Rattle.sx_model.proofs.Steps.{looked_up, tested}

chosen : (b : Bool) (o p : Option Model) (Q : Model → Type 0) → IfSome o Q → IfSome p Q → IfSome (if b then o else p) Q
chosen true o p Q f g = f
chosen false o p Q f g = g

pub on_protect : (app : AppTree) (s : Model) (Q : Model → Type 0) (n m : ℕ)
    → ((q : PartTree) (x : Standing) → slice_get app.parts m ≡ Some q → slice_get s.modules m ≡ Some x → is_none x.present ≡ true → Q (with_present s m x (first_present q.tree (ends_of app m))))
    → IfSome (step app s (Protect n (Some m))) Q
on_protect app s Q n m h =
    looked_up (slice_get app.parts m) _ _ (λ q eq. looked_up (slice_get s.modules m) _ _
    (λ x ex. tested ((q.node == n) && is_none x.present) _ _ (λ b. h q x eq ex (and_parts (q.node == n) (is_none x.present) b).1)))

pub on_sense : (app : AppTree) (s : Model) (Q : Model → Type 0) (d v : ℕ) → Q (with_device s d (record { value = v; fresh = true })) → IfSome (step app s (Sense d v)) Q
on_sense app s Q d v h = looked_up (slice_get app.devices d) _ _ (λ w _. tested (is_sensor w.kind) _ _ (λ _. h))

-- a sensor of the application
abbrev IsSensor : AppTree → ℕ → Type 0
IsSensor app d = (x : AppDevice) × (slice_get app.devices d ≡ Some x) × (is_sensor x.kind ≡ true)

-- what gets a value is one
pub sensed_device : (app : AppTree) (s : Model) (d v : ℕ) (n : Model) → step app s (Sense d v) ≡ Some n → IsSensor app d
sensed_device app s d v n is =
    subst (λ (r : Option Model). IfSome r (λ _. IsSensor app d)) is
    (looked_up (slice_get app.devices d) _ (λ _. IsSensor app d) (λ w found. tested (is_sensor w.kind) _ (λ _. IsSensor app d) (λ sensor. (w, found, sensor))))

pub on_drain : (app : AppTree) (s : Model) (Q : Model → Type 0) (d : ℕ) → ((r : Reading) → Q (with_device s d (record r { fresh = false }))) → IfSome (step app s (Drain d)) Q
on_drain app s Q d h =
    looked_up (slice_get s.devices d) _ _ (λ r _. tested (r.fresh && (kind_is is_sensor (slice_get app.devices d) && is_undriven app.parts s.modules d)) _ _ (λ _. h r))

pub on_ask : (app : AppTree) (s : Model) (Q : Model → Type 0) (m a : ℕ)
    → ((x : Standing) → slice_get s.modules m ≡ Some x → Q (with_standing (record s { asks = s.asks + 1 }) m (record x { asked = Some a }))) → IfSome (step app s (Ask m a)) Q
on_ask app s Q m a h = looked_up (slice_get s.modules m) _ _ (λ x ex. tested (a == s.asks) _ _ (λ _. h x ex))

-- the state after an attestation
abbrev pub attested_at : AppTree → Model → ℕ → ℕ → Standing → Model
attested_at app s m b x =
    let epochs = renewed m app.links (boot_of x.attested) s.epochs in
    with_standing (record s { epochs = epochs }) m (record x { asked = None; attested = Some (record { boot = b; floors = epochs }) })

pub on_attested : (app : AppTree) (s : Model) (Q : Model → Type 0) (m b : ℕ) → ((x : Standing) → slice_get s.modules m ≡ Some x → Q (attested_at app s m b x))
    → IfSome (step app s (Attested m b)) Q
on_attested app s Q m b h =
    looked_up (slice_get s.modules m) _ _ (λ x ex. looked_up x.asked _ _ (λ a _.
    tested (is_vouched a b x.vouched && may_attest m app.links s.epochs (boot_of x.attested) b) _ _ (λ _. h x ex)))

-- the state after a vouch
abbrev pub vouched_at : Model → ℕ → ℕ → Standing → Present → ℕ → Model
vouched_at s m a x p boot = with_standing s m (record x {
  present = Some (with_pending p (Some (record { emits = []; pieces = 1 })));
  vouched = x.vouched ++ record { challenge = a; boot = boot } ∷ [];
})

pub on_vouch : (app : AppTree) (s : Model) (Q : Model → Type 0) (m a : ℕ)
    → ((x : Standing) (p : Present) (boot : ℕ) → slice_get s.modules m ≡ Some x → idle x ≡ Some p → Q (vouched_at s m a x p boot)) → IfSome (step app s (Vouch m a)) Q
on_vouch app s Q m a h =
    looked_up (slice_get app.parts m) _ _ (λ q _. looked_up (slice_get s.modules m) _ _ (λ x ex. looked_up (idle x) _ _ (λ p ep.
    looked_up (slice_get s.boots q.node) _ _ (λ boot _. h x p boot ex ep))))

abbrev pub OnTaken : AppTree → Model → (Model → Type 0) → ℕ → ℕ → ℕ → ℕ → Type 0
OnTaken app s Q m c i v =
    (q : PartTree) (x : Standing) (p : Present) (l : Link) (words : List ℕ) (views : List EndView) → slice_get app.parts m ≡ Some q → slice_get s.modules m ≡ Some x
    → idle x ≡ Some p → slice_get app.links c ≡ Some l → slice_get s.sent (c + 256 * (i / 65536)) ≡ Some words
    → changed_views (takes (i / 65536) (i % 65536)) c To (ends_of app m) p.ends ≡ Some views → contains (slice_get words (i % 65536)) v ≡ true
    → Q (reacts app s m q x (record p { ends = views }) (event.Input l.input v))

pub on_taken : (app : AppTree) (s : Model) (Q : Model → Type 0) (m c i v : ℕ) → OnTaken app s Q m c i v → IfSome (step app s (Take m c i v)) Q
on_taken app s Q m c i v h =
    looked_up (slice_get app.parts m) _ _ (λ q eq. looked_up (slice_get s.modules m) _ _ (λ x ex. looked_up (idle x) _ _ (λ p ep.
    looked_up (slice_get app.links c) _ _ (λ l el. looked_up (slice_get s.sent (c + 256 * (i / 65536))) _ _ (λ words ew.
    looked_up (changed_views (takes (i / 65536) (i % 65536)) c To (ends_of app m) p.ends) _ _ (λ views ev.
    tested (contains (slice_get words (i % 65536)) v) _ _ (λ b. h q x p l words views eq ex ep el ew ev b)))))))

pub on_raw : (app : AppTree) (s : Model) (Q : Model → Type 0) (d v : ℕ) → Q s → IfSome (step app s (Raw d v)) Q
on_raw app s Q d v h = tested (kind_is (λ k. not (is_sensor k)) (slice_get app.devices d) && is_undriven app.parts s.modules d) _ _ (λ _. h)

pub on_done : (app : AppTree) (s : Model) (Q : Model → Type 0) (m status k : ℕ)
    → ((x : Standing) (p : Present) (owed : Pending) → slice_get s.modules m ≡ Some x → x.present ≡ Some p → p.pending ≡ Some owed → is_nothing owed.emits ≡ true
    → Q (with_present s m x (record p { pending = None })))
    → Q s → IfSome (step app s (Done m status k)) Q
on_done app s Q m status k h same =
    looked_up (slice_get app.parts m) _ _ (λ q _. looked_up (slice_get s.modules m) _ _ (λ x ex. looked_up x.present _ _ (λ p ep.
    chosen (status == 1) _ _ _ (looked_up p.pending _ _ (λ owed eo. tested (is_nothing owed.emits && (k == owed.pieces)) _ _ (λ b.
    h x p owed ex ep eo (and_parts (is_nothing owed.emits) (k == owed.pieces) b).0)))
    (tested ((nat_le 2 status && nat_le status 8) && ((k == 0) && (is_none p.pending && (not (status == 8) || waits app s.devices q.device)))) _ _ (λ _. same)))))
