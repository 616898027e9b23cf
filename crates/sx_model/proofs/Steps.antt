-- What holds of each allowed item and of the state after it, by cases.
use Rattle.std.proofs.Common.{◌≡◌, ℕ, ◌+◌, ◌*◌, ◌/◌, ◌%◌, ◌==◌, ◌&&◌, ◌||◌, not, Bool, true, false, if◌then◌else◌, List, [], ◌∷◌, ◌++◌, Option, Some, None, refl}
use Rattle.std.specs.Prelude.{IfSome, is_none, nat_le, slice_get, slice_index}
use Rattle.std.proofs.lemmas.Bool.{and_parts}
use Rattle.sx_lang.specs.declared.sides.Side.{Side}
use Rattle.sx_lang.specs.declared.sides.Side.TheVariants.{To}
use Rattle.sx_mean.specs.declared.apps.Link.{Link}
use Rattle.sx_mean.specs.declared.events.SourceEvent.TheVariants as event
use Rattle.sx_mean.specs.Application.{AppTree, PartTree, is_sensor}
use Rattle.sx_mean.specs.Ends.{ends_of}
use Rattle.sx_trace.specs.declared.items.Cause.{Cause}
use Rattle.sx_trace.specs.declared.items.Item.{Item}
use Rattle.sx_trace.specs.declared.items.Item.TheVariants.{Reset, Protect, Sense, Read, Drain, Ask, Attested, Denied, Vouch, Open, Take, Out, Raw, Done, Packet, Forged, Busy, Skip, Budget}
use Rattle.sx_model.specs.State.{EndView, Model, Pending, Present, Reading, Standing, contains}
use Rattle.sx_model.specs.Renewal.{boot_of, may_attest, may_open, opens, renewed, takes}
use Rattle.sx_model.specs.Step.{◌>>?◌, changed_views, first_present, state_if, idle, is_nothing, is_vouched, kind_is, reacts, reset_at}
use Rattle.sx_model.specs.Step.{step, is_undriven, waits, with_device, with_present, with_standing, without_first}
use Rattle.sx_model.specs.Changes.{is_fresh_with, with_pending}

pub looked_up : {A B : Type 0} → (o : Option A) (f : A → Option B) (Q : B → Type 0) → ((x : A) → o ≡ Some x → IfSome (f x) Q) → IfSome (o >>? f) Q
looked_up None f Q h = tt
looked_up (Some x) f Q h = h x refl

pub tested : (b : Bool) (s : Model) (Q : Model → Type 0) → (b ≡ true → Q s) → IfSome (state_if b s) Q
tested true s Q h = h refl
tested false s Q h = tt

chosen : (b : Bool) (o p : Option Model) (Q : Model → Type 0) → (b ≡ true → IfSome o Q) → (b ≡ false → IfSome p Q) → IfSome (if b then o else p) Q
chosen true o p Q f g = f refl
chosen false o p Q f g = g refl

pub idle_then : (a b c d : Bool) → (a && (b && (c && d))) ≡ true → c ≡ true
idle_then a b c d h = (and_parts c d (and_parts b (c && d) (and_parts a (b && (c && d)) h).1).1).0

-- What holds after an item of these kinds, wherever it is allowed.

abbrev pub OnRead : AppTree → Model → (Model → Type 0) → ℕ → ℕ → Type 0
OnRead app s Q m v =
    (q : PartTree) (x : Standing) (p : Present) (d : ℕ) (r : Reading) → slice_get app.parts m ≡ Some q → slice_get s.modules m ≡ Some x → idle x ≡ Some p
    → q.device ≡ Some d → slice_get s.devices d ≡ Some r → is_fresh_with v r ≡ true
    → Q (reacts app (with_device s d (record r { fresh = false })) m q x p (event.Sample v))

abbrev pub OnOpen : AppTree → Model → (Model → Type 0) → ℕ → ℕ → Side → ℕ → Type 0
OnOpen app s Q m c side epoch =
    (q : PartTree) (x : Standing) (p : Present) (boot : ℕ) (views : List EndView) → slice_get app.parts m ≡ Some q → slice_get s.modules m ≡ Some x → idle x ≡ Some p
    → slice_get s.boots q.node ≡ Some boot → changed_views (opens epoch) c side (ends_of app m) p.ends ≡ Some views
    → may_open x.attested boot c epoch (slice_index s.epochs c) ≡ true
    → Q (with_present s m x (record p { ends = views; pending = Some (record { emits = []; pieces = 0 }) }))

abbrev pub OnTake : AppTree → Model → (Model → Type 0) → ℕ → ℕ → ℕ → ℕ → Type 0
OnTake app s Q m c i v =
    (q : PartTree) (x : Standing) (p : Present) (l : Link) (views : List EndView) → slice_get app.parts m ≡ Some q → slice_get s.modules m ≡ Some x
    → idle x ≡ Some p → slice_get app.links c ≡ Some l → changed_views (takes (i / 65536) (i % 65536)) c To (ends_of app m) p.ends ≡ Some views
    → Q (reacts app s m q x (record p { ends = views }) (event.Input l.input v))

abbrev pub OnOut : Model → (Model → Type 0) → ℕ → ℕ → Type 0
OnOut s Q m v =
    (x : Standing) (p : Present) (owed left : Pending) → slice_get s.modules m ≡ Some x → x.present ≡ Some p → p.pending ≡ Some owed
    → without_first v owed.emits owed.pieces ≡ Some left → Q (with_present s m x (with_pending p (Some left)))

-- So it holds after each that is allowed.

pub on_read : (app : AppTree) (s : Model) (Q : Model → Type 0) (m v : ℕ) → OnRead app s Q m v → IfSome (step app s (Read m v)) Q
on_read app s Q m v h =
    looked_up (slice_get app.parts m) _ _ (λ q eq. looked_up (slice_get s.modules m) _ _ (λ x ex. looked_up (idle x) _ _ (λ p ep.
    looked_up q.device _ _ (λ d ed. looked_up (slice_get s.devices d) _ _ (λ r er.
    tested (kind_is is_sensor (slice_get app.devices d) && is_fresh_with v r) _ _ (λ b.
    h q x p d r eq ex ep ed er (and_parts (kind_is is_sensor (slice_get app.devices d)) (is_fresh_with v r) b).1))))))

pub on_open : (app : AppTree) (s : Model) (Q : Model → Type 0) (m c : ℕ) (side : Side) (epoch : ℕ) → OnOpen app s Q m c side epoch → IfSome (step app s (Open m c side epoch)) Q
on_open app s Q m c side epoch h =
    looked_up (slice_get app.parts m) _ _ (λ q eq. looked_up (slice_get s.modules m) _ _ (λ x ex. looked_up (idle x) _ _ (λ p ep.
    looked_up (slice_get s.boots q.node) _ _ (λ boot eb. looked_up (changed_views (opens epoch) c side (ends_of app m) p.ends) _ _ (λ views ev.
    tested (may_open x.attested boot c epoch (slice_index s.epochs c)) _ _ (λ t. h q x p boot views eq ex ep eb ev t))))))

pub on_take : (app : AppTree) (s : Model) (Q : Model → Type 0) (m c i v : ℕ) → OnTake app s Q m c i v → IfSome (step app s (Take m c i v)) Q
on_take app s Q m c i v h =
    looked_up (slice_get app.parts m) _ _ (λ q eq. looked_up (slice_get s.modules m) _ _ (λ x ex. looked_up (idle x) _ _ (λ p ep.
    looked_up (slice_get app.links c) _ _ (λ l el. looked_up (slice_get s.sent (c + 256 * (i / 65536))) _ _ (λ words _.
    looked_up (changed_views (takes (i / 65536) (i % 65536)) c To (ends_of app m) p.ends) _ _ (λ views ev.
    tested (contains (slice_get words (i % 65536)) v) _ _ (λ _. h q x p l views eq ex ep el ev)))))))

pub on_out : (app : AppTree) (s : Model) (Q : Model → Type 0) (m v : ℕ) → OnOut s Q m v → IfSome (step app s (Out m v)) Q
on_out app s Q m v h =
    looked_up (slice_get s.modules m) _ _ (λ x ex. looked_up x.present _ _ (λ p ep. looked_up p.pending _ _ (λ owed eo.
    looked_up (without_first v owed.emits owed.pieces) _ _ (λ left el. h x p owed left ex ep eo el))))

-- one case for each kind of item
pub record Cases (app : AppTree) (s : Model) (P : Item → Model → Type 0) : Type 0 where
  pub reset : (n : ℕ) (cause : Cause) (boot : ℕ) → slice_get s.boots n ≡ Some boot → P (Reset n cause) (reset_at app s n boot)
  pub unknown : (n : ℕ) → P (Protect n None) s
  pub protect : (n m : ℕ) (q : PartTree) (x : Standing) → slice_get s.modules m ≡ Some x → is_none x.present ≡ true
      → P (Protect n (Some m)) (with_present s m x (first_present q.tree (ends_of app m)))
  pub sense : (d v : ℕ) → P (Sense d v) (with_device s d (record { value = v; fresh = true }))
  pub read : (m v : ℕ) → OnRead app s (P (Read m v)) m v
  pub drain : (d : ℕ) (r : Reading) → P (Drain d) (with_device s d (record r { fresh = false }))
  pub ask : (m a : ℕ) (x : Standing) → slice_get s.modules m ≡ Some x → P (Ask m a) (record (with_standing s m (record x { asked = Some a })) { asks = s.asks + 1 })
  pub attested : (m b a : ℕ) (x : Standing) → slice_get s.modules m ≡ Some x → is_vouched a b x.vouched ≡ true
      → P (Attested m b) (
      let epochs = renewed m app.links (boot_of x.attested) s.epochs in
      record (with_standing s m (record x { asked = None; attested = Some (record { boot = b; floors = epochs }) })) { epochs = epochs }
      )
  pub denied : (m : ℕ) → P (Denied m) s
  pub vouch : (m a : ℕ) (q : PartTree) (x : Standing) (p : Present) (boot : ℕ) → slice_get app.parts m ≡ Some q → slice_get s.modules m ≡ Some x → idle x ≡ Some p
      → slice_get s.boots q.node ≡ Some boot
      → P (Vouch m a) (with_standing s m (record x {
        present = Some (with_pending p (Some (record { emits = []; pieces = 1 })));
        vouched = x.vouched ++ record { challenge = a; boot = boot } ∷ [];
      }))
  pub opened : (m c : ℕ) (side : Side) (epoch : ℕ) → OnOpen app s (P (Open m c side epoch)) m c side epoch
  pub take : (m c i v : ℕ) → OnTake app s (P (Take m c i v)) m c i v
  pub out : (m v : ℕ) → OnOut s (P (Out m v)) m v
  pub raw : (d v : ℕ) → P (Raw d v) s
  pub done : (m status k : ℕ) (x : Standing) (p : Present) → slice_get s.modules m ≡ Some x → x.present ≡ Some p → P (Done m status k) (with_present s m x (with_pending p None))
  pub refused : (m status k : ℕ) (x : Standing) (p : Present) → slice_get s.modules m ≡ Some x → x.present ≡ Some p → is_none p.pending ≡ true → P (Done m status k) s
  pub packet : (k n : ℕ) → P (Packet k n) s
  pub forged : (m : Option ℕ) → P (Forged m) s
  pub busy : (n : ℕ) → P (Busy n) s
  pub skip : (n : ℕ) → P (Skip n) s
  pub budget : (n : ℕ) → P (Budget n) s

module _ (app : AppTree) (s : Model) (P : Item → Model → Type 0) (c : Cases app s P) where
  protected : (n m : ℕ) → IfSome (step app s (Protect n (Some m))) (P (Protect n (Some m)))
  protected n m =
      looked_up (slice_get app.parts m) _ _ (λ q _. looked_up (slice_get s.modules m) _ _ (λ x e.
      tested ((q.node == n) && is_none x.present) _ _ (λ b. c.protect n m q x e (and_parts (q.node == n) (is_none x.present) b).1)))

  drained : (d : ℕ) → IfSome (step app s (Drain d)) (P (Drain d))
  drained d =
      looked_up (slice_get s.devices d) _ _ (λ r _.
      tested (r.fresh && (kind_is is_sensor (slice_get app.devices d) && is_undriven app.parts s.modules d)) _ _ (λ _. c.drain d r))

  was_attested : (m b : ℕ) → IfSome (step app s (Attested m b)) (P (Attested m b))
  was_attested m b =
      looked_up (slice_get s.modules m) _ _ (λ x ex. looked_up x.asked _ _ (λ a _.
      tested (is_vouched a b x.vouched && may_attest m app.links s.epochs (boot_of x.attested) b) _ _ (λ t.
      c.attested m b a x ex (and_parts (is_vouched a b x.vouched) (may_attest m app.links s.epochs (boot_of x.attested) b) t).0)))

  has_vouched : (m a : ℕ) → IfSome (step app s (Vouch m a)) (P (Vouch m a))
  has_vouched m a =
      looked_up (slice_get app.parts m) _ _ (λ q eq. looked_up (slice_get s.modules m) _ _ (λ x ex. looked_up (idle x) _ _ (λ p ep.
      looked_up (slice_get s.boots q.node) _ _ (λ boot eb. c.vouch m a q x p boot eq ex ep eb))))

  is_done : (m status k : ℕ) → IfSome (step app s (Done m status k)) (P (Done m status k))
  is_done m status k =
      looked_up (slice_get app.parts m) _ _ (λ q _. looked_up (slice_get s.modules m) _ _ (λ x ex. looked_up x.present _ _ (λ p ep.
      chosen (status == 1) _ _ _ (λ _. looked_up p.pending _ _ (λ owed _. tested (is_nothing owed.emits && (k == owed.pieces)) _ _ (λ _. c.done m status k x p ex ep)))
      (λ _. tested ((nat_le 2 status && nat_le status 8) && ((k == 0) && (is_none p.pending && (not (status == 8) || waits app s.devices q.device)))) _ _ (λ b.
      c.refused m status k x p ex ep (idle_then (nat_le 2 status && nat_le status 8) (k == 0) (is_none p.pending) (not (status == 8) || waits app s.devices q.device) b))))))

  pub by_step : (item : Item) → IfSome (step app s item) (P item)
  by_step (Reset n cause) = looked_up (slice_get s.boots n) _ _ (λ boot e. c.reset n cause boot e)
  by_step (Protect n None) = c.unknown n
  by_step (Protect n (Some m)) = protected n m
  by_step (Sense d v) = looked_up (slice_get app.devices d) _ _ (λ w _. tested (is_sensor w.kind) _ _ (λ _. c.sense d v))
  by_step (Read m v) = on_read app s (P (Read m v)) m v (c.read m v)
  by_step (Drain d) = drained d
  by_step (Ask m a) = looked_up (slice_get s.modules m) _ _ (λ x ex. tested (a == s.asks) _ _ (λ _. c.ask m a x ex))
  by_step (Attested m b) = was_attested m b
  by_step (Denied m) = c.denied m
  by_step (Vouch m a) = has_vouched m a
  by_step (Open m k side epoch) = on_open app s (P (Open m k side epoch)) m k side epoch (c.opened m k side epoch)
  by_step (Take m k i v) = on_take app s (P (Take m k i v)) m k i v (c.take m k i v)
  by_step (Out m v) = on_out app s (P (Out m v)) m v (c.out m v)
  by_step (Raw d v) = tested (kind_is (λ k. not (is_sensor k)) (slice_get app.devices d) && is_undriven app.parts s.modules d) _ _ (λ _. c.raw d v)
  by_step (Done m status k) = is_done m status k
  by_step (Packet k n) = c.packet k n
  by_step (Forged m) = c.forged m
  by_step (Busy n) = c.busy n
  by_step (Skip n) = c.skip n
  by_step (Budget n) = c.budget n
