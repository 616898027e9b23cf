-- What a step of a deployed module shows is its marks, and after them that it is done, where it left.
use Rattle.std.proofs.Common.{◌≡◌, ℕ, List, [], ◌∷◌, ◌++◌, Some, refl, sym, ◌∙◌, ap}
use Rattle.std.proofs.lemmas.List.{append_assoc}
use Rattle.sx_rules.specs.declared.section.Section.{Section}
use Rattle.sx_bus.specs.declared.devices.Window.{Window}
use Rattle.sx_bus.specs.Devices.{cleared, all_stale}
use Rattle.sx_bus.proofs.Changed.{all_stale_cleared}
use Rattle.sx_trace.specs.declared.items.Item.{Item}
use Rattle.spec_machine.specs.declared.kinds.Touch.{Touch}
use Rattle.spec_machine.specs.declared.kinds.Touch.TheVariants as touch
use Rattle.spec_machine.specs.declared.kinds.Event.{Event}
use Rattle.spec_machine.specs.declared.kinds.Event.TheVariants as event
use Rattle.spec_machine.specs.declared.kinds.Exchange.{Exchange}
use Rattle.spec_machine.specs.declared.kinds.Seen.{Seen}
use Rattle.spec_machine.specs.State.{State}
use Rattle.spec_machine.specs.NodeLaws.{shapes}
use Rattle.spec_machine.specs.Touches.{Replays}
use Rattle.spec_invocation.specs.Marks.{Mark, Wrapped, Unwrapped, Sampled, Actuated}
use Rattle.sx_image.specs.Watched.{marks_of_touches, marks_of_event, marks_of}
use Rattle.sx_mean.specs.Application.{AppTree}
use Rattle.spec_run.specs.Setting.{Setting}
use Rattle.sx_ledger.specs.Made.{Made}
use Rattle.spec_run.specs.Observation.{Observed, observed}
use Rattle.spec_run.proofs.steps.Judged.{mark_seen}
use Rattle.spec_run.proofs.steps.Stretch.{marks_seen, seen_as_marks, done_items, IsPlain}
use Rattle.spec_machine.proofs.Devices.{cleared_shapes}
use Rattle.law_calls.specs.Shown.{mark_observed, marks_observed, devices_after}

-- the two forms of what marks show are one
same_mark : (app : AppTree) (n m boot : ℕ) (mark : Mark) (ledger : List Made) → mark_seen app n m boot mark ledger ≡ mark_observed app n m boot mark ledger
same_mark app n m boot (Wrapped header body own) ledger = refl
same_mark app n m boot (Unwrapped header body own) ledger = refl
same_mark app n m boot (Sampled k v) ledger = refl
same_mark app n m boot (Actuated k v) ledger = refl

same_marks : (app : AppTree) (n m boot : ℕ) (ms : List Mark) (ledger : List Made) → marks_seen app n m boot ms ledger ≡ marks_observed app n m boot ms ledger
same_marks app n m boot [] ledger = refl
same_marks app n m boot (mark ∷ ms) ledger =
    ap (λ (o : Observed). record { items = o.items ++ (marks_seen app n m boot ms o.ledger).items; ledger = (marks_seen app n m boot ms o.ledger).ledger }) (same_mark app n m boot mark ledger)
    ∙ (let o = mark_observed app n m boot mark ledger in
    ap (λ (r : Observed). record { items = o.items ++ r.items; ledger = r.ledger }) (same_marks app n m boot ms o.ledger))

-- marks after marks
pub observed_append : (app : AppTree) (n m boot : ℕ) (xs ys : List Mark) (ledger : List Made)
    → marks_observed app n m boot (xs ++ ys) ledger ≡ (let o = marks_observed app n m boot xs ledger in let r = marks_observed app n m boot ys o.ledger in
    record { items = o.items ++ r.items; ledger = r.ledger })
observed_append app n m boot [] ys ledger = refl
observed_append app n m boot (mark ∷ xs) ys ledger =
    let o = mark_observed app n m boot mark ledger in
    let rest = marks_observed app n m boot xs o.ledger in
    let last = marks_observed app n m boot ys rest.ledger in
    ap (λ (r : Observed). record { items = o.items ++ r.items; ledger = r.ledger }) (observed_append app n m boot xs ys o.ledger)
    ∙ ap (λ (l : List Item). record { items = l; ledger = last.ledger }) (sym (append_assoc o.items rest.items last.items))

-- a step's
pub step_observed : (set : Setting) (n m : ℕ) (s : State) (seen : Seen) (ledger : List Made) → IsPlain seen.event
    → observed set n (Some m) s seen ledger ≡ (let o = marks_observed set.app n m s.boot (marks_of seen s.exchange) ledger in
    record { items = o.items ++ done_items m s seen.event; ledger = o.ledger })
step_observed set n m s seen ledger p =
    seen_as_marks set n m s seen ledger p
    ∙ ap (λ (o : Observed). record { items = o.items ++ done_items m s seen.event; ledger = o.ledger }) (same_marks set.app n m s.boot (marks_of seen s.exchange) ledger)

-- The devices after marks.

pub devices_append : (xs ys : List Mark) (ds : List Window) → devices_after (xs ++ ys) ds ≡ devices_after ys (devices_after xs ds)
devices_append [] ys ds = refl
devices_append (Wrapped header body own ∷ xs) ys ds = devices_append xs ys ds
devices_append (Unwrapped header body own ∷ xs) ys ds = devices_append xs ys ds
devices_append (Sampled k v ∷ xs) ys ds = devices_append xs ys (cleared ds k)
devices_append (Actuated k v ∷ xs) ys ds = devices_append xs ys ds

pub devices_shapes : (ms : List Mark) (ds : List Window) → shapes (devices_after ms ds) ≡ shapes ds
devices_shapes [] ds = refl
devices_shapes (Wrapped header body own ∷ ms) ds = devices_shapes ms ds
devices_shapes (Unwrapped header body own ∷ ms) ds = devices_shapes ms ds
devices_shapes (Sampled k v ∷ ms) ds = devices_shapes ms (cleared ds k) ∙ cleared_shapes ds k
devices_shapes (Actuated k v ∷ ms) ds = devices_shapes ms ds

pub devices_stale : (ms : List Mark) (ds : List Window) → all_stale (devices_after ms ds) ≡ all_stale ds
devices_stale [] ds = refl
devices_stale (Wrapped header body own ∷ ms) ds = devices_stale ms ds
devices_stale (Unwrapped header body own ∷ ms) ds = devices_stale ms ds
devices_stale (Sampled k v ∷ ms) ds = devices_stale ms (cleared ds k) ∙ all_stale_cleared ds k
devices_stale (Actuated k v ∷ ms) ds = devices_stale ms ds

replayed_devices : (own : ℕ) (live : List Section) (ts : List Touch) (a b : List Window) → Replays live own ts a b → b ≡ devices_after (marks_of_touches ts) a
replayed_devices own live [] a b h = h
replayed_devices own live (touch.Quiet ∷ ts) a b h = replayed_devices own live ts a b h
replayed_devices own live (touch.DeviceRead k v ∷ ts) a b h = replayed_devices own live ts (cleared a k) b h.6
replayed_devices own live (touch.DeviceWrite k v ∷ ts) a b h = replayed_devices own live ts a b h.4

event_devices : (e : Event) (x : Exchange) (ds : List Window) → devices_after (marks_of_event e x) ds ≡ ds
event_devices event.Quiet x ds = refl
event_devices (event.Reset v) x ds = refl
event_devices (event.Protected id) x ds = refl
event_devices (event.Removed id) x ds = refl
event_devices (event.Wrapped id) x ds = refl
event_devices (event.Unwrapped id) x ds = refl
event_devices (event.Left id) x ds = refl

-- a step's
pub step_devices : (own : ℕ) (live : List Section) (seen : Seen) (x : Exchange) (a b : List Window) → Replays live own seen.touch a b → b ≡ devices_after (marks_of seen x) a
step_devices own live seen x a b h =
    replayed_devices own live seen.touch a b h
    ∙ sym (devices_append (marks_of_touches seen.touch) (marks_of_event seen.event x) a ∙ event_devices seen.event x (devices_after (marks_of_touches seen.touch) a))
