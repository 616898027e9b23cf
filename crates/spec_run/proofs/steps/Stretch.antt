-- The marks of one step of a module that is under way, one after the other.
use Rattle.std.proofs.Common.{◌≡◌, ℕ, zero, suc, ◌⊎◌, inl, inr, true, List, [], ◌∷◌, ◌++◌, length, Some, refl, sym, ◌∙◌, ap}
use Rattle.std.specs.Prelude.{slice_get, slice_set}
use Rattle.std.proofs.lemmas.List.{append-nil, append_assoc, set-set}
use Rattle.sx_trace.specs.declared.items.Item.{Item}
use Rattle.sx_trace.specs.declared.items.Item.TheVariants as item
use Rattle.sx_bus.specs.declared.devices.Window.{Window}
use Rattle.spec_machine.specs.declared.kinds.Touch.{Touch}
use Rattle.spec_machine.specs.declared.kinds.Touch.TheVariants as touch
use Rattle.spec_machine.specs.declared.kinds.Event.{Event}
use Rattle.spec_machine.specs.declared.kinds.Event.TheVariants as event
use Rattle.spec_machine.specs.declared.kinds.Seen.{Seen}
use Rattle.spec_machine.specs.State.{State}
use Rattle.spec_invocation.specs.Marks.{Mark, Wrapped, Unwrapped}
use Rattle.sx_image.specs.Watched.{marks_of_touches, marks_of_event, marks_of}
use Rattle.spec_invocation.specs.Progress.{Invoked}
use Rattle.sx_mean.specs.Application.{PartTree, AppTree}
use Rattle.sx_model.specs.State.{Reading, FIELDS}
use Rattle.sx_model.specs.order.State.{Present, Standing, Model}
use Rattle.sx_model.specs.Step.{is_vouched}
use Rattle.spec_run.specs.Setting.{Setting}
use Rattle.spec_run.specs.Ledger.{Made, is_made, header_of, body_of}
use Rattle.spec_run.specs.Observation.{Observed, touch_items, event_seen, observed}
use Rattle.spec_run.proofs.tie.Lists.{some_inj}
use Rattle.spec_run.proofs.tie.Flows.{Flows, flows_same, flows_on}
use Rattle.spec_run.proofs.tie.Verdicts.{judge, Fares, fares_then, fares_map}
use Rattle.spec_run.proofs.tie.Tied.{Owes, Known, IsSane}
use Rattle.spec_run.proofs.tie.Moves.{readings_after, IsOwn, Moved, same_module}
use Rattle.spec_run.proofs.steps.Judged.{mark_seen, Next, Readings, mark_fares}

-- what is seen of marks
abbrev pub marks_seen : AppTree → ℕ → ℕ → ℕ → List Mark → List Made → Observed
marks_seen app n m boot [] ledger = record { items = []; ledger = ledger }
marks_seen app n m boot (mark ∷ ms) ledger =
    let o = mark_seen app n m boot mark ledger in
    record { items = o.items ++ (marks_seen app n m boot ms o.ledger).items; ledger = (marks_seen app n m boot ms o.ledger).ledger }

abbrev pub readings_all : AppTree → ℕ → List Mark → List Reading → List Reading
readings_all app n [] rs = rs
readings_all app n (mark ∷ ms) rs = readings_all app n ms (readings_after app n mark rs)

-- one module's marks
pub record Moves (app : AppTree) (n m : ℕ) (ms : List Mark) (x y : Standing) (mo mo' : Model) : Type 0 where
  pub boots : mo'.boots ≡ mo.boots
  pub asks : mo'.asks ≡ mo.asks
  pub epochs : mo'.epochs ≡ mo.epochs
  pub modules : mo'.modules ≡ slice_set mo.modules m y
  pub asked : y.asked ≡ x.asked
  pub attested : y.attested ≡ x.attested
  pub vouched : (a b : ℕ) → is_vouched a b x.vouched ≡ true → is_vouched a b y.vouched ≡ true
  pub devices : mo'.devices ≡ readings_all app n ms mo.devices
  pub sent : Flows (IsOwn app m) mo.sent mo'.sent

pub set_same : {X : Type 0} → (xs : List X) (i : ℕ) (v : X) → slice_get xs i ≡ Some v → slice_set xs i v ≡ xs
set_same [] i v e = refl
set_same (z ∷ xs) zero v e = ap (λ w. w ∷ xs) (sym (some_inj z v e))
set_same (z ∷ xs) (suc i) v e = ap (λ w. z ∷ w) (set_same xs i v e)

moves_same : (app : AppTree) (n m : ℕ) (x : Standing) (mo : Model) → slice_get mo.modules m ≡ Some x → Moves app n m [] x x mo mo
moves_same app n m x mo there = record {
  boots = refl;
  asks = refl;
  epochs = refl;
  modules = sym
      (set_same mo.modules m x there);
  asked = refl;
  attested = refl;
  vouched = λ a b t. t;
  devices = refl;
  sent = flows_same (IsOwn app m) mo.sent;
}

moves_on : (app : AppTree) (n m : ℕ) (mark : Mark) (ms : List Mark) (x y z : Standing) (mo mo1 mo2 : Model)
    → Moved app n m mark x y mo mo1 → Moves app n m ms y z mo1 mo2 → Moves app n m (mark ∷ ms) x z mo mo2
moves_on app n m mark ms x y z mo mo1 mo2 f g = record {
  boots = g.boots ∙ f.boots;
  asks = g.asks ∙ f.asks;
  epochs = g.epochs ∙ f.epochs;
  modules = g.modules ∙ ap (λ s. slice_set s m z) f.modules ∙ set-set mo.modules m y z;
  asked = g.asked ∙ f.asked;
  attested = g.attested ∙ f.attested;
  vouched = λ a b t. g.vouched a b (f.vouched a b t);
  devices = g.devices ∙ ap (λ d. readings_all app n ms d) f.devices;
  sent = flows_on (IsOwn app m) mo.sent mo1.sent mo2.sent f.sent g.sent;
}

abbrev pub HasMarks : List Mark → Type 0
HasMarks [] = ⊥
HasMarks (mark ∷ ms) = Unit {0}

-- where the source follows marks: what is owed beside these devices, and where there was a mark beside any
pub record Nexts (app : AppTree) (m : ℕ) (q : PartTree) (x : Standing) (mo : Model) (ms : List Mark)
    (ledger : List Made) (P : List Window → Type 0) (rest : List Mark) (result : Invoked) (mo' : Model) : Type 0 where
  pub y : Standing
  pub moves : Moves app q.node m ms x y mo mo'
  pub pr : Present
  pub present : y.present ≡ Some pr
  pub owes : (devices : List Window) → P devices ⊎ HasMarks ms → Owes app q.node m q devices pr mo'.sent rest result
  pub sane : IsSane app mo'
  pub known : (e : Made) → is_made ledger e ≡ true → Known app mo' e.maker e

or_absurd : {A : Type 0} → A ⊎ ⊥ → A
or_absurd (inl a) = a
or_absurd (inr b) = absurd b

pub marks_fares : (app : AppTree) (m : ℕ) (q : PartTree) (boot : ℕ) (part : slice_get app.parts m ≡ Some q) (result : Invoked) (rest : List Mark) (ms : List Mark)
    (x : Standing) (pr : Present) (mo : Model) (ledger : List Made) (there : slice_get mo.modules m ≡ Some x) (boots : slice_get mo.boots q.node ≡ Some boot) (present : x.present ≡ Some pr)
    (sane : IsSane app mo) (known : (e : Made) → is_made ledger e ≡ true → Known app mo e.maker e) (sizes : length mo.sent ≡ FIELDS)
    (P : List Window → Type 0) (devices : List Window)
    → P devices → Readings app m q x pr boot mo ledger part there boots present sane known devices → ((d : List Window) → P d → Owes app q.node m q d pr mo.sent (ms ++ rest) result)
    → Fares (judge app mo (marks_seen app q.node m boot ms ledger).items) (Nexts app m q x mo ms (marks_seen app q.node m boot ms ledger).ledger P rest result)
marks_fares app m q boot part result rest [] x pr mo ledger there boots present sane known sizes P devices here readings owes =
    record { y = x; moves = moves_same app q.node m x mo there; pr = pr; present = present; owes = λ d h. owes d (or_absurd h); sane = sane; known = known }
marks_fares app m q boot part result rest (mark ∷ ms) x pr mo ledger there boots present sane known sizes P devices here readings owes =
    let o = mark_seen app q.node m boot mark ledger in
    let final = (marks_seen app q.node m boot ms o.ledger).ledger in
    fares_then app mo o.items (marks_seen app q.node m boot ms o.ledger).items (Next app m q x mo mark o.ledger (ms ++ rest) result) (Nexts app m q x mo (mark ∷ ms) final P rest result)
    (mark_fares app m q x pr boot mo ledger part there boots present sane known sizes devices readings mark (ms ++ rest) result (owes devices here))
    (λ mo1 next.
    fares_map (judge app mo1 (marks_seen app q.node m boot ms o.ledger).items) (Nexts app m q next.y mo1 ms final (λ d. Unit {0}) rest result) (Nexts app m q x mo (mark ∷ ms) final P rest result)
    (λ mo2 h. record {
      y = h.y;
      moves = moves_on app q.node m mark ms x next.y h.y mo mo1 mo2 next.moved h.moves;
      pr = h.pr;
      present = h.present;
      owes = λ d _. h.owes d (inl tt);
      sane = h.sane;
      known = h.known;
    })
    (marks_fares app m q boot part result rest ms next.y next.pr mo1 o.ledger
    (same_module app q.node m mark x next.y mo mo1 there next.moved) (rw next.moved.boots boots) next.present next.sane next.known
    (next.moved.sent.size ∙ sizes) (λ d. Unit {0}) [] tt (λ k w e. absurd cc) (λ d _. next.owes d)))

-- What a step of a deployed module shows is its marks, and after them that it is done, where it left.

marks_append : (app : AppTree) (n m boot : ℕ) (xs ys : List Mark) (ledger : List Made)
    → marks_seen app n m boot (xs ++ ys) ledger ≡ (let o = marks_seen app n m boot xs ledger in let r = marks_seen app n m boot ys o.ledger in record { items = o.items ++ r.items; ledger = r.ledger })
marks_append app n m boot [] ys ledger = refl
marks_append app n m boot (mark ∷ xs) ys ledger =
    let o = mark_seen app n m boot mark ledger in
    let rest = marks_seen app n m boot xs o.ledger in
    let last = marks_seen app n m boot ys rest.ledger in
    ap (λ (r : Observed). record { items = o.items ++ r.items; ledger = r.ledger }) (marks_append app n m boot xs ys o.ledger)
    ∙ ap (λ (l : List Item). record { items = l; ledger = last.ledger }) (sym (append_assoc o.items rest.items last.items))

touches_seen : (app : AppTree) (n m boot : ℕ) (ts : List Touch) (ledger : List Made)
    → marks_seen app n m boot (marks_of_touches ts) ledger ≡ record { items = touch_items app n (Some m) ts; ledger = ledger }
touches_seen app n m boot [] ledger = refl
touches_seen app n m boot (touch.Quiet ∷ ts) ledger = touches_seen app n m boot ts ledger
touches_seen app n m boot (touch.DeviceRead k v ∷ ts) ledger =
    ap (λ (r : Observed). record {
      items = Rattle.spec_run.specs.Observation.read_item app (Some m)
          (Rattle.spec_run.specs.Setting.device_number app n k) v ∷ r.items;
      ledger = r.ledger;
    }) (touches_seen app n m boot ts ledger)
touches_seen app n m boot (touch.DeviceWrite k v ∷ ts) ledger =
    ap (λ (r : Observed). record {
      items = Rattle.spec_run.specs.Observation.write_item app (Some m)
          (Rattle.spec_run.specs.Setting.device_number app n k) v ∷ r.items;
      ledger = r.ledger;
    }) (touches_seen app n m boot ts ledger)

-- an event of an instruction that is neither protect nor unprotect, nor a reset
abbrev pub IsPlain : Event → Type 0
IsPlain event.Quiet = Unit {0}
IsPlain (event.Reset v) = ⊥
IsPlain (event.Protected id) = ⊥
IsPlain (event.Removed id) = ⊥
IsPlain (event.Wrapped id) = Unit {0}
IsPlain (event.Unwrapped id) = Unit {0}
IsPlain (event.Left id) = Unit {0}

abbrev pub done_items : ℕ → State → Event → List Item
done_items m s event.Quiet = []
done_items m s (event.Reset v) = []
done_items m s (event.Protected id) = []
done_items m s (event.Removed id) = []
done_items m s (event.Wrapped id) = []
done_items m s (event.Unwrapped id) = []
done_items m s (event.Left id) = item.Done m (Rattle.std.specs.Prelude.slice_index s.regs 12) (Rattle.std.specs.Prelude.slice_index s.regs 13) ∷ []

event_as_marks : (set : Setting) (n m : ℕ) (s : State) (e : Event) (ledger : List Made) → IsPlain e
    → event_seen set n (Some m) s ledger e ≡ (let o = marks_seen set.app n m s.boot (marks_of_event e s.exchange) ledger in record { items = o.items ++ done_items m s e; ledger = o.ledger })
event_as_marks set n m s event.Quiet ledger p = refl
event_as_marks set n m s (event.Reset v) ledger p = absurd p
event_as_marks set n m s (event.Protected id) ledger p = absurd p
event_as_marks set n m s (event.Removed id) ledger p = absurd p
event_as_marks set n m s (event.Wrapped id) ledger p =
    let o = mark_seen set.app n m s.boot (Wrapped (header_of s.exchange) (body_of s.exchange) s.exchange.own_key) ledger in
    ap (λ (l : List Item). record { items = l; ledger = o.ledger }) (sym (append-nil (o.items ++ []) ∙ append-nil o.items))
event_as_marks set n m s (event.Unwrapped id) ledger p =
    let o = mark_seen set.app n m s.boot (Unwrapped (header_of s.exchange) (body_of s.exchange) s.exchange.own_key) ledger in
    ap (λ (l : List Item). record { items = l; ledger = o.ledger }) (sym (append-nil (o.items ++ []) ∙ append-nil o.items))
event_as_marks set n m s (event.Left id) ledger p = refl

pub seen_as_marks : (set : Setting) (n m : ℕ) (s : State) (seen : Seen) (ledger : List Made) → IsPlain seen.event
    → observed set n (Some m) s seen ledger ≡ (let o = marks_seen set.app n m s.boot (marks_of seen s.exchange) ledger in record { items = o.items ++ done_items m s seen.event; ledger = o.ledger })
seen_as_marks set n m s seen ledger p =
    let ts = touch_items set.app n (Some m) seen.touch in
    let e = marks_seen set.app n m s.boot (marks_of_event seen.event s.exchange) ledger in
    let whole : marks_seen set.app n m s.boot (marks_of seen s.exchange) ledger ≡ record { items = ts ++ e.items; ledger = e.ledger } =
    marks_append set.app n m s.boot (marks_of_touches seen.touch) (marks_of_event seen.event s.exchange) ledger
    ∙ ap (λ (o : Observed). let r = marks_seen set.app n m s.boot
    (marks_of_event seen.event s.exchange) o.ledger in record { items = o.items ++ r.items; ledger = r.ledger })
    (touches_seen set.app n m s.boot seen.touch ledger) in
    ap (λ (o : Observed). record { items = ts ++ o.items; ledger = o.ledger }) (event_as_marks set n m s seen.event ledger p)
    ∙ ap (λ (l : List Item). record { items = l; ledger = e.ledger }) (sym (append_assoc ts e.items (done_items m s seen.event)))
    ∙ ap (λ (o : Observed). record { items = o.items ++ done_items m s seen.event; ledger = o.ledger }) (sym whole)
