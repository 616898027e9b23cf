-- A field of a connection in an epoch that its sender opens yet has no words.
use Rattle.std.proofs.Common.{◌≡◌, ℕ, zero, suc, ◌+◌, ◌*◌, ◌<◌, ◌≤◌, List, [], length, replicate, Option, Some, None, slice_get, refl, sym, ap, ◌∙◌, arith}
use Rattle.std.proofs.lemmas.Option.{same_Some, slice_get_within}
use Rattle.sx_lang.specs.declared.sides.Side.TheVariants.{From}
use Rattle.sx_mean.specs.declared.apps.Link.{Link}
use Rattle.sx_mean.specs.declared.events.SourceEvent.TheVariants as event
use Rattle.sx_mean.specs.Application.{AppTree, PartTree}
use Rattle.sx_mean.specs.Ends.{ends_of}
use Rattle.sx_mean.specs.React.{react}
use Rattle.sx_trace.specs.declared.items.Item.{Item}
use Rattle.sx_model.specs.State.{Model, Present, Standing, power_on, FIELDS}
use Rattle.sx_model.specs.Step.{◌>>?◌, step}
use Rattle.sx_model.proofs.Along.{some_of}
use Rattle.sx_model.proofs.EndSteps.{HeldIn, Moved, cases, opens_at, takes_at, view_of}
use Rattle.sx_model.proofs.EndViews.{owner, view_at}
use Rattle.sx_model.proofs.HeldEnd.{held_first}
use Rattle.sx_model.proofs.Rise.{first_epoch, first_standing, fresh}
use Rattle.sx_model.proofs.Rising.{On}
use Rattle.sx_model.proofs.Steps.{Cases, by_step}
use Rattle.lemmas.proofs.Lists.{get_same}
use Rattle.sx_model.proofs.order.Fields.{OpenAt, all_other}
use Rattle.sx_model.proofs.order.Owners.{own}

abbrev pub word_of : List (List ℕ) → ℕ → ℕ → Option ℕ
word_of sent field place = slice_get sent field >>? (λ words. slice_get words place)

pub record Unsent (app : AppTree) (t : Model) (m c : ℕ) (q : PartTree) : Type 0 where
  pub next : ℕ
  pub number : ℕ
  pub held : HeldIn app m c From q.node next number t.boots t.modules t.epochs
  pub none : (e j : ℕ) → next ≤ e → word_of t.sent (c + 256 * e) j ≡ None

abbrev pub AllUnsent : AppTree → Model → Type 0
AllUnsent app t = (m c : ℕ) (q : PartTree) (l : Link) → slice_get app.parts m ≡ Some q → slice_get app.links c ≡ Some l → l.from ≡ m → Unsent app t m c q

-- at power-on

pub none_first : (n k j : ℕ) → word_of (replicate n []) k j ≡ None
none_first zero k j = refl
none_first (suc n) zero j = refl
none_first (suc n) (suc k) j = none_first n k j

pub unsent_first : (app : AppTree) → AllUnsent app (power_on app)
unsent_first app m c q l eq el from = record {
  next = 0;
  number = 0;
  held = record { standing = fresh; here = first_standing app.parts m q eq; epoch = 0; there = first_epoch app.links c l el; held = held_first c _ 0 };
  none = λ e j _. none_first FIELDS (c + 256 * e) j;
}

-- a word that comes is of an open end
record NewAt (app : AppTree) (xs : List Standing) (k : ℕ) : Type 0 where
  pub m : ℕ
  pub x : Standing
  pub p : Present
  pub there : slice_get xs m ≡ Some x
  pub present : x.present ≡ Some p
  pub field : OpenAt (ends_of app m) p.ends k

module _ (app : AppTree) (s : Model) where
  -- a field changes only where an open end is
  abbrev Grown : Item → Model → Type 0
  Grown i t = (k : ℕ) → (NewAt app t.modules k → ⊥) → slice_get t.sent k ≡ slice_get s.sent k

  grown : Cases app s Grown
  grown = record {
    read = λ m v q x p d r eq ex ep ed er b k no.
        all_other (ends_of app m) p.ends (react q.tree (event.Sample v) p.cells).acts (record { sent = s.sent; emits = []; pieces = 0 }) k
        (λ o. no (record { m = m; x = _; p = _; there = get_same s.modules m _ x ex; present = refl; field = o }));
    take = λ m c i v q x p l views eq ex ep el ev k no.
        all_other (ends_of app m) views (react q.tree (event.Input l.input v) p.cells).acts (record { sent = s.sent; emits = []; pieces = 0 }) k
        (λ o. no (record { m = m; x = _; p = _; there = get_same s.modules m _ x ex; present = refl; field = o }));
    reset = λ n cause boot e f no. refl;
    unknown = λ n f no. refl;
    protect = λ n k r z e none f no. refl;
    sense = λ d v f no. refl;
    drain = λ d r f no. refl;
    ask = λ k a z ez f no. refl;
    attested = λ k b a z ez by f no. refl;
    denied = λ k f no. refl;
    vouch = λ k a r z p boot er ez ep eb f no. refl;
    opened = λ k d to epoch r z p boot views er ez ep eb ev may f no. refl;
    out = λ k v z p owed left ez ep eo ew f no. refl;
    raw = λ d v f no. refl;
    done = λ k status n z p ez ep f no. refl;
    refused = λ k status n z p ez ep none f no. refl;
    packet = λ k n f no. refl;
    forged = λ k f no. refl;
    busy = λ n f no. refl;
    skip = λ n f no. refl;
    budget = λ n f no. refl;
  }

up : (o : Option ℕ) (low next : ℕ) → On o low next → low ≤ next
up None low next h = omega (arith, h)
up (Some n) low next h = omega (arith, h.0, h.1)

module _ (app : AppTree) (few : length app.links ≤ 256) (s t : Model) (i : Item) (is : step app s i ≡ Some t) (h : AllUnsent app s) where
  pub unsent_on : AllUnsent app t
  unsent_on m c q l eq el from =
      let b = h m c q l eq el from in
      let low : c < 256 = (let w = slice_get_within app.links c l el in omega (arith, w, few)) in
      let r : Moved app m c From q.node (opens_at m c From i) (takes_at m c From i) b.next b.number t.boots t.modules t.epochs =
      some_of (step app s i) t (λ t. Moved app m c From q.node (opens_at m c From i) (takes_at m c From i) b.next b.number t.boots t.modules t.epochs)
      (by_step app s (λ i t. Moved app m c From q.node (opens_at m c From i) (takes_at m c From i) b.next b.number t.boots t.modules t.epochs)
      (cases app m c From q l eq el (owner From m l from) b.next b.number s b.held) i) is in
      let g : Grown app s i t = some_of (step app s i) t (Grown app s i) (by_step app s (Grown app s) (grown app s) i) is in
      let le = up (opens_at m c From i) b.next r.next r.opens in
      record { next = r.next; number = r.number; held = r.held; none = λ e j above. ap (λ o. o >>? (λ words. slice_get words j)) (g (c + 256 * e) (new low r e above)) ∙ b.none e j (omega (arith, le, above)) }
    where
      new : c < 256 → (r : Moved app m c From q.node (opens_at m c From i) (takes_at m c From i) (h m c q l eq el from).next (h m c q l eq el from).number t.boots t.modules t.epochs)
          → (e : ℕ) → r.next ≤ e → NewAt app t.modules (c + 256 * e) → ⊥
      new low r e above n =
          let o = own app few n.m n.p.ends (c + 256 * e) n.field in
          let lo = o.low in
          let at = o.at in
          let same : o.c ≡ c = omega (arith, low, lo, at) in
          let epoch : o.epoch ≡ e = omega (arith, low, lo, at) in
          let link : o.link ≡ l = same_Some o.link l (sym o.there ∙ ap (λ (i : ℕ). slice_get app.links i) same ∙ el) in
          let mine : n.m ≡ m = sym o.from ∙ ap (λ (l : Link). l.from) link ∙ from in
          let view : view_at c From (ends_of app m) n.p.ends ≡ Some o.view = ap (λ c. view_at c From (ends_of app m) n.p.ends) (sym same) ∙ ap (λ m. view_at o.c From (ends_of app m) n.p.ends) (sym mine) ∙ o.view_is in
          let standing : r.held.standing ≡ n.x = same_Some r.held.standing n.x (sym r.held.here ∙ ap (λ m. slice_get t.modules m) (sym mine) ∙ n.there) in
          let seen : view_of app m c From r.held.standing ≡ Some o.view =
          ap (λ x. view_of app m c From x) standing ∙ ap (λ o. o >>? (λ p. view_at c From (ends_of app m) p.ends)) n.present ∙ view in
          let top = (r.held.held.opened o.view o.epoch seen o.epoch_is).0 in
          omega (arith, top, above, epoch)
