-- What an event's items make of the source model.
use Rattle.std.proofs.Common.{◌≡◌, ℕ, zero, suc, ◌+◌, ◌*◌, ◌/◌, ◌%◌, ◌<◌, ◌==◌, true, false, List, [], ◌∷◌, ◌++◌, map, Option, Some, None, slice_get, refl, sym, ap, ◌∙◌, subst, arith}
use Rattle.std.proofs.lemmas.Bool.{eq-eqb}
use Rattle.std.proofs.lemmas.List.{set-set}
use Rattle.sx_mean.specs.declared.events.SourceEvent.{SourceEvent}
use Rattle.sx_mean.specs.declared.events.SourceEvent.TheVariants as event
use Rattle.sx_mean.specs.declared.apps.Link.{Link}
use Rattle.sx_mean.specs.Application.{AppTree, PartTree, is_sensor}
use Rattle.sx_mean.specs.Ends.{ends_of}
use Rattle.sx_mean.specs.React.{react}
use Rattle.sx_lang.specs.declared.sides.Side.TheVariants.{To}
use Rattle.sx_trace.specs.declared.items.Item.{Item}
use Rattle.sx_trace.specs.declared.items.Item.TheVariants as item
use Rattle.sx_model.specs.State.{EndView, Model, Present, Reading, Standing}
use Rattle.sx_model.specs.Renewal.{takes}
use Rattle.sx_model.specs.Reaction.{flow_of}
use Rattle.sx_model.specs.Step.{◌>>?◌, changed_views, idle, kind_is, reacts, step, with_device, with_present}
use Rattle.sx_model.specs.Legal.{after}
use Rattle.sx_model.specs.Changes.{is_fresh_with, with_pending}
use Rattle.spec_honest.specs.Course.{packet_items}
use Rattle.lemmas.proofs.Lists.{get_same}

-- items one after the other

pub ran_on : (app : AppTree) (xs ys : List Item) (s t : Model) → after app s xs ≡ Some t → after app s (xs ++ ys) ≡ after app t ys
ran_on app [] ys s t h = ap (λ o. o >>? (λ t. after app t ys)) h
ran_on app (x ∷ xs) ys s t h = go (step app s x) h (λ u e. ran_on app xs ys u t e)
  where
    go : (o : Option Model) → (o >>? (λ u. after app u xs)) ≡ Some t → ((u : Model) → after app u xs ≡ Some t → after app u (xs ++ ys) ≡ after app t ys)
        → (o >>? (λ u. after app u (xs ++ ys))) ≡ after app t ys
    go None h more = absurd cc
    go (Some u) h more = more u h

pub ran_first : (app : AppTree) (x : Item) (xs : List Item) (s t : Model) → step app s x ≡ Some t → after app s (x ∷ xs) ≡ after app t xs
ran_first app x xs s t h = ap (λ o. o >>? (λ t. after app t xs)) h

pub ran_packets : (app : AppTree) (s : Model) (n len k : ℕ) → after app s (packet_items n len k) ≡ Some s
ran_packets app s n len zero = refl
ran_packets app s n len (suc k) = ran_packets app s (n + 1) len k

-- Within an event.

pub put_again : (s : Model) (p : ℕ) (x : Standing) (r u : Present) → with_present (with_present s p x r) p (record x { present = Some r }) u ≡ with_present s p x u
put_again s p x r u = ap (λ xs. record s { modules = xs }) (set-set s.modules p (record x { present = Some r }) (record x { present = Some u }))

-- with these emits and pieces owed
abbrev pub owing : Present → List ℕ → ℕ → Present
owing r emits k = with_pending r (Some (record { emits = emits; pieces = k }))

module _ (app : AppTree) (s : Model) (p : ℕ) (q : PartTree) (x y : Standing) (r : Present) (part : slice_get app.parts p ≡ Some q) (there : slice_get s.modules p ≡ Some y) where
  found : (u : Present) → slice_get (with_present s p x u).modules p ≡ Some (record x { present = Some u })
  found u = get_same s.modules p (record x { present = Some u }) y there

  pub out_step : (v : ℕ) (vs : List ℕ) (k : ℕ) → step app (with_present s p x (owing r (v ∷ vs) k)) (item.Out p v) ≡ Some (with_present s p x (owing r vs k))
  out_step v vs k =
      let same : (v == v) ≡ true = eq-eqb v v refl in
      rw (found (owing r (v ∷ vs) k), same) (ap (λ (t : Model). Some t) (put_again s p x (owing r (v ∷ vs) k) (owing r vs k)))

  pub done_step : (k : ℕ) → step app (with_present s p x (owing r [] k)) (item.Done p 1 k) ≡ Some (with_present s p x (with_pending r None))
  done_step k =
      let same : (k == k) ≡ true = eq-eqb k k refl in
      rw (part, found (owing r [] k), same) (ap (λ (t : Model). Some t) (put_again s p x (owing r [] k) (with_pending r None)))

  -- what follows the beginning of an event
  pub rest_ran : (emits : List ℕ) (k number : ℕ)
      → after app (with_present s p x (owing r emits k)) (map (λ v. item.Out p v) emits ++ item.Done p 1 k ∷ packet_items number 24 k) ≡ Some (with_present s p x (with_pending r None))
  rest_ran [] k number =
      ran_first app (item.Done p 1 k) (packet_items number 24 k) (with_present s p x (owing r [] k)) (with_present s p x (with_pending r None)) (done_step k)
      ∙ ran_packets app (with_present s p x (with_pending r None)) number 24 k
  rest_ran (v ∷ vs) k number =
      ran_first app (item.Out p v) (map (λ v. item.Out p v) vs ++ item.Done p 1 k ∷ packet_items number 24 k) (with_present s p x (owing r (v ∷ vs) k))
      (with_present s p x (owing r vs k)) (out_step v vs k)
      ∙ rest_ran vs k number

-- The beginning of an event.

pub read_step : (app : AppTree) (s : Model) (p v d : ℕ) (q : PartTree) (x : Standing) (r : Present) (g : Reading) → slice_get app.parts p ≡ Some q → slice_get s.modules p ≡ Some x
    → idle x ≡ Some r → q.device ≡ Some d → slice_get s.devices d ≡ Some g → kind_is is_sensor (slice_get app.devices d) ≡ true → is_fresh_with v g ≡ true
    → step app s (item.Read p v) ≡ Some (reacts app (with_device s d (record g { fresh = false })) p q x r (event.Sample v))
read_step app s p v d q x r g part there is device reading kind fresh = rw (part, there, is, device, reading, kind, fresh) refl

pub take_step : (app : AppTree) (s : Model) (p c i v : ℕ) (q : PartTree) (x : Standing) (r : Present) (l : Link) (words : List ℕ) (views : List EndView) → slice_get app.parts p ≡ Some q
    → slice_get s.modules p ≡ Some x → idle x ≡ Some r → slice_get app.links c ≡ Some l → i / 65536 ≡ 0 → i % 65536 ≡ i → slice_get s.sent c ≡ Some words
    → changed_views (takes 0 i) c To (ends_of app p) r.ends ≡ Some views → slice_get words i ≡ Some v
    → step app s (item.Take p c i v) ≡ Some (reacts app s p q x (record r { ends = views }) (event.Input l.input v))
take_step app s p c i v q x r l words views part there is link none all sent ends word =
    let same : (v == v) ≡ true = eq-eqb v v refl in
    let at : c + 256 * (i / 65536) ≡ c = omega (arith, none) in
    rw (part, there, is, link, at, sent, none, all, ends, word, same) refl

pub small : (i : ℕ) → i < 65536 → (i / 65536 ≡ 0) × (i % 65536 ≡ i)
small i lt = (omega arith, omega arith)

-- the state after an event
abbrev pub event_done : AppTree → Model → ℕ → PartTree → Standing → Present → SourceEvent → Model
event_done app s p q x r e =
    with_present (record s { sent = (flow_of q.tree (ends_of app p) e r s.sent).sent }) p x (record r { cells = (react q.tree e r.cells).cells; pending = None })

pub event_ran : (app : AppTree) (s : Model) (p number : ℕ) (q : PartTree) (x y : Standing) (r : Present) (e : SourceEvent) (emits : List ℕ) (k : ℕ) → slice_get app.parts p ≡ Some q
    → slice_get s.modules p ≡ Some y → (flow_of q.tree (ends_of app p) e r s.sent).emits ≡ emits → (flow_of q.tree (ends_of app p) e r s.sent).pieces ≡ k
    → after app (reacts app s p q x r e) (map (λ v. item.Out p v) emits ++ item.Done p 1 k ∷ packet_items number 24 k) ≡ Some (event_done app s p q x r e)
event_ran app s p number q x y r e emits k part there owed pieces =
    let f = flow_of q.tree (ends_of app p) e r s.sent in
    let t : Model = record s { sent = f.sent } in
    let u : Present = record r { cells = (react q.tree e r.cells).cells } in
    let begun : reacts app s p q x r e ≡ with_present t p x (owing u emits k) =
    ap (λ es. with_present t p x (owing u es f.pieces)) owed ∙ ap (λ n. with_present t p x (owing u emits n)) pieces in
    subst (λ m. after app m (map (λ v. item.Out p v) emits ++ item.Done p 1 k ∷ packet_items number 24 k) ≡ Some (event_done app s p q x r e)) (sym begun)
    (rest_ran app t p q x y u part there emits k number)
