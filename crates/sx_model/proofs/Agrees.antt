-- The state after an item is the one that its parts give.
use Rattle.std.proofs.Common.{◌≡◌, ℕ, ◌+◌, ◌*◌, ◌/◌, ◌%◌, ◌<◌, ◌==◌, ◌&&◌, ◌||◌, inl, inr, Bool, true, false, List, [], ◌∷◌, ◌++◌, length, not, nat_le, nat_lt}
use Rattle.std.proofs.Common.{Option, Some, None, is_none, slice_get, slice_set, slice_index, if◌then◌else◌, refl, sym, ap, ◌∙◌, add-one, arith}
use Rattle.std.specs.List.{position_from}
use Rattle.std.proofs.lemmas.Option.{slice_get_cases, get_or_from_slice_get}
use Rattle.std.proofs.lemmas.Bool.Decides.{nat_tests}
use Rattle.sx_lang.specs.declared.sides.Side.{Side}
use Rattle.sx_lang.specs.declared.sides.Side.TheVariants.{To}
use Rattle.sx_mean.specs.Application.{AppTree, PartTree, is_sensor}
use Rattle.sx_mean.specs.declared.apps.Link.{Link}
use Rattle.sx_mean.specs.declared.events.End.{End}
use Rattle.sx_mean.specs.declared.events.SourceEvent.{SourceEvent}
use Rattle.sx_mean.specs.declared.events.SourceEvent.TheVariants as event
use Rattle.sx_mean.specs.Ends.{ends_of}
use Rattle.sx_trace.specs.declared.items.Item.{Item}
use Rattle.sx_trace.specs.declared.items.Item.TheVariants.{Reset, Protect, Sense, Read, Drain, Ask, Attested, Denied, Vouch, Open, Take, Out, Raw, Done, Packet, Forged, Busy, Skip, Budget}
use Rattle.sx_model.specs.State.{EndView, Model, Pending, Present, Reading, Standing, contains}
use Rattle.sx_model.specs.Renewal.{boot_of, may_attest, may_open, opens, renewed, takes}
use Rattle.sx_model.specs.Step.{◌>>?◌, changed_views, first_present, state_if, idle, is_nothing, is_vouched, kind_is, reacts, reset_at}
use Rattle.sx_model.specs.Step.{step, is_undriven, waits, with_device, with_present, with_standing, without_first}
use Rattle.sx_model.specs.Changes.{accepts_with, answers, at_index, finishes, if_so, is_accepted, is_end, is_finished, is_readable, is_refused, on_end, is_fresh_with, with_pending}
use Rattle.sx_model.specs.Changes.{on_module, on_present, opens_ask, opens_end, opens_standing, protects, reacted, reads_from, refuses, resets, steps, takes_at}
use Rattle.sx_model.specs.Changes.{takes_fresh, takes_idle, vouches, with_stale, word_at, writes, writes_present}

if_none : {A : Type 0} → (b : Bool) → if_so {A = A} b None ≡ None
if_none true = refl
if_none false = refl

if_then : {A B : Type 0} → (b : Bool) (y : A) (f : A → Option B) → (if_so b (Some y) >>? f) ≡ if_so b (f y)
if_then true y f = refl
if_then false y f = refl

if_then_then : {A B C : Type 0} → (b : Bool) (y : A) (f : A → Option B) (g : B → Option C) → ((if_so b (Some y) >>? f) >>? g) ≡ if_so b (f y >>? g)
if_then_then true y f g = refl
if_then_then false y f g = refl

if_both : {A : Type 0} → (a b : Bool) (o : Option A) → if_so (a && b) o ≡ if_so a (if_so b o)
if_both true b o = refl
if_both false b o = refl

and_comm : (a b : Bool) → (a && b) ≡ (b && a)
and_comm true true = refl
and_comm true false = refl
and_comm false true = refl
and_comm false false = refl

reset_same : (app : AppTree) (s : Model) (n : ℕ) → (slice_get s.boots n >>? (λ boot. Some (reset_at app s n boot))) ≡ resets app s n
reset_same app s n =
    elim (slice_get_cases s.boots n).1 [
      | inl w ↦
          let there : nat_lt n (length s.boots) ≡ true = let lt : n < length s.boots = w.1 in grind (arith, nat_tests) in
          let is : slice_index s.boots n ≡ w.0 = get_or_from_slice_get s.boots n w.0 0 w.2 in
          rw (w.2, there, is) refl
      | inr w ↦
          let past : nat_lt n (length s.boots) ≡ false = let le = w.0 in grind (arith, nat_tests) in
          rw (w.1, past) refl
    ]

drain_same : (s : Model) (d : ℕ) (free : Bool) (o : Option Reading) →
    (o >>? (λ r. state_if (r.fresh && free) (with_device s d (record r { fresh = false })))) ≡
    ((o >>? (λ r. takes_fresh free r >>? (λ y. Some (slice_set s.devices d y)))) >>? (λ rs. Some (record s { devices = rs })))
drain_same s d free None = refl
drain_same s d free (Some r) =
    ap (λ b. state_if b (with_device s d (record r { fresh = false }))) (and_comm r.fresh free)
    ∙ sym (if_then_then (free && r.fresh) (record r { fresh = false }) (λ y. Some (slice_set s.devices d y)) (λ rs. Some (record s { devices = rs })))

protect_one : (s : Model) (m : ℕ) (p : Present) (a : Bool) (o : Option Standing) →
    (o >>? (λ x. state_if (a && is_none x.present) (with_present s m x p))) ≡
    if_so a ((o >>? (λ x. if_so (is_none x.present) (Some (record x { present = Some p })) >>? (λ y. Some (slice_set s.modules m y)))) >>? (λ xs. Some (record s { modules = xs })))
protect_one s m p a None = sym (if_none a)
protect_one s m p a (Some x) =
    if_both a (is_none x.present) (Some (with_present s m x p))
    ∙ ap (λ o. if_so a o) (sym (if_then_then (is_none x.present) (record x { present = Some p }) (λ y. Some (slice_set s.modules m y)) (λ xs. Some (record s { modules = xs }))))

protect_same : (app : AppTree) (s : Model) (n m : ℕ) (o : Option PartTree) →
    (o >>? (λ q. slice_get s.modules m >>? (λ x. state_if ((q.node == n) && is_none x.present) (with_present s m x (first_present q.tree (ends_of app m)))))) ≡
    (o >>? (λ q. if_so (q.node == n) (on_module s m (protects q.tree (ends_of app m)))))
protect_same app s n m None = refl
protect_same app s n m (Some q) = protect_one s m (first_present q.tree (ends_of app m)) (q.node == n) (slice_get s.modules m)

ask_same : (s : Model) (m a : ℕ) (o : Option Standing) →
    (o >>? (λ x. state_if (a == s.asks) (record (with_standing s m (record x { asked = Some a })) { asks = s.asks + 1 }))) ≡
    if_so (a == s.asks) (((o >>? (λ x. opens_ask a x >>? (λ y. Some (slice_set s.modules m y)))) >>? (λ xs. Some (record s { modules = xs }))) >>? (λ t. Some (record t { asks = t.asks + 1 })))
ask_same s m a None = sym (if_none (a == s.asks))
ask_same s m a (Some x) = refl

attest_one : (s : Model) (m b : ℕ) (x : Standing) (epochs : List ℕ) (may : Bool) (o : Option ℕ) →
    (o >>? (λ a. state_if (is_vouched a b x.vouched && may) (record (with_standing s m (record x { asked = None; attested = Some (record { boot = b; floors = epochs }) })) { epochs = epochs }))) ≡
    if_so (answers o b x.vouched && may) (Some (record (with_standing s m (record x { asked = None; attested = Some (record { boot = b; floors = epochs }) })) { epochs = epochs }))
attest_one s m b x epochs may None = refl
attest_one s m b x epochs may (Some a) = refl

attest_same : (app : AppTree) (s : Model) (m b : ℕ) (o : Option Standing) → slice_get s.modules m ≡ o →
    (o >>? (λ x. x.asked >>? (λ a.
    state_if (is_vouched a b x.vouched && may_attest m app.links s.epochs (boot_of x.attested) b)
    (record (with_standing s m (record x { asked = None; attested = Some (record { boot = b; floors = renewed m app.links (boot_of x.attested) s.epochs }) }))
    { epochs = renewed m app.links (boot_of x.attested) s.epochs })))) ≡
    ((o >>? (λ x. if_so (is_accepted m app.links s.epochs b x) (Some (renewed m app.links (boot_of x.attested) s.epochs)))) >>? (λ epochs. accepts_with s m b epochs))
attest_same app s m b None e = refl
attest_same app s m b (Some x) e =
    let epochs = renewed m app.links (boot_of x.attested) s.epochs in
    let done : accepts_with s m b epochs ≡ Some (record (with_standing s m (record x { asked = None; attested = Some (record { boot = b; floors = epochs }) })) { epochs = epochs }) = rw e refl in
    attest_one s m b x epochs (may_attest m app.links s.epochs (boot_of x.attested) b) x.asked
    ∙ ap (λ r. if_so (is_accepted m app.links s.epochs b x) r) (sym done)
    ∙ sym (if_then (is_accepted m app.links s.epochs b x) epochs (λ es. accepts_with s m b es))

vouch_one : (s : Model) (m a : ℕ) (x : Standing) (ob : Option ℕ) (op : Option Present) →
    (op >>? (λ p. ob >>? (λ boot. Some (with_standing s m (record x {
      present = Some (with_pending p (Some (record { emits = []; pieces = 1 })));
      vouched = x.vouched ++ record { challenge = a; boot = boot } ∷ [];
    }))))) ≡
    (ob >>? (λ boot. (((op >>? (λ p. Some (record x {
      present = Some (with_pending p (Some (record { emits = []; pieces = 1 })));
      vouched = x.vouched ++ record { challenge = a; boot = boot } ∷ [];
    }))) >>? (λ y. Some (slice_set s.modules m y))) >>? (λ xs. Some (record s { modules = xs })))))
vouch_one s m a x None None = refl
vouch_one s m a x None (Some p) = refl
vouch_one s m a x (Some boot) None = refl
vouch_one s m a x (Some boot) (Some p) = refl

vouch_two : (s : Model) (m a : ℕ) (ob : Option ℕ) (ox : Option Standing) →
    (ox >>? (λ x. idle x >>? (λ p. ob >>? (λ boot. Some (with_standing s m (record x {
      present = Some (with_pending p (Some (record { emits = []; pieces = 1 })));
      vouched = x.vouched ++ record { challenge = a; boot = boot } ∷ [];
    })))))) ≡
    (ob >>? (λ boot. (ox >>? (λ x. vouches a boot x >>? (λ y. Some (slice_set s.modules m y)))) >>? (λ xs. Some (record s { modules = xs }))))
vouch_two s m a None None = refl
vouch_two s m a (Some boot) None = refl
vouch_two s m a ob (Some x) = vouch_one s m a x ob (idle x)

vouch_same : (s : Model) (m a : ℕ) (o : Option PartTree) →
    (o >>? (λ q. slice_get s.modules m >>? (λ x. idle x >>? (λ p. slice_get s.boots q.node >>? (λ boot. Some (with_standing s m (record x {
      present = Some (with_pending p (Some (record { emits = []; pieces = 1 })));
      vouched = x.vouched ++ record { challenge = a; boot = boot } ∷ [];
    }))))))) ≡
    (o >>? (λ q. slice_get s.boots q.node >>? (λ boot. on_module s m (vouches a boot))))
vouch_same s m a None = refl
vouch_same s m a (Some q) = vouch_two s m a (slice_get s.boots q.node) (slice_get s.modules m)

-- an end's place, and its change

one_on : {A : Type 0} → (p : A → Bool) (n : ℕ) (x : A) (xs : List A) (b : Bool) → position_from p ((n + 1) + 1) xs ≡ (position_from p (n + 1) xs >>? (λ i. Some (i + 1))) →
    (if b then Some (n + 1) else position_from p ((n + 1) + 1) xs) ≡ ((if b then Some n else position_from p (n + 1) xs) >>? (λ i. Some (i + 1)))
one_on p n x xs true e = refl
one_on p n x xs false e = e

places_on : {A : Type 0} → (p : A → Bool) (n : ℕ) (xs : List A) → position_from p (n + 1) xs ≡ (position_from p n xs >>? (λ i. Some (i + 1)))
places_on p n [] = refl
places_on p n (x ∷ xs) = one_on p n x xs (p x) (places_on p (n + 1) xs)

put_behind : (view : EndView) (views : List EndView) (i : ℕ) (change : EndView → Option EndView) (o : Option EndView) →
    (o >>? (λ x. change x >>? (λ y. Some (view ∷ slice_set views i y)))) ≡ ((o >>? (λ x. change x >>? (λ y. Some (slice_set views i y)))) >>? (λ vs. Some (view ∷ vs)))
put_behind view views i change None = refl
put_behind view views i change (Some x) = put_changed view views i (change x) where
  put_changed : (view : EndView) (views : List EndView) (i : ℕ) (o : Option EndView) →
      (o >>? (λ y. Some (view ∷ slice_set views i y))) ≡ ((o >>? (λ y. Some (slice_set views i y))) >>? (λ vs. Some (view ∷ vs)))
  put_changed view views i None = refl
  put_changed view views i (Some y) = refl

at_next : (view : EndView) (views : List EndView) (i : ℕ) (change : EndView → Option EndView) →
    at_index (view ∷ views) (i + 1) change ≡ (at_index views i change >>? (λ vs. Some (view ∷ vs)))
at_next view views i change = rw add-one (put_behind view views i change (slice_get views i))

at_next_place : (view : EndView) (views : List EndView) (change : EndView → Option EndView) (o : Option ℕ) →
    ((o >>? (λ i. at_index views i change)) >>? (λ vs. Some (view ∷ vs))) ≡ ((o >>? (λ i. Some (i + 1))) >>? (λ i. at_index (view ∷ views) i change))
at_next_place view views change None = refl
at_next_place view views change (Some i) = sym (at_next view views i change)

no_view : (change : EndView → Option EndView) (o : Option ℕ) → None ≡ (o >>? (λ i. at_index [] i change))
no_view change None = refl
no_view change (Some i) = refl

change_one : (change : EndView → Option EndView) (c : ℕ) (side : Side) (es : List End) (view : EndView) (views : List EndView) (b : Bool) →
    changed_views change c side es views ≡ on_end change c side es views →
    (if b then change view >>? (λ v. Some (v ∷ views)) else changed_views change c side es views >>? (λ vs. Some (view ∷ vs))) ≡
    ((if b then Some 0 else position_from (is_end c side) (0 + 1) es) >>? (λ i. at_index (view ∷ views) i change))
change_one change c side es view views true e = refl
change_one change c side es view views false e =
    ap (λ o. o >>? (λ vs. Some (view ∷ vs))) e
    ∙ at_next_place view views change (position_from (is_end c side) 0 es)
    ∙ ap (λ o. o >>? (λ i. at_index (view ∷ views) i change)) (sym (places_on (is_end c side) 0 es))

changed_is : (change : EndView → Option EndView) (c : ℕ) (side : Side) (es : List End) (views : List EndView) →
    changed_views change c side es views ≡ on_end change c side es views
changed_is change c side [] views = refl
changed_is change c side (e ∷ es) [] = no_view change (position_from (is_end c side) 0 (e ∷ es))
changed_is change c side (e ∷ es) (view ∷ views) = change_one change c side es view views (is_end c side e) (changed_is change c side es views)

-- an end opens

open_ends : (s : Model) (m : ℕ) (x : Standing) (p : Present) (may : Bool) (o : Option (List EndView)) →
    (o >>? (λ views. state_if may (with_present s m x (record p { ends = views; pending = Some (record { emits = []; pieces = 0 }) })))) ≡
    (((if_so may (o >>? (λ views. Some (record p { ends = views; pending = Some (record { emits = []; pieces = 0 }) }))) >>? (λ q. Some (record x { present = Some q })))
    >>? (λ y. Some (slice_set s.modules m y))) >>? (λ xs. Some (record s { modules = xs })))
open_ends s m x p true None = refl
open_ends s m x p true (Some views) = refl
open_ends s m x p false None = refl
open_ends s m x p false (Some views) = refl

open_idle : (s : Model) (m c : ℕ) (side : Side) (epoch : ℕ) (es : List End) (x : Standing) (p : Present) (now : ℕ) (i : Bool) (ob : Option ℕ) →
    ((if i then Some p else None) >>? (λ p. ob >>? (λ boot. changed_views (opens epoch) c side es p.ends >>? (λ views.
    state_if (may_open x.attested boot c epoch now) (with_present s m x (record p { ends = views; pending = Some (record { emits = []; pieces = 0 }) })))))) ≡
    (ob >>? (λ boot. ((if_so (i && may_open x.attested boot c epoch now)
    (on_end (opens epoch) c side es p.ends >>? (λ views. Some (record p { ends = views; pending = Some (record { emits = []; pieces = 0 }) })))
    >>? (λ q. Some (record x { present = Some q }))) >>? (λ y. Some (slice_set s.modules m y))) >>? (λ xs. Some (record s { modules = xs }))))
open_idle s m c side epoch es x p now false None = refl
open_idle s m c side epoch es x p now false (Some boot) = refl
open_idle s m c side epoch es x p now true None = refl
open_idle s m c side epoch es x p now true (Some boot) =
    let may = may_open x.attested boot c epoch now in
    ap (λ o. o >>? (λ views. state_if may (with_present s m x (record p { ends = views; pending = Some (record { emits = []; pieces = 0 }) })))) (changed_is (opens epoch) c side es p.ends)
    ∙ open_ends s m x p may (on_end (opens epoch) c side es p.ends)

open_present : (s : Model) (m c : ℕ) (side : Side) (epoch : ℕ) (es : List End) (x : Standing) (now : ℕ) (ob : Option ℕ) (op : Option Present) →
    ((op >>? (λ p. if is_none p.pending then Some p else None)) >>? (λ p. ob >>? (λ boot. changed_views (opens epoch) c side es p.ends >>? (λ views.
    state_if (may_open x.attested boot c epoch now) (with_present s m x (record p { ends = views; pending = Some (record { emits = []; pieces = 0 }) })))))) ≡
    (ob >>? (λ boot. ((op >>? (λ p. opens_end (may_open x.attested boot c epoch now) epoch c side es p >>? (λ q. Some (record x { present = Some q })))) >>? (λ y. Some (slice_set s.modules m y)))
    >>? (λ xs. Some (record s { modules = xs }))))
open_present s m c side epoch es x now None None = refl
open_present s m c side epoch es x now (Some boot) None = refl
open_present s m c side epoch es x now ob (Some p) = open_idle s m c side epoch es x p now (is_none p.pending) ob

open_standing : (s : Model) (m c : ℕ) (side : Side) (epoch : ℕ) (es : List End) (now : ℕ) (ob : Option ℕ) (ox : Option Standing) →
    (ox >>? (λ x. idle x >>? (λ p. ob >>? (λ boot. changed_views (opens epoch) c side es p.ends >>? (λ views.
    state_if (may_open x.attested boot c epoch now) (with_present s m x (record p { ends = views; pending = Some (record { emits = []; pieces = 0 }) }))))))) ≡
    (ob >>? (λ boot. (ox >>? (λ x. opens_standing boot now c side epoch es x >>? (λ y. Some (slice_set s.modules m y)))) >>? (λ xs. Some (record s { modules = xs }))))
open_standing s m c side epoch es now None None = refl
open_standing s m c side epoch es now (Some boot) None = refl
open_standing s m c side epoch es now ob (Some x) = open_present s m c side epoch es x now ob x.present

open_same : (app : AppTree) (s : Model) (m c : ℕ) (side : Side) (epoch : ℕ) (o : Option PartTree) →
    (o >>? (λ q. slice_get s.modules m >>? (λ x. idle x >>? (λ p. slice_get s.boots q.node >>? (λ boot.
    changed_views (opens epoch) c side (ends_of app m) p.ends >>? (λ views.
    state_if (may_open x.attested boot c epoch (slice_index s.epochs c))
    (with_present s m x (record p { ends = views; pending = Some (record { emits = []; pieces = 0 }) })))))))) ≡
    (o >>? (λ q. slice_get s.boots q.node >>? (λ boot. on_module s m (opens_standing boot (slice_index s.epochs c) c side epoch (ends_of app m)))))
open_same app s m c side epoch None = refl
open_same app s m c side epoch (Some q) = open_standing s m c side epoch (ends_of app m) (slice_index s.epochs c) (slice_get s.boots q.node) (slice_get s.modules m)

write_owed : (s : Model) (m : ℕ) (x : Standing) (p : Present) (o : Option Pending) →
    (o >>? (λ left. Some (with_present s m x (with_pending p (Some left))))) ≡
    ((((o >>? (λ left. Some (with_pending p (Some left)))) >>? (λ q. Some (record x { present = Some q }))) >>? (λ y. Some (slice_set s.modules m y))) >>? (λ xs. Some (record s { modules = xs })))
write_owed s m x p None = refl
write_owed s m x p (Some left) = refl

write_pending : (s : Model) (m v : ℕ) (x : Standing) (p : Present) (o : Option Pending) →
    (o >>? (λ owed. without_first v owed.emits owed.pieces >>? (λ left. Some (with_present s m x (with_pending p (Some left)))))) ≡
    ((((o >>? (λ owed. writes v owed >>? (λ left. Some (with_pending p (Some left))))) >>? (λ q. Some (record x { present = Some q }))) >>?
    (λ y. Some (slice_set s.modules m y))) >>? (λ xs. Some (record s { modules = xs })))
write_pending s m v x p None = refl
write_pending s m v x p (Some owed) = write_owed s m x p (without_first v owed.emits owed.pieces)

write_present : (s : Model) (m v : ℕ) (x : Standing) (o : Option Present) →
    (o >>? (λ p. p.pending >>? (λ owed. without_first v owed.emits owed.pieces >>? (λ left. Some (with_present s m x (with_pending p (Some left))))))) ≡
    (((o >>? (λ p. writes_present v p >>? (λ q. Some (record x { present = Some q })))) >>? (λ y. Some (slice_set s.modules m y))) >>? (λ xs. Some (record s { modules = xs })))
write_present s m v x None = refl
write_present s m v x (Some p) = write_pending s m v x p p.pending

write_same : (s : Model) (m v : ℕ) (ox : Option Standing) →
    (ox >>? (λ x. x.present >>? (λ p. p.pending >>? (λ owed. without_first v owed.emits owed.pieces >>? (λ left.
    Some (with_present s m x (with_pending p (Some left)))))))) ≡
    ((ox >>? (λ x. on_present (writes_present v) x >>? (λ y. Some (slice_set s.modules m y)))) >>? (λ xs. Some (record s { modules = xs })))
write_same s m v None = refl
write_same s m v (Some x) = write_present s m v x x.present

-- an invocation that is done, or refused

finish_pending : (s : Model) (m k : ℕ) (x : Standing) (p : Present) (o : Option Pending) →
    (o >>? (λ owed. state_if (is_nothing owed.emits && (k == owed.pieces)) (with_present s m x (with_pending p None)))) ≡
    ((((o >>? (λ owed. if_so (is_finished k owed) (Some (with_pending p None)))) >>? (λ q. Some (record x { present = Some q }))) >>?
    (λ y. Some (slice_set s.modules m y))) >>? (λ xs. Some (record s { modules = xs })))
finish_pending s m k x p None = refl
finish_pending s m k x p (Some owed) = finish_if (is_finished k owed) where
  finish_if : (b : Bool) → state_if b (with_present s m x (with_pending p None)) ≡
      (((if_so b (Some (with_pending p None)) >>? (λ q. Some (record x { present = Some q }))) >>? (λ y. Some (slice_set s.modules m y))) >>? (λ xs. Some (record s { modules = xs })))
  finish_if true = refl
  finish_if false = refl

done_present : (app : AppTree) (s : Model) (m status k : ℕ) (waiting b : Bool) (x : Standing) (o : Option Present) →
    (o >>? (λ p. if b then p.pending >>? (λ owed. state_if (is_nothing owed.emits && (k == owed.pieces)) (with_present s m x (with_pending p None)))
    else state_if ((nat_le 2 status && nat_le status 8) && ((k == 0) && (is_none p.pending && (not (status == 8) || waiting)))) s)) ≡
    (if b then ((o >>? (λ p. finishes k p >>? (λ q. Some (record x { present = Some q })))) >>? (λ y. Some (slice_set s.modules m y))) >>? (λ xs. Some (record s { modules = xs }))
    else if_so (refuses status k waiting o) (Some s))
done_present app s m status k waiting true x None = refl
done_present app s m status k waiting false x None = refl
done_present app s m status k waiting true x (Some p) = finish_pending s m k x p p.pending
done_present app s m status k waiting false x (Some p) = refl

done_standing : (app : AppTree) (s : Model) (m status k : ℕ) (waiting b : Bool) (ox : Option Standing) →
    (ox >>? (λ x. x.present >>? (λ p. if b then p.pending >>? (λ owed. state_if (is_nothing owed.emits && (k == owed.pieces)) (with_present s m x (with_pending p None)))
    else state_if ((nat_le 2 status && nat_le status 8) && ((k == 0) && (is_none p.pending && (not (status == 8) || waiting)))) s))) ≡
    (if b then (ox >>? (λ x. on_present (finishes k) x >>? (λ y. Some (slice_set s.modules m y)))) >>? (λ xs. Some (record s { modules = xs }))
    else if_so (is_refused status k waiting ox) (Some s))
done_standing app s m status k waiting true None = refl
done_standing app s m status k waiting false None = refl
done_standing app s m status k waiting b (Some x) = done_present app s m status k waiting b x x.present

done_same : (app : AppTree) (s : Model) (m status k : ℕ) (o : Option PartTree) →
    (o >>? (λ q. slice_get s.modules m >>? (λ x. x.present >>? (λ p.
    if status == 1 then p.pending >>? (λ owed. state_if (is_nothing owed.emits && (k == owed.pieces)) (with_present s m x (with_pending p None)))
    else state_if ((nat_le 2 status && nat_le status 8) && ((k == 0) && (is_none p.pending && (not (status == 8) || waits app s.devices q.device)))) s)))) ≡
    (o >>? (λ q. if status == 1 then on_module s m (on_present (finishes k)) else if_so (is_refused status k (waits app s.devices q.device) (slice_get s.modules m)) (Some s)))
done_same app s m status k None = refl
done_same app s m status k (Some q) = done_standing app s m status k (waits app s.devices q.device) (status == 1) (slice_get s.modules m)

-- reactions

reacted_is : (app : AppTree) (s : Model) (m : ℕ) (q : PartTree) (x : Standing) (p : Present) (e : SourceEvent) → slice_get s.modules m ≡ Some x →
    reacted q.tree (ends_of app m) e s m p ≡ reacts app s m q x p e
unfolding reacted
reacted_is app s m q x p e is = rw is refl

take_views : (b : Bool) (p : Present) (before : List EndView → Model) (after : Present → Model) (o : Option (List EndView))
    → ((views : List EndView) → before views ≡ after (record p { ends = views })) →
    (o >>? (λ views. state_if b (before views))) ≡ if_so b ((o >>? (λ views. Some (record p { ends = views }))) >>? (λ next. Some (after next)))
take_views b p before after None same = sym (if_none b)
take_views b p before after (Some views) same = ap (λ t. state_if b t) (same views)

take_words : (app : AppTree) (s : Model) (m c i v input : ℕ) (q : PartTree) (x : Standing) (p : Present) (o : Option (List ℕ)) → slice_get s.modules m ≡ Some x →
    (o >>? (λ words. changed_views (takes (i / 65536) (i % 65536)) c To (ends_of app m) p.ends >>? (λ views.
    state_if (contains (slice_get words (i % 65536)) v) (reacts app s m q x (record p { ends = views }) (event.Input input v))))) ≡
    if_so (contains (o >>? (λ words. slice_get words (i % 65536))) v) (takes_idle app s m q c i input v p)
take_words app s m c i v input q x p None is = refl
take_words app s m c i v input q x p (Some words) is =
    let b = contains (slice_get words (i % 65536)) v in
    ap (λ o. o >>? (λ views. state_if b (reacts app s m q x (record p { ends = views }) (event.Input input v)))) (changed_is (takes (i / 65536) (i % 65536)) c To (ends_of app m) p.ends)
    ∙ take_views b p (λ views. reacts app s m q x (record p { ends = views }) (event.Input input v)) (λ next. reacted q.tree (ends_of app m) (event.Input input v) s m next)
    (on_end (takes (i / 65536) (i % 65536)) c To (ends_of app m) p.ends)
    (λ views. sym (reacted_is app s m q x (record p { ends = views }) (event.Input input v) is))

take_idle : (app : AppTree) (s : Model) (m c i v : ℕ) (q : PartTree) (x : Standing) (ol : Option Link) (op : Option Present) → slice_get s.modules m ≡ Some x →
    (op >>? (λ p. ol >>? (λ l. slice_get s.sent (c + 256 * (i / 65536)) >>? (λ words. changed_views (takes (i / 65536) (i % 65536)) c To (ends_of app m) p.ends >>? (λ views.
    state_if (contains (slice_get words (i % 65536)) v) (reacts app s m q x (record p { ends = views }) (event.Input l.input v))))))) ≡
    (ol >>? (λ l. if_so (contains (word_at s.sent c i) v) (op >>? (λ p. takes_idle app s m q c i l.input v p))))
take_idle app s m c i v q x None None is = refl
take_idle app s m c i v q x (Some l) None is = sym (if_none (contains (word_at s.sent c i) v))
take_idle app s m c i v q x None (Some p) is = refl
take_idle app s m c i v q x (Some l) (Some p) is = take_words app s m c i v l.input q x p (slice_get s.sent (c + 256 * (i / 65536))) is

take_standing : (app : AppTree) (s : Model) (m c i v : ℕ) (q : PartTree) (ol : Option Link) (ox : Option Standing) → slice_get s.modules m ≡ ox →
    (ox >>? (λ x. idle x >>? (λ p. ol >>? (λ l. slice_get s.sent (c + 256 * (i / 65536)) >>? (λ words. changed_views (takes (i / 65536) (i % 65536)) c To (ends_of app m) p.ends >>? (λ views.
    state_if (contains (slice_get words (i % 65536)) v) (reacts app s m q x (record p { ends = views }) (event.Input l.input v)))))))) ≡
    (ol >>? (λ l. if_so (contains (word_at s.sent c i) v) ((ox >>? idle) >>? (λ p. takes_idle app s m q c i l.input v p))))
take_standing app s m c i v q None None is = refl
take_standing app s m c i v q (Some l) None is = sym (if_none (contains (word_at s.sent c i) v))
take_standing app s m c i v q ol (Some x) is = take_idle app s m c i v q x ol (idle x) is

take_same : (app : AppTree) (s : Model) (m c i v : ℕ) (o : Option PartTree) →
    (o >>? (λ q. slice_get s.modules m >>? (λ x. idle x >>? (λ p. slice_get app.links c >>? (λ l. slice_get s.sent (c + 256 * (i / 65536)) >>? (λ words.
    changed_views (takes (i / 65536) (i % 65536)) c To (ends_of app m) p.ends >>? (λ views.
    state_if (contains (slice_get words (i % 65536)) v)
    (reacts app s m q x (record p { ends = views }) (event.Input l.input v))))))))) ≡
    (o >>? (λ q. slice_get app.links c >>? (λ l. if_so (contains (word_at s.sent c i) v) (takes_at app s m q c i l.input v))))
take_same app s m c i v None = refl
take_same app s m c i v (Some q) = take_standing app s m c i v q (slice_get app.links c) (slice_get s.modules m) refl

read_device : (app : AppTree) (s : Model) (m d v : ℕ) (q : PartTree) (x : Standing) (p : Present) (o : Option Reading) → slice_get s.modules m ≡ Some x → slice_get s.devices d ≡ o →
    (o >>? (λ r. state_if (kind_is is_sensor (slice_get app.devices d) && is_fresh_with v r) (reacts app (with_device s d (record r { fresh = false })) m q x p (event.Sample v)))) ≡
    if_so (is_readable app d v o) (Some (with_stale d (reacted q.tree (ends_of app m) (event.Sample v) s m p)))
read_device app s m d v q x p None is there = refl
read_device app s m d v q x p (Some r) is there =
    let old : with_stale d (reacts app s m q x p (event.Sample v)) ≡ reacts app (with_device s d (record r { fresh = false })) m q x p (event.Sample v) = rw there refl in
    ap (λ t. state_if (kind_is is_sensor (slice_get app.devices d) && is_fresh_with v r) t) (sym old ∙ ap (λ t. with_stale d t) (sym (reacted_is app s m q x p (event.Sample v) is)))

read_idle : (app : AppTree) (s : Model) (m v : ℕ) (q : PartTree) (x : Standing) (od : Option ℕ) (op : Option Present) → slice_get s.modules m ≡ Some x →
    (op >>? (λ p. od >>? (λ d. slice_get s.devices d >>? (λ r.
    state_if (kind_is is_sensor (slice_get app.devices d) && is_fresh_with v r) (reacts app (with_device s d (record r { fresh = false })) m q x p (event.Sample v)))))) ≡
    (od >>? (λ d. if_so (is_readable app d v (slice_get s.devices d)) (op >>? (λ p. Some (with_stale d (reacted q.tree (ends_of app m) (event.Sample v) s m p))))))
read_idle app s m v q x None None is = refl
read_idle app s m v q x (Some d) None is = sym (if_none (is_readable app d v (slice_get s.devices d)))
read_idle app s m v q x None (Some p) is = refl
read_idle app s m v q x (Some d) (Some p) is = read_device app s m d v q x p (slice_get s.devices d) is refl

read_standing : (app : AppTree) (s : Model) (m v : ℕ) (q : PartTree) (od : Option ℕ) (ox : Option Standing) → slice_get s.modules m ≡ ox →
    (ox >>? (λ x. idle x >>? (λ p. od >>? (λ d. slice_get s.devices d >>? (λ r.
    state_if (kind_is is_sensor (slice_get app.devices d) && is_fresh_with v r) (reacts app (with_device s d (record r { fresh = false })) m q x p (event.Sample v))))))) ≡
    (od >>? (λ d. if_so (is_readable app d v (slice_get s.devices d)) ((ox >>? idle) >>? (λ p. Some (with_stale d (reacted q.tree (ends_of app m) (event.Sample v) s m p))))))
read_standing app s m v q None None is = refl
read_standing app s m v q (Some d) None is = sym (if_none (is_readable app d v (slice_get s.devices d)))
read_standing app s m v q od (Some x) is = read_idle app s m v q x od (idle x) is

read_same : (app : AppTree) (s : Model) (m v : ℕ) (o : Option PartTree) →
    (o >>? (λ q. slice_get s.modules m >>? (λ x. idle x >>? (λ p. q.device >>? (λ d. slice_get s.devices d >>? (λ r.
    state_if (kind_is is_sensor (slice_get app.devices d) && is_fresh_with v r)
    (reacts app (with_device s d (record r { fresh = false })) m q x p (event.Sample v)))))))) ≡
    (o >>? (λ q. q.device >>? (λ d. reads_from app s m q d v)))
read_same app s m v None = refl
read_same app s m v (Some q) = read_standing app s m v q q.device (slice_get s.modules m) refl

-- each item
pub steps_are : (app : AppTree) (s : Model) (item : Item) → step app s item ≡ steps app s item
steps_are app s (Reset n cause) = reset_same app s n
steps_are app s (Protect n None) = refl
steps_are app s (Protect n (Some m)) = protect_same app s n m (slice_get app.parts m)
steps_are app s (Sense d v) = refl
steps_are app s (Read m v) = read_same app s m v (slice_get app.parts m)
steps_are app s (Drain d) = drain_same s d (kind_is is_sensor (slice_get app.devices d) && is_undriven app.parts s.modules d) (slice_get s.devices d)
steps_are app s (Ask m a) = ask_same s m a (slice_get s.modules m)
steps_are app s (Attested m b) = attest_same app s m b (slice_get s.modules m) refl
steps_are app s (Denied m) = refl
steps_are app s (Vouch m a) = vouch_same s m a (slice_get app.parts m)
steps_are app s (Open m c side epoch) = open_same app s m c side epoch (slice_get app.parts m)
steps_are app s (Take m c i v) = take_same app s m c i v (slice_get app.parts m)
steps_are app s (Out m v) = write_same s m v (slice_get s.modules m)
steps_are app s (Raw d v) = refl
steps_are app s (Done m status k) = done_same app s m status k (slice_get app.parts m)
steps_are app s (Packet k n) = refl
steps_are app s (Forged m) = refl
steps_are app s (Busy n) = refl
steps_are app s (Skip n) = refl
steps_are app s (Budget n) = refl
