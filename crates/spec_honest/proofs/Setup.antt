-- The set-up's items lead the source model from power-on to where each module is present with all of its ends open.
use Rattle.std.proofs.Common.{◌≡◌, ℕ, zero, suc, ◌+◌, ◌<◌, ◌≤◌, inl, inr, ◌==◌, ◌&&◌, true, false, List, [], ◌∷◌, ◌++◌, length, map, replicate, Option, Some}
use Rattle.std.proofs.Common.{None, slice_get, append_assoc, zero-add, add-zero, refl, sym, ap, ◌∙◌, subst, arith}
use Rattle.std.specs.Prelude.{slice_set, slice_index, slice_index_or}
use Rattle.std.specs.List.{AllPairs}
use Rattle.std.proofs.lemmas.Bool.{cases_eq, eq-eqb}
use Rattle.std.proofs.lemmas.Bool.Decides.{nat_tests}
use Rattle.std.proofs.lemmas.List.{length-append, set-set}
use Rattle.std.proofs.lemmas.Option.{get_or_from_slice_get, same_Some, slice_get_within}
use Rattle.sx_lang.specs.declared.sides.Side.{Side}
use Rattle.sx_lang.specs.declared.sides.Side.TheVariants.{From, To}
use Rattle.sx_mean.specs.declared.apps.Link.{Link}
use Rattle.sx_mean.specs.declared.events.End.{End}
use Rattle.sx_mean.specs.Application.{AppTree, PartTree}
use Rattle.sx_mean.specs.Validity.{is_valid}
use Rattle.sx_mean.specs.Ends.{ends_of, same_side}
use Rattle.sx_mean.specs.EndLaws.{IsBefore}
use Rattle.sx_mean.specs.Places.{initial_cells}
use Rattle.sx_mean.proofs.Ends.{ends_hold, same_side-refl}
use Rattle.sx_mean.proofs.ValidApplications.{valid_applications}
use Rattle.sx_trace.specs.declared.items.Item.{Item}
use Rattle.sx_trace.specs.declared.items.Item.TheVariants as item
use Rattle.sx_model.specs.State.{EndView, FIELDS, Model, Present, Reading, Standing, power_on}
use Rattle.sx_model.specs.Renewal.{may_open, opens}
use Rattle.sx_model.specs.Step.{changed_views, first_present, idle, step, with_present, with_standing}
use Rattle.sx_model.specs.Legal.{after}
use Rattle.spec_honest.specs.Plain.{plain_start}
use Rattle.spec_honest.specs.Course.{open_items, packet_items, part_items, parts_items}
use Rattle.spec_honest.proofs.Agreement.{Agrees, IsPresent, next_of, present_as, view_of}
use Rattle.spec_honest.proofs.Sending.{SentAs}
use Rattle.spec_honest.proofs.Events.{done_step, owing, ran_first, ran_on, ran_packets}
use Rattle.sx_model.proofs.Written.{get_other}
use Rattle.sx_model.specs.Changes.{with_pending}
use Rattle.sx_model.proofs.Idle.{idle_as}
use Rattle.sx_model.proofs.ReadsAreSensed.{first_stale}
use Rattle.lemmas.proofs.Lists.{get_same, get_mid}

-- The ends open one by one.

-- a change of the first end that is asked for
change_at : (change : EndView → Option EndView) (c : ℕ) (side : Side) (es : List End) (views : List EndView) (j : ℕ) (e : End) (v v' : EndView) → slice_get es j ≡ Some e → slice_get views j ≡ Some v
    → ((e.link == c) && same_side e.side side) ≡ true → ((i : ℕ) (a : End) → i < j → slice_get es i ≡ Some a → ((a.link == c) && same_side a.side side) ≡ false) → change v ≡ Some v'
    → changed_views change c side es views ≡ Some (slice_set views j v')
change_at change c side [] views j e v v' f g t before h = absurd cc
change_at change c side (x ∷ es) [] j e v v' f g t before h = absurd cc
change_at change c side (x ∷ es) (y ∷ views) zero e v v' f g t before h =
    let at : ((x.link == c) && same_side x.side side) ≡ true = subst (λ (x : End). ((x.link == c) && same_side x.side side) ≡ true) (sym (same_Some x e f)) t in
    let new : change y ≡ Some v' = (ap change (same_Some y v g) ∙ h) in
    rw (at, new) refl
change_at change c side (x ∷ es) (y ∷ views) (suc j) e v v' f g t before h =
    let not_it : ((x.link == c) && same_side x.side side) ≡ false = before 0 x (omega arith) refl in
    let more = change_at change c side es views j e v v' f g t (λ i a lt k. before (suc i) a (omega (arith, lt)) k) h in
    rw (not_it, more) refl

-- the views where the first so many ends are open
abbrev opened : ℕ → List End → List EndView
opened zero es = map (λ e. record { epoch = None; next = 0 }) es
opened (suc j) [] = []
opened (suc j) (e ∷ es) = record { epoch = Some 0; next = 0 } ∷ opened j es

opened_at : (es : List End) (j : ℕ) (e : End) → slice_get es j ≡ Some e → slice_get (opened j es) j ≡ Some (record { epoch = None; next = 0 })
opened_at [] j e h = absurd cc
opened_at (x ∷ es) zero e h = refl
opened_at (x ∷ es) (suc j) e h = opened_at es j e h

opened_more : (es : List End) (j : ℕ) (e : End) → slice_get es j ≡ Some e → slice_set (opened j es) j (record { epoch = Some 0; next = 0 }) ≡ opened (suc j) es
opened_more [] j e h = absurd cc
opened_more (x ∷ es) zero e h = refl
opened_more (x ∷ es) (suc j) e h = ap (λ (vs : List EndView). record { epoch = Some 0; next = 0 } ∷ vs) (opened_more es j e h)

none_next : (side : Side) (c : ℕ) → next_of side c [] ≡ 0
none_next From c = refl
none_next To c = refl

opened_all : (es : List End) → opened (length es) es ≡ map (view_of []) es
opened_all [] = refl
opened_all (e ∷ es) =
    ap (λ (vs : List EndView). record { epoch = Some 0; next = 0 } ∷ vs) (opened_all es) ∙ ap (λ (n : ℕ). record { epoch = Some 0; next = n } ∷ map (view_of []) es) (sym (none_next e.side e.link))

-- an end is another than those before it
apart : (a e : End) → IsBefore a e → ((a.link == e.link) && same_side a.side e.side) ≡ false
apart a e (inl lt) = let n : (a.link == e.link) ≡ false = (grind (arith, nat_tests)) in rw n refl
apart a e (inr h) = let same : (a.link == e.link) ≡ true = eq-eqb a.link e.link h.0 in rw (same, h.1, h.2) refl

is_itself : (e : End) → ((e.link == e.link) && same_side e.side e.side) ≡ true
is_itself e = let same : (e.link == e.link) ≡ true = eq-eqb e.link e.link refl in rw same (same_side-refl e.side)

opened_next : (es : List End) (j : ℕ) (e : End) → AllPairs IsBefore es → slice_get es j ≡ Some e → changed_views (opens 0) e.link e.side es (opened j es) ≡ Some (opened (suc j) es)
opened_next es j e ordered h =
    change_at (opens 0) e.link e.side es (opened j es) j e (record { epoch = None; next = 0 }) (record { epoch = Some 0; next = 0 }) h (opened_at es j e h) (is_itself e)
    (λ i a lt f.
    let pair = ordered i j e lt (slice_get_within es j e h) in
    apart a e (subst (λ (a : End). IsBefore a e) (get_or_from_slice_get es i a e f) (subst (λ (z : End). IsBefore (slice_index_or es i e) z) (get_or_from_slice_get es j e e h) pair)))
    refl
    ∙ ap (λ (vs : List EndView). Some vs) (opened_more es j e h)

-- Steps of one part, whose standing alone changes.

standing_again : (s : Model) (p : ℕ) (a b : Standing) → with_standing (with_standing s p a) p b ≡ with_standing s p b
standing_again s p a b = ap (λ xs. record s { modules = xs }) (set-set s.modules p a b)

module _ (app : AppTree) (s : Model) (p : ℕ) (q : PartTree) (z : Standing) (part : slice_get app.parts p ≡ Some q) (there : slice_get s.modules p ≡ Some z) where
  stands_at : (y : Standing) → slice_get (with_standing s p y).modules p ≡ Some y
  stands_at y = get_same s.modules p y z there

  protect_step : z.present ≡ None → step app s (item.Protect q.node (Some p)) ≡ Some (with_standing s p (record z { present = Some (first_present q.tree (ends_of app p)) }))
  protect_step absent =
      let same : (q.node == q.node) ≡ true = eq-eqb q.node q.node refl in
      rw (part, there, same, absent) refl

  ask_step : (y : Standing) (a : ℕ) → a ≡ s.asks
      → step app (with_standing s p y) (item.Ask p a) ≡ Some (with_standing (record s { asks = s.asks + 1 }) p (record y { asked = Some a }))
  ask_step y a e =
      let same : (a == s.asks) ≡ true = eq-eqb a s.asks e in
      rw (stands_at y, same) (ap (λ xs. Some (record s { asks = s.asks + 1; modules = xs })) (set-set s.modules p y (record y { asked = Some a })))

  vouch_step : (y : Standing) (r : Present) (a boot : ℕ) → y.present ≡ Some r → r.pending ≡ None → slice_get s.boots q.node ≡ Some boot
      → step app (with_standing s p y) (item.Vouch p a) ≡ Some (with_standing s p (record y {
        present = Some (owing r [] 1);
        vouched = y.vouched ++ record { challenge = a; boot = boot } ∷ [];
      }))
  vouch_step y r a boot present none node =
      let is : idle y ≡ Some r = idle_as y r present none in
      rw (part, stands_at y, is, node) (ap (λ t. Some t) (standing_again s p y (record y {
        present = Some (owing r [] 1);
        vouched = y.vouched ++ record { challenge = a; boot = boot } ∷ [];
      })))

  attest_step : (present : Option Present) (a b : ℕ)
      → step app (with_standing s p (record { present = present; asked = Some a; vouched = record { challenge = a; boot = b } ∷ []; attested = None })) (item.Attested p b)
      ≡ Some (with_standing s p (record { present = present; asked = None; vouched = record { challenge = a; boot = b } ∷ []; attested = Some (record { boot = b; floors = s.epochs }) }))
  attest_step present a b =
      let y : Standing = record { present = present; asked = Some a; vouched = record { challenge = a; boot = b } ∷ []; attested = None } in
      let same_a : (a == a) ≡ true = eq-eqb a a refl in
      let same_b : (b == b) ≡ true = eq-eqb b b refl in
      rw (stands_at y, same_a, same_b) (ap (λ t. Some t) (standing_again s p y (record y { asked = None; attested = Some (record { boot = b; floors = s.epochs }) })))

  open_step : (y : Standing) (r : Present) (c : ℕ) (side : Side) (epoch boot : ℕ) (views : List EndView) → y.present ≡ Some r → r.pending ≡ None → slice_get s.boots q.node ≡ Some boot
      → changed_views (opens epoch) c side (ends_of app p) r.ends ≡ Some views → may_open y.attested boot c epoch (slice_index s.epochs c) ≡ true
      → step app (with_standing s p y) (item.Open p c side epoch) ≡ Some (with_standing s p (record y { present = Some (owing (record r { ends = views }) [] 0) }))
  open_step y r c side epoch boot views present none node ends may =
      let is : idle y ≡ Some r = idle_as y r present none in
      rw (part, stands_at y, is, node, ends, may) (ap (λ t. Some t) (standing_again s p y (record y { present = Some (owing (record r { ends = views }) [] 0) })))

  -- an end opens, and the event is done
  one_open : (y : Standing) (r : Present) (e : End) (views : List EndView) (more : List Item) → y.present ≡ Some r → r.pending ≡ None → slice_get s.boots q.node ≡ Some 0
      → changed_views (opens 0) e.link e.side (ends_of app p) r.ends ≡ Some views → may_open y.attested 0 e.link 0 (slice_index s.epochs e.link) ≡ true
      → after app (with_standing s p y) (item.Open p e.link e.side 0 ∷ item.Done p 1 0 ∷ more)
      ≡ after app (with_standing s p (record y { present = Some (record r { ends = views; pending = None }) })) more
  one_open y r e views more present none node ends may =
      let u : Present = record r { ends = views } in
      ran_first app (item.Open p e.link e.side 0) (item.Done p 1 0 ∷ more) (with_standing s p y) (with_present s p y (owing u [] 0)) (open_step y r e.link e.side 0 0 views present none node ends may)
      ∙ ran_first app (item.Done p 1 0) more (with_present s p y (owing u [] 0)) (with_present s p y (with_pending u None)) (done_step app s p q y z u part there 0)

  -- all of them
  opens_ran : (y : Standing) (cells : List ℕ) → ((c : ℕ) → may_open y.attested 0 c 0 (slice_index s.epochs c) ≡ true) → slice_get s.boots q.node ≡ Some 0 → AllPairs IsBefore (ends_of app p)
      → (front rest : List End) → ends_of app p ≡ front ++ rest
      → after app (with_standing s p (record y { present = Some (record { cells = cells; ends = opened (length front) (ends_of app p); pending = None }) })) (open_items p rest)
      ≡ Some (with_standing s p (record y { present = Some (present_as app p [] cells) }))
  opens_ran y cells may node ordered front [] all =
      let n : length front ≡ length (ends_of app p) = (let l = ap (λ (es : List End). length es) all in let m = length-append front [] in omega (arith, l, m)) in
      ap (λ (k : ℕ). Some (with_standing s p (record y { present = Some (record { cells = cells; ends = opened k (ends_of app p); pending = None }) }))) n
      ∙ ap (λ (vs : List EndView). Some (with_standing s p (record y { present = Some (record { cells = cells; ends = vs; pending = None }) }))) (opened_all (ends_of app p))
  opens_ran y cells may node ordered front (e ∷ rest) all =
      let j = length front in
      let r : Present = record { cells = cells; ends = opened j (ends_of app p); pending = None } in
      let at : slice_get (ends_of app p) j ≡ Some e = (ap (λ (es : List End). slice_get es j) all ∙ get_mid front rest e) in
      let n : length (front ++ e ∷ []) ≡ suc j = (let m = length-append front (e ∷ []) in omega (arith, m)) in
      one_open (record y { present = Some r }) r e (opened (suc j) (ends_of app p)) (open_items p rest) refl refl node (opened_next (ends_of app p) j e ordered at) (may e.link)
      ∙ ap (λ (k : ℕ). after app (with_standing s p (record y { present = Some (record { cells = cells; ends = opened k (ends_of app p); pending = None }) })) (open_items p rest)) (sym n)
      ∙ opens_ran y cells may node ordered (front ++ e ∷ []) rest (all ∙ sym (append_assoc front (e ∷ []) rest))

-- Where the set-up is before the p-th part.

record Ready (app : AppTree) (p : ℕ) (s : Model) : Type 0 where
  boots : s.boots ≡ replicate app.nodes 0
  asks : s.asks ≡ p
  epochs : s.epochs ≡ map (λ l. 0) app.links
  sent : SentAs FIELDS s.sent []
  readings : length s.devices ≡ length app.devices
  stale : (d : ℕ) (r : Reading) → slice_get s.devices d ≡ Some r → r.fresh ≡ false
  before : (k : ℕ) → k < p → k < length app.parts → IsPresent s.modules k (present_as app k [] (slice_index_or (plain_start app).cells k []))
  behind : (k : ℕ) → p ≤ k → k < length app.parts → slice_get s.modules k ≡ Some (record { present = None; asked = None; vouched = []; attested = None })

zeros_at : (n i : ℕ) → i < n → slice_get {X = ℕ} (replicate n 0) i ≡ Some 0
zeros_at zero i h = absurd (omega (arith, h))
zeros_at (suc n) zero h = refl
zeros_at (suc n) (suc i) h = zeros_at n i (omega (arith, h))

zeros_index : (ls : List Link) (c : ℕ) → slice_index (map (λ (l : Link). zero) ls) c ≡ 0
zeros_index [] c = refl
zeros_index (l ∷ ls) zero = refl
zeros_index (l ∷ ls) (suc c) = zeros_index ls c

pub first_cells_at : (qs : List PartTree) (p : ℕ) (q : PartTree) → slice_get qs p ≡ Some q → slice_index_or (map (λ (q : PartTree). initial_cells q.tree.decls) qs) p [] ≡ initial_cells q.tree.decls
first_cells_at [] p q e = absurd cc
first_cells_at (x ∷ qs) zero q e = ap (λ (q : PartTree). initial_cells q.tree.decls) (same_Some x q e)
first_cells_at (x ∷ qs) (suc p) q e = first_cells_at qs p q e

-- the set-up of one part
part_ran : (app : AppTree) (p number : ℕ) (q : PartTree) (s : Model) → is_valid app ≡ true → slice_get app.parts p ≡ Some q → Ready app p s
    → (t : Model) × (after app s (part_items p number q (ends_of app p)) ≡ Some t) × Ready app (p + 1) t
part_ran app p number q s valid part h =
    let es = ends_of app p in
    let within : p < length app.parts = slice_get_within app.parts p q part in
    let z : Standing = record { present = None; asked = None; vouched = []; attested = None } in
    let there : slice_get s.modules p ≡ Some z = h.behind p (omega arith) within in
    let node : slice_get s.boots q.node ≡ Some 0 = (ap (λ bs. slice_get bs q.node) h.boots ∙ zeros_at app.nodes q.node ((valid_applications app valid).parts p q part).node) in
    let cells = initial_cells q.tree.decls in
    let r : Present = first_present q.tree es in
    let u : Model = record s { asks = s.asks + 1 } in
    let y1 : Standing = record z { present = Some r } in
    let y2 : Standing = record { present = Some r; asked = Some p; vouched = []; attested = None } in
    let y3 : Standing = record { present = Some (owing r [] 1); asked = Some p; vouched = record { challenge = p; boot = 0 } ∷ []; attested = None } in
    let y4 : Standing = record { present = Some r; asked = Some p; vouched = record { challenge = p; boot = 0 } ∷ []; attested = None } in
    let y5 : Standing = record { present = Some r; asked = None; vouched = record { challenge = p; boot = 0 } ∷ []; attested = Some (record { boot = 0; floors = s.epochs }) } in
    let y6 : Standing = record y5 { present = Some (present_as app p [] cells) } in
    let final = with_standing u p y6 in
    let i8 = packet_items (number + 2) 38 (length es) ++ open_items p es in
    let i7 = item.Attested p 0 ∷ i8 in
    let i6 = item.Packet (number + 1) 16 ∷ i7 in
    let i5 = item.Done p 1 1 ∷ i6 in
    let i4 = item.Vouch p p ∷ i5 in
    let i3 = item.Packet number 18 ∷ i4 in
    let may : (c : ℕ) → may_open y5.attested 0 c 0 (slice_index s.epochs c) ≡ true =
    (λ c.
    let none : slice_index s.epochs c ≡ 0 = (ap (λ es. slice_index es c) h.epochs ∙ zeros_index app.links c) in
    rw none refl) in
    let ran : after app s (part_items p number q es) ≡ Some final =
    ran_first app (item.Protect q.node (Some p)) (item.Ask p p ∷ i3) s (with_standing s p y1) (protect_step app s p q z part there refl)
    ∙ ran_first app (item.Ask p p) i3 (with_standing s p y1) (with_standing u p y2) (ask_step app s p q z part there y1 p (sym h.asks))
    ∙ ran_first app (item.Vouch p p) i5 (with_standing u p y2) (with_standing u p y3) (vouch_step app u p q z part there y2 r p 0 refl refl node)
    ∙ ran_first app (item.Done p 1 1) i6 (with_standing u p y3) (with_standing u p y4) (done_step app u p q y3 z r part there 1)
    ∙ ran_first app (item.Attested p 0) i8 (with_standing u p y4) (with_standing u p y5) (attest_step app u p q z part there (Some r) p 0)
    ∙ ran_on app (packet_items (number + 2) 38 (length es)) (open_items p es) (with_standing u p y5) (with_standing u p y5) (ran_packets app (with_standing u p y5) (number + 2) 38 (length es))
    ∙ opens_ran app u p q z part there y5 cells may node (ends_hold app p q valid part).ordered [] es refl in (
      final,
      ran,
      record {
        boots = h.boots;
        asks = ap (λ (n : ℕ). n + 1) h.asks;
        epochs = h.epochs;
        sent = h.sent;
        readings = h.readings;
        stale = h.stale;
        before = λ k low lt. elim (cases_eq p k) [
          | inl same ↦ subst (λ k. IsPresent (slice_set s.modules p y6) k (present_as app k [] (slice_index_or (plain_start app).cells k []))) same (record {
            standing = y6;
            there = get_same s.modules p y6 z there;
            is = ap (λ cells. Some (present_as app p [] cells)) (sym (first_cells_at app.parts p q part));
          })
          | inr differs ↦
              let o = h.before k (omega (arith, low, differs)) lt in
              record { standing = o.standing; there = get_other s.modules p k y6 differs ∙ o.there; is = o.is }
        ];
        behind = λ k low lt. get_other s.modules p k y6 (λ e. omega (arith, e, low)) ∙ h.behind k (omega (arith, low)) lt;
      },
    )

-- of all parts from the p-th on
parts_ran : (app : AppTree) (p number : ℕ) (qs : List PartTree) (s : Model) → is_valid app ≡ true → ((i : ℕ) → slice_get qs i ≡ slice_get app.parts (p + i)) → Ready app p s
    → (t : Model) × (after app s (parts_items app p number qs) ≡ Some t) × Ready app (p + length qs) t
parts_ran app p number [] s valid at h = (s, refl, subst (λ k. Ready app k s) (sym (add-zero p)) h)
parts_ran app p number (q ∷ qs) s valid at h =
    let part : slice_get app.parts p ≡ Some q = (ap (λ k. slice_get app.parts k) (sym (add-zero p)) ∙ sym (at 0)) in
    let one = part_ran app p number q s valid part h in
    let next : (i : ℕ) → slice_get qs i ≡ slice_get app.parts (p + 1 + i) =
    (λ i. let e : p + suc i ≡ p + 1 + i = omega arith in at (suc i) ∙ ap (λ k. slice_get app.parts k) e) in
    let rest = parts_ran app (p + 1) (number + 2 + length (ends_of app p)) qs one.0 valid next one.2 in
    let e : p + 1 + length qs ≡ p + suc (length qs) = omega arith in
    (rest.0, ran_on app (part_items p number q (ends_of app p)) (parts_items app (p + 1) (number + 2 + length (ends_of app p)) qs) s one.0 one.1 ∙ rest.1, subst (λ k. Ready app k rest.0) e rest.2)

nothing_at : {X : Type 0} (n k : ℕ) (x : X) → k < n → slice_get (replicate n x) k ≡ Some x
nothing_at zero k x h = absurd (omega (arith, h))
nothing_at (suc n) zero x h = refl
nothing_at (suc n) (suc k) x h = nothing_at n k x (omega (arith, h))

map_at : {X Y : Type 0} (f : X → Y) (y : Y) → ((x : X) → f x ≡ y) → (xs : List X) (k : ℕ) → k < length xs → slice_get (map f xs) k ≡ Some y
map_at f y h [] k lt = absurd (omega (arith, lt))
map_at f y h (x ∷ xs) zero lt = ap (λ y. Some y) (h x)
map_at f y h (x ∷ xs) (suc k) lt = map_at f y h xs k (omega (arith, lt))

pub map_long : {X Y : Type 0} (f : X → Y) (xs : List X) → length (map f xs) ≡ length xs
map_long f [] = refl
map_long f (x ∷ xs) = ap (λ (n : ℕ). suc n) (map_long f xs)

ready_first : (app : AppTree) → Ready app 0 (power_on app)
ready_first app = record {
  boots = refl;
  asks = refl;
  epochs = refl;
  sent = λ k lt. nothing_at FIELDS k [] lt;
  readings = map_long _ app.devices;
  stale = first_stale app.devices;
  before = λ k low lt. absurd (omega (arith, low));
  behind = λ k low lt. map_at _ _ (λ (q : PartTree). refl) app.parts k lt;
}

-- the whole set-up
pub record SetUp (app : AppTree) (items : List Item) : Type 0 where
  pub model : Model
  pub ran : after app (power_on app) items ≡ Some model
  pub agrees : Agrees app (plain_start app) [] model

pub set_up : (app : AppTree) → is_valid app ≡ true → SetUp app (parts_items app 0 0 app.parts)
set_up app valid =
    let all = parts_ran app 0 0 app.parts (power_on app) valid (λ i. ap (λ k. slice_get app.parts k) (sym (zero-add i))) (ready_first app) in
    let h : Ready app (length app.parts) all.0 = subst (λ k. Ready app k all.0) (zero-add (length app.parts)) all.2 in
    record {
      model = all.0;
      ran = all.1;
      agrees = record { modules = λ p lt. h.before p lt lt; sent = h.sent; readings = h.readings; stale = h.stale };
    }
