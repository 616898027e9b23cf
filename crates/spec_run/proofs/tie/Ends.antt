-- The ends of a module: in its private section, and as the source has them.
use Rattle.std.proofs.Common.{◌≡◌, ℕ, zero, suc, ◌+◌, ◌<◌, ◌≤◌, ◌⊎◌, inl, inr, ◌==◌, ◌&&◌, Bool, true, false, if◌then◌else◌, List, [], ◌∷◌, Option, Some, None, refl, sym, ◌∙◌, ap, subst, arith}
use Rattle.std.specs.Prelude.{slice_get, nat_le, nat_lt}
use Rattle.std.specs.List.{list_any, cons_option}
use Rattle.std.proofs.lemmas.Bool.{true≢false, and_parts, eqb-true, le-leb, ltb-true, eq-eqb}
use Rattle.sx_lang.specs.declared.sides.Side.{Side}
use Rattle.sx_lang.specs.declared.sides.Side.TheVariants.{From, To}
use Rattle.sx_mean.specs.declared.apps.Link.{Link}
use Rattle.sx_mean.specs.declared.events.End.{End}
use Rattle.spec_invocation.specs.ModuleState.{EndState, end_of, with_end, epoch_of, link_of}
use Rattle.spec_invocation.specs.Entries.{end_is, end_found}
use Rattle.sx_mean.specs.Application.{AppTree}
use Rattle.sx_mean.specs.Ends.{receiving, ends_after, ends_of, same_side}
use Rattle.sx_model.specs.State.{EndView, contains}
use Rattle.sx_model.specs.Step.{◌>>?◌, changed_views}
use Rattle.sx_model.specs.Renewal.{takes, is_below, opens}
use Rattle.spec_run.specs.Observation.{is_end}
use Rattle.spec_run.proofs.tie.Lists.{some_inj}
use Rattle.spec_run.proofs.tie.Tied.{epoch_at, HasLength, Counts, SameEnds, open_at, AtLeast, HasEnd}

-- the end is at this place, and no end before it is the same
abbrev pub FoundAt : ℕ → Side → List End → ℕ → End → Type 0
FoundAt link side [] j e = ⊥
FoundAt link side (x ∷ es) zero e = (end_is link side x ≡ true) × (x ≡ e)
FoundAt link side (x ∷ es) (suc j) e = (end_is link side x ≡ false) × FoundAt link side es j e

found_head : (b : Bool) (link : ℕ) (side : Side) (k : ℕ) (x : End) (es : List End) (place : ℕ) (e : End) → end_is link side x ≡ b
    → ((b ≡ false) → end_found link side (k + 1) es ≡ Some (place, e) → (j : ℕ) × (place ≡ (k + 1) + j) × FoundAt link side es j e)
    → (if b then Some (k, x) else end_found link side (k + 1) es) ≡ Some (place, e)
    → (j : ℕ) × (place ≡ k + j) × FoundAt link side (x ∷ es) j e
found_head true link side k x es place e t f h =
    let same : ◌≡◌ {A = ℕ × End} (k, x) (place, e) = some_inj (k, x) (place, e) h in
    (0, sym (ap (λ (p : ℕ × End). p.0) same) ∙ omega arith, (t, ap (λ (p : ℕ × End). p.1) same))
found_head false link side k x es place e t f h =
    let r = f refl h in
    (suc r.0, r.1 ∙ omega arith, (t, r.2))

found_from : (link : ℕ) (side : Side) (k : ℕ) (es : List End) (place : ℕ) (e : End) → end_found link side k es ≡ Some (place, e)
    → (j : ℕ) × (place ≡ k + j) × FoundAt link side es j e
found_from link side k [] place e h = cc
found_from link side k (x ∷ es) place e h =
    found_head (end_is link side x) link side k x es place e refl (λ _ g. found_from link side (k + 1) es place e g) h

pub found_at : (link : ℕ) (side : Side) (es : List End) (place : ℕ) (e : End) → end_found link side 0 es ≡ Some (place, e) → FoundAt link side es place e
found_at link side es place e h =
    let r = found_from link side 0 es place e h in
    subst (λ j. FoundAt link side es j e) (sym (r.1 ∙ omega arith)) r.2

pub same_sides : (a b : Side) → same_side a b ≡ same_side b a
same_sides From From = refl
same_sides From To = refl
same_sides To From = refl
same_sides To To = refl

pub same_side-same : (a b : Side) → same_side a b ≡ true → b ≡ a
same_side-same From From e = refl
same_side-same From To e = absurd (true≢false (sym e))
same_side-same To From e = absurd (true≢false (sym e))
same_side-same To To e = refl

pub end_is-same : (link : ℕ) (side : Side) (e : End) (b : Bool) → end_is link side e ≡ b → ((e.link == link) && same_side e.side side) ≡ b
end_is-same link side e b h = ap (λ t. (e.link == link) && t) (sym (same_sides side e.side)) ∙ h

-- where the change of the end that is found is made, so is that of the list
changed_head : (change : EndView → Option EndView) (link : ℕ) (side : Side) (e : End) (es : List End) (v w : EndView) (vs : List EndView) → end_is link side e ≡ true → change v ≡ Some w
    → changed_views change link side (e ∷ es) (v ∷ vs) ≡ Some (w ∷ vs)
changed_head change link side e es v w vs t c = rw (end_is-same link side e true t, c) refl

changed_later : (change : EndView → Option EndView) (link : ℕ) (side : Side) (e : End) (es : List End) (v : EndView) (vs ws : List EndView) → end_is link side e ≡ false
    → changed_views change link side es vs ≡ Some ws → changed_views change link side (e ∷ es) (v ∷ vs) ≡ Some (v ∷ ws)
changed_later change link side e es v vs ws t c = rw (end_is-same link side e false t, c) refl

-- Receiving.

abbrev pub renumbered : EndState → ℕ → EndState
renumbered x n = record { is_open = x.is_open; field = x.field; number = n; key = x.key }

pub epoch_open : (x : EndState) → x.is_open ≡ true → epoch_at x ≡ Some (epoch_of x.field)
epoch_open x e = rw e refl

pub epoch_closed : (x : EndState) → x.is_open ≡ false → epoch_at x ≡ None
epoch_closed x e = rw e refl

takes_open : (epoch i : ℕ) (v : EndView) → v.epoch ≡ Some epoch → v.next ≤ i → takes epoch i v ≡ Some (record { epoch = v.epoch; next = i + 1 })
takes_open epoch i v e le = rw (e, eq-eqb epoch epoch refl, le-leb v.next i le) refl

is_to : (link : ℕ) (e : End) → end_is link To e ≡ true → e.side ≡ To
is_to link e h = same_side-same To e.side (and_parts (e.link == link) (same_side To e.side) h).1

counts_to : (side : Side) (x : EndState) (v : EndView) (words : Option (List ℕ)) → side ≡ To → Counts side x v words → x.number ≡ v.next
counts_to side x v words e h = subst (λ s. Counts s x v words) e h

counts_from_to : (side : Side) (x : EndState) (v : EndView) (words : Option (List ℕ)) → side ≡ To → x.number ≡ v.next → Counts side x v words
counts_from_to side x v words e h = subst (λ s. Counts s x v words) (sym e) h

pub takes_at : (link epoch i : ℕ) (es : List End) (xs : List EndState) (vs : List EndView) (sent : List (List ℕ)) (j : ℕ) (e : End) → SameEnds es xs vs sent → FoundAt link To es j e
    → (end_of xs j).is_open ≡ true → epoch_of (end_of xs j).field ≡ epoch → (end_of xs j).number ≤ i
    → (ws : List EndView) × (changed_views (takes epoch i) link To es vs ≡ Some ws) × SameEnds es (with_end xs j (renumbered (end_of xs j) (i + 1))) ws sent
takes_at link epoch i [] xs vs sent j e h f o same le = absurd f
takes_at link epoch i (x ∷ es) [] vs sent j e h f o same le = absurd h
takes_at link epoch i (x ∷ es) (a ∷ xs) [] sent j e h f o same le = absurd h
takes_at link epoch i (x ∷ es) (a ∷ xs) (v ∷ vs) sent zero e h f o same le =
    let to = is_to link x f.0 in
    let n : a.number ≡ v.next = counts_to x.side a v (slice_get sent a.field) to (h.0.counts o) in
    let ep : v.epoch ≡ Some epoch = h.0.epoch ∙ epoch_open a o ∙ ap Some same in
    let w : EndView = record { epoch = v.epoch; next = i + 1 } in (
      w ∷ vs,
      changed_head (takes epoch i) link To x es v w vs f.0 (takes_open epoch i v ep (subst (λ m. m ≤ i) n le)),
      (record { epoch = h.0.epoch; field = h.0.field; counts = λ o. counts_from_to x.side (renumbered a (i + 1)) w (slice_get sent a.field) to refl }, h.1),
    )
takes_at link epoch i (x ∷ es) (a ∷ xs) (v ∷ vs) sent (suc j) e h f o same le =
    let r = takes_at link epoch i es xs vs sent j e h.1 f.1 o same le in
    (v ∷ r.0, changed_later (takes epoch i) link To x es v vs r.0 f.0 r.1, (h.0, r.2))

-- Opening.

end_is-link : (link : ℕ) (side : Side) (e : End) → end_is link side e ≡ true → e.link ≡ link
end_is-link link side e h = eqb-true e.link link (and_parts (e.link == link) (same_side side e.side) h).0

end_is-side : (link : ℕ) (side : Side) (e : End) → end_is link side e ≡ true → e.side ≡ side
end_is-side link side e h = same_side-same side e.side (and_parts (e.link == link) (same_side side e.side) h).1

opens_below : (epoch : ℕ) (v : EndView) → is_below v.epoch epoch ≡ true → opens epoch v ≡ Some (record { epoch = Some epoch; next = 0 })
opens_below epoch v e = rw e refl

new_counts : (epoch : ℕ) (side : Side) (x : EndState) (words : Option (List ℕ)) → x.number ≡ 0 → (side ≡ From → HasLength words 0) → Counts side x (record { epoch = Some epoch; next = 0 }) words
new_counts epoch From x None e h = h refl
new_counts epoch From x (Some words) e h = h refl ∙ sym e
new_counts epoch To x words e h = e

-- an end that is closed, or open with a lower epoch
below_end : (x : EndState) (v : EndView) (epoch : ℕ) → v.epoch ≡ epoch_at x → (x.is_open ≡ true → epoch_of x.field < epoch) → is_below v.epoch epoch ≡ true
below_end x v epoch e h = subst (λ o. is_below o epoch ≡ true) (sym e) (below_if x.is_open refl)
  where
    below_if : (b : Bool) → x.is_open ≡ b → is_below (if b then Some (epoch_of x.field) else None) epoch ≡ true
    below_if true o = lt-ltb (h o)
      where
        lt-ltb : epoch_of x.field < epoch → nat_lt (epoch_of x.field) epoch ≡ true
        lt-ltb lt = grind (arith, lt)
    below_if false o = refl

pub opens_at : (link epoch : ℕ) (side : Side) (es : List End) (xs : List EndState) (vs : List EndView)
    (sent : List (List ℕ)) (j : ℕ) (e : End) (new : EndState) → SameEnds es xs vs sent → FoundAt link side es j e
    → ((end_of xs j).is_open ≡ true → epoch_of (end_of xs j).field < epoch) → new.is_open ≡ true
    → link_of new.field ≡ link → epoch_of new.field ≡ epoch → new.number ≡ 0 → (side ≡ From → HasLength (slice_get sent new.field) 0)
    → (ws : List EndView) × (changed_views (opens epoch) link side es vs ≡ Some ws) × SameEnds es (with_end xs j new) ws sent
opens_at link epoch side [] xs vs sent j e new h f c o fe ee n l = absurd f
opens_at link epoch side (x ∷ es) [] vs sent j e new h f c o fe ee n l = absurd h
opens_at link epoch side (x ∷ es) (a ∷ xs) [] sent j e new h f c o fe ee n l = absurd h
opens_at link epoch side (x ∷ es) (a ∷ xs) (v ∷ vs) sent zero e new h f c o fe ee n l =
    let at = end_is-link link side x f.0 in
    let w : EndView = record { epoch = Some epoch; next = 0 } in (
      w ∷ vs,
      changed_head (opens epoch) link side x es v w vs f.0 (opens_below epoch v (below_end a v epoch h.0.epoch c)),
      (
        record {
          epoch = sym (epoch_open new o ∙ ap Some ee);
          field = λ _. fe ∙ sym at;
          counts = λ _. new_counts epoch x.side new (slice_get sent new.field) n (λ s. l (sym (end_is-side link side x f.0) ∙ s));
        },
        h.1,
      ),
    )
opens_at link epoch side (x ∷ es) (a ∷ xs) (v ∷ vs) sent (suc j) e new h f c o fe ee n l =
    let r = opens_at link epoch side es xs vs sent j e new h.1 f.1 c o fe ee n l in
    (v ∷ r.0, changed_later (opens epoch) link side x es v vs r.0 f.0 r.1, (h.0, r.2))

open_head : (link : ℕ) (side : Side) (e : End) (es : List End) (v : EndView) (vs : List EndView) (b : Bool) → ((e.link == link) && same_side e.side side) ≡ b
    → open_at link side (e ∷ es) (v ∷ vs) ≡ (if b then v.epoch else open_at link side es vs)
open_head link side e es v vs b h = rw h refl

-- an end that is found closed, or open with a lower epoch, is so in the source
pub below_at : (link epoch : ℕ) (side : Side) (es : List End) (xs : List EndState) (vs : List EndView) (sent : List (List ℕ)) (j : ℕ) (e : End) → SameEnds es xs vs sent → FoundAt link side es j e
    → ((end_of xs j).is_open ≡ true → epoch_of (end_of xs j).field < epoch) → is_below (open_at link side es vs) epoch ≡ true
below_at link epoch side [] xs vs sent j e h f c = absurd f
below_at link epoch side (x ∷ es) [] vs sent j e h f c = absurd h
below_at link epoch side (x ∷ es) (a ∷ xs) [] sent j e h f c = absurd h
below_at link epoch side (x ∷ es) (a ∷ xs) (v ∷ vs) sent zero e h f c =
    subst (λ o. is_below o epoch ≡ true) (sym (open_head link side x es v vs true (end_is-same link side x true f.0))) (below_end a v epoch h.0.epoch c)
below_at link epoch side (x ∷ es) (a ∷ xs) (v ∷ vs) sent (suc j) e h f c =
    subst (λ o. is_below o epoch ≡ true) (sym (open_head link side x es v vs false (end_is-same link side x false f.0))) (below_at link epoch side es xs vs sent j e h.1 f.1 c)

-- what is open stays open, with this epoch or a later one
abbrev pub StaysOpen : (EndView → Option EndView) → Type 0
StaysOpen change = (v w : EndView) → change v ≡ Some w → (k : ℕ) → AtLeast k v.epoch → AtLeast k w.epoch

some_of : (o : Option EndView) (vs ws : List EndView) → (o >>? (λ v. Some (v ∷ vs))) ≡ Some ws → (w : EndView) × (o ≡ Some w) × (ws ≡ w ∷ vs)
some_of None vs ws h = absurd cc
some_of (Some w) vs ws h = (w, refl, cc)

some_later : (o : Option (List EndView)) (v : EndView) (ws : List EndView) → (o >>? (λ vs. Some (v ∷ vs))) ≡ Some ws → (us : List EndView) × (o ≡ Some us) × (ws ≡ v ∷ us)
some_later None v ws h = absurd cc
some_later (Some us) v ws h = (us, refl, cc)

stays_head : (change : EndView → Option EndView) (k c link : ℕ) (to side : Side) (e : End) (es : List End) (v : EndView) (vs ws : List EndView) (b : Bool) → StaysOpen change
    → ((us : List EndView) → changed_views change link side es vs ≡ Some us → AtLeast k (open_at c to es vs) → AtLeast k (open_at c to es us))
    → (if b then change v >>? (λ w. Some (w ∷ vs)) else changed_views change link side es vs >>? (λ us. Some (v ∷ us))) ≡ Some ws
    → AtLeast k (open_at c to (e ∷ es) (v ∷ vs)) → AtLeast k (open_at c to (e ∷ es) ws)
stays_head change k c link to side e es v vs ws true st ih h o =
    let r = some_of (change v) vs ws h in
    subst (λ us. AtLeast k (open_at c to (e ∷ es) us)) (sym r.2)
    (stays_if ((e.link == c) && same_side e.side to) v r.0 (open_at c to es vs) (open_at c to es vs) (λ p. st v r.0 r.1 k p) (λ p. p) o)
  where
    stays_if : (b : Bool) (v w : EndView) (x y : Option ℕ) → (AtLeast k v.epoch → AtLeast k w.epoch) → (AtLeast k x → AtLeast k y)
        → AtLeast k (if b then v.epoch else x) → AtLeast k (if b then w.epoch else y)
    stays_if true v w x y f g h = f h
    stays_if false v w x y f g h = g h
stays_head change k c link to side e es v vs ws false st ih h o =
    let r = some_later (changed_views change link side es vs) v ws h in
    subst (λ us. AtLeast k (open_at c to (e ∷ es) us)) (sym r.2)
    (stays_if ((e.link == c) && same_side e.side to) v v (open_at c to es vs) (open_at c to es r.0) (λ p. p) (ih r.0 r.1) o)
  where
    stays_if : (b : Bool) (v w : EndView) (x y : Option ℕ) → (AtLeast k v.epoch → AtLeast k w.epoch) → (AtLeast k x → AtLeast k y)
        → AtLeast k (if b then v.epoch else x) → AtLeast k (if b then w.epoch else y)
    stays_if true v w x y f g h = f h
    stays_if false v w x y f g h = g h

pub open_stays : (change : EndView → Option EndView) (k c link : ℕ) (to side : Side) (es : List End) (vs ws : List EndView) → StaysOpen change
    → changed_views change link side es vs ≡ Some ws → AtLeast k (open_at c to es vs) → AtLeast k (open_at c to es ws)
open_stays change k c link to side [] vs ws st h o = absurd cc
open_stays change k c link to side (e ∷ es) [] ws st h o = absurd cc
open_stays change k c link to side (e ∷ es) (v ∷ vs) ws st h o =
    stays_head change k c link to side e es v vs ws ((e.link == link) && same_side e.side side) st (λ us g p. open_stays change k c link to side es vs us st g p) h o

opened_as : (epoch : ℕ) (v w : EndView) (b : Bool) → (if b then Some (record { epoch = Some epoch; next = 0 }) else None) ≡ Some w → w ≡ record { epoch = Some epoch; next = 0 }
opened_as epoch v w true h = sym (some_inj _ w h)
opened_as epoch v w false h = absurd cc

pub opens_stays : (epoch : ℕ) → StaysOpen (opens epoch)
opens_stays epoch v w h k at = later v.epoch (is_below v.epoch epoch) refl h at
  where
    later : (o : Option ℕ) (b : Bool) → is_below o epoch ≡ b → (if b then Some (record { epoch = Some epoch; next = 0 }) else None) ≡ Some w → AtLeast k o → AtLeast k w.epoch
    later o false e h at = absurd cc
    later None true e h at = absurd at
    later (Some old) true e h at =
        subst (λ (z : EndView). AtLeast k z.epoch) (sym (opened_as epoch v w true h)) (le_on (ltb-true old epoch e))
      where
        le_on : old < epoch → k ≤ epoch
        le_on lt = omega (arith, lt, at)

-- an end that is open after an opening was open before, or it is the one that was opened
newly_head : (epoch k c link : ℕ) (to side : Side) (e : End) (es : List End) (v : EndView) (vs ws : List EndView) (b : Bool) → ((e.link == link) && same_side e.side side) ≡ b
    → ((us : List EndView) → changed_views (opens epoch) link side es vs ≡ Some us → open_at c to es us ≡ Some k → (open_at c to es vs ≡ Some k) ⊎ ((c ≡ link) × (k ≡ epoch)))
    → (if b then opens epoch v >>? (λ w. Some (w ∷ vs)) else changed_views (opens epoch) link side es vs >>? (λ us. Some (v ∷ us))) ≡ Some ws
    → open_at c to (e ∷ es) ws ≡ Some k → (open_at c to (e ∷ es) (v ∷ vs) ≡ Some k) ⊎ ((c ≡ link) × (k ≡ epoch))
newly_head epoch k c link to side e es v vs ws true t ih h o =
    let r = some_of (opens epoch v) vs ws h in
    let w = opened_as epoch v r.0 (is_below v.epoch epoch) r.1 in
    newly_if ((e.link == c) && same_side e.side to) refl (open_at c to es vs) (subst (λ us. open_at c to (e ∷ es) us ≡ Some k) (r.2 ∙ ap (λ (z : EndView). z ∷ vs) w) o)
  where
    newly_if : (b : Bool) → ((e.link == c) && same_side e.side to) ≡ b → (x : Option ℕ) → (if b then Some epoch else x) ≡ Some k → ((if b then v.epoch else x) ≡ Some k) ⊎ ((c ≡ link) × (k ≡ epoch))
    newly_if true u x g =
        let a = eqb-true e.link c (and_parts (e.link == c) (same_side e.side to) u).0 in
        let l = eqb-true e.link link (and_parts (e.link == link) (same_side e.side side) t).0 in
        inr (sym a ∙ l, sym (some_inj epoch k g))
    newly_if false u x g = inl g
newly_head epoch k c link to side e es v vs ws false t ih h o =
    let r = some_later (changed_views (opens epoch) link side es vs) v ws h in
    newly_if ((e.link == c) && same_side e.side to) (open_at c to es vs) (open_at c to es r.0) (ih r.0 r.1) (subst (λ us. open_at c to (e ∷ es) us ≡ Some k) r.2 o)
  where
    newly_if : (b : Bool) (x y : Option ℕ) → (y ≡ Some k → (x ≡ Some k) ⊎ ((c ≡ link) × (k ≡ epoch)))
        → (if b then v.epoch else y) ≡ Some k → ((if b then v.epoch else x) ≡ Some k) ⊎ ((c ≡ link) × (k ≡ epoch))
    newly_if true x y f g = inl g
    newly_if false x y f g = f g

pub newly_open : (epoch k c link : ℕ) (to side : Side) (es : List End) (vs ws : List EndView) → changed_views (opens epoch) link side es vs ≡ Some ws → open_at c to es ws ≡ Some k
    → (open_at c to es vs ≡ Some k) ⊎ ((c ≡ link) × (k ≡ epoch))
newly_open epoch k c link to side [] vs ws h o = absurd cc
newly_open epoch k c link to side (e ∷ es) [] ws h o = absurd cc
newly_open epoch k c link to side (e ∷ es) (v ∷ vs) ws h o =
    newly_head epoch k c link to side e es v vs ws ((e.link == link) && same_side e.side side) refl (λ us g p. newly_open epoch k c link to side es vs us g p) h o

-- The connections of ends.

abbrev pub EndOf : ℕ → Side → ℕ → Link → Type 0
EndOf m From port l = (l.from ≡ m) × (port ≡ l.output)
EndOf m To port l = (l.to ≡ m) × (port ≡ l.input)

pub record HasLink (n m : ℕ) (ls : List Link) (e : End) : Type 0 where
  pub place : ℕ
  pub link : Link
  pub at : e.link ≡ n + place
  pub there : slice_get ls place ≡ Some link
  pub ends : EndOf m e.side e.port link

pub held : (link : ℕ) (side : Side) (es : List End) (j : ℕ) (e : End) → FoundAt link side es j e → HasEnd es e × (end_is link side e ≡ true)
held link side [] j e f = absurd f
held link side (x ∷ es) zero e f = (inl f.1, subst (λ y. end_is link side y ≡ true) f.1 f.0)
held link side (x ∷ es) (suc j) e f = let r = held link side es j e f.1 in (inr r.0, r.1)

later_link : (n m : ℕ) (l : Link) (ls : List Link) (e : End) → HasLink (n + 1) m ls e → HasLink n m (l ∷ ls) e
later_link n m l ls e h = record { place = suc h.place; link = h.link; at = h.at ∙ omega arith; there = h.there; ends = h.ends }

sending_has : (b : Bool) (n m : ℕ) (l : Link) (es : List End) (e : End) → (l.from == m) ≡ b
    → HasEnd (cons_option (if b then Some (record { link = n; side = From; port = l.output }) else None) es) e
    → ((e ≡ record { link = n; side = From; port = l.output }) × (l.from ≡ m)) ⊎ HasEnd es e
sending_has true n m l es e t (inl h) = inl (sym h, eqb-true l.from m t)
sending_has true n m l es e t (inr h) = inr h
sending_has false n m l es e t h = inr h

receiving_has : (b : Bool) (n m : ℕ) (l : Link) (es : List End) (e : End) → (l.to == m) ≡ b
    → HasEnd (cons_option (if b then Some (record { link = n; side = To; port = l.input }) else None) es) e
    → ((e ≡ record { link = n; side = To; port = l.input }) × (l.to ≡ m)) ⊎ HasEnd es e
receiving_has true n m l es e t (inl h) = inl (sym h, eqb-true l.to m t)
receiving_has true n m l es e t (inr h) = inr h
receiving_has false n m l es e t h = inr h

pub has_link : (n m : ℕ) (ls : List Link) (e : End) → HasEnd (ends_after n m ls) e → HasLink n m ls e
has_link n m [] e h = absurd h
has_link n m (l ∷ ls) e h =
    elim (sending_has (l.from == m) n m l (cons_option (receiving n m l) (ends_after (n + 1) m ls)) e refl h) [
      | inl s ↦ record {
        place = 0;
        link = l;
        at = ap (λ (y : End). y.link) s.0 ∙ omega arith;
        there = refl;
        ends = subst (λ (y : End). EndOf m y.side y.port l) (sym s.0) (s.1, refl);
      }
      | inr r ↦ elim (receiving_has (l.to == m) n m l (ends_after (n + 1) m ls) e refl r) [
        | inl s ↦ record {
          place = 0;
          link = l;
          at = ap (λ (y : End). y.link) s.0 ∙ omega arith;
          there = refl;
          ends = subst (λ (y : End). EndOf m y.side y.port l) (sym s.0) (s.1, refl);
        }
        | inr r ↦ later_link n m l ls e (has_link (n + 1) m ls e r)
      ]
    ]

-- the connection of a module's end
pub record Linked (app : AppTree) (m link : ℕ) (side : Side) (e : End) : Type 0 where
  pub l : Link
  pub there : slice_get app.links link ≡ Some l
  pub ends : EndOf m side e.port l

pub linked : (app : AppTree) (m link : ℕ) (side : Side) (j : ℕ) (e : End) → FoundAt link side (ends_of app m) j e → Linked app m link side e
linked app m link side j e f =
    let h = held link side (ends_of app m) j e f in
    let r = has_link 0 m app.links e h.0 in
    let at = end_is-link link side e h.1 in
    let s = end_is-side link side e h.1 in
    record {
      l = r.link;
      there = subst (λ k. slice_get app.links k ≡ Some r.link) (sym (omega (arith, r.at)) ∙ at) r.there;
      ends = subst (λ t. EndOf m t e.port r.link) s r.ends;
    }

-- an end that is found is one that the module has
pub has_end-found : (link : ℕ) (side : Side) (es : List End) (j : ℕ) (e : End) → FoundAt link side es j e → list_any (is_end link side) es ≡ true
has_end-found link side [] j e f = absurd f
has_end-found link side (x ∷ es) zero e f = rw (end_is-same link side x true f.0) refl
has_end-found link side (x ∷ es) (suc j) e f = rw (end_is-same link side x false f.0) (has_end-found link side es j e f.1)

-- a change that leaves the epochs
abbrev pub LeavesEpoch : (EndView → Option EndView) → Type 0
LeavesEpoch change = (v w : EndView) → change v ≡ Some w → w.epoch ≡ v.epoch

same_if : (b : Bool) (v w : EndView) (x y : Option ℕ) → w.epoch ≡ v.epoch → y ≡ x → (if b then w.epoch else y) ≡ (if b then v.epoch else x)
same_if true v w x y f g = f
same_if false v w x y f g = g

same_head : (change : EndView → Option EndView) (c link : ℕ) (to side : Side) (e : End) (es : List End) (v : EndView) (vs ws : List EndView) (b : Bool) → LeavesEpoch change
    → ((us : List EndView) → changed_views change link side es vs ≡ Some us → open_at c to es us ≡ open_at c to es vs)
    → (if b then change v >>? (λ w. Some (w ∷ vs)) else changed_views change link side es vs >>? (λ us. Some (v ∷ us))) ≡ Some ws
    → open_at c to (e ∷ es) ws ≡ open_at c to (e ∷ es) (v ∷ vs)
same_head change c link to side e es v vs ws true st ih h =
    let r = some_of (change v) vs ws h in
    subst (λ us. open_at c to (e ∷ es) us ≡ open_at c to (e ∷ es) (v ∷ vs)) (sym r.2)
    (same_if ((e.link == c) && same_side e.side to) v r.0 (open_at c to es vs) (open_at c to es vs) (st v r.0 r.1) refl)
same_head change c link to side e es v vs ws false st ih h =
    let r = some_later (changed_views change link side es vs) v ws h in
    subst (λ us. open_at c to (e ∷ es) us ≡ open_at c to (e ∷ es) (v ∷ vs)) (sym r.2)
    (same_if ((e.link == c) && same_side e.side to) v v (open_at c to es vs) (open_at c to es r.0) refl (ih r.0 r.1))

pub open_same : (change : EndView → Option EndView) (c link : ℕ) (to side : Side) (es : List End) (vs ws : List EndView) → LeavesEpoch change
    → changed_views change link side es vs ≡ Some ws → open_at c to es ws ≡ open_at c to es vs
open_same change c link to side [] vs ws st h = absurd cc
open_same change c link to side (e ∷ es) [] ws st h = absurd cc
open_same change c link to side (e ∷ es) (v ∷ vs) ws st h =
    same_head change c link to side e es v vs ws ((e.link == link) && same_side e.side side) st (λ us g. open_same change c link to side es vs us st g) h

pub takes_leaves : (epoch i : ℕ) → LeavesEpoch (takes epoch i)
takes_leaves epoch i v w h = kept (contains v.epoch epoch && nat_le v.next i) h
  where
    kept : (b : Bool) → (if b then Some (record { epoch = v.epoch; next = i + 1 }) else None) ≡ Some w → w.epoch ≡ v.epoch
    kept true h = sym (ap (λ (u : EndView). u.epoch) (some_inj (record { epoch = v.epoch; next = i + 1 }) w h))
    kept false h = absurd cc

-- an open end's connection is below 256
small_if : (b : Bool) (c k : ℕ) (e : End) (x : EndState) (v o : Option ℕ) → (b ≡ true → e.link ≡ c)
    → v ≡ epoch_at x → (x.is_open ≡ true → link_of x.field ≡ e.link) → (o ≡ Some k → c < 256) → (if b then v else o) ≡ Some k → c < 256
small_if true c k e x v o l ep f g h = of_open x.is_open refl (sym ep ∙ h)
  where
    of_open : (t : Bool) → x.is_open ≡ t → (if x.is_open then Some (epoch_of x.field) else None) ≡ Some k → c < 256
    of_open true t s = let a = f t in let b = l refl in omega (arith, a, b)
    of_open false t s = absurd (none_some (sym (ap (λ b. if b then Some (epoch_of x.field) else None) t) ∙ s))
      where
        none_some : ◌≡◌ {A = Option ℕ} None (Some k) → ⊥
        none_some e = cc
small_if false c k e x v o l ep f g h = g h

pub open_small : (c k : ℕ) (to : Side) (es : List End) (xs : List EndState) (vs : List EndView) (sent : List (List ℕ)) → SameEnds es xs vs sent → open_at c to es vs ≡ Some k → c < 256
open_small c k to [] xs vs sent h o = absurd cc
open_small c k to (e ∷ es) [] vs sent h o = absurd h
open_small c k to (e ∷ es) (x ∷ xs) [] sent h o = absurd h
open_small c k to (e ∷ es) (x ∷ xs) (v ∷ vs) sent h o =
    small_if ((e.link == c) && same_side e.side to) c k e x v.epoch (open_at c to es vs) (λ t. eqb-true e.link c (and_parts (e.link == c) (same_side e.side to) t).0) h.0.epoch h.0.field
    (λ g. open_small c k to es xs vs sent h.1 g) o
