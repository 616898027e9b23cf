-- The view of one end, after a change of an end.
use Rattle.std.proofs.Common.{◌≡◌, ℕ, suc, ◌+◌, ◌⊎◌, inl, inr, ◌==◌, ◌&&◌, Bool, true, false, if◌then◌else◌, List, [], ◌∷◌, Option, Some, None, refl, sym, ap, ◌∙◌, subst, arith}
use Rattle.std.specs.Prelude.{map, slice_get}
use Rattle.std.specs.List.{cons_option}
use Rattle.std.proofs.lemmas.Bool.{and_parts, eq-eqb, eqb-true, or_left, or_right}
use Rattle.std.proofs.lemmas.Option.{same_Some}
use Rattle.sx_lang.specs.declared.sides.Side.{Side}
use Rattle.sx_lang.specs.declared.sides.Side.TheVariants.{From, To}
use Rattle.sx_mean.specs.declared.apps.Link.{Link}
use Rattle.sx_mean.specs.declared.events.End.{End}
use Rattle.sx_mean.specs.Application.{AppTree}
use Rattle.sx_mean.specs.Ends.{ends_after, ends_of, receiving, same_side}
use Rattle.sx_model.specs.State.{EndView}
use Rattle.sx_model.specs.Renewal.{is_of}
use Rattle.sx_model.specs.Step.{◌>>?◌, changed_views}

-- the view of the end with this connection and side, if there is one
abbrev pub view_at : ℕ → Side → List End → List EndView → Option EndView
view_at c side [] views = None
view_at c side (e ∷ es) [] = None
view_at c side (e ∷ es) (v ∷ vs) = if (e.link == c) && same_side e.side side then Some v else view_at c side es vs

-- a change of it
pub record ChangedAt (change : EndView → Option EndView) (c : ℕ) (side : Side) (es : List End) (vs ws : List EndView) : Type 0 where
  pub old : EndView
  pub new : EndView
  pub was : view_at c side es vs ≡ Some old
  pub made : change old ≡ Some new
  pub is : view_at c side es ws ≡ Some new

pub one_more : {A : Type 0} → (o : Option A) (x : A) (vs ws : List A) → (o >>? (λ w. Some (w ∷ vs))) ≡ Some ws → (w : A) × (o ≡ Some w) × (w ∷ vs ≡ ws)
one_more None x vs ws e = absurd cc
one_more (Some w) x vs ws e = (w, refl, same_Some (w ∷ vs) ws e)

pub behind_one : {A : Type 0} → (o : Option (List A)) (v : A) (ws : List A) → (o >>? (λ vs. Some (v ∷ vs))) ≡ Some ws → (us : List A) × (o ≡ Some us) × (v ∷ us ≡ ws)
behind_one None v ws e = absurd cc
behind_one (Some us) v ws e = (us, refl, same_Some (v ∷ us) ws e)

pub changed_at : (change : EndView → Option EndView) (c : ℕ) (side : Side) (es : List End) (vs ws : List EndView) → changed_views change c side es vs ≡ Some ws
    → ChangedAt change c side es vs ws
changed_at change c side [] vs ws h = absurd cc
changed_at change c side (e ∷ es) [] ws h = absurd cc
changed_at change c side (e ∷ es) (v ∷ vs) ws h = here ((e.link == c) && same_side e.side side) refl (λ us g. changed_at change c side es vs us g) h
  where
    later : (us : List EndView) → ((e.link == c) && same_side e.side side) ≡ false → v ∷ us ≡ ws → ChangedAt change c side es vs us → ChangedAt change c side (e ∷ es) (v ∷ vs) ws
    later us t is r = record {
      old = r.old;
      new = r.new;
      was = ap (λ b. if b then Some v else view_at c side es vs) t ∙ r.was;
      made = r.made;
      is = subst (λ ws. view_at c side (e ∷ es) ws ≡ Some r.new) is (ap (λ b. if b then Some v else view_at c side es us) t ∙ r.is);
    }

    here : (b : Bool) → ((e.link == c) && same_side e.side side) ≡ b
        → ((us : List EndView) → changed_views change c side es vs ≡ Some us → ChangedAt change c side es vs us)
        → (if b then change v >>? (λ w. Some (w ∷ vs)) else changed_views change c side es vs >>? (λ us. Some (v ∷ us))) ≡ Some ws → ChangedAt change c side (e ∷ es) (v ∷ vs) ws
    here true t more h =
        let r = one_more (change v) v vs ws h in
        record {
          old = v;
          new = r.0;
          was = ap (λ b. if b then Some v else view_at c side es vs) t;
          made = r.1;
          is = subst (λ ws. view_at c side (e ∷ es) ws ≡ Some r.0) r.2 (ap (λ b. if b then Some r.0 else view_at c side es vs) t);
        }
    here false t more h =
        let r = behind_one (changed_views change c side es vs) v ws h in
        later r.0 t r.2 (more r.0 r.1)

pub same_side-true : (a b : Side) → same_side a b ≡ true → a ≡ b
same_side-true From From e = refl
same_side-true From To e = absurd cc
same_side-true To From e = absurd cc
same_side-true To To e = refl

-- an end is no other one
other_end : (c d : ℕ) (side to : Side) (e : End) → ((e.link == d) && same_side e.side to) ≡ true → ((d == c) && same_side to side) ≡ false
    → ((e.link == c) && same_side e.side side) ≡ false
other_end c d side to e t n =
    let p = and_parts (e.link == d) (same_side e.side to) t in
    subst (λ k. ((k == c) && same_side e.side side) ≡ false) (sym (eqb-true e.link d p.0))
    (subst (λ z. ((d == c) && same_side z side) ≡ false) (sym (same_side-true e.side to p.1)) n)

-- a change of another end
pub changed_other : (change : EndView → Option EndView) (c d : ℕ) (side to : Side) (es : List End) (vs ws : List EndView) → ((d == c) && same_side to side) ≡ false
    → changed_views change d to es vs ≡ Some ws → view_at c side es ws ≡ view_at c side es vs
changed_other change c d side to [] vs ws n h = absurd cc
changed_other change c d side to (e ∷ es) [] ws n h = absurd cc
changed_other change c d side to (e ∷ es) (v ∷ vs) ws n h = here ((e.link == d) && same_side e.side to) refl (λ us g. changed_other change c d side to es vs us n g) h
  where
    here : (b : Bool) → ((e.link == d) && same_side e.side to) ≡ b
        → ((us : List EndView) → changed_views change d to es vs ≡ Some us → view_at c side es us ≡ view_at c side es vs)
        → (if b then change v >>? (λ w. Some (w ∷ vs)) else changed_views change d to es vs >>? (λ us. Some (v ∷ us))) ≡ Some ws
        → view_at c side (e ∷ es) ws ≡ view_at c side (e ∷ es) (v ∷ vs)
    here true t more h =
        let r = one_more (change v) v vs ws h in
        let f = other_end c d side to e t n in
        subst (λ ws. view_at c side (e ∷ es) ws ≡ view_at c side (e ∷ es) (v ∷ vs)) r.2
        (ap (λ b. if b then Some r.0 else view_at c side es vs) f ∙ sym (ap (λ b. if b then Some v else view_at c side es vs) f))
    here false t more h =
        let r = behind_one (changed_views change d to es vs) v ws h in
        subst (λ ws. view_at c side (e ∷ es) ws ≡ view_at c side (e ∷ es) (v ∷ vs)) r.2
        (ap (λ o. if (e.link == c) && same_side e.side side then Some v else o) (more r.0 r.1))

-- the ends of a module that begins are closed
pub first_closed : (c : ℕ) (side : Side) (es : List End) (v : EndView) → view_at c side es (map (λ e. record { epoch = None; next = 0 }) es) ≡ Some v → v.epoch ≡ None
first_closed c side [] v e = absurd cc
first_closed c side (x ∷ es) v e = here ((x.link == c) && same_side x.side side) (first_closed c side es v) e
  where
    here : (b : Bool) → (view_at c side es (map (λ e. record { epoch = None; next = 0 }) es) ≡ Some v → v.epoch ≡ None)
        → (if b then Some (record { epoch = None; next = 0 }) else view_at c side es (map (λ e. record { epoch = None; next = 0 }) es)) ≡ Some v → v.epoch ≡ None
    here true more e = sym (ap (λ (v : EndView). v.epoch) (same_Some _ v e))
    here false more e = more e

-- A module has an end of its own connections alone.

abbrev pub module_at : Side → Link → ℕ
module_at From l = l.from
module_at To l = l.to

pub record OwnLink (c : ℕ) (side : Side) (p n : ℕ) (ls : List Link) : Type 0 where
  pub place : ℕ
  pub link : Link
  pub at : c ≡ n + place
  pub there : slice_get ls place ≡ Some link
  pub own : module_at side link ≡ p

held_end : (c : ℕ) (side : Side) (b : Bool) (e : End) (es : List End) (vs : List EndView) (v : EndView) → view_at c side (cons_option (if b then Some e else None) es) vs ≡ Some v
    → ((b ≡ true) × (((e.link == c) && same_side e.side side) ≡ true)) ⊎ ((us : List EndView) × (view_at c side es us ≡ Some v))
held_end c side false e es vs v h = inr (vs, h)
held_end c side true e es [] v h = absurd cc
held_end c side true e es (w ∷ vs) v h = here ((e.link == c) && same_side e.side side) h
  where
    here : (b : Bool) → (if b then Some w else view_at c side es vs) ≡ Some v → ((true ≡ true) × (b ≡ true)) ⊎ ((us : List EndView) × (view_at c side es us ≡ Some v))
    here true h = inl (refl, refl)
    here false h = inr (vs, h)

later_link : (c : ℕ) (side : Side) (p n : ℕ) (l : Link) (ls : List Link) → OwnLink c side p (n + 1) ls → OwnLink c side p n (l ∷ ls)
later_link c side p n l ls h = record { place = suc h.place; link = h.link; at = omega (arith, h.at); there = h.there; own = h.own }

this_link : (c : ℕ) (side : Side) (p n : ℕ) (l : Link) (ls : List Link) (to : Side) → ((n == c) && same_side to side) ≡ true → module_at to l ≡ p → OwnLink c side p n (l ∷ ls)
this_link c side p n l ls to t e =
    let r = and_parts (n == c) (same_side to side) t in
    let at = eqb-true n c r.0 in
    record { place = 0; link = l; at = omega (arith, at); there = refl; own = subst (λ z. module_at z l ≡ p) (same_side-true to side r.1) e }

own_link : (c : ℕ) (side : Side) (p n : ℕ) (ls : List Link) (vs : List EndView) (v : EndView) → view_at c side (ends_after n p ls) vs ≡ Some v → OwnLink c side p n ls
own_link c side p n [] vs v h = absurd cc
own_link c side p n (l ∷ ls) vs v h =
    elim (held_end c side (l.from == p) (record { link = n; side = From; port = l.output }) (cons_option (receiving n p l) (ends_after (n + 1) p ls)) vs v h) [
      | inl s ↦ this_link c side p n l ls From s.1 (eqb-true l.from p s.0)
      | inr r ↦ elim (held_end c side (l.to == p) (record { link = n; side = To; port = l.input }) (ends_after (n + 1) p ls) r.0 v r.1) [
        | inl s ↦ this_link c side p n l ls To s.1 (eqb-true l.to p s.0)
        | inr u ↦ later_link c side p n l ls (own_link c side p (n + 1) ls u.0 v u.1)
      ]
    ]

pub link_of_end : (app : AppTree) (c : ℕ) (side : Side) (p : ℕ) (vs : List EndView) (v : EndView) → view_at c side (ends_of app p) vs ≡ Some v
    → (l : Link) × (slice_get app.links c ≡ Some l) × (module_at side l ≡ p)
link_of_end app c side p vs v h =
    let r = own_link c side p 0 app.links vs v h in
    let at : r.place ≡ c = omega (arith, r.at) in
    (r.link, subst (λ k. slice_get app.links k ≡ Some r.link) at r.there, r.own)

pub owner : (side : Side) (m : ℕ) (l : Link) → module_at side l ≡ m → is_of m l ≡ true
owner From m l e = or_left (l.from == m) (l.to == m) (eq-eqb l.from m e)
owner To m l e = or_right (l.from == m) (l.to == m) (eq-eqb l.to m e)
