-- Ends after a change of one, and what is the same in both models.
use Rattle.std.proofs.Common.{◌≡◌, ℕ, zero, suc, ◌⊎◌, inl, inr, ◌==◌, ◌&&◌, Bool, true, false, if◌then◌else◌, List, [], ◌∷◌, ◌++◌, Option, Some, None, slice_get, refl, sym, ap, ◌∙◌, subst}
use Rattle.std.specs.Prelude.{is_some}
use Rattle.std.proofs.lemmas.Option.{same_Some}
use Rattle.sx_lang.specs.declared.sides.Side.{Side}
use Rattle.sx_mean.specs.declared.events.End.{End}
use Rattle.sx_mean.specs.Application.{PartTree}
use Rattle.sx_mean.specs.Ends.{same_side}
use Rattle.sx_model.specs.State.{EndView, contains}
use Rattle.sx_model.specs.State.{Standing as OldStanding}
use Rattle.sx_model.specs.Changes.{is_from}
use Rattle.sx_model.specs.Reaction.{field_of}
use Rattle.sx_model.specs.Step.{absent_at as old_absent_at, is_undriven as old_is_undriven}
use Rattle.sx_model.specs.order.State.{Standing}
use Rattle.sx_model.proofs.EndViews.{behind_one, one_more}
use Rattle.sx_model.specs.Step.{◌>>?◌, changed_views}
use Rattle.sx_model.specs.order.Step.{absent_at, is_undriven}
use Rattle.sx_model.proofs.order.Fields.{OpenAt, Starting, later, this}

-- an end that is open after a change of another one, or that was changed
pub record ChangedOpen (change : EndView → Option EndView) (c : ℕ) (side : Side) (es : List End) (vs : List EndView) (f : ℕ) : Type 0 where
  pub place : ℕ
  pub end : End
  pub old : EndView
  pub new : EndView
  pub end_is : slice_get es place ≡ Some end
  pub old_is : slice_get vs place ≡ Some old
  pub made : change old ≡ Some new
  pub it : ((end.link == c) && same_side end.side side) ≡ true
  pub from : is_from end.side ≡ true
  pub opened : is_some new.epoch ≡ true
  pub at : field_of end new ≡ f

uncons : (e : End) (es : List End) (v : EndView) (vs : List EndView) (f : ℕ) → OpenAt (e ∷ es) (v ∷ vs) f → ((is_from e.side ≡ true) × (is_some v.epoch ≡ true) × (field_of e v ≡ f)) ⊎ OpenAt es vs f
uncons e es v vs f h = at h.place h.end h.view h.end_is h.view_is h.from h.opened h.at
  where
    at : (i : ℕ) (x : End) (w : EndView) → slice_get (e ∷ es) i ≡ Some x → slice_get (v ∷ vs) i ≡ Some w → is_from x.side ≡ true → is_some w.epoch ≡ true → field_of x w ≡ f
        → ((is_from e.side ≡ true) × (is_some v.epoch ≡ true) × (field_of e v ≡ f)) ⊎ OpenAt es vs f
    at zero x w a b c d g =
        let p : x ≡ e = sym (same_Some e x a) in
        let q : w ≡ v = sym (same_Some v w b) in
        inl (ap (λ (e : End). is_from e.side) (sym p) ∙ c, ap (λ (v : EndView). is_some v.epoch) (sym q) ∙ d, ap (λ e. field_of e v) (sym p) ∙ ap (λ v. field_of x v) (sym q) ∙ g)
    at (suc i) x w a b c d g = inr (record { place = i; end = x; end_is = a; view = w; view_is = b; from = c; opened = d; at = g })

pub changed_open : (change : EndView → Option EndView) (c : ℕ) (side : Side) (es : List End) (vs ws : List EndView) (f : ℕ) → changed_views change c side es vs ≡ Some ws → OpenAt es ws f
    → OpenAt es vs f ⊎ ChangedOpen change c side es vs f
changed_open change c side [] vs ws f h o = absurd cc
changed_open change c side (e ∷ es) [] ws f h o = absurd cc
changed_open change c side (e ∷ es) (v ∷ vs) ws f h o =
    here ((e.link == c) && same_side e.side side) refl (λ us g o. changed_open change c side es vs us f g o) h
  where
    here : (b : Bool) → ((e.link == c) && same_side e.side side) ≡ b
        → ((us : List EndView) → changed_views change c side es vs ≡ Some us → OpenAt es us f → OpenAt es vs f ⊎ ChangedOpen change c side es vs f)
        → (if b then change v >>? (λ w. Some (w ∷ vs)) else changed_views change c side es vs >>? (λ us. Some (v ∷ us))) ≡ Some ws
        → OpenAt (e ∷ es) (v ∷ vs) f ⊎ ChangedOpen change c side (e ∷ es) (v ∷ vs) f
    here true t more h =
        let r = one_more (change v) v vs ws h in
        elim (uncons e es r.0 vs f (subst (λ ws. OpenAt (e ∷ es) ws f) (sym r.2) o)) [
          | inl z ↦ inr (record { place = 0; end = e; old = v; new = r.0; end_is = refl; old_is = refl; made = r.1; it = t; from = z.0; opened = z.1; at = z.2 })
          | inr z ↦ inl (later e es v vs f z)
        ]
    here false t more h =
        let r = behind_one (changed_views change c side es vs) v ws h in
        elim (uncons e es v r.0 f (subst (λ ws. OpenAt (e ∷ es) ws f) (sym r.2) o)) [
          | inl z ↦ inl (subst (λ k. OpenAt (e ∷ es) (v ∷ vs) k) z.2 (this e es v vs z.0 z.1))
          | inr z ↦ elim (more r.0 r.1 z) [
            | inl y ↦ inl (later e es v vs f y)
            | inr y ↦ inr (record { place = suc y.place; end = y.end; old = y.old; new = y.new; end_is = y.end_is; old_is = y.old_is; made = y.made; it = y.it; from = y.from; opened = y.opened; at = y.at })
          ]
        ]

abbrev pub Both : {A B : Type 0} → (A → B → Type 0) → Option A → Option B → Type 0
Both R None None = Unit {0}
Both R (Some x) (Some y) = R x y
Both R _ _ = ⊥

pub both_weaker : {A B : Type 0} → (R S : A → B → Type 0) → ((x : A) (y : B) → R x y → S x y) → (o : Option A) (p : Option B) → Both R o p → Both S o p
both_weaker R S w None None h = tt
both_weaker R S w (Some x) (Some y) h = w x y h
both_weaker R S w None (Some y) h = absurd h
both_weaker R S w (Some x) None h = absurd h

pub absent_both : (R : ℕ → Standing → OldStanding → Type 0) → ((m : ℕ) (x : Standing) (y : OldStanding) → R m x y → R m (record x { present = None }) (record y { present = None }))
    → (n : ℕ) (qs : List PartTree) (xs : List Standing) (ys : List OldStanding) → ((m : ℕ) → Both (R m) (slice_get xs m) (slice_get ys m))
    → (m : ℕ) → Both (R m) (slice_get (absent_at n qs xs) m) (slice_get (old_absent_at n qs ys) m)
absent_both R a n [] xs ys h m = h m
absent_both R a n (q ∷ qs) [] [] h m = h m
absent_both R a n (q ∷ qs) [] (y ∷ ys) h m = absurd (h 0)
absent_both R a n (q ∷ qs) (x ∷ xs) [] h m = absurd (h 0)
absent_both R a n (q ∷ qs) (x ∷ xs) (y ∷ ys) h zero = by (q.node == n)
  where
    by : (b : Bool) → R 0 (if b then record x { present = None } else x) (if b then record y { present = None } else y)
    by true = a 0 x y (h 0)
    by false = h 0
absent_both R a n (q ∷ qs) (x ∷ xs) (y ∷ ys) h (suc m) = absent_both (λ m. R (suc m)) (λ m. a (suc m)) n qs xs ys (λ m. h (suc m)) m

pub undriven_same : (d : ℕ) (qs : List PartTree) (xs : List Standing) (ys : List OldStanding)
    → ((m : ℕ) → Both (λ (x : Standing) (y : OldStanding). is_some x.present ≡ is_some y.present) (slice_get xs m) (slice_get ys m))
    → is_undriven qs xs d ≡ old_is_undriven qs ys d
undriven_same d [] xs ys h = refl
undriven_same d (q ∷ qs) [] [] h = refl
undriven_same d (q ∷ qs) [] (y ∷ ys) h = absurd (h 0)
undriven_same d (q ∷ qs) (x ∷ xs) [] h = absurd (h 0)
undriven_same d (q ∷ qs) (x ∷ xs) (y ∷ ys) h =
    rw (h 0, undriven_same d qs xs ys (λ m. h (suc m))) refl

pub contains_more : (ws more : List ℕ) (j v : ℕ) → contains (slice_get ws j) v ≡ true → contains (slice_get (ws ++ more) j) v ≡ true
contains_more [] more j v h = absurd cc
contains_more (w ∷ ws) more zero v h = h
contains_more (w ∷ ws) more (suc j) v h = contains_more ws more j v h

pub empty_same : (o p : Option (List ℕ)) → Starting o p → ((j : ℕ) → (p >>? (λ ws. slice_get ws j)) ≡ None) → o ≡ p
empty_same None None s h = refl
empty_same None (Some vs) s h = absurd s
empty_same (Some ws) None s h = absurd s
empty_same (Some ws) (Some (v ∷ vs)) s h = absurd (let e = h 0 in cc)
empty_same (Some []) (Some []) s h = refl
empty_same (Some (w ∷ ws)) (Some []) s h = absurd (let e = s.1 in cc)
