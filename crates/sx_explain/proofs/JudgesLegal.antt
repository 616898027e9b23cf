-- A judge finds nothing illegal exactly in the traces that are legal up to the first forged item.
use Rattle.std.proofs.Common.{◌≡◌, ℕ, Bool, true, false, if◌then◌else◌, List, [], ◌∷◌, ◌++◌, Option, Some, None, append_assoc, refl, sym, ap, ◌∙◌, subst}
use Rattle.std.specs.Prelude.{IsSome, is_none}
use Rattle.std.specs.List.{list_any}
use Rattle.std.proofs.lemmas.List.{append-nil}
use Rattle.sx_mean.specs.Application.{AppTree}
use Rattle.sx_trace.specs.declared.items.Item.{Item}
use Rattle.sx_trace.specs.declared.items.Item.TheVariants.{Forged}
use Rattle.sx_model.specs.State.{Model, power_on}
use Rattle.sx_model.specs.Step.{◌>>?◌, step}
use Rattle.sx_model.specs.Legal.{Legal, after, before, is_forged}
use Rattle.sx_explain.specs.Causes.{cause}
use Rattle.sx_explain.specs.declared.judge.Judged.TheVariants as verdict
use Rattle.sx_explain.specs.Judging.{judged, said}
use Rattle.sx_explain.specs.Laws.{IllegalIsRefused, JudgesLegal, NoneIllegal}
use Rattle.sx_explain.proofs.After.{after_more}
use Rattle.sx_explain.proofs.Following.{any_more, before_front}

-- what is allowed, and what comes before it

some_is : (o : Option Model) → is_none o ≡ false → IsSome o
some_is None h = absurd cc
some_is (Some t) h = refl

pub is_not_none : (o : Option Model) → IsSome o → is_none o ≡ false
is_not_none None h = absurd cc
is_not_none (Some t) h = refl

pub legal_front : (app : AppTree) (front rest : List Item) (s : Model) → IsSome (after app s (front ++ rest)) → IsSome (after app s front)
legal_front app [] rest s h = refl
legal_front app (i ∷ is) rest s h = at (step app s i) h (λ t. legal_front app is rest t)
  where
    at : (o : Option Model) → IsSome (o >>? (λ t. after app t (is ++ rest))) → ((t : Model) → IsSome (after app t (is ++ rest)) → IsSome (after app t is)) → IsSome (o >>? (λ t. after app t is))
    at None h more = absurd cc
    at (Some t) h more = more t h

the_state : (o : Option Model) → IsSome o → (t : Model) × (o ≡ Some t)
the_state None h = absurd cc
the_state (Some t) h = (t, refl)

never_illegal : (o : Option ℕ) (item : Item) → said o item ≡ verdict.Illegal → ⊥
never_illegal (Some n) item h = absurd cc
never_illegal None item h = at (is_forged item) h
  where
    at : (b : Bool) → (if b then verdict.Forged else verdict.Fine) ≡ verdict.Illegal → ⊥
    at true h = absurd cc
    at false h = absurd cc

-- what an item is judged, by whether one was forged and by what the source makes of it
pub judged_is : (app : AppTree) (front : List Item) (item : Item) (f n : Bool) → list_any is_forged front ≡ f → is_none (after app (power_on app) (front ++ item ∷ [])) ≡ n
    → judged app front item ≡ (if f then verdict.Unjudged else if n then verdict.Illegal else said (cause app front item) item)
judged_is app front item f n a b = rw (a, b) refl

illegal_is : (app : AppTree) (front : List Item) (item : Item) → judged app front item ≡ verdict.Illegal
    → (list_any is_forged front ≡ false) × (is_none (after app (power_on app) (front ++ item ∷ [])) ≡ true)
illegal_is app front item h = at (list_any is_forged front) refl (is_none (after app (power_on app) (front ++ item ∷ []))) refl
  where
    at : (f : Bool) → list_any is_forged front ≡ f → (n : Bool) → is_none (after app (power_on app) (front ++ item ∷ [])) ≡ n
        → (list_any is_forged front ≡ false) × (is_none (after app (power_on app) (front ++ item ∷ [])) ≡ true)
    at true a n b = absurd (let z : verdict.Unjudged ≡ verdict.Illegal = (sym (judged_is app front item true n a b) ∙ h) in cc)
    at false a false b = absurd (never_illegal (cause app front item) item (sym (judged_is app front item false false a b) ∙ h))
    at false a true b = (a, b)

-- a forged item is always allowed
forged_allowed : (app : AppTree) (front : List Item) (item : Item) → is_forged item ≡ true → IsSome (after app (power_on app) front) → IsSome (after app (power_on app) (front ++ item ∷ []))
forged_allowed app front (Forged m) f h =
    let t = the_state (after app (power_on app) front) h in
    subst (λ o. IsSome o) (sym (after_more app front (power_on app) t.0 (Forged m) t.1)) refl
forged_allowed app front _ f h = absurd cc

pub allowed_next : (app : AppTree) (front behind : List Item) (item : Item) (b : Bool) → is_forged item ≡ b → IsSome (after app (power_on app) (front ++ (if b then [] else item ∷ before behind)))
    → IsSome (after app (power_on app) (front ++ item ∷ []))
allowed_next app front behind item true f h =
    forged_allowed app front item f (subst (λ xs. IsSome (after app (power_on app) xs)) (append-nil front) h)
allowed_next app front behind item false f h =
    legal_front app (front ++ item ∷ []) (before behind) (power_on app) (subst (λ xs. IsSome (after app (power_on app) xs)) (sym (append_assoc front (item ∷ []) (before behind))) h)

none_illegal : (app : AppTree) (items : List Item) → Legal app (before items) → NoneIllegal app items
none_illegal app items legal front behind item place illegal =
    let w = illegal_is app front item illegal in
    let shown : IsSome (after app (power_on app) (front ++ before (item ∷ behind))) =
    subst (λ xs. IsSome (after app (power_on app) xs)) (ap before place ∙ before_front front (item ∷ behind) w.0) legal in
    let allowed = is_not_none (after app (power_on app) (front ++ item ∷ [])) (allowed_next app front behind item (is_forged item) refl shown) in
    absurd (let z : false ≡ true = (sym allowed ∙ w.1) in cc)

legal_from : (app : AppTree) (items front rest : List Item) → NoneIllegal app items → items ≡ front ++ rest → list_any is_forged front ≡ false → IsSome (after app (power_on app) front)
    → IsSome (after app (power_on app) (front ++ before rest))
legal_from app items front [] none place f h = subst (λ xs. IsSome (after app (power_on app) xs)) (sym (append-nil front)) h
legal_from app items front (i ∷ is) none place f h =
    at (is_forged i) refl (is_none (after app (power_on app) (front ++ i ∷ []))) refl
    (λ g some. legal_from app items (front ++ i ∷ []) is none (place ∙ sym (append_assoc front (i ∷ []) is)) (any_more is_forged front i f ∙ g) some)
  where
    at : (b : Bool) → is_forged i ≡ b → (n : Bool) → is_none (after app (power_on app) (front ++ i ∷ [])) ≡ n
        → (is_forged i ≡ false → IsSome (after app (power_on app) (front ++ i ∷ [])) → IsSome (after app (power_on app) ((front ++ i ∷ []) ++ before is)))
        → IsSome (after app (power_on app) (front ++ (if b then [] else i ∷ before is)))
    at true b n a more = subst (λ xs. IsSome (after app (power_on app) xs)) (sym (append-nil front)) h
    at false b true a more = absurd (none front is i place (judged_is app front i false true f a))
    at false b false a more =
        subst (λ xs. IsSome (after app (power_on app) xs)) (append_assoc front (i ∷ []) (before is)) (more b (some_is (after app (power_on app) (front ++ i ∷ [])) a))

pub judges_legal : JudgesLegal
judges_legal app items = (none_illegal app items, λ none. legal_from app items [] items none refl refl refl)

pub illegal_is_refused : IllegalIsRefused
illegal_is_refused app front item s ran illegal =
    let w = illegal_is app front item illegal in
    at (step app s item) (sym (ap (λ o. is_none o) (after_more app front (power_on app) s item ran)) ∙ w.1)
  where
    at : (o : Option Model) → is_none o ≡ true → o ≡ None
    at None h = refl
    at (Some t) h = absurd cc
