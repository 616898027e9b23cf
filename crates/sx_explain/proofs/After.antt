-- Where a run is after items.
use Rattle.std.proofs.Common.{◌≡◌, List, [], ◌∷◌, ◌++◌, Option, Some, None, refl, ap, ◌∙◌}
use Rattle.std.proofs.lemmas.Option.{same_Some}
use Rattle.sx_mean.specs.Application.{AppTree}
use Rattle.sx_trace.specs.declared.items.Item.{Item}
use Rattle.sx_model.specs.State.{Model}
use Rattle.sx_model.specs.Step.{◌>>?◌, step}
use Rattle.sx_model.specs.Legal.{after}

pub some_next : {A B : Type 0} → (o : Option A) (f : A → Option B) (y : B) → (o >>? f) ≡ Some y → (x : A) × (o ≡ Some x) × (f x ≡ Some y)
some_next None f y h = absurd cc
some_next (Some x) f y h = (x, refl, h)

-- one item more
pub after_more : (app : AppTree) (items : List Item) (s t : Model) (item : Item) → after app s items ≡ Some t → after app s (items ++ item ∷ []) ≡ step app t item
after_more app [] s t item ran = at (step app s item) ∙ ap (λ s. step app s item) (same_Some s t ran)
  where
    at : (o : Option Model) → (o >>? (λ t. Some t)) ≡ o
    at None = refl
    at (Some t) = refl
after_more app (i ∷ is) s t item ran =
    let x = some_next (step app s i) (λ t. after app t is) t ran in
    ap (λ o. o >>? (λ t. after app t (is ++ item ∷ []))) x.1 ∙ after_more app is x.0 t item x.2
