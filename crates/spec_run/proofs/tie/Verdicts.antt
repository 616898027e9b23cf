-- Items as they are judged one after the other.
use Rattle.std.proofs.Common.{◌≡◌, Bool, true, false, List, [], ◌∷◌, ◌++◌, Option, Some, None, refl}
use Rattle.std.specs.Prelude.{IsSome, if◌then◌else◌}
use Rattle.sx_trace.specs.declared.items.Item.{Item}
use Rattle.sx_mean.specs.Application.{AppTree}
use Rattle.sx_model.specs.order.State.{Model}
use Rattle.sx_model.specs.order.Step.{step}
use Rattle.sx_model.specs.Legal.{before, is_forged}
use Rattle.sx_model.specs.order.Legal.{after}

-- an item that isn't allowed breaks the run, and after a forged one nothing is owed
pub data Verdict : Type 0 where
  Broken : Verdict
  Over : Verdict
  Going : Model → Verdict

abbrev pub judge_on : Option Model → (Model → Verdict) → Verdict
judge_on None rest = Broken
judge_on (Some s) rest = rest s

abbrev pub judge : AppTree → Model → List Item → Verdict
judge app s [] = Going s
judge app s (i ∷ items) = if is_forged i then Over else judge_on (step app s i) (λ t. judge app t items)

-- the run isn't broken, and goes on to a state of which this holds, unless it is over
abbrev pub Fares : Verdict → (Model → Type 0) → Type 0
Fares Broken good = ⊥
Fares Over good = Unit {0}
Fares (Going s) good = good s

fares_head : (b : Bool) (t : Option Model) (f g : Model → Verdict) (good better : Model → Type 0)
    → ((u : Model) → Fares (f u) good → Fares (g u) better)
    → Fares (if b then Over else judge_on t f) good → Fares (if b then Over else judge_on t g) better
fares_head true t f g good better k h = tt
fares_head false None f g good better k h = absurd h
fares_head false (Some u) f g good better k h = k u h

pub fares_then : (app : AppTree) (s : Model) (items more : List Item) (good better : Model → Type 0)
    → Fares (judge app s items) good → ((t : Model) → good t → Fares (judge app t more) better) → Fares (judge app s (items ++ more)) better
fares_then app s [] more good better h f = f s h
fares_then app s (i ∷ items) more good better h f =
    fares_head (is_forged i) (step app s i) (λ t. judge app t items) (λ t. judge app t (items ++ more)) good better
    (λ u g. fares_then app u items more good better g f) h

legal_head : (app : AppTree) (s : Model) (i : Item) (b : Bool) (t : Option Model) (items : List Item) (good : Model → Type 0) → step app s i ≡ t
    → ((u : Model) → Fares (judge app u items) good → IsSome (after app u (before items)))
    → Fares (if b then Over else judge_on t (λ u. judge app u items)) good → IsSome (after app s (if b then [] else i ∷ before items))
legal_head app s i true t items good e k h = refl
legal_head app s i false None items good e k h = absurd h
legal_head app s i false (Some u) items good e k h = rw e (k u h)

-- so much of the run is legal
pub legal_of : (app : AppTree) (s : Model) (items : List Item) (good : Model → Type 0) → Fares (judge app s items) good → IsSome (after app s (before items))
legal_of app s [] good h = refl
legal_of app s (i ∷ items) good h = legal_head app s i (is_forged i) (step app s i) items good refl (λ u g. legal_of app u items good g) h

pub fares_map : (v : Verdict) (good better : Model → Type 0) → ((t : Model) → good t → better t) → Fares v good → Fares v better
fares_map Broken good better f h = h
fares_map Over good better f h = tt
fares_map (Going t) good better f h = f t h
