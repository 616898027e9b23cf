-- What holds along a run.
use Rattle.std.proofs.Common.{◌≡◌, List, [], ◌∷◌, ◌++◌, Option, Some, None, append_assoc, refl, sym, subst}
use Rattle.std.specs.Prelude.{IfSome, IsSome}
use Rattle.std.proofs.lemmas.List.{append-nil}
use Rattle.std.proofs.lemmas.Option.{same_Some}
use Rattle.sx_trace.specs.declared.items.Item.{Item}
use Rattle.sx_mean.specs.Application.{AppTree}
use Rattle.sx_model.specs.State.{Model, power_on}
use Rattle.sx_model.specs.Step.{◌>>?◌, step}
use Rattle.sx_model.specs.Legal.{after, Legal}
use Rattle.sx_model.proofs.Steps.{Cases, by_step}

pub some_of : {A : Type 0} → (o : Option A) (x : A) (Q : A → Type 0) → IfSome o Q → o ≡ Some x → Q x
some_of None x Q h e = absurd cc
some_of (Some y) x Q h e = subst Q (same_Some y x e) h

-- Each allowed item keeps what holds.
abbrev pub Keeps : AppTree → (List Item → Model → Type 0) → Type 0
Keeps app P = (items : List Item) (s : Model) → P items s → (item : Item) (t : Model) → step app s item ≡ Some t → P (items ++ item ∷ []) t

pub keeps_by : (app : AppTree) (P : List Item → Model → Type 0) → ((items : List Item) (s : Model) → P items s → Cases app s (λ item t. P (items ++ item ∷ []) t)) → Keeps app P
keeps_by app P cases items s p item t e = some_of (step app s item) t (P (items ++ item ∷ [])) (by_step app s (λ item t. P (items ++ item ∷ []) t) (cases items s p) item) e

-- where a run is before an item, and after it
pub record StepOf (app : AppTree) (P : List Item → Model → Type 0) (before : List Item) (item : Item) : Type 0 where
  pub from : Model
  pub to : Model
  pub holds : P before from
  pub is : step app from item ≡ Some to

pub next_of : {A B : Type 0} → (o : Option A) (f : A → Option B) → IsSome (o >>? f) → (x : A) × (o ≡ Some x) × IsSome (f x)
next_of None f h = absurd cc
next_of (Some x) f h = (x, refl, h)

along : (app : AppTree) (P : List Item → Model → Type 0) → Keeps app P → (front before : List Item) (item : Item) (behind : List Item) (s : Model) → P front s
    → IsSome (after app s (before ++ item ∷ behind)) → StepOf app P (front ++ before) item
along app P keeps front [] item behind s p h =
    let r = next_of (step app s item) (λ t. after app t behind) h in
    record { from = s; to = r.0; holds = subst (λ xs. P xs s) (sym (append-nil front)) p; is = r.1 }
along app P keeps front (x ∷ before) item behind s p h =
    let r = next_of (step app s x) (λ t. after app t (before ++ item ∷ behind)) h in
    subst (λ xs. StepOf app P xs item) (append_assoc front (x ∷ []) before)
    (along app P keeps (front ++ x ∷ []) before item behind r.0 (keeps front s p x r.0 r.1) r.2)

-- what holds at power-on and is kept holds before each item of a legal run
pub step_of : (app : AppTree) (P : List Item → Model → Type 0) → Keeps app P → P [] (power_on app) → (items before : List Item) (item : Item) (behind : List Item)
    → Legal app items → items ≡ before ++ item ∷ behind → StepOf app P before item
step_of app P keeps first items before item behind legal place =
    along app P keeps [] before item behind (power_on app) first (subst (λ xs. Legal app xs) place legal)
