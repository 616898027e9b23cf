-- Items of which each is so where it is, up to the first that is forged.
use Rattle.std.proofs.Common.{Bool, true, false, List, [], ◌∷◌, ◌++◌, Option, Some, None}
use Rattle.std.specs.Prelude.{IfSome, if◌then◌else◌, All}
use Rattle.std.proofs.lemmas.List.Elements.{All-cons, All-nil}
use Rattle.sx_trace.specs.declared.items.Item.{Item}
use Rattle.sx_mean.specs.Application.{AppTree}
use Rattle.sx_model.specs.order.State.{Model}
use Rattle.sx_model.specs.order.Step.{step}
use Rattle.sx_model.specs.Legal.{before, is_forged}
use Rattle.spec_run.proofs.tie.Verdicts.{Verdict, Over, judge_on, judge, Fares}

abbrev pub Unless : Bool → Type 0 → Type 0
Unless true A = Unit {0}
Unless false A = A

module _ (P : Model → Item → Type 0) (app : AppTree) where
  abbrev pub Walks : Model → List Item → Type 0
  Walks s [] = Unit {0}
  Walks s (i ∷ items) = Unless (is_forged i) (P s i × IfSome (step app s i) (λ t. Walks t items))

  then_head : (b : Bool) (o : Option Model) (A : Type 0) (f : Model → Verdict) (good : Model → Type 0) (g k : Model → Type 0)
      → ((u : Model) → Fares (f u) good → g u → k u)
      → Fares (if b then Over else judge_on o f) good → Unless b (A × IfSome o g) → Unless b (A × IfSome o k)
  then_head true o A f good g k j h w = tt
  then_head false None A f good g k j h w = (w.0, tt)
  then_head false (Some u) A f good g k j h w = (w.0, j u h w.1)

  pub walks_then : (s : Model) (items more : List Item) (good : Model → Type 0) → Fares (judge app s items) good → Walks s items
      → ((t : Model) → good t → Walks t more) → Walks s (items ++ more)
  walks_then s [] more good h w f = f s h
  walks_then s (i ∷ items) more good h w f =
      then_head (is_forged i) (step app s i) (P s i) (λ t. judge app t items) good (λ t. Walks t items) (λ t. Walks t (items ++ more))
      (λ u a b. walks_then u items more good a b f) h w

  all_head : (Q : Item → Type 0) (i : Item) (items : List Item) (b : Bool) (o : Option Model) (A : Type 0) (f : Model → Verdict) (good : Model → Type 0) (g : Model → Type 0)
      → (A → Q i) → ((u : Model) → Fares (f u) good → g u → All Q (before items))
      → Fares (if b then Over else judge_on o f) good → Unless b (A × IfSome o g) → All Q (if b then [] else i ∷ before items)
  all_head Q i items true o A f good g q j h w = All-nil Q
  all_head Q i items false None A f good g q j h w = absurd h
  all_head Q i items false (Some u) A f good g q j h w = All-cons Q i (before items) (q w.0) (j u h w.1)

  -- what is so of each item alone
  pub all_before : (Q : Item → Type 0) → ((s : Model) (i : Item) → P s i → Q i) → (s : Model) (items : List Item) (good : Model → Type 0)
      → Fares (judge app s items) good → Walks s items → All Q (before items)
  all_before Q q s [] good h w = All-nil Q
  all_before Q q s (i ∷ items) good h w =
      all_head Q i items (is_forged i) (step app s i) (P s i) (λ t. judge app t items) good (λ t. Walks t items) (λ p. q s i p)
      (λ u a b. all_before Q q u items good a b) h w
