-- The rule of invariants.
use Rattle.std.proofs.Common.{ℕ, List, [], ◌∷◌}
use Rattle.std.specs.Prelude.{IsSome}
use Rattle.sx_mean.specs.Application.{AppTree}
use Rattle.sx_mean.specs.Places.{initial_cells}
use Rattle.sx_trace.specs.declared.items.Item.{Item}
use Rattle.sx_model.specs.State.{Model, power_on}
use Rattle.sx_model.specs.Step.{step}
use Rattle.sx_model.specs.Legal.{Legal, after}
use Rattle.sx_model.proofs.Along.{next_of}
use Rattle.law_never.specs.Rules.{Each, IsInvariant}
use Rattle.sx_watch.specs.Watched.{PropertyTree, watched}
use Rattle.law_never.specs.Kept.{Keeps, KeepsFrom}

along : (app : AppTree) (o : PropertyTree) (Given : Item → Type 0) (Inv : Model → List ℕ → Type 0) → IsInvariant app o Given Inv → (items : List Item) (s : Model) (cells : List ℕ)
    → Inv s cells → Each Given items → IsSome (after app s items) → KeepsFrom o cells items
along app o Given Inv h [] s cells inv given legal = tt
along app o Given Inv h (item ∷ items) s cells inv given legal =
    let r = next_of (step app s item) (λ t. after app t items) legal in
    let k = h.kept s cells inv item r.0 given.0 r.1 in
    (k.0, along app o Given Inv h items r.0 (watched o cells item).cells k.1 given.1 r.2)

-- With an invariant each legal run keeps the property.
pub invariant_keeps : (app : AppTree) (o : PropertyTree) (Given : Item → Type 0) (Inv : Model → List ℕ → Type 0) → IsInvariant app o Given Inv
    → (items : List Item) → Each Given items → Legal app items → Keeps o items
invariant_keeps app o Given Inv h items given legal = along app o Given Inv h items (power_on app) (initial_cells o.tree.decls) h.first given legal
