-- Makers of schedules, who remember all that they saw outside deployed modules.
use Rattle.std.specs.Prelude.{◌≡◌, ℕ, zero, suc, ◌<◌, ◌≤◌, List, [], ◌∷◌, ◌++◌}
use Rattle.sx_trace.specs.declared.items.Item.{Item}
use Rattle.sx_sched.specs.Lines.{Line}
use Rattle.spec_run.specs.Setting.{Setting}
use Rattle.spec_run.specs.State.{World, switched_on}
use Rattle.spec_run.specs.Run.{run}
use Rattle.spec_run.specs.Law.{IsSoundSetting, LinesInForm}
use Rattle.law_forgery.specs.Moments.{NoForged}
use Rattle.law_connections.specs.Unlinked.{Unlinked}
use Rattle.law_connections.specs.LinksUnseen.{upto_forged, SameWorldOutside, NothingGuessed}
use Rattle.law_connections.specs.Laws.{HidesKeys}

-- the items up to the first `forged`, and the world
pub record Sight : Type 0 where
  pub items : List Item
  pub world : World

abbrev pub sight : Setting → List Line → Sight
sight set lines = record {
  items = upto_forged (run set (switched_on set) lines).items;
  world = (run set (switched_on set) lines).world;
}

-- the same items, and the same worlds outside deployed modules
abbrev pub SameSights : Setting → List Sight → List Sight → Type 0
SameSights a [] [] = Unit {0}
SameSights a [] (y ∷ ys) = ⊥
SameSights a (x ∷ xs) [] = ⊥
SameSights a (x ∷ xs) (y ∷ ys) =
    (y.items ≡ x.items) × SameWorldOutside a x.world y.world × SameSights a xs ys

abbrev pub Maker : Type 0
Maker = List Sight → Line

-- the maker sees items and what is outside deployed modules, and nothing else
abbrev pub LooksOutside : Setting → Maker → Type 0
LooksOutside a make = (p q : List Sight) → SameSights a p q → make p ≡ make q

-- the lines that were made, and what was seen after each
pub record Made : Type 0 where
  pub lines : List Line
  pub sights : List Sight

abbrev pub more : Setting → Maker → Made → Made
more set make m = record {
  lines = m.lines ++ make m.sights ∷ [];
  sights = m.sights ++ sight set (m.lines ++ make m.sights ∷ []) ∷ [];
}

-- so many lines; before the first nothing was seen
abbrev pub made : Setting → Maker → ℕ → Made
made set make zero = record { lines = []; sights = [] }
made set make (suc n) = more set make (made set make n)

-- Whoever doesn't see into deployed modules makes the same of both settings, as long as no `forged`
-- is shown and nothing is guessed; and both then show the same up to the first `forged`.
abbrev pub SeesNoLink : Setting → Maker → ℕ → Type 0
SeesNoLink a make n = (b : Setting) → IsSoundSetting b → Unlinked a b → LooksOutside a make
    → ((k : ℕ) → k ≤ n → LinesInForm a (made a make k).lines)
    → ((k : ℕ) → k ≤ n → NothingGuessed a b (made a make k).lines)
    → ((k : ℕ) → k < n → NoForged (run a (switched_on a) (made a make k).lines).items)
    → ((made b make n).lines ≡ (made a make n).lines)
    × (upto_forged (run b (switched_on b) (made b make n).lines).items
    ≡ upto_forged (run a (switched_on a) (made a make n).lines).items)

-- So it is if no image shows a key.
abbrev pub LinkMakersSeeTheSame : Type 0
LinkMakersSeeTheSame = (a : Setting) (make : Maker) (n : ℕ) → IsSoundSetting a → HidesKeys a
    → SeesNoLink a make n
