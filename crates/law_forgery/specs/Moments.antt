-- The moments of a run, and the first at which a `forged` is shown.
use Rattle.std.specs.Prelude.{◌≡◌, ℕ, zero, suc, ◌<◌, ◌⊎◌, List, [], ◌∷◌, Option, Some, None}
use Rattle.sx_trace.specs.declared.items.Item.{Item}
use Rattle.sx_trace.specs.declared.items.Item.TheVariants as item
use Rattle.sx_sched.specs.Lines.{Line}
use Rattle.spec_run.specs.Setting.{Setting}
use Rattle.spec_run.specs.State.{World, switched_on}
use Rattle.law_isolation.specs.Happening.{Happening, done}
use Rattle.law_isolation.specs.Script.{Script, End, Do, looks}
use Rattle.law_isolation.specs.Lines.{script_of}

-- what happens next, and the world that it happens in
pub record Moment : Type 0 where
  pub next : Happening
  pub world : World

-- the moment after k things that a script does from a world on, if it does so many
abbrev pub moment_from : Setting → ℕ → Script → World → Option Moment
moment_from set k End w = None
moment_from set zero (Do x rest) w = Some (record { next = x; world = w })
moment_from set (suc k) (Do x rest) w =
    moment_from set k (rest (looks (done set x w).world)) (done set x w).world

-- the k-th moment of a schedule's run, which begins at 0
abbrev pub moment : Setting → List Line → ℕ → Option Moment
moment set lines k = moment_from set k (script_of set lines) (switched_on set)

-- the items that a moment shows
abbrev pub shown_at : Setting → Moment → List Item
shown_at set now = (done set now.next now.world).items

-- the item is among these
abbrev pub IsAmong : Item → List Item → Type 0
IsAmong i [] = ⊥
IsAmong i (x ∷ xs) = (x ≡ i) ⊎ IsAmong i xs

-- no `forged` is among these
abbrev pub NoForged : List Item → Type 0
NoForged items = (who : Option ℕ) → IsAmong (item.Forged who) items → ⊥

-- before the k-th moment no `forged` is shown
abbrev pub NoneBefore : Setting → List Line → ℕ → Type 0
NoneBefore set lines k =
    (j : ℕ) (past : Moment) → j < k → moment set lines j ≡ Some past → NoForged (shown_at set past)

-- at the k-th moment the run shows its first `forged`
pub record FirstForged (set : Setting) (lines : List Line) (k : ℕ) (now : Moment)
    (who : Option ℕ) : Type 0 where
  pub at : moment set lines k ≡ Some now
  pub shown : IsAmong (item.Forged who) (shown_at set now)
  pub first : NoneBefore set lines k
