-- Marks: what a module does that others can rely on.
use Rattle.std.specs.Prelude.{◌≡◌, ℕ, ◌+◌, Bool, List, ◌++◌}

-- a wrap, or an unwrap that was accepted, each with its header, its plain body and whether it was
-- under the module's own key; a read of a fresh sensor, or a write to an actuator, each with the
-- device and the value
pub data Mark : Type 0 where
  Wrapped : List ℕ → List ℕ → Bool → Mark
  Unwrapped : List ℕ → List ℕ → Bool → Mark
  Sampled : ℕ → ℕ → Mark
  Actuated : ℕ → ℕ → Mark

-- the marks so far are a prefix of all
abbrev pub HasPrefix : List Mark → List Mark → Type 0
HasPrefix all seen = (rest : List Mark) × (seen ++ rest ≡ all)
