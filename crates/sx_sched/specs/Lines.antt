-- The lines of a schedule.
use Rattle.std.specs.Prelude.{ℕ, List}

-- a line, its bytes as a list
pub data Line : Type 0 where
  Blank : Line
  Run : (node steps : ℕ) → Line
  Finish : (node : ℕ) → Line
  Put : (node at : ℕ) (bytes : List ℕ) → Line
  Set : (node reg value : ℕ) → Line
  Take : (node at len : ℕ) → Line
  Give : (packet node at : ℕ) → Line
  Forge : (bytes : List ℕ) → Line
  Sense : (device value : ℕ) → Line
  Irq : (node line : ℕ) → Line
  Reset : (node : ℕ) → Line
  Ask : (m : ℕ) → Line
  Answer : (m boot packet : ℕ) → Line
  Load : (m : ℕ) → Line
  Call : (m entry input output : ℕ) → Line
