-- The bytes of a memory.
use Rattle.std.specs.Prelude.{◌≡◌, ℕ, ◌<◌, List, length, replicate, slice_index}

-- n bytes of zero
unfoldable pub blank : ℕ → List ℕ
blank n = replicate n 0

-- 65,536 bytes
pub record AreMemoryBytes (mem : List ℕ) : Type 0 where
  pub size : length mem ≡ 65536
  pub bytes : (at : ℕ) → slice_index mem at < 256
