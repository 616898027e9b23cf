-- How a name is stored.
use Rattle.std.specs.Prelude.{◌≡◌, ℕ, ◌<◌, ◌≤◌, List, ◌++◌, length, take, replicate}

-- the bytes, filled up to 16 with zeros
abbrev pub padded_name : List ℕ → List ℕ
padded_name bytes = take 16 (bytes ++ replicate 16 0)

-- `count` bytes are at the start of a field of 16, and zeros after them
pub record IsStored (field : List ℕ) (count : ℕ) : Type 0 where
  pub some : 0 < count
  pub short : count ≤ 16
  pub counted : length (take count field) ≡ count
  pub filled : padded_name (take count field) ≡ field
