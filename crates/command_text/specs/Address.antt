-- Addresses as commands write them.
use Rattle.std.specs.Prelude.{ℕ, ◌/◌, ◌%◌, List, [], ◌∷◌, ◌++◌, slice_index, codes}

-- a lower-case hexadecimal digit
abbrev pub digit : ℕ → ℕ
digit n = slice_index (codes "0123456789abcdef") (n % 16)

-- `0x` and four digits
abbrev pub address : ℕ → List ℕ
address at = codes "0x" ++ digit (at / 4096) ∷ digit (at / 256) ∷ digit (at / 16) ∷ digit at ∷ []
