-- The listing of code.
use Rattle.std.specs.Prelude.{zero, suc, drop, ℕ, ◌+◌, nat_lt, if◌then◌else◌, List, [], ◌∷◌, ◌++◌}
use Rattle.std.specs.Prelude.{length}
use Rattle.sx_asm.specs.Meaning.{further}
use Rattle.sx_asm.specs.Shown.{listed}

-- the listing of bytes from an address on, a line for each instruction; at most this many lines,
-- and no last byte alone
abbrev pub listing : ℕ → ℕ → List ℕ → List ℕ
listing zero at bytes = []
listing (suc k) at bytes =
    if nat_lt (length bytes) 2 then [] else (
    let line = listed at bytes in line.0 ++ (10 ∷ listing k (further at line.1) (drop line.1 bytes))
    )
