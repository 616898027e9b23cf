-- The listing of code.
use Rattle.std.specs.Prelude.{ℕ, zero, suc, nat_lt, if◌then◌else◌, List, [], ◌++◌, length, take}
use Rattle.std.specs.Prelude.{drop, codes}
use Rattle.hex.specs.Hex.{encode_lower}
use Rattle.sx_asm.specs.Meaning.{further}
use Rattle.sx_asm.specs.Shown.{listed}
use Rattle.command_text.specs.Address.{address}
use Rattle.command_text.specs.Output.{line}

-- the line of the first instruction of some bytes at an address: the address, its bytes
-- and its text
unfoldable pub listing_line : ℕ → List ℕ → List ℕ
listing_line at bytes =
    let first = listed at bytes in
    line (address at ++ codes " " ++ encode_lower (take first.1 bytes) ++ codes " " ++ first.0)

-- a line for each instruction; at most this many lines, and no last byte alone
abbrev pub listing_lines : ℕ → ℕ → List ℕ → List ℕ
listing_lines zero at bytes = []
listing_lines (suc k) at bytes =
    if nat_lt (length bytes) 2 then [] else (
    let size = (listed at bytes).1 in
    listing_line at bytes ++ listing_lines k (further at size) (drop size bytes)
    )

-- the lines of all instructions of some bytes from an address on
unfoldable pub listing : ℕ → List ℕ → List ℕ
listing at bytes = listing_lines (length bytes) at bytes
