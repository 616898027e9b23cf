-- A test that a word is hexadecimal text. Nobody has to believe this file: what a word says as
-- bytes is `bytes_of` of `Reading`.
use Rattle.std.specs.Prelude.{ℕ, ◌/◌, ◌%◌, ◌==◌, nat_le, Bool, ◌&&◌, List, length}
use Rattle.std.specs.List.{list_all}
use Rattle.hex.specs.Hex.{is_hex_digit}

-- the hexadecimal text of 1 to this many bytes
abbrev pub is_hex_text : ℕ → List ℕ → Bool
is_hex_text most word =
    (list_all is_hex_digit word && length word % 2 == 0)
    && (nat_le 1 (length word / 2) && nat_le (length word / 2) most)
