-- Ranges of bytes, and what they meet.
use Rattle.std.specs.Prelude.{ℕ, ◌+◌, nat_lt, Bool, ◌&&◌, List}
use Rattle.std.specs.List.{list_any}
use Rattle.sx_rules.specs.declared.section.Section.{Section}

-- n bytes from an address on meet the bytes from..to; no byte meets nothing
abbrev pub meets : ℕ → ℕ → ℕ → ℕ → Bool
meets at n from to = nat_lt 0 n && (nat_lt at to && nat_lt from (at + n))

-- they pass the end of memory
abbrev pub passes_end : ℕ → ℕ → Bool
passes_end at n = nat_lt 65536 (at + n)

-- a range has a byte in common with a private section
abbrev pub meets_private : List Section → ℕ → ℕ → Bool
meets_private live at n = list_any (λ s. meets at n s.layout.priv_from s.layout.priv_to) live

-- a range has a byte in common with a public section
abbrev pub meets_public : List Section → ℕ → ℕ → Bool
meets_public live at n = list_any (λ s. meets at n s.layout.pub_from s.layout.pub_to) live

-- a device is the word at its place
abbrev pub meets_device : List ℕ → ℕ → ℕ → Bool
meets_device places at n = list_any (λ place. meets at n place (place + 2)) places
