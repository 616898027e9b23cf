-- The entry that a ledger keeps of what was made.
use Rattle.std.specs.Prelude.{◌≡◌, ◌↔◌, ◌⊎◌, ℕ, ◌-◌, List, ◌++◌, length, take, replicate}
use Rattle.std.specs.List.{Contains}
use Rattle.sx_ledger.specs.declared.entry.Maker.{Maker}
use Rattle.sx_ledger.specs.declared.entry.Entry.{Entry}
use Rattle.sx_ledger.specs.Made.{Made}

-- an entry with these parts
abbrev pub made : Maker → ℕ → ℕ → List ℕ → List ℕ → Made
made maker target boot header body =
    record { maker = maker; target = target; boot = boot; header = header; body = body }

-- the bytes with zeros after them up to 32
abbrev pub padded : List ℕ → List ℕ
padded bytes = bytes ++ replicate (32 - length bytes) 0

-- the entry with this header and this body, of at most 32 bytes each
abbrev pub entry_of : Made → Entry
entry_of m = record {
  maker = m.maker;
  target = m.target;
  boot = m.boot;
  ad = padded m.header;
  ad_len = length m.header;
  body = padded m.body;
  body_len = length m.body;
}

-- the header and the body of an entry, without the room after them
abbrev pub made_of : Entry → Made
made_of e = record {
  maker = e.maker;
  target = e.target;
  boot = e.boot;
  header = take e.ad_len e.ad;
  body = take e.body_len e.body;
}

-- the ledger's entries after the making of one: those before, and that one
abbrev pub AddsEntry : List Entry → List Entry → Entry → Type 0
AddsEntry old new entry = (e : Entry) → Contains new e ↔ (Contains old e ⊎ (e ≡ entry))
