-- An entry of the ledger as plain data.
use Rattle.std.specs.Prelude.{ℕ, List}
use Rattle.sx_ledger.specs.declared.entry.Maker.{Maker}

-- who made a header and a plain body; the module that a set-key packet is for, else 255; and the
-- boot that it is for or was made at, 0 of an event
pub record Made : Type 0 where
  pub maker : Maker
  pub target : ℕ
  pub boot : ℕ
  pub header : List ℕ
  pub body : List ℕ

-- the target of an entry that is no set-key packet
abbrev pub NO_TARGET : ℕ
NO_TARGET = 255
