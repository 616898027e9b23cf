-- The slots of a table that hold no section.
use Rattle.std.specs.Prelude.{◌≡◌, ℕ, ◌≤◌, List, replicate, get_or}
use Rattle.sx_rules.specs.declared.section.Section.{Section}

-- what is in such a slot: no key of a section that was removed
abbrev pub unused : Section
unused = record {
  layout = record { pub_from = 0; pub_to = 0; priv_from = 0; priv_to = 0 };
  provider = 0;
  id = 0;
  key = replicate 16 0;
}

-- the slots from the n-th on hold none
abbrev pub AreUnused : ℕ → List Section → Type 0
AreUnused n slots = (i : ℕ) → n ≤ i → get_or slots i unused ≡ unused
