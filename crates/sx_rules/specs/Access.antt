-- The access table of Sancus 2.0: what code may do to a byte, by the module that the code belongs
-- to.
--     Sections      what a table of sections holds
--     in_public, in_private, at_entry      where a byte lies in a section
--     may      the access table
--     holder, outside_private, in_order, extends      what a step asks of an instruction's bytes
--     both_bytes      a test of the two bytes of a word
--     Lives, section_of      a live section, and one by its id
use Rattle.std.specs.Prelude.{◌≡◌, ◌⊎◌, ℕ, ◌+◌, ◌==◌, nat_lt, nat_le, Bool, ◌&&◌, ◌||◌, not}
use Rattle.std.specs.Prelude.{if◌then◌else◌, List, [], ◌∷◌, Option, find}
use Rattle.std.specs.List.{list_all}
use Rattle.sx_rules.specs.declared.access.Access.{Access}
use Rattle.sx_rules.specs.declared.access.Access.TheVariants.{Read, Write, Run}
use Rattle.sx_rules.specs.declared.section.Section.{Section}

-- what is in a table: the live sections in the order of their admission, and the next id
pub record Sections : Type 0 where
  pub live : List Section
  pub next : ℕ

-- the byte lies in the section's public part
abbrev pub in_public : Section → ℕ → Bool
in_public s at = nat_le s.layout.pub_from at && nat_lt at s.layout.pub_to

-- the byte lies in the section's private part
abbrev pub in_private : Section → ℕ → Bool
in_private s at = nat_le s.layout.priv_from at && nat_lt at s.layout.priv_to

-- the byte belongs to the first word of the public part, where other code may enter
abbrev pub at_entry : Section → ℕ → Bool
at_entry s at = nat_le s.layout.pub_from at && nat_lt at (s.layout.pub_from + 2)

-- one section allows code of the module `own`, 0 for code outside every module, to access a byte:
--                  entry  rest of public  private  elsewhere
--     own code     r-x    r-x             rw-      rwx
--     other code   r-x    r--             ---      rwx
abbrev pub allows : ℕ → Access → ℕ → Section → Bool
allows own Read at s = not (in_private s at) || own == s.id
allows own Write at s = not (in_public s at) && (not (in_private s at) || own == s.id)
allows own Run at s =
    not (in_private s at) && (not (in_public s at) || (own == s.id || at_entry s at))

-- the access table (Sancus 2.0): every live section allows the access
unfoldable pub may : List Section → ℕ → Access → ℕ → Bool
may live own access at = list_all (allows own access at) live

-- the id of the section whose public part holds the byte, else 0
abbrev pub holder : List Section → ℕ → ℕ
holder [] at = 0
holder (s ∷ rest) at = if in_public s at then s.id else holder rest at

-- no private section holds the byte
abbrev pub outside_private : List Section → ℕ → Bool
outside_private live at = list_all (λ s. not (in_private s at)) live

-- PC lies in no public section other than that of `cur`, or at such a section's first byte
abbrev pub in_order : List Section → ℕ → ℕ → Bool
in_order live cur pc =
    list_all (λ s. not (in_public s pc) || (cur == s.id || pc == s.layout.pub_from)) live

-- a byte of an extension word of an instruction of `own` may be here: in unprotected memory or
-- in the public section of `own`
abbrev pub extends : List Section → ℕ → ℕ → Bool
extends live own at =
    list_all (λ s. not (in_private s at) && (not (in_public s at) || own == s.id)) live

-- the section is one of the live ones
abbrev pub Lives : List Section → Section → Type 0
Lives [] s = ⊥
Lives (x ∷ rest) s = (x ≡ s) ⊎ Lives rest s

-- the live section with the id
abbrev pub section_of : List Section → ℕ → Option Section
section_of live id = find (λ s. s.id == id) live
