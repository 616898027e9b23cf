-- Which live sections meet a page, which is 256 bytes of memory from a multiple of 256 on (own). A
-- table keeps this for each page, so that a question about a byte goes to the sections of its page
-- alone.
--     meets, meeting, is_open      whether a section meets a page, which do, and whether none does
--     IsIndex      what a table keeps for its live sections
--     answer      what a section says to a question about a byte
--     IsFree      what holds of a byte of an open page
use Rattle.std.specs.Prelude.{◌≡◌, ℕ, ◌+◌, ◌*◌, ◌/◌, ◌==◌, ◌<◌, nat_lt, nat_le, Bool, true, false}
use Rattle.std.specs.Prelude.{◌&&◌, ◌||◌, not, if◌then◌else◌, List, [], ◌∷◌, slice_index}
use Rattle.std.specs.List.{list_all}
use Rattle.sx_rules.specs.declared.access.Access.{Access}
use Rattle.sx_rules.specs.declared.access.Question.{Question}
use Rattle.sx_rules.specs.declared.access.Question.TheVariants.{Allows, OutsidePrivate, InOrder}
use Rattle.sx_rules.specs.declared.access.Question.TheVariants.{Extends}
use Rattle.sx_rules.specs.declared.section.Section.{Section}
use Rattle.sx_rules.specs.Access.{in_public, in_private, allows, may, holder, outside_private}
use Rattle.sx_rules.specs.Access.{in_order, extends, Lives}

-- the part from `from` up to `to`, if it has any bytes, has bytes of the page
abbrev pub reaches : ℕ → ℕ → ℕ → Bool
reaches from to page = nat_le (from / 256) page && nat_lt (256 * page) to

-- one of the section's parts does
abbrev pub meets : ℕ → Section → Bool
meets page s =
    reaches s.layout.pub_from s.layout.pub_to page
    || reaches s.layout.priv_from s.layout.priv_to page

-- the sections that meet the page, as a number: bit i is set where the i-th does
abbrev pub meeting : ℕ → List Section → ℕ
meeting page [] = 0
meeting page (s ∷ rest) = (if meets page s then 1 else 0) + 2 * meeting page rest

-- no section meets the page
abbrev pub is_open : List Section → ℕ → Bool
is_open live page = list_all (λ s. not (meets page s)) live

-- what is kept for each of the 256 pages: the sections that meet it
abbrev pub IsPageIndex : List ℕ → List Section → Type 0
IsPageIndex pages live = (page : ℕ) → page < 256 → slice_index pages page ≡ meeting page live

-- what a section says to a question about a byte; the access table and a step's other tests require
-- a yes from every live one
abbrev pub answer : Question → ℕ → Section → Bool
answer (Allows own access) at s = allows own access at s
answer OutsidePrivate at s = not (in_private s at)
answer (InOrder cur) at s = not (in_public s at) || (cur == s.id || at == s.layout.pub_from)
answer (Extends own) at s = not (in_private s at) && (not (in_public s at) || own == s.id)

-- no live section holds the byte, so nothing keeps any code from it
pub record IsFree (live : List Section) (at : ℕ) : Type 0 where
  pub held : (s : Section) → Lives live s → (in_public s at ≡ false) × (in_private s at ≡ false)
  pub reached : (own : ℕ) (access : Access) → may live own access at ≡ true
  pub outside : outside_private live at ≡ true
  pub ordered : (cur : ℕ) → in_order live cur at ≡ true
  pub extended : (own : ℕ) → extends live own at ≡ true
  pub of_none : holder live at ≡ 0
