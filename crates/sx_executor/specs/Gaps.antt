-- A gap: a stretch of memory in which no live section has a byte.
--     passes      a section has no byte in the gap
--     IsApart      what holds of a word that no live section has a byte of
--     KeepsGap      beside these sections all places of the gap are such
--     has_place, KeepsGaps      the same of two gaps
--     within_deep, has_deep_place      the byte and the five after it lie in a gap, and in one of two
use Rattle.std.specs.Prelude.{◌≡◌, ℕ, ◌+◌, nat_lt, nat_le, Bool, true, ◌&&◌, ◌||◌, List}
use Rattle.sx_rules.specs.declared.access.Access.{Access}
use Rattle.sx_rules.specs.declared.section.Section.{Section}
use Rattle.sx_rules.specs.Access.{holder, in_order, extends}
use Rattle.sx_rules.specs.Admission.{apart}
use Rattle.spec_machine.specs.Memory.{even}
use Rattle.spec_machine.specs.Run.{may_at}
use Rattle.spec_machine.specs.Step.{word_outside}
use Rattle.sx_executor.specs.declared.gap.Gap.{Gap}
use Rattle.sx_executor.specs.declared.gap.Gaps.{Gaps}
use Rattle.sx_executor.specs.Homes.{within}

-- neither part of the section meets the gap
abbrev pub passes : Gap → Section → Bool
passes g s =
    apart g.from g.to s.layout.pub_from s.layout.pub_to
    && apart g.from g.to s.layout.priv_from s.layout.priv_to

-- any code may reach the word and its byte at the address, run it, and have an extension word there;
-- it is no module's code
pub record IsApart (live : List Section) (at : ℕ) : Type 0 where
  pub reached : (own : ℕ) (wide : Bool) (access : Access) → may_at wide live own access at ≡ true
  pub outside : word_outside live at ≡ true
  pub ordered : (cur : ℕ) → in_order live cur at ≡ true
  pub extended : (own : ℕ) → (extends live own (even at) && extends live own (even at + 1)) ≡ true
  pub of_none : holder live at ≡ 0

-- beside these sections no place of the gap is of a section
pub record KeepsGap (g : Gap) (live : List Section) : Type 0 where
  pub places : (at : ℕ) → within g.from g.to at ≡ true → IsApart live at

-- the byte lies in one of the gaps
abbrev pub has_place : Gaps → ℕ → Bool
has_place g at = within g.last.from g.last.to at || within g.older.from g.older.to at

-- the byte lies between the bounds, and the five after it
abbrev pub within_deep : ℕ → ℕ → ℕ → Bool
within_deep from to at = nat_le from at && nat_lt (at + 5) to

-- it and the five after it lie in one of the gaps
abbrev pub has_deep_place : Gaps → ℕ → Bool
has_deep_place g at =
    within_deep g.last.from g.last.to at || within_deep g.older.from g.older.to at

-- the same of the places of both
pub record KeepsGaps (g : Gaps) (live : List Section) : Type 0 where
  pub last : KeepsGap g.last live
  pub older : KeepsGap g.older live
