-- The home of a module: its two parts, where its own code needs no look at the sections.
--     within      a byte lies in a part
--     has_code, has_data      it lies in the home's public part, or in its private one
--     has_data_range      so many bytes lie in its private part
--     leaves      a section leaves the home to its module
--     is_even_home      the home's bounds are even
--     IsCode, IsData      what holds of the places of the two parts
--     KeepsHome      beside these sections all places of the home are such
use Rattle.std.specs.Prelude.{◌≡◌, ℕ, ◌+◌, ◌-◌, ◌==◌, nat_lt, nat_le, Bool, true, ◌&&◌, ◌||◌, List}
use Rattle.sx_rules.specs.declared.access.Access.TheVariants.{Read, Write}
use Rattle.sx_rules.specs.declared.section.Section.{Section}
use Rattle.sx_rules.specs.Access.{holder, in_order, extends}
use Rattle.sx_rules.specs.Admission.{apart, is_even}
use Rattle.spec_machine.specs.Memory.{even}
use Rattle.spec_machine.specs.Run.{may_at}
use Rattle.spec_machine.specs.Step.{word_outside}
use Rattle.sx_executor.specs.declared.home.Home.{Home}

-- the byte lies in the part from `from` up to but not `to`
abbrev pub within : ℕ → ℕ → ℕ → Bool
within from to at = nat_le from at && nat_lt at to

-- it lies in the public part of the home of the module `id`, or in its private part
abbrev pub has_code : Home → ℕ → ℕ → Bool
has_code h id at = (id == h.id) && within h.layout.pub_from h.layout.pub_to at

abbrev pub has_data : Home → ℕ → ℕ → Bool
has_data h id at = (id == h.id) && within h.layout.priv_from h.layout.priv_to at

-- so many bytes from an address on lie in its private part
abbrev pub has_data_range : Home → ℕ → ℕ → ℕ → Bool
has_data_range h id at n = nat_lt 0 n && (has_data h id at && has_data h id (at + (n - 1)))

-- No private part meets the home's public one, no public part its private one, and no part of
-- another module's section meets it at all.
abbrev pub leaves : Home → Section → Bool
leaves h s =
    apart h.layout.pub_from h.layout.pub_to s.layout.priv_from s.layout.priv_to
    && (apart h.layout.priv_from h.layout.priv_to s.layout.pub_from s.layout.pub_to
    && (s.id == h.id || (apart h.layout.pub_from h.layout.pub_to s.layout.pub_from s.layout.pub_to
    && apart h.layout.priv_from h.layout.priv_to s.layout.priv_from s.layout.priv_to)))

-- each bound is even
abbrev pub is_even_home : Home → Bool
is_even_home h = is_even h.layout.pub_from && (is_even h.layout.pub_to
    && (is_even h.layout.priv_from && is_even h.layout.priv_to))

-- the place is one of the code of the module `id`, which may go there and have extension words there
pub record IsCode (live : List Section) (id at : ℕ) : Type 0 where
  pub held : holder live at ≡ id
  pub outside : word_outside live at ≡ true
  pub ordered : in_order live id at ≡ true
  pub extended : (extends live id (even at) && extends live id (even at + 1)) ≡ true

-- the module `id` may read and write the word there, and the byte
pub record IsData (live : List Section) (id at : ℕ) : Type 0 where
  pub readable : (wide : Bool) → may_at wide live id Read at ≡ true
  pub writable : (wide : Bool) → may_at wide live id Write at ≡ true

-- beside these sections the home's places are its module's code and data
pub record KeepsHome (h : Home) (live : List Section) : Type 0 where
  pub public : (at : ℕ) → within h.layout.pub_from h.layout.pub_to at ≡ true → IsCode live h.id at
  pub private : (at : ℕ) → within h.layout.priv_from h.layout.priv_to at ≡ true → IsData live h.id at
