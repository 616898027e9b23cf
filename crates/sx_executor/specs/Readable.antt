-- Where all code may read: no private part is there, and no device.
--     spares      no byte of a section's private part lies between the bounds
--     IsReadable      what holds of a place that all code may read
--     KeepsReadable      beside these sections and devices all places between the bounds are such
use Rattle.std.specs.Prelude.{◌≡◌, ℕ, Bool, true, false, List}
use Rattle.sx_rules.specs.declared.access.Access.TheVariants.{Read}
use Rattle.sx_rules.specs.declared.section.Section.{Section}
use Rattle.sx_rules.specs.Admission.{apart}
use Rattle.spec_machine.specs.Ranges.{meets_device}
use Rattle.spec_machine.specs.Run.{may_at}
use Rattle.sx_executor.specs.declared.gap.Gap.{Gap}
use Rattle.sx_executor.specs.Homes.{within}

-- no byte of the section's private part lies between the bounds
abbrev pub spares : Gap → Section → Bool
spares g s = apart g.from g.to s.layout.priv_from s.layout.priv_to

-- all code may read the word at the address and its byte there, and no device has that byte
pub record IsReadable (live : List Section) (places : List ℕ) (at : ℕ) : Type 0 where
  pub readable : (own : ℕ) (wide : Bool) → may_at wide live own Read at ≡ true
  pub bare : meets_device places at 1 ≡ false

-- beside these sections and devices all places between the bounds are such
pub record KeepsReadable (g : Gap) (live : List Section) (places : List ℕ) : Type 0 where
  pub each : (at : ℕ) → within g.from g.to at ≡ true → IsReadable live places at
