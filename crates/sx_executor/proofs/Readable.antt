-- Bounds between which all code may read.
use Rattle.std.proofs.Common.{◌≡◌, ℕ, ◌+◌, ◌-◌, ◌==◌, nat_lt, nat_le, Bool, true, false, ◌&&◌, not, List, None}
use Rattle.std.proofs.Common.{sym, subst, ◌∙◌, arith}
use Rattle.std.proofs.lemmas.Bool.{and_parts, and_from, or_left, not_from_false, leb-true, ltb-true}
use Rattle.std.specs.List.{list_all}
use Rattle.sx_rules.specs.declared.access.Access.TheVariants.{Read}
use Rattle.sx_rules.specs.declared.section.Section.{Section}
use Rattle.sx_rules.specs.Access.{Sections, may, allows, in_private}
use Rattle.sx_rules.specs.Admission.{is_even}
use Rattle.sx_bus.specs.declared.devices.Window.{Window}
use Rattle.sx_bus.specs.Devices.{places_of, device_at}
use Rattle.spec_machine.specs.Memory.{even}
use Rattle.spec_machine.specs.Ranges.{meets_device}
use Rattle.spec_machine.specs.Run.{may_at}
use Rattle.sx_executor.specs.declared.gap.Gap.{Gap}
use Rattle.sx_executor.specs.Homes.{within}
use Rattle.sx_executor.specs.Occupancy.{Occupied}
use Rattle.sx_executor.specs.Readable.{spares, IsReadable, KeepsReadable}
use Rattle.sx_executor.proofs.Clear.{none_at}
use Rattle.sx_executor.proofs.Deep.{part_clear}
use Rattle.sx_executor.proofs.Homes.{low_byte, high_byte, not_both, none_within}
use Rattle.sx_executor.proofs.Rights.{all_weaker}

off_private : (g : Gap) (at : ℕ) → within g.from g.to at ≡ true → (s : Section) → spares g s ≡ true → not (in_private s at) ≡ true
off_private g at w s p = not_from_false _ (not_both g.from g.to s.layout.priv_from s.layout.priv_to at p w)

reads : (g : Gap) (live : List Section) (at : ℕ) → list_all (spares g) live ≡ true → within g.from g.to at ≡ true → (own : ℕ) → may live own Read at ≡ true
unfolding may
reads g live at a w own =
    all_weaker (spares g) (allows own Read at) (λ s p. or_left (not (in_private s at)) (own == s.id) (off_private g at w s p)) live a

-- bounds between which no private part and no device is
pub keeps : (g : Gap) (live : List Section) (places : List ℕ) → (is_even g.from && is_even g.to) ≡ true → list_all (spares g) live ≡ true
    → meets_device places g.from (g.to - g.from) ≡ false → KeepsReadable g live places
keeps g live places e a clear =
    let ends = and_parts (is_even g.from) (is_even g.to) e in
    record {
      each = λ at w.
          let parts = and_parts (nat_le g.from at) (nat_lt at g.to) w in
          let above = leb-true g.from at parts.0 in
          let below = ltb-true at g.to parts.1 in
          let low = low_byte g.from g.to at ends.0 w in
          let high = high_byte g.from g.to at ends.1 w in
          record {
            readable = λ own wide. elim wide as (λ t. may_at t live own Read at ≡ true) [
              | true ↦ and_from _ _ (reads g live (even at) a low own) (reads g live (even at + 1) a high own)
              | false ↦ reads g live at a w own
            ];
            bare = part_clear places g.from (g.to - g.from) at 1 above (omega arith) clear;
          };
    }

-- bounds with no place between them
pub empty : (live : List Section) (places : List ℕ) → KeepsReadable (record { from = 0; to = 0 }) live places
empty live places = record { each = λ at w. absurd (none_within at w) }

-- a place that is known to be between the bounds
pub known : (g : Gap) (sections : Sections) (devices : List Window) (now : Occupied) (at : ℕ) (b : Bool)
    → KeepsReadable g sections.live (places_of devices) → b ≡ within g.from g.to at
    → record { devices = devices; sections = sections } ≡ now → b ≡ true → IsReadable now.sections.live (places_of now.devices) at
known g sections devices now at b k e view t =
    subst (λ (o : Occupied). IsReadable o.sections.live (places_of o.devices) at) view (k.each at (sym e ∙ t))

-- no device is at such a place
pub bare : (live : List Section) (devices : List Window) (at : ℕ) → IsReadable live (places_of devices) at → device_at devices at ≡ None
bare live devices at d =
    subst (λ (k : ℕ). device_at devices k ≡ None) (omega arith) (none_at devices at 1 0 0 d.bare (omega arith))
