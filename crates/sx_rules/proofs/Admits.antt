-- What holds where no rule refuses a section.
use Rattle.std.proofs.Common.{◌≡◌, ℕ, ◌<◌, ◌≤◌, Bool, true, false, not, cond, List, length, Option, Some, None, refl}
use Rattle.std.proofs.lemmas.Bool.{ltb-false, leb-false, not-false}
use Rattle.sx_rules.specs.declared.section.Layout.{Layout}
use Rattle.sx_rules.specs.declared.admission.Refusal.{Refusal}
use Rattle.sx_rules.specs.declared.admission.Refusal.TheVariants.{Bounds, Overlap, Device, Full, Ids}
use Rattle.sx_rules.specs.Access.{Sections}
use Rattle.sx_rules.specs.Admission.{good_bounds, no_overlap, no_device, is_full, ids_used, refusal}

pub record Admits (t : Sections) (l : Layout) (places : List ℕ) : Type 0 where
  pub bounds : good_bounds l ≡ true
  pub overlap : no_overlap t.live l ≡ true
  pub device : no_device places l ≡ true
  pub room : length t.live < 8
  pub ids : t.next ≤ 65535

passed : (b : Bool) (r : Refusal) (rest : Option Refusal) → cond b (Some r) rest ≡ None → (b ≡ false) × (rest ≡ None)
passed true r rest h = cc
passed false r rest h = (refl, h)

pub admits : (t : Sections) (l : Layout) (places : List ℕ) → refusal t l places ≡ None → Admits t l places
unfolding refusal
admits t l places h =
    let bounds = passed (not (good_bounds l)) Bounds _ h in
    let overlap = passed (not (no_overlap t.live l)) Overlap _ bounds.1 in
    let device = passed (not (no_device places l)) Device _ overlap.1 in
    let room = passed (is_full t) Full _ device.1 in
    let ids = passed (ids_used t) Ids _ room.1 in
    record {
      bounds = not-false _ bounds.0;
      overlap = not-false _ overlap.0;
      device = not-false _ device.0;
      room = leb-false 8 (length t.live) room.0;
      ids = ltb-false 65535 t.next ids.0;
    }
