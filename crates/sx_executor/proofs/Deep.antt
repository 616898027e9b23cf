-- The deep part of a home, whose places have three words of the module's code, and its data.
use Rattle.std.proofs.Common.{◌≡◌, ℕ, ◌+◌, ◌-◌, ◌<◌, ◌≤◌, ◌==◌, Bool, true, false, ◌&&◌, ◌||◌, nat_lt, nat_le, List, [], ◌∷◌, None}
use Rattle.std.proofs.Common.{refl, sym, subst, ap, ◌∙◌, arith}
use Rattle.std.proofs.lemmas.Bool.{and_parts, and_from, or_parts, eqb-true, leb-true, ltb-true, le-leb, lt-ltb, false_from_ne_true, true≢false}
use Rattle.sx_rules.specs.declared.section.Section.{Section}
use Rattle.sx_rules.specs.Access.{Sections}
use Rattle.sx_bus.specs.declared.devices.Window.{Window}
use Rattle.sx_bus.specs.Devices.{places_of, device_at}
use Rattle.spec_machine.specs.Ranges.{meets, meets_device}
use Rattle.spec_machine.specs.Registers.{onward}
use Rattle.sx_executor.specs.declared.home.Home.{Home}
use Rattle.sx_executor.specs.declared.home.Deep.{Deep}
use Rattle.sx_executor.specs.Homes.{within, KeepsHome}
use Rattle.sx_executor.specs.Occupancy.{Occupied, IsExtension, IsAhead, IsDeep, IsDeepData, has_deep, has_deep_text, has_deep_data, KeepsDeep}
use Rattle.sx_executor.specs.Readable.{IsReadable}
use Rattle.sx_executor.proofs.Clear.{none_at, none_found}
use Rattle.sx_executor.proofs.Homes.{none_within}
use Rattle.sx_executor.proofs.Rights.{outside_any}

-- no place
pub empty : (live : List Section) (places : List ℕ) → KeepsDeep (record { id = 0; from = 0; to = 0; text_to = 0; data_from = 0; data_to = 0 }) live places
empty live places = record {
  deep = λ at w. absurd (none_within at w);
  text = λ at w. absurd (none_within at w);
  private = λ at w. absurd (none_within at w);
}

-- a device that is apart from a range is apart from each part of it
part_apart : (from n at m place : ℕ) → from ≤ at → at + m ≤ from + n → meets from n place (place + 2) ≡ false → meets at m place (place + 2) ≡ false
part_apart from n at m place low high h =
    false_from_ne_true (meets at m place (place + 2)) (λ e.
    let some = and_parts (nat_lt 0 m) (nat_lt at (place + 2) && nat_lt place (at + m)) e in
    let ends = and_parts (nat_lt at (place + 2)) (nat_lt place (at + m)) some.1 in
    let positive = ltb-true 0 m some.0 in
    let before = ltb-true at (place + 2) ends.0 in
    let behind = ltb-true place (at + m) ends.1 in
    let some_all : 0 < n = omega arith in
    let before_all : from < place + 2 = omega arith in
    let behind_all : place < from + n = omega arith in
    true≢false (sym (and_from (nat_lt 0 n) (nat_lt from (place + 2) && nat_lt place (from + n)) (lt-ltb 0 n some_all)
    (and_from (nat_lt from (place + 2)) (nat_lt place (from + n)) (lt-ltb from (place + 2) before_all) (lt-ltb place (from + n) behind_all))) ∙ h))

pub part_clear : (places : List ℕ) (from n at m : ℕ) → from ≤ at → at + m ≤ from + n → meets_device places from n ≡ false → meets_device places at m ≡ false
part_clear [] from n at m low high h = refl
part_clear (place ∷ rest) from n at m low high h =
    let parts = or_parts (meets from n place (place + 2)) (meets_device rest from n) h in
    ap (λ (b : Bool). b || meets_device rest at m) (part_apart from n at m place low high parts.0)
    ∙ part_clear rest from n at m low high parts.1

inside : (from to at : ℕ) → from ≤ at → at < to → within from to at ≡ true
inside from to at low high = and_from (nat_le from at) (nat_lt at to) (le-leb from at low) (lt-ltb at to high)

-- that of a home without a device
pub keeps : (h : Home) (live : List Section) (places : List ℕ) → h.layout.pub_from + (h.layout.pub_to - h.layout.pub_from) ≤ 65536
    → meets_device places h.layout.pub_from (h.layout.pub_to - h.layout.pub_from) ≡ false
    → (begin : ℕ) → h.layout.priv_from ≤ begin → meets_device places begin (h.layout.priv_to - begin) ≡ false → KeepsHome h live
    → KeepsDeep (record { id = h.id; from = h.layout.pub_from; to = h.layout.pub_to - 4; text_to = h.layout.pub_to; data_from = begin; data_to = h.layout.priv_to }) live places
keeps h live places small clear begin behind clear_data k = record {
  deep = λ at w.
      let from = h.layout.pub_from in let to = h.layout.pub_to in
      let parts = and_parts (nat_le from at) (nat_lt at (to - 4)) w in
      let low = leb-true from at parts.0 in
      let high = ltb-true at (to - 4) parts.1 in
      record {
        first = k.public at (inside from to at low (omega arith));
        second = k.public (at + 2) (inside from to (at + 2) (omega arith) (omega arith));
        third = k.public (at + 4) (inside from to (at + 4) (omega arith) (omega arith));
        bare = part_clear places from (to - from) at 5 low (omega arith) clear;
        ends = omega arith;
      };
  text = λ at w.
      let from = h.layout.pub_from in let to = h.layout.pub_to in
      let parts = and_parts (nat_le from at) (nat_lt at to) w in
      let low = leb-true from at parts.0 in
      let high = ltb-true at to parts.1 in
      record {
        readable = λ own wide. outside_any live own at (k.public at w).outside wide;
        bare = part_clear places from (to - from) at 1 low (omega arith) clear;
      };
  private = λ at w.
      let to = h.layout.priv_to in
      let parts = and_parts (nat_le begin at) (nat_lt at to) w in
      let low = leb-true begin at parts.0 in
      let high = ltb-true at to parts.1 in
      record {
        own = k.private at (inside h.layout.priv_from to at (omega (arith, behind, low)) high);
        bare = part_clear places begin (to - begin) at 1 low (omega (arith, low, high)) clear_data;
      };
}

-- no device meets the part that a buffer is made of
pub part_bare : (places : List ℕ) (from to at count : ℕ) → at ≡ from → count ≡ to - from → meets_device places at count ≡ false
    → meets_device places from (to - from) ≡ false
part_bare places from to at count begin size h =
    subst (λ (n : ℕ). meets_device places from n ≡ false) size (subst (λ (k : ℕ). meets_device places k count ≡ false) begin h)

-- a place that is known to be deep at home
pub known : (d : Deep) (sections : Sections) (devices : List Window) (now : Occupied) (id at : ℕ) (b : Bool)
    → KeepsDeep d sections.live (places_of devices) → b ≡ has_deep d id at
    → record { devices = devices; sections = sections } ≡ now → b ≡ true → IsDeep now.sections.live (places_of now.devices) id at
known d sections devices now id at b k e view t =
    let parts = and_parts (id == d.id) (within d.from d.to at) (sym e ∙ t) in
    let deep = subst (λ (i : ℕ). IsDeep sections.live (places_of devices) i at) (sym (eqb-true id d.id parts.0)) (k.deep at parts.1) in
    subst (λ (o : Occupied). IsDeep o.sections.live (places_of o.devices) id at) view deep

-- no device is there
pub bare : (live : List Section) (devices : List Window) (id at : ℕ) → IsDeep live (places_of devices) id at → device_at devices at ≡ None
bare live devices id at d =
    subst (λ (k : ℕ). device_at devices k ≡ None) (omega arith) (none_at devices at 5 0 0 d.bare (omega arith))

-- and the words after it are code too
pub ahead : (live : List Section) (devices : List Window) (id at : ℕ) → IsDeep live (places_of devices) id at → IsAhead live devices id at
ahead live devices id at d =
    let ends = d.ends in
    let two : at + 2 ≡ onward at 2 = omega arith in
    let four : at + 4 ≡ onward at 4 = omega arith in
    record {
      second = subst (λ (k : ℕ). IsExtension live devices id k) two
          (record { extended = d.second.extended; bare = none_found devices (at + 2) (none_at devices at 5 2 0 d.bare (omega arith)) });
      third = subst (λ (k : ℕ). IsExtension live devices id k) four
          (record { extended = d.third.extended; bare = none_found devices (at + 4) (none_at devices at 5 4 0 d.bare (omega arith)) });
    }

-- a place that is known to be in the text of the home
pub known_text : (d : Deep) (sections : Sections) (devices : List Window) (now : Occupied) (at : ℕ) (b : Bool)
    → KeepsDeep d sections.live (places_of devices) → b ≡ has_deep_text d at
    → record { devices = devices; sections = sections } ≡ now → b ≡ true → IsReadable now.sections.live (places_of now.devices) at
known_text d sections devices now at b k e view t =
    subst (λ (o : Occupied). IsReadable o.sections.live (places_of o.devices) at) view (k.text at (sym e ∙ t))

-- a place that is known to be data at home
pub known_data : (d : Deep) (sections : Sections) (devices : List Window) (now : Occupied) (id at : ℕ) (b : Bool)
    → KeepsDeep d sections.live (places_of devices) → b ≡ has_deep_data d id at
    → record { devices = devices; sections = sections } ≡ now → b ≡ true → IsDeepData now.sections.live (places_of now.devices) id at
known_data d sections devices now id at b k e view t =
    let parts = and_parts (id == d.id) (within d.data_from d.data_to at) (sym e ∙ t) in
    let owned = subst (λ (i : ℕ). IsDeepData sections.live (places_of devices) i at) (sym (eqb-true id d.id parts.0)) (k.private at parts.1) in
    subst (λ (o : Occupied). IsDeepData o.sections.live (places_of o.devices) id at) view owned

pub bare_data : (live : List Section) (devices : List Window) (id at : ℕ) → IsDeepData live (places_of devices) id at → device_at devices at ≡ None
bare_data live devices id at d =
    subst (λ (k : ℕ). device_at devices k ≡ None) (omega arith) (none_at devices at 1 0 0 d.bare (omega arith))
