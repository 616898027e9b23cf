-- What nothing keeps code from: the words on a vacant page, and those deep in a gap.
use Rattle.std.proofs.Common.{◌≡◌, ◌⊎◌, ℕ, ◌+◌, ◌/◌, ◌<◌, Bool, true, false, ◌&&◌, not, nat_lt, List, None, slice_index_or}
use Rattle.std.proofs.Common.{ap, sym, subst, ◌∙◌, inl, inr, arith}
use Rattle.std.proofs.lemmas.Bool.{and_parts, cases_eq, ltb-true, not-true}
use Rattle.sx_rules.specs.declared.section.Section.{Section}
use Rattle.sx_rules.specs.Access.{Sections}
use Rattle.sx_rules.specs.Pages.{is_open}
use Rattle.sx_rules.proofs.Away.{open_holder}
use Rattle.sx_bus.specs.declared.devices.Window.{Window}
use Rattle.sx_bus.specs.Devices.{ArePlaces, places_of, device_at}
use Rattle.sx_bus.specs.Windows.{has_place}
use Rattle.sx_bus.proofs.Elsewhere.{none_elsewhere}
use Rattle.spec_machine.specs.Registers.{onward}
use Rattle.sx_executor.specs.Gaps.{IsApart}
use Rattle.sx_executor.specs.Occupancy.{Occupied, IsExtension, IsVacant, is_bare, is_vacant, IsVacantIndex}
use Rattle.sx_executor.proofs.Clear.{none_found}
use Rattle.sx_executor.proofs.Open.{open_any, open_extends, open_outside, open_ordered}

-- a word on a page that no section meets
open_apart : (live : List Section) (at : ℕ) → is_open live (at / 256) ≡ true → IsApart live at
open_apart live at h = record {
  reached = λ own wide access. open_any live own at h wide access;
  outside = open_outside live at h;
  ordered = λ cur. open_ordered live cur at h;
  extended = λ own. open_extends live own at h;
  of_none = open_holder live at h;
}

-- what a bare page is
bare_parts : (live : List Section) (places : List ℕ) (page : ℕ) → is_bare live places page ≡ true
    → (page < 256) × (is_open live page ≡ true) × (has_place page places ≡ false)
bare_parts live places page h =
    let parts = and_parts (nat_lt page 256) (is_open live page && not (has_place page places)) h in
    let both = and_parts (is_open live page) (not (has_place page places)) parts.1 in
    (ltb-true page 256 parts.0, both.0, not-true (has_place page places) both.1)

-- a word on a page that is bare
bare_device : (live : List Section) (devices : List Window) (at : ℕ) → ArePlaces (places_of devices) → is_bare live (places_of devices) (at / 256) ≡ true
    → device_at devices at ≡ None
bare_device live devices at p h =
    none_elsewhere devices at 0 p.even (bare_parts live (places_of devices) (at / 256) h).2

bare_apart : (live : List Section) (places : List ℕ) (at : ℕ) → is_bare live places (at / 256) ≡ true → IsApart live at
bare_apart live places at h =
    open_apart live at (bare_parts live places (at / 256) h).1

-- what follows a word closely lies on its page or on the next one
near : (at k : ℕ) → k < 6 → ((at + k) / 256 ≡ at / 256) ⊎ ((at + k) / 256 ≡ at / 256 + 1)
near at k h = elim (cases_eq ((at + k) / 256) (at / 256)) [
  | inl same ↦ inl same
  | inr other ↦ inr (first_of (omega (arith, other), grind (arith, other)))
]

near_bare : (live : List Section) (places : List ℕ) (at k : ℕ) → is_vacant live places (at / 256) ≡ true → k < 6 → is_bare live places ((at + k) / 256) ≡ true
unfolding is_vacant
near_bare live places at k v h =
    let page = at / 256 in
    let both = and_parts (is_bare live places page) (is_bare live places (page + 1)) v in
    elim (near at k h) [
      | inl e ↦ subst (λ (p : ℕ). is_bare live places p ≡ true) (sym e) both.0
      | inr e ↦ subst (λ (p : ℕ). is_bare live places p ≡ true) (sym e) both.1
    ]

-- a word that no section has a byte of, and that is no device's, with the two after it
pub from_apart : (live : List Section) (devices : List Window) (at : ℕ) → at + 5 < 65536 → IsApart live at → IsApart live (at + 2) → IsApart live (at + 4)
    → device_at devices at ≡ None → device_at devices (at + 2) ≡ None → device_at devices (at + 4) ≡ None → IsVacant live devices at
from_apart live devices at ends first second third bare bare_second bare_third =
    let two : at + 2 ≡ onward at 2 = omega arith in
    let four : at + 4 ≡ onward at 4 = omega arith in
    record {
      apart = first;
      bare = bare;
      ahead = λ own. record {
        second = subst (λ (k : ℕ). IsExtension live devices own k) two
            (record { extended = second.extended own; bare = none_found devices (at + 2) bare_second });
        third = subst (λ (k : ℕ). IsExtension live devices own k) four
            (record { extended = third.extended own; bare = none_found devices (at + 4) bare_third });
      };
    }

-- a page is vacant if it is bare and the next one is
pub from_bare : (live : List Section) (places : List ℕ) (page : ℕ) (bare next : Bool) → bare ≡ is_bare live places page
    → next ≡ is_bare live places (page + 1) → (bare && next) ≡ is_vacant live places page
unfolding is_vacant
from_bare live places page bare next b n = ap (λ (x : Bool). x && next) b ∙ ap (λ (x : Bool). is_bare live places page && x) n

on_page : (live : List Section) (devices : List Window) (at : ℕ) → ArePlaces (places_of devices) → is_vacant live (places_of devices) (at / 256) ≡ true
    → IsVacant live devices at
unfolding is_vacant
on_page live devices at p v =
    let places = places_of devices in
    let page = at / 256 in
    let both = and_parts (is_bare live places page) (is_bare live places (page + 1)) v in
    let room = (bare_parts live places (page + 1) both.1).0 in
    let first = both.0 in
    let second = near_bare live places at 2 v (omega arith) in
    let third = near_bare live places at 4 v (omega arith) in
    from_apart live devices at (omega arith)
    (bare_apart live places at first) (bare_apart live places (at + 2) second) (bare_apart live places (at + 4) third)
    (bare_device live devices at p first) (bare_device live devices (at + 2) p second) (bare_device live devices (at + 4) p third)

-- a word whose page is marked
pub marked : (pages : List Bool) (sections : Sections) (devices : List Window) (now : Occupied) (at : ℕ) (b : Bool) → at < 65536
    → ArePlaces (places_of devices) → IsVacantIndex pages sections.live (places_of devices) → b ≡ slice_index_or pages (at / 256) false
    → record { devices = devices; sections = sections } ≡ now → b ≡ true → IsVacant now.sections.live now.devices at
marked pages sections devices now at b small p index e view t =
    let vacant : is_vacant sections.live (places_of devices) (at / 256) ≡ true = sym (index (at / 256) (omega arith)) ∙ (sym e ∙ t) in
    subst (λ (o : Occupied). IsVacant o.sections.live o.devices at) view (on_page sections.live devices at p vacant)

-- a word that is known to be deep in a gap
pub in_gap : (sections : Sections) (devices : List Window) (now : Occupied) (at : ℕ) → record { devices = devices; sections = sections } ≡ now
    → at + 5 < 65536 → IsApart sections.live at → IsApart sections.live (at + 2) → IsApart sections.live (at + 4)
    → device_at devices at ≡ None → device_at devices (at + 2) ≡ None → device_at devices (at + 4) ≡ None → IsVacant now.sections.live now.devices at
in_gap sections devices now at view ends first second third bare bare_second bare_third =
    subst (λ (o : Occupied). IsVacant o.sections.live o.devices at) view
    (from_apart sections.live devices at ends first second third bare bare_second bare_third)
