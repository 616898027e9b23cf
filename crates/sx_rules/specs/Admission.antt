-- When a section is admitted, and what a table holds afterwards.
--     refusal      the first refusal of a new section, in the order of the table (own profile)
--     admitted, removed      the table after a section was admitted, and after one was removed
use Rattle.std.specs.Prelude.{ℕ, ◌+◌, ◌%◌, ◌==◌, nat_lt, nat_le, Bool, ◌&&◌, ◌||◌, not}
use Rattle.std.specs.Prelude.{if◌then◌else◌, List, [], ◌∷◌, ◌++◌, length, Option, Some, None}
use Rattle.std.specs.List.{list_all}
use Rattle.sx_rules.specs.declared.section.Layout.{Layout}
use Rattle.sx_rules.specs.declared.section.Section.{Section}
use Rattle.sx_rules.specs.declared.admission.Refusal.{Refusal}
use Rattle.sx_rules.specs.declared.admission.Refusal.TheVariants.{Bounds, Overlap, Device, Full}
use Rattle.sx_rules.specs.declared.admission.Refusal.TheVariants.{Ids}
use Rattle.sx_rules.specs.Access.{Sections}

-- two ranges, from the first number up to but not the second, don't meet
abbrev pub apart : ℕ → ℕ → ℕ → ℕ → Bool
apart from to start end = nat_le to start || nat_le end from

-- an even number
abbrev pub is_even : ℕ → Bool
is_even n = (n % 2) == 0

-- each bound is even, and each end is above its start
abbrev pub good_bounds : Layout → Bool
good_bounds l =
    nat_lt l.pub_from l.pub_to && (nat_lt l.priv_from l.priv_to
    && (is_even l.pub_from && (is_even l.pub_to && (is_even l.priv_from && is_even l.priv_to))))

-- the public and the private part don't meet
abbrev pub parts_apart : Layout → Bool
parts_apart l = apart l.pub_from l.pub_to l.priv_from l.priv_to

-- neither part meets a part of the section
abbrev pub clear_of : Layout → Section → Bool
clear_of l s =
    apart l.pub_from l.pub_to s.layout.pub_from s.layout.pub_to
    && (apart l.pub_from l.pub_to s.layout.priv_from s.layout.priv_to
    && (apart l.priv_from l.priv_to s.layout.pub_from s.layout.pub_to
    && apart l.priv_from l.priv_to s.layout.priv_from s.layout.priv_to))

-- the two parts meet neither each other nor a live section
abbrev pub no_overlap : List Section → Layout → Bool
no_overlap live l = parts_apart l && list_all (clear_of l) live

-- no device's word, which is the word at its place, meets the public part
abbrev pub no_device : List ℕ → Layout → Bool
no_device places l = list_all (λ place. apart l.pub_from l.pub_to place (place + 2)) places

-- 8 sections are live
abbrev pub is_full : Sections → Bool
is_full t = nat_le 8 (length t.live)

-- the ids 1 to 65535 of this boot are used
abbrev pub ids_used : Sections → Bool
ids_used t = nat_lt 65535 t.next

-- the first refusal of a new section, beside devices at these places
unfoldable pub refusal : Sections → Layout → List ℕ → Option Refusal
refusal t l places =
    if not (good_bounds l) then Some Bounds
    else if not (no_overlap t.live l) then Some Overlap
    else if not (no_device places l) then Some Device
    else if is_full t then Some Full
    else if ids_used t then Some Ids
    else None

-- the table after the section was admitted under the next id
abbrev pub admitted : Sections → Layout → ℕ → List ℕ → Sections
admitted t layout provider key = record {
  live = t.live ++ record { layout = layout; provider = provider; id = t.next; key = key } ∷ [];
  next = t.next + 1;
}

-- the live sections but the one with the id
abbrev pub without : List Section → ℕ → List Section
without [] id = []
without (s ∷ rest) id = if s.id == id then rest else s ∷ without rest id

-- the table after the section with the id was removed
abbrev pub removed : Sections → ℕ → Sections
removed t id = record { live = without t.live id; next = t.next }
