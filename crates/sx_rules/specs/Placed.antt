-- What holds of the sections of a table after any admissions and removals: they have sound bounds,
-- don't meet, and have ids of their own.
use Rattle.std.specs.Prelude.{◌≡◌, ◌≢◌, ℕ, ◌<◌, ◌≤◌, true, [], ◌∷◌, length, List}
use Rattle.sx_rules.specs.declared.section.Section.{Section}
use Rattle.sx_rules.specs.Access.{Sections}
use Rattle.sx_rules.specs.Admission.{good_bounds, parts_apart, clear_of}

-- a section alone: even bounds with each end above its start, parts that don't meet, and an id that
-- was given
pub record Sound (next : ℕ) (s : Section) : Type 0 where
  pub bounds : good_bounds s.layout ≡ true
  pub parts : parts_apart s.layout ≡ true
  pub given : 0 < s.id
  pub below : s.id < next

-- two sections: no part of one meets a part of the other, and their ids differ
pub record Beside (s u : Section) : Type 0 where
  pub parts : clear_of s.layout u ≡ true
  pub ids : s.id ≢ u.id

-- each section is sound
abbrev pub AllSound : ℕ → List Section → Type 0
AllSound next [] = Unit {0}
AllSound next (s ∷ rest) = Sound next s × AllSound next rest

-- a section is beside each of these
abbrev pub BesideAll : Section → List Section → Type 0
BesideAll s [] = Unit {0}
BesideAll s (u ∷ rest) = Beside s u × BesideAll s rest

-- each section is beside each later one
abbrev pub AllBeside : List Section → Type 0
AllBeside [] = Unit {0}
AllBeside (s ∷ rest) = BesideAll s rest × AllBeside rest

-- the live sections are sound and are beside one another, at most 8, and the next id is one to be
-- given or the first beyond
pub record Placed (t : Sections) : Type 0 where
  pub each : AllSound t.next t.live
  pub pairs : AllBeside t.live
  pub first : 0 < t.next
  pub last : t.next ≤ 65536
  pub room : length t.live ≤ 8
