-- A worked run of the lighting application, which sx_mean has. Nobody has to believe this file.
use Rattle.std.specs.Prelude.{◌≡◌, ℕ, List, [], ◌∷◌, ◌++◌, length, Some, None}
use Rattle.sx_lang.specs.declared.sides.Side.TheVariants.{From, To}
use Rattle.sx_mean.specs.Worked.{lighting}
use Rattle.spec_honest.specs.Plain.{Sampling, plain_outputs}
use Rattle.spec_honest.specs.Course.{Course, IsHonest, course_start, lines_so_far, played}
use Rattle.sx_trace.specs.declared.items.Item.{Item}
use Rattle.sx_trace.specs.declared.items.Item.TheVariants as item

-- a reading of the light
abbrev pub reads_light : ℕ → List Sampling
reads_light v = record { device = 0; value = v } ∷ []

-- the set-up's items
abbrev pub set_up : List Item
set_up =
    item.Protect 0 (Some 0) ∷ item.Ask 0 0 ∷ item.Packet 0 18 ∷ item.Vouch 0 0 ∷ item.Done 0 1 1
    ∷ item.Packet 1 16 ∷ item.Attested 0 0 ∷ item.Packet 2 38 ∷ item.Open 0 0 From 0
    ∷ item.Done 0 1 0 ∷ item.Protect 0 (Some 1) ∷ item.Ask 1 1 ∷ item.Packet 3 18 ∷ item.Vouch 1 1
    ∷ item.Done 1 1 1 ∷ item.Packet 4 16 ∷ item.Attested 1 0 ∷ item.Packet 5 38
    ∷ item.Packet 6 38 ∷ item.Open 1 0 To 0 ∷ item.Done 1 1 0 ∷ item.Open 1 1 From 0
    ∷ item.Done 1 1 0 ∷ item.Protect 1 (Some 2) ∷ item.Ask 2 2 ∷ item.Packet 7 18 ∷ item.Vouch 2 2
    ∷ item.Done 2 1 1 ∷ item.Packet 8 16 ∷ item.Attested 2 0 ∷ item.Packet 9 38
    ∷ item.Open 2 1 To 0 ∷ item.Done 2 1 0 ∷ []

-- those of a reading of 120
abbrev pub lit : List Item
lit = item.Sense 0 120 ∷ item.Read 0 120 ∷ item.Done 0 1 1 ∷ item.Packet 10 24
    ∷ item.Take 1 0 0 120 ∷ item.Done 1 1 1 ∷ item.Packet 11 24 ∷ item.Take 2 1 0 1
    ∷ item.Out 2 1 ∷ item.Done 2 1 0 ∷ []

-- the course of a reading of 120 is honest, and its items are those of the worked schedule, after
-- its 34 lines; with one delivery it doesn't come to an end
pub record LightingPredicted : Type 0 where
  pub course : Course
  pub honest : IsHonest lighting (reads_light 120) course
  pub many : length set_up ≡ 33
  pub items : course.items ≡ set_up ++ lit
  pub lines : lines_so_far lighting 1 course ≡ 34
  pub outputs : plain_outputs lighting (reads_light 120)
      ≡ Some (record { part = 2; value = 1 } ∷ [])
  pub too_few : played lighting 1 (reads_light 120) (course_start lighting) ≡ None
