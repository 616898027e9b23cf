-- Where the source model is as an honest run's course says. This is what each reading and each delivery keeps.
use Rattle.std.proofs.Common.{◌≡◌, ℕ, ◌<◌, false, List, [], ◌++◌, length, map, Some, None, slice_get}
use Rattle.std.specs.Prelude.{slice_index_or}
use Rattle.sx_lang.specs.declared.sides.Side.{Side}
use Rattle.sx_lang.specs.declared.sides.Side.TheVariants.{From, To}
use Rattle.sx_mean.specs.declared.events.End.{End}
use Rattle.sx_mean.specs.Application.{AppTree}
use Rattle.sx_mean.specs.Ends.{ends_of}
use Rattle.sx_model.specs.State.{EndView, FIELDS, Model, Present, Reading, Standing}
use Rattle.spec_honest.specs.Plain.{Plain, Waiting}
use Rattle.spec_honest.specs.Course.{count_over, words_over}

-- the number that an end takes next: how many were taken, where it receives
abbrev pub next_of : Side → ℕ → List Waiting → ℕ
next_of From c past = 0
next_of To c past = count_over c past

-- an end is open in epoch 0
abbrev pub view_of : List Waiting → End → EndView
view_of past e = record { epoch = Some 0; next = next_of e.side e.link past }

-- a module with all of its ends open and nothing pending
abbrev pub present_as : AppTree → ℕ → List Waiting → List ℕ → Present
present_as app p past cells = record { cells = cells; ends = map (view_of past) (ends_of app p); pending = None }

-- a module of the list is present so
pub record IsPresent (xs : List Standing) (p : ℕ) (present : Present) : Type 0 where
  pub standing : Standing
  pub there : slice_get xs p ≡ Some standing
  pub is : standing.present ≡ Some present

-- Each module is present with the cells that the plain fold says, all of its ends open in epoch 0,
-- each receiving end at the number of words that were taken, and nothing pending; over each
-- connection in epoch 0 those words were sent that the plain fold put on their way; and no
-- device's reading is fresh.
pub record Agrees (app : AppTree) (plain : Plain) (past : List Waiting) (s : Model) : Type 0 where
  pub modules : (p : ℕ) → p < length app.parts → IsPresent s.modules p (present_as app p past (slice_index_or plain.cells p []))
  pub sent : (k : ℕ) → k < FIELDS → slice_get s.sent k ≡ Some (words_over k (past ++ plain.waiting))
  pub readings : length s.devices ≡ length app.devices
  pub stale : (d : ℕ) (r : Reading) → slice_get s.devices d ≡ Some r → r.fresh ≡ false
