-- A node that is watched step by step: the marks that its steps show.
use Rattle.std.specs.Prelude.{List, [], ◌∷◌, ◌++◌, take, Option, Some, None}
use Rattle.sx_rules.specs.declared.access.Violation.{Violation}
use Rattle.sx_tag.specs.Mac.{Mac}
use Rattle.spec_machine.specs.declared.kinds.Touch.{Touch}
use Rattle.spec_machine.specs.declared.kinds.Touch.TheVariants as touch
use Rattle.spec_machine.specs.declared.kinds.Event.{Event}
use Rattle.spec_machine.specs.declared.kinds.Event.TheVariants as event
use Rattle.spec_machine.specs.declared.kinds.Exchange.{Exchange}
use Rattle.spec_machine.specs.declared.kinds.Seen.{Seen}
use Rattle.spec_machine.specs.State.{State}
use Rattle.spec_machine.specs.Step.{Shown, step}
use Rattle.sx_image.specs.Reach.{Stepped, Goes, Stops}
use Rattle.spec_invocation.specs.Marks.{Mark, Wrapped, Unwrapped, Sampled, Actuated}

-- the mark of a touch: a load of a fresh sensor's word, or a store to an actuator's
abbrev pub marks_of_touch : Touch → List Mark
marks_of_touch touch.Quiet = []
marks_of_touch (touch.DeviceRead device v) = Sampled device v ∷ []
marks_of_touch (touch.DeviceWrite device v) = Actuated device v ∷ []

-- the marks of touches, in order
abbrev pub marks_of_touches : List Touch → List Mark
marks_of_touches [] = []
marks_of_touches (t ∷ ts) = marks_of_touch t ++ marks_of_touches ts

-- the mark of an event: a wrap or an unwrap, with the exchange after it
abbrev pub marks_of_event : Event → Exchange → List Mark
marks_of_event (event.Wrapped id) x =
    Wrapped (take x.ad_len x.ad) (take x.body_len x.body) x.own_key ∷ []
marks_of_event (event.Unwrapped id) x =
    Unwrapped (take x.ad_len x.ad) (take x.body_len x.body) x.own_key ∷ []
marks_of_event _ x = []

-- the marks of a step, from what it shows and the exchange after it: the touches first, in order
abbrev pub marks_of : Seen → Exchange → List Mark
marks_of seen x = marks_of_touches seen.touch ++ marks_of_event seen.event x

-- a node that is watched: the node, the marks so far, and the event of its last step
pub record Watched : Type 0 where
  pub node : State
  pub marks : List Mark
  pub event : Event

-- the violation of an event
abbrev pub violation_of : Event → Option Violation
violation_of (event.Reset v) = Some v
violation_of _ = None

-- what the step shows is added, or its violation ends the run
abbrev pub watched_on : Watched → Shown Seen → Option Violation → Stepped Watched Violation
watched_on c x None = Goes (record {
  node = x.state;
  marks =
      c.marks ++ marks_of x.shown x.state.exchange;
  event = x.shown.event;
})
watched_on c x (Some v) = Stops v

-- one step of a watched node, which a violation ends
unfoldable pub watch : Mac → Watched → Stepped Watched Violation
watch mac c = let x = step mac c.node in watched_on c x (violation_of x.shown.event)
