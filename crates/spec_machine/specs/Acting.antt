-- All that can happen to a node, in one type.
use Rattle.std.specs.Prelude.{ℕ, List, [], ◌∷◌, Result, ◌<◌}
use Rattle.sx_tag.specs.Mac.{Mac}
use Rattle.spec_machine.specs.declared.kinds.Seen.{Seen}
use Rattle.spec_machine.specs.declared.kinds.Refused.{Refused}
use Rattle.spec_machine.specs.State.{State, reset}
use Rattle.spec_machine.specs.Step.{Shown, step}
use Rattle.spec_machine.specs.Acts.{put, set, take, sense, irq}

-- all that can happen to a node
pub data Act : Type 0 where
  Step : Act
  Restart : Act
  Put : ℕ → List ℕ → Act
  Set : ℕ → ℕ → Act
  Take : ℕ → ℕ → Act
  Sense : ℕ → ℕ → Act
  Interrupt : ℕ → Act

-- what an act shows
pub data Sight : Type 0 where
  Stepped : Seen → Sight
  Restarted : Sight
  Answered : Result (Unit {0}) Refused → Sight
  Took : Result (List ℕ) Refused → Sight
  Interrupted : Result Seen Refused → Sight

-- the same state, with what is shown in another form
abbrev pub shown_as : {T : Type 0} → (T → Sight) → Shown T → Shown Sight
shown_as view x = record { state = x.state; shown = view x.shown }

-- the state after an act, and what the act shows
abbrev pub acted : Mac → Act → State → Shown Sight
acted mac Step a = shown_as Stepped (step mac a)
acted mac Restart a = record { state = reset a; shown = Restarted }
acted mac (Put at bytes) a = shown_as Answered (put a at bytes)
acted mac (Set r v) a = shown_as Answered (set a r v)
acted mac (Take at n) a = shown_as Took (take a at n)
acted mac (Sense device v) a = shown_as Answered (sense a device v)
acted mac (Interrupt line) a = shown_as Interrupted (irq a line)

-- what a list of acts shows, and leaves
abbrev pub acted_all : Mac → List Act → State → Shown (List Sight)
acted_all mac [] a = record { state = a; shown = [] }
acted_all mac (act ∷ acts) a =
    let x = acted mac act a in
    let y = acted_all mac acts x.state in
    record { state = y.state; shown = x.shown ∷ y.shown }

-- an act is in form: a register is set to a word, and a device to a value that a sensor can give
abbrev pub ActInForm : Act → Type 0
ActInForm Step = Unit {0}
ActInForm Restart = Unit {0}
ActInForm (Put at bytes) = Unit {0}
ActInForm (Set r v) = v < 65536
ActInForm (Take at n) = Unit {0}
ActInForm (Sense device v) = v < 32768
ActInForm (Interrupt line) = Unit {0}

-- each act is in form
abbrev pub ActsInForm : List Act → Type 0
ActsInForm [] = Unit {0}
ActsInForm (act ∷ acts) = ActInForm act × ActsInForm acts
