-- The state of a command between two lines.
use Rattle.std.proofs.Common.{ℕ, Bool, List}
use Rattle.sx_io.specs.Reading.{Answer, Limit}
use Rattle.sx_io.specs.Next.{Ahead}
use Rattle.command_promise.specs.Told.{CommandAt, Output}
use Rattle.command_promise.specs.Parts.{Begun, Notes}
use Rattle.command_promise.specs.Head.{head_lines}

-- whatever came before, of what was left at first this is left now
abbrev pub GoesOn : Bool → Bool → CommandAt → CommandAt → Ahead → Ahead → (List Answer → Output) → (List Answer → Output) → Type 0
GoesOn tells to_tell m1 m2 old new first now =
    (limit : Limit) (m0 : CommandAt) (defined : List Answer → Output) (aside : List Answer → List ℕ) (noted : List ℕ)
    → Begun tells to_tell limit head_lines m0 m1 old defined first (Notes aside noted)
    → Begun tells to_tell limit head_lines m0 m2 new defined now (Notes aside noted)
