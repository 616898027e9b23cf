-- What holds of every invocation. Each law is as the contract of a function in src/laws.rt.
use Rattle.std.specs.Prelude.{◌≡◌, Bool, true, false, List, [], ◌∷◌}
use Rattle.sx_tag.specs.Mac.{IsTag}
use Rattle.spec_invocation.specs.Setup.{Setup, Call}
use Rattle.spec_invocation.specs.Marks.{Mark, Wrapped, Unwrapped, Sampled, Actuated}
use Rattle.spec_invocation.specs.Pieces.{made_bytes}
use Rattle.spec_invocation.specs.Progress.{Progress, marks_in, pieces_in, bytes_in}
use Rattle.spec_invocation.specs.Invocation.{invoke}

-- the mark is an unwrap
abbrev pub is_unwrap : Mark → Bool
is_unwrap (Wrapped header body own) = false
is_unwrap (Unwrapped header body own) = true
is_unwrap (Sampled device v) = false
is_unwrap (Actuated device v) = false

-- none of the marks is an unwrap
abbrev pub NoUnwrap : List Mark → Type 0
NoUnwrap [] = Unit {0}
NoUnwrap (m ∷ ms) = (is_unwrap m ≡ false) × NoUnwrap ms

-- no mark after the first is an unwrap
abbrev pub FirstAlone : List Mark → Type 0
FirstAlone [] = Unit {0}
FirstAlone (m ∷ ms) = NoUnwrap ms

-- an invocation unwraps at most once, before it makes any other mark
abbrev pub UnwrapsOnce : Type 0
UnwrapsOnce = (s : Setup) (call : Call) (p : Progress) → p.marks ≡ []
    → FirstAlone (marks_in (invoke s call p))

-- the pieces of an invocation, of one that a violation ends too, have the bytes that its marks make
abbrev pub PiecesMarked : Type 0
PiecesMarked =
    (s : Setup) (call : Call) (p : Progress) → IsTag s.mac → p.pieces ≡ [] → p.marks ≡ []
    → let result = invoke s call p in
    bytes_in (pieces_in result) ≡ made_bytes (marks_in result)
