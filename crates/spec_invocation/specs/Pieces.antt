-- How many bytes the pieces of a module take.
use Rattle.std.specs.Prelude.{ℕ, ◌+◌, true, false, List, [], ◌∷◌}
use Rattle.spec_invocation.specs.Protocol.{event_size}
use Rattle.spec_invocation.specs.Marks.{Mark, Wrapped, Unwrapped, Sampled, Actuated}

-- a tag, which is the answer to an ask
abbrev pub tag_size : ℕ
tag_size = 16

-- the bytes of the piece that a mark makes: an answer's tag under the module's own key, or an
-- event's packet
abbrev pub piece_size : Mark → ℕ
piece_size (Wrapped header body true) = tag_size
piece_size (Wrapped header body false) = event_size
piece_size (Unwrapped header body own) = 0
piece_size (Sampled device v) = 0
piece_size (Actuated device v) = 0

-- the bytes of all pieces that were made
abbrev pub made_bytes : List Mark → ℕ
made_bytes [] = 0
made_bytes (m ∷ ms) = piece_size m + made_bytes ms
