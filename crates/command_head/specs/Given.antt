-- Which lines a part of a command was given, and that memory ran out in it. Nobody has to believe
-- this file.
use Rattle.std.specs.Prelude.{ℕ, ◌≡◌, ◌⊎◌, Bool, List, [], ◌++◌}
use Rattle.sx_io.specs.Streams.{SourceAt}
use Rattle.sx_io.specs.Reading.{Answer, Limit}
use Rattle.sx_io.specs.Next.{Ahead}
use Rattle.command_promise.specs.Reads.{anything}
use Rattle.command_promise.specs.Got.{Got}
use Rattle.command_promise.specs.Head.{Head, head}
use Rattle.command_head.specs.Wanting.{FoundNoEnd, LastMay}

-- Whatever was given before, these lines were given since. The next line's limit was the first of
-- these two, and is the second.
abbrev pub GivenSince : Limit → Limit → Bool → SourceAt → SourceAt → Ahead → Ahead → List Answer
    → Type 0
GivenSince before behind tells s1 s2 old new lines =
    (limit : Limit) (s0 : SourceAt) (f : List Answer → Head) (due : Head)
    → Got tells limit before s0 s1 old head f due anything
    → (owed : Head)
    × Got tells limit behind s0 s2 new head (λ more. f (lines ++ more)) owed anything

-- and no end of the input after them
abbrev pub EndsNowhere : Limit → Bool → SourceAt → SourceAt → Ahead → Type 0
EndsNowhere before tells s1 s2 old =
    (limit : Limit) (s0 : SourceAt) (f : List Answer → Head) (due : Head)
    → Got tells limit before s0 s1 old head f due anything → FoundNoEnd tells s0 s2

-- the last of these lines was given last, and may want memory
abbrev pub WantsLast : Limit → (List Answer → List ℕ → Type 0) → Bool → SourceAt → SourceAt → Ahead
    → List Answer → Type 0
WantsLast before May tells s1 s2 old lines = LastMay May lines × EndsNowhere before tells s1 s2 old

-- none was given, or the last may want memory
abbrev pub RanOutSince : Limit → Limit → (List Answer → List ℕ → Type 0) → Bool → SourceAt
    → SourceAt → Ahead → Ahead → Type 0
RanOutSince before behind May tells s1 s2 old new = (lines : List Answer)
    × GivenSince before behind tells s1 s2 old new lines
    × ((lines ≡ []) ⊎ WantsLast before May tells s1 s2 old lines)
