-- At which line after the head of its input a command may run out of memory.
use Rattle.std.specs.Prelude.{ℕ, ◌<◌, ◌≡◌, ◌⊎◌, Bool, List, [], ◌∷◌, ◌++◌, IsTrue, length, Ok}
use Rattle.sx_io.specs.Reading.{Answer, IsPlain, Limit, Line}
use Rattle.sx_io.specs.Next.{Ahead}
use Rattle.sx_io.specs.Streams.{SourceAt, NoEnd}
use Rattle.command_promise.specs.Reads.{anything}
use Rattle.command_promise.specs.Got.{Got}
use Rattle.command_promise.specs.Told.{CommandAt}
use Rattle.command_promise.specs.Head.{Head, Found, head}
use Rattle.sx_deploy.specs.Deployment.{Deployed, IsRead}

-- the last of these lines may want memory, after those before it
abbrev pub LastMay : (List Answer → List ℕ → Type 0) → List Answer → Type 0
LastMay May lines = (earlier : List Answer) × (text : List ℕ)
    × (lines ≡ earlier ++ Line text ∷ []) × May earlier text

-- no newline ends the last line of these bytes
abbrev pub IsOpenEnded : List ℕ → Type 0
IsOpenEnded bytes =
    (before line : List ℕ) × (bytes ≡ before ++ line) × IsPlain line × (0 < length line)

-- the end of the input wasn't found, unless it ended a line
abbrev pub FoundNoEnd : Bool → SourceAt → SourceAt → Type 0
FoundNoEnd tells s0 s1 = IsTrue tells → NoEnd s0 s1 ⊎ IsOpenEnded s0.rest

-- Memory ran out after the head of this text, and these are the lines after it that were given:
-- none, or the text is a deployment, and the last line may want memory; nothing came after it, not
-- even the end of the input.
pub record RanOutAt (limit : Limit) (May : Deployed → List Answer → List ℕ → Type 0) (tells : Bool)
    (m0 m1 : CommandAt) : Type 0 where
  pub text : List ℕ
  pub lines : List Answer
  pub last : (lines ≡ []) ⊎ ((d : Deployed) × IsRead text (Ok d) × LastMay (May d) lines
      × FoundNoEnd tells m0.source m1.source)
  pub now : Ahead
  pub left : Limit
  pub due : Head
  pub got : Got tells limit left m0.source m1.source now head
      (λ more. Found text (lines ++ more)) due anything
