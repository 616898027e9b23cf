-- What a call took of its input where another goes on with what is to come.
use Rattle.std.specs.Prelude.{ℕ, ◌+◌, ◌≡◌, ◌≤◌, Bool, List, [], ◌∷◌, ◌++◌, IsTrue, length}
use Rattle.sx_io.specs.Streams.{SourceAt, NoReadFault, NoEnd, OneEnd}
use Rattle.sx_io.specs.Reading.{Ending, Ended, Broken, Answer, End, Limit, scan, longest}
use Rattle.sx_io.specs.Next.{Ahead}
use Rattle.sx_io.specs.declared.lines.ReaderState.{ReaderState}
use Rattle.sx_io.specs.declared.lines.ReaderState.TheVariants as reader
use Rattle.command_promise.specs.Reads.{IsOneLine, IsBound, Asked}

-- what F is of these lines and whatever is after them, f is of what is after them
abbrev pub Follows : {A : Type 0} → ReaderState → Limit → Limit → List ℕ → (List Answer → A)
    → (List Answer → A) → Type 0
Follows reader.Open limit limit' lines F f =
    (e : Ending) (more : List ℕ) → F (scan limit e [] (lines ++ more)) ≡ f (scan limit' e [] more)
Follows reader.AtEnd limit limit' lines F f = F (scan limit Ended [] lines) ≡ f (End ∷ [])
Follows reader.TooLong limit limit' lines F f = ⊥
Follows reader.Failed limit limit' lines F f = ⊥

-- this holds of the answers, whatever is after these lines
abbrev pub HoldsBehind : ReaderState → Limit → List ℕ → (List Answer → Type 0) → Type 0
HoldsBehind reader.Open limit lines also =
    (e : Ending) (more : List ℕ) → also (scan limit e [] (lines ++ more))
HoldsBehind reader.AtEnd limit lines also = also (scan limit Ended [] lines)
HoldsBehind reader.TooLong limit lines also = Unit {0}
HoldsBehind reader.Failed limit lines also = Unit {0}

-- A call has come so far: these lines were given, the last of them one line at the most, and what F
-- is of all, f is of what is to come.
pub record Got {A : Type 0} (tells : Bool) (limit limit' : Limit) (s0 s1 : SourceAt) (now : Ahead)
    (F f : List Answer → A) (owed : A) (also : List Answer → Type 0) : Type 0 where
  pub before : List ℕ
  pub line : List ℕ
  pub from_source : IsTrue tells → s0.rest ≡ (before ++ line) ++ (now.held ++ s1.rest)
  pub follows : Follows now.state limit limit' (before ++ line) F f
  pub holds : HoldsBehind now.state limit (before ++ line) also
  pub one : IsOneLine line
  pub few : length now.held ≤ longest
  pub bound : (most : ℕ) → IsBound limit most → IsBound limit' most
  pub short : (most : ℕ) → IsBound limit most → length line ≤ most + 1
  pub due : F (scan limit Broken [] before) ≡ owed
  pub no_fault : NoReadFault s0 s1
  pub at_end : now.state ≡ reader.AtEnd → (now.held ≡ []) × (IsTrue tells → OneEnd s0 s1)
  pub no_end : (now.state ≡ reader.AtEnd → ⊥) → IsTrue tells → NoEnd s0 s1
  pub asked : IsTrue tells → Asked s0 s1 before
