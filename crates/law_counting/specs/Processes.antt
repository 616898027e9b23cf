-- Whoever asks for entries of a table, and tries others, one after the other, hits few tables.
use Rattle.std.specs.Prelude.{ℕ, zero, suc, ◌-◌, ◌*◌, ◌^◌, ◌<◌, ◌≤◌, ◌==◌, ◌||◌}
use Rattle.std.specs.Prelude.{Bool, true, false, List, [], ◌∷◌, Option, Some, None}
use Rattle.law_counting.specs.Counting.{at, count}
use Rattle.law_counting.specs.Guesses.{Attempt, Play, all_miss}

-- what is done next: nothing; an entry is asked for; or it is tried with a value, and the answer is
-- whether it has this value
pub data Move (S : Type 0) : Type 0 where
  Stop : Move S
  Ask : (entry : ℕ) → (ℕ → S) → Move S
  Try : (entry value : ℕ) → (Bool → S) → Move S

-- what a table sees of it
pub data Event : Type 0 where
  Given : (entry : ℕ) → Event
  Tried : Attempt → Event

-- the number is among these
abbrev pub is_in : ℕ → List ℕ → Bool
is_in e [] = false
is_in e (d ∷ ds) = (d == e) || is_in e ds

-- an attempt at an entry that was asked for before is none
abbrev pub noted : Bool → Attempt → List Event → List Event
noted true x more = more
noted false x more = Tried x ∷ more

-- what happens in so many moves, of which this is the first, where these entries were asked for
abbrev pub events : {S : Type 0} → (S → Move S) → ℕ → Move S → List ℕ → List ℕ → List Event
events next zero move asked t = []
events next (suc m) Stop asked t = []
events next (suc m) (Ask e f) asked t =
    Given e ∷ events next m (next (f (at t e))) (e ∷ asked) t
events next (suc m) (Try e v f) asked t =
    noted (is_in e asked) (record { entry = e; value = v })
    (events next m (next (f (at t e == v))) asked t)

-- the j-th attempt
abbrev pub nth_try : List Event → ℕ → Option Attempt
nth_try [] j = None
nth_try (Given e ∷ more) j = nth_try more j
nth_try (Tried x ∷ more) zero = Some x
nth_try (Tried x ∷ more) (suc j) = nth_try more j

-- the entry was asked for before the j-th attempt
abbrev pub given_before : List Event → ℕ → ℕ → Bool
given_before [] j e = false
given_before (Given d ∷ more) j e = (d == e) || given_before more j e
given_before (Tried x ∷ more) zero e = false
given_before (Tried x ∷ more) (suc j) e = given_before more j e

-- a process as a play
abbrev pub play_of : {S : Type 0} → (S → Move S) → ℕ → S → Play
play_of next m s = record {
  tries = λ t j. nth_try (events next m (next s) [] t) j;
  given = λ t j e. given_before (events next m (next s) [] t) j e;
}

-- it tries entries of the table alone
abbrev pub IsInside : {S : Type 0} → ℕ → Move S → Type 0
IsInside n Stop = Unit {0}
IsInside n (Ask e f) = Unit {0}
IsInside n (Try e v f) = e < n

-- Of all tables the part is at most q / width that q attempts hit of a process, whatever it asks
-- for in between, and however it chooses.
abbrev pub ProcessesSeldomHit : Type 1
ProcessesSeldomHit = (S : Type 0) (next : S → Move S) (s : S) (m n width q : ℕ)
    → ((r : S) → IsInside n (next r)) → q ≤ width
    → (width - q) * width ^ n ≤ count n width (λ t. all_miss (play_of next m s) t q) * width
