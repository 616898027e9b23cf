-- Who tries entries of a table that weren't given to him hits few tables.
use Rattle.std.specs.Prelude.{◌≡◌, ℕ, zero, suc, ◌-◌, ◌*◌, ◌^◌, ◌<◌, ◌≤◌, ◌==◌, ◌&&◌, not}
use Rattle.std.specs.Prelude.{Bool, true, false, List, Option, Some, None}
use Rattle.law_counting.specs.Counting.{IsTable, at, put, count}

-- a value that an entry is tried with
pub record Attempt : Type 0 where
  pub entry : ℕ
  pub value : ℕ

-- What a table leads to: the j-th attempt, if there is one, and whether an entry was given before
-- it.
pub record Play : Type 0 where
  pub tries : List ℕ → ℕ → Option Attempt
  pub given : List ℕ → ℕ → ℕ → Bool

-- the attempt, if there is one, isn't the entry's value
abbrev pub misses : Option Attempt → List ℕ → Bool
misses None t = true
misses (Some x) t = not (at t x.entry == x.value)

-- each of the first j attempts misses
abbrev pub all_miss : Play → List ℕ → ℕ → Bool
all_miss play t zero = true
all_miss play t (suc j) = all_miss play t j && misses (play.tries t j) t

-- Attempts are at entries that weren't given before; and as long as all attempts miss, the next one
-- doesn't depend on an entry that wasn't given.
pub record IsBlind (n width : ℕ) (play : Play) : Type 0 where
  pub inside : (t : List ℕ) (j : ℕ) (x : Attempt) → IsTable n width t
      → play.tries t j ≡ Some x → x.entry < n
  pub fresh : (t : List ℕ) (j : ℕ) (x : Attempt) → IsTable n width t
      → play.tries t j ≡ Some x → play.given t j x.entry ≡ false
  pub stays : (t : List ℕ) (i j e : ℕ) → IsTable n width t → i ≤ j
      → play.given t j e ≡ false → play.given t i e ≡ false
  pub blind : (t : List ℕ) (j e v : ℕ) → IsTable n width t → e < n → v < width
      → play.given t j e ≡ false → all_miss play t j ≡ true → all_miss play (put t e v) j ≡ true
      → play.tries (put t e v) j ≡ play.tries t j

-- Of all tables the part that q attempts hit is at most q / width.
abbrev pub FewGuessesHit : Type 0
FewGuessesHit = (n width q : ℕ) (play : Play) → IsBlind n width play → q ≤ width
    → (width - q) * width ^ n ≤ count n width (λ t. all_miss play t q) * width
