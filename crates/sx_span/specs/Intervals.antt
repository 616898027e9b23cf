-- Numbers between two ends.
use Rattle.std.specs.Prelude.{ℕ, zero, suc, ◌≤◌, ◌+◌, ◌/◌, ◌%◌, ◌==◌, Bool, if◌then◌else◌}
use Rattle.std.specs.Prelude.{nat_le, nat_lt, min, max}
pub use Rattle.sx_span.specs.declared.intervals.Interval.{Interval}

-- a number is between the ends
pub record Lies (v : ℕ) (i : Interval) : Type 0 where
  pub above : i.low ≤ v
  pub below : v ≤ i.high

-- from one number to another
abbrev pub between : ℕ → ℕ → Interval
between l h = record { low = l; high = h }

-- this number alone
abbrev pub only : ℕ → Interval
only n = between n n

-- all words
abbrev pub any_word : Interval
any_word = between 0 65535

-- the least interval that has both
abbrev pub hull : Interval → Interval → Interval
hull i j = between (min i.low j.low) (max i.high j.high)

-- words of the numbers from l to h: exact where none of them wraps or all wrap as often
abbrev pub wrapped : ℕ → ℕ → Interval
wrapped l h = if l / 65536 == h / 65536 then between (l % 65536) (h % 65536) else any_word

-- a truth value that is surely true, surely false, or either
abbrev pub decided : Bool → Bool → Interval
decided surely never = if surely then only 1 else if never then only 0 else between 0 1

-- all bits of a mask of k bits up to the highest of n: the mask is halved, while it isn't less
abbrev pub ones : ℕ → ℕ → ℕ → ℕ
ones zero mask n = mask
ones (suc k) mask n = if nat_le n (mask / 2) then ones k (mask / 2) n else mask

-- no bits of two numbers up to a and b make more
abbrev pub most_of_bits : ℕ → ℕ → ℕ
most_of_bits a b =
    if nat_lt (max a b) 65536 then ones 16 65535 (max a b) else a + b
