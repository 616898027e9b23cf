-- What a call that writes a text into a buffer leaves there.
use Rattle.std.specs.Prelude.{◌≡◌, ℕ, List, ◌++◌, length, drop}

-- this many bytes at the buffer's start are the text, and those after it are as they were
pub record IsWrittenText (text old : List ℕ) (count : ℕ) (new : List ℕ) : Type 0 where
  pub bytes : new ≡ text ++ drop (length text) old
  pub count_is : count ≡ length text
