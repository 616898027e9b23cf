-- How far a command reads, over its streams alone.
use Rattle.std.specs.Prelude.{ℕ, ◌+◌, ◌≤◌, ◌≡◌, Bool, List, [], ◌∷◌, ◌++◌, IsTrue, length}
use Rattle.sx_io.specs.Reading.{Answer, Broken, Limit, longest, newline, scan}
use Rattle.command_promise.specs.Told.{CommandAt, Output, behind, unread_output}

-- a newline is at the end
abbrev pub HasEnd : List ℕ → Type 0
HasEnd [] = ⊥
HasEnd (b ∷ []) = b ≡ newline
HasEnd (b ∷ c ∷ more) = HasEnd (c ∷ more)

-- Where these whole lines are in the input, and what is due of them wasn't all written, at most
-- 4,096 bytes were taken past them. What is due of lines is what is defined where a read fails
-- after them, without its last line.
abbrev pub Streams : Bool → Bool → Limit → CommandAt → CommandAt → (List Answer → Output) → Type 0
Streams tells to_tell limit m0 m1 defined =
    (bytes rest said : List ℕ) → IsTrue tells → IsTrue to_tell → m0.source.rest ≡ bytes ++ rest
    → HasEnd bytes → defined (scan limit Broken [] bytes) ≡ behind said unread_output
    → ((more : List ℕ) → m1.sink.written ≡ m0.sink.written ++ (said ++ more) → ⊥)
    → length rest ≤ longest + length m1.source.rest
