-- What is written of a text whose parts are written together.
use Rattle.std.specs.Prelude.{ℕ, ◌≡◌, Bool, List, ◌++◌, IsTrue, Result, Ok, Err}
use Rattle.sx_io.specs.Counts.{next_count}
use Rattle.sx_io.specs.Prefixes.{AppendsPrefix}
use Rattle.sx_io.specs.Streams.{SinkAt}
use Rattle.sx_io.specs.declared.outside.Failed.{Failed}

-- Of a text that was due all was written but its end, which is kept.
pub record WritesUpTo (to_tell : Bool) (k0 k1 : SinkAt) (due kept : List ℕ) : Type 0 where
  pub text : List ℕ
  pub wrote : IsTrue to_tell → k1.written ≡ k0.written ++ text
  pub parts : text ++ kept ≡ due
  pub no_fault : k1.faults ≡ k0.faults

-- One write failed, after a prefix of the text that was due.
pub record WritesPrefix (to_tell : Bool) (k0 k1 : SinkAt) (due : List ℕ) : Type 0 where
  pub prefix : IsTrue to_tell → AppendsPrefix k0.written k1.written due
  pub fault : k1.faults ≡ next_count k0.faults

-- the one or the other, by the answer
abbrev pub Writes : Bool → SinkAt → SinkAt → List ℕ → List ℕ → Result (Unit {0}) Failed → Type 0
Writes to_tell k0 k1 due kept (Ok done) = WritesUpTo to_tell k0 k1 due kept
Writes to_tell k0 k1 due kept (Err failed) = WritesPrefix to_tell k0 k1 due
