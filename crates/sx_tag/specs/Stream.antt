-- A run of a tag that ends in an answer to what it is fed.
use Rattle.std.specs.Prelude.{◌≡◌, ℕ, List, ◌++◌, take}
use Rattle.sx_tag.specs.Mac.{Mac}

-- the run was fed `fed`, and gives the answer to all that it is fed until it is ended: it was begun
-- with a key and holds some bytes before
pub record Leads {R : Type 0} (has : R → List ℕ → List ℕ → Type 0) (mac : Mac) (answer : List ℕ
    → List ℕ) (run : R) (fed : List ℕ) : Type 0 where
  pub key : List ℕ
  pub before : List ℕ
  pub holds : has run key (before ++ fed)
  pub answers : (message : List ℕ) → take 16 (mac key (before ++ message)) ≡ answer message
