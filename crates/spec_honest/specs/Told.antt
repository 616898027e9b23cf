-- What items tell of a run: whether anything went wrong, what was taken from each connection, and
-- what was put out.
use Rattle.std.specs.Prelude.{ℕ, ◌+◌, ◌==◌, Bool, true, false, if◌then◌else◌, List, [], ◌∷◌}
use Rattle.std.specs.Prelude.{flat_map}
use Rattle.sx_trace.specs.declared.items.Item.{Item}
use Rattle.sx_trace.specs.declared.items.Item.TheVariants.{Reset, Take, Out, Done, Forged}
use Rattle.spec_honest.specs.Plain.{Output}

-- no reset, nothing forged, and no invocation that ended but with status 1
abbrev pub is_well : Item → Bool
is_well (Reset n cause) = false
is_well (Done m status k) = status == 1
is_well (Forged m) = false
is_well _ = true

-- an output
abbrev pub put_out : Item → List Output
put_out (Out m v) = record { part = m; value = v } ∷ []
put_out _ = []

-- the outputs among items, in order
abbrev pub outputs_of : List Item → List Output
outputs_of items = flat_map put_out items

-- a word that was taken from a connection, with its number
pub record Taken : Type 0 where
  pub number : ℕ
  pub value : ℕ

-- what an item takes from a connection
abbrev pub taken_by : ℕ → Item → List Taken
taken_by c (Take m d i v) = if d == c then record { number = i; value = v } ∷ [] else []
taken_by c _ = []

-- what items take from a connection, in order
abbrev pub takes_of : ℕ → List Item → List Taken
takes_of c items = flat_map (taken_by c) items

-- words with their numbers, from n on
abbrev pub numbered : ℕ → List ℕ → List Taken
numbered n [] = []
numbered n (v ∷ vs) = record { number = n; value = v } ∷ numbered (n + 1) vs
