-- The numbers of the items at which words were sent, and those that are still to be written.
use Rattle.std.specs.Prelude.{◌≡◌, ℕ, ◌+◌, ◌*◌, ◌-◌, ◌<◌, ◌≤◌, true, List, [], ◌++◌, length}
use Rattle.std.specs.Prelude.{replicate, slice_get, slice_index_or, Option, Some, None, ⊤}
use Rattle.std.specs.Option.{option_to_list}
use Rattle.sx_mean.specs.declared.apps.Link.{Link}
use Rattle.sx_mean.specs.declared.events.End.{End}
use Rattle.sx_mean.specs.Ends.{ends_after, receiving, sending}
use Rattle.sx_model.specs.State.{Model}
use Rattle.sx_model.specs.Epochs.{open_epoch}
use Rattle.sx_model.specs.Changes.{is_from}

-- the list of a connection field
abbrev pub at_field : List (List ℕ) → ℕ → List ℕ
at_field xs field = slice_index_or xs field []

-- the numbers, and this one for each word that has none
abbrev pub full : ℕ → ℕ → List ℕ → List ℕ
full number count xs = xs ++ replicate (count - length xs) number

-- numbers are added, and each of them is this one, for a word that was sent
pub record Fills (number : ℕ) (sent old new : List (List ℕ)) : Type 0 where
  pub width : length new ≡ length old
  pub keeps : (field : ℕ) → full number (length (at_field sent field)) (at_field new field)
      ≡ full number (length (at_field sent field)) (at_field old field)
  pub grows : (field : ℕ) → length (at_field old field) ≤ length (at_field new field)

-- each word that was sent at a field has its number
abbrev pub IsFullOf : List (List ℕ) → List (List ℕ) → ℕ → Type 0
IsFullOf sent causes field =
    field < length causes → length (at_field sent field) ≤ length (at_field causes field)

-- and over a connection, by the epoch with which its sending end is open
abbrev pub IsFullAt : List (List ℕ) → List (List ℕ) → ℕ → Option ℕ → Type 0
IsFullAt sent causes c None = ⊤
IsFullAt sent causes c (Some epoch) = IsFullOf sent causes (c + 256 * epoch)

-- if the connection is from this module, whose sending end has this index
abbrev pub IsFullEnd : Model → List (List ℕ) → ℕ → Link → ℕ → ℕ → Type 0
IsFullEnd s causes m l c k = l.from ≡ m → IsFullAt s.sent causes c (open_epoch s m k)

-- and over all connections over which a module sends
abbrev pub IsFull : List Link → Model → ℕ → List (List ℕ) → Type 0
IsFull links s m causes = (k : ℕ) (e : End) → slice_get (ends_after 0 m links) k ≡ Some e
    → is_from e.side ≡ true → IsFullAt s.sent causes e.link (open_epoch s m k)

-- the ends that a module holds of the c-th connection
abbrev pub ends_at : ℕ → ℕ → Link → List End
ends_at c m l = option_to_list (sending c m l) ++ option_to_list (receiving c m l)
