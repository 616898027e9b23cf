-- What the acts of an event are sent as. Nobody has to believe this file: it is for contracts of
-- functions that aren't public.
use Rattle.std.specs.Prelude.{ℕ, ◌+◌, nat_lt, Bool, false, if◌then◌else◌, List, [], ◌∷◌, ◌++◌}
use Rattle.std.specs.Prelude.{length, take, ◌-◌, slice_get, slice_set, Option, Some, None}
use Rattle.std.specs.Option.{option_to_list}
use Rattle.sx_mean.specs.declared.events.Act.{Act}
use Rattle.sx_mean.specs.declared.events.Act.TheVariants.{Send, Emit}
use Rattle.sx_mean.specs.declared.events.End.{End}
use Rattle.sx_model.specs.declared.sendings.Sending.{Sending}
use Rattle.sx_model.specs.State.{EndView, Pending}
use Rattle.sx_lang.specs.Tree.{ModuleTree}
use Rattle.sx_mean.specs.declared.events.SourceEvent.{SourceEvent}
use Rattle.sx_mean.specs.React.{react}
use Rattle.sx_model.specs.Reaction.{MOST_SENT, field_of, sends}

-- what an end sends of what is sent to an output
abbrev pub sending_of : End → EndView → ℕ → ℕ → Option Sending
sending_of e view output v =
    if sends output e view then Some (record { field = field_of e view; value = v }) else None

-- what all ends send of what is sent to an output
abbrev pub to_send : List End → List EndView → ℕ → ℕ → List Sending
to_send [] views output v = []
to_send (e ∷ es) [] output v = []
to_send (e ∷ es) (view ∷ views) output v =
    option_to_list (sending_of e view output v) ++ to_send es views output v

-- what an act is sent as
abbrev pub act_to_send : List End → List EndView → Act → List Sending
act_to_send es views (Send output v) = to_send es views output v
act_to_send es views (Emit v) = []

-- what all acts are sent as
abbrev pub all_to_send : List End → List EndView → List Act → List Sending
all_to_send es views [] = []
all_to_send es views (a ∷ acts) = act_to_send es views a ++ all_to_send es views acts

-- what an act emits
abbrev pub emits_of_act : Act → List ℕ
emits_of_act (Send output v) = []
emits_of_act (Emit v) = v ∷ []

-- what all acts emit
abbrev pub emits_of : List Act → List ℕ
emits_of [] = []
emits_of (a ∷ acts) = emits_of_act a ++ emits_of acts

-- there is room at a field, at which these words were sent
abbrev pub has_room : Option (List ℕ) → Bool
has_room None = false
has_room (Some words) = nat_lt (length words) MOST_SENT

-- the words with one more at a field, where there is room
abbrev pub with_word : ℕ → ℕ → Option (List ℕ) → List (List ℕ) → List (List ℕ)
with_word c v None sent = sent
with_word c v (Some words) sent =
    if nat_lt (length words) MOST_SENT then slice_set sent c (words ++ v ∷ []) else sent

-- what was sent, with one more word where there is room
abbrev pub sent_one : Sending → List (List ℕ) → List (List ℕ)
sent_one x sent = with_word x.field x.value (slice_get sent x.field) sent

-- the words after all of these were sent, as far as there is room
abbrev pub sent_words : List Sending → List (List ℕ) → List (List ℕ)
sent_words [] sent = sent
sent_words (x ∷ xs) sent = sent_words xs (sent_one x sent)

-- how many of them there is room for
abbrev pub sent_pieces : List Sending → List (List ℕ) → ℕ
sent_pieces [] sent = 0
sent_pieces (x ∷ xs) sent =
    (if has_room (slice_get sent x.field) then 1 else 0) + sent_pieces xs (sent_one x sent)

-- without the last word at a field
abbrev pub without_last : ℕ → Option (List ℕ) → List (List ℕ) → List (List ℕ)
without_last c None sent = sent
without_last c (Some words) sent = slice_set sent c (take (length words - 1) words)

-- what a module owes of an event
abbrev pub owed_of : ModuleTree → List End → SourceEvent → List ℕ → List EndView → List (List ℕ)
    → Pending
owed_of tree es e cells views sent = record {
  emits = emits_of (react tree e cells).acts;
  pieces = sent_pieces (all_to_send es views (react tree e cells).acts) sent;
}
