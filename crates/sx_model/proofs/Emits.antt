-- A value that is sent emits nothing.
use Rattle.std.proofs.Common.{◌≡◌, ℕ, ◌+◌, Bool, true, false, if◌then◌else◌, nat_lt, List, [], ◌∷◌, ◌++◌, length, Option, Some, None, refl, ◌∙◌}
use Rattle.std.specs.Prelude.{slice_get, slice_set}
use Rattle.sx_mean.specs.declared.events.End.{End}
use Rattle.sx_model.specs.State.{EndView}
use Rattle.sx_model.specs.Reaction.{Flow, MOST_SENT, field_of, sends, sent_over, sent_to}

emits_if : (b : Bool) (g h : Flow) (l : List ℕ) → g.emits ≡ l → h.emits ≡ l → (if b then g else h).emits ≡ l
emits_if true g h l x y = x
emits_if false g h l x y = y

emits_over : (field v : ℕ) (o : Option (List ℕ)) (f : Flow) → (sent_over field v o f).emits ≡ f.emits
emits_over field v None f = refl
emits_over field v (Some words) f = emits_if (nat_lt (length words) MOST_SENT) (record f { sent = slice_set f.sent field (words ++ v ∷ []); pieces = f.pieces + 1 }) f f.emits refl refl

pub emits_to : (es : List End) (views : List EndView) (output v : ℕ) (f : Flow) → (sent_to es views output v f).emits ≡ f.emits
emits_to [] views output v f = refl
emits_to (e ∷ es) [] output v f = refl
emits_to (e ∷ es) (view ∷ views) output v f =
    let g = sent_over (field_of e view) v (slice_get f.sent (field_of e view)) f in
    emits_to es views output v (if sends output e view then g else f)
    ∙ emits_if (sends output e view) g f f.emits (emits_over (field_of e view) v (slice_get f.sent (field_of e view)) f) refl
