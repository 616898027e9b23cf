-- No device is at a byte whose page has none.
use Rattle.std.proofs.Common.{◌≡◌, ℕ, ◌+◌, ◌/◌, ◌%◌, false, ◌==◌, List, [], ◌∷◌, None, All, refl, ◌∙◌, arith}
use Rattle.std.specs.List.{position_from}
use Rattle.std.proofs.lemmas.Bool.{leb-true, ltb-true, eqb-false, and_parts, or_parts, false_from_ne_true, cond-false}
use Rattle.std.proofs.lemmas.List.Elements.{All-head, All-tail}
use Rattle.sx_bus.specs.declared.devices.Window.{Window}
use Rattle.sx_bus.specs.Devices.{on_word, places_of}
use Rattle.sx_bus.specs.Windows.{has_place}

abbrev pub IsEven : ℕ → Type 0
IsEven place = place % 2 ≡ 0

elsewhere : (at : ℕ) (w : Window) → IsEven w.at → (w.at / 256 == at / 256) ≡ false → on_word at w ≡ false
elsewhere at w even other = false_from_ne_true _ (λ h.
    let inside = and_parts _ _ h in
    let low = leb-true w.at at inside.0 in
    let high = ltb-true at (w.at + 2) inside.1 in
    eqb-false (w.at / 256) (at / 256) other (omega arith))

pub none_elsewhere : (windows : List Window) (at i : ℕ) → All IsEven (places_of windows) → has_place (at / 256) (places_of windows) ≡ false →
    position_from (on_word at) i windows ≡ None
none_elsewhere [] at i even h = refl
none_elsewhere (w ∷ rest) at i even h =
    let parts = or_parts _ _ h in
    cond-false (on_word at w) _ _ (elsewhere at w (All-head IsEven w.at (places_of rest) even) parts.0)
    ∙ none_elsewhere rest at (i + 1) (All-tail IsEven w.at (places_of rest) even) parts.1
