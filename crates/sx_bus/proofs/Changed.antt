-- The devices after a change of one of them: an entry written, no place changed, and the values those of samples.
use Rattle.std.proofs.Common.{◌≡◌, ℕ, zero, suc, ◌<◌, true, false, List, [], ◌∷◌, length, map, get_or, set, ap, refl, arith, lit<}
use Rattle.std.proofs.lemmas.List.Elements.{All-nil, All-cons, All-head, All-tail}
use Rattle.sx_bus.specs.declared.devices.Kind.{Kind}
use Rattle.sx_bus.specs.declared.devices.Window.{Window}
use Rattle.sx_bus.specs.Devices.{HaveSamples, with_changed, powered_on, places_of, stale, with_sample, cleared, all_stale}
use Rattle.sx_bus.specs.Windows.{AreNew}

pub set_changed : (change : Window → Window) (windows : List Window) (device : ℕ) (d w : Window) →
    device < length windows → w ≡ change (get_or windows device d) → set windows device w ≡ with_changed change windows device
set_changed change [] device d w h e = absurd (omega arith)
set_changed change (x ∷ rest) zero d w h e = ap (λ (z : Window). z ∷ rest) e
set_changed change (x ∷ rest) (suc device) d w h e =
    ap (λ (z : List Window). x ∷ z) (set_changed change rest device d w (omega arith) e)

places_of-with_changed : (change : Window → Window) → ((w : Window) → (change w).at ≡ w.at) → (windows : List Window) (device : ℕ) →
    places_of (with_changed change windows device) ≡ places_of windows
places_of-with_changed change same [] device = refl
places_of-with_changed change same (w ∷ rest) zero = ap (λ (place : ℕ). place ∷ places_of rest) (same w)
places_of-with_changed change same (w ∷ rest) (suc device) =
    ap (λ (places : List ℕ). w.at ∷ places) (places_of-with_changed change same rest device)

pub places_of-with_sample : (windows : List Window) (device value : ℕ) → places_of (with_sample windows device value) ≡ places_of windows
places_of-with_sample windows device value = places_of-with_changed (λ w. record w { value = value; fresh = true }) (λ w. refl) windows device

pub places_of-cleared : (windows : List Window) (device : ℕ) → places_of (cleared windows device) ≡ places_of windows
places_of-cleared windows device = places_of-with_changed stale (λ w. refl) windows device

pub places_of-all_stale : (windows : List Window) → places_of (all_stale windows) ≡ places_of windows
places_of-all_stale [] = refl
places_of-all_stale (w ∷ rest) = ap (λ (places : List ℕ). w.at ∷ places) (places_of-all_stale rest)

pub places_of-powered_on : (devices : List (ℕ × Kind)) → places_of (powered_on devices) ≡ map (λ d. d.0) devices
places_of-powered_on [] = refl
places_of-powered_on (d ∷ rest) = ap (λ (places : List ℕ). d.0 ∷ places) (places_of-powered_on rest)

abbrev IsSample : Window → Type 0
IsSample w = w.value < 32768

HaveSamples-with_changed : (change : Window → Window) → ((w : Window) → IsSample w → IsSample (change w)) → (windows : List Window) (device : ℕ) →
    HaveSamples windows → HaveSamples (with_changed change windows device)
HaveSamples-with_changed change keeps [] device h = h
HaveSamples-with_changed change keeps (w ∷ rest) zero h =
    All-cons IsSample (change w) rest (keeps w (All-head IsSample w rest h)) (All-tail IsSample w rest h)
HaveSamples-with_changed change keeps (w ∷ rest) (suc device) h =
    All-cons IsSample w (with_changed change rest device) (All-head IsSample w rest h)
    (HaveSamples-with_changed change keeps rest device (All-tail IsSample w rest h))

pub HaveSamples-with_sample : (windows : List Window) (device value : ℕ) → value < 32768 → HaveSamples windows → HaveSamples (with_sample windows device value)
HaveSamples-with_sample windows device value small h =
    HaveSamples-with_changed (λ w. record w { value = value; fresh = true }) (λ w s. small) windows device h

pub HaveSamples-cleared : (windows : List Window) (device : ℕ) → HaveSamples windows → HaveSamples (cleared windows device)
HaveSamples-cleared windows device h = HaveSamples-with_changed stale (λ w s. s) windows device h

pub HaveSamples-all_stale : (windows : List Window) → HaveSamples windows → HaveSamples (all_stale windows)
HaveSamples-all_stale [] h = h
HaveSamples-all_stale (w ∷ rest) h =
    All-cons IsSample (stale w) (all_stale rest) (All-head IsSample w rest h) (HaveSamples-all_stale rest (All-tail IsSample w rest h))

pub HaveSamples-powered_on : (devices : List (ℕ × Kind)) → HaveSamples (powered_on devices)
HaveSamples-powered_on [] = All-nil IsSample
HaveSamples-powered_on (d ∷ rest) = All-cons IsSample _ (powered_on rest) (lit< tt) (HaveSamples-powered_on rest)

-- a sensor that was read differs in its mark alone, which a reset clears anyway
pub all_stale_cleared : (windows : List Window) (device : ℕ) → all_stale (cleared windows device) ≡ all_stale windows
all_stale_cleared [] device = refl
all_stale_cleared (w ∷ rest) zero = refl
all_stale_cleared (w ∷ rest) (suc device) = ap (λ (ws : List Window). stale w ∷ ws) (all_stale_cleared rest device)

abbrev IsNew : Window → Type 0
IsNew w = (w.value ≡ 0) × (w.fresh ≡ false)

pub AreNew-powered_on : (devices : List (ℕ × Kind)) → AreNew (powered_on devices)
AreNew-powered_on [] = All-nil IsNew
AreNew-powered_on (d ∷ rest) = All-cons IsNew _ (powered_on rest) (refl, refl) (AreNew-powered_on rest)
