-- Epochs: which connections an attestation renews, and which ends open and take in an epoch.
use Rattle.std.specs.Prelude.{ℕ, ◌+◌, ◌==◌, ◌&&◌, ◌||◌, nat_lt, nat_le, not, Bool, true, false}
use Rattle.std.specs.Prelude.{if◌then◌else◌, List, ◌∷◌, slice_index, Option, Some, None}
use Rattle.std.specs.Option.{option_map, option_map_or}
use Rattle.sx_mean.specs.declared.apps.Link.{Link}
use Rattle.sx_model.specs.State.{EndView, Attestation, contains}

-- the module is at an end of the connection
abbrev pub is_of : ℕ → Link → Bool
is_of m l = (l.from == m) || (l.to == m)

-- the epochs with those of the module's connections raised by one
abbrev pub raised_epochs : ℕ → List Link → List ℕ → List ℕ
raised_epochs m (l ∷ ls) (e ∷ es) = (if is_of m l then e + 1 else e) ∷ raised_epochs m ls es
raised_epochs m _ es = es

-- one of the module's connections has the last epoch
abbrev pub is_spent : ℕ → List Link → List ℕ → Bool
is_spent m (l ∷ ls) (e ∷ es) = (is_of m l && nat_le 255 e) || is_spent m ls es
is_spent m _ _ = false

-- a module that was last attested at a boot, if any, may be attested at this one
abbrev pub may_attest : ℕ → List Link → List ℕ → Option ℕ → ℕ → Bool
may_attest m ls es None b = true
may_attest m ls es (Some last) b = nat_lt last b && not (is_spent m ls es)

-- the epochs after it: where it was attested before, its connections are renewed
abbrev pub renewed : ℕ → List Link → Option ℕ → List ℕ → List ℕ
renewed m ls last es = option_map_or (λ boot. raised_epochs m ls es) last es

-- the boot of an attestation, if any
abbrev pub boot_of : Option Attestation → Option ℕ
boot_of o = option_map (λ a. a.boot) o

-- a closed end, or one that is open with a lower epoch, opens
abbrev pub is_below : Option ℕ → ℕ → Bool
is_below o epoch = option_map_or (λ old. nat_lt old epoch) o true

-- the end as it opens in the epoch, with the first number to be taken
abbrev pub opens : ℕ → EndView → Option EndView
opens epoch view =
    if is_below view.epoch epoch then Some (record { epoch = Some epoch; next = 0 }) else None

-- a module so attested may open an end of the connection with the epoch
abbrev pub may_open : Option Attestation → ℕ → ℕ → ℕ → ℕ → Bool
may_open None boot c epoch now = false
may_open (Some a) boot c epoch now =
    (a.boot == boot) && (nat_le (slice_index a.floors c) epoch && nat_le epoch now)

-- a receiving end that is open with the epoch takes the n-th word
abbrev pub takes : ℕ → ℕ → EndView → Option EndView
takes epoch n view = if contains view.epoch epoch && nat_le view.next n then
    Some (record { epoch = view.epoch; next = n + 1 }) else None
