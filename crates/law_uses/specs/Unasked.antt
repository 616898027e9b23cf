-- A tag that no moment gives, and that each try misses, shows in nothing.
use Rattle.std.specs.Prelude.{◌≡◌, ℕ, false, ◌<◌, List, [], ◌∷◌, length, take, bytes_eq, Some}
use Rattle.sx_tag.specs.Mac.{Mac}
use Rattle.spec_run.specs.Setting.{Setting}
use Rattle.spec_run.specs.State.{switched_on}
use Rattle.law_isolation.specs.Script.{Script}
use Rattle.law_forgery.specs.Moments.{Moment, moment_from}
use Rattle.law_uses.specs.Uses.{key_held, Use, Gives, Tries, Sizes, uses}
use Rattle.law_uses.specs.UsesAlone.{SameMoments}

-- two tag functions differ at one entry alone, which is a key and a message over `T`, and not in
-- how many bytes are there
pub record DifferAt (mac nac : Mac) (key rest : List ℕ) : Type 0 where
  pub others : (k m : List ℕ) → (k ≡ key → m ≡ 0x54 ∷ rest → ⊥) → mac k m ≡ nac k m
  pub size : length (mac key (0x54 ∷ rest)) ≡ length (nac key (0x54 ∷ rest))

-- the use doesn't give this entry, and if it tries the entry it misses both
abbrev pub Spares : Setting → Mac → (key rest : List ℕ) → Use → Type 0
Spares set nac key rest (Gives whose kind r) =
    key_held set whose ≡ key → kind ∷ r ≡ 0x54 ∷ rest → ⊥
Spares set nac key rest (Tries whose kind r tag) =
    key_held set whose ≡ key → kind ∷ r ≡ 0x54 ∷ rest
    → (bytes_eq tag (take 16 (set.mac key (0x54 ∷ rest))) ≡ false)
    × (bytes_eq tag (take 16 (nac key (0x54 ∷ rest))) ≡ false)
Spares set nac key rest (Sizes whose header body) = Unit {0}

abbrev pub AllSpare : Setting → Mac → (key rest : List ℕ) → List Use → Type 0
AllSpare set nac key rest [] = Unit {0}
AllSpare set nac key rest (u ∷ us) = Spares set nac key rest u × AllSpare set nac key rest us

-- So until it is given or hit nothing depends on what is at the entry: the run with another
-- value there is the same.
abbrev pub UnaskedIsUnseen : Type 0
UnaskedIsUnseen = (set : Setting) (nac : Mac) (key rest : List ℕ) (script : Script) (k : ℕ)
    → DifferAt set.mac nac key rest
    → ((j : ℕ) (now : Moment) → j < k → moment_from set j script (switched_on set) ≡ Some now
    → AllSpare set nac key rest (uses set now))
    → SameMoments set (record set { mac = nac }) script k
