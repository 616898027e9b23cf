-- All entries that a run may try.
use Rattle.std.specs.Prelude.{ℕ, zero, suc, ◌^◌, List, [], ◌∷◌, ◌++◌}
use Rattle.law_rarity.specs.Tables.{Entry, bytes_of}
use Rattle.law_rarity.specs.Rare.{HaveBoots}

-- f 0, .., f (n - 1), one after the other
unfoldable pub each : {X : Type 0} → ℕ → (ℕ → List X) → List X
each zero f = []
each (suc n) f = each n f ++ f n

-- of so many modules, at each boot that a name can have: each message of up to 65 bytes after its
-- `T`, which are the length of a header, the header and a cipher, of 32 bytes at most
abbrev pub all_entries : (modules : ℕ) → List Entry
all_entries modules = each modules (λ m. each (2 ^ 32) (λ boot.
    each 66 (λ size. each (256 ^ size) (λ v.
    record { m = m; boot = boot; rest = bytes_of size v } ∷ []))))

-- they have such boots
abbrev pub AllHaveBoots : Type 0
AllHaveBoots = (modules : ℕ) → HaveBoots (all_entries modules)
