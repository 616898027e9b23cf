-- A setting whose nodes hold names in place of keys.
use Rattle.std.specs.Prelude.{◌≡◌, ℕ, zero, suc, ◌+◌, ◌*◌, ◌^◌, ◌==◌, if◌then◌else◌, List, []}
use Rattle.std.specs.Prelude.{◌∷◌, ◌++◌, length}
use Rattle.std.specs.Int.{w16, w32, to_le_bytes}
use Rattle.sx_tag.specs.Mac.{Mac}
use Rattle.sx_tag.specs.Keys.{module_key}
use Rattle.spec_run.specs.Setting.{Setting}
use Rattle.spec_run.specs.Deployer.{list_at}
use Rattle.law_forgery.specs.Tags.{rekeyed, AgreeOnTags}

-- a list of numbers as one number, which no other list has
abbrev pub code : List ℕ → ℕ
code [] = 0
code (b ∷ bs) = 2 ^ b * (2 * code bs + 1)

-- under a name: a key that is derived is a longer name, and each other tag is looked up in a table
abbrev pub looked : Mac → List ℕ → List ℕ → List ℕ
looked table name [] = table name []
looked table name (kind ∷ rest) =
    if kind == 0x4B then name ++ code rest ∷ [] else table name (kind ∷ rest)

-- under 16 bytes the tags are as before; all other keys are names
abbrev pub named : Mac → Mac → Mac
named table mac key message =
    if length key == 16 then mac key message else looked table key message

-- so many names, from the i-th on
abbrev pub names : ℕ → ℕ → List (List ℕ)
names i zero = []
names i (suc n) = (i ∷ []) ∷ names (i + 1) n

-- the setting whose nodes hold names, and whose tags under names are those of a table
abbrev pub named_setting : Mac → Setting → Setting
named_setting table set =
    rekeyed set (named table set.mac) (names 0 (length set.keys)) set.secret

-- a module's name: its node, and boot, provider and identity as numbers
abbrev pub name_of : Setting → ℕ → ℕ → ℕ → List ℕ → List ℕ
name_of set n boot provider identity = list_at (names 0 (length set.keys)) n
    ++ code (to_le_bytes w32 boot) ∷ code (to_le_bytes w16 provider) ∷ code identity ∷ []

-- the table has the tags under the modules' keys
abbrev pub HasTags : Mac → Setting → Type 0
HasTags table set = (n boot provider : ℕ) (identity message : List ℕ)
    → table (name_of set n boot provider identity) message
    ≡ set.mac (module_key set.mac (list_at set.keys n) boot provider identity) message

-- no tag tells a setting and the one with names apart, if the table has its tags
abbrev pub NamesAgree : Type 0
NamesAgree = (table : Mac) (set : Setting) → length set.secret ≡ 16 → HasTags table set
    → AgreeOnTags set (named_setting table set)

-- the parts of a name tell its module, so there is such a table
abbrev pub TagsTabled : Type 0
TagsTabled = (set : Setting) → (table : Mac) × HasTags table set
