-- Settings whose modules have names in place of keys.
use Rattle.std.specs.Prelude.{◌≡◌, ℕ, List}
use Rattle.sx_tag.specs.Mac.{Mac}
use Rattle.sx_tag.specs.Keys.{module_key}
use Rattle.spec_run.specs.Setting.{Setting}
use Rattle.spec_run.specs.Deployer.{list_at}
use Rattle.law_forgery.specs.Named.{name_of, named_setting}

-- the key of each module is its name
abbrev pub HasNames : Setting → Type 0
HasNames set = (n boot provider : ℕ) (identity : List ℕ)
    → module_key set.mac (list_at set.keys n) boot provider identity
    ≡ name_of set n boot provider identity

-- so it is in a setting whose nodes hold names
abbrev pub NamedHasNames : Type 0
NamedHasNames = (set : Setting) (table : Mac) → HasNames (named_setting table set)
