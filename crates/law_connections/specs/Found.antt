-- What a guess is: a key, found.
use Rattle.std.specs.Prelude.{◌≡◌, ℕ, List}
use Rattle.sx_tag.specs.Keys.{module_key}
use Rattle.sx_sched.specs.Lines.{Line}
use Rattle.spec_run.specs.Setting.{Setting}
use Rattle.spec_run.specs.Deployer.{list_at}
use Rattle.law_connections.specs.LinksUnseen.{RunKeepsTo, NothingGuessed}
use Rattle.law_connections.specs.Unlinks.{IsDeployedKey, IsMoved}

-- code of no deployed module uses no key that has another in its place, and none of a deployed
-- module, and admits no module that has the key of a deployed one
abbrev pub NoKeyFound : Setting → (List ℕ → List ℕ) → List Line → Type 0
NoKeyFound a move = RunKeepsTo a (λ k. (move k ≡ k) × (IsDeployedKey a k → ⊥))
    (λ n boot provider identity.
    IsDeployedKey a (module_key a.mac (list_at a.keys n) boot provider identity) → ⊥)

-- Between a setting and one that has other keys in place of its own, nothing is guessed if no
-- key is found.
abbrev pub KeysFound : Type 0
KeysFound = (a b : Setting) (move : List ℕ → List ℕ) (lines : List Line) → IsMoved a move b
    → NoKeyFound a move lines → NothingGuessed a b lines
