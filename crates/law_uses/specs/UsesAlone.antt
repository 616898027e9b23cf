-- A run depends on nothing of the tag function but the answers to its uses.
use Rattle.std.specs.Prelude.{◌≡◌, ℕ, ◌<◌, ◌≤◌, List, [], length, Option, Some, None}
use Rattle.sx_trace.specs.declared.items.Item.{Item}
use Rattle.spec_run.specs.Setting.{Setting}
use Rattle.spec_run.specs.Deployer.{connection_key}
use Rattle.spec_run.specs.State.{switched_on}
use Rattle.law_isolation.specs.Script.{Script}
use Rattle.law_forgery.specs.Tags.{rekeyed}
use Rattle.law_forgery.specs.Bare.{bare}
use Rattle.law_forgery.specs.Moments.{Moment, moment_from, shown_at}
use Rattle.law_uses.specs.Uses.{uses, SameUses}

-- a moment without the keys of nodes and sections
abbrev pub bare_moment : Option Moment → Option Moment
bare_moment None = None
bare_moment (Some now) = Some (record { next = now.next; world = bare now.world })

-- the items that a moment shows
abbrev pub items_of : Setting → Option Moment → List Item
items_of set None = []
items_of set (Some now) = shown_at set now

-- the moments up to the k-th are the same but for keys, and those before it show the same items
pub record SameMoments (a b : Setting) (script : Script) (k : ℕ) : Type 0 where
  pub moments : (j : ℕ) → j ≤ k
      → bare_moment (moment_from a j script (switched_on a))
      ≡ bare_moment (moment_from b j script (switched_on b))
  pub items : (j : ℕ) → j < k
      → items_of a (moment_from a j script (switched_on a))
      ≡ items_of b (moment_from b j script (switched_on b))

-- the settings differ in the tag function, the nodes' keys and the secret alone, and the keys of
-- connections are the same
pub record DifferInTags (a b : Setting) : Type 0 where
  pub rest : b ≡ rekeyed a b.mac b.keys b.secret
  pub count : length a.keys ≡ length b.keys
  pub links : (link epoch : ℕ) → connection_key a link epoch ≡ connection_key b link epoch

-- each use before the k-th moment has the same answer in both
abbrev pub AnswerAlike : Setting → Setting → Script → ℕ → Type 0
AnswerAlike a b script k = (j : ℕ) (now : Moment) → j < k
    → moment_from a j script (switched_on a) ≡ Some now → SameUses a b (uses a now)

-- A run depends on nothing of tags but the answers to its uses, one after the other.
abbrev pub UsesAlone : Type 0
UsesAlone = (a b : Setting) (script : Script) (k : ℕ) → DifferInTags a b
    → AnswerAlike a b script k → SameMoments a b script k
