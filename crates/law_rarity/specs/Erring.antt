-- How seldom a maker of schedules takes a random table for the tags of the key tree.
use Rattle.std.specs.Prelude.{◌≡◌, ℕ, ◌*◌, ◌^◌, ◌≤◌, Bool, List, length, None}
use Rattle.sx_tag.specs.Mac.{Mac, IsTag}
use Rattle.spec_run.specs.Setting.{Setting}
use Rattle.spec_run.specs.State.{switched_on}
use Rattle.spec_run.specs.Run.{run}
use Rattle.spec_run.specs.Law.{IsSoundSetting}
use Rattle.law_forgery.specs.Moments.{moment}
use Rattle.law_forgery.specs.Named.{HasTags, named_setting}
use Rattle.law_connections.specs.Laws.{RealizesAlways}
use Rattle.law_uses.specs.Hit.{warned, is_of_module}
use Rattle.law_makers.specs.Makers.{Maker, made}
use Rattle.law_counting.specs.Counting.{IsTable, count}
use Rattle.law_rarity.specs.Tables.{tabled, with_tags}
use Rattle.law_rarity.specs.Rare.{AreInRange}
use Rattle.law_rarity.specs.Covering.{all_entries}

-- the first `forged` of the run of what a maker makes comes before an `attested` or an `open`
abbrev pub forges_of_module : Setting → Maker → ℕ → Bool
forges_of_module set make n =
    is_of_module (warned (run set (switched_on set) (made set make n).lines).items)

-- The maker as a distinguisher: the run with names over an oracle.
abbrev pub module_distinguisher : Setting → Maker → ℕ → Mac → Bool
module_distinguisher set make n oracle = forges_of_module (named_setting oracle set) make n

-- Over the tags of the key tree it says exactly whether the run does.
abbrev pub ForgersAreTold : Type 0
ForgersAreTold = (set : Setting) (make : Maker) (n : ℕ) (oracle : Mac) → length set.secret ≡ 16
    → HasTags oracle set
    → module_distinguisher set make n oracle ≡ forges_of_module set make n

-- the lines that are made are in range, and their run has at most q moments, whatever the table
pub record KeepsTo (set : Setting) (make : Maker) (n q : ℕ) (t : List ℕ) : Type 0 where
  pub range : let s = with_tags set (all_entries (length set.app.parts)) t in
      AreInRange s (made s make n).lines
  pub ends : let s = with_tags set (all_entries (length set.app.parts)) t in
      moment s (made s make n).lines q ≡ None

-- Over a table of random tags of all modules at all boots, whatever is beside it, it says so
-- for at most the part q / 2^128 of all tables.
abbrev pub SeldomErrs : Setting → Mac → Maker → (n q : ℕ) → Type 0
SeldomErrs set base make n q =
    let es = all_entries (length set.app.parts) in
    count (length es) (2 ^ 128) (λ t.
    module_distinguisher set make n (tabled (named_setting base set) es t)) * 2 ^ 128
    ≤ q * (2 ^ 128) ^ length es

abbrev pub DistinguisherSeldomErrs : Type 0
DistinguisherSeldomErrs = (set : Setting) (base : Mac) (make : Maker) (n q : ℕ)
    → IsSoundSetting set → RealizesAlways set → IsTag base → length set.secret ≡ 16 → n ≤ 65536
    → ((t : List ℕ) → IsTable (length (all_entries (length set.app.parts))) (2 ^ 128) t
    → KeepsTo (named_setting base set) make n q t)
    → q ≤ 2 ^ 128 → SeldomErrs set base make n q
