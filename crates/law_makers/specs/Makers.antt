-- Makers of schedules, who remember all that they saw, and the distinguisher that each of them is.
use Rattle.std.specs.Prelude.{◌≡◌, ℕ, zero, suc, Bool, List, [], ◌∷◌, ◌++◌, length}
use Rattle.std.specs.List.{list_any}
use Rattle.sx_trace.specs.declared.items.Item.{Item}
use Rattle.sx_tag.specs.Mac.{Mac}
use Rattle.sx_model.specs.Legal.{is_forged}
use Rattle.sx_sched.specs.Lines.{Line}
use Rattle.spec_run.specs.Setting.{Setting}
use Rattle.spec_run.specs.State.{World, switched_on}
use Rattle.spec_run.specs.Run.{run}
use Rattle.law_forgery.specs.Tags.{AgreeOnTags}
use Rattle.law_forgery.specs.Bare.{bare}
use Rattle.law_forgery.specs.Named.{named_setting, HasTags}

-- all items so far, and the world, but for the keys of nodes and modules
pub record Sight : Type 0 where
  pub items : List Item
  pub world : World

-- what is seen when these lines were run
abbrev pub sight : Setting → List Line → Sight
sight set lines = record {
  items = (run set (switched_on set) lines).items;
  world = bare (run set (switched_on set) lines).world;
}

-- who makes each line by all that was seen until then
abbrev pub Maker : Type 0
Maker = List Sight → Line

-- the lines that were made, and what was seen after each, and before the first
pub record Made : Type 0 where
  pub lines : List Line
  pub sights : List Sight

-- one line more
abbrev pub more : Setting → Maker → Made → Made
more set make m = record {
  lines = m.lines ++ make m.sights ∷ [];
  sights = m.sights ++ sight set (m.lines ++ make m.sights ∷ []) ∷ [];
}

-- so many lines
abbrev pub made : Setting → Maker → ℕ → Made
made set make zero = record { lines = []; sights = sight set [] ∷ [] }
made set make (suc n) = more set make (made set make n)

-- makers make the same of settings that no tag tells apart, and see the same
abbrev pub MakersSeeTheSame : Type 0
MakersSeeTheSame = (a b : Setting) (make : Maker) (n : ℕ) → AgreeOnTags a b
    → made a make n ≡ made b make n

-- the run of what a maker makes shows a `forged`
abbrev pub forges : Setting → Maker → ℕ → Bool
forges set make n = list_any is_forged (run set (switched_on set) (made set make n).lines).items

-- The maker as a distinguisher: the same run, with names in place of keys, and an oracle that is
-- asked for tags under names.
abbrev pub distinguisher : Setting → Maker → ℕ → Mac → Bool
distinguisher set make n oracle = forges (named_setting oracle set) make n

-- If the oracle has the tags of the key tree, it says exactly whether the run forges.
abbrev pub DistinguisherIsRun : Type 0
DistinguisherIsRun = (set : Setting) (make : Maker) (n : ℕ) (oracle : Mac) → length set.secret ≡ 16
    → HasTags oracle set → distinguisher set make n oracle ≡ forges set make n

-- It has no use for the nodes' keys.
abbrev pub DistinguisherKnowsNoKey : Type 0
DistinguisherKnowsNoKey = (set : Setting) (keys : List (List ℕ)) (make : Maker) (n : ℕ)
    (oracle : Mac) → length keys ≡ length set.keys
    → distinguisher (record set { keys = keys }) make n oracle ≡ distinguisher set make n oracle
