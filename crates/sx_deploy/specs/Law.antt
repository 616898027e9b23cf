-- What holds of the meaning of every text.
use Rattle.std.specs.Prelude.{◌≡◌, ℕ, ◌+◌, ◌%◌, ◌<◌, ◌≤◌, ◌⊎◌, true, false, List, [], ◌∷◌, length}
use Rattle.std.specs.Prelude.{map, Some, None, Result, AllPairs, All, IfSome, IsSome, slice_get}
use Rattle.sx_lang.specs.Sizes.{module_weight, module_data_size}
use Rattle.sx_lang.specs.Words.{IsWord, TreeHasWords}
use Rattle.sx_check.specs.Rules.{first_broken}
use Rattle.sx_mean.specs.Application.{PartTree, declared_kind, ends_from, ends_to, is_driven}
use Rattle.sx_mean.specs.Application.{is_sensor}
use Rattle.sx_mean.specs.Application.{sends_too_much}
use Rattle.sx_mean.specs.declared.apps.AppDevice.{AppDevice}
use Rattle.sx_rules.specs.declared.section.Layout.{Layout}
use Rattle.sx_entries.specs.declared.fault.DeployFault.{DeployFault}
use Rattle.sx_deploy.specs.declared.placing.Placement.{Placement}
use Rattle.sx_deploy.specs.Places.{Span, span, text_of, data_of}
use Rattle.sx_deploy.specs.Deployment.{Deployed, IsRead}

-- no text has two meanings
abbrev pub OneMeaning : Type 0
OneMeaning =
    (text : List ℕ) (a b : Result Deployed DeployFault) → IsRead text a → IsRead text b → a ≡ b

-- each text has a meaning
abbrev pub SomeMeaning : Type 0
SomeMeaning = (text : List ℕ) → (outcome : Result Deployed DeployFault) × IsRead text outcome

-- no byte is in both
abbrev pub AreApartSpans : Span → Span → Type 0
AreApartSpans a b = (a.to ≤ b.from) ⊎ (b.to ≤ a.from)

-- two modules of one node share no byte
pub record AreBeside (p q : Placement) : Type 0 where
  pub beside : p.node ≡ q.node → AreApartSpans (text_of p) (text_of q)
      × AreApartSpans (text_of p) (data_of q) × AreApartSpans (data_of p) (text_of q)
      × AreApartSpans (data_of p) (data_of q)

-- even, and between the first and the last place that a section may have
pub record IsInside (s : Span) : Type 0 where
  pub even : s.from % 2 ≡ 0
  pub low : 0x0200 ≤ s.from
  pub high : s.to ≤ 0xFFE0

-- a device's word
pub record Word : Type 0 where
  pub node : ℕ
  pub at : ℕ

-- the words of the devices, each with its node
abbrev pub words_of : List AppDevice → List ℕ → List Word
words_of (d ∷ ds) (at ∷ ats) = record { node = d.node; at = at } ∷ words_of ds ats
words_of _ _ = []

-- the modules' nodes with their layouts
abbrev pub standing : List PartTree → List Layout → List Placement
standing (q ∷ qs) (l ∷ ls) = record { node = q.node; layout = l } ∷ standing qs ls
standing _ _ = []

-- the p-th module's place: its sections are as long as the sizes say, in the range and apart; a
-- driver's private section begins with its device's word, and no other word of the node lies in a
-- section
pub record IsLaid (d : Deployed) (p : ℕ) (q : PartTree) (l : Layout) : Type 0 where
  pub weight : l.pub_to ≡ l.pub_from + module_weight q.tree
      (ends_from d.app.links p + ends_to d.app.links p)
  pub data_size : l.priv_to ≡ l.priv_from + module_data_size q.tree
      (ends_from d.app.links p + ends_to d.app.links p)
  pub text : IsInside (text_of (record { node = q.node; layout = l }))
  pub data_part : IsInside (data_of (record { node = q.node; layout = l }))
  pub apart : AreApartSpans (text_of (record { node = q.node; layout = l }))
      (data_of (record { node = q.node; layout = l }))
  pub device : IfSome q.device (λ n. slice_get d.places n ≡ Some l.priv_from)
  pub words : All (λ (w : Word). w.node ≡ q.node → (IsSome q.device × (w.at ≡ l.priv_from))
      ⊎ (AreApartSpans (span w.at 2) (text_of (record { node = q.node; layout = l }))
      × AreApartSpans (span w.at 2) (data_of (record { node = q.node; layout = l }))))
      (words_of d.app.devices d.places)

-- from the p-th module on
abbrev pub AreLaid : Deployed → ℕ → List PartTree → List Layout → Type 0
AreLaid d p [] [] = Unit {0}
AreLaid d p (q ∷ qs) (l ∷ ls) = IsLaid d p q l × AreLaid d (p + 1) qs ls
AreLaid d p _ _ = ⊥

-- The p-th module keeps the rules of the language, and its numbers are words. It is at a node of
-- the application, drives a device exactly where it declares one, of that kind and at its node, and
-- has neither too many ends nor sends too much.
pub record IsDeployedPart (d : Deployed) (p : ℕ) (q : PartTree) : Type 0 where
  pub checked : first_broken q.tree ≡ None
  pub words : TreeHasWords q.tree
  pub node : q.node < d.app.nodes
  pub driven : is_driven d.app.devices q.node q.device (declared_kind q.tree.decls) ≡ true
  pub ends : ends_from d.app.links p + ends_to d.app.links p ≤ 16
  pub packets : sends_too_much d.app.links p q.tree ≡ false

-- even, and where a device may be
pub record IsWordPlace (w : Word) : Type 0 where
  pub even : w.at % 2 ≡ 0
  pub low : 0x0200 ≤ w.at
  pub high : w.at < 0xFFE0

-- the deployment of every text that is accepted
pub record IsSoundDeployment (d : Deployed) : Type 0 where
  pub nodes : d.app.nodes ≡ length d.names.nodes
  pub keys : length d.keys ≡ length d.names.nodes
  pub devices : length d.app.devices ≡ length d.names.devices
  pub places : length d.places ≡ length d.names.devices
  pub parts : length d.app.parts ≡ length d.names.modules
  pub providers : length d.providers ≡ length d.names.modules
  pub links : length d.app.links ≡ length d.names.links
  pub few_nodes : d.app.nodes ≤ 16
  pub few_devices : length d.app.devices ≤ 32
  pub few_parts : length d.app.parts ≤ 32
  pub few_links : length d.app.links ≤ 64
  pub sensors : d.names.sensors ≡ map (λ x. is_sensor x.kind) d.app.devices
  pub provider_words : All IsWord d.providers
  pub modules : (p : ℕ) (q : PartTree) → slice_get d.app.parts p ≡ Some q → IsDeployedPart d p q
  pub words : All IsWordPlace (words_of d.app.devices d.places)
  pub words_apart : AllPairs (λ (v w : Word). v.node ≡ w.node
      → ¬ (v.at ≡ w.at)) (words_of d.app.devices d.places)
  pub laid : AreLaid d 0 d.app.parts d.layouts
  pub beside : AllPairs AreBeside (standing d.app.parts d.layouts)
