-- Rule 7: each source is in the grammar.
use Rattle.std.specs.Prelude.{◌≡◌, ℕ, ◌+◌, List, [], ◌∷◌, Result, Ok, Err}
use Rattle.sx_lang.specs.Tree.{ModuleTree}
use Rattle.sx_lex.specs.declared.tokens.Place.{Place}
use Rattle.spec_grammar.specs.Text.{Spells, IsFirstFault}
use Rattle.sx_entries.specs.Fault.{cut, fault}
use Rattle.sx_entries.specs.declared.fault.Place.TheVariants.{Source}
use Rattle.sx_entries.specs.declared.fault.DeployFault.{DeployFault}
use Rattle.sx_entries.specs.declared.entries.ModuleEntry.{ModuleEntry}
use Rattle.sx_entries.specs.declared.entries.Start.{Start}

-- a module's entry with the tree of its source
pub record Coded : Type 0 where
  pub name : List ℕ
  pub node : ℕ
  pub provider : ℕ
  pub text : ℕ
  pub start : Start
  pub tree : ModuleTree

-- an entry with the tree of its source
abbrev pub coded : ModuleEntry → ModuleTree → Coded
coded m tree = record {
  name = m.name;
  node = m.node;
  provider = m.provider;
  text = m.text;
  start =
      m.start;
  tree = tree;
}

-- what the n-th module is: it has the tree that its source spells, or a fault at the place of the
-- source's first
abbrev pub IsCoded : ℕ → ModuleEntry → Result Coded DeployFault → Type 0
IsCoded n m (Ok c) = (tree : ModuleTree) × Spells m.source tree × (c ≡ coded m tree)
IsCoded n m (Err f) =
    (at : Place) × IsFirstFault m.source at × (f ≡ fault 7 (Source (cut n) at.line at.column))

-- what the modules become from the n-th on: each has a tree, or the first that has none is the
-- fault
pub data AreCoded : ℕ → List ModuleEntry → Result (List Coded) DeployFault → Type 0 where
  none_left : {n : ℕ} → AreCoded n [] (Ok [])
  each : {n : ℕ} {m : ModuleEntry} {ms : List ModuleEntry} {c : Coded} {cs : List Coded}
      → IsCoded n m (Ok c) → AreCoded (n + 1) ms (Ok cs) → AreCoded n (m ∷ ms) (Ok (c ∷ cs))
  later : {n : ℕ} {m : ModuleEntry} {ms : List ModuleEntry} {c : Coded} {f : DeployFault}
      → IsCoded n m (Ok c) → AreCoded (n + 1) ms (Err f) → AreCoded n (m ∷ ms) (Err f)
  here : {n : ℕ} {m : ModuleEntry} {ms : List ModuleEntry} {f : DeployFault}
      → IsCoded n m (Err f) → AreCoded n (m ∷ ms) (Err f)
