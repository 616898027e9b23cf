-- Nodes that differ in what deployed modules hold.
use Rattle.std.specs.Prelude.{◌≡◌, ◌⊎◌, ℕ, ◌-◌, ◌<◌, ◌==◌, ◌&&◌, Bool, true, false, List, slice_index, bytes_eq}
use Rattle.std.specs.Prelude.{Some, None, is_some, [], ◌∷◌}
use Rattle.std.specs.List.{position_from}
use Rattle.sx_rules.specs.declared.access.Access.TheVariants.{Read}
use Rattle.sx_rules.specs.declared.section.Layout.{Layout}
use Rattle.sx_rules.specs.declared.section.Section.{Section}
use Rattle.sx_rules.specs.Access.{Lives, in_private, section_of}
use Rattle.sx_rules.specs.Placed.{Placed}
use Rattle.sx_tag.specs.Mac.{Mac}
use Rattle.sx_tag.specs.Keys.{module_key, identity}
use Rattle.spec_machine.specs.Memory.{word, bytes_from}
use Rattle.spec_machine.specs.State.{State}
use Rattle.spec_machine.specs.Run.{may_range}
use Rattle.spec_machine.specs.ModuleRows.{own_key}
use Rattle.spec_machine.specs.Step.{pc_of, own_of, is_let_run, step}
use Rattle.sx_tmpl.specs.Steady.{AgreeAt}
use Rattle.spec_run.specs.Setting.{Site, same_layout, module_of}
use Rattle.law_forgery.specs.Tags.{SameTags}

-- which modules are deployed on a node, by layout, provider and text
abbrev pub Kind : Type 0
Kind = Layout → ℕ → List ℕ → Bool

-- those of the sites on the n-th node
abbrev pub sites_on : List Site → ℕ → Kind
sites_on sites n layout provider text = is_some (position_from (λ (site : Site). (site.node == n)
    && (same_layout layout site.layout && ((provider == site.provider) && bytes_eq text site.text))) 0 sites)

-- the bytes of a layout's public section
abbrev pub text_at : List ℕ → Layout → List ℕ
text_at mem l = bytes_from mem l.pub_from (l.pub_to - l.pub_from)

-- the section is that of a deployed module
abbrev pub is_deployed : Kind → List ℕ → Section → Bool
is_deployed kind mem x = kind x.layout x.provider (text_at mem x.layout)

-- the byte is in no private section that hides
abbrev pub Unhidden : (Section → Bool) → List Section → ℕ → Type 0
Unhidden hides live k = (x : Section) → Lives live x → hides x ≡ true → in_private x k ≡ false

-- The sections differ in their keys alone, and where a section isn't that of a deployed module no
-- tag tells the keys apart.
abbrev pub SameSection : Mac → Mac → (Section → Bool) → Section → Section → Type 0
SameSection mac nac hides x y =
    (y ≡ record x { key = y.key }) × (hides x ≡ false → SameTags mac x.key nac y.key)

abbrev pub SameSections : Mac → Mac → (Section → Bool) → List Section → List Section → Type 0
SameSections mac nac hides [] [] = Unit {0}
SameSections mac nac hides [] (y ∷ ys) = ⊥
SameSections mac nac hides (x ∷ xs) [] = ⊥
SameSections mac nac hides (x ∷ xs) (y ∷ ys) =
    SameSection mac nac hides x y × SameSections mac nac hides xs ys

-- the bounds are words
pub record InWords (l : Layout) : Type 0 where
  pub pub_from : l.pub_from < 65536
  pub pub_to : l.pub_to < 65536
  pub priv_from : l.priv_from < 65536
  pub priv_to : l.priv_to < 65536

-- The nodes differ in keys, in what was last wrapped or unwrapped, and in the private bytes of
-- deployed modules alone.
pub record AlikeOutside (mac nac : Mac) (kind : Kind) (s t : State) : Type 0 where
  pub rest : t ≡ record s { mem = t.mem; sections = t.sections; key = t.key; exchange = t.exchange }
  pub mem : AgreeAt (Unhidden (is_deployed kind s.mem) s.sections.live) s.mem t.mem
  pub sections : SameSections mac nac (is_deployed kind s.mem) s.sections.live t.sections.live
  pub next : t.sections.next ≡ s.sections.next

-- a wrap or an unwrap
abbrev pub UsesKey : ℕ → Type 0
UsesKey w = (w ≡ 0x1384) ⊎ (w ≡ 0x1385)

-- the layout that a protect is given
abbrev pub given_layout : List ℕ → Layout
given_layout regs = record {
  pub_from = slice_index regs 10;
  pub_to = slice_index regs 11;
  priv_from = slice_index regs 12;
  priv_to = slice_index regs 13;
}

-- Where the step wraps or unwraps with 16 bytes that its module may read, no tag under them tells
-- the tag functions apart; and where it admits a module that isn't deployed, no tag tells apart the
-- keys that this one gets of the two nodes' keys.
pub record NoGuess (mac nac : Mac) (kind : Kind) (s : State) (key : List ℕ) : Type 0 where
  pub held : UsesKey (word s.mem (pc_of s)) → (own : Section) → section_of s.sections.live (own_of s) ≡ Some own
      → own_key s.regs ≡ false
      → may_range s.sections.live (own_of s) Read (slice_index s.regs 9) 16 ≡ true
      → SameTags mac (bytes_from s.mem (slice_index s.regs 9) 16) nac (bytes_from s.mem (slice_index s.regs 9) 16)
  pub admitted : word s.mem (pc_of s) ≡ 0x1381 → InWords (given_layout s.regs)
      → kind (given_layout s.regs) (slice_index s.regs 9) (text_at s.mem (given_layout s.regs)) ≡ false
      → let at = given_layout s.regs in
      let id = identity (text_at s.mem at) at.pub_from at.pub_to at.priv_from at.priv_to in
      SameTags mac (module_key mac s.key s.boot (slice_index s.regs 9) id) nac (module_key nac key s.boot (slice_index s.regs 9) id)

-- A step of code of no deployed module shows the same on two such nodes, unless it guesses, and
-- leaves two such nodes.
abbrev pub OutsidersSeeTheSame : Type 0
OutsidersSeeTheSame = (mac nac : Mac) (sites : List Site) (n : ℕ) (s t : State) → Placed s.sections
    → ((r : ℕ) → slice_index s.regs r < 65536)
    → (module_of sites n s (own_of s) ≡ None) ⊎ (is_let_run s ≡ false)
    → (module_of sites n s (own_of s) ≡ None → NoGuess mac nac (sites_on sites n) s t.key)
    → AlikeOutside mac nac (sites_on sites n) s t
    → ((step mac s).shown ≡ (step nac t).shown)
    × AlikeOutside mac nac (sites_on sites n) (step mac s).state (step nac t).state

-- A deployed module that is live after a step of both nodes: it was live before and its private
-- bytes are as before, in each node; or all of them are 0.
abbrev pub IsUntouched : Kind → (s t u v : State) → Section → Type 0
IsUntouched kind s t u v x =
    (Lives s.sections.live x × (is_deployed kind s.mem x ≡ true)
    × ((k : ℕ) → in_private x k ≡ true
    → (slice_index u.mem k ≡ slice_index s.mem k) × (slice_index v.mem k ≡ slice_index t.mem k)))
    ⊎ ((k : ℕ) → in_private x k ≡ true → (slice_index u.mem k ≡ 0) × (slice_index v.mem k ≡ 0))

-- A step of code of no deployed module touches no private byte of one.
abbrev pub OutsidersTouchNone : Type 0
OutsidersTouchNone = (mac nac : Mac) (sites : List Site) (n : ℕ) (s t : State) → Placed s.sections
    → Placed t.sections → ((r : ℕ) → slice_index s.regs r < 65536)
    → (module_of sites n s (own_of s) ≡ None) ⊎ (is_let_run s ≡ false)
    → (module_of sites n s (own_of s) ≡ None → NoGuess mac nac (sites_on sites n) s t.key)
    → AlikeOutside mac nac (sites_on sites n) s t
    → (x : Section) → Lives (step mac s).state.sections.live x
    → is_deployed (sites_on sites n) (step mac s).state.mem x ≡ true
    → IsUntouched (sites_on sites n) s t (step mac s).state (step nac t).state x
