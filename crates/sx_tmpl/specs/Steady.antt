-- What it means that a step is steady: two nodes that differ in keys, and in bytes that may hold
-- one, take the same step. Nobody has to believe this file for what an image realizes.
use Rattle.std.specs.Prelude.{◌≡◌, ◌⊎◌, ℕ, ◌+◌, ◌<◌, List, [], ◌∷◌, length, map}
use Rattle.std.specs.Prelude.{if◌then◌else◌, slice_index, true, Option, Some, None}
use Rattle.sx_rules.specs.declared.access.Access.TheVariants.{Read}
use Rattle.sx_rules.specs.declared.access.Violation.{Violation}
use Rattle.sx_rules.specs.declared.section.Section.{Section}
use Rattle.sx_rules.specs.Access.{extends, may, outside_private, section_of}
use Rattle.sx_tag.specs.Mac.{Mac}
use Rattle.sx_tag.specs.Wrap.{wrapped, unwrapped}
use Rattle.spec_machine.specs.Memory.{bytes_from, word}
use Rattle.spec_machine.specs.ModuleRows.{own_key}
use Rattle.spec_machine.specs.State.{State}
use Rattle.spec_machine.specs.Step.{own_of, pc_of}
use Rattle.sx_image.specs.Reach.{Stepped, Goes, Stops}
use Rattle.spec_invocation.specs.Marks.{Mark}
use Rattle.spec_invocation.specs.Marks as mark
use Rattle.sx_mean.specs.Working.{plain_at}
use Rattle.spec_invocation.specs.Pieces.{tag_size}
use Rattle.spec_invocation.specs.Protocol.{key_size}
use Rattle.spec_invocation.specs.Setup.{Setup}
use Rattle.sx_image.specs.Watched.{Watched, watch}
use Rattle.sx_tmpl.specs.Unseen.{InSlotKey, IsShown, StepShowsNone}

-- memories agree at these places
pub record AgreeAt (places : ℕ → Type 0) (m n : List ℕ) : Type 0 where
  pub size : length m ≡ length n
  pub same : (k : ℕ) → places k → slice_index m k ≡ slice_index n k

-- These places hold whatever the module may read that holds no key, its text too, and no byte of
-- the key in a slot or of the copied packet's plain body.
pub record AreOpen (s : Setup) (places : ℕ → Type 0) : Type 0 where
  pub read : (a : ℕ) → may s.live s.section.id Read a ≡ true → IsShown s a → places a
  pub fetched : (a : ℕ) → extends s.live s.section.id a ≡ true → places a
  pub outside : (a : ℕ) → outside_private s.live a ≡ true → places a
  pub key : (o : ℕ) → InSlotKey (length s.ends) o → places (s.section.layout.priv_from + o) → ⊥
  pub key_high : (o : ℕ) → InSlotKey (length s.ends) o
      → places (s.section.layout.priv_from + o + 1) → ⊥
  pub plain : (o : ℕ) → o < key_size → places (s.section.layout.priv_from + plain_at + o) → ⊥

-- a section without its key
abbrev pub keyless : Section → Section
keyless x = record x { key = [] }

-- The nodes differ in keys, in bytes elsewhere than at these places, and in what was last wrapped
-- or unwrapped, alone.
pub record Twins (places : ℕ → Type 0) (n m : State) : Type 0 where
  pub rest : m
      ≡ record n { mem = m.mem; sections = m.sections; key = m.key; exchange = m.exchange }
  pub mem : AgreeAt places n.mem m.mem
  pub live : map keyless m.sections.live ≡ map keyless n.sections.live
  pub next : m.sections.next ≡ n.sections.next

-- the key that a wrap or an unwrap of this module's code uses
abbrev pub key_used : Section → State → List ℕ
key_used own n =
    if own_key n.regs then own.key else bytes_from n.mem (slice_index n.regs 9) key_size

-- what was unwrapped in both nodes: the same bytes, or under the module's own key others, as many
abbrev pub SameOpened : List ℕ → Option (List ℕ) → Option (List ℕ) → Type 0
SameOpened regs None None = Unit {0}
SameOpened regs (Some xs) (Some ys) =
    (ys ≡ xs) ⊎ ((own_key regs ≡ true) × (length ys ≡ length xs))
SameOpened regs None (Some ys) = ⊥
SameOpened regs (Some xs) None = ⊥

-- If the next step is a wrap or an unwrap, it gives the same in both nodes.
pub record SealsAlike (s : Setup) (nac : Mac) (other : Section) (n m : State) : Type 0 where
  pub wraps : word n.mem (pc_of n) ≡ 0x1384
      → (let header = bytes_from n.mem (slice_index n.regs 10) (slice_index n.regs 11) in
      let body = bytes_from n.mem (slice_index n.regs 12) (slice_index n.regs 13) in
      wrapped nac (key_used other m) header body ≡ wrapped s.mac (key_used s.section n) header body)
  pub opens : word n.mem (pc_of n) ≡ 0x1385
      → (let header = bytes_from n.mem (slice_index n.regs 10) (slice_index n.regs 11) in
      let cipher = bytes_from n.mem (slice_index n.regs 12) (slice_index n.regs 13) in
      let tag = bytes_from n.mem (slice_index n.regs 15) tag_size in
      SameOpened n.regs
      (unwrapped s.mac (key_used s.section n) header cipher tag)
      (unwrapped nac (key_used other m) header cipher tag))

-- the marks are the same, but for what was unwrapped under the module's own key
abbrev pub SameMark : Mark → Mark → Type 0
SameMark (mark.Unwrapped ad body true) n = (plain : List ℕ) × (n ≡ mark.Unwrapped ad plain true)
SameMark m n = n ≡ m

abbrev pub SameMarks : List Mark → List Mark → Type 0
SameMarks [] [] = Unit {0}
SameMarks [] (n ∷ ns) = ⊥
SameMarks (m ∷ ms) [] = ⊥
SameMarks (m ∷ ms) (n ∷ ns) = SameMark m n × SameMarks ms ns

-- two watched nodes that go side by side
pub record Abreast (places : ℕ → Type 0) (w v : Watched) : Type 0 where
  pub nodes : Twins places w.node v.node
  pub event : v.event ≡ w.event
  pub marks : SameMarks w.marks v.marks

-- both go on so, or both end in the same violation
abbrev pub StepAbreast : (ℕ → Type 0) → Stepped Watched Violation → Stepped Watched Violation
    → Type 0
StepAbreast places (Goes w) (Goes v) = Abreast places w v
StepAbreast places (Stops x) (Stops y) = y ≡ x
StepAbreast places (Goes w) (Stops y) = ⊥
StepAbreast places (Stops x) (Goes v) = ⊥

-- A step of the module's code that shows no key is the same in both nodes: it shows the same, and
-- it leaves nodes that go side by side.
abbrev pub StepsSteady : Setup → (ℕ → Type 0) → Type 0
StepsSteady s places = (nac : Mac) (other : Section) (entered : List ℕ) (w v : Watched)
    → AreOpen s places → w.node.sections.live ≡ s.live → own_of w.node ≡ s.section.id
    → section_of w.node.sections.live s.section.id ≡ Some s.section
    → section_of v.node.sections.live s.section.id ≡ Some other
    → StepShowsNone s entered w → Abreast places w v
    → SealsAlike s nac other w.node v.node
    → StepAbreast places (watch s.mac w) (watch nac v)
