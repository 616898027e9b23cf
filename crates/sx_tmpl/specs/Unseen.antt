-- Steps of a module that show no key of its ends. What such a step reads where a key may be is
-- stored where a key may be, or is the key of a wrap or an unwrap. So nodes that differ in these
-- bytes alone do the same, step by step, if wraps and unwraps under these keys do. Nobody has to
-- believe this file for what an image realizes.
use Rattle.std.specs.Prelude.{◌≡◌, ◌⊎◌, ℕ, ◌+◌, ◌*◌, ◌<◌, ◌≤◌, Bool, true, false, List, ◌∷◌, length}
use Rattle.std.specs.Prelude.{get_or, slice_index, not, ◌==◌, None, Ok}
use Rattle.sx_bus.specs.declared.devices.Window.{Window}
use Rattle.sx_bus.specs.Devices.{device_at}
use Rattle.sx_mean.specs.Offsets.{end_at, end_key_at, end_open_at, slot_size}
use Rattle.sx_mean.specs.Working.{plain_at}
use Rattle.sx_rules.specs.Access.{in_private}
use Rattle.sx_image.specs.Image.{private_bytes}
use Rattle.sx_image.specs.Watched.{Watched}
use Rattle.spec_machine.specs.Memory.{bytes_from, even, word}
use Rattle.spec_machine.specs.Plan.{Plan, Done, Tell, Stop, Fetch, Load, Store, Need, Writable, Bytes}
use Rattle.spec_machine.specs.Plan.{Put}
use Rattle.spec_machine.specs.Rows.{program}
use Rattle.spec_machine.specs.Run.{Moment, fetch, load, store}
use Rattle.spec_machine.specs.Step.{is_module_word, pc_of, start}
use Rattle.spec_invocation.specs.Protocol.{key_size}
use Rattle.spec_invocation.specs.Pieces.{tag_size}
use Rattle.spec_invocation.specs.Setup.{Setup}
use Rattle.sx_ir.specs.declared.ir.Ir.{Ir}
use Rattle.sx_ir.specs.declared.ir.Ir.TheVariants as ir

-- None of n bytes from an offset of the private section on may be a key's, where there are this
-- many ends: neither in the copied packet's plain body nor in the key of a slot.
pub record HoldsNoKey (ends o n : ℕ) : Type 0 where
  pub plain : (o + n ≤ plain_at) ⊎ (plain_at + key_size ≤ o)
  pub slots : (k : ℕ) → k < ends → (o + n ≤ end_key_at k) ⊎ (end_key_at k + key_size ≤ o)

-- a word in the key of a slot
pub record InSlotKey (ends o : ℕ) : Type 0 where
  pub slot : ℕ
  pub one : slot < ends
  pub from : end_key_at slot ≤ o
  pub to : o + 2 ≤ end_key_at slot + key_size

-- these bytes of the private section hold no key
abbrev pub AreShown : Setup → ℕ → ℕ → Type 0
AreShown s a n = (o : ℕ) × (a ≡ s.section.layout.priv_from + o) × HoldsNoKey (length s.ends) o n

-- a byte of no private section, or one that holds no key
abbrev pub IsShown : Setup → ℕ → Type 0
IsShown s a = (in_private s.section a ≡ false) ⊎ AreShown s a 1

-- neither byte of a word holds one
abbrev pub IsWordShown : Setup → ℕ → Type 0
IsWordShown s a = IsShown s a × IsShown s (a + 1)

-- what was read at this place is only stored, in a slot's key, where none of these devices is
pub record MovesKey (s : Setup) (devices : List Window) (read : ℕ) (k : ℕ → Plan) : Type 0 where
  pub from : device_at devices read ≡ None
  pub at : ℕ
  pub o : ℕ
  pub regs : List ℕ
  pub is : (v : ℕ) → k v ≡ Store true at v (Done regs)
  pub place : even at ≡ s.section.layout.priv_from + o
  pub free : device_at devices at ≡ None
  pub key : InSlotKey (length s.ends) o

-- a plain instruction's plan, run at this moment, shows no key
abbrev pub PlanShowsNone : Setup → Plan → Moment → Type 0
PlanShowsNone s (Done regs) x = Unit {0}
PlanShowsNone s (Tell regs event exchange) x = ⊥
PlanShowsNone s (Stop v) x = Unit {0}
PlanShowsNone s (Fetch at k) x =
    (w : ℕ) → fetch s.live s.section.id at x ≡ Ok w → PlanShowsNone s (k w) x
PlanShowsNone s (Load true at k) x = MovesKey s x.devices at k ⊎ (IsWordShown s (even at)
    × ((v : ℕ) (y : Moment) → load s.live s.section.id true at x ≡ Ok (v, y)
    → PlanShowsNone s (k v) y))
PlanShowsNone s (Load false at k) x = IsShown s at
    × ((v : ℕ) (y : Moment) → load s.live s.section.id false at x ≡ Ok (v, y)
    → PlanShowsNone s (k v) y)
PlanShowsNone s (Store wide at v k) x =
    (y : Moment) → store s.live s.section.id wide at v x ≡ Ok y → PlanShowsNone s k y
PlanShowsNone s (Need b v k) x = b ≡ true → PlanShowsNone s k x
PlanShowsNone s (Writable at n k) x = ⊥
PlanShowsNone s (Bytes at n k) x = ⊥
PlanShowsNone s (Put at bs k) x = ⊥

-- the k-th end was open, and these bytes were its key, where memory was so
pub record WasOpen (s : Setup) (entered : List ℕ) (k : ℕ) (bytes : List ℕ) : Type 0 where
  pub is_open : not (word (private_bytes s.section.layout entered) (end_open_at k) == 0) ≡ true
  pub key : bytes_from (private_bytes s.section.layout entered) (end_key_at k) key_size
      ≡ bytes

-- A wrap or an unwrap uses the module's own key, or that of an end that was open when the module
-- was entered; its header, its body or cipher and the tag that it compares hold no key. What is
-- unwrapped under the own key may be a key, and goes where one may be; a wrap under it has no body.
pub record SealShowsNone (s : Setup) (entered : List ℕ) (c : Watched) (w : ℕ) (regs : List ℕ) : Type
    0 where
  pub seals : (w ≡ 0x1384) ⊎ (w ≡ 0x1385)
  pub key : (slice_index regs 9 ≡ 0) ⊎ ((k : ℕ) × (k < length s.ends)
      × (slice_index regs 9 ≡ s.section.layout.priv_from + end_key_at k)
      × WasOpen s entered k (bytes_from c.node.mem (slice_index regs 9) key_size))
  pub header : AreShown s (slice_index regs 10) (slice_index regs 11)
  pub text : AreShown s (slice_index regs 12) (slice_index regs 13)
  pub bodiless : w ≡ 0x1384 → slice_index regs 9 ≡ 0 → slice_index regs 13 ≡ 0
  pub tag : w ≡ 0x1385 → AreShown s (slice_index regs 15) tag_size
  pub opened : w ≡ 0x1385 → slice_index regs 9 ≡ 0
      → (slice_index regs 14 ≡ s.section.layout.priv_from + plain_at)
      × (slice_index regs 13 ≤ key_size)

-- the next step, of an instruction with this first word, shows no key
abbrev pub WordShowsNone : Setup → List ℕ → Watched → ℕ → Bool → Type 0
WordShowsNone s entered c w true = SealShowsNone s entered c w c.node.regs
WordShowsNone s entered c w false = PlanShowsNone s (program w c.node.regs) (start c.node)

-- the next step of the node shows no key, where memory was so when the module was entered
abbrev pub StepShowsNone : Setup → List ℕ → Watched → Type 0
StepShowsNone s entered c =
    let w = word c.node.mem (pc_of c.node) in WordShowsNone s entered c w (is_module_word w)

-- where the key of a wrap or an unwrap lies: the module's own at 0, or in a slot
abbrev pub IsKeyPlace : ℕ → ℕ → Type 0
IsKeyPlace ends at = (at ≡ 0) ⊎ ((k : ℕ) × (k < ends) × (at ≡ end_key_at k))

-- An operation, with this stack, names no byte that may be a key's but as the key of a wrap or an
-- unwrap, where there are this many ends.
abbrev pub NamesNoKey : ℕ → Ir → List ℕ → Type 0
NamesNoKey ends (ir.Load o) stack = HoldsNoKey ends o 2
NamesNoKey ends (ir.Store o) stack = HoldsNoKey ends o 2
NamesNoKey ends (ir.LoadAt o n) (i ∷ rest) = i < n → HoldsNoKey ends (o + 2 * i) 2
NamesNoKey ends (ir.StoreAt o n) (v ∷ i ∷ rest) = i < n → HoldsNoKey ends (o + 2 * i) 2
NamesNoKey ends (ir.JumpEqual o n p) stack = HoldsNoKey ends o 2
NamesNoKey ends (ir.Packet k) stack = k < ends
NamesNoKey ends (ir.CopyOut n o) stack = HoldsNoKey ends o n
NamesNoKey ends (ir.Seal k h hn b bn) stack =
    IsKeyPlace ends k × HoldsNoKey ends h hn × HoldsNoKey ends b bn × (k ≡ 0 → bn ≡ 0)
NamesNoKey ends (ir.Open k h hn b bn) stack =
    IsKeyPlace ends k × HoldsNoKey ends h (hn + bn + tag_size)
    × (k ≡ 0 → (b ≡ plain_at) × (bn ≤ key_size))
NamesNoKey ends (ir.SetEnd k) stack = k < ends
NamesNoKey ends i stack = Unit {0}

-- the slots of this many ends are the same in two private sections, but for numbers
abbrev pub SameSlots : ℕ → List ℕ → List ℕ → Type 0
SameSlots ends p q = (k d : ℕ) → k < ends → d < slot_size → (d < 2) ⊎ (4 ≤ d)
    → get_or q (end_at k + d) 0 ≡ get_or p (end_at k + d) 0
