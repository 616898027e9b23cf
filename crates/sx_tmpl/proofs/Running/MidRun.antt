-- What templates rely on of a module in mid-run, and the bytes of its private section.
use Rattle.std.specs.Prelude.{◌≡◌, ℕ, ◌+◌, ◌/◌, ◌%◌, ◌<◌, ◌≤◌, true, false, List, Option, Some, None, slice_set, if◌then◌else◌}
use Rattle.std.proofs.Common.{arith, inl, inr}
use Rattle.sx_image.specs.Reach.{Comes, Here, Next, Ends}
use Rattle.sx_bus.specs.Devices.{device_at}
use Rattle.sx_rules.specs.declared.access.Access.{Access}
use Rattle.sx_rules.specs.declared.access.Violation.{Violation}
use Rattle.sx_rules.specs.declared.access.Violation.TheVariants as bad
use Rattle.sx_rules.specs.Access.{may, in_public, in_private, Lives}
use Rattle.sx_rules.specs.Placed.{Placed}
use Rattle.spec_invocation.specs.Marks.{Mark}
use Rattle.spec_invocation.specs.Setup.{Setup}
use Rattle.sx_image.specs.Watched.{Watched, watch}
use Rattle.sx_tmpl.specs.Running.{Fixed, sections_of, Safe}
use Rattle.sx_tmpl.specs.Unseen.{AreShown, IsWordShown, StepShowsNone}

-- the module runs, its first private word is the only one that a device may have, and its public section has none
pub record Stands (f : Fixed) : Type 0 where
  pub placed : Placed (sections_of f)
  pub lives : Lives f.setup.live f.setup.section
  pub base_even : f.setup.section.layout.priv_from % 2 ≡ 0
  pub room : f.setup.section.layout.priv_from + 512 ≤ f.setup.section.layout.priv_to
  pub from_even : f.setup.section.layout.pub_from % 2 ≡ 0
  pub to_even : f.setup.section.layout.pub_to % 2 ≡ 0
  pub below : f.setup.section.layout.pub_to < 65536
  pub beneath : f.setup.section.layout.priv_to < 65536
  pub public_plain : (a : ℕ) → in_public f.setup.section a ≡ true → device_at f.devices a ≡ None
  pub private_plain : (a : ℕ) → in_private f.setup.section a ≡ true → f.setup.section.layout.priv_from + 2 ≤ a → device_at f.devices a ≡ None
  pub window : f.to ≤ 65536
  pub window_apart : (a : ℕ) → f.from ≤ a → a < f.to → in_private f.setup.section a ≡ false

-- what holds at every moment of a run: nothing was done so far that may not be, and the next step shows no key
abbrev pub Held : Fixed → List Mark → Watched → Type 0
Held f all c = Safe f all c × StepShowsNone f.setup f.entered c

-- the run of a module comes to Q, or ends in a violation with B
abbrev pub Runs : Fixed → List Mark → (Watched → Violation → Type 0) → (Watched → Type 0) → ℕ → Watched → Type 0
Runs f all B Q n c = Comes Watched Violation (watch f.setup.mac) (λ _. 1) (Held f all) B Q n c

-- so it does within a greater count
pub later : (f : Fixed) (all : List Mark) (B : Watched → Violation → Type 0) (Q : Watched → Type 0) (n m : ℕ) (c : Watched) → n ≤ m → Runs f all B Q n c → Runs f all B Q m c
later f all B Q n m c le (Here q) = Here q
later f all B Q n m c le (Next {k = k} p e h r) = Next {k = k} p e (omega arith) r
later f all B Q n m c le (Ends p e h b) = Ends p e (omega arith) b

abbrev pub device_refusal : Option ℕ → Option Violation
device_refusal None = None
device_refusal (Some device) = Some bad.Device

-- what refuses code of the module a byte: the access table, and then a device
abbrev pub refused : Fixed → Access → Violation → ℕ → Option Violation
refused f access v a = if may f.setup.live f.setup.section.id access a then device_refusal (device_at f.devices a) else Some v

-- a byte of the private section beside its first word
pub record PrivateByte (f : Fixed) (a : ℕ) : Type 0 where
  pub low : f.setup.section.layout.priv_from + 2 ≤ a
  pub high : a < f.setup.section.layout.priv_to

-- an even word of it
pub record PrivatePlace (f : Fixed) (a : ℕ) : Type 0 where
  pub low : f.setup.section.layout.priv_from + 2 ≤ a
  pub high : a + 2 ≤ f.setup.section.layout.priv_to
  pub is_even : a % 2 ≡ 0

-- an even word of it that holds no key
pub record PrivateWord (f : Fixed) (a : ℕ) : Type 0 where
  pub low : f.setup.section.layout.priv_from + 2 ≤ a
  pub high : a + 2 ≤ f.setup.section.layout.priv_to
  pub is_even : a % 2 ≡ 0
  pub shown : AreShown f.setup a 2

pub place_of : {f : Fixed} {a : ℕ} → PrivateWord f a → PrivatePlace f a
place_of p = record { low = p.low; high = p.high; is_even = p.is_even }

-- neither byte of a word that holds no key holds one
pub word_shown : (s : Setup) (a : ℕ) → AreShown s a 2 → IsWordShown s a
word_shown s a h = (
  inr (
    h.0,
    h.1,
    record {
      plain = elim (h.2.plain) [ inl p ↦ inl (omega arith) | inr p ↦ inr p ];
      slots = λ k lt. elim (h.2.slots k lt) [ inl p ↦ inl (omega arith) | inr p ↦ inr p ];
    },
  ),
  inr (
    h.0 + 1,
    omega (arith, h.1),
    record {
      plain = elim (h.2.plain) [ inl p ↦ inl (omega arith) | inr p ↦ inr (omega arith) ];
      slots = λ k lt. elim (h.2.slots k lt) [ inl p ↦ inl (omega arith) | inr p ↦ inr (omega arith) ];
    },
  ),
)

-- an even word of the public section
pub record PublicWord (f : Fixed) (a : ℕ) : Type 0 where
  pub low : f.setup.section.layout.pub_from ≤ a
  pub high : a + 2 ≤ f.setup.section.layout.pub_to
  pub is_even : a % 2 ≡ 0

-- this many bytes of the private section
pub record PrivateRange (f : Fixed) (a n : ℕ) : Type 0 where
  pub low : f.setup.section.layout.priv_from + 2 ≤ a
  pub high : a + n ≤ f.setup.section.layout.priv_to

unfoldable pub put_cell : List ℕ → ℕ → ℕ → List ℕ
put_cell m a v = slice_set (slice_set m a (v % 256)) (a + 1) (v / 256)
