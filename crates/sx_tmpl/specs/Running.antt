-- A module in mid-run: what stays, and what holds at every moment.
use Rattle.std.specs.Prelude.{◌≡◌, ℕ, ◌+◌, ◌*◌, ◌<◌, ◌≤◌, ◌⊎◌, true, false, List, [], ◌∷◌, length}
use Rattle.std.specs.Prelude.{slice_index, Bool, min}
use Rattle.sx_bus.specs.declared.devices.Window.{Window}
use Rattle.sx_bus.specs.Devices.{device_at}
use Rattle.sx_rules.specs.declared.access.Access.TheVariants.{Write}
use Rattle.sx_rules.specs.Access.{Sections, may, in_private}
use Rattle.spec_invocation.specs.Setup.{Setup}
use Rattle.spec_machine.specs.declared.kinds.Exchange.{Exchange}
use Rattle.spec_machine.specs.Step.{entered_from, own_of}
use Rattle.spec_machine.specs.State.{State}
use Rattle.spec_invocation.specs.Windows.{is_bad_window, out_window_size}
use Rattle.spec_invocation.specs.Progress.{Invoked, marks_in}
use Rattle.sx_image.specs.Image.{call_at}
use Rattle.spec_machine.specs.declared.kinds.Event.{Event}
use Rattle.spec_machine.specs.declared.kinds.Event.TheVariants as event
use Rattle.spec_invocation.specs.Marks.{HasPrefix, Mark}
use Rattle.spec_invocation.specs.Pieces.{made_bytes}
use Rattle.sx_image.specs.Watched.{Watched}

-- the registers by name, but R3, which nothing changes
pub record Regs : Type 0 where
  pub pc : ℕ
  pub sp : ℕ
  pub sr : ℕ
  pub r4 : ℕ
  pub r5 : ℕ
  pub r6 : ℕ
  pub r7 : ℕ
  pub r8 : ℕ
  pub r9 : ℕ
  pub r10 : ℕ
  pub r11 : ℕ
  pub r12 : ℕ
  pub r13 : ℕ
  pub r14 : ℕ
  pub r15 : ℕ

-- What stays while a module runs: its setup and the next id, the node's key and boot, who entered
-- it, memory and devices as it was entered, the bytes outside it, up to but not including an end,
-- where its pieces go, and SP and R3 at entry.
pub record Fixed : Type 0 where
  pub setup : Setup
  pub next : ℕ
  pub caller : ℕ
  pub boot : ℕ
  pub key : List ℕ
  pub entered : List ℕ
  pub devices : List Window
  pub from : ℕ
  pub to : ℕ
  pub sp : ℕ
  pub r3 : ℕ

-- where pieces end: no further than the marks make, in a window that a caller may give; in a bad
-- one there are none
abbrev pub pieces_end : Bool → ℕ → ℕ → ℕ
pieces_end true out n = out
pieces_end false out n = out + min n out_window_size

-- the run of an invocation that a node enters, which ends so
abbrev pub fixed_at : Setup → State → Invoked → Fixed
fixed_at s n result = record {
  setup = s;
  next = n.sections.next;
  caller = entered_from n s.section.id;
  boot = n.boot;
  key = n.key;
  entered = n.mem;
  devices = n.devices;
  from = (call_at n).output;
  to = pieces_end (is_bad_window s (call_at n).output out_window_size) (call_at n).output
      (made_bytes (marks_in result));
  sp = slice_index n.regs 1;
  r3 = slice_index n.regs 3;
}

-- the table of sections in mid-run
abbrev pub sections_of : Fixed → Sections
sections_of f = record { live = f.setup.live; next = f.next }

-- the sixteen registers as a list
abbrev pub regs16 : Fixed → Regs → List ℕ
regs16 f r = r.pc ∷ r.sp ∷ r.sr ∷ f.r3 ∷ r.r4 ∷ r.r5 ∷ r.r6 ∷ r.r7 ∷ r.r8 ∷ r.r9 ∷ r.r10 ∷ r.r11
    ∷ r.r12 ∷ r.r13 ∷ r.r14 ∷ r.r15 ∷ []

-- what changes beside the registers
pub record Data : Type 0 where
  pub mem : List ℕ
  pub devices : List Window
  pub exchange : Exchange
  pub marks : List Mark

-- the module in mid-run, where the last step showed an event
abbrev pub running_after : Event → Fixed → Regs → Data → Watched
running_after e f r d = record {
  node = record {
    regs = regs16 f r;
    mem = d.mem;
    devices = d.devices;
    sections = (sections_of f);
    cur = f.setup.section.id;
    last = f.setup.section.id;
    caller = f.caller;
    boot = f.boot;
    key = f.key;
    exchange = d.exchange;
  };
  marks = d.marks;
  event = e;
}

-- the module in mid-run, after a plain instruction
abbrev pub running : Fixed → Regs → Data → Watched
running f r d = running_after event.Quiet f r d

-- no byte of the module's private section, and none where its pieces go and that it may write
pub record Elsewhere (f : Fixed) (a : ℕ) : Type 0 where
  pub outside : in_private f.setup.section a ≡ false
  pub beside : (a < f.from) ⊎ (f.to ≤ a) ⊎ (may f.setup.live f.setup.section.id Write a ≡ false)

-- memory in mid-run: nothing has changed outside the private section but where pieces go
pub record OutsideKept (f : Fixed) (m : List ℕ) : Type 0 where
  pub size : length m ≡ 65536
  pub bytes : (a : ℕ) → slice_index m a < 256
  pub elsewhere : (a : ℕ) → Elsewhere f a → slice_index m a ≡ slice_index f.entered a

-- what holds at every moment of a run whose marks are `all`; the first field says that PC is in the
-- public section
pub record Safe (f : Fixed) (all : List Mark) (c : Watched) : Type 0 where
  pub inside : own_of c.node ≡ f.setup.section.id
  pub sections : c.node.sections ≡ sections_of f
  pub memory : OutsideKept f c.node.mem
  pub devices : (a : ℕ) → device_at c.node.devices a ≡ device_at f.devices a
  pub marks : HasPrefix all c.marks

-- the word of two bytes at an address, and memory with it
unfoldable pub cell : List ℕ → ℕ → ℕ
cell m a = slice_index m a + 256 * slice_index m (a + 1)
