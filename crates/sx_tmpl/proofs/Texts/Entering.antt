-- A node that a call enters, and how it stands for the first configuration.
use Rattle.std.proofs.Common.{◌≡◌, ℕ, zero, suc, ◌+◌, ◌-◌, ◌%◌, ◌<◌, ◌≤◌, ◌⊎◌, inl, inr, Bool, true, false, ◌&&◌, ◌||◌, cond, List, [], ◌∷◌, ◌++◌, length}
use Rattle.std.proofs.Common.{Option, Some, None, refl, sym, ap, ◌∙◌, subst, arith}
use Rattle.std.specs.Prelude.{slice_index, nat_lt, nat_le}
use Rattle.std.specs.List.{position_from}
use Rattle.std.proofs.Math.Nat.{min-le_left, min-le_right}
use Rattle.std.proofs.lemmas.Bool.{true≢false, lt-ltb, le-leb, leb-true, ltb-true, cases_lt, cases_Bool, and_from, and_parts, or_cases, or_left}
use Rattle.std.proofs.lemmas.List.{get_or_append_left}
use Rattle.std.proofs.Math.Seq.{get_or-append_seam}
use Rattle.sx_lang.specs.declared.tree.DeviceKind.{DeviceKind}
use Rattle.sx_lang.specs.declared.tree.DeviceKind.TheVariants.{Sensor, Actuator}
use Rattle.sx_rules.specs.declared.access.Access.TheVariants.{Write}
use Rattle.sx_rules.specs.declared.access.Violation.{Violation}
use Rattle.sx_rules.specs.declared.section.Layout.{Layout}
use Rattle.sx_rules.specs.declared.section.Section.{Section}
use Rattle.sx_rules.specs.Access.{may, in_private, Lives, holder}
use Rattle.sx_rules.specs.Admission.{apart, no_device}
use Rattle.sx_rules.specs.Placed.{Placed}
use Rattle.sx_bus.specs.declared.devices.Window.{Window}
use Rattle.sx_bus.specs.Devices.{device_at, on_word, places_of}
use Rattle.sx_mean.specs.Application.{declared_kind}
use Rattle.spec_machine.specs.declared.kinds.Event.TheVariants as event
use Rattle.spec_machine.specs.Node.{IsNode}
use Rattle.spec_machine.specs.State.{State}
use Rattle.spec_machine.specs.Step.{pc_of, own_of, entered_from}
use Rattle.spec_machine.specs.Memory.{bytes_from}
use Rattle.spec_machine.specs.Ranges.{meets, passes_end}
use Rattle.sx_image.proofs.Reaching.{weaken}
use Rattle.spec_invocation.specs.Setup.{Setup}
use Rattle.spec_invocation.specs.Devices.{HasDevices}
use Rattle.spec_invocation.specs.Marks.{Mark}
use Rattle.spec_invocation.specs.Pieces.{made_bytes}
use Rattle.spec_invocation.specs.Progress.{Invoked, bytes_in, marks_in, pieces_in}
use Rattle.spec_invocation.specs.Windows.{is_bad_window}
use Rattle.sx_image.specs.Watched.{Watched, watch}
use Rattle.sx_image.specs.Image.{call_at, private_bytes}
use Rattle.sx_image.specs.Realizes.{Underway, begins, is_piece_address}
use Rattle.sx_tmpl.specs.Performs.{entry_conf, HasRoom}
use Rattle.sx_tmpl.specs.Performs as upper
use Rattle.sx_tmpl.specs.Running.{Regs, Fixed, Data, fixed_at, pieces_end, sections_of, regs16, Safe}
use Rattle.sx_tmpl.proofs.Running.MidRun.{Held, Stands, Runs}
use Rattle.sx_tmpl.specs.Unseen.{StepShowsNone}
use Rattle.sx_tmpl.specs.Shows.{base_of, Stood}
use Rattle.sx_tmpl.specs.Template.{entry_words}
use Rattle.sx_tmpl.proofs.Running.Steps.{Text}
use Rattle.sx_tmpl.proofs.Running.Owned.{run_holder, public_bounds, private_bounds}
use Rattle.sx_tmpl.proofs.Operations.Entry.{entering, entry_run}
use Rattle.spec_machine.proofs.Lengths.{length-bytes_from}

-- Lists by their places.

abbrev pub gets : List ℕ → ℕ → ℕ → List ℕ
gets l k zero = []
gets l k (suc n) = slice_index l k ∷ gets l (suc k) n

gets_past : (x : ℕ) (l : List ℕ) (k n : ℕ) → gets (x ∷ l) (suc k) n ≡ gets l k n
gets_past x l k zero = refl
gets_past x l k (suc n) = ap (λ (r : List ℕ). slice_index l k ∷ r) (gets_past x l (suc k) n)

pub from_gets : (l : List ℕ) → l ≡ gets l 0 (length l)
from_gets [] = refl
from_gets (x ∷ l) = ap (λ (r : List ℕ). x ∷ r) (from_gets l ∙ sym (gets_past x l 0 (length l)))

pub bytes_from_get : (m : List ℕ) (a n i : ℕ) → i < n → slice_index (bytes_from m a n) i ≡ slice_index m (a + i)
unfolding bytes_from
bytes_from_get m a zero i lt = absurd (omega (arith, lt))
bytes_from_get m a (suc n) i lt =
    let len = length-bytes_from m a n in
    elim (cases_lt i n) [
      | inl p ↦ get_or_append_left (bytes_from m a n) (slice_index m (a + n) ∷ []) 0 i (omega (arith, len, p)) ∙ bytes_from_get m a n i p
      | inr p ↦
          let e : i ≡ length (bytes_from m a n) = omega (arith, lt, p, len) in
          ap (λ (x : ℕ). slice_index (bytes_from m a n ++ slice_index m (a + n) ∷ []) x) e ∙ get_or-append_seam (bytes_from m a n) (slice_index m (a + n)) [] 0
          ∙ ap (slice_index m) (omega (arith, lt, p))
    ]

-- No device's word lies in a public section.

off_word : (l : Layout) (at : ℕ) (w : Window) → apart l.pub_from l.pub_to w.at (w.at + 2) ≡ true → l.pub_from ≤ at → at < l.pub_to → on_word at w ≡ false
off_word l at w h lo hi = elim (cases_Bool (on_word at w)) [
  | inr f ↦ f
  | inl t ↦
      let p = and_parts (nat_le w.at at) (nat_lt at (w.at + 2)) t in
      let x = leb-true w.at at p.0 in
      let y = ltb-true at (w.at + 2) p.1 in
      elim (or_cases (nat_le l.pub_to w.at) (nat_le (w.at + 2) l.pub_from) h) [
        | inl a ↦ let z = leb-true l.pub_to w.at a in absurd (omega (arith, x, hi, z))
        | inr b ↦ let z = leb-true (w.at + 2) l.pub_from b in absurd (omega (arith, y, lo, z))
      ]
]

pub free_of_devices : (l : Layout) (at i : ℕ) (ws : List Window) → no_device (places_of ws) l ≡ true → l.pub_from ≤ at → at < l.pub_to → position_from (on_word at) i ws ≡ None
free_of_devices l at i [] h lo hi = refl
free_of_devices l at i (w ∷ ws) h lo hi =
    let p = and_parts (apart l.pub_from l.pub_to w.at (w.at + 2)) (no_device (places_of ws) l) h in
    ap (λ b. cond b (Some i) (position_from (on_word at) (i + 1) ws)) (off_word l at w p.0 lo hi) ∙ free_of_devices l at (i + 1) ws p.1 lo hi

-- The caller's out-window.

pub outside_window : (s : Setup) (a k : ℕ) → is_bad_window s a 384 ≡ false → a ≤ k → k < a + 384 → in_private s.section k ≡ false
outside_window s a k good lo hi =
    go (nat_le s.section.layout.priv_from k) (nat_lt k s.section.layout.priv_to) refl refl
  where
    go : (x y : Bool) → nat_le s.section.layout.priv_from k ≡ x → nat_lt k s.section.layout.priv_to ≡ y → (x && y) ≡ false
    go false y e f = refl
    go true false e f = refl
    go true true e f =
        let p = leb-true s.section.layout.priv_from k e in
        let q = ltb-true k s.section.layout.priv_to f in
        let m : meets a 384 s.section.layout.priv_from s.section.layout.priv_to ≡ true = ap (λ (b : Bool). b && nat_lt s.section.layout.priv_from (a + 384))
        (lt-ltb a s.section.layout.priv_to (omega (arith, lo, q))) ∙ lt-ltb s.section.layout.priv_from (a + 384) (omega (arith, p, hi)) in
        absurd (true≢false (sym (ap (λ (b : Bool). passes_end a 384 || b) m ∙ or_true (passes_end a 384)) ∙ good))
      where
        or_true : (b : Bool) → (b || true) ≡ true
        or_true true = refl
        or_true false = refl

pub window_short : (s : Setup) (a : ℕ) → is_bad_window s a 384 ≡ false → a + 384 ≤ 65536
window_short s a good = elim (cases_lt 65536 (a + 384)) [
  | inl lt ↦ absurd (true≢false (sym (or_left (passes_end a 384) _ (lt-ltb 65536 (a + 384) lt)) ∙ good))
  | inr ge ↦ ge
]

-- The registers, and what else changes, as the call begins.

abbrev pub regs_at : State → Regs
regs_at n = record {
  pc = slice_index n.regs 0;
  sp = slice_index n.regs 1;
  sr = slice_index n.regs 2;
  r4 = slice_index n.regs 4;
  r5 = slice_index n.regs 5;
  r6 = slice_index n.regs 6;
  r7 = slice_index n.regs 7;
  r8 = slice_index n.regs 8;
  r9 = slice_index n.regs 9;
  r10 = slice_index n.regs 10;
  r11 = slice_index n.regs 11;
  r12 = slice_index n.regs 12;
  r13 = slice_index n.regs 13;
  r14 = slice_index n.regs 14;
  r15 = slice_index n.regs 15;
}

abbrev pub data_at : State → Data
data_at n = record { mem = n.mem; devices = n.devices; exchange = n.exchange; marks = [] }

-- no other word of a private section is a device's
pub private_free : (section : Section) (devices : List Window) (k : Option DeviceKind) → HasDevices devices k section.layout → (a : ℕ) → in_private section a ≡ true
    → section.layout.priv_from + 2 ≤ a → device_at devices a ≡ None
private_free section devices None h a i le = let b = private_bounds section a i in h a b.0 b.1
private_free section devices (Some Sensor) h a i le = let b = private_bounds section a i in h.alone a le b.1
private_free section devices (Some Actuator) h a i le = let b = private_bounds section a i in h.alone a le b.1

-- a node that enters the module, whose layout has room for what code needs
pub record Ready (s : Setup) (n : State) : Type 0 where
  pub node : IsNode n
  pub live : s.live ≡ n.sections.live
  pub idle : n.cur ≡ 0
  pub entry : pc_of n ≡ s.section.layout.pub_from
  pub lives : Lives n.sections.live s.section
  pub devices : HasDevices n.devices (declared_kind s.tree.decls) s.section.layout
  pub room : HasRoom s.section.layout
  pub begins : s.section.layout.pub_from < s.section.layout.pub_to

module _ (s : Setup) (n : State) (result : Invoked) (e : Ready s n) where
  abbrev f : Fixed
  f = fixed_at s n result

  abbrev l : Layout
  l = s.section.layout

  abbrev all : List Mark
  all = marks_in result

  abbrev out : ℕ
  out = (call_at n).output

  pub stands : Stands f
  stands = record {
    placed = subst (λ l. Placed (record { live = l; next = n.sections.next })) (sym e.live) e.node.placed;
    lives = subst (λ l. Lives l s.section) (sym e.live) e.lives;
    base_even = e.room.private_even;
    room = e.room.private_size;
    from_even = e.room.public_even;
    to_even = e.room.public_end;
    below = e.room.public_below;
    beneath = e.room.private_below;
    public_plain = λ a i. let b = public_bounds s.section a i in free_of_devices l a 0 n.devices (e.node.apart s.section e.lives) b.0 b.1;
    private_plain = λ a i le. private_free s.section n.devices (declared_kind s.tree.decls) e.devices a i le;
    window = fits (is_bad_window s out 384) refl;
    window_apart = λ a lo hi. apart_ (is_bad_window s out 384) refl a lo hi;
  }
    where
      fits : (b : Bool) → is_bad_window s out 384 ≡ b → pieces_end b out (made_bytes all) ≤ 65536
      fits true h = let w = e.node.registers.words 14 in omega (arith, w)
      fits false h = let w = window_short s out h in let m = min-le_right (made_bytes all) 384 in omega (arith, w, m)

      apart_ : (b : Bool) → is_bad_window s out 384 ≡ b → (a : ℕ) → out ≤ a → a < pieces_end b out (made_bytes all) → in_private s.section a ≡ false
      apart_ true h a lo hi = absurd (omega (arith, lo, hi))
      apart_ false h a lo hi = let m = min-le_right (made_bytes all) 384 in outside_window s out a h lo (omega (arith, hi, m))

  pub sp_even : f.sp % 2 ≡ 0
  sp_even = let k : slice_index n.regs 1 - slice_index n.regs 1 % 2 ≡ slice_index n.regs 1 = e.node.registers.kept 1 in omega (arith, k)

  pub sections_same : sections_of f ≡ n.sections
  sections_same = ap (λ l. record { live = l; next = n.sections.next }) e.live

  regs_same : n.regs ≡ regs16 f (regs_at n)
  regs_same = from_gets n.regs ∙ ap (gets n.regs 0) e.node.registers.sixteen

  -- the node is one that enters
  begins_is : begins n ≡ entering f (regs_at n) (data_at n) n.last n.caller event.Quiet
  begins_is =
      ap (λ (l : List ℕ). record { node = record n { regs = l }; marks = []; event = event.Quiet }) regs_same
      ∙ ap (λ (c : ℕ). record { node = record n { regs = regs16 f (regs_at n); cur = c }; marks = []; event = event.Quiet }) e.idle
      ∙ ap (λ z. record { node = record n { regs = regs16 f (regs_at n); cur = 0; sections = z }; marks = []; event = event.Quiet }) (sym sections_same)

  -- a moment of the templates' runs is one of the invocation's
  underway : bytes_in (pieces_in result) ≡ made_bytes all → (w : Watched) → Safe f all w → Underway s result n w
  underway sizes w h = record {
    inside = h.inside;
    sections = h.sections ∙ sections_same;
    outside = λ at off not_. h.memory.elsewhere at (record { outside = off; beside = beside (is_bad_window s out 384) at not_ });
    marks = h.marks;
  }
    where
      beside : (b : Bool) (at : ℕ) → is_piece_address s out (pieces_in result) at ≡ false → (at < out) ⊎ (pieces_end b out (made_bytes all) ≤ at) ⊎ (may s.live s.section.id Write at ≡ false)
      beside b at not_ = elim (cases_lt at out) [
        | inl lt ↦ inl lt
        | inr ge ↦ elim (cases_lt at (out + bytes_in (pieces_in result))) [
          | inl lt2 ↦ elim (cases_Bool (may s.live s.section.id Write at)) [
            | inl t ↦ absurd (true≢false (sym (and_from _ _ (le-leb out at ge) (and_from _ _ (lt-ltb at (out + bytes_in (pieces_in result)) lt2) t)) ∙ not_))
            | inr t ↦ inr (inr t)
          ]
          | inr ge2 ↦ inr (inl (past b ge ge2))
        ]
      ]
        where
          past : (b : Bool) → out ≤ at → out + bytes_in (pieces_in result) ≤ at → pieces_end b out (made_bytes all) ≤ at
          past true p q = p
          past false p q = let m = min-le_left (made_bytes all) 384 in omega (arith, q, sizes, m)

  pub weak : bytes_in (pieces_in result) ≡ made_bytes all → (B C : Watched → Violation → Type 0) (Q R : Watched → Type 0) (k : ℕ) (w : Watched) → ((w : Watched) (v : Violation) → B w v → C w v)
      → ((w : Watched) → Q w → R w) → Runs f all B Q k w → upper.NodeRuns s result n C R k w
  weak sizes B C Q R k w b q run = weaken Watched Violation (watch s.mac) (λ _. 1) (Held f all) (λ w. Underway s result n w × StepShowsNone s n.mem w) B C Q R k k w (omega arith) (λ w h. (underway sizes w h.0, h.1)) b q run

  bytes_at : (o : ℕ) → o < length (private_bytes l n.mem) → slice_index n.mem (l.priv_from + o) ≡ slice_index (private_bytes l n.mem) o
  bytes_at o lt =
      let z = length-bytes_from n.mem l.priv_from (l.priv_to - l.priv_from) in
      sym (bytes_from_get n.mem l.priv_from (l.priv_to - l.priv_from) o (omega (arith, lt, z)))

  -- the entry
  pub enters : bytes_in (pieces_in result) ≡ made_bytes all → (at : ℕ → ℕ) → Text f l.pub_from 12 (entry_words (base_of f)) → at 0 ≡ l.pub_from + 24
      → upper.NodeRuns s result n upper.Never (Stood f all at (entry_conf l n)) 6 (begins n)
  enters sizes at text first =
      let own : own_of n ≡ s.section.id = ap (λ l. holder l (pc_of n)) (sym e.live) ∙ run_holder f stands (pc_of n) (let z = e.entry in omega (arith, z)) (let z = e.entry in let y = e.begins in
      omega (arith, z, y)) in
      let safe : Safe f all (entering f (regs_at n) (data_at n) n.last n.caller event.Quiet) = record {
        inside = ap (λ l. holder l (pc_of n)) e.live ∙ own;
        sections = refl;
        memory = record { size = e.node.memory.size; bytes = e.node.memory.bytes; elsewhere = λ a x. refl };
        devices = λ a. refl;
        marks = (all, refl);
      } in
      let len = length-bytes_from n.mem l.priv_from (l.priv_to - l.priv_from) in
      subst (λ w. upper.NodeRuns s result n upper.Never (Stood f all at (entry_conf l n)) 6 w) (sym begins_is)
      (weak sizes upper.Never upper.Never (Stood f all at (entry_conf l n)) (Stood f all at (entry_conf l n)) 6 _ (λ w v x. x) (λ w x. x)
      (entry_run f stands all upper.Never at text (regs_at n) (data_at n) n.last n.caller event.Quiet (private_bytes l n.mem) n.mem e.entry safe caller_same
      (record { sp = refl; sp_word = e.node.registers.words 1; r12 = e.node.registers.words 12; r13 = e.node.registers.words 13; r14 = e.node.registers.words 14; r15 = e.node.registers.words 15 })
      (record { size = (let z = e.room.private_size in omega (arith, len, z)); whole = e.node.memory.size; bytes = λ o i lt. bytes_at o lt; others = λ a x. refl }) first))
    where
      caller_same : entered_from (entering f (regs_at n) (data_at n) n.last n.caller event.Quiet).node s.section.id ≡ entered_from n s.section.id
      caller_same = ap (λ (w : Watched). entered_from w.node s.section.id) (sym begins_is)
