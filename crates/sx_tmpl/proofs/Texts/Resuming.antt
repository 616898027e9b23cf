-- A node in mid-run that no call entered just now, and how it stands for a configuration.
use Rattle.std.proofs.Common.{◌≡◌, ℕ, ◌+◌, ◌-◌, ◌<◌, ◌≤◌, ◌⊎◌, inl, inr, Bool, false, List, [], None, refl, sym, ap, ◌∙◌, subst, arith}
use Rattle.std.specs.Prelude.{slice_index, min}
use Rattle.std.proofs.Math.Nat.{min-le_left, min-le_right}
use Rattle.std.proofs.lemmas.Bool.{true≢false, lt-ltb, le-leb, cases_lt, cases_Bool, and_from}
use Rattle.sx_rules.specs.declared.access.Access.TheVariants.{Write}
use Rattle.sx_rules.specs.declared.section.Layout.{Layout}
use Rattle.sx_rules.specs.Access.{may, Lives, holder}
use Rattle.sx_rules.specs.Placed.{Placed}
use Rattle.sx_mean.specs.Application.{declared_kind}
use Rattle.spec_machine.specs.declared.kinds.Event.TheVariants as event
use Rattle.spec_machine.specs.Node.{IsNode}
use Rattle.spec_machine.specs.State.{State}
use Rattle.spec_machine.specs.Step.{pc_of, own_of}
use Rattle.spec_invocation.specs.Setup.{Setup}
use Rattle.spec_invocation.specs.Devices.{HasDevices}
use Rattle.spec_invocation.specs.Marks.{Mark}
use Rattle.spec_invocation.specs.Pieces.{made_bytes}
use Rattle.spec_invocation.specs.Progress.{bytes_in}
use Rattle.spec_invocation.specs.Windows.{is_bad_window}
use Rattle.sx_image.specs.Watched.{Watched}
use Rattle.sx_image.specs.Image.{private_bytes}
use Rattle.sx_image.specs.Realizes.{begins, KeepsOutside}
use Rattle.sx_tmpl.specs.Performs.{HasRoom}
use Rattle.sx_tmpl.specs.Running.{Fixed, pieces_end, sections_of, regs16, Safe, cell, running}
use Rattle.sx_tmpl.proofs.Running.MidRun.{Stands}
use Rattle.sx_tmpl.specs.Shows.{Stood}
use Rattle.sx_tmpl.proofs.Running.Owned.{run_holder, public_bounds}
use Rattle.sx_mean.specs.Working.{stack_to}
use Rattle.sx_ir.specs.Conf.{Conf}
use Rattle.sx_tmpl.proofs.Texts.Entering.{bytes_from_get, free_of_devices, from_gets, gets, outside_window, private_free, regs_at, data_at, window_short}
use Rattle.spec_machine.proofs.Lengths.{length-bytes_from}

-- the run from this node on, whose pieces go to this out-window and whose marks are these
abbrev pub fixed_from : Setup → State → ℕ → List Mark → Fixed
fixed_from s n out all = record {
  setup = s;
  next = n.sections.next;
  caller = n.caller;
  boot = n.boot;
  key = n.key;
  entered = n.mem;
  devices = n.devices;
  from = out;
  to = pieces_end (is_bad_window s out 384) out (made_bytes all);
  sp = cell n.mem (s.section.layout.priv_from + 148);
  r3 = slice_index n.regs 3;
}

-- the configuration of a node whose stack is empty, at this place and outside every part
abbrev pub conf_at : Layout → State → ℕ → Conf
conf_at l n place = record { place = place; stack = []; priv = private_bytes l n.mem; mem = n.mem; devices = n.devices; marks = []; back = None }

-- the module runs, and its stack is empty
pub record Resumes (s : Setup) (n : State) (out : ℕ) : Type 0 where
  pub node : IsNode n
  pub live : s.live ≡ n.sections.live
  pub lives : Lives n.sections.live s.section
  pub current : n.cur ≡ s.section.id
  pub last : n.last ≡ s.section.id
  pub stack : slice_index n.regs 1 ≡ s.section.layout.priv_from + stack_to
  pub window : is_bad_window s out 384 ≡ false
  pub devices : HasDevices n.devices (declared_kind s.tree.decls) s.section.layout
  pub room : HasRoom s.section.layout

module _ (s : Setup) (n : State) (out : ℕ) (all : List Mark) (e : Resumes s n out) where
  abbrev f : Fixed
  f = fixed_from s n out all

  abbrev l : Layout
  l = s.section.layout

  -- the bytes of pieces, no more than the window has
  to_is : f.to ≡ out + min (made_bytes all) 384
  to_is = ap (λ (b : Bool). pieces_end b out (made_bytes all)) e.window

  pub stands : Stands f
  stands = record {
    placed = subst (λ l. Placed (record { live = l; next = n.sections.next })) (sym e.live) e.node.placed;
    lives = subst (λ l. Lives l s.section) (sym e.live) e.lives;
    base_even = e.room.private_even;
    room = e.room.private_size;
    from_even = e.room.public_even;
    to_even = e.room.public_end;
    below = e.room.public_below;
    beneath = e.room.private_below;
    public_plain = λ a i. let b = public_bounds s.section a i in free_of_devices l a 0 n.devices (e.node.apart s.section e.lives) b.0 b.1;
    private_plain = λ a i le. private_free s.section n.devices (declared_kind s.tree.decls) e.devices a i le;
    window = (let w = window_short s out e.window in let m = min-le_right (made_bytes all) 384 in let t = to_is in omega (arith, w, m, t));
    window_apart = λ a lo hi. let m = min-le_right (made_bytes all) 384 in let t = to_is in outside_window s out a e.window lo (omega (arith, hi, m, t));
  }

  pub sections_same : sections_of f ≡ n.sections
  sections_same = ap (λ l. record { live = l; next = n.sections.next }) e.live

  regs_same : n.regs ≡ regs16 f (regs_at n)
  regs_same = from_gets n.regs ∙ ap (gets n.regs 0) e.node.registers.sixteen

  -- the node runs so
  begins_is : begins n ≡ running f (regs_at n) (data_at n)
  begins_is =
      ap (λ (l : List ℕ). record { node = record n { regs = l }; marks = []; event = event.Quiet }) regs_same
      ∙ ap (λ (c : ℕ). record { node = record n { regs = regs16 f (regs_at n); cur = c }; marks = []; event = event.Quiet }) e.current
      ∙ ap (λ (c : ℕ). record { node = record n { regs = regs16 f (regs_at n); cur = s.section.id; last = c }; marks = []; event = event.Quiet }) e.last
      ∙ ap (λ z. record { node = record n { regs = regs16 f (regs_at n); cur = s.section.id; last = s.section.id; sections = z }; marks = []; event = event.Quiet }) (sym sections_same)

  -- where PC is at a place of the code, the node stands for it
  pub begins_at : (at : ℕ → ℕ) (place : ℕ) → pc_of n ≡ at place → l.pub_from ≤ at place → at place < l.pub_to → Stood f all at (conf_at l n place) (begins n)
  begins_at at place pc from to =
      let own : own_of n ≡ s.section.id = ap (λ l. holder l (pc_of n)) (sym e.live) ∙ run_holder f stands (pc_of n) (omega (arith, pc, from)) (omega (arith, pc, to)) in
      let safe : Safe f all (begins n) = record {
        inside = own;
        sections = sym sections_same;
        memory = record { size = e.node.memory.size; bytes = e.node.memory.bytes; elsewhere = λ a x. refl };
        devices = λ a. refl;
        marks = (all, refl);
      } in
      let len = length-bytes_from n.mem l.priv_from (l.priv_to - l.priv_from) in
      let big = e.room.private_size in
      let stack = e.stack in
      record {
        regs = regs_at n;
        rest = data_at n;
        state = begins_is;
        safe = safe;
        shows = record {
          pc = pc;
          holds = record {
            top = omega (arith, stack);
            room = omega arith;
            whole = e.node.memory.size;
            words = tt;
            size = omega (arith, len, big);
            bytes = λ o i lt. sym (bytes_from_get n.mem l.priv_from (l.priv_to - l.priv_from) o (omega (arith, lt, len)));
            others = λ a x. refl;
            returns = tt;
            entry_sp = refl;
          };
          devices = refl;
          marks = refl;
        };
      }

  -- what templates leave outside is as before but where these pieces go
  pub outside_kept : (pieces : List (List ℕ)) (w : Watched) → bytes_in pieces ≡ made_bytes all → Safe f all w → KeepsOutside s out pieces n.mem w.node.mem
  outside_kept pieces w sizes h at off not_ = h.memory.elsewhere at (record { outside = off; beside = beside })
    where
      beside : (at < out) ⊎ (f.to ≤ at) ⊎ (may s.live s.section.id Write at ≡ false)
      beside = elim (cases_lt at out) [
        | inl lt ↦ inl lt
        | inr ge ↦ elim (cases_lt at (out + bytes_in pieces)) [
          | inl lt2 ↦ elim (cases_Bool (may s.live s.section.id Write at)) [
            | inl t ↦ absurd (true≢false (sym (and_from _ _ (le-leb out at ge) (and_from _ _ (lt-ltb at (out + bytes_in pieces) lt2) t)) ∙ not_))
            | inr t ↦ inr (inr t)
          ]
          | inr ge2 ↦ let m = min-le_left (made_bytes all) 384 in let t = to_is in inr (inl (omega (arith, ge2, sizes, m, t)))
        ]
      ]
