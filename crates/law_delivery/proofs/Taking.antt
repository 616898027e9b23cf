-- The packets that an event made are taken, one by one.
use Rattle.std.proofs.Common.{◌≡◌, ℕ, ◌+◌, ◌*◌, ◌≤◌, List, [], ◌∷◌, ◌++◌, length, length-append, Some, refl, sym, ◌∙◌, ap, subst, arith}
use Rattle.std.specs.Prelude.{slice_get}
use Rattle.std.proofs.lemmas.List.{append-nil}
use Rattle.sx_trace.specs.declared.items.Item.{Item}
use Rattle.sx_trace.specs.declared.items.Item.TheVariants as item
use Rattle.spec_machine.specs.Memory.{bytes_from}
use Rattle.spec_machine.specs.State.{State}
use Rattle.sx_image.specs.Realizes.{Stand}
use Rattle.sx_sched.specs.Lines.{Line, Take}
use Rattle.spec_run.specs.Setting.{Setting}
use Rattle.spec_run.specs.State.{World, Acted}
use Rattle.spec_run.specs.Acts.{then_, new_packet}
use Rattle.spec_run.specs.Run.{after_line, line_counted, run}
use Rattle.spec_honest.specs.Course.{packet_items}
use Rattle.law_setup.proofs.forms.ByLine.{shown_by}
use Rattle.law_setup.proofs.forms.Loaded.{StandsHigh}
use Rattle.law_setup.proofs.Acting.{piece_taken}
use Rattle.law_setup.proofs.Answering.{append_more}
use Rattle.law_delivery.specs.Schedule.{take_lines}
use Rattle.law_delivery.proofs.ByLine.{packets_shown}

-- lines show these items and add these packets to the world, which is as before in all else but counts
pub record Takes (set : Setting) (w : World) (lines : List Line) (items : List Item) (ps : List (List ℕ)) : Type 0 where
  pub world : World
  pub is : run set w lines ≡ record { world = world; items = items }
  pub each : shown_by set w lines ≡ packets_shown (length w.packets) (length ps)
  pub nodes : world.nodes ≡ w.nodes
  pub packets : world.packets ≡ w.packets ++ ps
  pub deployer : world.deployer ≡ w.deployer
  pub ledger : world.ledger ≡ w.ledger

-- each piece is an event packet's 24 bytes
abbrev pub AreEvents : List (List ℕ) → Type 0
AreEvents [] = Unit {0}
AreEvents (p ∷ ps) = (length p ≡ 24) × AreEvents ps

pub takes_all : (set : Setting) (ps : List (List ℕ)) (w : World) (n at : ℕ) (s : State) → slice_get w.nodes n ≡ Some s → s.cur ≡ 0 → StandsHigh s
    → at + 24 * length ps ≤ 512 → AreEvents ps → Stand s.mem at ps
    → Takes set w (take_lines n at (length ps)) (packet_items (length w.packets) 24 (length ps)) ps
takes_all set [] w n at s there idle low le sizes stand = record { world = w; is = refl; each = refl; nodes = refl; packets = sym (append-nil w.packets); deployer = refl; ledger = refl }
takes_all set (p ∷ ps) w n at s there idle low le sizes stand =
    let w0 = line_counted w in
    let v : World = record { nodes = w.nodes; packets = w.packets ++ p ∷ []; deployer = w.deployer; ledger = w.ledger; lines = w.lines + 1; steps = w.steps } in
    let got : bytes_from s.mem at 24 ≡ p = ap (bytes_from s.mem at) (sym sizes.0) ∙ stand.0 in
    let first : after_line set w0 (Take n at 24) ≡ record { world = v; items = item.Packet (length w.packets) 24 ∷ [] } =
    piece_taken set w0 n at 24 s there idle low (omega (arith, le)) ∙ ap (new_packet w0) got
    ∙ ap (λ (k : ℕ). record { world = v; items = item.Packet (length w.packets) k ∷ [] }) sizes.0 in
    let next : Stand s.mem (at + 24) ps = subst (λ (k : ℕ). Stand s.mem (at + k) ps) sizes.0 stand.1 in
    let rest = takes_all set ps v n (at + 24) s there idle low (omega (arith, le)) sizes.1 next in
    let long : length (w.packets ++ p ∷ []) ≡ length w.packets + 1 = length-append w.packets (p ∷ []) in
    record {
      world = rest.world;
      is =
          ap (λ (a : Acted). then_ a (λ v. run set v (take_lines n (at + 24) (length ps)))) first
          ∙ ap (λ (a : Acted). record { world = a.world; items = item.Packet (length w.packets) 24 ∷ a.items }) rest.is
          ∙ ap (λ (k : ℕ). record { world = rest.world; items = item.Packet (length w.packets) 24 ∷ packet_items k 24 (length ps) }) long;
      each =
          ap (λ (a : Acted). a.items ∷ shown_by set a.world (take_lines n (at + 24) (length ps))) first
          ∙ ap (λ (zs : List (List Item)). (item.Packet (length w.packets) 24 ∷ []) ∷ zs) (rest.each ∙ ap (λ (k : ℕ). packets_shown k (length ps)) long);
      nodes = rest.nodes;
      packets = rest.packets ∙ append_more w.packets p ps;
      deployer = rest.deployer;
      ledger = rest.ledger;
    }
