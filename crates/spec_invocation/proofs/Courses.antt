-- What a handler's acts keep: a fact of the progress that holds through pieces, wraps, writes to the actuator and new cells.
use Rattle.std.proofs.Common.{◌≡◌, ℕ, suc, ◌+◌, ◌*◌, Bool, true, false, ◌&&◌, List, [], ◌∷◌, ◌++◌, length, Option, Some, None, Result, Ok, Err, refl, sym, subst, arith}
use Rattle.std.specs.Prelude.{if◌then◌else◌, nat_lt, slice_get}
use Rattle.std.proofs.lemmas.Bool.{and_parts, true≢false}
use Rattle.sx_lang.specs.declared.sides.Side.{Side}
use Rattle.sx_lang.specs.declared.sides.Side.TheVariants.{From, To}
use Rattle.sx_mean.specs.declared.events.End.{End}
use Rattle.sx_mean.specs.declared.events.Act.{Act}
use Rattle.sx_mean.specs.declared.events.Act.TheVariants.{Send, Emit}
use Rattle.sx_mean.specs.declared.events.SourceEvent.{SourceEvent}
use Rattle.sx_mean.specs.React.{react}
use Rattle.sx_mean.specs.Ends.{is_sending}
use Rattle.sx_rules.specs.declared.access.Violation.{Violation}
use Rattle.sx_bus.specs.declared.devices.Window.{Window}
use Rattle.spec_invocation.specs.Setup.{Setup, Call}
use Rattle.spec_invocation.specs.Marks as mark
use Rattle.spec_invocation.specs.ModuleState.{end_of}
use Rattle.spec_invocation.specs.Windows.{write_bytes}
use Rattle.spec_invocation.specs.Progress.{Progress, Course, Going, Broken, and_on}
use Rattle.spec_invocation.specs.Acts.{with_piece, copied_to, with_packet, event_packet, wrap_counted, with_packets, with_act, with_acts, actuated, own_window, handled}
use Rattle.spec_invocation.specs.Protocol.{event_size, last_number}

-- the progress that a course has come to
abbrev pub come_to : Course → Progress
come_to (Going p) = p
come_to (Broken v p) = p

-- what a fact of the progress must hold through: packets are wrapped for sending ends that are open
pub record Kept (s : Setup) (Fine : Progress → Type 0) : Type 0 where
  pub more_pieces : (p : Progress) (new : List (List ℕ)) → Fine p → Fine (record p { pieces = new })
  pub other_memory : (p : Progress) (new : List ℕ) → Fine p → Fine (record p { mem = new })
  pub other_cells : (p : Progress) (new : List ℕ) → Fine p → Fine (record p { state = record p.state { cells = new } })
  pub wraps : (p : Progress) (v k : ℕ) (e : End) → slice_get s.ends k ≡ Some e → e.side ≡ From → (end_of p.state.ends k).is_open ≡ true
      → Fine p → Fine (wrap_counted k (end_of p.state.ends k) v p)
  pub writes : (p : Progress) (device v : ℕ) → Fine p → Fine (record p { marks = p.marks ++ mark.Actuated device v ∷ [] })

from_sends : (output : ℕ) (side : Side) (port : ℕ) → is_sending output side port ≡ true → side ≡ From
from_sends output From port e = refl
from_sends output To port e = absurd (true≢false (sym e))

module _ (s : Setup) (call : Call) (Fine : Progress → Type 0) (kept : Kept s Fine) where
  -- a part of the course keeps it
  abbrev Keeps : (Progress → Course) → Type 0
  Keeps f = (p : Progress) → Fine p → Fine (come_to (f p))

  keeps_then : (f g : Progress → Course) → Keeps f → Keeps g → Keeps (λ x. and_on (f x) g)
  keeps_then f g a b p h = go (f p) (a p h)
    where
      go : (x : Course) → Fine (come_to x) → Fine (come_to (and_on x g))
      go (Going q) h = b q h
      go (Broken v q) h = h

  pub piece_keeps : (piece : List ℕ) → Keeps (with_piece s call piece)
  piece_keeps piece p h = go (write_bytes s p.devices p.mem (call.output + event_size * length p.pieces) piece)
    where
      go : (r : Result (List ℕ) Violation) → Fine (come_to (copied_to r (record p { pieces = p.pieces ++ piece ∷ [] })))
      go (Err v) = kept.more_pieces p (p.pieces ++ piece ∷ []) h
      go (Ok mem) = kept.other_memory (record p { pieces = p.pieces ++ piece ∷ [] }) mem (kept.more_pieces p (p.pieces ++ piece ∷ []) h)

  packet_keeps : (v k : ℕ) (e : End) → slice_get s.ends k ≡ Some e → e.side ≡ From → Keeps (with_packet s call v k)
  unfolding with_packet
  packet_keeps v k e at side p h = go ((end_of p.state.ends k).is_open && nat_lt (end_of p.state.ends k).number last_number) refl
    where
      go : (b : Bool) → ((end_of p.state.ends k).is_open && nat_lt (end_of p.state.ends k).number last_number) ≡ b
          → Fine (come_to (if b then with_piece s call (event_packet s (end_of p.state.ends k) v) (wrap_counted k (end_of p.state.ends k) v p) else Going p))
      go true o =
          let x = end_of p.state.ends k in
          piece_keeps (event_packet s x v) (wrap_counted k x v p) (kept.wraps p v k e at side (and_parts x.is_open (nat_lt x.number last_number) o).0 h)
      go false o = h

  abbrev At : ℕ → List End → Type 0
  At k es = (j : ℕ) (e : End) → slice_get es j ≡ Some e → slice_get s.ends (k + j) ≡ Some e

  packets_keep : (output v k : ℕ) (es : List End) → At k es → Keeps (with_packets s call output v k es)
  packets_keep output v k [] at p h = h
  packets_keep output v k (e ∷ es) at p h = go (is_sending output e.side e.port) refl
      (packets_keep output v (k + 1) es (λ j f g. subst (λ i. slice_get s.ends i ≡ Some f) (omega arith) (at (suc j) f g)))
    where
      go : (b : Bool) → is_sending output e.side e.port ≡ b → Keeps (with_packets s call output v (k + 1) es)
          → Fine (come_to (if b then and_on (with_packet s call v k p) (with_packets s call output v (k + 1) es) else with_packets s call output v (k + 1) es p))
      go true t rest = keeps_then (with_packet s call v k) (with_packets s call output v (k + 1) es)
          (packet_keeps v k e (subst (λ i. slice_get s.ends i ≡ Some e) (omega arith) (at 0 e refl)) (from_sends output e.side e.port t)) rest p h
      go false t rest = rest p h

  act_keeps : (a : Act) → Keeps (with_act s call a)
  act_keeps (Send output v) p h = packets_keep output v 0 s.ends (λ j e g. subst (λ i. slice_get s.ends i ≡ Some e) (omega arith) g) p h
  act_keeps (Emit v) p h = go (own_window s p.devices)
    where
      go : (o : Option (ℕ × Window)) → Fine (actuated v o p)
      go None = h
      go (Some d) = kept.writes p d.0 v h

  acts_keep : (acts : List Act) → Keeps (with_acts s call acts)
  acts_keep [] p h = h
  acts_keep (a ∷ acts) p h = keeps_then (with_act s call a) (with_acts s call acts) (act_keeps a) (acts_keep acts) p h

  pub handler_keeps : (e : SourceEvent) → Keeps (handled s call e)
  unfolding handled
  handler_keeps e p h = let done = react s.tree e p.state.cells in acts_keep done.acts (record p { state = record p.state { cells = done.cells } }) (kept.other_cells p done.cells h)
