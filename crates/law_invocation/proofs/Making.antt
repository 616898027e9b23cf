-- A handler that makes few packets makes them: none of its copies is refused.
use Rattle.std.proofs.Common.{◌≡◌, ℕ, ◌+◌, ◌*◌, ◌<◌, ◌≤◌, Bool, true, false, ◌&&◌, List, [], ◌∷◌, ◌++◌, length, Option, Some, None, sym, ap, ◌∙◌, subst, arith}
use Rattle.std.specs.Prelude.{if◌then◌else◌, nat_lt}
use Rattle.std.proofs.lemmas.List.{append-nil, append_assoc, length-append}
use Rattle.sx_mean.specs.declared.events.End.{End}
use Rattle.sx_mean.specs.declared.events.Act.{Act}
use Rattle.sx_mean.specs.declared.events.Act.TheVariants.{Send, Emit}
use Rattle.sx_mean.specs.declared.events.SourceEvent.{SourceEvent}
use Rattle.sx_mean.specs.Ends.{is_sending}
use Rattle.sx_mean.specs.EndLaws.{senders}
use Rattle.sx_mean.specs.React.{react}
use Rattle.sx_mean.proofs.Ends.{senders-cons}
use Rattle.sx_bus.specs.declared.devices.Window.{Window}
use Rattle.sx_tag.specs.Mac.{IsTag}
use Rattle.spec_invocation.specs.Protocol.{event_size, last_number}
use Rattle.spec_invocation.specs.Setup.{Setup, Call}
use Rattle.spec_invocation.specs.ModuleState.{EndState, end_of}
use Rattle.spec_invocation.specs.Marks.{Actuated}
use Rattle.spec_invocation.specs.Windows.{out_window_size, write_bytes}
use Rattle.spec_invocation.specs.Progress.{Progress, Course, Going, and_on}
use Rattle.spec_invocation.specs.Acts.{copied_to, with_piece, wrap_counted, event_packet, with_packet, with_packets, own_window, actuated, with_act, with_acts, handled}
use Rattle.spec_invocation.proofs.PiecesMarked.{packet_length}
use Rattle.law_invocation.specs.Effect.{Effect, nothing, also, one_packet, packet_made, packets_made, emit_marks, act_made, acts_made, act_packets, acts_packets, MakesFew}
use Rattle.law_invocation.specs.Gives.{index_in, low_end, own_device, IsLowFree}
use Rattle.law_invocation.proofs.Low.{write_all}

-- the progress after this effect
abbrev pub onward : Progress → Effect → List ℕ → Progress
onward p d mem = record {
  state = record { cells = p.state.cells; ends = d.ends };
  mem = mem;
  devices = p.devices;
  marks = p.marks ++ d.marks;
  pieces = p.pieces ++ d.pieces;
}

-- the course goes on, and makes this
pub record Makes (x : Course) (p : Progress) (d : Effect) : Type 0 where
  pub mem : List ℕ
  pub is : x ≡ Going (onward p d mem)

-- nothing is made
onward_none : (p : Progress) → onward p (nothing p.state.ends) p.mem ≡ p
onward_none p =
    ap (λ ms. record { state = p.state; mem = p.mem; devices = p.devices; marks = ms; pieces = p.pieces ++ [] }) (append-nil p.marks)
    ∙ ap (λ ps. record { state = p.state; mem = p.mem; devices = p.devices; marks = p.marks; pieces = ps }) (append-nil p.pieces)

makes_none : (p : Progress) → Makes (Going p) p (nothing p.state.ends)
makes_none p = record { mem = p.mem; is = ap (λ q. Going q) (sym (onward_none p)) }

-- one part and then another
onward_on : (p : Progress) (d e : Effect) (m n : List ℕ) → onward (onward p d m) e n ≡ onward p (record { ends = e.ends; marks = d.marks ++ e.marks; pieces = d.pieces ++ e.pieces }) n
onward_on p d e m n =
    ap (λ ms. record {
      state = record { cells = p.state.cells; ends = e.ends };
      mem = n;
      devices = p.devices;
      marks = ms;
      pieces = (p.pieces ++ d.pieces) ++ e.pieces;
    }) (append_assoc p.marks d.marks e.marks)
    ∙ ap (λ ps. record {
      state = record { cells = p.state.cells; ends = e.ends };
      mem = n;
      devices = p.devices;
      marks = p.marks ++ (d.marks ++ e.marks);
      pieces = ps;
    }) (append_assoc p.pieces d.pieces e.pieces)

makes_then : (x : Course) (g : Progress → Course) (p : Progress) (d : Effect) (rest : List EndState → Effect) → Makes x p d
    → ((m : List ℕ) → Makes (g (onward p d m)) (onward p d m) (rest d.ends)) → Makes (and_on x g) p (also d rest)
makes_then x g p d rest a f =
    let b = f a.mem in
    record { mem = b.mem; is = ap (λ y. and_on y g) a.is ∙ b.is ∙ ap (λ q. Going q) (onward_on p d (rest d.ends) a.mem b.mem) }

-- how many pieces
module _ (su : Setup) where
  one_piece : (v k : ℕ) (ends : List EndState) → length (packet_made su v k ends).pieces ≤ 1
  one_piece v k ends = go ((end_of ends k).is_open && nat_lt (end_of ends k).number last_number)
    where
      go : (b : Bool) → length (if b then one_packet su v k (end_of ends k) ends else nothing ends).pieces ≤ 1
      go true = omega arith
      go false = omega arith

  few_pieces : (output v k : ℕ) (es : List End) (ends : List EndState) → length (packets_made su output v k es ends).pieces ≤ senders es output
  few_pieces output v k [] ends = omega arith
  few_pieces output v k (e ∷ es) ends =
      subst (λ n. length (packets_made su output v k (e ∷ es) ends).pieces ≤ n) (sym (senders-cons e es output)) (go (is_sending output e.side e.port) (few_pieces output v (k + 1) es))
    where
      go : (b : Bool) → ((x : List EndState) → length (packets_made su output v (k + 1) es x).pieces ≤ senders es output)
          → length (if b then also (packet_made su v k ends) (packets_made su output v (k + 1) es) else packets_made su output v (k + 1) es ends).pieces
          ≤ (if b then 1 + senders es output else senders es output)
      go true f =
          let one = one_piece v k ends in
          let more = f (packet_made su v k ends).ends in
          let l = length-append (packet_made su v k ends).pieces (packets_made su output v (k + 1) es (packet_made su v k ends).ends).pieces in
          omega (arith, one, more, l)
      go false f = f ends

  act_few : (device : Option ℕ) (a : Act) (ends : List EndState) → length (act_made su device a ends).pieces ≤ act_packets su.ends a
  act_few device (Send output v) ends = few_pieces output v 0 su.ends ends
  act_few device (Emit v) ends = omega arith

module _ (su : Setup) (devices : List Window) (low : IsLowFree su devices) (c : Call) where
  -- a piece is copied
  pub piece_made : (piece : List ℕ) (p : Progress) → p.devices ≡ devices → c.output + event_size * length p.pieces + length piece ≤ low_end
      → (m : List ℕ) × (with_piece su c piece p ≡ Going (record p { mem = m; pieces = p.pieces ++ piece ∷ [] }))
  piece_made piece p same le =
      let w = write_all su devices low p.mem (c.output + event_size * length p.pieces) piece le in
      (w.0, ap (λ r. copied_to r (record p { pieces = p.pieces ++ piece ∷ [] })) (ap (λ ds. write_bytes su ds p.mem (c.output + event_size * length p.pieces) piece) same ∙ w.1))

module _ (su : Setup) (devices : List Window) (low : IsLowFree su devices) (tag : IsTag su.mac) (c : Call) (room : c.output + out_window_size ≤ low_end) where
  packet_makes : (v k : ℕ) (p : Progress) → p.devices ≡ devices → length p.pieces < 16 → Makes (with_packet su c v k p) p (packet_made su v k p.state.ends)
  unfolding with_packet
  packet_makes v k p same few = go ((end_of p.state.ends k).is_open && nat_lt (end_of p.state.ends k).number last_number)
    where
      go : (b : Bool) → Makes (if b then with_piece su c (event_packet su (end_of p.state.ends k) v) (wrap_counted k (end_of p.state.ends k) v p) else Going p) p
          (if b then one_packet su v k (end_of p.state.ends k) p.state.ends else nothing p.state.ends)
      go true =
          let size = packet_length su (end_of p.state.ends k) v tag in
          let m = piece_made su devices low c (event_packet su (end_of p.state.ends k) v) (wrap_counted k (end_of p.state.ends k) v p) same (omega (arith, size, few, room)) in
          record { mem = m.0; is = m.1 }
      go false = makes_none p

  packets_make : (output v k : ℕ) (es : List End) (p : Progress) → p.devices ≡ devices → length p.pieces + senders es output ≤ 16
      → Makes (with_packets su c output v k es p) p (packets_made su output v k es p.state.ends)
  packets_make output v k [] p same few = makes_none p
  packets_make output v k (e ∷ es) p same few =
      go (is_sending output e.side e.port) (subst (λ n. length p.pieces + n ≤ 16) (senders-cons e es output) few) (packets_make output v (k + 1) es)
    where
      go : (b : Bool) → length p.pieces + (if b then 1 + senders es output else senders es output) ≤ 16
          → ((q : Progress) → q.devices ≡ devices → length q.pieces + senders es output ≤ 16 → Makes (with_packets su c output v (k + 1) es q) q (packets_made su output v (k + 1) es q.state.ends))
          → Makes (if b then and_on (with_packet su c v k p) (with_packets su c output v (k + 1) es) else with_packets su c output v (k + 1) es p) p
          (if b then also (packet_made su v k p.state.ends) (packets_made su output v (k + 1) es) else packets_made su output v (k + 1) es p.state.ends)
      go true few f =
          let d = packet_made su v k p.state.ends in
          makes_then (with_packet su c v k p) (with_packets su c output v (k + 1) es) p d (packets_made su output v (k + 1) es) (packet_makes v k p same (omega (arith, few)))
          (λ m. f (onward p d m) same (let one = one_piece su v k p.state.ends in let l = length-append p.pieces d.pieces in omega (arith, few, one, l)))
      go false few f = f p same few

  act_makes : (device : Option ℕ) → own_device su devices ≡ device → (a : Act) (p : Progress) → p.devices ≡ devices
      → length p.pieces + act_packets su.ends a ≤ 16 → Makes (with_act su c a p) p (act_made su device a p.state.ends)
  act_makes device own (Send output v) p same few = packets_make output v 0 su.ends p same few
  act_makes device own (Emit v) p same few = go (own_window su p.devices) (ap (λ ds. own_device su ds) same ∙ own)
    where
      go : (o : Option (ℕ × Window)) → index_in o ≡ device → Makes (Going (actuated v o p)) p (record { ends = p.state.ends; marks = emit_marks device v; pieces = [] })
      go None e = subst (λ i. Makes (Going p) p (record { ends = p.state.ends; marks = emit_marks i v; pieces = [] })) e (makes_none p)
      go (Some d) e = subst (λ i. Makes (Going (actuated v (Some d) p)) p (record { ends = p.state.ends; marks = emit_marks i v; pieces = [] })) e
          (record {
            mem = p.mem;
            is = ap (λ ps. Going (record { state = p.state; mem = p.mem; devices = p.devices; marks = p.marks ++ Actuated d.0 v ∷ []; pieces = ps })) (sym (append-nil p.pieces));
          })

  acts_make : (device : Option ℕ) → own_device su devices ≡ device → (acts : List Act) (p : Progress) → p.devices ≡ devices
      → length p.pieces + acts_packets su.ends acts ≤ 16 → Makes (with_acts su c acts p) p (acts_made su device acts p.state.ends)
  acts_make device own [] p same few = makes_none p
  acts_make device own (a ∷ acts) p same few =
      let d = act_made su device a p.state.ends in
      makes_then (with_act su c a p) (with_acts su c acts) p d (acts_made su device acts) (act_makes device own a p same (omega (arith, few)))
      (λ m. acts_make device own acts (onward p d m) same (let one = act_few su device a p.state.ends in let l = length-append p.pieces d.pieces in omega (arith, few, one, l)))

  -- what a handler makes of an event
  pub handler_makes : (device : Option ℕ) → own_device su devices ≡ device → MakesFew su.tree su.ends → (e : SourceEvent) (p : Progress) → p.devices ≡ devices → p.pieces ≡ []
      → let done = react su.tree e p.state.cells in
      Makes (handled su c e p) (record p { state = record { cells = done.cells; ends = p.state.ends } }) (acts_made su device done.acts p.state.ends)
  unfolding handled
  handler_makes device own few e p same none =
      let done = react su.tree e p.state.cells in
      acts_make device own done.acts (record p { state = record { cells = done.cells; ends = p.state.ends } }) same
      (let n = ap length none in let f = few e p.state.cells in omega (arith, n, f))
