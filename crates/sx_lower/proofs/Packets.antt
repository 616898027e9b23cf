-- Packets of a send: stack code and invocation, side by side.
use Rattle.std.proofs.Common.{◌≡◌, ◌≢◌, ℕ, ◌+◌, ◌*◌, ◌<◌, ◌≤◌, Bool, true, false, ◌&&◌, not, if◌then◌else◌, List, [], ◌∷◌, ◌++◌, length, Some, nat_lt}
use Rattle.std.proofs.Common.{nat_le, refl, sym, ap, ◌∙◌, subst, arith, length-append}
use Rattle.std.specs.Prelude.{slice_get, Result, Ok, Err}
use Rattle.std.proofs.lemmas.Bool.{and_from, le-leb, lt-ltb, ltb-true, not_from_false, and_parts}
use Rattle.std.proofs.lemmas.Bool.Decides.{nat_tests}
use Rattle.sx_lang.specs.declared.tree.Decl.{Decl}
use Rattle.sx_lang.specs.Sizes.{module_data_size}
use Rattle.sx_mean.specs.declared.events.End.{End}
use Rattle.sx_mean.specs.Meaning.{HandlerState}
use Rattle.sx_rules.specs.declared.access.Violation.{Violation}
use Rattle.sx_bus.specs.declared.devices.Window.{Window}
use Rattle.sx_image.specs.Reach.{Goes}
use Rattle.spec_machine.specs.Memory.{even, word, put_word}
use Rattle.spec_invocation.specs.Marks.{Mark, Wrapped}
use Rattle.spec_invocation.specs.Pieces.{made_bytes}
use Rattle.spec_invocation.specs.Setup.{Setup, Call}
use Rattle.sx_mean.specs.Offsets.{end_at, end_number_at}
use Rattle.sx_mean.specs.Working.{pieces_at, saved_at}
use Rattle.spec_invocation.specs.ModuleState.{EndState, end_of, with_end, end_state, end_states}
use Rattle.spec_invocation.specs.Windows.{is_bad_window, two, write_bytes, out_window_size}
use Rattle.spec_invocation.specs.Progress.{Progress, Course, Going, Broken, and_on}
use Rattle.spec_invocation.specs.Acts.{copied_to, with_piece, event_header, event_packet, wrap_counted, with_packet, with_packets}
use Rattle.spec_invocation.proofs.PiecesMarked.{made_more}
use Rattle.sx_mean.specs.Ends.{is_sending}
use Rattle.sx_mean.specs.EndLaws.{senders}
use Rattle.sx_mean.proofs.Ends.{senders-cons}
use Rattle.sx_ir.specs.Conf.{Conf}
use Rattle.sx_ir.specs.Meaning.{OperationResult, do_at, has_key_mark, send_open, copied_out, packed, sealed_event, has_out_window, pieces, saved, when}
use Rattle.sx_ir.specs.declared.ir.Ir.{Ir}
use Rattle.sx_ir.specs.declared.ir.Ir.TheVariants as ir
use Rattle.sx_lower.specs.Lowered.{packets_code}
use Rattle.sx_lower.proofs.Bytes.{word-put_same, word-put_other}
use Rattle.sx_lower.proofs.Slots.{end_among, ends_number, ends_other}
use Rattle.sx_lower.proofs.Holds.{Holds, holds_other}
use Rattle.sx_ir.proofs.Shown.{unkeyed_more}
use Rattle.sx_lower.proofs.Run.{HasAt, at, do_one, do_last, passed, weaker, Comes_to}
use Rattle.spec_machine.proofs.Lengths.{length-put_word}

-- The private section, the memory outside, the devices and the marks show an invocation's progress, but for the cells.
pub record Shows (s : Setup) (call : Call) (p : Progress) (priv mem : List ℕ) (devices : List Window) (marks : List Mark) : Type 0 where
  pub size : length priv ≡ module_data_size s.tree (length s.ends)
  pub ends : end_states priv 0 s.ends ≡ p.state.ends
  pub outside : mem ≡ p.mem
  pub windows : devices ≡ p.devices
  pub marked : marks ≡ p.marks
  pub count : word priv pieces_at ≡ length p.pieces
  pub entry : word priv (saved_at 12) ≡ call.entry
  pub input : word priv (saved_at 13) ≡ call.input
  pub output : word priv (saved_at 14) ≡ call.output
  pub back : word priv (saved_at 15) ≡ call.back
  pub told : 24 * length p.pieces ≤ made_bytes p.marks
  pub unkeyed : has_key_mark marks ≡ false

-- a write that meets neither what an invocation keeps nor the ends
pub shows_other : (s : Setup) (call : Call) (p : Progress) (priv mem : List ℕ) (devices : List Window) (marks : List Mark) (o v : ℕ) → ((b : ℕ) → 4 ≤ b → b < 16 → even b ≢ even o)
    → ((b : ℕ) → 512 ≤ b → b < end_at (length s.ends) → even b ≢ even o) → Shows s call p priv mem devices marks → Shows s call p (put_word priv o v) mem devices marks
shows_other s call p priv mem devices marks o v low slots h = record {
  size = length-put_word priv o v ∙ h.size;
  ends = ends_other s.ends priv 0 o v (λ b l m. slots b (omega (arith, l)) (omega (arith, m))) ∙ h.ends;
  outside = h.outside;
  windows = h.windows;
  marked = h.marked;
  count = word-put_other priv o v 4 (low 4 (omega arith) (omega arith)) ∙ h.count;
  entry = word-put_other priv o v 6 (low 6 (omega arith) (omega arith)) ∙ h.entry;
  input = word-put_other priv o v 8 (low 8 (omega arith) (omega arith)) ∙ h.input;
  output = word-put_other priv o v 10 (low 10 (omega arith) (omega arith)) ∙ h.output;
  back = word-put_other priv o v 12 (low 12 (omega arith) (omega arith)) ∙ h.back;
  told = h.told;
  unkeyed = h.unkeyed;
}

-- the progress after a packet, but for its copy
abbrev pub packet_made : Setup → ℕ → EndState → ℕ → Progress → Progress
packet_made s k e v p = record (wrap_counted k e v p) { pieces = p.pieces ++ event_packet s e v ∷ [] }

module _ (s : Setup) (call : Call) where
  packet_closed : (v k : ℕ) (p : Progress) (e : EndState) → end_of p.state.ends k ≡ e → (e.is_open && nat_lt e.number 65535) ≡ false → with_packet s call v k p ≡ Going p
  unfolding with_packet
  packet_closed v k p e is no_ =
      ap (λ e. if e.is_open && nat_lt e.number 65535 then with_piece s call (event_packet s e v) (wrap_counted k e v p) else Going p) is
      ∙ ap (λ b. if b then with_piece s call (event_packet s e v) (wrap_counted k e v p) else Going p) no_

  packet_open : (v k : ℕ) (p : Progress) (e : EndState) (to : ℕ) (devices : List Window) (mem : List ℕ) → end_of p.state.ends k ≡ e → (e.is_open && nat_lt e.number 65535) ≡ true
      → call.output + 24 * length p.pieces ≡ to → p.devices ≡ devices → p.mem ≡ mem
      → with_packet s call v k p ≡ copied_to (write_bytes s devices mem to (event_packet s e v)) (packet_made s k e v p)
  unfolding with_packet
  packet_open v k p e to devices mem is open_ a d m =
      ap (λ e. if e.is_open && nat_lt e.number 65535 then with_piece s call (event_packet s e v) (wrap_counted k e v p) else Going p) is
      ∙ ap (λ b. if b then with_piece s call (event_packet s e v) (wrap_counted k e v p) else Going p) open_
      ∙ ap (λ t. copied_to (write_bytes s p.devices p.mem t (event_packet s e v)) (packet_made s k e v p)) a
      ∙ ap (λ d. copied_to (write_bytes s d p.mem to (event_packet s e v)) (packet_made s k e v p)) d
      ∙ ap (λ m. copied_to (write_bytes s devices m to (event_packet s e v)) (packet_made s k e v p)) m

-- a private section after a packet of the k-th end
abbrev pub packed_section : List ℕ → ℕ → EndState → List ℕ
packed_section priv k e = put_word (put_word priv (end_number_at k) (e.number + 1)) pieces_at (word priv pieces_at + 1)

module _ (s : Setup) (call : Call) (ds : List Decl) (names : List (List ℕ)) (st : HandlerState) where
  packed_shows : (p : Progress) (priv mem : List ℕ) (devices : List Window) (marks : List Mark) (k v : ℕ) (mem2 : List ℕ) → k < length s.ends → Shows s call p priv mem devices marks
      → Shows s call (record (packet_made s k (end_state priv k) v p) { mem = mem2 }) (packed_section priv k (end_state priv k)) mem2 devices
      (marks ++ Wrapped (event_header (end_state priv k)) (two v) false ∷ [])
  packed_shows p priv mem devices marks k v mem2 inside h =
      let e = end_state priv k in
      let o = end_number_at k in
      let one = put_word priv o (e.number + 1) in
      let n = word priv pieces_at + 1 in
      let long = length-put_word priv o (e.number + 1) in
      let long2 = length-put_word one pieces_at n in
      let raw = ends_number s.ends priv 0 k (e.number + 1) (omega (arith, h.size)) inside in
      let z : 0 + k ≡ k = omega arith in
      let numbers : end_states one 0 s.ends ≡ with_end p.state.ends k (record e { number = e.number + 1 }) =
      subst (λ i. end_states (put_word priv (end_number_at i) (e.number + 1)) 0 s.ends ≡ with_end (end_states priv 0 s.ends) k (record (end_state priv i) { number = e.number + 1 })) z raw
      ∙ ap (λ l. with_end l k (record e { number = e.number + 1 })) h.ends in
      let same_word = λ (b : ℕ) (l : b < 16). word-put_other priv o (e.number + 1) b (omega (arith, l)) in
      record {
        size = omega (arith, long, long2, h.size);
        ends = ends_other s.ends one 0 pieces_at n (λ b l m. omega (arith, l)) ∙ numbers;
        outside = refl;
        windows = h.windows;
        marked = ap (λ l. l ++ Wrapped (event_header e) (two v) false ∷ []) h.marked;
        count = word-put_same one pieces_at n (omega (arith, long, h.size)) ∙ omega (arith, h.count, length-append p.pieces (event_packet s e v ∷ []));
        entry = word-put_other one pieces_at n 6 (omega arith) ∙ same_word 6 (omega arith) ∙ h.entry;
        input = word-put_other one pieces_at n 8 (omega arith) ∙ same_word 8 (omega arith) ∙ h.input;
        output = word-put_other one pieces_at n 10 (omega arith) ∙ same_word 10 (omega arith) ∙ h.output;
        back = word-put_other one pieces_at n 12 (omega arith) ∙ same_word 12 (omega arith) ∙ h.back;
        told = omega (arith, h.told, length-append p.pieces (event_packet s e v ∷ []), made_more p.marks (Wrapped (event_header e) (two v) false));
        unkeyed = unkeyed_more marks (Wrapped (event_header e) (two v) false) h.unkeyed refl;
      }

  packed_holds : (priv : List ℕ) (k : ℕ) → k < length s.ends → (end_state priv k).number < 65535 → word priv pieces_at < 65535 → Holds ds (length s.ends) names st priv
      → Holds ds (length s.ends) names st (packed_section priv k (end_state priv k))
  packed_holds priv k inside small few h =
      let e = end_state priv k in
      let o = end_number_at k in
      let one = holds_other ds (length s.ends) names st priv h o (e.number + 1) (omega (arith, small)) (λ b l m. omega (arith, m)) (λ b l. omega (arith, l, inside)) in
      holds_other ds (length s.ends) names st (put_word priv o (e.number + 1)) one pieces_at (word priv pieces_at + 1) (omega (arith, few)) (λ b l m. omega (arith, l)) (λ b l. omega (arith, l))

module _ (s : Setup) (handle : ℕ → Conf → OperationResult) (given : ℕ → ℕ) (code : List Ir) (B : Violation → List Mark
    → Type 0) (call : Call) (ds : List Decl) (names : List (List ℕ)) (st : HandlerState) (window : is_bad_window s call.output out_window_size ≡ false) where
  -- a configuration after packets
  abbrev pub sent : Conf → List ℕ → List ℕ → List Mark → Conf
  sent c priv mem marks = record c { priv = priv; mem = mem; marks = marks }

  has_window : (c : Conf) (p : Progress) → Shows s call p c.priv c.mem c.devices c.marks → has_out_window s c ≡ true
  has_window c p h = ap (λ a. not (is_bad_window s a out_window_size)) h.output ∙ ap not window

  fits : (n : ℕ) → n < 16 → nat_le (24 * n + 24) 384 ≡ true
  fits n l = grind (arith, nat_tests)

  room : (n m : ℕ) → n < 16 → 24 * n ≤ m → (nat_le (24 * n + 24) 384 && nat_le (24 * n) m) ≡ true
  room n m l told = ap (λ b. b && nat_le (24 * n) m) (fits n l) ∙ le-leb (24 * n) m told

  packet_reach : (Q : Conf → Type 0) (v k p m n : ℕ) (stack : List ℕ) (c : Conf) (progress : Progress) → slice_get code p ≡ Some (ir.Packet k) → k < length s.ends → 200 + m ≤ n
      → length progress.pieces < 16
      → Holds ds (length s.ends) names st c.priv → Shows s call progress c.priv c.mem c.devices c.marks
      → ((q : Progress) (priv mem : List ℕ) (marks : List Mark) → with_packet s call v k progress ≡ Going q → length q.pieces ≤ length progress.pieces + 1 → Holds ds (length s.ends) names st priv
      → Shows s call q priv mem c.devices marks → Comes_to s handle given code B Q m (at (p + 1) (v ∷ stack) (sent c priv mem marks)))
      → ((w : Violation) (q : Progress) → with_packet s call v k progress ≡ Broken w q → B w q.marks)
      → Comes_to s handle given code B Q n (at p (v ∷ stack) c)
  packet_reach Q v k p m n stack c progress has inside le few h shown goes breaks =
      let e = end_state c.priv k in
      let is : end_of progress.state.ends k ≡ e = ap (λ l. end_of l k) (sym shown.ends) ∙ end_among s.ends c.priv 0 k inside ∙ ap (end_state c.priv) (omega arith) in
      by_open (e.is_open && nat_lt e.number 65535) refl is
    where
      by_open : (b : Bool) → ((end_state c.priv k).is_open && nat_lt (end_state c.priv k).number 65535) ≡ b → end_of progress.state.ends k ≡ end_state c.priv k
          → Comes_to s handle given code B Q n (at p (v ∷ stack) c)
      by_open false shut is =
          let e = end_state c.priv k in
          let stays : do_at s handle (Some (ir.Packet k)) (at p (v ∷ stack) c) ≡ Goes (at (p + 1) (v ∷ stack) c) =
          passed s handle given code B _ _ (and_from _ _ (not_from_false (has_key_mark c.marks) shown.unkeyed) (lt-ltb k (length s.ends) inside))
          ∙ ap (λ b. when b (if e.is_open && nat_lt e.number 65535 then send_open s (at p (v ∷ stack) c) k v e else Goes (at (p + 1) (v ∷ stack) c))) (has_window c progress shown)
          ∙ ap (λ b. if b then send_open s (at p (v ∷ stack) c) k v e else Goes (at (p + 1) (v ∷ stack) c)) shut in
          do_one s handle given code B Q (ir.Packet k) (at p (v ∷ stack) c) (at (p + 1) (v ∷ stack) c) m n has stays (omega (arith, le))
          (goes progress c.priv c.mem c.marks (packet_closed s call v k progress e is shut) (omega arith) h shown)
      by_open true open_ is =
          let e = end_state c.priv k in
          let to : call.output + 24 * length progress.pieces ≡ saved c 14 + 24 * pieces c = omega (arith, shown.output, shown.count) in
          let course = packet_open s call v k progress e (saved c 14 + 24 * pieces c) c.devices c.mem is open_ to (sym shown.windows) (sym shown.outside) in
          let small = ltb-true e.number 65535 (and_parts e.is_open (nat_lt e.number 65535) open_).1 in
          let does : do_at s handle (Some (ir.Packet k)) (at p (v ∷ stack) c) ≡ copied_out (write_bytes s c.devices c.mem (saved c 14 + 24 * pieces c) (event_packet s e v))
          (sealed_event (at p (v ∷ stack) c) e v) (packed (sealed_event (at p (v ∷ stack) c) e v) k e) =
          passed s handle given code B _ _ (and_from _ _ (not_from_false (has_key_mark c.marks) shown.unkeyed) (lt-ltb k (length s.ends) inside))
          ∙ ap (λ b. when b (if e.is_open && nat_lt e.number 65535 then send_open s (at p (v ∷ stack) c) k v e else Goes (at (p + 1) (v ∷ stack) c))) (has_window c progress shown)
          ∙ ap (λ b. if b then send_open s (at p (v ∷ stack) c) k v e else Goes (at (p + 1) (v ∷ stack) c)) open_
          ∙ ap (λ b. when b (copied_out (write_bytes s c.devices c.mem (saved c 14 + 24 * pieces c) (event_packet s e v)) (sealed_event (at p (v ∷ stack) c) e v)
          (packed (sealed_event (at p (v ∷ stack) c) e v) k e)))
          (room (pieces c) (made_bytes c.marks) (omega (arith, shown.count, few)) (omega (arith, shown.count, shown.told, ap made_bytes shown.marked))) in
          by_write (write_bytes s c.devices c.mem (saved c 14 + 24 * pieces c) (event_packet s e v)) course does small
        where
          by_write : (w : Result (List ℕ) Violation) → with_packet s call v k progress ≡ copied_to w (packet_made s k (end_state c.priv k) v progress)
              → do_at s handle (Some (ir.Packet k)) (at p (v ∷ stack) c) ≡ copied_out w (sealed_event (at p (v ∷ stack) c) (end_state c.priv k) v)
              (packed (sealed_event (at p (v ∷ stack) c) (end_state c.priv k) v) k (end_state c.priv k))
              → (end_state c.priv k).number < 65535 → Comes_to s handle given code B Q n (at p (v ∷ stack) c)
          by_write (Ok mem2) course does small =
              do_one s handle given code B Q (ir.Packet k) (at p (v ∷ stack) c) _ m n has does (omega (arith, le))
              (goes (record (packet_made s k (end_state c.priv k) v progress) { mem = mem2 }) (packed_section c.priv k (end_state c.priv k)) mem2
              (c.marks ++ Wrapped (event_header (end_state c.priv k)) (two v) false ∷ []) course
              (omega (arith, length-append progress.pieces (event_packet s (end_state c.priv k) v ∷ [])))
              (packed_holds s call ds names st c.priv k inside small (omega (arith, shown.count, few)) h)
              (packed_shows s call ds names st progress c.priv c.mem c.devices c.marks k v mem2 inside shown))
          by_write (Err w) course does small =
              do_last s handle given code B Q (ir.Packet k) (at p (v ∷ stack) c) n w _ has does (omega (arith, le))
              (subst (λ l. B w (l ++ Wrapped (event_header (end_state c.priv k)) (two v) false ∷ [])) (sym shown.marked)
              (breaks w (packet_made s k (end_state c.priv k) v progress) course))

  -- the packets of all ends from the k-th on
  pub packets_reach : (es : List End) (Q : Conf → Type 0) (output v k p m n : ℕ) (stack : List ℕ) (c : Conf) (progress : Progress) → HasAt code p (packets_code k es output)
      → k + length es ≡ length s.ends → 200 * length es + m ≤ n → length progress.pieces + senders es output ≤ 16
      → Holds ds (length s.ends) names st c.priv → Shows s call progress c.priv c.mem c.devices c.marks
      → ((q : Progress) (priv mem : List ℕ) (marks : List Mark) → with_packets s call output v k es progress ≡ Going q → length q.pieces ≤ length progress.pieces + senders es output
      → Holds ds (length s.ends) names st priv → Shows s call q priv mem c.devices marks
      → Comes_to s handle given code B Q m (at (p + length (packets_code k es output)) (v ∷ stack) (sent c priv mem marks)))
      → ((w : Violation) (q : Progress) → with_packets s call output v k es progress ≡ Broken w q → B w q.marks)
      → Comes_to s handle given code B Q n (at p (v ∷ stack) c)
  packets_reach [] Q output v k p m n stack c progress has all le few h shown goes breaks =
      let e : p + 0 ≡ p = omega arith in
      let r = goes progress c.priv c.mem c.marks refl (omega arith) h shown in
      weaker s handle given code B Q Q (at p (v ∷ stack) c) m n (omega (arith, le)) (λ t q. q) (subst (λ p. Comes_to s handle given code B Q m (at p (v ∷ stack) c)) e r)
  packets_reach (e ∷ es) Q output v k p m n stack c progress has all le few h shown goes breaks =
      let sends = senders-cons e es output in
      by_side (is_sending output e.side e.port) has (subst (λ n. length progress.pieces + n ≤ 16) sends few)
      (λ q priv mem marks did count. goes q priv mem marks did (subst (λ n. length q.pieces ≤ length progress.pieces + n) (sym sends) count))
      breaks (packets_reach es Q output v (k + 1))
    where
      by_side : (b : Bool) → HasAt code p (if b then ir.Packet k ∷ packets_code (k + 1) es output else packets_code (k + 1) es output)
          → length progress.pieces + (if b then 1 + senders es output else senders es output) ≤ 16
          → ((q : Progress) (priv mem : List ℕ) (marks : List Mark)
          → (if b then and_on (with_packet s call v k progress) (with_packets s call output v (k + 1) es) else with_packets s call output v (k + 1) es progress) ≡ Going q
          → length q.pieces ≤ length progress.pieces + (if b then 1 + senders es output else senders es output) → Holds ds (length s.ends) names st priv → Shows s call q priv mem c.devices marks
          → Comes_to s handle given code B Q m (at (p + length (if b then ir.Packet k ∷ packets_code (k + 1) es output else packets_code (k + 1) es output)) (v ∷ stack) (sent c priv mem marks)))
          → ((w : Violation) (q : Progress)
          → (if b then and_on (with_packet s call v k progress) (with_packets s call output v (k + 1) es) else with_packets s call output v (k + 1) es progress) ≡ Broken w q → B w q.marks)
          → ((p m n : ℕ) (stack : List ℕ) (c : Conf) (progress : Progress) → HasAt code p (packets_code (k + 1) es output) → k + 1 + length es ≡ length s.ends → 200 * length es + m ≤ n
          → length progress.pieces + senders es output ≤ 16
          → Holds ds (length s.ends) names st c.priv → Shows s call progress c.priv c.mem c.devices c.marks
          → ((q : Progress) (priv mem : List ℕ) (marks : List Mark) → with_packets s call output v (k + 1) es progress ≡ Going q → length q.pieces ≤ length progress.pieces + senders es output
          → Holds ds (length s.ends) names st priv → Shows s call q priv mem c.devices marks
          → Comes_to s handle given code B Q m (at (p + length (packets_code (k + 1) es output)) (v ∷ stack) (sent c priv mem marks)))
          → ((w : Violation) (q : Progress) → with_packets s call output v (k + 1) es progress ≡ Broken w q → B w q.marks)
          → Comes_to s handle given code B Q n (at p (v ∷ stack) c))
          → Comes_to s handle given code B Q n (at p (v ∷ stack) c)
      by_side false has few goes breaks more = more p m n stack c progress has (omega (arith, all)) (omega (arith, le)) few h shown goes breaks
      by_side true has few goes breaks more =
          packet_reach Q v k p (200 * length es + m) n stack c progress has.0 (omega (arith, all)) (omega (arith, le)) (omega (arith, few)) h shown
          (λ q priv mem marks did count holds shows.
          let over = λ (r : Course) (e : with_packets s call output v (k + 1) es q ≡ r). ap (λ x. and_on x (with_packets s call output v (k + 1) es)) did ∙ e in
          more (p + 1) m (200 * length es + m) stack (sent c priv mem marks) q has.1 (omega (arith, all)) (omega arith) (omega (arith, few, count)) holds shows
          (λ q2 priv2 mem2 marks2 did2 count2 holds2 shows2.
          let place : p + length (ir.Packet k ∷ packets_code (k + 1) es output) ≡ p + 1 + length (packets_code (k + 1) es output) = omega arith in
          subst (λ p. Comes_to s handle given code B Q m (at p (v ∷ stack) (sent c priv2 mem2 marks2))) place
          (goes q2 priv2 mem2 marks2 (over (Going q2) did2) (omega (arith, count, count2)) holds2 shows2))
          (λ w q2 broke. breaks w q2 (over (Broken w q2) broke)))
          (λ w q broke. breaks w q (ap (λ x. and_on x (with_packets s call output v (k + 1) es)) broke))
