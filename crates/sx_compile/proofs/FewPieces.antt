-- An invocation makes at most 16 pieces.
use Rattle.std.proofs.Common.{◌≡◌, ℕ, ◌+◌, ◌*◌, ◌≤◌, Bool, true, false, ◌&&◌, List, [], ◌∷◌, ◌++◌, length, take, Option, Some, None}
use Rattle.std.proofs.Common.{Result, Ok, Err, refl, sym, ap, ◌∙◌, subst, arith, cond}
use Rattle.std.specs.Prelude.{if◌then◌else◌, nat_lt, find}
use Rattle.std.proofs.lemmas.List.{length-append}
use Rattle.std.proofs.lemmas.Option.{none-some, same_Some}
use Rattle.sx_lang.specs.Tree.{HandlerTree, ModuleTree}
use Rattle.sx_check.specs.Names.{same_input}
use Rattle.sx_mean.specs.declared.events.End.{End}
use Rattle.sx_mean.specs.declared.events.Act.{Act}
use Rattle.sx_mean.specs.declared.events.Act.TheVariants.{Send, Emit}
use Rattle.sx_mean.specs.declared.events.SourceEvent.{SourceEvent}
use Rattle.sx_mean.specs.declared.events.SourceEvent.TheVariants as event
use Rattle.sx_mean.specs.Application.{block_packets}
use Rattle.sx_mean.specs.React.{react, run, handler_at, value_of, handler_of_name, input_names, nth}
use Rattle.sx_rules.specs.declared.access.Violation.{Violation}
use Rattle.sx_bus.specs.declared.devices.Window.{Window}
use Rattle.sx_tag.specs.Wrap.{wrapped}
use Rattle.spec_machine.specs.Memory.{word}
use Rattle.spec_invocation.specs.Setup.{Setup, Call}
use Rattle.spec_invocation.specs.Marks as mark
use Rattle.spec_invocation.specs.ModuleState.{EndState, end_of}
use Rattle.spec_invocation.specs.Windows.{write_bytes}
use Rattle.spec_invocation.specs.Progress.{Progress, Course, Going, Broken, and_on, finished, pieces_in}
use Rattle.spec_invocation.specs.Acts.{with_piece, copied_to, with_packet, event_packet, wrap_counted, with_packets, with_act, with_acts, actuated, own_window, handled}
use Rattle.sx_mean.specs.Ends.{is_sending}
use Rattle.spec_invocation.specs.Entries.{attest, sample_read, number_taken, end_keyed}
use Rattle.spec_invocation.specs.Protocol.{event_size, key_size, value_size, last_number}
use Rattle.spec_invocation.proofs.ByEntry.{by_entry}
use Rattle.sx_mean.specs.EndLaws.{senders}
use Rattle.sx_mean.proofs.Ends.{senders-cons}
use Rattle.sx_mean.proofs.SendsCounted.{block_sent, sends_by, sent_by}
use Rattle.sx_compile.specs.Laws.{FewPieces}
use Rattle.sx_lower.specs.Lowering.{SendFew}

-- the acts of an event make at most 16 packets

find_few : (links : ℕ → ℕ) (m : ModuleTree) (test : HandlerTree → Bool) (hs : List HandlerTree) (h : HandlerTree) → SendFew links m hs → find test hs ≡ Some h → block_packets links m.decls h.body ≤ 16
find_few links m test [] h few e = absurd (none-some h e)
find_few links m test (x ∷ hs) h few e = go (test x) e (λ e. find_few links m test hs h few.1 e)
  where
    go : (b : Bool) → cond b (Some x) (find test hs) ≡ Some h → (find test hs ≡ Some h → block_packets links m.decls h.body ≤ 16) → block_packets links m.decls h.body ≤ 16
    go true e f = subst (λ (y : HandlerTree). block_packets links m.decls y.body ≤ 16) (same_Some x h e) few.0
    go false e f = f e

handler_few : (links : ℕ → ℕ) (m : ModuleTree) (e : SourceEvent) (h : HandlerTree) → SendFew links m m.handlers → handler_at m e ≡ Some h → block_packets links m.decls h.body ≤ 16
handler_few links m (event.Input j v) h few e = go (nth (input_names m.decls) j) e
  where
    go : (x : Option (List ℕ)) → handler_of_name x m.handlers ≡ Some h → block_packets links m.decls h.body ≤ 16
    go None e = absurd (none-some h e)
    go (Some x) e = find_few links m (λ h. same_input (Some x) h.input) m.handlers h few e
handler_few links m (event.Sample v) h few e = find_few links m (λ h. same_input None h.input) m.handlers h few e

react_few : (m : ModuleTree) (ends : List End) (e : SourceEvent) (cells : List ℕ) → SendFew (senders ends) m m.handlers → sends_by (senders ends) (react m e cells).acts ≤ 16
react_few m ends e cells few = go (handler_at m e) refl
  where
    go : (o : Option HandlerTree) → handler_at m e ≡ o → sends_by (senders ends) (run m.decls o (value_of e) cells).acts ≤ 16
    go None f = omega arith
    go (Some h) f =
        let a = block_sent m.decls (senders ends) h.body (Rattle.sx_mean.specs.React.start h (value_of e) cells) in
        let b = handler_few (senders ends) m e h few f in
        omega (arith, a, b)

-- what a part of the course adds

abbrev pub pieces_on : Course → List (List ℕ)
pieces_on (Going p) = p.pieces
pieces_on (Broken v p) = p.pieces

abbrev Adds : ℕ → (Progress → Course) → Progress → Type 0
Adds n f p = length (pieces_on (f p)) ≤ length p.pieces + n

adds_then : (n m : ℕ) (f g : Progress → Course) (p : Progress) → Adds n f p → ((r : Progress) → Adds m g r) → Adds (n + m) (λ x. and_on (f x) g) p
adds_then n m f g p a b = go (f p) a
  where
    go : (x : Course) → length (pieces_on x) ≤ length p.pieces + n → length (pieces_on (and_on x g)) ≤ length p.pieces + (n + m)
    go (Broken v r) x = omega (arith, x)
    go (Going r) x = let y = b r in omega (arith, x, y)

piece_adds : (s : Setup) (call : Call) (piece : List ℕ) (p : Progress) → Adds 1 (with_piece s call piece) p
piece_adds s call piece p = go (write_bytes s p.devices p.mem (call.output + event_size * length p.pieces) piece)
  where
    go : (r : Result (List ℕ) Violation) → length (pieces_on (copied_to r (record p { pieces = p.pieces ++ piece ∷ [] }))) ≤ length p.pieces + 1
    go (Err v) = let b = length-append p.pieces (piece ∷ []) in omega (arith, b)
    go (Ok mem) = let b = length-append p.pieces (piece ∷ []) in omega (arith, b)

packet_adds : (s : Setup) (call : Call) (v k : ℕ) (p : Progress) → Adds 1 (with_packet s call v k) p
unfolding with_packet
packet_adds s call v k p = go (end_of p.state.ends k) ((end_of p.state.ends k).is_open && nat_lt (end_of p.state.ends k).number last_number)
  where
    go : (e : EndState) (b : Bool) → length (pieces_on (if b then with_piece s call (event_packet s e v) (wrap_counted k e v p) else Going p)) ≤ length p.pieces + 1
    go e true = piece_adds s call (event_packet s e v) (wrap_counted k e v p)
    go e false = omega arith

packets_add : (s : Setup) (call : Call) (output v k : ℕ) (es : List End) (p : Progress) → Adds (senders es output) (with_packets s call output v k es) p
packets_add s call output v k [] p = omega arith
packets_add s call output v k (e ∷ es) p =
    subst (λ (n : ℕ). length (pieces_on (with_packets s call output v k (e ∷ es) p)) ≤ length p.pieces + n) (sym (senders-cons e es output))
    (go (is_sending output e.side e.port) (packets_add s call output v (k + 1) es))
  where
    go : (b : Bool) → ((r : Progress) → Adds (senders es output) (with_packets s call output v (k + 1) es) r)
        → length (pieces_on (if b then and_on (with_packet s call v k p) (with_packets s call output v (k + 1) es) else with_packets s call output v (k + 1) es p)) ≤ length p.pieces +
        (if b then 1 + senders es output else senders es output)
    go true rest = adds_then 1 (senders es output) (with_packet s call v k) (with_packets s call output v (k + 1) es) p (packet_adds s call v k p) rest
    go false rest = rest p

act_adds : (s : Setup) (call : Call) (a : Act) (p : Progress) → Adds (sent_by (senders s.ends) a) (with_act s call a) p
act_adds s call (Send output v) p = packets_add s call output v 0 s.ends p
act_adds s call (Emit v) p = go (own_window s p.devices)
  where
    go : (o : Option (ℕ × Window)) → length (actuated v o p).pieces ≤ length p.pieces + 0
    go None = omega arith
    go (Some d) = omega arith

acts_add : (s : Setup) (call : Call) (acts : List Act) (p : Progress) → Adds (sends_by (senders s.ends) acts) (with_acts s call acts) p
acts_add s call [] p = omega arith
acts_add s call (a ∷ acts) p = adds_then (sent_by (senders s.ends) a) (sends_by (senders s.ends) acts) (with_act s call a) (with_acts s call acts) p (act_adds s call a p) (acts_add s call acts)

pub handled_few : (s : Setup) (call : Call) (e : SourceEvent) (p : Progress) → SendFew (senders s.ends) s.tree s.tree.handlers → p.pieces ≡ [] → length (pieces_on (handled s call e p)) ≤ 16
unfolding handled
handled_few s call e p few none =
    let done = react s.tree e p.state.cells in
    let a = acts_add s call done.acts (record p { state = record p.state { cells = done.cells } }) in
    let b = react_few s.tree s.ends e p.state.cells few in
    let c = ap length none in
    omega (arith, a, b, c)

pub few_pieces : FewPieces
few_pieces s call p able none =
    by_entry s call p (λ r. length (pieces_in r) ≤ 16)
    (record {
      refused = λ status. nothing p refl;
      violated = λ v. nothing p refl;
      keyed = λ good k packet body. nothing (end_keyed k packet (take key_size body) p) refl;
      attested = λ good ask. attests ask;
      taken = λ good e packet body. handles (event.Input e.1.port (word body 0)) (number_taken e.0 packet (take value_size body) (end_of p.state.ends e.0) p) none;
      sampled = λ good d. handles (event.Sample d.1.value) (sample_read d p) none;
    })
  where
    nothing : (r : Progress) → r.pieces ≡ p.pieces → length r.pieces ≤ 16
    nothing r e = let y = ap length (e ∙ none) in omega (arith, y)

    finishes : (x : Course) → length (pieces_on x) ≤ 16 → length (pieces_in (finished x)) ≤ 16
    finishes (Going r) f = f
    finishes (Broken v r) f = f

    attests : (ask : List ℕ) → length (pieces_in (attest s call ask p)) ≤ 16
    attests ask =
        let r = record p { marks = p.marks ++ mark.Wrapped ask [] true ∷ [] } in
        let piece = (wrapped s.mac s.section.key ask []).tag in
        finishes (with_piece s call piece r) (let a = piece_adds s call piece r in let b = ap length none in omega (arith, a, b))

    handles : (e : SourceEvent) (r : Progress) → r.pieces ≡ [] → length (pieces_in (finished (handled s call e r))) ≤ 16
    handles e r h = finishes (handled s call e r) (handled_few s call e r able.few_packets h)
