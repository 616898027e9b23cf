-- Entry 0: a set-key packet.
use Rattle.std.proofs.Common.{◌≡◌, ◌≢◌, ℕ, zero, suc, ◌+◌, ◌*◌, ◌%◌, ◌<◌, ◌≤◌, ◌⊎◌, inl, inr, Bool, true, false, not, ◌==◌, List, [], ◌∷◌, ◌++◌, length, take}
use Rattle.std.proofs.Common.{drop, Option, Some, None, refl, sym, ap, ◌∙◌, subst, arith}
use Rattle.std.specs.Prelude.{if◌then◌else◌, nat_lt, bit_and}
use Rattle.std.proofs.lemmas.List.{length-take, length-drop, take_all}
use Rattle.std.proofs.lemmas.List.Elements.{All-take}
use Rattle.std.proofs.lemmas.Bool.{false≢true, true≢false, and_from, lt-ltb, or_right}
use Rattle.spec_machine.proofs.PublicKept.{put_other}
use Rattle.sx_lang.specs.declared.sides.Side.{Side}
use Rattle.sx_lang.specs.declared.sides.Side.TheVariants.{From, To}
use Rattle.sx_mean.specs.declared.events.End.{End}
use Rattle.sx_mean.specs.Offsets.{end_at}
use Rattle.sx_tag.specs.Wrap.{unwrapped}
use Rattle.sx_tag.specs.Mac.{IsTag}
use Rattle.spec_machine.specs.Memory.{word, put_word, put_bytes, bytes_from}
use Rattle.sx_image.specs.Reach.{Goes}
use Rattle.spec_invocation.specs.Protocol.{entry_register, all_done, no_end, other_tag, set_key_kind, set_key_size}
use Rattle.spec_invocation.specs.Windows.{in_window_size}
use Rattle.spec_invocation.specs.Setup.{Setup, Call}
use Rattle.spec_invocation.specs.Marks as mark
use Rattle.spec_invocation.specs.ModuleState.{ModuleState, EndState, end_of, end_state, with_end, state_of, epoch_of, link_of}
use Rattle.spec_invocation.specs.Windows.{is_bad_window}
use Rattle.spec_invocation.specs.Progress.{Progress, Invoked, Returns}
use Rattle.spec_invocation.specs.Entries.{set_key, set_key_at, key_opened, end_keyed, is_keyed, field_in, second_in, header_in, end_on, side_of, with_received}
use Rattle.sx_ir.specs.Conf.{Conf}
use Rattle.sx_ir.specs.Meaning.{OperationResult, do_op, do_at, is_key_mark, has_key_mark, opened, when}
use Rattle.sx_ir.specs.Meaning as meaning
use Rattle.sx_ir.specs.declared.ir.IrOp.TheVariants as op
use Rattle.sx_ir.specs.declared.ir.Ir.{Ir}
use Rattle.sx_ir.specs.declared.ir.Ir.TheVariants as ir
use Rattle.sx_stub.specs.Stub.{set_key_code, key_found, key_place, search_code, refuse_if, refuse_kind, refuse_unless, cases, find_any, open_any, open_end, is_no_side}
use Rattle.sx_stub.specs.Stub.{wanted_end, is_keyed_code, is_to, slot_word}
use Rattle.sx_stub.specs.Invokes.{ShowsCall, Invokes}
use Rattle.sx_stub.proofs.Mem.{AllBytes, word_lt, word_same, word-put_same, word-put_other, get-put_other, AllBytes-put_word}
use Rattle.sx_stub.proofs.Mem.{AllBytes-put_bytes, bytes_from_put, AllBytes-bytes_from}
use Rattle.sx_stub.proofs.Straight.{At, at, at_front, at_back, pure}
use Rattle.sx_stub.proofs.Slots.{Same, IsKept, with_priv, shows_priv, end_state_is, end_in_slot, state_put}
use Rattle.sx_stub.proofs.Refuse.{returned, refuse_does, unless_does, goes_on, runs_on}
use Rattle.sx_stub.proofs.Chain.{found_by, case_test, chain_does}
use Rattle.sx_stub.proofs.Receive.{receive_does, copied_shows, truth_not}
use Rattle.sx_stub.proofs.Attest.{with_mark, progress_mark, shows_mark}
use Rattle.sx_stub.proofs.Packets.{Holds, holds_copied, holds_put, holds_word, holds_part, upper, lower, upper_lt, IsOpened, opened_body}
use Rattle.sx_stub.proofs.Ends.{FewLinks, any_same, found_in, index_found, slot_pure, and_truth}
use Rattle.sx_stub.proofs.Search.{shows_kept_word, some_place, some_none, search_does, found_at, key_at}
use Rattle.spec_machine.proofs.Lengths.{length-put_word, length-put_bytes}
use Rattle.lemmas.specs.Truth.{truth}
use Rattle.lemmas.proofs.Truths.{truth_small}

-- the test of the end that was found, on words
pub keyed_word : (priv : List ℕ) (ends j : ℕ) (field : ℕ) → AllBytes priv → ends ≤ 16 → j < ends → word priv 74 ≡ 12 * j
    → word priv 18 ≡ field → field < 65536 → (s : Setup)
    → pure s priv (is_keyed_code ends) [] ≡ Some (truth (is_keyed (end_state priv j) field) ∷ [])
keyed_word priv ends j field h few lt index is small s =
    let at_end = word priv (end_at j) in
    let last = ir.Push 0xFF00 ∷ ir.Op op.And ∷ ir.Load 18 ∷ ir.Push 0xFF00 ∷ ir.Op op.And ∷ ir.Op op.Lt ∷ ir.Op op.Not ∷ ir.Op op.And ∷ [] in
    let first = ir.Push 0 ∷ ir.Op op.Eq ∷ ir.Op op.Not ∷ (slot_word ends 0 ++ last) in
    let a : bit_and at_end 0xFF00 ≡ epoch_of at_end * 256 = upper at_end (word_lt priv (end_at j) h) in
    let b : bit_and field 0xFF00 ≡ epoch_of field * 256 = upper field small in
    let opened = word priv (end_at j + 4) in
    slot_pure s priv ends j 2 first [] few lt (omega arith) index refl refl
    ∙ slot_pure s priv ends j 0 last (truth (truth (opened == 0) == 0) ∷ []) few lt (omega arith) index refl refl
    ∙ ap (λ (x : ℕ). Some (bit_and (truth (truth (opened == 0) == 0)) (truth (truth (nat_lt (bit_and (word priv x) 0xFF00) (bit_and (word priv 18) 0xFF00)) == 0)) ∷ [])) (omega arith)
    ∙ ap (λ (x : ℕ). Some (bit_and (truth (truth (opened == 0) == 0)) (truth (truth (nat_lt (bit_and at_end 0xFF00) (bit_and x 0xFF00)) == 0)) ∷ [])) is
    ∙ ap (λ (x : ℕ). Some (bit_and (truth (truth (opened == 0) == 0)) (truth (truth (nat_lt x (bit_and field 0xFF00)) == 0)) ∷ [])) a
    ∙ ap (λ (x : ℕ). Some (bit_and (truth (truth (opened == 0) == 0)) (truth (truth (nat_lt (epoch_of at_end * 256) x) == 0)) ∷ [])) b
    ∙ ap (λ (x : Bool). Some (bit_and (truth (truth (opened == 0) == 0)) (truth (truth x == 0)) ∷ [])) (upper_lt (epoch_of at_end) (epoch_of field))
    ∙ ap (λ (x : ℕ). Some (bit_and x (truth (truth (nat_lt (epoch_of at_end) (epoch_of field)) == 0)) ∷ [])) (truth_not (opened == 0))
    ∙ ap (λ (x : ℕ). Some (bit_and (truth (not (opened == 0))) x ∷ [])) (truth_not (nat_lt (epoch_of at_end) (epoch_of field)))
    ∙ ap (λ (x : ℕ). Some (x ∷ [])) (and_truth (not (opened == 0)) (not (nat_lt (epoch_of at_end) (epoch_of field))))
    ∙ sym (ap (λ (x : EndState). Some (truth (is_keyed x field) ∷ [])) (end_state_is priv j opened at_end (word priv (end_at j + 2)) (bytes_from priv (end_at j + 8) 16) refl refl refl refl))

-- the slot with its new key
pub keyed_end : (priv key : List ℕ) (k field : ℕ) → AllBytes key → length key ≡ 16 → end_at k + 24 ≤ length priv
    → end_state (meaning.slot_keyed priv k field key) k ≡ record { is_open = true; field = field; number = 0; key = key }
keyed_end priv key k field h len le =
    let p1 = put_word priv (end_at k) field in
    let p2 = put_word p1 (end_at k + 2) 0 in
    let p3 = put_word p2 (end_at k + 4) 1 in
    let p4 = put_bytes p3 (end_at k + 8) key in
    let l1 = length-put_word priv (end_at k) field in
    let l2 = length-put_word p1 (end_at k + 2) 0 in
    let l3 = length-put_word p2 (end_at k + 4) 1 in
    end_state_is p4 k 1 field 0 key
    (unput p3 (end_at k + 4) (omega arith) (omega arith) ∙ word-put_same p2 (end_at k + 4) 1 (omega arith) (omega (arith, le, l1, l2)))
    (unput p3 (end_at k) (omega arith) (omega arith) ∙ word-put_other p2 (end_at k + 4) 1 (end_at k) (omega arith) (omega arith) (omega arith)
    ∙ word-put_other p1 (end_at k + 2) 0 (end_at k) (omega arith) (omega arith) (omega arith) ∙ word-put_same priv (end_at k) field (omega arith) (omega (arith, le)))
    (unput p3 (end_at k + 2) (omega arith) (omega arith) ∙ word-put_other p2 (end_at k + 4) 1 (end_at k + 2) (omega arith) (omega arith) (omega arith)
    ∙ word-put_same p1 (end_at k + 2) 0 (omega arith) (omega (arith, le, l1)))
    (ap (bytes_from p4 (end_at k + 8)) (sym len) ∙ bytes_from_put p3 (end_at k + 8) key h (omega (arith, le, l1, l2, l3, len)))
  where
    unput : (m : List ℕ) (a : ℕ) → a % 2 ≡ 0 → a + 1 < end_at k + 8 → word (put_bytes m (end_at k + 8) key) a ≡ word m a
    unput m a e lt = word_same m (put_bytes m (end_at k + 8) key) a a e e (put_other key m (end_at k + 8) a (inl (omega (arith, lt))))
        (put_other key m (end_at k + 8) (a + 1) (inl (omega (arith, lt))))

-- nothing but the slot changes
pub keyed_other : (priv key : List ℕ) (k field i : ℕ) → length key ≡ 16 → (i < end_at k) ⊎ (end_at k + 24 ≤ i)
    → Same priv (meaning.slot_keyed priv k field key) i
keyed_other priv key k field i len o =
    let p1 = put_word priv (end_at k) field in
    let p2 = put_word p1 (end_at k + 2) 0 in
    let p3 = put_word p2 (end_at k + 4) 1 in
    put_other key p3 (end_at k + 8) i (beyond o)
    ∙ get-put_other p2 (end_at k + 4) 1 i (omega arith) (ne o 4 (end_at k + 4) refl (omega arith)) (ne o 5 (end_at k + 4 + 1) (omega arith) (omega arith))
    ∙ get-put_other p1 (end_at k + 2) 0 i (omega arith) (ne o 2 (end_at k + 2) refl (omega arith)) (ne o 3 (end_at k + 2 + 1) (omega arith) (omega arith))
    ∙ get-put_other priv (end_at k) field i (omega arith) (ne o 0 (end_at k) (omega arith) (omega arith)) (ne o 1 (end_at k + 1) refl (omega arith))
  where
    beyond : (i < end_at k) ⊎ (end_at k + 24 ≤ i) → (i < end_at k + 8) ⊎ (end_at k + 8 + length key ≤ i)
    beyond (inl x) = inl (omega (arith, x))
    beyond (inr x) = inr (omega (arith, x, len))

    ne : (i < end_at k) ⊎ (end_at k + 24 ≤ i) → (d a : ℕ) → a ≡ end_at k + d → d < 24 → i ≢ a
    ne (inl x) d a e lt = omega (arith, x, lt, e)
    ne (inr x) d a e lt = omega (arith, x, lt, e)

-- a key was unwrapped last
keyed_last : (marks : List mark.Mark) (header key : List ℕ) → has_key_mark (marks ++ mark.Unwrapped header key true ∷ []) ≡ true
keyed_last [] header key = refl
keyed_last (m ∷ marks) header key = or_right (is_key_mark m) (has_key_mark (marks ++ mark.Unwrapped header key true ∷ [])) (keyed_last marks header key)

abbrev pub with_slot : Progress → ℕ → EndState → Progress
with_slot p k new = record p { state = record p.state { ends = with_end p.state.ends k new } }

-- a change of one slot alone
pub shows_slot : (s : Setup) (call : Call) (p : Progress) (c : Conf) (priv : List ℕ) (q : ℕ) (stack : List ℕ) (k : ℕ) (new : EndState)
    → ShowsCall s call p c → k < length s.ends → length priv ≡ length c.priv → AllBytes priv
    → ((i : ℕ) → (i < end_at k) ⊎ (end_at k + 24 ≤ i) → Same c.priv priv i) → end_state priv k ≡ new
    → ShowsCall s call (with_slot p k new) (with_priv c priv q stack)
shows_slot s call p c priv q stack k new h lt len bytes f e = record {
  size = len ∙ h.size;
  bytes = bytes;
  state = state_put s.tree s.ends c.priv priv k lt (λ i le o. f i o)
      ∙ ap (λ (x : EndState). record (state_of s.tree s.ends c.priv) { ends = with_end (state_of s.tree s.ends c.priv).ends k x }) e
      ∙ ap (λ (x : ModuleState). record x { ends = with_end x.ends k new }) h.state;
  mem = h.mem;
  devices = h.devices;
  marks = h.marks;
  entry = kept 6 refl (omega arith) ∙ h.entry;
  input = kept 8 refl (omega arith) ∙ h.input;
  output = kept 10 refl (omega arith) ∙ h.output;
  back = kept 12 refl (omega arith) ∙ h.back;
}
  where
    kept : (a : ℕ) → a % 2 ≡ 0 → a + 1 < 512 → word priv a ≡ word c.priv a
    kept a e lt = word_same c.priv priv a a e e (f a (inl (omega (arith, lt)))) (f (a + 1) (inl (omega (arith, lt))))

module _ (s : Setup) (call : Call) (handle : ℕ → Conf → OperationResult) (given : ℕ
    → ℕ) (code : List Ir) (p : Progress) (none : p.pieces ≡ []) (tag : IsTag s.mac) (few : length s.ends ≤ 16) (links : FewLinks s.ends) where
  -- the end is opened
  opens : (packet key : List ℕ) (j place : ℕ) (c : Conf) → length packet ≡ 38 → AllBytes packet → AllBytes key
      → length key ≡ 16 → j < length s.ends
      → ShowsCall s call (progress_mark p (mark.Unwrapped (header_in packet) key true)) c → word c.priv 18 ≡ field_in packet
      → bytes_from c.priv 56 16 ≡ key → end_at (length s.ends) ≤ length c.priv
      → At code place (open_end place j (record { link = 0; side = From; port = 0 }))
      → Invokes s call handle given code (Returns all_done (end_keyed j packet key p)) 60 (at c place [])
  opens packet key j place c e h isb len lt shows field read room a =
      let m = mark.Unwrapped (header_in packet) key true in
      let r = Returns all_done (end_keyed j packet key p) in
      let priv = meaning.slot_keyed c.priv j (field_in packet) key in
      let new : EndState = record { is_open = true; field = field_in packet; number = 0; key = key } in
      let l1 = length-put_word c.priv (end_at j) (field_in packet) in
      let l2 = length-put_word (put_word c.priv (end_at j) (field_in packet)) (end_at j + 2) 0 in
      let l3 = length-put_word (put_word (put_word c.priv (end_at j) (field_in packet)) (end_at j + 2) 0) (end_at j + 4) 1 in
      let l4 = length-put_bytes key (put_word (put_word (put_word c.priv (end_at j) (field_in packet)) (end_at j + 2) 0) (end_at j + 4) 1) (end_at j + 8) in
      let bytes5 : AllBytes priv =
      AllBytes-put_bytes (put_word (put_word (put_word c.priv (end_at j) (field_in packet)) (end_at j + 2) 0) (end_at j + 4) 1) (end_at j + 8) key
      (AllBytes-put_word (put_word (put_word c.priv (end_at j) (field_in packet)) (end_at j + 2) 0) (end_at j + 4) 1 (omega arith)
      (AllBytes-put_word (put_word c.priv (end_at j) (field_in packet)) (end_at j + 2) 0 (omega arith)
      (AllBytes-put_word c.priv (end_at j) (field_in packet) (word_lt packet 2 h) shows.bytes))) in
      let shows5 : ShowsCall s call (end_keyed j packet key p) (with_priv c priv (place + 1) []) =
      shows_slot s call (progress_mark p m) c priv (place + 1) [] j new shows lt (l4 ∙ l3 ∙ l2
      ∙ l1) bytes5 (λ i o. keyed_other c.priv key j (field_in packet) i len o) (keyed_end c.priv key j (field_in packet) isb len (omega (arith, lt, room))) in
      let does : do_at s handle (Some (ir.SetEnd j)) (at c place []) ≡ Goes (with_priv c priv (place + 1) []) =
      ap (λ (b : Bool). when b (do_op s handle (ir.SetEnd j) (at c place [])))
      (and_from (has_key_mark c.marks) (nat_lt j (length s.ends)) (ap has_key_mark shows.marks ∙ keyed_last p.marks (header_in packet) key) (lt-ltb j (length s.ends) lt))
      ∙ ap (λ (x : ℕ). Goes (with_priv c (meaning.slot_keyed c.priv j x (bytes_from c.priv 56 16)) (place + 1) [])) field
      ∙ ap (λ (x : List ℕ). Goes (with_priv c (meaning.slot_keyed c.priv j (field_in packet) x) (place + 1) [])) read in
      goes_on s call handle given code r (ir.SetEnd j) (at c place []) (with_priv c priv (place + 1) []) 60 16 a.0 does refl (omega arith)
      (runs_on s call handle given code r (ir.Push 1 ∷ ir.Push 0 ∷ []) (with_priv c priv (place + 1) []) (place + 1) (place + 1 + 1 + 1) [] (0 ∷ 1 ∷ []) 16 0 (a.1.0, (a.1.1.0, tt)) refl
      (omega arith) (omega arith)
      (returned s call handle given code 1 0 (end_keyed j packet key p) (with_priv c priv (place + 1) []) (place + 1 + 1 + 1) 0 a.1.1.1.0 shows5 (ap length (sym none))))

  room_is : (c : Conf) → ShowsCall s call p c → end_at (length s.ends) ≤ length c.priv
  room_is c h = omega (arith, h.size)

  -- from the end that was found on, its index kept
  found_does : (packet : List ℕ) (j : ℕ) (e : End) (t : ℕ → End → Bool) (c3 : Conf) (q : ℕ) → length packet ≡ 38
      → AllBytes packet → ShowsCall s call p c3 → Holds c3.priv packet → word c3.priv 74 ≡ 12 * j
      → found_by t 0 s.ends ≡ Some (j, e) → At code q (key_found s.ends q)
      → Invokes s call handle given code (set_key_at s packet (Some (j, e)) p) 1100 (at c3 q [])
  found_does packet j e t c3 q len h shows3 holds3 index3 found a =
      let inside = found_in t s.ends 0 j e found in
      let lt : j < length s.ends = omega (arith, inside.1) in
      let field = field_in packet in
      let small : field < 65536 = word_lt packet 2 h in
      let field3 : word c3.priv 18 ≡ field = holds_word c3.priv packet 2 refl (omega (arith, len)) holds3 in
      let state3 = end_in_slot s call p c3 j shows3 lt in
      let test : pure s c3.priv (is_keyed_code (length s.ends)) [] ≡ Some (truth (is_keyed (end_of p.state.ends j) field) ∷ []) =
      keyed_word c3.priv (length s.ends) j field shows3.bytes few lt index3 field3 small s
      ∙ sym (ap (λ (x : EndState). Some (truth (is_keyed x field) ∷ [])) state3) in
      let rest2 = cases open_any (q + 29) 0 s.ends in
      let rest1 = ir.Open 0 16 6 56 16 ∷ (refuse_unless (q + 24) [] other_tag ++ rest2) in
      let a1 = at_back code q (q + 23) (refuse_if q (is_keyed_code (length s.ends)) 5) rest1 (omega arith) a in
      refuse_does s call handle given code (is_keyed (end_of p.state.ends j) field) (is_keyed_code (length s.ends)) 5 (truth (is_keyed (end_of p.state.ends j) field)) c3 q (q + 23) 1100 900 []
      (key_opened j packet (unwrapped s.mac s.section.key (header_in packet) (take 16 (drop 6 packet)) (drop 22 packet)) p) p
      (at_front code q (refuse_if q (is_keyed_code (length s.ends)) 5) rest1 a) test refl shows3 none (omega arith) (omega arith)
      (λ x. unseals packet j e t c3 q len h shows3 holds3 found lt index3 a1)
    where
      unseals : (packet : List ℕ) (j : ℕ) (e : End) (t : ℕ → End → Bool) (c3 : Conf) (q : ℕ) → length packet ≡ 38
          → AllBytes packet → ShowsCall s call p c3 → Holds c3.priv packet → found_by t 0 s.ends ≡ Some (j, e)
          → j < length s.ends → word c3.priv 74 ≡ 12 * j
          → At code (q + 23) (ir.Open 0 16 6 56 16 ∷ refuse_unless (q + 24) [] other_tag ++ cases open_any (q + 29) 0 s.ends)
          → Invokes s call handle given code (key_opened j packet (unwrapped s.mac s.section.key (header_in packet) (take 16 (drop 6 packet)) (drop 22 packet)) p) 900 (at c3 (q + 23) [])
      unseals packet j e t c3 q len h shows3 holds3 found lt index3 a1 =
          let d6 = length-drop 6 packet in
          let d22 = length-drop 22 packet in
          let t16 = length-take 16 (drop 6 packet) in
          let ad : bytes_from c3.priv 16 6 ≡ header_in packet = holds_part c3.priv packet 0 6 (omega (arith, len)) holds3 in
          let ci : bytes_from c3.priv 22 16 ≡ take 16 (drop 6 packet) = holds_part c3.priv packet 6 16 (omega (arith, len)) holds3 in
          let tg : bytes_from c3.priv 38 16 ≡ drop 22 packet = holds_part c3.priv packet 22 16 (omega (arith, len)) holds3 ∙ take_all 16 (drop 22 packet) (omega (arith, len, d22)) in
          let isc : AllBytes (take 16 (drop 6 packet)) = subst AllBytes ci (AllBytes-bytes_from c3.priv 22 16 shows3.bytes) in
          let u = unwrapped s.mac s.section.key (header_in packet) (take 16 (drop 6 packet)) (drop 22 packet) in
          let does : do_op s handle (ir.Open 0 16 6 56 16) (at c3 (q + 23) []) ≡ opened (at c3 (q + 23) []) 0 (header_in packet) 56 16 u =
          ap (λ (x : List ℕ). opened (at c3 (q + 23) []) 0 x 56 16 (unwrapped s.mac s.section.key x (bytes_from c3.priv 22 16) (bytes_from c3.priv 38 16))) ad
          ∙ ap (λ (x : List ℕ). opened (at c3 (q + 23) []) 0 (header_in packet) 56 16 (unwrapped s.mac s.section.key (header_in packet) x (bytes_from c3.priv 38 16))) ci
          ∙ ap (λ (x : List ℕ). opened (at c3 (q + 23) []) 0 (header_in packet) 56 16 (unwrapped s.mac s.section.key (header_in packet) (take 16 (drop 6 packet)) x)) tg in
          by_tag u (opened_body s.mac s.section.key (header_in packet) (take 16 (drop 6 packet)) (drop 22 packet) tag (omega (arith, t16)) isc) does
        where
          by_tag : (u : Option (List ℕ)) → IsOpened u
              → do_op s handle (ir.Open 0 16 6 56 16) (at c3 (q + 23) []) ≡ opened (at c3 (q + 23) []) 0 (header_in packet) 56 16 u
              → Invokes s call handle given code (key_opened j packet u p) 900 (at c3 (q + 23) [])
          by_tag None g does =
              let r = Returns other_tag p in
              goes_on s call handle given code r (ir.Open 0 16 6 56 16) (at c3 (q + 23) []) (at c3 (q + 23 + 1) (0 ∷ [])) 900 860 a1.0 does refl (omega arith)
              (subst (λ (x : ℕ). Invokes s call handle given code r 860 (at c3 x (0 ∷ []))) (omega arith)
              (unless_does s call handle given code true [] other_tag 0 c3 (q + 24) (q + 29) 860 780 (0 ∷ []) r p
              (at_front code (q + 24) (refuse_unless (q + 24) [] other_tag) (cases open_any (q + 29) 0 s.ends)
              (subst (λ (x : ℕ). At code x (refuse_unless (q + 24) [] other_tag ++ cases open_any (q + 29) 0 s.ends)) (omega arith) a1.1)) refl refl shows3 none (omega arith)
              (omega arith) (λ x. absurd (true≢false x))))
          by_tag (Some body) g does =
              let key = take 16 body in
              let lk = length-take 16 body in
              let isk : AllBytes key = All-take (λ (b : ℕ). b < 256) 16 body g.1 in
              let m = mark.Unwrapped (header_in packet) key true in
              let r = Returns all_done (end_keyed j packet key p) in
              let p1 = progress_mark p m in
              let room = room_is c3 shows3 in
              let priv4 = put_bytes c3.priv 56 key in
              let c4 = with_mark (with_priv c3 priv4 (q + 23 + 1) (1 ∷ [])) m in
              let lp = length-put_bytes key c3.priv 56 in
              let shows4 : ShowsCall s call p1 c4 = shows_mark s call p (with_priv c3 priv4 (q + 23 + 1) (1 ∷ [])) m
              (shows_priv s call p c3 priv4 (q + 23 + 1) (1 ∷ []) shows3 lp (AllBytes-put_bytes c3.priv 56 key shows3.bytes)
              (λ i kept. put_other key c3.priv 56 i (apart i kept (length key) (omega (arith, lk, g.0))))) in
              let read : bytes_from priv4 56 16 ≡ key = ap (bytes_from priv4 56) (omega (arith, lk, g.0)) ∙ bytes_from_put c3.priv 56 key isk (omega (arith, lk, room)) in
              let index4 : word priv4 74 ≡ 12 * j = word_same c3.priv priv4 74 74 refl refl (put_other key c3.priv 56 74 (inr (omega (arith, lk))))
              (put_other key c3.priv 56 75 (inr (omega (arith, lk)))) ∙ index3 in
              let field4 : word priv4 18 ≡ field_in packet = word_same c3.priv priv4 18 18 refl refl (put_other key c3.priv 56 18 (inl (omega arith)))
              (put_other key c3.priv 56 19 (inl (omega arith))) ∙ holds_word c3.priv packet 2 refl (omega (arith, len)) holds3 in
              let rest = refuse_unless (q + 24) [] other_tag ++ cases open_any (q + 29) 0 s.ends in
              let all : At code (q + 24) rest = subst (λ (x : ℕ). At code x rest) (omega arith) a1.1 in
              goes_on s call handle given code r (ir.Open 0 16 6 56 16) (at c3 (q + 23) []) c4 900 860 a1.0 does refl (omega arith)
              (subst (λ (x : ℕ). Invokes s call handle given code r 860 (at c4 x (1 ∷ []))) (omega arith)
              (unless_does s call handle given code false [] other_tag 1 c4 (q + 24) (q + 29) 860 780 (1 ∷ []) r p1
              (at_front code (q + 24) (refuse_unless (q + 24) [] other_tag) (cases open_any (q + 29) 0 s.ends) all) refl refl shows4 none (omega arith) (omega arith)
              (λ x. chain_does s call handle given code r open_any (12 * j) c4 index4 refl s.ends 0 (q + 29) (q + 29 + length (cases open_any (q + 29) 0 s.ends)) 780 60
              (at_back code (q + 24) (q + 29) (refuse_unless (q + 24) [] other_tag) (cases open_any (q + 29) 0 s.ends)
              (omega arith) all) refl (omega (arith, few))
              (λ j2 e2 place found2 a2.
              let same : j2 ≡ j = some_place j2 j e2 e (sym found2 ∙ index_found t open_any s.ends 0 j e links (λ i d. refl) (λ i d lt x. refl) found) in
              opens packet key j place c4 len h isk (omega (arith, lk, g.0)) lt shows4 field4 read (omega (arith, lp, room))
              (subst (λ (x : ℕ). At code place (open_end place x (record { link = 0; side = From; port = 0 }))) same a2))
              (λ miss. absurd (some_none (j, e) (sym (index_found t open_any s.ends 0 j e links (λ i d. refl) (λ i d lt x. refl) found) ∙ miss))))))
            where
              apart : (i : ℕ) → IsKept i → (n : ℕ) → n ≡ 16 → (i < 56) ⊎ (56 + n ≤ i)
              apart i (inl k) n e = inl (omega (arith, k.1))
              apart i (inr k) n e = inr (omega (arith, k, e))

no_side : (n : ℕ) → nat_lt 1 n ≡ true → side_of n ≡ None
no_side zero h = absurd (false≢true h)
no_side (suc zero) h = absurd (false≢true h)
no_side (suc (suc n)) h = refl

-- a side, and its number
abbrev side_at : ℕ → Side
side_at zero = From
side_at (suc n) = To

some_side : (n : ℕ) → nat_lt 1 n ≡ false → (side_of n ≡ Some (side_at n)) × (n ≡ truth (is_to (side_at n)))
some_side zero h = (refl, refl)
some_side (suc zero) h = (refl, refl)
some_side (suc (suc n)) h = absurd (true≢false (sym (lt-ltb 1 (suc (suc n)) (omega arith)) ∙ h))

if_same : (b : Bool) (x y : Invoked) → (b ≡ true → y ≡ x) → (if b then x else y) ≡ y
if_same true x y f = sym (f refl)
if_same false x y f = refl

module _ (s : Setup) (call : Call) (handle : ℕ → Conf → OperationResult) (given : ℕ
    → ℕ) (code : List Ir) (p : Progress) (c : Conf) (shows : ShowsCall s call p c) (none : p.pieces ≡ []) (bytes : AllBytes p.mem) (window : is_bad_window s call.input in_window_size ≡ false)
    (tag : IsTag s.mac) (few : length s.ends ≤ 16) (links : FewLinks s.ends) (entry : call.entry ≡ 0) (search : ℕ) (at_search : At code search (search_code s.tree s.ends search)) where
  room512 : 512 ≤ length c.priv
  room512 = omega (arith, shows.size)

  -- with the packet copied, and of its kind
  searches : (place : ℕ) (packet : List ℕ) → length packet ≡ 38 → AllBytes packet
      → At code (place + 5) (refuse_if (place + 5) is_no_side 5 ++ (wanted_end ++ ir.Store 72 ∷ ir.Jump search ∷ []))
      → Invokes s call handle given code (set_key s packet p) 2300 (with_priv c (put_bytes c.priv 16 packet) (place + 5) [])
  searches place packet len h a =
      let field = field_in packet in
      let second = second_in packet in
      let c1 = with_priv c (put_bytes c.priv 16 packet) (place + 5) [] in
      let shows1 = copied_shows s call handle given code p c shows none bytes room512 window packet (place + 5) (omega (arith, len)) in
      let holds1 = holds_copied c.priv packet h (omega (arith, len, room512)) in
      let f18 : word c1.priv 18 ≡ field = holds_word c1.priv packet 2 refl (omega (arith, len)) holds1 in
      let s20 : word c1.priv 20 ≡ second = holds_word c1.priv packet 4 refl (omega (arith, len)) holds1 in
      let test : pure s c1.priv is_no_side [] ≡ Some (truth (nat_lt 1 second) ∷ []) = ap (λ (x : ℕ). Some (truth (nat_lt 1 x) ∷ [])) s20 in
      let rest = wanted_end ++ ir.Store 72 ∷ ir.Jump search ∷ [] in
      let a1 = at_back code (place + 5) (place + 12) (refuse_if (place + 5) is_no_side 5) rest (omega arith) a in
      subst (λ (x : Invoked). Invokes s call handle given code x 2300 c1)
      (if_same (nat_lt 1 second) (Returns no_end p) (set_key s packet p) (λ x. ap (λ (o : Option Side). set_key_at s packet (end_on (link_of field) s.ends o) p) (no_side second x)))
      (refuse_does s call handle given code (nat_lt 1 second) is_no_side 5 (truth (nat_lt 1 second)) c1 (place + 5) (place + 12) 2300 2240 [] (set_key s packet p) p
      (at_front code (place + 5) (refuse_if (place + 5) is_no_side 5) rest a) test refl shows1 none (omega arith) (omega arith)
      (λ x. wanted (some_side second x) c1 shows1 holds1 f18 s20 a1))
    where
      wanted : (side_of (second_in packet) ≡ Some (side_at (second_in packet))) × (second_in packet ≡ truth (is_to (side_at (second_in packet))))
          → (c1 : Conf) → ShowsCall s call p c1 → Holds c1.priv packet → word c1.priv 18 ≡ field_in packet
          → word c1.priv 20 ≡ second_in packet → At code (place + 12) (wanted_end ++ ir.Store 72 ∷ ir.Jump search ∷ [])
          → Invokes s call handle given code (set_key s packet p) 2240 (at c1 (place + 12) [])
      wanted side c1 shows1 holds1 f18 s20 a1 =
          let field = field_in packet in
          let second = second_in packet in
          let link = link_of field in
          let sd = side_at second in
          let v = link + 256 * truth (is_to sd) in
          let found = search + 4 * length s.ends + 3 in
          let r = set_key s packet p in
          let b : bit_and field 255 ≡ link = lower field in
          let small : truth (is_to sd) ≤ 1 = truth_small (is_to sd) in
          let value : pure s c1.priv wanted_end [] ≡ Some (v ∷ []) =
          ap (λ (x : ℕ). Some ((bit_and x 255 + (word c1.priv 20 * 256) % 65536) % 65536 ∷ [])) f18
          ∙ ap (λ (x : ℕ). Some ((bit_and field 255 + (x * 256) % 65536) % 65536 ∷ [])) s20
          ∙ ap (λ (x : ℕ). Some ((x + (second * 256) % 65536) % 65536 ∷ [])) b
          ∙ ap (λ (x : ℕ). Some (x ∷ [])) (let e = side.1 in omega (arith, e, small)) in
          let a2 = at_back code (place + 12) (place + 19) wanted_end (ir.Store 72 ∷ ir.Jump search ∷ []) (omega arith) a1 in
          let c2 = with_priv c1 (put_word c1.priv 72 v) search [] in
          let room = shows1.size in
          let shows2 = shows_kept_word s call p c1 72 v search [] shows1 refl (omega arith) (omega arith) (omega (arith, small)) in
          let holds2 = holds_put c1.priv packet 72 v refl (omega (arith, len)) holds1 in
          let here : word c2.priv 72 ≡ v = word-put_same c1.priv 72 v refl (omega (arith, room)) in
          let same : found_by (case_test (find_any found) v) 0 s.ends ≡ end_on link s.ends (side_of second) = any_same found link sd s.ends links (omega arith)
          ∙ sym (ap (λ (o : Option Side). end_on link s.ends o) side.0) in
          runs_on s call handle given code r wanted_end c1 (place + 12) (place + 19) [] (v ∷ []) 2240 2030 (at_front code (place + 12) wanted_end (ir.Store 72 ∷ ir.Jump search ∷ []) a1) value
          (omega arith) (omega arith)
          (goes_on s call handle given code r (ir.Store 72) (at c1 (place + 19) (v ∷ [])) (at c2 (place + 19 + 1) []) 2030 2020 a2.0 refl refl (omega arith)
          (goes_on s call handle given code r (ir.Jump search) (at c2 (place + 19 + 1) []) (at c2 search []) 2020 2010 a2.1.0 refl refl (omega arith)
          (search_does s call handle given code p none few links r v c2 shows2 here search 2010 1200 at_search (omega arith)
          (λ j e hit lt c3 shows3 same_back index3 held.
          subst (λ (o : Option (ℕ × End)). Invokes s call handle given code (set_key_at s packet o p) 1200 (at c3 (found + 1) [])) (sym hit ∙ same)
          (let r2 = set_key_at s packet (Some (j, e)) p in
          let key = key_place s.tree s.ends found in
          let a5 = found_at s.tree s.ends code search at_search in
          runs_on s call handle given code r2 (ir.Saved entry_register ∷ []) c3 (found + 1) (found + 1 + 1) [] (0 ∷ []) 1200 1190 (a5.1.0, tt) (ap (λ (x : ℕ). Some (x ∷ [])) (shows3.entry
          ∙ entry)) refl (omega arith)
          (goes_on s call handle given code r2 (ir.JumpZero key) (at c3 (found + 1 + 1) (0 ∷ [])) (at c3 key []) 1190 1100 a5.1.1.0 refl refl (omega arith)
          (found_does s call handle given code p none tag few links packet j e (case_test (find_any found) v) c3 key len h shows3 (held packet (omega (arith, len)) holds2) index3 hit
          (key_at s.tree s.ends code search at_search)))))
          (λ miss. ap (λ (o : Option (ℕ × End)). set_key_at s packet o p) (sym same ∙ miss)))))

  pub set_key_does : (place k : ℕ) → At code place (set_key_code search place) → 2800 ≤ k
      → Invokes s call handle given code (with_received s call set_key_size set_key_kind p (λ packet. set_key s packet p)) k (at c place [])
  set_key_does place k a le =
      let rest = refuse_if (place + 5) is_no_side 5 ++ (wanted_end ++ ir.Store 72 ∷ ir.Jump search ∷ []) in
      let tests = refuse_kind (place + 1) set_key_kind in
      receive_does s call handle given code p c shows none bytes room512 window place 38 1 k 2300 (λ packet. set_key s packet p) a.0 (at_front code (place + 1) tests rest a.1) refl (omega arith)
      (omega arith) (omega arith) (omega (arith, le))
      (λ packet len h. searches place packet len h (at_back code (place + 1) (place + 5) tests rest (omega arith) a.1))
