-- Entry 2: an event packet.
use Rattle.std.proofs.Common.{◌≡◌, ◌≢◌, ℕ, zero, suc, ◌+◌, ◌-◌, ◌*◌, ◌%◌, ◌<◌, ◌≤◌, ◌⊎◌, inl, inr, Bool, true, false, not, ◌==◌, List, [], ◌∷◌, ◌++◌, length}
use Rattle.std.proofs.Common.{take, drop, Option, Some, None, refl, sym, ap, ◌∙◌, subst, arith}
use Rattle.std.specs.Prelude.{slice_get, if◌then◌else◌, nat_lt, bit_and, ◌&&◌}
use Rattle.std.proofs.lemmas.List.{length-take, length-drop, take_all, get_or-take}
use Rattle.std.proofs.lemmas.List.Elements.{All-take}
use Rattle.std.proofs.lemmas.Bool.{true≢false, and_from, ne_eqb, eqb-false, eqb-true, or_right, not-false}
use Rattle.spec_machine.proofs.PublicKept.{put_other}
use Rattle.sx_lang.specs.declared.sides.Side.{Side}
use Rattle.sx_lang.specs.declared.sides.Side.TheVariants.{From, To}
use Rattle.sx_mean.specs.declared.events.End.{End}
use Rattle.sx_mean.specs.declared.events.SourceEvent.TheVariants as event
use Rattle.sx_mean.specs.Application.{declared_kind}
use Rattle.sx_mean.specs.Offsets.{end_at, end_number_at}
use Rattle.sx_mean.specs.Handlers.{number_of}
use Rattle.sx_tag.specs.Wrap.{unwrapped}
use Rattle.sx_tag.specs.Mac.{IsTag}
use Rattle.spec_machine.specs.Memory.{word, put_word, put_bytes, bytes_from}
use Rattle.sx_image.specs.Reach.{Goes}
use Rattle.spec_invocation.specs.Protocol.{entry_register, no_end, past_number, other_tag, event_kind, event_size}
use Rattle.spec_invocation.specs.Windows.{in_window_size, out_window_size}
use Rattle.spec_invocation.specs.Setup.{Setup, Call}
use Rattle.spec_invocation.specs.Marks as mark
use Rattle.spec_invocation.specs.ModuleState.{EndState, end_of, end_state, epoch_of, link_of}
use Rattle.spec_invocation.specs.Windows.{is_bad_window}
use Rattle.spec_invocation.specs.Progress.{Progress, Invoked, Returns, finished}
use Rattle.spec_invocation.specs.Acts.{handled}
use Rattle.spec_invocation.specs.Entries.{input, input_at, event_numbered, event_opened, number_taken, field_in, second_in, header_in, end_found, with_received}
use Rattle.spec_invocation.specs.Devices.{HasDevices}
use Rattle.sx_ir.specs.Conf.{Conf}
use Rattle.sx_ir.specs.Meaning.{OperationResult, do_at, do_op, is_body_place, is_key_kept, is_key_place, has_key_mark, is_open_slot, opened, key_at, names_no_key, when}
use Rattle.sx_ir.specs.declared.ir.Ir.{Ir}
use Rattle.sx_ir.specs.declared.ir.Ir.TheVariants as ir
use Rattle.sx_ir.specs.declared.ir.IrOp.TheVariants as op
use Rattle.sx_ir.proofs.Shown.{number_spared, slot_body, slot_key, slot_shown}
use Rattle.sx_stub.specs.Stub.{input_code, input_found, key_found, key_place, search_code, refuse_if, refuse_kind, refuse_unless, cases, find_any, take_receiving, take_event, taken_code}
use Rattle.sx_stub.specs.Stub.{handled_by, has_number_above, is_open_code, is_other_epoch, is_past_number, is_receiving, is_to, wanted_receiving}
use Rattle.sx_stub.specs.Invokes.{ShowsCall, Ready, Invokes, HandlersDo}
use Rattle.sx_stub.proofs.Mem.{AllBytes, word_lt, word_same, word-put_same, word-put_other, get-put_other, AllBytes-put_word}
use Rattle.sx_stub.proofs.Mem.{AllBytes-put_bytes, get-put_bytes_in, bytes_from_same, AllBytes-bytes_from}
use Rattle.sx_stub.proofs.Straight.{At, at, at_front, at_back, pure}
use Rattle.sx_stub.proofs.Slots.{Same, IsKept, with_priv, shows_priv, end_with, end_state_is, end_in_slot, end_state_same}
use Rattle.sx_stub.proofs.Refuse.{refuse_does, refuse_zero, unless_does, or_if, sub_zero, not_twice, goes_on, runs_on, within}
use Rattle.sx_stub.proofs.Chain.{found_by, case_test, chain_does}
use Rattle.sx_stub.proofs.Receive.{receive_does, copied_shows}
use Rattle.sx_stub.proofs.Attest.{with_mark, progress_mark, shows_mark}
use Rattle.sx_stub.proofs.Packets.{Holds, holds_copied, holds_put, holds_word, holds_part, upper, lower, upper_eq, IsOpened, opened_body}
use Rattle.sx_stub.proofs.Ends.{FewLinks, any_same, found_in, index_found, slot_pure}
use Rattle.sx_stub.proofs.Search.{shows_kept_word, some_place, some_none, search_does, found_at, both_at}
use Rattle.sx_stub.proofs.SetKey.{shows_slot}
use Rattle.sx_stub.proofs.Handling.{handles}
use Rattle.spec_machine.proofs.Lengths.{length-put_word, length-put_bytes}
use Rattle.lemmas.specs.Truth.{truth}

-- Tests of the end that was found, on words.

state_is : (priv : List ℕ) (j : ℕ)
    → end_state priv j ≡ end_with (word priv (end_at j + 4)) (word priv (end_at j)) (word priv (end_at j + 2)) (bytes_from priv (end_at j + 8) 16)
state_is priv j = end_state_is priv j (word priv (end_at j + 4)) (word priv (end_at j)) (word priv (end_at j + 2)) (bytes_from priv (end_at j + 8) 16) refl refl refl refl

open_word : (s : Setup) (priv : List ℕ) (ends j : ℕ) → ends ≤ 16 → j < ends → word priv 74 ≡ 12 * j
    → pure s priv (is_open_code ends) [] ≡ Some (word priv (end_at j + 4) ∷ [])
open_word s priv ends j few lt index = slot_pure s priv ends j 2 [] [] few lt (omega arith) index refl refl

open_zero : (priv : List ℕ) (j : ℕ) → (word priv (end_at j + 4) == 0) ≡ not (end_state priv j).is_open
open_zero priv j = not_twice (word priv (end_at j + 4) == 0) ∙ sym (ap (λ (x : EndState). not x.is_open) (state_is priv j))

epoch_word : (s : Setup) (priv : List ℕ) (ends j field : ℕ) → AllBytes priv → ends ≤ 16 → j < ends
    → word priv 74 ≡ 12 * j → word priv 18 ≡ field → field < 65536
    → pure s priv (is_other_epoch ends) [] ≡ Some ((epoch_of (end_state priv j).field * 256 + (65536 - epoch_of field * 256)) % 65536 ∷ [])
epoch_word s priv ends j field h few lt index is small =
    let f = word priv (end_at j) in
    let last = ir.Push 0xFF00 ∷ ir.Op op.And ∷ ir.Load 18 ∷ ir.Push 0xFF00 ∷ ir.Op op.And ∷ ir.Op op.Sub ∷ [] in
    slot_pure s priv ends j 0 last [] few lt (omega arith) index refl refl
    ∙ ap (λ (x : ℕ). Some ((bit_and (word priv x) 0xFF00 + (65536 - bit_and (word priv 18) 0xFF00)) % 65536 ∷ [])) (omega arith)
    ∙ ap (λ (x : ℕ). Some ((bit_and f 0xFF00 + (65536 - bit_and x 0xFF00)) % 65536 ∷ [])) is
    ∙ ap (λ (x : ℕ). Some ((x + (65536 - bit_and field 0xFF00)) % 65536 ∷ [])) (upper f (word_lt priv (end_at j) h))
    ∙ ap (λ (x : ℕ). Some ((epoch_of f * 256 + (65536 - x)) % 65536 ∷ [])) (upper field small)
    ∙ sym (ap (λ (x : EndState). Some ((epoch_of x.field * 256 + (65536 - epoch_of field * 256)) % 65536 ∷ [])) (state_is priv j))

epoch_zero : (a b : ℕ) → a < 65536 → b < 65536 → ((epoch_of a * 256 + (65536 - epoch_of b * 256)) % 65536 == 0) ≡ not (not (epoch_of a == epoch_of b))
epoch_zero a b p q = sub_zero (epoch_of a * 256) (epoch_of b * 256) (omega (arith, p)) (omega (arith, q)) ∙ upper_eq (epoch_of a) (epoch_of b) ∙ not_twice (epoch_of a == epoch_of b)

number_word : (s : Setup) (priv : List ℕ) (ends j second : ℕ) → ends ≤ 16 → j < ends → word priv 74 ≡ 12 * j
    → word priv 20 ≡ second
    → pure s priv (is_past_number ends) [] ≡ Some (truth (nat_lt second (end_state priv j).number) ∷ [])
number_word s priv ends j second few lt index is =
    slot_pure s priv ends j 1 (ir.Op op.Lt ∷ []) (word priv 20 ∷ []) few lt (omega arith) index refl refl
    ∙ ap (λ (x : ℕ). Some (truth (nat_lt x (word priv (end_at j + 2 * 1))) ∷ [])) is
    ∙ ap (λ (x : ℕ). Some (truth (nat_lt second (word priv x)) ∷ [])) (omega arith)
    ∙ sym (ap (λ (x : EndState). Some (truth (nat_lt second x.number) ∷ [])) (state_is priv j))

key_is : (s : Setup) (c : Conf) (k : ℕ) → 0 < k → key_at s c k ≡ bytes_from c.priv k 16
key_is s c zero lt = absurd (omega (arith, lt))
key_is s c (suc k) lt = refl

some_end : (a b : ℕ) (x y : End) → ◌≡◌ {A = Option (ℕ × End)} (Some (a, x)) (Some (b, y)) → x ≡ y
some_end a b x y h = ap (λ (o : Option (ℕ × End)). end_in o) h
  where
    end_in : Option (ℕ × End) → End
    end_in None = x
    end_in (Some z) = z.1

-- the number rises in the slot
number_end : (priv : List ℕ) (k v : ℕ) → end_at k + 24 ≤ length priv → end_state (put_word priv (end_at k + 2) v) k ≡ record (end_state priv k) { number = v }
number_end priv k v le =
    let p1 = put_word priv (end_at k + 2) v in
    end_state_is p1 k (word priv (end_at k + 4)) (word priv (end_at k)) v (bytes_from priv (end_at k + 8) 16)
    (word-put_other priv (end_at k + 2) v (end_at k + 4) (omega arith) (omega arith) (omega arith))
    (word-put_other priv (end_at k + 2) v (end_at k) (omega arith) (omega arith) (omega arith))
    (word-put_same priv (end_at k + 2) v (omega arith) (omega (arith, le)))
    (bytes_from_same priv p1 (end_at k + 8) (end_at k + 8) 16 (λ i lt. get-put_other priv (end_at k + 2) v (end_at k + 8 + i) (omega arith) (omega arith) (omega arith)))
    ∙ sym (ap (λ (x : EndState). record x { number = v }) (state_is priv k))

end_same : (m n : List ℕ) (k : ℕ) → ((i : ℕ) → 512 ≤ i → Same m n i) → end_state n k ≡ end_state m k
end_same m n k f = end_state_same m n k (λ i p q. f i (omega (arith, p)))

module _ (s : Setup) (call : Call) (handle : ℕ → Conf → OperationResult) (given : ℕ
    → ℕ) (code : List Ir) (p : Progress) (none : p.pieces ≡ []) (tag : IsTag s.mac) (few : length s.ends ≤ 16) (links : FewLinks s.ends)
    (outside : is_bad_window s call.output out_window_size ≡ false) (devices : HasDevices p.devices (declared_kind s.tree.decls) s.section.layout) (cost : ℕ)
    (does : HandlersDo s handle given code cost) (fresh : p.marks ≡ []) where
  -- the event is taken, and handled
  takes : (packet body : List ℕ) (j : ℕ) (e : End) (place : ℕ) (c : Conf) → length packet ≡ 24 → AllBytes packet
      → AllBytes body → length body ≡ 32 → j < length s.ends → c.back ≡ None → second_in packet ≢ 65535
      → ShowsCall s call (progress_mark p (mark.Unwrapped (header_in packet) (take 2 body) false)) c
      → word c.priv 20 ≡ second_in packet → word c.priv 2 ≡ word body 0 → end_state c.priv j ≡ end_of p.state.ends j
      → At code place (taken_code s.tree j e)
      → Invokes s call handle given code (finished (handled s call (event.Input e.port (word body 0)) (number_taken j packet (take 2 body) (end_of p.state.ends j) p))) (cost + 100) (at c place [])
  takes packet body j e place c len h isb len32 lt back last shows second value state a =
      let m = mark.Unwrapped (header_in packet) (take 2 body) false in
      let st = end_of p.state.ends j in
      let v = second_in packet + 1 in
      let ev = event.Input e.port (word body 0) in
      let p2 = number_taken j packet (take 2 body) st p in
      let r = finished (handled s call ev p2) in
      let small : second_in packet < 65536 = word_lt packet 4 h in
      let sum : pure s c.priv (ir.Load 20 ∷ ir.Push 1 ∷ ir.Op op.Add ∷ []) [] ≡ Some (v ∷ []) = ap (λ (x : ℕ). Some ((x + 1) % 65536 ∷ [])) second
      ∙ ap (λ (x : ℕ). Some (x ∷ [])) (omega (arith, small, last)) in
      let size = shows.size in
      let priv5 = put_word c.priv (end_at j + 2) v in
      let c5 = with_priv c priv5 (place + 4) [] in
      let shows5 : ShowsCall s call p2 c5 = shows_slot s call (progress_mark p m) c priv5 (place + 4) [] j (record st { number = v }) shows lt (length-put_word c.priv (end_at j + 2) v)
      (AllBytes-put_word c.priv (end_at j + 2) v (omega (arith, small, last)) shows.bytes)
      (λ i o. get-put_other c.priv (end_at j + 2) v i (omega arith) (apart i o 0 (end_at j + 2) (omega arith) (omega arith)) (apart i o 1 (end_at j + 2 + 1) (omega arith) (omega arith)))
      (number_end c.priv j v (omega (arith, size, lt)) ∙ ap (λ (x : EndState). record x { number = v }) state) in
      let ready : Ready s call ev p2 c5 = record {
        shows = shows5;
        value = word-put_other c.priv (end_at j + 2) v 2 (omega arith) refl (omega arith) ∙ value;
        pieces = none;
        unkeyed = ap has_key_mark shows.marks ∙ ap (λ (l : List mark.Mark). has_key_mark (l ++ m ∷ [])) fresh;
        stack = refl;
        back = back;
        window = outside;
        devices =
            devices;
      } in
      runs_on s call handle given code r (ir.Load 20 ∷ ir.Push 1 ∷ ir.Op op.Add ∷ []) c place (place + 3) [] (v ∷ []) (cost + 100) (cost + 76) (a.0, (a.1.0, (a.1.1.0, tt))) sum refl (omega arith)
      (goes_on s call handle given code r (ir.Store (end_number_at j)) (at c (place + 3) (v ∷ [])) (at c5 (place + 3 + 1) []) (cost + 76) (cost + 68) (ap (slice_get code) (omega arith)
      ∙ a.1.1.1.0) (ap (λ (b : Bool). when b (do_op s handle (ir.Store (end_number_at j)) (at c (place + 3) (v ∷ []))))
      (and_from _ _ (number_spared (length s.ends) j) (slot_shown (length s.ends) j 2 2 (omega arith)))) refl (omega arith)
      (subst (λ (x : ℕ). Invokes s call handle given code r (cost + 68) (at c5 x [])) (omega arith)
      (within s call handle given code r (cost + 68) (cost + 16) (at c5 (place + 4) []) (omega arith)
      (handles s call handle given code ev p2 c5 (place + 4) cost ready (λ x n. does ev x n) (subst (λ (x : ℕ). At code x (handled_by (number_of s.tree ev))) (omega arith) a.1.1.1.1)))))
    where
      apart : (i : ℕ) → (i < end_at j) ⊎ (end_at j + 24 ≤ i) → (d b : ℕ) → b ≡ end_at j + 2 + d → d < 2 → i ≢ b
      apart i (inl x) d b e lt = omega (arith, x, e, lt)
      apart i (inr x) d b e lt = omega (arith, x, e, lt)

  -- the packet is opened
  opens : (packet : List ℕ) (j : ℕ) (e : End) (place : ℕ) (c : Conf) → length packet ≡ 24 → AllBytes packet
      → j < length s.ends → c.back ≡ None → second_in packet ≢ 65535 → (end_of p.state.ends j).is_open ≡ true → ShowsCall s call p c → Holds c.priv packet
      → At code place (take_event s.tree place j e)
      → Invokes s call handle given code (event_opened s call (j, e) packet (unwrapped s.mac (end_of p.state.ends j).key (header_in packet) (take 2 (drop 6 packet)) (drop 8 packet)) p) (cost + 200)
      (at c place [])
  opens packet j e place c len h lt back last is_open shows holds a =
      let d6 = length-drop 6 packet in
      let d8 = length-drop 8 packet in
      let t2 = length-take 2 (drop 6 packet) in
      let k = end_at j + 8 in
      let st = end_of p.state.ends j in
      let key : key_at s c k ≡ st.key = key_is s c k (omega arith) ∙ sym (ap (λ (x : EndState). x.key) (end_in_slot s call p c j shows lt ∙ state_is c.priv j)) in
      let ad : bytes_from c.priv 16 6 ≡ header_in packet = holds_part c.priv packet 0 6 (omega (arith, len)) holds in
      let ci : bytes_from c.priv 22 2 ≡ take 2 (drop 6 packet) = holds_part c.priv packet 6 2 (omega (arith, len)) holds in
      let tg : bytes_from c.priv 24 16 ≡ drop 8 packet = holds_part c.priv packet 8 16 (omega (arith, len)) holds ∙ take_all 16 (drop 8 packet) (omega (arith, len, d8)) in
      let isc : AllBytes (take 2 (drop 6 packet)) = subst AllBytes ci (AllBytes-bytes_from c.priv 22 2 shows.bytes) in
      let u = unwrapped s.mac st.key (header_in packet) (take 2 (drop 6 packet)) (drop 8 packet) in
      let named : names_no_key (length s.ends) (ir.Open k 16 6 2 2) [] ≡ true = and_from (is_key_place (length s.ends) k) (is_body_place k 2 2) (slot_key (length s.ends) j lt)
      (slot_body k 2 2 (omega arith)) in
      let four : k - 4 ≡ end_at j + 4 = omega arith in
      let open_slot : is_open_slot c.priv k ≡ true = ap (λ (o : ℕ). not (word c.priv o == 0)) four
      ∙ sym (ap (λ (x : EndState). x.is_open) (end_in_slot s call p c j shows lt ∙ state_is c.priv j)) ∙ is_open in
      let unkeyed : not (has_key_mark c.marks) ≡ true = ap (λ (l : List mark.Mark). not (has_key_mark l)) (shows.marks ∙ fresh) in
      let kept : is_key_kept (at c place []) k ≡ true = or_right (k == 0) (is_open_slot c.priv k && not (has_key_mark c.marks))
      (and_from (is_open_slot c.priv k) (not (has_key_mark c.marks)) open_slot unkeyed) in
      let does1 : do_at s handle (Some (ir.Open k 16 6 2 2)) (at c place []) ≡ opened (at c place []) k (header_in packet) 2 2 u =
      ap (λ (b : Bool). when b (do_op s handle (ir.Open k 16 6 2 2) (at c place []))) (and_from (is_key_kept (at c place []) k) (names_no_key (length s.ends) (ir.Open k 16 6 2 2) []) kept named) ∙
      ap (λ (x : List ℕ). opened (at c place []) k (bytes_from c.priv 16 6) 2 2 (unwrapped s.mac x (bytes_from c.priv 16 6) (bytes_from c.priv 22 2) (bytes_from c.priv 24 16))) key
      ∙ ap (λ (x : List ℕ). opened (at c place []) k x 2 2 (unwrapped s.mac st.key x (bytes_from c.priv 22 2) (bytes_from c.priv 24 16))) ad
      ∙ ap (λ (x : List ℕ). opened (at c place []) k (header_in packet) 2 2 (unwrapped s.mac st.key (header_in packet) x (bytes_from c.priv 24 16))) ci
      ∙ ap (λ (x : List ℕ). opened (at c place []) k (header_in packet) 2 2 (unwrapped s.mac st.key (header_in packet) (take 2 (drop 6 packet)) x)) tg in
      by_tag u (opened_body s.mac st.key (header_in packet) (take 2 (drop 6 packet)) (drop 8 packet) tag (omega (arith, t2)) isc) does1
    where
      by_tag : (u : Option (List ℕ)) → IsOpened u
          → do_at s handle (Some (ir.Open (end_at j + 8) 16 6 2 2)) (at c place []) ≡ opened (at c place []) (end_at j + 8) (header_in packet) 2 2 u
          → Invokes s call handle given code (event_opened s call (j, e) packet u p) (cost + 200) (at c place [])
      by_tag None g d =
          let r = Returns other_tag p in
          goes_on s call handle given code r (ir.Open (end_at j + 8) 16 6 2 2) (at c place []) (at c (place + 1) (0 ∷ [])) (cost + 200) (cost + 170) a.0 d refl (omega arith)
          (unless_does s call handle given code true [] other_tag 0 c (place + 1) (place + 6) (cost + 170) (cost + 100) (0 ∷ []) r p
          (at_front code (place + 1) (refuse_unless (place + 1) [] other_tag) (taken_code s.tree j e) a.1) refl refl shows none (omega arith) (omega arith) (λ x. absurd (true≢false x)))
      by_tag (Some body) g d =
          let value = take 2 body in
          let lv = length-take 2 body in
          let isv : AllBytes value = All-take (λ (b : ℕ). b < 256) 2 body g.1 in
          let m = mark.Unwrapped (header_in packet) value false in
          let p1 = progress_mark p m in
          let r = finished (handled s call (event.Input e.port (word body 0)) (number_taken j packet value (end_of p.state.ends j) p)) in
          let size = shows.size in
          let len2 : length value ≡ 2 = omega (arith, lv, g.0) in
          let priv4 = put_bytes c.priv 2 value in
          let c4 = with_mark (with_priv c priv4 (place + 1) (1 ∷ [])) m in
          let shows4 : ShowsCall s call p1 c4 = shows_mark s call p (with_priv c priv4 (place + 1) (1 ∷ [])) m
          (shows_priv s call p c priv4 (place + 1) (1 ∷ []) shows (length-put_bytes value c.priv 2) (AllBytes-put_bytes c.priv 2 value shows.bytes)
          (λ i kept. put_other value c.priv 2 i (apart i kept (length value) len2))) in
          let own : (end_at j + 8 == 0) ≡ false = ne_eqb (end_at j + 8) 0 (omega arith) in
          let d2 : do_at s handle (Some (ir.Open (end_at j + 8) 16 6 2 2)) (at c place []) ≡ Goes c4 = d
          ∙ ap (λ (b : Bool). Goes (with_mark (with_priv c priv4 (place + 1) (1 ∷ [])) (mark.Unwrapped (header_in packet) value b))) own in
          let second4 : word priv4 20 ≡ second_in packet = word_same c.priv priv4 20 20 refl refl (put_other value c.priv 2 20 (inr (omega (arith, len2))))
          (put_other value c.priv 2 21 (inr (omega (arith, len2)))) ∙ holds_word c.priv packet 4 refl (omega (arith, len)) holds in
          let value4 : word priv4 2 ≡ word body 0 = word_same body priv4 0 2 refl refl
          (get-put_bytes_in c.priv 2 value 0 isv (omega (arith, len2)) (omega (arith, len2, size)) ∙ get_or-take 2 body 0 0 (omega arith))
          (get-put_bytes_in c.priv 2 value 1 isv (omega (arith, len2)) (omega (arith, len2, size)) ∙ get_or-take 2 body 1 0 (omega arith)) in
          let state4 : end_state priv4 j ≡ end_of p.state.ends j = end_same c.priv priv4 j (λ i le. put_other value c.priv 2 i (inr (omega (arith, le, len2))))
          ∙ sym (end_in_slot s call p c j shows lt) in
          goes_on s call handle given code r (ir.Open (end_at j + 8) 16 6 2 2) (at c place []) c4 (cost + 200) (cost + 170) a.0 d2 refl (omega arith)
          (unless_does s call handle given code false [] other_tag 1 c4 (place + 1) (place + 6) (cost + 170) (cost + 100) (1 ∷ []) r p1
          (at_front code (place + 1) (refuse_unless (place + 1) [] other_tag) (taken_code s.tree j e) a.1) refl refl shows4 none (omega arith) (omega arith)
          (λ x. takes packet body j e (place + 6) c4 len h g.1 g.0 lt back last shows4 second4 value4 state4 (at_back code (place + 1) (place + 6) (refuse_unless (place + 1) [] other_tag)
          (taken_code s.tree j e) (omega arith) a.1)))
        where
          apart : (i : ℕ) → IsKept i → (n : ℕ) → n ≡ 2 → (i < 2) ⊎ (2 + n ≤ i)
          apart i (inl k) n e = inr (omega (arith, k.0, e))
          apart i (inr k) n e = inr (omega (arith, k, e))

  -- from the end that was found on, its index kept
  found_does : (packet : List ℕ) (j : ℕ) (e : End) (t : ℕ → End → Bool) (c3 : Conf) (q : ℕ) → length packet ≡ 24
      → AllBytes packet → c3.back ≡ None → ShowsCall s call p c3 → Holds c3.priv packet → word c3.priv 74 ≡ 12 * j
      → found_by t 0 s.ends ≡ Some (j, e) → ((i : ℕ) (d : End) → d.link < 256 → t i d ≡ true → is_receiving d ≡ true)
      → At code q (input_found s.tree s.ends q)
      → Invokes s call handle given code (input_at s call packet (Some (j, e)) p) (cost + 1400) (at c3 q [])
  found_does packet j e t c3 q len h back shows3 holds3 index3 found receives a =
      let inside = found_in t s.ends 0 j e found in
      let lt : j < length s.ends = omega (arith, inside.1) in
      let n = length s.ends in
      let field = field_in packet in
      let second = second_in packet in
      let st = end_of p.state.ends j in
      let smallf : field < 65536 = word_lt packet 2 h in
      let field3 : word c3.priv 18 ≡ field = holds_word c3.priv packet 2 refl (omega (arith, len)) holds3 in
      let second3 : word c3.priv 20 ≡ second = holds_word c3.priv packet 4 refl (omega (arith, len)) holds3 in
      let state3 = end_in_slot s call p c3 j shows3 lt in
      let smalls : st.field < 65536 = subst (λ (x : EndState). x.field < 65536) (sym (state3 ∙ state_is c3.priv j)) (word_lt c3.priv (end_at j) shows3.bytes) in
      let d = (epoch_of st.field * 256 + (65536 - epoch_of field * 256)) % 65536 in
      let open_mark = word c3.priv (end_at j + 4) in
      let opened : pure s c3.priv (is_open_code n) [] ≡ Some (open_mark ∷ []) = open_word s c3.priv n j few lt index3 in
      let closed : (open_mark == 0) ≡ not st.is_open = open_zero c3.priv j ∙ sym (ap (λ (x : EndState). not x.is_open) state3) in
      let epoch : pure s c3.priv (is_other_epoch n) [] ≡ Some (d ∷ []) = epoch_word s c3.priv n j field shows3.bytes few lt index3 field3 smallf
      ∙ sym (ap (λ (x : EndState). Some ((epoch_of x.field * 256 + (65536 - epoch_of field * 256)) % 65536 ∷ [])) state3) in
      let number : pure s c3.priv (is_past_number n) [] ≡ Some (truth (nat_lt second st.number) ∷ []) = number_word s c3.priv n j second few lt index3 second3
      ∙ sym (ap (λ (x : EndState). Some (truth (nat_lt second x.number) ∷ [])) state3) in
      let above = (second + (65536 - 65535)) % 65536 in
      let small : second < 65536 = word_lt packet 4 h in
      let final : pure s c3.priv has_number_above [] ≡ Some (above ∷ []) = ap (λ (x : ℕ). Some ((x + (65536 - 65535)) % 65536 ∷ [])) second3 in
      let r4 = cases (take_receiving s.tree) (q + 41) 0 s.ends in
      let r3 = refuse_unless (q + 33) has_number_above 6 ++ r4 in
      let r2 = refuse_if (q + 23) (is_past_number n) 6 ++ r3 in
      let r1 = refuse_if (q + 9) (is_other_epoch n) 5 ++ r2 in
      let a1 = at_back code q (q + 9) (refuse_unless q (is_open_code n) 5) r1 (omega arith) a in
      let a2 = at_back code (q + 9) (q + 23) (refuse_if (q + 9) (is_other_epoch n) 5) r2 (omega arith) a1 in
      let a3 = at_back code (q + 23) (q + 33) (refuse_if (q + 23) (is_past_number n) 6) r3 (omega arith) a2 in
      let a4 = at_back code (q + 33) (q + 41) (refuse_unless (q + 33) has_number_above 6) r4 (omega arith) a3 in
      let R = input_at s call packet (Some (j, e)) p in
      let numbered = event_numbered s call (j, e) packet st p in
      let u = unwrapped s.mac st.key (header_in packet) (take 2 (drop 6 packet)) (drop 8 packet) in
      let rest = event_opened s call (j, e) packet u p in
      subst (λ (x : Invoked). Invokes s call handle given code x (cost + 1400) (at c3 q [])) (sym (or_if (not st.is_open) (not (epoch_of st.field == epoch_of field)) (Returns no_end p) numbered))
      (unless_does s call handle given code (not st.is_open) (is_open_code n) 5 open_mark c3 q (q + 9) (cost + 1400) (cost + 1320) []
      (if not (epoch_of st.field == epoch_of field) then Returns no_end p else numbered) p (at_front code q (refuse_unless q (is_open_code n) 5) r1 a) opened closed shows3 none (omega arith)
      (omega arith)
      (λ x1. refuse_zero s call handle given code (not (epoch_of st.field == epoch_of field)) (is_other_epoch n) 5 d c3 (q + 9) (q + 23) (cost + 1320) (cost + 1200) [] numbered p
      (at_front code (q + 9) (refuse_if (q + 9) (is_other_epoch n) 5) r2 a1) epoch (epoch_zero st.field field smalls smallf) shows3 none (omega arith) (omega arith)
      (λ x2. subst (λ (x : Invoked). Invokes s call handle given code x (cost + 1200) (at c3 (q + 23) [])) (sym (or_if (nat_lt second st.number) (second == 65535) (Returns past_number p) rest))
      (refuse_does s call handle given code (nat_lt second st.number) (is_past_number n) 6 (truth (nat_lt second st.number)) c3 (q + 23) (q + 33) (cost + 1200) (cost + 1100) []
      (if second == 65535 then Returns past_number p else rest) p (at_front code (q + 23) (refuse_if (q + 23) (is_past_number n) 6) r3 a2) number refl shows3 none (omega arith) (omega arith)
      (λ x3. unless_does s call handle given code (second == 65535) has_number_above 6 above c3 (q + 33) (q + 41) (cost + 1100) (cost + 1000) [] rest p
      (at_front code (q + 33) (refuse_unless (q + 33) has_number_above 6) r4 a3) final (sub_zero second 65535 small (omega arith)) shows3 none (omega arith) (omega arith)
      (λ x4. chain_does s call handle given code rest (take_receiving s.tree) (12 * j) c3 index3 refl s.ends 0 (q + 41) (q + 41 + length r4) (cost + 1000) (cost + 200)
      a4 refl (omega (arith, few))
      (λ j2 e2 place found2 a5.
      let again = sym found2 ∙ index_found t (take_receiving s.tree) s.ends 0 j e links (λ i d. refl) receives found in
      let a6 = subst (λ (x : ℕ). At code place (take_event s.tree place x e2)) (some_place j2 j e2 e again) a5 in
      let a7 = subst (λ (x : End). At code place (take_event s.tree place j x)) (some_end j2 j e2 e again) a6 in
      opens packet j e place c3 len h lt back (eqb-false second 65535 x4) (not-false st.is_open x1) shows3 holds3 a7)
      (λ miss. absurd (some_none (j, e) (sym (index_found t (take_receiving s.tree) s.ends 0 j e links (λ i d. refl) receives found) ∙ miss)))))))))

-- an end that is found for a receiving side receives
receives_to : (found link : ℕ) (i : ℕ) (d : End) → link < 256 → d.link < 256
    → case_test (find_any found) (link + 256 * 1) i d ≡ true → is_receiving d ≡ true
receives_to found link i d p q h = go d.side (let e = eqb-true (link + 256 * 1) (d.link + 256 * truth (is_to d.side)) h in e)
  where
    go : (sd : Side) → link + 256 * 1 ≡ d.link + 256 * truth (is_to sd) → is_to sd ≡ true
    go To e = refl
    go From e = absurd (omega (arith, e, p, q))

module _ (s : Setup) (call : Call) (handle : ℕ → Conf → OperationResult) (given : ℕ
    → ℕ) (code : List Ir) (p : Progress) (c : Conf) (shows : ShowsCall s call p c) (none : p.pieces ≡ []) (bytes : AllBytes p.mem) (back : c.back ≡ None)
    (window : is_bad_window s call.input in_window_size ≡ false) (outside : is_bad_window s call.output out_window_size ≡ false) (tag : IsTag s.mac) (few : length s.ends ≤ 16)
    (links : FewLinks s.ends) (devices : HasDevices p.devices (declared_kind s.tree.decls) s.section.layout) (cost : ℕ) (does : HandlersDo s handle given code cost) (fresh : p.marks ≡ []) (entry : call.entry ≡ 2)
    (search : ℕ) (at_search : At code search (search_code s.tree s.ends search)) where
  room512 : 512 ≤ length c.priv
  room512 = omega (arith, shows.size)

  -- with the packet copied, and of its kind
  searches : (place : ℕ) (packet : List ℕ) → length packet ≡ 24 → AllBytes packet
      → place + 11 ≡ search → At code (place + 5) (wanted_receiving ++ ir.Store 72 ∷ [])
      → Invokes s call handle given code (input s call packet p) (cost + 2300) (with_priv c (put_bytes c.priv 16 packet) (place + 5) [])
  searches place packet len h next a =
      let field = field_in packet in
      let link = link_of field in
      let v = link + 256 * 1 in
      let found = search + 4 * length s.ends + 3 in
      let r = input s call packet p in
      let c1 = with_priv c (put_bytes c.priv 16 packet) (place + 5) [] in
      let shows1 = copied_shows s call handle given code p c shows none bytes room512 window packet (place + 5) (omega (arith, len)) in
      let holds1 = holds_copied c.priv packet h (omega (arith, len, room512)) in
      let f18 : word c1.priv 18 ≡ field = holds_word c1.priv packet 2 refl (omega (arith, len)) holds1 in
      let value : pure s c1.priv wanted_receiving [] ≡ Some (v ∷ []) = ap (λ (x : ℕ). Some ((bit_and x 255 + 256) % 65536 ∷ [])) f18 ∙ ap (λ (x : ℕ). Some ((x + 256) % 65536 ∷ [])) (lower field)
      ∙ ap (λ (x : ℕ). Some (x ∷ [])) (omega arith) in
      let tail = ir.Store 72 ∷ [] in
      let a2 = at_back code (place + 5) (place + 10) wanted_receiving tail (omega arith) a in
      let c2 = with_priv c1 (put_word c1.priv 72 v) search [] in
      let size = shows1.size in
      let shows2 = shows_kept_word s call p c1 72 v search [] shows1 refl (omega arith) (omega arith) (omega arith) in
      let holds2 = holds_put c1.priv packet 72 v refl (omega (arith, len)) holds1 in
      let here : word c2.priv 72 ≡ v = word-put_same c1.priv 72 v refl (omega (arith, size)) in
      let t = case_test (find_any found) v in
      let same : found_by t 0 s.ends ≡ end_found link To 0 s.ends = any_same found link To s.ends links (omega arith) in
      runs_on s call handle given code r wanted_receiving c1 (place + 5) (place + 10) [] (v ∷ []) (cost + 2300) (cost + 2250) (at_front code (place + 5) wanted_receiving tail a) value (omega arith)
      (omega arith)
      (goes_on s call handle given code r (ir.Store 72) (at c1 (place + 10) (v ∷ [])) (at c2 (place + 10 + 1) []) (cost + 2250) (cost + 2240) a2.0 refl refl (omega arith)
      (subst (λ (x : ℕ). Invokes s call handle given code r (cost + 2240) (at c2 x [])) (omega (arith, next))
      (search_does s call handle given code p none few links r v c2 shows2 here search (cost + 2240) (cost + 1430) at_search (omega arith)
      (λ j e hit lt c3 shows3 same_back index3 held.
      subst (λ (o : Option (ℕ × End)). Invokes s call handle given code (input_at s call packet o p) (cost + 1430) (at c3 (found + 1) [])) (sym hit ∙ same)
      (let r2 = input_at s call packet (Some (j, e)) p in
      let key = key_place s.tree s.ends found in
      let a5 = found_at s.tree s.ends code search at_search in
      let a6 = both_at s.tree s.ends code search at_search in
      runs_on s call handle given code r2 (ir.Saved entry_register ∷ []) c3 (found + 1) (found + 1 + 1) [] (2 ∷ []) (cost + 1430) (cost + 1420) (a5.1.0, tt)
      (ap (λ (x : ℕ). Some (x ∷ [])) (shows3.entry ∙ entry)) refl (omega arith)
      (goes_on s call handle given code r2 (ir.JumpZero key) (at c3 (found + 1 + 1) (2 ∷ [])) (at c3 (found + 3) []) (cost + 1420) (cost + 1400) a5.1.1.0
      (ap (λ (x : ℕ). Goes (at c3 x [])) (omega arith)) refl (omega arith)
      (found_does s call handle given code p none tag few links outside devices cost does fresh packet j e t c3 (found + 3) len h (same_back
      ∙ back) shows3 (held packet (omega (arith, len)) holds2) index3 hit (λ i d p x. receives_to found link i d (omega arith) p x)
      (at_front code (found + 3) (input_found s.tree s.ends (found + 3)) (key_found s.ends key) a6)))))
      (λ miss. ap (λ (o : Option (ℕ × End)). input_at s call packet o p) (sym same ∙ miss)))))

  pub input_does : (place k : ℕ) → At code place (input_code place) → place + 11 ≡ search → cost + 2700 ≤ k
      → Invokes s call handle given code (with_received s call event_size event_kind p (λ packet. input s call packet p)) k (at c place [])
  input_does place k a next le =
      let rest = wanted_receiving ++ ir.Store 72 ∷ [] in
      let tests = refuse_kind (place + 1) event_kind in
      receive_does s call handle given code p c shows none bytes room512 window place 24 3 k (cost + 2300) (λ packet. input s call packet p) a.0 (at_front code (place + 1) tests rest a.1) refl
      (omega arith) (omega arith) (omega arith) (omega (arith, le))
      (λ packet len h. searches place packet len h next (at_back code (place + 1) (place + 5) tests rest (omega arith) a.1))
