-- Entry 1: the answer to an ask.
use Rattle.std.proofs.Common.{◌≡◌, ℕ, ◌+◌, ◌*◌, ◌<◌, ◌≤◌, ◌⊎◌, inl, inr, Bool, true, false, ◌&&◌, not, List, [], ◌∷◌, ◌++◌, length, Result, Ok, Err, refl, sym, ap, ◌∙◌, arith}
use Rattle.std.proofs.lemmas.Bool.{le-leb, not_from_false}
use Rattle.std.proofs.lemmas.List.Elements.{All-take}
use Rattle.spec_machine.proofs.PublicKept.{put_other}
use Rattle.spec_machine.proofs.Lengths.{length-put_bytes}
use Rattle.sx_rules.specs.declared.access.Violation.{Violation}
use Rattle.sx_bus.specs.declared.devices.Window.{Window}
use Rattle.sx_tag.specs.Mac.{Mac, IsTag}
use Rattle.sx_tag.specs.Wrap.{wrapped, crypt, wrap_tag}
use Rattle.spec_machine.specs.Memory.{put_bytes, bytes_from}
use Rattle.spec_machine.proofs.BytesFrom.{bytes_none}
use Rattle.sx_image.specs.Reach.{Goes}
use Rattle.spec_invocation.specs.Protocol.{output_register, all_done, ask_kind, ask_size, event_size}
use Rattle.spec_invocation.specs.Windows.{in_window_size, out_window_size}
use Rattle.spec_invocation.specs.Setup.{Setup, Call}
use Rattle.spec_invocation.specs.Marks as mark
use Rattle.spec_invocation.specs.Marks.{Mark}
use Rattle.spec_invocation.specs.Pieces.{made_bytes}
use Rattle.spec_invocation.specs.Windows.{is_bad_window, write_bytes}
use Rattle.spec_invocation.specs.Progress.{Progress, Returns, Violates, finished}
use Rattle.spec_invocation.specs.Entries.{attest, with_received}
use Rattle.spec_invocation.specs.Acts.{copied_to}
use Rattle.spec_invocation.proofs.PiecesMarked.{made_more, tag_length}
use Rattle.sx_ir.specs.Conf.{Conf}
use Rattle.sx_ir.specs.Meaning.{OperationResult, do_op, copied_out, copy_out, has_copy_room, on_top, when, saved, next}
use Rattle.sx_ir.specs.declared.ir.Ir.{Ir}
use Rattle.sx_ir.specs.declared.ir.Ir.TheVariants as ir
use Rattle.sx_stub.specs.Stub.{answer_code, attest_code, refuse_kind}
use Rattle.sx_stub.specs.Invokes.{ShowsCall, Invokes}
use Rattle.sx_stub.proofs.Mem.{AllBytes, bytes_from_put, AllBytes-put_bytes}
use Rattle.sx_stub.proofs.Straight.{At, at, at_front, at_back}
use Rattle.sx_stub.proofs.Slots.{IsKept, with_priv, shows_priv, shows_at}
use Rattle.sx_stub.proofs.Refuse.{returned, goes_on, breaks, runs_on}
use Rattle.sx_stub.proofs.Receive.{receive_does, copied_shows}

pub tag_bytes : (mac : Mac) (key ad cipher : List ℕ) → IsTag mac → AllBytes (wrap_tag mac key ad cipher)
unfolding wrap_tag
tag_bytes mac key ad cipher t = All-take (λ (b : ℕ). b < 256) 16 (mac key (0x54 ∷ length ad ∷ (ad ++ cipher))) (t.bytes key (0x54 ∷ length ad ∷ (ad ++ cipher)))

pub crypt_none : (mac : Mac) (key ad : List ℕ) → crypt mac key ad [] ≡ []
unfolding crypt
crypt_none mac key ad = refl

abbrev pub with_mark : Conf → Mark → Conf
with_mark c m = record c { marks = c.marks ++ m ∷ [] }

abbrev pub progress_mark : Progress → Mark → Progress
progress_mark p m = record p { marks = p.marks ++ m ∷ [] }

pub shows_mark : (s : Setup) (call : Call) (p : Progress) (c : Conf) (m : Mark) → ShowsCall s call p c
    → ShowsCall s call (progress_mark p m) (with_mark c m)
shows_mark s call p c m h = record {
  size = h.size;
  bytes = h.bytes;
  state = h.state;
  mem = h.mem;
  devices = h.devices;
  marks = ap (λ (x : List Mark). x ++ m ∷ []) h.marks;
  entry = h.entry;
  input =
      h.input;
  output = h.output;
  back = h.back;
}

-- a copy to the out-window
pub copy_out_does : (s : Setup) (call : Call) (handle : ℕ → Conf → OperationResult) (p : Progress) (c : Conf) (n o off : ℕ) (rest piece : List ℕ)
    → ShowsCall s call p c → is_bad_window s call.output out_window_size ≡ false → has_copy_room c off n ≡ true
    → bytes_from c.priv o n ≡ piece → c.stack ≡ off ∷ rest
    → do_op s handle (ir.CopyOut n o) c ≡ copied_out (write_bytes s p.devices p.mem (call.output + off) piece) c (λ mem. record (next c rest) { mem = mem })
copy_out_does s call handle p c n o off rest piece h window room e stack =
    let ok : not (is_bad_window s (saved c output_register) 384) ≡ true = ap (λ (x : ℕ). not (is_bad_window s x 384)) h.output ∙ not_from_false (is_bad_window s call.output out_window_size) window in
    ap (λ (st : List ℕ). on_top st (copy_out s c n o)) stack
    ∙ ap (λ (b : Bool). when (b && has_copy_room c off n) (copied_out (write_bytes s c.devices c.mem (saved c output_register + off) (bytes_from c.priv o n)) c
    (λ mem. record (next c rest) { mem = mem }))) ok
    ∙ ap (λ (b : Bool). when b (copied_out (write_bytes s c.devices c.mem (saved c output_register + off) (bytes_from c.priv o n)) c (λ mem. record (next c rest) { mem = mem }))) room
    ∙ ap (λ (x : ℕ). copied_out (write_bytes s c.devices c.mem (x + off) (bytes_from c.priv o n)) c (λ mem. record (next c rest) { mem = mem })) h.output
    ∙ ap (λ (x : List ℕ). copied_out (write_bytes s c.devices x (call.output + off) (bytes_from c.priv o n)) c (λ mem. record (next c rest) { mem = mem })) h.mem
    ∙ ap (λ (x : List Window). copied_out (write_bytes s x p.mem (call.output + off) (bytes_from c.priv o n)) c (λ mem. record (next c rest) { mem = mem })) h.devices
    ∙ ap (λ (x : List ℕ). copied_out (write_bytes s p.devices p.mem (call.output + off) x) c (λ mem. record (next c rest) { mem = mem })) e

module _ (s : Setup) (call : Call) (handle : ℕ → Conf → OperationResult) (given : ℕ
    → ℕ) (code : List Ir) (p : Progress) (c : Conf) (shows : ShowsCall s call p c) (none : p.pieces ≡ []) (bytes : AllBytes p.mem) (room : 512 ≤ length c.priv)
    (window : is_bad_window s call.input in_window_size ≡ false) (outside : is_bad_window s call.output out_window_size ≡ false) (tag : IsTag s.mac) where
  abbrev answer_of : List ℕ → List ℕ
  answer_of ask = (wrapped s.mac s.section.key ask []).tag

  abbrev after_seal : List ℕ → ℕ → List ℕ → List ℕ → List ℕ → Conf
  after_seal priv q ad body cipher = record c {
    place = q;
    stack = [];
    priv = put_bytes (put_bytes priv 34 cipher) 34 (wrapped s.mac s.section.key ad body).tag;
    marks =
        c.marks ++ mark.Wrapped ad body true ∷ [];
  }

  seals : (ask : List ℕ) (q : ℕ) → length ask ≡ 18 → AllBytes ask
      → do_op s handle (ir.Seal 0 16 18 56 0) (with_priv c (put_bytes c.priv 16 ask) q []) ≡ Goes (after_seal (put_bytes c.priv 16 ask) (q + 1) ask [] [])
  seals ask q e h =
      let priv = put_bytes c.priv 16 ask in
      let ad : bytes_from priv 16 18 ≡ ask = ap (bytes_from priv 16) (sym e) ∙ bytes_from_put c.priv 16 ask h (omega (arith, e, room)) in
      ap (λ (x : List ℕ). Goes (after_seal priv (q + 1) x (bytes_from priv 56 0) (crypt s.mac s.section.key x (bytes_from priv 56 0)))) ad
      ∙ ap (λ (x : List ℕ). Goes (after_seal priv (q + 1) ask x (crypt s.mac s.section.key ask x))) (bytes_none priv 56)
      ∙ ap (λ (x : List ℕ). Goes (after_seal priv (q + 1) ask [] x)) (crypt_none s.mac s.section.key ask)

  -- what is left of the answer when the ask was copied
  answers : (ask : List ℕ) (q k : ℕ) → At code q answer_code → length ask ≡ 18 → AllBytes ask → 300 ≤ k
      → Invokes s call handle given code (attest s call ask p) k (with_priv c (put_bytes c.priv 16 ask) q [])
  answers ask q k a e h le =
      let piece = answer_of ask in
      let m = mark.Wrapped ask [] true in
      let priv = put_bytes c.priv 16 ask in
      let c1 = with_mark (with_priv c (put_bytes priv 34 piece) (q + 1) []) m in
      let p1 = progress_mark p m in
      let len = tag_length s.mac s.section.key ask (crypt s.mac s.section.key ask []) tag in
      let isb = tag_bytes s.mac s.section.key ask (crypt s.mac s.section.key ask []) tag in
      let size = length-put_bytes ask c.priv 16 in
      let read : bytes_from c1.priv 34 16 ≡ piece = ap (bytes_from c1.priv 34) (sym len) ∙ bytes_from_put priv 34 piece isb (omega (arith, len, size, room)) in
      let shows0 = copied_shows s call handle given code p c shows none bytes room window ask q (omega (arith, e)) in
      let shows1 : ShowsCall s call p1 c1 = shows_mark s call p (with_priv c (put_bytes priv 34 piece) (q + 1) []) m
      (shows_priv s call p (with_priv c priv q []) (put_bytes priv 34 piece) (q + 1) [] shows0 (length-put_bytes piece priv 34) (AllBytes-put_bytes priv 34 piece shows0.bytes)
      (λ i kept. put_other piece priv 34 i (apart i kept (length piece) len))) in
      let made_room : has_copy_room c1 0 16 ≡ true = let x = made_more c.marks m in le-leb 16 (made_bytes c1.marks) (omega (arith, x)) in
      let r = finished (copied_to (write_bytes s p1.devices p1.mem (call.output + event_size * length p1.pieces) piece) (record p1 { pieces = p1.pieces ++ piece ∷ [] })) in
      goes_on s call handle given code r (ir.Seal 0 16 18 56 0) (with_priv c priv q []) c1 k 272 a.0 (seals ask q e h) refl (omega (arith, le))
      (runs_on s call handle given code r (ir.Push 0 ∷ []) c1 (q + 1) (q + 1 + 1) [] (0 ∷ []) 272 264 (a.1.0, tt) refl refl (omega arith)
      (copy (write_bytes s p.devices p.mem (call.output + event_size * length p.pieces) piece) c1 p1 piece shows1
      (copy_out_does s call handle p1 (at c1 (q + 1 + 1) (0 ∷ [])) 16 34 0 [] piece (shows_at s call p1 c1 (q + 1 + 1) (0 ∷ []) shows1) outside made_room read refl
      ∙ ap (λ (x : ℕ). copied_out (write_bytes s p.devices p.mem (call.output + x) piece) (at c1 (q + 1 + 1) (0 ∷ [])) (λ mem. record (next (at c1 (q + 1 + 1) (0 ∷ [])) []) { mem = mem }))
      (ap (λ (l : List (List ℕ)). 24 * length l) (sym none)))
      (ap (λ (l : List (List ℕ)). length (l ++ piece ∷ [])) (sym none))))
    where
      apart : (i : ℕ) → IsKept i → (n : ℕ) → n ≡ 16 → (i < 34) ⊎ (34 + n ≤ i)
      apart i (inl k) n e = inl (omega (arith, k.1))
      apart i (inr k) n e = inr (omega (arith, k, e))

      copy : (r : Result (List ℕ) Violation) (c1 : Conf) (p1 : Progress) (piece : List ℕ) → ShowsCall s call p1 c1
          → do_op s handle (ir.CopyOut 16 34) (at c1 (q + 1 + 1) (0 ∷ [])) ≡ copied_out r (at c1 (q + 1 + 1) (0 ∷ [])) (λ mem. record (next (at c1 (q + 1 + 1) (0 ∷ [])) []) { mem = mem })
          → 1 ≡ length (p1.pieces ++ piece ∷ [])
          → Invokes s call handle given code (finished (copied_to r (record p1 { pieces = p1.pieces ++ piece ∷ [] }))) 264 (at c1 (q + 1 + 1) (0 ∷ []))
      copy (Err v) c1 p1 piece h d one =
          let r = Violates v (record p1 { pieces = p1.pieces ++ piece ∷ [] }) in
          breaks s call handle given code r (ir.CopyOut 16 34) (at c1 (q + 1 + 1) (0 ∷ [])) v c1.marks 264 a.1.1.0 d refl (omega arith) (refl, sym h.marks)
      copy (Ok mem) c1 p1 piece h d one =
          let p2 = record p1 { pieces = p1.pieces ++ piece ∷ []; mem = mem } in
          let c2 = record c1 { mem = mem } in
          let r = Returns all_done p2 in
          let shows2 : ShowsCall s call p2 c2 = record {
            size = h.size;
            bytes = h.bytes;
            state = h.state;
            mem = refl;
            devices = h.devices;
            marks = h.marks;
            entry = h.entry;
            input = h.input;
            output =
                h.output;
            back = h.back;
          } in
          goes_on s call handle given code r (ir.CopyOut 16 34) (at c1 (q + 1 + 1) (0 ∷ [])) (at c2 (q + 1 + 1 + 1) []) 264 16 a.1.1.0 d refl (omega arith)
          (runs_on s call handle given code r (ir.Push 1 ∷ ir.Push 1 ∷ []) c2 (q + 1 + 1 + 1) (q + 1 + 1 + 1 + 1 + 1) [] (1 ∷ 1 ∷ []) 16 0 (a.1.1.1.0, (a.1.1.1.1.0, tt)) refl (omega arith)
          (omega arith)
          (returned s call handle given code 1 1 p2 c2 (q + 1 + 1 + 1 + 1 + 1) 0 a.1.1.1.1.1.0 shows2 one))

  -- the entry
  pub attest_does : (place k : ℕ) → At code place (attest_code place) → 600 ≤ k
      → Invokes s call handle given code (with_received s call ask_size ask_kind p (λ packet. attest s call packet p)) k (at c place [])
  attest_does place k a le =
      let tests = refuse_kind (place + 1) ask_kind in
      receive_does s call handle given code p c shows none bytes room window place 18 2 k 300 (λ packet. attest s call packet p) a.0 (at_front code (place + 1) tests answer_code a.1) refl
      (omega arith) (omega arith) (omega arith) (omega (arith, le))
      (λ ask e h. answers ask (place + 5) 300 (at_back code (place + 1) (place + 5) tests answer_code (omega arith) a.1) e h (omega arith))
