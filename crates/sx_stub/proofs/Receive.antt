-- A packet is copied from the in-window, and tried for its kind.
use Rattle.std.proofs.Common.{◌≡◌, ◌≢◌, ℕ, zero, suc, ◌+◌, ◌-◌, ◌*◌, ◌%◌, ◌<◌, ◌≤◌, ◌⊎◌, inl, inr, Bool, true, false, ◌&&◌, not, ◌==◌, List, [], ◌∷◌, length}
use Rattle.std.proofs.Common.{get_or, Option, Some, None, Result, Ok, Err, refl, sym, ap, ◌∙◌, subst, arith}
use Rattle.std.specs.Prelude.{slice_get, slice_index, if◌then◌else◌, nat_le}
use Rattle.std.proofs.lemmas.Bool.{leb-true, not_from_false}
use Rattle.std.proofs.lemmas.Bool.Decides.{eqb_tells}
use Rattle.spec_machine.proofs.PublicKept.{put_other}
use Rattle.spec_machine.proofs.Lengths.{length-put_bytes}
use Rattle.sx_rules.specs.declared.access.Violation.{Violation}
use Rattle.sx_rules.specs.declared.access.Access.TheVariants.{Read}
use Rattle.sx_rules.specs.declared.access.Violation.TheVariants as bad
use Rattle.sx_rules.specs.Access.{may}
use Rattle.sx_bus.specs.declared.devices.Window.{Window}
use Rattle.sx_bus.specs.Devices.{device_at}
use Rattle.spec_machine.specs.Memory.{word, put_bytes}
use Rattle.spec_invocation.specs.Protocol.{input_register, other_kind}
use Rattle.spec_invocation.specs.Windows.{in_window_size}
use Rattle.spec_invocation.specs.Setup.{Setup, Call}
use Rattle.spec_invocation.specs.Windows.{is_bad_window, read_byte, read_bytes, then_, unless_device}
use Rattle.spec_invocation.specs.Progress.{Progress, Invoked, Returns, Violates}
use Rattle.spec_invocation.specs.Entries.{is_kind, received}
use Rattle.sx_ir.specs.Conf.{Conf}
use Rattle.sx_ir.specs.Meaning.{OperationResult, do_at, do_op, copied_in, when, saved}
use Rattle.sx_ir.proofs.Shown.{low_spared}
use Rattle.sx_ir.specs.declared.ir.Ir.{Ir}
use Rattle.sx_ir.specs.declared.ir.Ir.TheVariants as ir
use Rattle.sx_stub.specs.Stub.{refuse_kind}
use Rattle.sx_stub.specs.Invokes.{ShowsCall, Invokes}
use Rattle.sx_stub.proofs.Mem.{AllBytes, byte_at, word_even, get-put_bytes_in, AllBytes-put_bytes}
use Rattle.sx_stub.proofs.Straight.{At, at}
use Rattle.sx_stub.proofs.Slots.{IsKept, with_priv, shows_priv}
use Rattle.sx_stub.proofs.Refuse.{kind_does, not_twice, goes_on, breaks}
use Rattle.lemmas.specs.Truth.{truth}

-- what was read is this many bytes
abbrev IsRead : ℕ → Result (List ℕ) Violation → Type 0
IsRead n (Ok bs) = (length bs ≡ n) × AllBytes bs
IsRead n (Err v) = Unit {0}

abbrev IsByte : Result ℕ Violation → Type 0
IsByte (Ok b) = b < 256
IsByte (Err v) = Unit {0}

byte_read : (s : Setup) (devices : List Window) (mem : List ℕ) (a : ℕ) → AllBytes mem
    → IsByte (read_byte s devices mem a)
unfolding read_byte
byte_read s devices mem a h = go (may s.live s.section.id Read a) (device_at devices a)
  where
    go : (b : Bool) (d : Option ℕ) → IsByte (if b then unless_device d (slice_index mem a) else Err bad.Read)
    go true None = byte_at mem a h
    go true (Some d) = tt
    go false d = tt

cons_bytes : (b : ℕ) (bs : List ℕ) → b < 256 → AllBytes bs → AllBytes (b ∷ bs)
cons_bytes b bs p h zero d lt = p
cons_bytes b bs p h (suc k) d lt = h k d (omega (arith, lt))

pub bytes_read : (s : Setup) (devices : List Window) (mem : List ℕ) (a n : ℕ) → AllBytes mem
    → IsRead n (read_bytes s devices mem a n)
unfolding read_bytes
bytes_read s devices mem a zero h = (refl, λ k d p. absurd (omega (arith, p)))
bytes_read s devices mem a (suc n) h = go (read_byte s devices mem a) (read_bytes s devices mem (a + 1) n) (byte_read s devices mem a h) (bytes_read s devices mem (a + 1) n h)
  where
    go : (x : Result ℕ Violation) (y : Result (List ℕ) Violation) → IsByte x → IsRead n y
        → IsRead (suc n) (then_ x (λ b. then_ y (λ bs. Ok (b ∷ bs))))
    go (Err v) y p q = tt
    go (Ok b) (Err v) p q = tt
    go (Ok b) (Ok bs) p q = (omega (arith, q.0), cons_bytes b bs p q.1)

-- the first two bytes as a word
kind_word : (x y kind : ℕ) → kind < 256 → (x + 256 * y == kind) ≡ ((x == kind) && (y == 0))
kind_word x y kind lt = go (eqb_tells (x + 256 * y) kind) (eqb_tells x kind) (eqb_tells y 0)
  where
    go : ((x + 256 * y == kind) ≡ true × (x + 256 * y ≡ kind)) ⊎ ((x + 256 * y == kind) ≡ false × (x + 256 * y ≢ kind))
        → ((x == kind) ≡ true × (x ≡ kind)) ⊎ ((x == kind) ≡ false × (x ≢ kind))
        → ((y == 0) ≡ true × (y ≡ 0)) ⊎ ((y == 0) ≡ false × (y ≢ 0)) → (x + 256 * y == kind) ≡ ((x == kind) && (y == 0))
    go (inl a) (inl b) (inl c) = rw (a.0, b.0, c.0) refl
    go (inl a) (inl b) (inr c) = absurd (c.1 (omega (arith, a.1, lt)))
    go (inl a) (inr b) (inl c) = absurd (b.1 (omega (arith, a.1, c.1)))
    go (inl a) (inr b) (inr c) = absurd (c.1 (omega (arith, a.1, lt)))
    go (inr a) (inl b) (inl c) = absurd (a.1 (omega (arith, b.1, c.1)))
    go (inr a) (inl b) (inr c) = rw (a.0, b.0, c.0) refl
    go (inr a) (inr b) c = rw (a.0, b.0) refl

pub truth_not : (b : Bool) → truth (truth b == 0) ≡ truth (not b)
truth_not true = refl
truth_not false = refl

pub if_not : (b : Bool) (x y : Invoked) → (if b then x else y) ≡ (if not b then y else x)
if_not true x y = refl
if_not false x y = refl

module _ (s : Setup) (call : Call) (handle : ℕ → Conf → OperationResult) (given : ℕ
    → ℕ) (code : List Ir) (p : Progress) (c : Conf) (shows : ShowsCall s call p c) (none : p.pieces ≡ []) (bytes : AllBytes p.mem) (room : 512 ≤ length c.priv)
    (window : is_bad_window s call.input in_window_size ≡ false) where
  -- the copy is done or refused as the protocol says
  copies : (place n : ℕ) → nat_le n 40 ≡ true
      → do_at s handle (Some (ir.CopyIn n 16)) (at c place []) ≡ copied_in (at c place []) 16 (read_bytes s p.devices p.mem call.input n)
  copies place n le =
      let ok : not (is_bad_window s (saved c input_register) 40) ≡ true = ap (λ (x : ℕ). not (is_bad_window s x in_window_size)) shows.input
      ∙ not_from_false (is_bad_window s call.input in_window_size) window in
      let few = leb-true n 40 le in
      ap (λ (b : Bool). when (b && true) (do_op s handle (ir.CopyIn n 16) (at c place []))) (low_spared (length s.ends) 16 n (omega (arith, few)))
      ∙ ap (λ (b : Bool). when (b && nat_le n 40) (copied_in (at c place []) 16 (read_bytes s c.devices c.mem (saved c input_register) n))) ok
      ∙ ap (λ (b : Bool). when b (copied_in (at c place []) 16 (read_bytes s c.devices c.mem (saved c input_register) n))) le
      ∙ ap (λ (x : ℕ). copied_in (at c place []) 16 (read_bytes s c.devices c.mem x n)) shows.input
      ∙ ap (λ (x : List ℕ). copied_in (at c place []) 16 (read_bytes s c.devices x call.input n)) shows.mem
      ∙ ap (λ (x : List Window). copied_in (at c place []) 16 (read_bytes s x p.mem call.input n)) shows.devices

  pub copied_shows : (packet : List ℕ) (q : ℕ) → length packet ≤ 40
      → ShowsCall s call p (with_priv c (put_bytes c.priv 16 packet) q [])
  copied_shows packet q le =
      shows_priv s call p c (put_bytes c.priv 16 packet) q [] shows (length-put_bytes packet c.priv 16) (AllBytes-put_bytes c.priv 16 packet shows.bytes)
      (λ i k. put_other packet c.priv 16 i (apart i k))
    where
      apart : (i : ℕ) → IsKept i → (i < 16) ⊎ (16 + length packet ≤ i)
      apart i (inl k) = inl (omega (arith, k.1))
      apart i (inr k) = inr (omega (arith, k, le))

  -- a word of the copied packet
  pub packet_word : (packet : List ℕ) (o : ℕ) → AllBytes packet → o % 2 ≡ 0 → o + 1 < length packet → length packet ≤ 40
      → word (put_bytes c.priv 16 packet) (16 + o) ≡ word packet o
  packet_word packet o h e lt le =
      let lo = get-put_bytes_in c.priv 16 packet o h (omega (arith, lt)) (omega (arith, le, room)) in
      let hi = get-put_bytes_in c.priv 16 packet (o + 1) h lt (omega (arith, le, room)) in
      word_even (put_bytes c.priv 16 packet) (16 + o) (omega (arith, e))
      ∙ ap (λ (x : ℕ). x + 256 * get_or (put_bytes c.priv 16 packet) (16 + o + 1) 0) lo
      ∙ ap (λ (x : ℕ). get_or packet o 0 + 256 * get_or (put_bytes c.priv 16 packet) x 0) (omega arith)
      ∙ ap (λ (x : ℕ). get_or packet o 0 + 256 * x) hi ∙ sym (word_even packet o e)

  kind_is : (packet : List ℕ) (kind : ℕ) → AllBytes packet → 2 ≤ length packet → length packet ≤ 40 → kind < 256
      → (word (put_bytes c.priv 16 packet) 16 == kind) ≡ not (not (is_kind kind packet))
  kind_is packet kind h lo le lt =
      ap (λ (x : ℕ). x == kind) (packet_word packet 0 h refl (omega (arith, lo)) le ∙ word_even packet 0 refl)
      ∙ kind_word (slice_index packet 0) (slice_index packet 1) kind lt ∙ not_twice (is_kind kind packet)

  pub receive_does : (place n kind k m : ℕ) (rest : List ℕ → Invoked) → slice_get code place ≡ Some (ir.CopyIn n 16)
      → At code (place + 1) (refuse_kind (place + 1) kind) → nat_le n 40 ≡ true → 2 ≤ n → n ≤ 40
      → kind < 256 → 100 + 8 * n + m ≤ k
      → ((packet : List ℕ) → length packet ≡ n → AllBytes packet → Invokes s call handle given code (rest packet) m (with_priv c (put_bytes c.priv 16 packet) (place + 5) []))
      → Invokes s call handle given code (received (read_bytes s p.devices p.mem call.input n) kind rest p) k (at c place [])
  receive_does place n kind k m rest copy test small lo hi lt le rest_does =
      go (read_bytes s p.devices p.mem call.input n) (bytes_read s p.devices p.mem call.input n bytes) (copies place n small)
    where
      go : (r : Result (List ℕ) Violation) → IsRead n r
          → do_at s handle (Some (ir.CopyIn n 16)) (at c place []) ≡ copied_in (at c place []) 16 r
          → Invokes s call handle given code (received r kind rest p) k (at c place [])
      go (Err v) q e =
          breaks s call handle given code (Violates v p) (ir.CopyIn n 16) (at c place []) v c.marks k copy e refl (omega (arith, le)) (refl, sym shows.marks)
      go (Ok packet) q e =
          let result = if is_kind kind packet then rest packet else Returns other_kind p in
          let c2 = with_priv c (put_bytes c.priv 16 packet) (place + 1) [] in
          goes_on s call handle given code result (ir.CopyIn n 16) (at c place []) c2 k (84 + m) copy e refl (omega (arith, le))
          (subst (λ (x : Invoked). Invokes s call handle given code x (84 + m) c2) (sym (if_not (is_kind kind packet) (rest packet) (Returns other_kind p)))
          (kind_does s call handle given code (not (is_kind kind packet)) kind c2 (place + 1) (place + 5) (84 + m) m (rest packet) p test
          (kind_is packet kind q.1 (omega (arith, lo, q.0)) (omega (arith, hi, q.0)) lt) (copied_shows packet (place + 1) (omega (arith, hi, q.0))) none (omega arith) (omega arith)
          (λ x. rest_does packet q.0 q.1)))
