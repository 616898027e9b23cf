-- A copy from a window outside into the private section, which the first refused byte ends.
use Rattle.sx_isa.specs.Assembly.{##◌, &◌, increment, mov, mov_b, r12, r13, r15, ◌⟨◌⟩}
use Rattle.sx_tmpl.proofs.Running.Instructions.{goes, step}
use Rattle.sx_tmpl.proofs.Running.Loading.{loads}
use Rattle.sx_tmpl.proofs.Operations.CopyLoop.{Byte, Turns, all_bytes, all_steps, size, turns_run}
use Rattle.sx_tmpl.specs.Template.{turns}
use Rattle.std.proofs.Common.{◌≡◌, ℕ, suc, ◌+◌, ◌*◌, ◌%◌, ◌<◌, ◌≤◌, inl, inr, Bool, false, List, [], ◌∷◌, length, Option, Some, None, refl, sym, ◌∙◌, ap, subst, arith, slice_index}
use Rattle.sx_isa.specs.Standing.{words_of}
use Rattle.sx_rules.specs.declared.access.Violation.{Violation}
use Rattle.spec_machine.specs.declared.kinds.Event.TheVariants as event
use Rattle.std.specs.Prelude.{slice_set, Result, Ok, Err}
use Rattle.std.proofs.lemmas.Option.{none-some, same_Some}
use Rattle.std.proofs.lemmas.Bool.{cases_Bool}
use Rattle.std.proofs.lemmas.List.{length-set}
use Rattle.sx_bus.specs.declared.devices.Window.{Window}
use Rattle.sx_bus.specs.Devices.{device_at}
use Rattle.sx_rules.specs.declared.access.Access.TheVariants.{Read}
use Rattle.sx_rules.specs.declared.access.Violation.TheVariants as bad
use Rattle.sx_rules.specs.Access.{may, in_private}
use Rattle.spec_invocation.specs.Windows.{unless_device, then_, read_byte, read_bytes}
use Rattle.sx_tmpl.proofs.Running.MidRun.{refused, device_refusal, PrivateByte, Stands, Runs}
use Rattle.sx_tmpl.proofs.Running.Owes.{Inside}
use Rattle.sx_tmpl.proofs.Running.Holding.{IsRange, holds_byte, low_shown, data_word, holds_word}
use Rattle.sx_tmpl.proofs.Running.Owned.{write_free}
use Rattle.spec_machine.specs.Memory.{put_bytes, word}
use Rattle.sx_tmpl.proofs.Running.Flags.{flags_stay}
use Rattle.spec_invocation.specs.Marks.{Mark}
use Rattle.sx_image.specs.Watched.{Watched}
use Rattle.sx_tmpl.specs.Running.{Regs, Fixed, Data, running, Safe}
use Rattle.sx_tmpl.specs.Shows.{base_of, IsData, MemoryHolds}
use Rattle.sx_tmpl.proofs.Running.Steps.{Text}
use Rattle.sx_tmpl.proofs.Operations.Plain.{inside}

-- so many turns of so many bytes
abbrev pub copy_in_words : ℕ → ℕ → ℕ → ℕ → List ℕ
copy_in_words base o turn count = words_of (mov (& (base + 8)) r13 ∷ mov (## (base + o)) r12 ∷ mov (## count) r15 ∷ turns turn)

module _ (f : Fixed) (st : Stands f) (all : List Mark) (B : Watched → Violation → Type 0) (at : ℕ → ℕ) where
  byte_read : (ds : List Window) (m : List ℕ) (a : ℕ) → device_at ds a ≡ device_at f.devices a → refused f Read bad.Read a ≡ None → read_byte f.setup ds m a ≡ Ok (slice_index m a)
  unfolding read_byte
  byte_read ds m a same h = elim (cases_Bool (may f.setup.live f.setup.section.id Read a)) [
    | inl t ↦ let dev : device_refusal (device_at f.devices a) ≡ None = rw t at h in rw (t, same) (free (device_at f.devices a) dev)
    | inr t ↦ absurd (none-some bad.Read (sym (rw t at h)))
  ]
    where
      free : (o : Option ℕ) → device_refusal o ≡ None → ◌≡◌ {A = Result ℕ Violation} (unless_device o (slice_index m a)) (Ok (slice_index m a))
      free None e = refl
      free (Some i) e = absurd (none-some bad.Device (sym e))

  byte_unread : (ds : List Window) (m : List ℕ) (a : ℕ) (v : Violation) → device_at ds a ≡ device_at f.devices a → refused f Read bad.Read a ≡ Some v → read_byte f.setup ds m a ≡ Err v
  unfolding read_byte
  byte_unread ds m a v same h = elim (cases_Bool (may f.setup.live f.setup.section.id Read a)) [
    | inl t ↦ let dev : device_refusal (device_at f.devices a) ≡ Some v = rw t at h in rw (t, same) (held (device_at f.devices a) dev)
    | inr t ↦ let w : Some bad.Read ≡ Some v = rw t at h in rw t (ap (λ v. Err v) (same_Some bad.Read v w))
  ]
    where
      held : (o : Option ℕ) → device_refusal o ≡ Some v → ◌≡◌ {A = Result ℕ Violation} (unless_device o (slice_index m a)) (Err v)
      held None e = absurd (none-some v e)
      held (Some i) e = ap (λ v. Err v) (same_Some bad.Device v e)

  -- a copy of so many bytes that goes on so, from the registers and data at its begin, and comes to an end that memory shows
  module _ (Q : Watched → Type 0) {P n : ℕ} {ws : List ℕ} (t : Text f P n ws) (ds : List Window) (same : (a : ℕ) → device_at ds a ≡ device_at f.devices a)
      (back : Option ℕ) (stack outside : List ℕ) (r : Regs) (d : Data) (Ended : List ℕ → Type 0) where
    record InLeft (left src dst : ℕ) (m : List ℕ) : Type 0 where
      o : ℕ
      priv : List ℕ
      there : dst ≡ base_of f + o
      short : src + left ≤ 65536
      free : (a : ℕ) → src ≤ a → a < src + left → in_private f.setup.section a ≡ false
      range : IsRange o left (length priv)
      holds : MemoryHolds f at back stack priv outside r.sp m
      stop : (v : Violation) → read_bytes f.setup ds outside src left ≡ Err v → (r2 : Regs) (m2 : List ℕ) → B (running f r2 (record d { mem = m2 })) v
      done : (bs : List ℕ) → read_bytes f.setup ds outside src left ≡ Ok bs → (m2 : List ℕ) → MemoryHolds f at back stack (put_bytes priv o bs) outside r.sp m2 → Ended m2

    byte_taken : (src n : ℕ) → refused f Read bad.Read src ≡ None
        → read_bytes f.setup ds outside src (suc n) ≡ then_ (read_bytes f.setup ds outside (src + 1) n) (λ bs. Ok (slice_index outside src ∷ bs))
    unfolding read_bytes
    byte_taken src n h = ap (λ r. then_ r (λ b. then_ (read_bytes f.setup ds outside (src + 1) n) (λ bs. Ok (b ∷ bs)))) (byte_read ds outside src (same src) h)

    not_taken : (src n : ℕ) (v : Violation) → refused f Read bad.Read src ≡ Some v → read_bytes f.setup ds outside src (suc n) ≡ Err v
    unfolding read_bytes
    not_taken src n v h = ap (λ r. then_ r (λ b. then_ (read_bytes f.setup ds outside (src + 1) n) (λ bs. Ok (b ∷ bs)))) (byte_unread ds outside src v (same src) h)

    nothing : (src : ℕ) → read_bytes f.setup ds outside src 0 ≡ Ok []
    unfolding read_bytes
    nothing src = refl

    one_byte : Byte f st all B Q t r d InLeft
    one_byte i k at_ sr dst src left u j m is le ea x pc e safe after =
        let o = x.o in
        let priv = x.priv in
        let rg = x.range in
        let fits = rg.fits in
        let short_is = x.short in
        let there_is = x.there in
        let sz = x.holds.size in
        let beneath = st.beneath in
        let b = slice_index outside src in
        let is_b = x.holds.others src (x.free src (omega arith) (omega arith)) in
        let i_o : IsData o = record { low = rg.low; beside = elim (rg.beside) [ inl q ↦ inl (omega arith) | inr q ↦ inr q ] } in
        let place : PrivateByte f at_ = record { low = omega (arith, rg.low); high = omega arith } in
        let let_in = write_free f st at_ place in
        let here : src % 65536 ≡ src = omega arith in
        let to : (dst % 65536 + i) % 65536 ≡ at_ = omega (arith, ea, place.high, beneath) in
        let up : (src % 65536 + 1) % 65536 ≡ (src + 1) % 65536 = omega arith in
        let m1 = slice_set m at_ (slice_index m src % 256) in
        let len : length (slice_set priv o (b % 256)) ≡ length priv = length-set priv o (b % 256) in
        let r0 = record r { pc = pc; sr = sr; r12 = dst % 65536; r13 = src % 65536; r15 = left } in
        step f st all B Q t k (mov_b (increment r13) (i ⟨ r12 ⟩)) is le refl refl event.Quiet r0 (record d { mem = m }) j e safe (
          src,
          here,
          inl (x.free src (omega arith) (omega arith)),
          (λ v er. x.stop v (not_taken src u v er) r0 m),
          λ ok. (
            at_,
            to,
            Inside place,
            (λ v er. absurd (none-some v (sym let_in ∙ er))),
            λ _ kept. (
              record r0 { pc = P + 2 * (k + 2); r13 = (src + 1) % 65536 },
              rw (up, flags_stay sr) refl,
              inside t (k + 2) le,
              after sr m1 (record {
                o = o + 1;
                priv = slice_set priv o (b % 256);
                there = omega arith;
                short = omega arith;
                free = λ a p q. x.free a (omega arith) (omega arith);
                range = record { low = omega (arith, rg.low); beside = elim (rg.beside) [ inl q ↦ inl (omega arith) | inr q ↦ inr (omega arith) ]; fits = omega arith };
                holds = subst (λ b. MemoryHolds f at back stack (slice_set priv o (b % 256)) outside r.sp m1) is_b
                    (subst (λ a. MemoryHolds f at back stack (slice_set priv o (slice_index m src % 256)) outside r.sp (slice_set m a (slice_index m src % 256))) (sym there_is)
                    (holds_byte f st at back stack priv outside r.sp m o (slice_index m src % 256) safe.memory x.holds i_o (omega arith)));
                stop = λ v er. x.stop v (byte_taken src u ok ∙ ap (λ r. then_ r (λ bs. Ok (b ∷ bs))) er);
                done = λ bs er. x.done (b ∷ bs) (byte_taken src u ok ∙ ap (λ r. then_ r (λ bs. Ok (b ∷ bs))) er);
              }),
            ),
          ),
        )

  -- the three loads before the turns, and the turns
  pub copy_in_whole : (Q : Watched → Type 0) (b : Bool) (u P from_ : ℕ) (t : Text f P (9 + 2 * size b) (copy_in_words (base_of f) from_ (size b) (suc u))) → Turns (copy_in_words (base_of f) from_ (size b) (suc u)) 6 b
      → u < 65535 → (count : ℕ) → all_bytes b (suc u) ≡ count → (ds : List Window) → ((a : ℕ) → device_at ds a ≡ device_at f.devices a) → (back : Option ℕ) (stack outside : List ℕ) (r : Regs) (d : Data) (src j : ℕ) (priv : List ℕ) → src < 65536 → src + count ≤ 65536
      → ((a : ℕ) → src ≤ a → a < src + count → in_private f.setup.section a ≡ false) → IsRange from_ count (length priv)
      → word priv 8 ≡ src → r.pc ≡ P + 2 * 0 → MemoryHolds f at back stack priv outside r.sp d.mem → Safe f all (running f r d)
      → ((v : Violation) → read_bytes f.setup ds outside src count ≡ Err v → (r2 : Regs) (m2 : List ℕ) → B (running f r2 (record d { mem = m2 })) v)
      → ((bs : List ℕ) → read_bytes f.setup ds outside src count ≡ Ok bs → (r2 : Regs) (m2 : List ℕ) → r2.pc ≡ P + 2 * (9 + 2 * size b) → r2.sp ≡ r.sp
      → MemoryHolds f at back stack (put_bytes priv from_ bs) outside r.sp m2
      → Safe f all (running f r2 (record d { mem = m2 })) → Runs f all B Q j (running f r2 (record d { mem = m2 })))
      → Runs f all B Q (suc (suc (suc (all_steps b (suc u) j)))) (running f r d)
  copy_in_whole Q b u P from_ t turns_ lt count ec ds same back stack outside r d src j priv ls le free rg ew pc h safe stop done =
      let stay = flags_stay r.sr in
      let sz = h.size in
      let fits = rg.fits in
      let beneath = st.beneath in
      let p8 = data_word f st 8 (low_shown _ 8 2 (omega arith)) (omega arith) refl (omega (arith, st.room)) in
      let is = holds_word f st at back stack priv outside r.sp d.mem 8 h refl (record { low = omega arith; beside = inl (omega arith) }) (omega (arith, st.room)) ∙ ew in
      let r1 = record r { pc = P + 4; r13 = src } in
      let cut : src % 65536 ≡ src = omega arith in
      let cut_to : (base_of f + from_) % 65536 ≡ base_of f + from_ = omega arith in
      let loaded_to : ℕ → ℕ → Watched = λ a s. running f (record r { pc = P + 12; r12 = a; r13 = s; r15 = suc u }) d in
      let Ended : List ℕ → Type 0 = λ m2. (bs : List ℕ) × (read_bytes f.setup ds outside src count ≡ Ok bs) × MemoryHolds f at back stack (put_bytes priv from_ bs) outside r.sp m2 in
      goes f st all B Q t 0 (mov (& (base_of f + 8)) r13) refl (omega arith) refl refl r d _ pc safe r1 d.mem (inside t 2 (omega arith))
      (base_of f + 8, refl, p8, src, is, (rw stay refl, refl)) (λ s1.
      loads f st all B Q t 2 ((## (base_of f + from_), 12) ∷ (## (suc u), 15) ∷ []) refl (omega arith) refl (omega arith, (omega arith, tt)) r1 d _ r1.pc refl s1
      (subst (λ a. Safe f all (loaded_to a src) → Runs f all B Q (all_steps b (suc u) j) (loaded_to a src)) cut_to
      (subst (λ a. Safe f all (loaded_to ((base_of f + from_) % 65536) a) → Runs f all B Q (all_steps b (suc u) j) (loaded_to ((base_of f + from_) % 65536) a)) cut (λ s2.
      turns_run f st all B Q t r d (InLeft Q t ds same back stack outside r d Ended) (one_byte Q t ds same back stack outside r d Ended) b 6 turns_ (omega arith) u r.sr (base_of f + from_) src j d.mem lt
      (subst (λ n. InLeft Q t ds same back stack outside r d Ended n src (base_of f + from_) d.mem) (sym ec)
      (record { o = from_; priv = priv; there = refl; short = le; free = free; range = rg; holds = h; stop = stop; done = λ bs e m2 h2. (bs, e, h2) })) s2 (λ pc2 sr2 dst2 src2 m2 ep x s3.
      let e : Ended m2 = x.done [] (nothing Q t ds same back stack outside r d Ended src2) m2 x.holds in
      done e.0 e.1 (record r { pc = pc2; sr = sr2; r12 = dst2 % 65536; r13 = src2 % 65536; r15 = 0 }) m2 (ep ∙ omega arith) refl e.2 s3)))))
