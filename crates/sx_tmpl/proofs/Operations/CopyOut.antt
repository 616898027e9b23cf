-- A copy of private bytes to a window outside, which the first refused byte ends.
use Rattle.std.proofs.Common.{◌≡◌, ◌≢◌, ℕ, suc, ◌+◌, ◌*◌, ◌%◌, ◌<◌, ◌≤◌, inl, inr, Bool, List, [], ◌∷◌, length, Option, Some, None, refl, sym, ◌∙◌, ap, subst, arith, slice_index}
use Rattle.sx_isa.specs.Assembly.{increment, mov_b, r12, r13, ◌⟨◌⟩}
use Rattle.sx_isa.specs.declared.instruction.Op2.TheVariants as op2
use Rattle.sx_rules.specs.declared.access.Violation.{Violation}
use Rattle.spec_machine.specs.declared.kinds.Event.TheVariants as event
use Rattle.std.specs.Prelude.{slice_set, Result, Ok, Err}
use Rattle.std.proofs.lemmas.Option.{none-some, same_Some}
use Rattle.std.proofs.lemmas.Bool.{cases_Bool, true≢false}
use Rattle.std.proofs.lemmas.List.{get_or-set_other}
use Rattle.sx_bus.specs.declared.devices.Window.{Window}
use Rattle.sx_bus.specs.Devices.{device_at}
use Rattle.sx_rules.specs.declared.access.Access.TheVariants.{Write}
use Rattle.sx_rules.specs.declared.access.Violation.TheVariants as bad
use Rattle.sx_rules.specs.Access.{may, in_private}
use Rattle.spec_invocation.specs.Windows.{write_byte, write_bytes, unless_device, then_}
use Rattle.sx_tmpl.proofs.Running.MidRun.{refused, device_refusal, PrivateByte, PrivateRange, Stands, Runs}
use Rattle.sx_tmpl.proofs.Running.Owes.{Outside, let_through}
use Rattle.sx_tmpl.proofs.Running.Owned.{read_free, in_private_yes}
use Rattle.sx_tmpl.proofs.Operations.Bytes.{BytesAt, bytes_same}
use Rattle.sx_tmpl.proofs.Operations.CopyLoop.{Byte, Turns, all_bytes, all_steps, copying, size, turns_few, turns_run}
use Rattle.sx_tmpl.proofs.Running.Holding.{are_part, holds_outside}
use Rattle.spec_invocation.specs.Marks.{Mark}
use Rattle.sx_image.specs.Watched.{Watched}
use Rattle.sx_tmpl.specs.Running.{Regs, Fixed, Data, running, Safe}
use Rattle.sx_tmpl.specs.Shows.{MemoryHolds}
use Rattle.sx_tmpl.proofs.Running.Steps.{Text}
use Rattle.sx_tmpl.specs.Unseen.{AreShown}
use Rattle.sx_tmpl.proofs.Running.Instructions.{step}
use Rattle.sx_tmpl.proofs.Running.Flags.{flags_after}
use Rattle.sx_tmpl.proofs.Operations.Plain.{inside}

module _ (f : Fixed) (st : Stands f) (all : List Mark) (B : Watched → Violation → Type 0) (at : ℕ → ℕ) where
  -- what refuses a byte is what refuses it by the definitions of the windows
  byte_written : (ds : List Window) (m : List ℕ) (a b : ℕ) → device_at ds a ≡ device_at f.devices a → refused f Write bad.Write a ≡ None → write_byte f.setup ds m a b ≡ Ok (slice_set m a b)
  unfolding write_byte
  byte_written ds m a b same h =
      let t = let_through f st a h in
      let dev : device_refusal (device_at f.devices a) ≡ None = rw t at h in
      rw (t, same) (free (device_at f.devices a) dev)
    where
      free : (o : Option ℕ) → device_refusal o ≡ None → ◌≡◌ {A = Result (List ℕ) Violation} (unless_device o (slice_set m a b)) (Ok (slice_set m a b))
      free None e = refl
      free (Some i) e = absurd (none-some bad.Device (sym e))

  byte_refused : (ds : List Window) (m : List ℕ) (a b : ℕ) (v : Violation) → device_at ds a ≡ device_at f.devices a → refused f Write bad.Write a ≡ Some v → write_byte f.setup ds m a b ≡ Err v
  unfolding write_byte
  byte_refused ds m a b v same h = elim (cases_Bool (may f.setup.live f.setup.section.id Write a)) [
    | inl t ↦ let dev : device_refusal (device_at f.devices a) ≡ Some v = rw t at h in rw (t, same) (held (device_at f.devices a) dev)
    | inr t ↦ let w : Some bad.Write ≡ Some v = rw t at h in rw t (ap (λ v. Err v) (same_Some bad.Write v w))
  ]
    where
      held : (o : Option ℕ) → device_refusal o ≡ Some v → ◌≡◌ {A = Result (List ℕ) Violation} (unless_device o (slice_set m a b)) (Err v)
      held None e = absurd (none-some v e)
      held (Some i) e = ap (λ v. Err v) (same_Some bad.Device v e)

  -- a copy that goes on so, from the registers and data at its begin, and comes to an end that memory shows
  module _ (Q : Watched → Type 0) {P n : ℕ} {ws : List ℕ} (t : Text f P n ws) (ds : List Window) (same : (a : ℕ) → device_at ds a ≡ device_at f.devices a)
      (back : Option ℕ) (stack priv : List ℕ) (r : Regs) (d : Data) (Ended : List ℕ → Type 0) where
    record OutLeft (left src dst : ℕ) (m : List ℕ) : Type 0 where
      bs : List ℕ
      outside : List ℕ
      count : length bs ≡ left
      from : f.from ≤ dst
      to : dst + left ≤ f.to
      own : PrivateRange f src left
      shown : AreShown f.setup src left
      stand : BytesAt m src bs
      holds : MemoryHolds f at back stack priv outside r.sp m
      stop : (v : Violation) → write_bytes f.setup ds outside dst bs ≡ Err v → (r2 : Regs) (m2 : List ℕ) → B (running f r2 (record d { mem = m2 })) v
      done : (out2 : List ℕ) → write_bytes f.setup ds outside dst bs ≡ Ok out2 → (m2 : List ℕ) → MemoryHolds f at back stack priv out2 r.sp m2 → Ended m2

    written : (outside : List ℕ) (dst b : ℕ) (bs : List ℕ) → refused f Write bad.Write dst ≡ None
        → write_bytes f.setup ds outside dst (b ∷ bs) ≡ write_bytes f.setup ds (slice_set outside dst b) (dst + 1) bs
    unfolding write_bytes
    written outside dst b bs h = ap (λ r. then_ r (λ m. write_bytes f.setup ds m (dst + 1) bs)) (byte_written ds outside dst b (same dst) h)

    not_written : (outside : List ℕ) (dst b : ℕ) (bs : List ℕ) (v : Violation) → refused f Write bad.Write dst ≡ Some v → write_bytes f.setup ds outside dst (b ∷ bs) ≡ Err v
    unfolding write_bytes
    not_written outside dst b bs v h = ap (λ r. then_ r (λ m. write_bytes f.setup ds m (dst + 1) bs)) (byte_refused ds outside dst b v (same dst) h)

    nothing_written : (outside : List ℕ) (dst : ℕ) → write_bytes f.setup ds outside dst [] ≡ Ok outside
    unfolding write_bytes
    nothing_written outside dst = refl

    -- of these bytes the first
    first_shown : (a n : ℕ) → AreShown f.setup a (suc n) → AreShown f.setup a 1
    first_shown a n h = let same : a + 0 ≡ a = omega arith in subst (λ (b : ℕ). AreShown f.setup b 1) same (are_part f.setup a (suc n) 0 1 h (omega arith))

    one_byte : Byte f st all B Q t r d OutLeft
    one_byte i k at_ sr dst src left u j m is le ea x pc e safe after = by x.bs x.count x.stand x.stop x.done
      where
        by : (bs : List ℕ) → length bs ≡ suc u → BytesAt m src bs
            → ((v : Violation) → write_bytes f.setup ds x.outside at_ bs ≡ Err v → (r2 : Regs) (m2 : List ℕ) → B (running f r2 (record d { mem = m2 })) v)
            → ((out2 : List ℕ) → write_bytes f.setup ds x.outside at_ bs ≡ Ok out2 → (m2 : List ℕ) → MemoryHolds f at back stack priv out2 r.sp m2 → Ended m2)
            → Runs f all B Q (suc j) (copying f r d pc sr dst src left m)
        by [] c stand stop done = absurd (omega (arith, c))
        by (b ∷ bs) c stand stop done =
            let lim = st.window in
            let beneath = st.beneath in
            let low = x.own.low in
            let high = x.own.high in
            let from = x.from in
            let to = x.to in
            let outside = x.outside in
            let place : PrivateByte f src = record { low = low; high = omega arith } in
            let here : src % 65536 ≡ src = omega arith in
            let there : (dst % 65536 + i) % 65536 ≡ at_ = omega (arith, ea) in
            let up : (src % 65536 + 1) % 65536 ≡ (src + 1) % 65536 = omega arith in
            let byte : slice_index m src < 256 = safe.memory.bytes src in
            let is_b : slice_index m src ≡ b = stand.0 in
            let cut : slice_index m src % 256 ≡ b = omega arith in
            let m1 = slice_set m at_ (slice_index m src % 256) in
            let em : m1 ≡ slice_set m at_ b = ap (slice_set m at_) cut in
            let let_in = read_free f st src place in
            let sr1 = flags_after op2.Mov 0 0 sr in
            let r0 = record r { pc = pc; sr = sr; r12 = dst % 65536; r13 = src % 65536; r15 = left } in
            step f st all B Q t k (mov_b (increment r13) (i ⟨ r12 ⟩)) is le refl refl event.Quiet r0 (record d { mem = m }) j e safe (
              src,
              here,
              inr (first_shown src u x.shown),
              (λ v er. absurd (none-some v (sym let_in ∙ er))),
              λ _. (
                at_,
                there,
                Outside from (omega arith),
                (λ v er. stop v (not_written outside at_ b bs v er) r0 m),
                λ ok kept. (
                  record r0 { pc = P + 2 * (k + 2); sr = sr1; r13 = (src + 1) % 65536 },
                  rw up refl,
                  inside t (k + 2) le,
                  after sr1 m1 (record {
                    bs = bs;
                    outside = slice_set outside at_ b;
                    count = omega (arith, c);
                    from = omega arith;
                    to = omega arith;
                    own = record { low = omega arith; high = omega arith };
                    shown = are_part f.setup src (suc u) 1 u x.shown (omega arith);
                    stand = bytes_same m m1 (src + 1) bs (λ a p q. ap (λ (l : List ℕ). slice_index l a) em ∙ get_or-set_other m at_ a b 0 (apart a (omega arith) (omega (arith, c)))) stand.1;
                    holds = subst (λ b. MemoryHolds f at back stack priv (slice_set outside at_ b) r.sp m1) cut
                        (holds_outside f st at back stack priv outside r.sp m at_ (slice_index m src % 256) safe.memory x.holds (st.window_apart at_ from (omega arith)) (omega arith));
                    stop = λ v er. stop v (written outside at_ b bs ok ∙ er);
                    done = λ out2 er. done out2 (written outside at_ b bs ok ∙ er);
                  }),
                ),
              ),
            )
          where
            apart : (a : ℕ) → src ≤ a → a < src + suc u → a ≢ at_
            apart a p q eq =
                true≢false (sym (in_private_yes f.setup.section a (omega (arith, x.own.low)) (omega (arith, x.own.high))) ∙ ap (in_private f.setup.section) eq
                ∙ st.window_apart at_ x.from (omega (arith, x.to)))

    -- the whole copy: it comes to its end where no byte is refused, and else ends at the first that is
    pub copy_runs : (b : Bool) (k : ℕ) → Turns ws k b → k + 2 * size b + 3 ≤ n → (u : ℕ) (bs : List ℕ) (sr dst src j : ℕ) (outside : List ℕ) → u < 65535 → all_bytes b (suc u) ≡ length bs → dst < 65536
        → f.from ≤ dst → dst + length bs ≤ f.to → PrivateRange f src (length bs) → AreShown f.setup src (length bs) → BytesAt d.mem src bs → MemoryHolds f at back stack priv outside r.sp d.mem
        → Safe f all (running f (record r { pc = P + 2 * k; sr = sr; r12 = dst; r13 = src; r15 = suc u }) d)
        → ((v : Violation) → write_bytes f.setup ds outside dst bs ≡ Err v → (r2 : Regs) (m2 : List ℕ) → B (running f r2 (record d { mem = m2 })) v)
        → ((mem : List ℕ) → write_bytes f.setup ds outside dst bs ≡ Ok mem → (m2 : List ℕ) → MemoryHolds f at back stack priv mem r.sp m2 → Ended m2)
        → ((m2 : List ℕ) → Ended m2 → (pc sr a s : ℕ) → pc ≡ P + 2 * (k + 2 * size b + 3)
        → Safe f all (running f (record r { pc = pc; sr = sr; r12 = a; r13 = s; r15 = 0 }) (record d { mem = m2 }))
        → Runs f all B Q j (running f (record r { pc = pc; sr = sr; r12 = a; r13 = s; r15 = 0 }) (record d { mem = m2 })))
        → Runs f all B Q (all_steps b (suc u) j) (running f (record r { pc = P + 2 * k; sr = sr; r12 = dst; r13 = src; r15 = suc u }) d)
    copy_runs b k turns le u bs sr dst src j outside lt len ld d1 d2 own shown stand h safe stop done on =
        let begun : ℕ → ℕ → Watched = λ a s. running f (record r { pc = P + 2 * k; sr = sr; r12 = a; r13 = s; r15 = suc u }) d in
        let beneath = st.beneath in
        let high = own.high in
        let cut_to : dst % 65536 ≡ dst = omega arith in
        let cut : src % 65536 ≡ src = omega (arith, turns_few b u, len) in
        subst (λ a. Safe f all (begun a src) → Runs f all B Q (all_steps b (suc u) j) (begun a src)) cut_to
        (subst (λ s. Safe f all (begun (dst % 65536) s) → Runs f all B Q (all_steps b (suc u) j) (begun (dst % 65536) s)) cut (λ s2.
        turns_run f st all B Q t r d OutLeft one_byte b k turns le u sr dst src j d.mem lt
        (subst (λ n. OutLeft n src dst d.mem) (sym len)
        (record { bs = bs; outside = outside; count = refl; from = d1; to = d2; own = own; shown = shown; stand = stand; holds = h; stop = stop; done = done })) s2
        (λ pc2 sr2 dst2 src2 m2 ep x s3. on m2 (last x.bs x.count x.outside dst2 m2 x.done x.holds) pc2 sr2 (dst2 % 65536) (src2 % 65536) ep s3))) safe
      where
        last : (bs : List ℕ) → length bs ≡ 0 → (outside : List ℕ) (dst : ℕ) (m : List ℕ)
            → ((out2 : List ℕ) → write_bytes f.setup ds outside dst bs ≡ Ok out2 → (m2 : List ℕ) → MemoryHolds f at back stack priv out2 r.sp m2 → Ended m2)
            → MemoryHolds f at back stack priv outside r.sp m → Ended m
        last [] e outside dst m done h = done outside (nothing_written outside dst) m h
        last (b ∷ bs) e outside dst m done h = absurd (omega (arith, e))
