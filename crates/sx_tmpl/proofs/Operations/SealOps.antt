-- Wrap and unwrap as operations.
use Rattle.sx_isa.specs.Assembly.{##◌, clr, push, r15, r9}
use Rattle.sx_tmpl.proofs.Running.Loading.{loads}
use Rattle.sx_tmpl.proofs.Running.Instructions.{goes_after}
use Rattle.std.proofs.Common.{◌≡◌, ℕ, zero, suc, ◌+◌, ◌-◌, ◌*◌, ◌%◌, ◌<◌, ◌≤◌, ◌⊎◌, inl, inr, List, [], ◌∷◌, ◌++◌, length, Option, Some, None, refl, sym, ◌∙◌, ap, subst, arith, take}
use Rattle.sx_image.specs.Reach.{Here}
use Rattle.sx_isa.specs.declared.instruction.Operand.{Operand}
use Rattle.sx_isa.specs.Spelling.{spelling}
use Rattle.sx_rules.specs.declared.access.Violation.{Violation}
use Rattle.spec_machine.specs.declared.kinds.Event.{Event}
use Rattle.spec_machine.specs.declared.kinds.Event.TheVariants as event
use Rattle.sx_tmpl.proofs.Running.MidRun.{PrivateRange, Stands, Runs, put_cell}
use Rattle.sx_tmpl.proofs.Running.Holding.{IsRange, part_shown, holds_bytes, holds_from, stack_word, holds_push}
use Rattle.sx_tag.specs.Mac.{IsTag}
use Rattle.sx_tag.proofs.TagBytes.{cipher_length, tag_length}
use Rattle.spec_machine.proofs.Lengths.{length-bytes_from, length-put_bytes}
use Rattle.sx_tag.specs.Wrap.{unwrapped, wrapped}
use Rattle.sx_tmpl.specs.Template.{key_word, opening_words, sealing_words}
use Rattle.std.proofs.lemmas.List.{length-take}
use Rattle.sx_ir.specs.Meaning.{key_at, next}
use Rattle.spec_machine.specs.declared.kinds.Exchange.{Exchange}
use Rattle.spec_machine.specs.Memory.{bytes_from, put_bytes}
use Rattle.spec_invocation.specs.Marks as mark
use Rattle.spec_invocation.specs.Marks.{HasPrefix, Mark}
use Rattle.sx_tmpl.specs.Running.{running_after, Regs, Fixed, Data, running, Safe}
use Rattle.sx_tmpl.proofs.Running.Flags.{flags_stay}
use Rattle.sx_tmpl.proofs.Operations.Sealing.{KeyAt, OwnKey, KeyIn, Buffers, wrap_as, unwrap_step}
use Rattle.sx_image.specs.Watched.{Watched}
use Rattle.sx_ir.specs.Conf.{Conf}
use Rattle.sx_ir.specs.declared.ir.Ir.TheVariants as ir
use Rattle.sx_mean.specs.Offsets.{end_key_at}
use Rattle.sx_tmpl.specs.Unseen.{AreShown, HoldsNoKey, IsKeyPlace, NamesNoKey, WasOpen}
use Rattle.sx_tmpl.specs.Shows.{base_of, MemoryHolds, Stood}
use Rattle.sx_tmpl.proofs.Running.Owes.{kept_bytes}
use Rattle.sx_tmpl.proofs.Running.Steps.{Text}
use Rattle.std.specs.Prelude.{drop, ◌==◌}
use Rattle.std.proofs.lemmas.Bool.{ne_eqb}
use Rattle.sx_tmpl.proofs.Operations.Plain.{inside, Leads}

-- the registers R9 to R15 are loaded
abbrev operands : ℕ → ℕ → ℕ → ℕ → ℕ → ℕ → ℕ → List (Operand × ℕ)
operands v9 v10 v11 v12 v13 v14 v15 = (## v9, 9) ∷ (## v10, 10) ∷ (## v11, 11) ∷ (## v12, 12) ∷ (## v13, 13) ∷ (## v14, 14) ∷ (## v15, 15) ∷ []

abbrev with_operands : Regs → ℕ → ℕ → ℕ → ℕ → ℕ → ℕ → ℕ → ℕ → Regs
with_operands r pc v9 v10 v11 v12 v13 v14 v15 = record r { pc = pc; r9 = v9; r10 = v10; r11 = v11; r12 = v12; r13 = v13; r14 = v14; r15 = v15 }

-- the key's place: 0 for the module's own
abbrev pub key_place : Fixed → ℕ → ℕ
key_place f k = key_word (base_of f) k

-- where the buffers of a wrap or an unwrap lie
pub record SealsAt (k h hn b bn size : ℕ) : Type 0 where
  pub key : (k ≡ 0) ⊎ IsRange k 16 size
  pub header : IsRange h (hn + bn + 16) size
  pub body : IsRange b bn size
  pub few : hn ≤ 32
  pub short : bn ≤ 32

part_range : (o m i n size : ℕ) → IsRange o m size → i + n ≤ m → IsRange (o + i) n size
part_range o m i n size r le = record { low = omega (arith, r.low); beside = elim (r.beside) [ inl q ↦ inl (omega arith) | inr q ↦ inr (omega arith) ]; fits = omega (arith, r.fits) }

front_range : (o m n size : ℕ) → IsRange o m size → n ≤ m → IsRange o n size
front_range o m n size r le = record { low = r.low; beside = elim (r.beside) [ inl q ↦ inl (omega arith) | inr q ↦ inr q ]; fits = omega (arith, r.fits) }

module _ (f : Fixed) (st : Stands f) (all : List Mark) (B : Watched → Violation → Type 0) (at : ℕ → ℕ) where
  private_range : (o n : ℕ) (priv : List ℕ) → base_of f + length priv ≡ f.setup.section.layout.priv_to → IsRange o n (length priv) → PrivateRange f (base_of f + o) n
  private_range o n priv sz r = record { low = omega (arith, r.low); high = omega (arith, r.fits) }

  -- the key of a slot is kept
  abbrev pub KeptAt : Conf → ℕ → Type 0
  KeptAt c k = (j : ℕ) → j < length f.setup.ends → k ≡ end_key_at j → WasOpen f.setup f.entered j (key_at f.setup c k)

  key_here : (c : Conf) (k : ℕ) (stack : List ℕ) (sp : ℕ) (r : Regs) (d : Data) → (k ≡ 0) ⊎ IsRange k 16 (length c.priv) → IsKeyPlace (length f.setup.ends) k → KeptAt c k
      → MemoryHolds f at c.back stack c.priv c.mem sp d.mem → r.r9 ≡ key_place f k → KeyAt f r d (key_at f.setup c k)
  key_here c zero stack sp r d h place kept hold e = OwnKey e refl
  key_here c (suc k) stack sp r d h place kept hold e =
      elim h [
        | inl z ↦ absurd (omega arith)
        | inr g ↦
            let same = holds_from f st at c.back stack c.priv c.mem sp d.mem (suc k) 16 hold g in
            elim place [
              | inl z ↦ absurd (omega arith)
              | inr i ↦ KeyIn i.0 i.1 (e ∙ ap (λ (o : ℕ). base_of f + o) i.2) (subst (λ a. PrivateRange f a 16) (sym e) (private_range (suc k) 16 c.priv hold.size g))
                  (ap (λ a. bytes_from d.mem a 16) e ∙ same) (kept i.0 i.1 i.2)
            ]
      ]

  key_is_own : (k : ℕ) → (key_place f k == 0) ≡ (k == 0)
  key_is_own zero = refl
  key_is_own (suc k) = ne_eqb (base_of f + suc k) 0 (omega arith) ∙ sym (ne_eqb (suc k) 0 (omega arith))

  none_own : (k : ℕ) → key_place f k ≡ 0 → k ≡ 0
  none_own zero e = refl
  none_own (suc k) e = absurd (omega (arith, e))

  key_small : (c : Conf) (k : ℕ) → base_of f + length c.priv ≡ f.setup.section.layout.priv_to → (k ≡ 0) ⊎ IsRange k 16 (length c.priv) → key_place f k < 65536
  key_small c zero sz h = omega arith
  key_small c (suc k) sz h = elim h [ inl z ↦ absurd (omega arith) | inr g ↦ omega (arith, g.fits, st.beneath) ]

  buffers_here : (c : Conf) (k h hn b bn : ℕ) (r : Regs) → base_of f + length c.priv ≡ f.setup.section.layout.priv_to → SealsAt k h hn b bn (length c.priv)
      → r.r10 ≡ base_of f + h → r.r11 ≡ hn → HoldsNoKey (length f.setup.ends) h hn → AreShown f.setup r.r12 r.r13 → PrivateRange f r.r12 r.r13 → PrivateRange f r.r14 r.r13 → r.r13 ≡ bn → r.r15 ≡ base_of f + (h + hn + bn) → Buffers f r
  buffers_here c k h hn b bn r sz ok e10 e11 shown text p12 p14 e13 e15 =
      let hdr = ok.header in
      let few = ok.few in
      let short = ok.short in
      record {
        header = record { low = omega (arith, hdr.low); high = omega (arith, hdr.fits) };
        text = p12;
        out = p14;
        tag = record { low = omega (arith, hdr.low); high = omega (arith, hdr.fits) };
        few = omega arith;
        short = omega arith;
        header_shown = (h, e10, subst (λ (n : ℕ). HoldsNoKey (length f.setup.ends) h n) (sym e11) shown);
        text_shown = text;
      }

  -- wrap, and a plain instruction after it
  pub seal_leads : IsTag f.setup.mac → (c : Conf) (k h hn b bn : ℕ) → SealsAt k h hn b bn (length c.priv) → NamesNoKey (length f.setup.ends) (ir.Seal k h hn b bn) [] → KeptAt c k
      → (let w = wrapped f.setup.mac (key_at f.setup c k) (bytes_from c.priv h hn) (bytes_from c.priv b bn) in
      let marks = c.marks ++ mark.Wrapped (bytes_from c.priv h hn) (bytes_from c.priv b bn) (k == 0) ∷ [] in
      HasPrefix all marks → Leads f st all B at 16 (sealing_words (base_of f) k h hn b bn) 9 c
      (record (next c c.stack) { priv = put_bytes (put_bytes c.priv (h + hn) w.cipher) (h + hn + bn) w.tag; marks = marks }))
  seal_leads tag c k h hn b bn ok unseen kept begins r d t on sh safe =
      let hold = sh.holds in
      let sz = hold.size in
      let hdr = ok.header in
      let bdy = ok.body in
      let hlow = hdr.low in
      let hfit = hdr.fits in
      let bfit = bdy.fits in
      let few = ok.few in
      let short = ok.short in
      let beneath = st.beneath in
      let base = base_of f in
      let key = key_at f.setup c k in
      let ad = bytes_from c.priv h hn in
      let body = bytes_from c.priv b bn in
      let w_ = wrapped f.setup.mac key ad body in
      let c2 = record (next c c.stack) { priv = put_bytes (put_bytes c.priv (h + hn) w_.cipher) (h + hn + bn) w_.tag; marks = c.marks ++ mark.Wrapped ad body (k == 0) ∷ [] } in
      let Q = Stood f all at c2 in
      let v9 = key_place f k in
      let rL = with_operands r (at c.place + 28) v9 (base + h) hn (base + b) bn (base + (h + hn)) (base + (h + hn + bn)) in
      let rh = front_range h (hn + bn + 16) hn (length c.priv) hdr (omega arith) in
      let rc = part_range h (hn + bn + 16) hn bn (length c.priv) hdr (omega arith) in
      let rt : IsRange (h + hn + bn) 16 (length c.priv) = subst (λ o. IsRange o 16 (length c.priv)) (omega arith) (part_range h (hn + bn + 16) (hn + bn) 16 (length c.priv) hdr (omega arith)) in
      let ea = holds_from f st at c.back c.stack c.priv c.mem r.sp d.mem h hn hold rh in
      let eb = holds_from f st at c.back c.stack c.priv c.mem r.sp d.mem b bn hold bdy in
      let lb : length body ≡ bn = length-bytes_from c.priv b bn in
      let lc : length w_.cipher ≡ bn = cipher_length f.setup.mac tag key ad body (omega arith) ∙ lb in
      let lt : length w_.tag ≡ 16 = tag_length f.setup.mac tag key ad body in
      let pc_ = private_range (h + hn) bn c.priv sz rc in
      let mc = put_bytes d.mem (base + (h + hn)) w_.cipher in
      let qc = put_bytes c.priv (h + hn) w_.cipher in
      let mt = put_bytes mc (base + (h + hn + bn)) w_.tag in
      let rc2 : IsRange (h + hn) (length w_.cipher) (length c.priv) = subst (λ n. IsRange (h + hn) n (length c.priv)) (sym lc) rc in
      let hc = holds_bytes f st at c.back w_.cipher c.stack c.priv c.mem r.sp d.mem (h + hn) safe.memory hold rc2 in
      let kc = kept_bytes f st w_.cipher d.mem (base + (h + hn)) safe.memory (private_range (h + hn) (length w_.cipher) c.priv sz rc2) in
      let lq : length qc ≡ length c.priv = length-put_bytes w_.cipher c.priv (h + hn) in
      let rt2 : IsRange (h + hn + bn) (length w_.tag) (length qc) = subst (λ n. IsRange (h + hn + bn) n (length qc)) (sym lt) (subst (λ s. IsRange (h + hn + bn) 16 s) (sym lq) rt) in
      let ht = holds_bytes f st at c.back w_.tag c.stack qc c.mem r.sp mc (h + hn + bn) kc hc rt2 in
      let mk : d.marks ++ mark.Wrapped ad body (k == 0) ∷ [] ≡ c.marks ++ mark.Wrapped ad body (k == 0) ∷ [] = ap (λ l. l ++ mark.Wrapped ad body (k == 0) ∷ []) sh.marks in
      let ls = key_small c k sz ok.key in
      loads f st all B Q t 0 (operands v9 (base + h) hn (base + b) bn (base + (h + hn)) (base + (h + hn + bn))) refl (omega arith) refl
      (ls, (omega arith, (omega arith, (omega arith, (omega arith, (omega arith, (omega arith, tt))))))) r d 2 r.pc (omega (arith, sh.pc)) safe (λ sL.
      subst (λ own. HasPrefix all (d.marks ++ mark.Wrapped ad body own ∷ [])
      → ((x : Exchange) → let d2 : Data = record d { mem = mt; exchange = x; marks = d.marks ++ mark.Wrapped ad body own ∷ [] } in
      Safe f all (running_after (event.Wrapped f.setup.section.id) f (record rL { pc = at c.place + 30; r15 = 1 }) d2)
      → Runs f all B Q 1 (running_after (event.Wrapped f.setup.section.id) f (record rL { pc = at c.place + 30; r15 = 1 }) d2)) → Runs f all B Q 2 (running f rL d)) (key_is_own k)
      (wrap_as f st all B Q t 14 refl (omega arith) event.Quiet rL d key ad body 1 refl sL (buffers_here c k h hn b bn rL sz ok refl refl unseen.1 (b, refl, unseen.2) (private_range b bn c.priv sz bdy) pc_ refl refl)
      (key_here c k c.stack r.sp rL d ok.key unseen.0 kept hold refl) (λ z. unseen.3 (none_own k z)) ea eb)
      (subst (λ l. HasPrefix all l) (sym mk) begins)
      (λ x s2.
      let d2 : Data = record d { mem = mt; exchange = x; marks = d.marks ++ mark.Wrapped ad body (k == 0) ∷ [] } in
      let r2 = record rL { pc = at c.place + 30; r15 = 1 } in
      let r3 = record r2 { pc = at c.place + 32; r9 = 0 } in
      goes_after f st all B Q (event.Wrapped f.setup.section.id) t 15 (clr r9) refl (omega arith) refl refl r2 d2 0 refl s2 r3 d2.mem (inside t 16 (omega arith))
      (rw (flags_stay r.sr) refl, refl) (λ s3.
      Here (record { regs = r3; rest = d2; state = refl; safe = s3; shows = record { pc = omega (arith, on); holds = ht; devices = sh.devices; marks = mk } }))))

  -- the configuration after an unwrap
  abbrev pub after_open : Conf → ℕ → List ℕ → ℕ → ℕ → Option (List ℕ) → Conf
  after_open c k ad b bn None = next c (0 ∷ c.stack)
  after_open c k ad b bn (Some body) = record (next c (1 ∷ c.stack)) { priv = put_bytes c.priv b (take bn body); marks = c.marks ++ mark.Unwrapped ad (take bn body) (k == 0) ∷ [] }

  -- the answer in R15 is pushed
  answer_pushed : (c2 : Conf) (t15 : ℕ) {P n : ℕ} {ws : List ℕ} (t : Text f P n ws) → take 1 (drop 15 ws) ≡ spelling (push r15) → 16 ≤ n
      → (e : Event) (r : Regs) (d : Data) (stack priv outside : List ℕ) (back : Option ℕ) (v : ℕ) → r.pc ≡ P + 2 * 15 → Safe f all (running_after e f r d)
      → MemoryHolds f at back stack priv outside r.sp d.mem → length stack < 160 → r.r15 ≡ v → v < 65536
      → at c2.place ≡ P + 32 → c2.stack ≡ v ∷ stack → c2.priv ≡ priv → c2.mem ≡ outside → c2.back ≡ back → d.devices ≡ c2.devices → d.marks ≡ c2.marks
      → Runs f all B (Stood f all at c2) 1 (running_after e f r d)
  answer_pushed c2 t15 {P = P} t has le e r d stack priv outside back v pc safe hold room e15 lv on es ep em eb dv mk =
      let top = hold.top in
      let sp = r.sp - 2 in
      let pr = stack_word f st sp (length (v ∷ stack)) (omega arith) (omega arith) (omega arith) in
      let down : (r.sp + 65534) % 65536 ≡ sp = omega (arith, st.beneath, st.room) in
      let cut : r.r15 % 65536 ≡ v = omega arith in
      let r2 = record r { pc = P + 32; sp = sp } in
      let h2 = holds_push f st at back stack priv outside r.sp d.mem sp v safe.memory hold (omega arith) (omega arith) in
      goes_after f st all B (Stood f all at c2) e t 15 (push r15) has le refl refl r d 0 pc safe r2 (put_cell d.mem sp v) (inside t 16 le)
      (sp, down, pr, v, cut, lv, (rw down refl, refl)) (λ s3.
      Here (record {
        regs = r2;
        rest = record d { mem = put_cell d.mem sp v };
        state = refl;
        safe = s3;
        shows = record {
          pc = sym on;
          holds = subst (λ b. MemoryHolds f at b c2.stack c2.priv c2.mem sp (put_cell d.mem sp v)) (sym eb) (subst (λ l. MemoryHolds f at back l c2.priv c2.mem sp (put_cell d.mem sp v))
              (sym es) (subst (λ p. MemoryHolds f at back (v ∷ stack) p c2.mem sp (put_cell d.mem sp v)) (sym ep)
              (subst (λ o. MemoryHolds f at back (v ∷ stack) priv o sp (put_cell d.mem sp v)) (sym em) h2)));
          devices = dv;
          marks = mk;
        };
      }))

  pub open_leads : (c : Conf) (k h hn b bn : ℕ) (result : Option (List ℕ)) → SealsAt k h hn b bn (length c.priv) → NamesNoKey (length f.setup.ends) (ir.Open k h hn b bn) [] → KeptAt c k → length c.stack < 160
      → unwrapped f.setup.mac (key_at f.setup c k) (bytes_from c.priv h hn) (bytes_from c.priv (h + hn) bn) (bytes_from c.priv (h + hn + bn) 16) ≡ result
      → HasPrefix all (after_open c k (bytes_from c.priv h hn) b bn result).marks
      → Leads f st all B at 16 (opening_words (base_of f) k h hn b bn) 9 c (after_open c k (bytes_from c.priv h hn) b bn result)
  open_leads c k h hn b bn result ok unseen kept room is begins r d t on sh safe =
      let hold = sh.holds in
      let sz = hold.size in
      let hdr = ok.header in
      let bdy = ok.body in
      let hfit = hdr.fits in
      let bfit = bdy.fits in
      let few = ok.few in
      let short = ok.short in
      let beneath = st.beneath in
      let base = base_of f in
      let key = key_at f.setup c k in
      let ad = bytes_from c.priv h hn in
      let Q = Stood f all at (after_open c k ad b bn result) in
      let v9 = key_place f k in
      let rL = with_operands r (at c.place + 28) v9 (base + h) hn (base + (h + hn)) bn (base + b) (base + (h + hn + bn)) in
      let rh = front_range h (hn + bn + 16) hn (length c.priv) hdr (omega arith) in
      let rc = part_range h (hn + bn + 16) hn bn (length c.priv) hdr (omega arith) in
      let rt : IsRange (h + hn + bn) 16 (length c.priv) = subst (λ o. IsRange o 16 (length c.priv)) (omega arith) (part_range h (hn + bn + 16) (hn + bn) 16 (length c.priv) hdr (omega arith)) in
      let ea = holds_from f st at c.back c.stack c.priv c.mem r.sp d.mem h hn hold rh in
      let ec = holds_from f st at c.back c.stack c.priv c.mem r.sp d.mem (h + hn) bn hold rc in
      let et = holds_from f st at c.back c.stack c.priv c.mem r.sp d.mem (h + hn + bn) 16 hold rt in
      let same : unwrapped f.setup.mac key (bytes_from d.mem (base + h) hn) (bytes_from d.mem (base + (h + hn)) bn) (bytes_from d.mem (base + (h + hn + bn)) 16) ≡ result =
      ap (λ a. unwrapped f.setup.mac key a (bytes_from d.mem (base + (h + hn)) bn) (bytes_from d.mem (base + (h + hn + bn)) 16)) ea
      ∙ ap (λ x. unwrapped f.setup.mac key ad x (bytes_from d.mem (base + (h + hn + bn)) 16)) ec ∙ ap (λ x. unwrapped f.setup.mac key ad (bytes_from c.priv (h + hn) bn) x) et ∙ is in
      let ls = key_small c k sz ok.key in
      let to_plain : key_place f k ≡ 0 → (base + b ≡ base + 56) × (bn ≤ 16) = λ z. (ap (λ (o : ℕ). base + o) (unseen.2 (none_own k z)).0, (unseen.2 (none_own k z)).1) in
      let at0 : h + 0 ≡ h = omega arith in
      let header = subst (λ (o : ℕ). HoldsNoKey (length f.setup.ends) o hn) at0 (part_shown (length f.setup.ends) h (hn + bn + 16) 0 hn unseen.1 (omega arith)) in
      let at_tag : h + (hn + bn) ≡ h + hn + bn = omega arith in
      let last = subst (λ (o : ℕ). HoldsNoKey (length f.setup.ends) o 16) at_tag (part_shown (length f.setup.ends) h (hn + bn + 16) (hn + bn) 16 unseen.1 (omega arith)) in
      let told : (plain : List ℕ) → d.marks ++ mark.Unwrapped (bytes_from d.mem (base + h) hn) (take bn plain) (v9 == 0) ∷ [] ≡ c.marks ++ mark.Unwrapped ad (take bn plain) (k == 0) ∷ [] =
      λ plain. ap (λ l. l ++ mark.Unwrapped (bytes_from d.mem (base + h) hn) (take bn plain) (v9 == 0) ∷ []) sh.marks ∙ ap (λ a. c.marks ++ mark.Unwrapped a (take bn plain) (v9 == 0) ∷ []) ea
      ∙ ap (λ o. c.marks ++ mark.Unwrapped ad (take bn plain) o ∷ []) (key_is_own k) in
      loads f st all B Q t 0 (operands v9 (base + h) hn (base + (h + hn)) bn (base + b) (base + (h + hn + bn))) refl (omega arith) refl
      (ls, (omega arith, (omega arith, (omega arith, (omega arith, (omega arith, (omega arith, tt))))))) r d 2 r.pc (omega (arith, sh.pc)) safe (λ sL.
      unwrap_step f st all B Q t 14 refl (omega arith) event.Quiet rL d key 1 result refl sL (buffers_here c k h hn b bn rL sz ok refl refl header
      (h + hn, refl, part_shown (length f.setup.ends) h (hn + bn + 16) hn bn unseen.1 (omega arith)) (private_range (h + hn) bn c.priv sz rc)
      (private_range b bn c.priv sz bdy) refl refl) (h + hn + bn, refl, last) to_plain (key_here c k c.stack r.sp rL d ok.key unseen.0 kept hold refl) same
      (λ er s2. subst (λ o. Runs f all B (Stood f all at (after_open c k ad b bn o)) 1 (running f (record rL { pc = at c.place + 30; r15 = 0 }) d)) (sym er)
      (answer_pushed (next c (0 ∷ c.stack)) 0 t refl (omega arith) event.Quiet (record rL { pc = at c.place + 30; r15 = 0 }) d c.stack c.priv c.mem c.back 0 refl s2 hold room refl
      (omega arith) on refl refl refl refl sh.devices sh.marks))
      (λ plain er. subst (λ l. HasPrefix all l) (sym (told plain)) (subst (λ o. HasPrefix all (after_open c k ad b bn o).marks) er begins))
      (λ plain x er s2. subst (λ o. Runs f all B (Stood f all at (after_open c k ad b bn o)) 1 (running_after (event.Unwrapped f.setup.section.id) f (record rL { pc = at c.place + 30; r15 = 1 })
      (record d { mem = put_bytes d.mem (base + b) (take bn plain); exchange = x; marks = d.marks ++ mark.Unwrapped (bytes_from d.mem (base + h) hn) (take bn plain) (v9 == 0) ∷ [] }))) (sym er)
      (let rb : IsRange b (length (take bn plain)) (length c.priv) = front_range b bn (length (take bn plain)) (length c.priv) bdy (let l = length-take bn plain in omega (arith, l)) in
      answer_pushed (after_open c k ad b bn (Some plain)) 0 t refl (omega arith) (event.Unwrapped f.setup.section.id) (record rL { pc = at c.place + 30; r15 = 1 })
      (record d { mem = put_bytes d.mem (base + b) (take bn plain); exchange = x; marks = d.marks ++ mark.Unwrapped (bytes_from d.mem (base + h) hn) (take bn plain) (v9 == 0) ∷ [] })
      c.stack (put_bytes c.priv b (take bn plain)) c.mem c.back 1 refl s2 (holds_bytes f st at c.back (take bn plain) c.stack c.priv c.mem r.sp d.mem b safe.memory hold rb) room refl
      (omega arith) on refl refl refl refl sh.devices (told plain))))
