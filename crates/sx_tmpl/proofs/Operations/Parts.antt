-- Handlers' parts: the place to return to lies in a word that only templates use.
use Rattle.sx_tmpl.specs.Template.{handler_words}
use Rattle.sx_isa.specs.Standing.{words_of}
use Rattle.sx_isa.specs.Assembly.{##◌, &◌, br, clr, mov}
use Rattle.sx_tmpl.proofs.Running.Instructions.{goes}
use Rattle.std.proofs.Common.{◌≡◌, ℕ, ◌+◌, ◌-◌, ◌%◌, ◌≤◌, inl, List, [], ◌∷◌, length, Some, None, refl, arith}
use Rattle.sx_rules.specs.declared.access.Violation.{Violation}
use Rattle.spec_machine.specs.Memory.{put_word}
use Rattle.spec_invocation.specs.Marks.{Mark}
use Rattle.sx_image.specs.Watched.{Watched}
use Rattle.sx_ir.specs.Conf.{Conf}
use Rattle.sx_tmpl.specs.Running.{Fixed}
use Rattle.sx_tmpl.proofs.Running.MidRun.{Stands, put_cell}
use Rattle.sx_tmpl.specs.Shows.{base_of}
use Rattle.sx_tmpl.proofs.Running.Steps.{InText}
use Rattle.sx_tmpl.proofs.Running.Flags.{flags_stay}
use Rattle.sx_tmpl.proofs.Operations.Plain.{inside, Leads, stood}
use Rattle.sx_tmpl.proofs.Running.Holding.{holds_return, holds_forget, low_shown, mid_shown, data_word, holds_store}

module _ (f : Fixed) (st : Stands f) (all : List Mark) (B : Watched → Violation → Type 0) (at : ℕ → ℕ) where
  -- the count of pieces is set to 0, the next place is kept, and the part begins
  pub handler_leads : (c : Conf) (q : ℕ) → InText f (at q) → at q % 2 ≡ 0 → 6 ≤ length c.priv
      → Leads f st all B at 7 (handler_words (base_of f) (at (c.place + 1)) (at q)) 3 c
      (record c { place = q; priv = put_word c.priv 4 0; back = Some (c.place + 1) })
  handler_leads c q to ev long r d t on sh safe =
      let h = sh.holds in
      let stay = flags_stay r.sr in
      let lim = st.below in
      let high = t.to in
      let e : at q % 65536 - at q % 65536 % 2 ≡ at q = omega (arith, to.to, st.below) in
      let ret = at (c.place + 1) in
      let cut : ret % 65536 ≡ ret = omega arith in
      let p4 = data_word f st 4 (low_shown _ 4 2 (omega arith)) (omega arith) refl (omega (arith, st.room)) in
      let p104 = data_word f st 104 (mid_shown _ 104 2 (omega arith) (omega arith)) (omega arith) refl (omega (arith, st.room)) in
      let m1 = put_cell d.mem (base_of f + 4) 0 in
      let h1 = holds_store f st at c.back c.stack c.priv c.mem r.sp d.mem 4 0 safe.memory h refl (record { low = omega arith; beside = inl (omega arith) }) long in
      let m2 = put_cell m1 (base_of f + 104) ret in
      let r1 = record r { pc = at c.place + 4 } in
      let r2 = record r { pc = at c.place + 10 } in
      let r3 = record r { pc = at q } in
      goes f st all B _ t 0 (clr (& (base_of f + 4))) refl (omega arith) refl refl r d 2 (omega (arith, sh.pc)) safe r1 m1 (inside t 2 (omega arith))
      (base_of f + 4, refl, p4, 0, refl, omega arith, (rw stay refl, refl)) (λ s1.
      goes f st all B _ t 2 (mov (## ret) (& (base_of f + 104))) refl (omega arith) refl refl r1 (record d { mem = m1 }) 1 refl s1
      r2 m2 (inside t 5 (omega arith)) (base_of f + 104, refl, p104, ret, cut, omega arith, (rw stay refl, refl)) (λ s2.
      goes f st all B _ t 5 (br (## (at q))) refl (omega arith) refl refl r2 (record d { mem = m2 }) 0 refl s2 r3 m2 to
      (rw (stay, e) refl, refl) (λ s3.
      stood f st all B at (record c { place = q; priv = put_word c.priv 4 0; back = Some (c.place + 1) }) r3 m2 d 0 s3 refl
      (holds_return f st at c.back (c.place + 1) c.stack (put_word c.priv 4 0) c.mem r.sp m1 s1.memory h1) sh.devices sh.marks)))

  -- back to that place
  pub stop_leads : (c : Conf) (p : ℕ) → InText f (at p) → at p % 2 ≡ 0 → Leads f st all B at 2 (words_of (br (& (base_of f + 104)) ∷ [])) 1
      (record c { back = Some p }) (record c { place = p; back = None })
  stop_leads c p to ev r d t on sh safe =
      let h = sh.holds in
      let e : at p - at p % 2 ≡ at p = omega arith in
      let p104 = data_word f st 104 (mid_shown _ 104 2 (omega arith) (omega arith)) (omega arith) refl (omega (arith, st.room)) in
      let r2 = record r { pc = at p } in
      goes f st all B _ t 0 (br (& (base_of f + 104))) refl (omega arith) refl refl r d 0 (omega (arith, sh.pc)) safe r2 d.mem to
      (base_of f + 104, refl, p104, at p, h.returns, (rw (flags_stay r.sr, e) refl, refl)) (λ s1.
      stood f st all B at (record c { place = p; back = None }) r2 d.mem d 0 s1 refl (holds_forget f at (Some p) c.stack c.priv c.mem r.sp d.mem h) sh.devices sh.marks)
