-- A module instruction of code of no deployed module does the same where deployed modules' bytes and keys differ.
use Rattle.std.proofs.Common.{◌≡◌, ℕ, zero, suc, ◌+◌, ◌-◌, ◌<◌, ◌≤◌, ◌++◌, Bool, true, false, cond, not, ◌==◌, inl, inr, ◌⊎◌, bytes_eq, List, [], ◌∷◌, length, slice_index, Option, Some}
use Rattle.std.proofs.Common.{None, refl, sym, ◌∙◌, ap, subst, arith}
use Rattle.std.specs.Prelude.{nat_le, nat_lt, slice_set, ◌&&◌}
use Rattle.std.specs.List.{list_any, list_all}
use Rattle.std.proofs.lemmas.Bool.{and_parts, eqb-true, or_cases, leb-true, ltb-true, cases_lt, cases_eq}
use Rattle.std.proofs.lemmas.List.{get_or-set_same, get_or-set_other, set_past, get_or_past}
use Rattle.spec_machine.proofs.Meanings.{same_bytes}
use Rattle.sx_rules.specs.declared.access.Access.TheVariants.{Read}
use Rattle.sx_rules.specs.declared.access.Violation.{Violation}
use Rattle.sx_rules.specs.declared.access.Violation.TheVariants as bad
use Rattle.sx_rules.specs.declared.section.Layout.{Layout}
use Rattle.sx_rules.specs.declared.section.Section.{Section}
use Rattle.sx_rules.specs.declared.admission.Refusal.{Refusal}
use Rattle.sx_rules.specs.Access.{Sections, holder, section_of}
use Rattle.sx_rules.specs.Admission.{refusal, apart, parts_apart, clear_of}
use Rattle.sx_rules.proofs.Admits.{admits}
use Rattle.sx_bus.specs.Devices.{places_of}
use Rattle.sx_tag.specs.Mac.{Mac}
use Rattle.sx_tag.specs.Keys.{section_key, identity}
use Rattle.sx_tag.specs.Wrap.{wrapped, unwrapped}
use Rattle.spec_machine.specs.declared.kinds.Event.TheVariants.{Quiet, Protected}
use Rattle.spec_machine.specs.declared.kinds.Exchange.{Exchange}
use Rattle.spec_machine.specs.Memory.{bytes_from, zeroed}
use Rattle.spec_machine.specs.Ranges.{passes_end, meets_device}
use Rattle.spec_machine.specs.Plan.{Plan, Need, Bytes, Writable}
use Rattle.spec_machine.specs.Run.{Moment, Outcome, Module, may_range, exec}
use Rattle.spec_machine.specs.Given.{Given, own_section, untouched_with, concluded}
use Rattle.spec_machine.specs.Protect.{layout_in, provider_in, identity_at, answer_registers, wiped, protected_if, protect, removed_if, unprotect}
use Rattle.spec_machine.specs.ModuleRows.{answer, within, Buffer, tested, vouches, attested, attest, own_key, buffers, with_key, with_inputs, wrap, opened, unwrap, module_row}
use Rattle.spec_machine.specs.Modules.{module_instruction}
use Rattle.spec_machine.proofs.PlanGuard.{passes, with_mem}
use Rattle.spec_machine.proofs.Frame.{zeroed_other, out_of}
use Rattle.spec_machine.proofs.Apart.{lives_push, lives_without}
use Rattle.spec_machine.proofs.ProtectGuard.{lives_on}
use Rattle.spec_machine.proofs.UnprotectGuard.{lives_still}
use Rattle.law_forgery.specs.Tags.{SameTags}
use Rattle.sx_tmpl.specs.Steady.{AgreeAt}
use Rattle.law_connections.proofs.Outside.{Unhidden, SameSection, SameSections, text_at}
use Rattle.law_forgery.proofs.Tables.{LikeAll, holder_like, refusal_like}
use Rattle.law_forgery.proofs.Instructions.{behind, sealed, opens, attest_same, wrapped_same, unwrapped_same}
use Rattle.sx_tmpl.proofs.Agreeing.{zeroed_agree}
use Rattle.law_connections.proofs.Opened.{IsOutsider, blank_mac, blank_all, SameFound, found_same, append_same, without_same}
use Rattle.sx_tmpl.proofs.Agreeing.{SameMoments}
use Rattle.law_connections.proofs.Blind.{AreZero, Grown, grown_self, Same, AlikeIn, equal_blind, tell_blind, need_blind, writable_blind, bytes_blind}

-- Where a new section is wiped.

-- one range of bytes is before the other
abbrev Apart : Layout → Type 0
Apart l = (l.pub_to ≤ l.priv_from) ⊎ (l.priv_to ≤ l.pub_from)

parts_cases : (l : Layout) → parts_apart l ≡ true → Apart l
parts_cases l e = elim (or_cases (nat_le l.pub_to l.priv_from) (nat_le l.priv_to l.pub_from) e) [
  | inl f ↦ inl (leb-true l.pub_to l.priv_from f)
  | inr f ↦ inr (leb-true l.priv_to l.pub_from f)
]

beside : (l : Layout) (k : ℕ) → l.pub_from ≤ k → k < l.pub_from + (l.pub_to - l.pub_from) → Apart l → (k < l.priv_from) ⊎ (l.priv_from + (l.priv_to - l.priv_from) ≤ k)
beside l k a b (inl f) = elim (cases_lt k l.pub_to) [ inl lt ↦ inl (omega (arith, lt, f)) | inr ge ↦ absurd (omega (arith, ge, a, b)) ]
beside l k a b (inr f) = elim (cases_lt k l.priv_from) [ inl lt ↦ inl lt | inr ge ↦ inr (omega (arith, ge, a, b, f)) ]

in_text : (l : Layout) (k : ℕ) → l.pub_from ≤ k → k < l.pub_from + (l.pub_to - l.pub_from) → k < l.pub_to
in_text l k a b = elim (cases_lt k l.pub_to) [ inl lt ↦ lt | inr ge ↦ absurd (omega (arith, ge, a, b)) ]

-- the text of a layout whose parts don't meet isn't wiped with its private part
text_wiped : (m : List ℕ) (l : Layout) → parts_apart l ≡ true → text_at (wiped m l) l ≡ text_at m l
text_wiped m l h = same_bytes m (wiped m l) l.pub_from (l.pub_to - l.pub_from) (λ k a b. zeroed_other m l.priv_from (l.priv_to - l.priv_from) k (beside l k a b (parts_cases l h)))

zeroed_at : (m : List ℕ) (at len k : ℕ) → at ≤ k → k < at + len → slice_index (zeroed m at len) k ≡ 0
unfolding zeroed
zeroed_at m at zero k a b = absurd (omega (arith, a, b))
zeroed_at m at (suc len) k a b = elim (cases_eq k (at + len)) [
  | inl e ↦ subst (λ (j : ℕ). slice_index (slice_set (zeroed m at len) (at + len) 0) j ≡ 0) (sym e)
      (elim (cases_lt (at + len) (length (zeroed m at len))) [
        | inl lt ↦ get_or-set_same (zeroed m at len) (at + len) 0 0 lt
        | inr ge ↦ ap (λ (xs : List ℕ). slice_index xs (at + len)) (set_past (zeroed m at len) (at + len) 0 ge) ∙ get_or_past (zeroed m at len) (at + len) 0 ge
      ])
  | inr ne ↦ get_or-set_other (zeroed m at len) (at + len) k 0 0 ne ∙ zeroed_at m at len k a (omega (arith, b, ne))
]

-- the private bytes of a layout are 0 once wiped
wiped_at : (m : List ℕ) (l : Layout) (k : ℕ) → (nat_le l.priv_from k && nat_lt k l.priv_to) ≡ true → slice_index (wiped m l) k ≡ 0
wiped_at m l k h =
    let p = and_parts (nat_le l.priv_from k) (nat_lt k l.priv_to) h in
    let a = leb-true l.priv_from k p.0 in
    let b = ltb-true k l.priv_to p.1 in
    zeroed_at m l.priv_from (l.priv_to - l.priv_from) k a (omega (arith, a, b))

module _ (mac nac : Mac) (hides : Section → Bool) (g : Given) (u : Sections) (base : List ℕ) (exchange : Exchange) (m n : List ℕ)
    (same : SameSections mac nac hides g.sections.live u.live) (next : u.next ≡ g.sections.next)
    (outsider : IsOutsider hides g.sections.live g.own)
    (agree : AgreeAt (Unhidden hides g.sections.live) m n) where
  -- the same, with other keys and another exchange
  abbrev pub other : Given
  other = record g { sections = u; base = base; exchange = exchange }

  abbrev x0 : Moment
  x0 = untouched_with g m

  abbrev pub Match : Outcome → Outcome → Type 0
  Match o p = Same mac nac hides m g.sections u same next g.own outsider o p

  abbrev Alike : Plan → Plan → Type 0
  Alike p q = AlikeIn mac nac hides m g.sections u same next g.own outsider x0 n p q

  need_ : (b : Bool) (v : Violation) (p q : Plan) → Alike p q → Alike (Need b v p) (Need b v q)
  need_ b v p q h = need_blind mac nac hides m g.sections u same next g.own outsider x0 n agree b v p q h

  bytes_ : (at len : ℕ) (k l : List ℕ → Plan) → (may_range g.sections.live g.own Read at len ≡ true → Alike (k (bytes_from m at len)) (l (bytes_from m at len)))
      → Alike (Bytes at len k) (Bytes at len l)
  bytes_ at len k l h = bytes_blind mac nac hides m g.sections u same next g.own outsider x0 n agree at len k l h

  equal_ : (p q : Plan) → p ≡ q → Alike p q
  equal_ p q e = equal_blind mac nac hides m g.sections u same next g.own outsider x0 n agree p q e

  writable_ : (at len : ℕ) (p q : Plan) → Alike p q → Alike (Writable at len p) (Writable at len q)
  writable_ at len p q h = writable_blind mac nac hides m g.sections u same next g.own outsider x0 n agree at len p q h

  answer_alike : (v w : ℕ) → v ≡ w → Alike (answer g v) (answer other w)
  answer_alike v w e =
      subst (λ (z : ℕ). Alike (answer g v) (answer other z)) e
      (tell_blind mac nac hides m g.sections u same next g.own outsider x0 n agree (concluded g.regs v) Quiet g.exchange exchange)

  Blank : LikeAll blank_mac blank_mac g.sections.live u.live
  Blank = blank_all mac nac hides g.sections.live u.live same

  within_alike : (row rot : Section → Plan) (o p : Option Section) → SameFound mac nac hides o p
      → ((x y : Section) → o ≡ Some x → SameSection mac nac hides x y → Alike (row x) (rot y)) → Alike (within g row o) (within other rot p)
  within_alike row rot None None h f = answer_alike 0 0 refl
  within_alike row rot None (Some y) h f = absurd h
  within_alike row rot (Some x) None h f = absurd h
  within_alike row rot (Some x) (Some y) h f = f x y refl h

  -- the tests of buffers
  abbrev in_memory : List Buffer → Bool
  in_memory bs = not (list_any (λ b. passes_end b.at b.count) bs)

  abbrev off_devices : List Buffer → Bool
  off_devices bs = not (list_any (λ b. meets_device (places_of g.devices) b.at b.count) bs)

  tested_alike : (bs : List Buffer) (p q : Plan) → Alike p q → Alike (tested g bs p) (tested other bs q)
  tested_alike bs p q h =
      need_ (in_memory bs) bad.Range (Need (off_devices bs) bad.Device p) (Need (off_devices bs) bad.Device q)
      (need_ (off_devices bs) bad.Device p q h)

  -- Attest, of a section that doesn't hide.

  vouches_same : (x y s : Section) (tag text : List ℕ) → SameTags mac x.key nac y.key → vouches mac x tag s text ≡ vouches nac y tag s text
  vouches_same x y s tag text h =
      ap (bytes_eq tag) (attest_same mac nac x.key y.key (identity text s.layout.pub_from s.layout.pub_to s.layout.priv_from s.layout.priv_to) h)

  attested_alike : (x y : Section) (tag : List ℕ) (o p : Option Section) → SameTags mac x.key nac y.key → SameFound mac nac hides o p → Alike (attested mac g x tag o) (attested nac other y tag p)
  attested_alike x y tag None None h f = answer_alike 0 0 refl
  attested_alike x y tag None (Some r) h f = absurd f
  attested_alike x y tag (Some s) None h f = absurd f
  attested_alike x y tag (Some s) (Some r) h f =
      subst (λ (z : Section). Alike (attested mac g x tag (Some s)) (attested nac other y tag (Some z))) (sym f.0)
      (bytes_ s.layout.pub_from (s.layout.pub_to - s.layout.pub_from) (λ text. answer g (cond (vouches mac x tag s text) s.id 0)) (λ text. answer other (cond (vouches nac y tag s text) s.id 0)) (λ e.
      answer_alike _ _ (ap (λ (b : Bool). cond b s.id 0) (vouches_same x y s tag (text_at m s.layout) h))))

  attest_alike : (x y : Section) → SameTags mac x.key nac y.key → Alike (attest mac g x) (attest nac other y)
  attest_alike x y h =
      let at = holder g.sections.live (slice_index g.regs 9) in
      let au = holder u.live (slice_index g.regs 9) in
      let k : List ℕ → Plan = λ tag. attested mac g x tag (section_of g.sections.live at) in
      let l : List ℕ → Plan = λ tag. attested nac other y tag (section_of u.live au) in
      tested_alike (record { at = slice_index g.regs 10; count = 16 } ∷ []) (Bytes (slice_index g.regs 10) 16 k) (Bytes (slice_index g.regs 10) 16 l)
      (bytes_ (slice_index g.regs 10) 16 k l (λ e.
      let tag = bytes_from m (slice_index g.regs 10) 16 in
      subst (λ (i : ℕ). Alike (attested mac g x tag (section_of g.sections.live at)) (attested nac other y tag (section_of u.live i)))
      (sym (holder_like blank_mac blank_mac g.sections.live u.live (slice_index g.regs 9) Blank))
      (attested_alike x y tag (section_of g.sections.live at) (section_of u.live at) h (found_same mac nac hides g.sections.live u.live at same))))

  -- Wrap and unwrap, of a section that doesn't hide.

  -- no tag tells apart the tag functions under the key at R9
  abbrev pub Held : Type 0
  Held = own_key g.regs ≡ false → may_range g.sections.live g.own Read (slice_index g.regs 9) 16 ≡ true
      → SameTags mac (bytes_from m (slice_index g.regs 9) 16) nac (bytes_from m (slice_index g.regs 9) 16)

  key_alike : (b : Bool) (x y : Section) (rest ress : List ℕ → Plan) → own_key g.regs ≡ b → Held → SameTags mac x.key nac y.key → ((k l : List ℕ) → SameTags mac k nac l → Alike (rest k) (ress l))
      → Alike (cond b (rest x.key) (Bytes (slice_index g.regs 9) 16 rest)) (cond b (ress y.key) (Bytes (slice_index g.regs 9) 16 ress))
  key_alike true x y rest ress e held h f = f x.key y.key h
  key_alike false x y rest ress e held h f =
      bytes_ (slice_index g.regs 9) 16 rest ress (λ r. f (bytes_from m (slice_index g.regs 9) 16) (bytes_from m (slice_index g.regs 9) 16) (held e r))

  inputs_alike : (x y : Section) (rest ress : List ℕ → List ℕ → List ℕ → Plan) → Held → SameTags mac x.key nac y.key
      → ((k l : List ℕ) → SameTags mac k nac l → (ad text : List ℕ) → Alike (rest k ad text) (ress l ad text))
      → Alike (with_inputs g x rest) (with_inputs other y ress)
  inputs_alike x y rest ress held h f =
      let short = nat_le (slice_index g.regs 11) 32 && nat_le (slice_index g.regs 13) 32 in
      let p = with_key g x (behind g rest) in
      let q = with_key other y (behind g ress) in
      need_ short bad.Range (tested g (buffers g.regs) p) (tested other (buffers g.regs) q) (tested_alike (buffers g.regs) p q
      (key_alike (own_key g.regs) x y (behind g rest) (behind g ress) refl held h (λ k l tags.
      bytes_ (slice_index g.regs 10) (slice_index g.regs 11)
      (λ ad. Bytes (slice_index g.regs 12) (slice_index g.regs 13) (λ text. rest k ad text))
      (λ ad. Bytes (slice_index g.regs 12) (slice_index g.regs 13) (λ text. ress l ad text)) (λ e.
      let ad = bytes_from m (slice_index g.regs 10) (slice_index g.regs 11) in
      bytes_ (slice_index g.regs 12) (slice_index g.regs 13) (λ text. rest k ad text) (λ text. ress l ad text) (λ e2.
      f k l tags ad (bytes_from m (slice_index g.regs 12) (slice_index g.regs 13)))))))

  wrap_alike : (x y : Section) → Held → SameTags mac x.key nac y.key → Alike (wrap mac g x) (wrap nac other y)
  wrap_alike x y held h =
      inputs_alike x y (λ k ad body. sealed g ad body (wrapped mac k ad body)) (λ k ad body. sealed g ad body (wrapped nac k ad body)) held h (λ k l tags ad body.
      equal_ (sealed g ad body (wrapped mac k ad body)) (sealed g ad body (wrapped nac l ad body)) (ap (sealed g ad body) (wrapped_same mac nac k l ad body tags)))

  opened_alike : (ad : List ℕ) (o : Option (List ℕ)) → Alike (opened g ad o) (opened other ad o)
  opened_alike ad None = answer_alike 0 0 refl
  opened_alike ad (Some body) = equal_ (opened g ad (Some body)) (opened g ad (Some body)) refl

  opens_alike : (k l ad cipher tag : List ℕ) → SameTags mac k nac l → Alike (opens g mac k ad cipher tag) (opens other nac l ad cipher tag)
  opens_alike k l ad cipher tag tags =
      subst (λ (o : Option (List ℕ)). Alike (opens g mac k ad cipher tag) (Writable (slice_index g.regs 14) (slice_index g.regs 13) (opened other ad o))) (unwrapped_same mac nac k l ad cipher tag tags)
      (writable_ (slice_index g.regs 14) (slice_index g.regs 13) (opened g ad (unwrapped mac k ad cipher tag)) (opened other ad (unwrapped mac k ad cipher tag))
      (opened_alike ad (unwrapped mac k ad cipher tag)))

  unwrap_alike : (x y : Section) → Held → SameTags mac x.key nac y.key → Alike (unwrap mac g x) (unwrap nac other y)
  unwrap_alike x y held h =
      inputs_alike x y (λ k ad cipher. Bytes (slice_index g.regs 15) 16 (opens g mac k ad cipher)) (λ k ad cipher. Bytes (slice_index g.regs 15) 16 (opens other nac k ad cipher)) held h (λ k l tags ad cipher.
      bytes_ (slice_index g.regs 15) 16 (opens g mac k ad cipher) (opens other nac l ad cipher) (λ e. opens_alike k l ad cipher (bytes_from m (slice_index g.regs 15) 16) tags))

  -- The rows.

  -- the module whose code it is doesn't hide
  abbrev pub Bare : Type 0
  Bare = (x : Section) → own_section g ≡ Some x → hides x ≡ false

  row_alike : (code : ℕ) → Bare → ((x : Section) → own_section g ≡ Some x → (code ≡ 4) ⊎ (code ≡ 5) → Held) → Alike (module_row mac code g) (module_row nac code other)
  unfolding module_row
  row_alike code bare held =
      let own = own_section g in
      let oth = own_section other in
      let a2 = within g (attest mac g) own in
      let b2 = within other (attest nac other) oth in
      let a4 = within g (wrap mac g) own in
      let b4 = within other (wrap nac other) oth in
      let a5 = within g (unwrap mac g) own in
      let b5 = within other (unwrap nac other) oth in
      let a6 = answer g (holder g.sections.live (slice_index g.regs 9)) in
      let b6 = answer other (holder u.live (slice_index g.regs 9)) in
      let a7 = within g (λ x. answer g g.caller) own in
      let b7 = within other (λ x. answer other g.caller) oth in
      let own_same : SameFound mac nac hides own oth = found_same mac nac hides g.sections.live u.live g.own same in
      by (code == 2) a2 b2
      (cond (code == 4) a4 (cond (code == 5) a5 (cond (code == 6) a6 a7))) (cond (code == 4) b4 (cond (code == 5) b5 (cond (code == 6) b6 b7)))
      (λ c. within_alike (attest mac g) (attest nac other) own oth own_same (λ x y e s. attest_alike x y (s.1 (bare x e))))
      (by (code == 4) a4 b4 (cond (code == 5) a5 (cond (code == 6) a6 a7)) (cond (code == 5) b5 (cond (code == 6) b6 b7))
      (λ c. within_alike (wrap mac g) (wrap nac other) own oth own_same (λ x y e s. wrap_alike x y (held x e (inl (eqb-true code 4 c))) (s.1 (bare x e))))
      (by (code == 5) a5 b5 (cond (code == 6) a6 a7) (cond (code == 6) b6 b7)
      (λ c. within_alike (unwrap mac g) (unwrap nac other) own oth own_same (λ x y e s. unwrap_alike x y (held x e (inr (eqb-true code 5 c))) (s.1 (bare x e))))
      (by (code == 6) a6 b6 a7 b7
      (λ c. answer_alike (holder g.sections.live (slice_index g.regs 9)) (holder u.live (slice_index g.regs 9))
      (sym (holder_like blank_mac blank_mac g.sections.live u.live (slice_index g.regs 9) Blank)))
      (within_alike (λ x. answer g g.caller) (λ x. answer other g.caller) own oth own_same (λ x y e s. answer_alike g.caller g.caller refl)))))
    where
      by : (b : Bool) (p q r s : Plan) → (b ≡ true → Alike p q) → Alike r s → Alike (cond b p r) (cond b q s)
      by true p q r s h f = h refl
      by false p q r s h f = f

  -- Protect and unprotect.

  -- a new section: what its key would be with the same text, where it doesn't hide
  abbrev new_section : Mac → List ℕ → List ℕ → Layout → Section
  new_section f k mem l = record { layout = l; provider = provider_in g.regs; id = g.sections.next; key = section_key f k (provider_in g.regs) (identity_at mem l) }

  abbrev pub NewKeys : Type 0
  NewKeys = hides (new_section mac g.base m (layout_in g.regs)) ≡ false
      → SameTags mac (section_key mac g.base (provider_in g.regs) (identity_at m (layout_in g.regs))) nac (section_key nac base (provider_in g.regs) (identity_at m (layout_in g.regs)))

  -- the bytes that become public were in the open
  text_open : (l : Layout) → refusal g.sections l (places_of g.devices) ≡ None → text_at n l ≡ text_at m l
  text_open l e =
      let clear = (and_parts (parts_apart l) (list_all (clear_of l) g.sections.live) (admits g.sections l (places_of g.devices) e).overlap).1 in
      sym (same_bytes n m l.pub_from (l.pub_to - l.pub_from) (λ k a b. agree.same k (λ x lives h.
      let c = passes (clear_of l) g.sections.live x lives clear in
      let p = and_parts (apart l.pub_from l.pub_to x.layout.pub_from x.layout.pub_to) _ c in
      let q = and_parts (apart l.pub_from l.pub_to x.layout.priv_from x.layout.priv_to) _ p.1 in
      out_of l.pub_from l.pub_to x.layout.priv_from x.layout.priv_to k q.0 a (in_text l k a b))))

  grown_push : (new : Section) (l : Layout) → new.layout ≡ l → parts_apart l ≡ true → Grown hides g.sections.live (g.sections.live ++ new ∷ []) m (wiped m l) (wiped n l)
  grown_push new l same_l parts = record {
    hidden = λ k f x lives h. f x (lives_on g.sections.live x new lives) h;
    known = λ x lives. elim (lives_push g.sections.live new x lives) [
      | inl o ↦ inl o
      | inr e ↦ inr (
        subst (λ (z : Layout). text_at (wiped m l) z ≡ text_at m z) (sym same_l ∙ ap (λ (s : Section). s.layout) e) (text_wiped m l parts),
        subst (λ (z : Section). AreZero z (wiped m l) (wiped n l)) e
            (λ k p. let q = subst (λ (y : Layout). (nat_le y.priv_from k && nat_lt k y.priv_to) ≡ true) same_l p in (wiped_at m l k q, wiped_at n l k q)),
      )
    ];
  }

  protected_alike : (o : Option Refusal) → NewKeys → refusal g.sections (layout_in g.regs) (places_of g.devices) ≡ o
      → Match (protected_if mac g m (layout_in g.regs) o) (protected_if nac other n (layout_in g.regs) o)
  protected_alike None keys e =
      let l = layout_in g.regs in
      let parts = (and_parts (parts_apart l) (list_all (clear_of l) g.sections.live) (admits g.sections l (places_of g.devices) e).overlap).0 in
      let moments : SameMoments (Unhidden hides g.sections.live) (untouched_with g (wiped m l)) (untouched_with other (wiped n l)) =
      record { rest = refl; mem = zeroed_agree (Unhidden hides g.sections.live) m n l.priv_from (l.priv_to - l.priv_from) agree } in
      subst (λ (text : List ℕ). Match (protected_if mac g m l None)
      (Module (answer_registers g.regs u.next 0) (untouched_with other (wiped n l))
      (record {
        live = u.live ++ record {
          layout = l;
          provider = provider_in g.regs;
          id = u.next;
          key = section_key nac base (provider_in g.regs)
              (identity text l.pub_from l.pub_to l.priv_from l.priv_to);
        } ∷ [];
        next = u.next + 1;
      })
      (Protected u.next) exchange)) (sym (text_open l e))
      (subst (λ (i : ℕ). Match (protected_if mac g m l None)
      (Module (answer_registers g.regs i 0) (untouched_with other (wiped n l))
      (record { live = u.live ++ record { layout = l; provider = provider_in g.regs; id = i; key = section_key nac base (provider_in g.regs) (identity_at m l) } ∷ []; next = i + 1 })
      (Protected i) exchange)) (sym next) (
        refl,
        moments,
        append_same mac nac hides g.sections.live u.live (new_section mac g.base m l) (new_section nac base m l) same (refl, keys),
        refl,
        refl,
        grown_push (new_section mac g.base m l) l refl parts,
      ))
  protected_alike (Some why) keys e = (refl, record { rest = refl; mem = agree }, same, next, refl, grown_self hides g.sections.live m m n)

  protect_alike : NewKeys → Match (protect mac g m) (protect nac other n)
  unfolding protect
  protect_alike keys =
      let l = layout_in g.regs in
      subst (λ (o : Option Refusal). Match (protected_if mac g m l (refusal g.sections l (places_of g.devices))) (protected_if nac other n l o))
      (sym (refusal_like blank_mac blank_mac g.sections u l (places_of g.devices) Blank next)) (protected_alike (refusal g.sections l (places_of g.devices)) keys refl)

  removed_alike : (o p : Option Section) → SameFound mac nac hides o p → Match (removed_if g m o) (removed_if other n p)
  removed_alike None None h = (refl, record { rest = refl; mem = agree }, same, next, refl, grown_self hides g.sections.live m m n)
  removed_alike None (Some y) h = absurd h
  removed_alike (Some x) None h = absurd h
  removed_alike (Some x) (Some y) h =
      subst (λ (z : Section). Match (removed_if g m (Some x)) (removed_if other n (Some z))) (sym h.0) (
        refl,
        record { rest = refl; mem = zeroed_agree (Unhidden hides g.sections.live) m n x.layout.priv_from (x.layout.priv_to - x.layout.priv_from) agree },
        without_same mac nac hides g.sections.live u.live g.own same,
        next,
        refl,
        record { hidden = λ k f z lives e. f z (lives_still z g.sections.live g.own lives (outsider z lives e)) e; known = λ z lives. inl (lives_without g.sections.live g.own z lives) },
      )

  unprotect_alike : Match (unprotect g m) (unprotect other n)
  unfolding unprotect
  unprotect_alike = removed_alike (own_section g) (own_section other) (found_same mac nac hides g.sections.live u.live g.own same)

  pub instruction_blind : (code : ℕ) → Bare → ((code ≡ 1) → NewKeys) → ((x : Section) → own_section g ≡ Some x → (code ≡ 4) ⊎ (code ≡ 5) → Held)
      → Match (module_instruction mac code g m) (module_instruction nac code other n)
  instruction_blind code bare keys held =
      let rows = exec g.sections g.own (module_row mac code g) x0 in
      let rowt = exec u g.own (module_row nac code other) (with_mem x0 n) in
      by (code == 0) (unprotect g m) (unprotect other n) (cond (code == 1) (protect mac g m) rows) (cond (code == 1) (protect nac other n) rowt) unprotect_alike
      (protects (code == 1) refl rows rowt (row_alike code bare held))
    where
      one : (c : ℕ) → (c == 1) ≡ true → c ≡ 1
      one c e = eqb-true c 1 e

      protects : (b : Bool) → (code == 1) ≡ b → (q r : Outcome) → Match q r → Match (cond b (protect mac g m) q) (cond b (protect nac other n) r)
      protects true e q r f = protect_alike (keys (one code e))
      protects false e q r f = f

      by : (b : Bool) (o p q r : Outcome) → Match o p → Match q r → Match (cond b o q) (cond b p r)
      by true o p q r h f = h
      by false o p q r h f = f
