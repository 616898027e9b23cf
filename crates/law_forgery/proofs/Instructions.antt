-- A module instruction does the same where no tag tells the keys apart.
use Rattle.std.proofs.Common.{◌≡◌, ℕ, ◌+◌, ◌-◌, ◌++◌, Bool, true, false, cond, not, ◌==◌, bytes_eq, List, [], ◌∷◌, length, take, slice_index, Option, Some, None, refl, sym, ◌∙◌, ap, ap₂, subst, arith}
use Rattle.std.specs.Prelude.{nat_le, ◌&&◌}
use Rattle.std.specs.List.{list_any}
use Rattle.sx_rules.specs.declared.access.Violation.{Violation}
use Rattle.sx_rules.specs.declared.access.Violation.TheVariants as bad
use Rattle.sx_rules.specs.declared.section.Layout.{Layout}
use Rattle.sx_rules.specs.declared.section.Section.{Section}
use Rattle.sx_rules.specs.declared.admission.Refusal.{Refusal}
use Rattle.sx_rules.specs.Access.{Sections, holder, section_of}
use Rattle.sx_rules.specs.Admission.{refusal}
use Rattle.sx_bus.specs.Devices.{places_of}
use Rattle.sx_tag.specs.Mac.{Mac}
use Rattle.sx_tag.specs.Keys.{section_key, identity, attest_tag}
use Rattle.sx_tag.specs.Wrap.{xor_bytes, stream, crypt, wrap_tag, Wrapped as WrappedBytes, wrapped, padded, unwrapped}
use Rattle.spec_machine.specs.declared.kinds.Event.TheVariants.{Protected, Wrapped}
use Rattle.spec_machine.specs.Ranges.{passes_end, meets_device}
use Rattle.spec_machine.specs.Plan.{Plan, Need, Tell, Bytes, Put, Writable}
use Rattle.spec_machine.specs.Run.{Module, exec}
use Rattle.spec_machine.specs.Given.{Given, own_section, untouched_with, concluded}
use Rattle.spec_machine.specs.Protect.{layout_in, provider_in, identity_at, answer_registers, wiped, key_for, protected_if, protect, removed_if, unprotect}
use Rattle.spec_machine.specs.ModuleRows.{answer, within, Buffer, tested, vouches, attested, attest, own_key, buffers, with_key, with_inputs, exchanged, wrap, opened, unwrap, module_row}
use Rattle.spec_machine.specs.Modules.{module_instruction}
use Rattle.law_forgery.specs.Tags.{SameTags}
use Rattle.law_forgery.proofs.Tables.{LikeSection, LikeAll, LikeFound, holder_like, found_like, append_like, without_like, refusal_like}
use Rattle.law_forgery.proofs.Plans.{LikeOutcome, Alike, same_alike, equal_alike, need_alike, bytes_alike, cond_like}

-- what follows the key of a wrap or an unwrap
abbrev pub behind : Given → (List ℕ → List ℕ → List ℕ → Plan) → List ℕ → Plan
behind g rest key = Bytes (slice_index g.regs 10) (slice_index g.regs 11) (λ ad. Bytes (slice_index g.regs 12) (slice_index g.regs 13) (λ text. rest key ad text))

-- what is written of what was wrapped
abbrev pub sealed : Given → List ℕ → List ℕ → WrappedBytes → Plan
sealed g ad body w = Put (slice_index g.regs 14) w.cipher (Put (slice_index g.regs 15) w.tag (Tell (concluded g.regs 1) (Wrapped g.own) (exchanged g.regs ad body)))

-- what follows the tag of an unwrap
abbrev pub opens : Given → Mac → List ℕ → List ℕ → List ℕ → List ℕ → Plan
opens g m k ad cipher tag = Writable (slice_index g.regs 14) (slice_index g.regs 13) (opened g ad (unwrapped m k ad cipher tag))

module _ (mac nac : Mac) where
  -- What is under the keys.

  stream_same : (key ley ad : List ℕ) → SameTags mac key nac ley → stream mac key ad ≡ stream nac ley ad
  stream_same key ley ad h = h 0x53 (length ad ∷ (ad ++ 0 ∷ [])) (λ e. absurd (omega (arith, e)))

  crypt_same : (key ley ad bytes : List ℕ) → SameTags mac key nac ley → crypt mac key ad bytes ≡ crypt nac ley ad bytes
  unfolding crypt
  crypt_same key ley ad bytes h = ap (xor_bytes bytes) (stream_same key ley ad h)

  pub wrap_tag_same : (key ley ad cipher : List ℕ) → SameTags mac key nac ley → wrap_tag mac key ad cipher ≡ wrap_tag nac ley ad cipher
  unfolding wrap_tag
  wrap_tag_same key ley ad cipher h = ap (take 16) (h 0x54 (length ad ∷ (ad ++ cipher)) (λ e. absurd (omega (arith, e))))

  pub wrapped_same : (key ley ad body : List ℕ) → SameTags mac key nac ley → wrapped mac key ad body ≡ wrapped nac ley ad body
  wrapped_same key ley ad body h =
      ap₂ (λ (c t : List ℕ). record { cipher = c; tag = t }) (crypt_same key ley ad body h)
      (ap (λ c. wrap_tag mac key ad c) (crypt_same key ley ad body h) ∙ wrap_tag_same key ley ad (crypt nac ley ad body) h)

  pub unwrapped_same : (key ley ad cipher tag : List ℕ) → SameTags mac key nac ley → unwrapped mac key ad cipher tag ≡ unwrapped nac ley ad cipher tag
  unfolding unwrapped
  unwrapped_same key ley ad cipher tag h =
      ap₂ (λ (t c : List ℕ). cond (bytes_eq tag t) (Some (padded c)) None) (wrap_tag_same key ley ad cipher h) (crypt_same key ley ad cipher h)

  pub attest_same : (key ley id : List ℕ) → SameTags mac key nac ley → attest_tag mac key id ≡ attest_tag nac ley id
  unfolding attest_tag
  attest_same key ley id h = ap (take 16) (h 0x41 id (λ e. absurd (omega (arith, e))))

  -- What code holds in memory and uses as a key has 16 bytes.
  module _ (held : (k : List ℕ) → length k ≡ 16 → SameTags mac k nac k) (g : Given) (u : Sections) (base : List ℕ)
      (like : LikeAll mac nac g.sections.live u.live) (next : u.next ≡ g.sections.next)
      (bases : (provider : ℕ) (id : List ℕ) → SameTags mac (section_key mac g.base provider id) nac (section_key nac base provider id)) where
    -- the same, with other keys
    abbrev pub other : Given
    other = record g { sections = u; base = base }

    abbrev Alike2 : Plan → Plan → Type 0
    Alike2 p q = Alike mac nac g.sections u like next g.own p q

    need_ : (b : Bool) (v : Violation) (p q : Plan) → Alike2 p q → Alike2 (Need b v p) (Need b v q)
    need_ b v p q h = need_alike mac nac g.sections u like next g.own b v p q h

    bytes_ : (at n : ℕ) (k l : List ℕ → Plan) → ((bs : List ℕ) → length bs ≡ n → Alike2 (k bs) (l bs)) → Alike2 (Bytes at n k) (Bytes at n l)
    bytes_ at n k l h = bytes_alike mac nac g.sections u like next g.own at n k l h

    equal_ : (p q : Plan) → p ≡ q → Alike2 p q
    equal_ p q e = equal_alike mac nac g.sections u like next g.own p q e

    answer_alike : (v : ℕ) → Alike2 (answer g v) (answer g v)
    answer_alike v = same_alike mac nac g.sections u like next g.own (answer g v)

    within_alike : (row rot : Section → Plan) (o p : Option Section) → LikeFound mac nac o p → ((x y : Section) → LikeSection mac nac x y → Alike2 (row x) (rot y))
        → Alike2 (within g row o) (within other rot p)
    within_alike row rot None None h f = answer_alike 0
    within_alike row rot None (Some y) h f = absurd h
    within_alike row rot (Some x) None h f = absurd h
    within_alike row rot (Some x) (Some y) h f = f x y h

    -- the tests of buffers
    abbrev in_memory : List Buffer → Bool
    in_memory bs = not (list_any (λ b. passes_end b.at b.count) bs)

    abbrev off_devices : List Buffer → Bool
    off_devices bs = not (list_any (λ b. meets_device (places_of g.devices) b.at b.count) bs)

    tested_alike : (bs : List Buffer) (p q : Plan) → Alike2 p q → Alike2 (tested g bs p) (tested other bs q)
    tested_alike bs p q h =
        need_ (in_memory bs) bad.Range (Need (off_devices bs) bad.Device p) (Need (off_devices bs) bad.Device q)
        (need_ (off_devices bs) bad.Device p q h)

    -- Attest.

    vouches_same : (x y s : Section) (tag text : List ℕ) → LikeSection mac nac x y → vouches mac x tag s text ≡ vouches nac y tag s text
    vouches_same x y s tag text h =
        ap (bytes_eq tag) (attest_same x.key y.key (identity text s.layout.pub_from s.layout.pub_to s.layout.priv_from s.layout.priv_to) h.1)

    abbrev told : Mac → Section → List ℕ → Section → List ℕ → Plan
    told m own tag s text = answer g (cond (vouches m own tag s text) s.id 0)

    attested_alike : (x y : Section) (tag : List ℕ) (o p : Option Section) → LikeSection mac nac x y → LikeFound mac nac o p → Alike2 (attested mac g x tag o) (attested nac other y tag p)
    attested_alike x y tag None None h f = answer_alike 0
    attested_alike x y tag None (Some r) h f = absurd f
    attested_alike x y tag (Some s) None h f = absurd f
    attested_alike x y tag (Some s) (Some r) h f =
        subst (λ (z : Section). Alike2 (attested mac g x tag (Some s)) (attested nac other y tag (Some z))) (sym f.0)
        (bytes_ s.layout.pub_from (s.layout.pub_to - s.layout.pub_from) (told mac x tag s) (told nac y tag s) (λ text e.
        equal_ (told mac x tag s text) (told nac y tag s text) (ap (λ (b : Bool). answer g (cond b s.id 0)) (vouches_same x y s tag text h))))

    attest_alike : (x y : Section) → LikeSection mac nac x y → Alike2 (attest mac g x) (attest nac other y)
    attest_alike x y h =
        let at = holder g.sections.live (slice_index g.regs 9) in
        let au = holder u.live (slice_index g.regs 9) in
        let k : List ℕ → Plan = λ tag. attested mac g x tag (section_of g.sections.live at) in
        let l : List ℕ → Plan = λ tag. attested nac other y tag (section_of u.live au) in
        tested_alike (record { at = slice_index g.regs 10; count = 16 } ∷ []) (Bytes (slice_index g.regs 10) 16 k) (Bytes (slice_index g.regs 10) 16 l)
        (bytes_ (slice_index g.regs 10) 16 k l (λ tag e.
        subst (λ (i : ℕ). Alike2 (attested mac g x tag (section_of g.sections.live at)) (attested nac other y tag (section_of u.live i)))
        (sym (holder_like mac nac g.sections.live u.live (slice_index g.regs 9) like))
        (attested_alike x y tag (section_of g.sections.live at) (section_of u.live at) h (found_like mac nac g.sections.live u.live at like))))

    -- Wrap and unwrap.

    key_alike : (b : Bool) (x y : Section) (rest ress : List ℕ → Plan) → LikeSection mac nac x y → ((k l : List ℕ) → SameTags mac k nac l → Alike2 (rest k) (ress l))
        → Alike2 (cond b (rest x.key) (Bytes (slice_index g.regs 9) 16 rest)) (cond b (ress y.key) (Bytes (slice_index g.regs 9) 16 ress))
    key_alike true x y rest ress h f = f x.key y.key h.1
    key_alike false x y rest ress h f = bytes_ (slice_index g.regs 9) 16 rest ress (λ k e. f k k (held k e))

    inputs_alike : (x y : Section) (rest ress : List ℕ → List ℕ → List ℕ → Plan) → LikeSection mac nac x y
        → ((k l : List ℕ) → SameTags mac k nac l → (ad text : List ℕ) → Alike2 (rest k ad text) (ress l ad text))
        → Alike2 (with_inputs g x rest) (with_inputs other y ress)
    inputs_alike x y rest ress h f =
        let short = nat_le (slice_index g.regs 11) 32 && nat_le (slice_index g.regs 13) 32 in
        let p = with_key g x (behind g rest) in
        let q = with_key other y (behind g ress) in
        need_ short bad.Range (tested g (buffers g.regs) p) (tested other (buffers g.regs) q) (tested_alike (buffers g.regs) p q
        (key_alike (own_key g.regs) x y (behind g rest) (behind g ress) h (λ k l same.
        bytes_ (slice_index g.regs 10) (slice_index g.regs 11)
        (λ ad. Bytes (slice_index g.regs 12) (slice_index g.regs 13) (λ text. rest k ad text))
        (λ ad. Bytes (slice_index g.regs 12) (slice_index g.regs 13) (λ text. ress l ad text)) (λ ad e.
        bytes_ (slice_index g.regs 12) (slice_index g.regs 13) (λ text. rest k ad text) (λ text. ress l ad text) (λ text e2.
        f k l same ad text)))))

    wrap_alike : (x y : Section) → LikeSection mac nac x y → Alike2 (wrap mac g x) (wrap nac other y)
    wrap_alike x y h =
        inputs_alike x y (λ k ad body. sealed g ad body (wrapped mac k ad body)) (λ k ad body. sealed g ad body (wrapped nac k ad body)) h (λ k l same ad body.
        equal_ (sealed g ad body (wrapped mac k ad body)) (sealed g ad body (wrapped nac l ad body)) (ap (sealed g ad body) (wrapped_same k l ad body same)))

    opened_same : (ad : List ℕ) (o : Option (List ℕ)) → opened g ad o ≡ opened other ad o
    opened_same ad None = refl
    opened_same ad (Some body) = refl

    unwrap_alike : (x y : Section) → LikeSection mac nac x y → Alike2 (unwrap mac g x) (unwrap nac other y)
    unwrap_alike x y h =
        inputs_alike x y (λ k ad cipher. Bytes (slice_index g.regs 15) 16 (opens g mac k ad cipher)) (λ k ad cipher. Bytes (slice_index g.regs 15) 16 (opens other nac k ad cipher)) h (λ k l same ad cipher.
        bytes_ (slice_index g.regs 15) 16 (opens g mac k ad cipher) (opens other nac l ad cipher) (λ tag e.
        equal_ (opens g mac k ad cipher tag) (opens other nac l ad cipher tag)
        (ap (λ (o : Option (List ℕ)). Writable (slice_index g.regs 14) (slice_index g.regs 13) (opened g ad o)) (unwrapped_same k l ad cipher tag same)
        ∙ ap (λ (p : Plan). Writable (slice_index g.regs 14) (slice_index g.regs 13) p) (opened_same ad (unwrapped nac l ad cipher tag)))))

    -- The other rows.

    own_like : LikeFound mac nac (own_section g) (own_section other)
    own_like = found_like mac nac g.sections.live u.live g.own like

    row_alike : (code : ℕ) → Alike2 (module_row mac code g) (module_row nac code other)
    unfolding module_row
    row_alike code =
        let own = own_section g in
        let oth = own_section other in
        let a2 = within g (attest mac g) own in
        let b2 = within other (attest nac other) oth in
        let a4 = within g (wrap mac g) own in
        let b4 = within other (wrap nac other) oth in
        let a5 = within g (unwrap mac g) own in
        let b5 = within other (unwrap nac other) oth in
        let a6 = answer g (holder g.sections.live (slice_index g.regs 9)) in
        let b6 = answer g (holder u.live (slice_index g.regs 9)) in
        let a7 = within g (λ x. answer g g.caller) own in
        let b7 = within other (λ x. answer g g.caller) oth in
        by (code == 2) a2 b2
        (cond (code == 4) a4 (cond (code == 5) a5 (cond (code == 6) a6 a7))) (cond (code == 4) b4 (cond (code == 5) b5 (cond (code == 6) b6 b7)))
        (within_alike (attest mac g) (attest nac other) own oth own_like attest_alike)
        (by (code == 4) a4 b4 (cond (code == 5) a5 (cond (code == 6) a6 a7)) (cond (code == 5) b5 (cond (code == 6) b6 b7))
        (within_alike (wrap mac g) (wrap nac other) own oth own_like wrap_alike)
        (by (code == 5) a5 b5 (cond (code == 6) a6 a7) (cond (code == 6) b6 b7)
        (within_alike (unwrap mac g) (unwrap nac other) own oth own_like unwrap_alike)
        (by (code == 6) a6 b6 a7 b7
        (equal_ a6 b6 (ap (answer g) (sym (holder_like mac nac g.sections.live u.live (slice_index g.regs 9) like))))
        (within_alike (λ x. answer g g.caller) (λ x. answer g g.caller) own oth own_like (λ x y h. answer_alike g.caller)))))
      where
        by : (b : Bool) (p q r s : Plan) → Alike2 p q → Alike2 r s → Alike2 (cond b p r) (cond b q s)
        by true p q r s h f = h
        by false p q r s h f = f

    -- Protect and unprotect.

    protected_like : (m : List ℕ) (l : Layout) (o : Option Refusal) → LikeOutcome mac nac (protected_if mac g m l o) (protected_if nac other m l o)
    protected_like m l None =
        subst (λ (n : ℕ). LikeOutcome mac nac (protected_if mac g m l None)
        (Module (answer_registers g.regs n 0) (untouched_with g (wiped m l))
        (record { live = u.live ++ record { layout = l; provider = provider_in g.regs; id = n; key = key_for nac other m l } ∷ []; next = n + 1 })
        (Protected n) g.exchange)) (sym next) (
          refl,
          refl,
          append_like mac nac g.sections.live u.live
              (record { layout = l; provider = provider_in g.regs; id = g.sections.next; key = key_for mac g m l })
              (record { layout = l; provider = provider_in g.regs; id = g.sections.next; key = key_for nac other m l }) like (refl, bases (provider_in g.regs) (identity_at m l)),
          refl,
          refl,
          refl,
        )
    protected_like m l (Some why) = (refl, refl, like, next, refl, refl)

    protect_like : (m : List ℕ) → LikeOutcome mac nac (protect mac g m) (protect nac other m)
    unfolding protect
    protect_like m =
        let l = layout_in g.regs in
        subst (λ (o : Option Refusal). LikeOutcome mac nac (protected_if mac g m l (refusal g.sections l (places_of g.devices))) (protected_if nac other m l o))
        (sym (refusal_like mac nac g.sections u l (places_of g.devices) like next)) (protected_like m l (refusal g.sections l (places_of g.devices)))

    removed_like : (m : List ℕ) (o p : Option Section) → LikeFound mac nac o p → LikeOutcome mac nac (removed_if g m o) (removed_if other m p)
    removed_like m None None h = (refl, refl, like, next, refl, refl)
    removed_like m None (Some y) h = absurd h
    removed_like m (Some x) None h = absurd h
    removed_like m (Some x) (Some y) h =
        subst (λ (z : Section). LikeOutcome mac nac (removed_if g m (Some x)) (removed_if other m (Some z))) (sym h.0)
        (refl, refl, without_like mac nac g.sections.live u.live g.own like, next, refl, refl)

    unprotect_like : (m : List ℕ) → LikeOutcome mac nac (unprotect g m) (unprotect other m)
    unfolding unprotect
    unprotect_like m = removed_like m (own_section g) (own_section other) own_like

    pub instruction_like : (code : ℕ) (m : List ℕ) → LikeOutcome mac nac (module_instruction mac code g m) (module_instruction nac code other m)
    instruction_like code m =
        let x = untouched_with g m in
        let rows = exec g.sections g.own (module_row mac code g) x in
        let rowt = exec u g.own (module_row nac code other) x in
        cond_like mac nac (code == 0) (unprotect g m) (unprotect other m) (cond (code == 1) (protect mac g m) rows) (cond (code == 1) (protect nac other m) rowt) (unprotect_like m)
        (cond_like mac nac (code == 1) (protect mac g m) (protect nac other m) rows rowt (protect_like m) (row_alike code x))
