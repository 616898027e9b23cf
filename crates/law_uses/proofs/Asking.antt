-- A module instruction does the same where its uses have the same answers.
use Rattle.std.proofs.Common.{◌≡◌, ℕ, ◌+◌, ◌-◌, ◌++◌, Bool, true, false, cond, not, ◌==◌, ◌&&◌, bytes_eq, List, [], ◌∷◌, length, take, slice_index, Option, Some, None, refl, sym, ◌∙◌, ap, ap₂, subst, arith}
use Rattle.std.specs.Prelude.{nat_le}
use Rattle.std.specs.List.{list_any}
use Rattle.sx_rules.specs.declared.access.Access.{Access}
use Rattle.sx_rules.specs.declared.access.Access.TheVariants.{Read, Write}
use Rattle.sx_rules.specs.declared.access.Violation.{Violation}
use Rattle.sx_rules.specs.declared.access.Violation.TheVariants as bad
use Rattle.sx_rules.specs.declared.section.Layout.{Layout}
use Rattle.sx_rules.specs.declared.section.Section.{Section}
use Rattle.sx_rules.specs.declared.admission.Refusal.{Refusal}
use Rattle.sx_rules.specs.Access.{Sections, may, holder, section_of}
use Rattle.sx_rules.specs.Admission.{refusal}
use Rattle.sx_bus.specs.Devices.{places_of}
use Rattle.sx_tag.specs.Mac.{Mac}
use Rattle.sx_tag.specs.Keys.{identity, attest_tag}
use Rattle.sx_tag.specs.Wrap.{xor_bytes, crypt, wrap_tag, Wrapped as WrappedBytes, wrapped, padded, unwrapped}
use Rattle.spec_machine.specs.declared.kinds.Event.TheVariants.{Protected}
use Rattle.spec_machine.specs.declared.kinds.Event.TheVariants as event
use Rattle.spec_machine.specs.Memory.{bytes_from, put_bytes}
use Rattle.spec_machine.specs.Ranges.{passes_end, meets_device}
use Rattle.spec_machine.specs.Plan.{Plan, Need, Bytes, Tell}
use Rattle.spec_machine.specs.Run.{Moment, Outcome, Violated, Module, may_range, may_each, exec}
use Rattle.spec_machine.specs.Given.{Given, untouched_with, concluded}
use Rattle.spec_machine.specs.Protect.{layout_in, provider_in, answer_registers, wiped, key_for, protected_if, protect, unprotect}
use Rattle.spec_machine.specs.ModuleRows.{answer, within, Buffer, tested, vouches, attested, attest, own_key, buffers, with_key, with_inputs, exchanged, wrap, opened, unwrap, module_row}
use Rattle.spec_machine.specs.Modules.{module_instruction}
use Rattle.spec_machine.specs.State.{State}
use Rattle.spec_machine.specs.Step.{own_of, given_at_pc}
use Rattle.spec_run.specs.Setting.{Setting}
use Rattle.law_forgery.proofs.Tables.{LikeAll, LikeFound, holder_like, found_like, append_like, refusal_like}
use Rattle.law_forgery.proofs.Plans.{LikeOutcome, same_alike, equal_alike, may_range_like, may_each_like, cond_like}
use Rattle.law_forgery.proofs.Instructions.{behind, sealed, opens, instruction_like}
use Rattle.law_uses.specs.Uses.{Holder, Held, key_held, Use, Gives, Tries, Sizes, SameUse, SameUses, given, tried, reading, in_reach, section_holder, attested_uses, attest_uses, key_uses, inputs_uses, is_written, wrap_uses, unwrap_uses, instruction_uses}

-- No tag at all. Under it any two keys are alike, so what differs in keys alone is like.
abbrev pub N : Mac
N key message = []

abbrev pub Out : Outcome → Outcome → Type 0
Out o p = LikeOutcome N N o p

-- bytes are written where as many may be
pub each_long : (live : List Section) (own : ℕ) (access : Access) (at : ℕ) (bs cs : List ℕ) → length bs ≡ length cs → may_each live own access at bs ≡ may_each live own access at cs
each_long live own access at [] [] e = refl
each_long live own access at [] (c ∷ cs) e = absurd (omega (arith, e))
each_long live own access at (b ∷ bs) [] e = absurd (omega (arith, e))
each_long live own access at (b ∷ bs) (c ∷ cs) e = ap (λ (t : Bool). may live own access at && t) (each_long live own access (at + 1) bs cs (omega (arith, e)))

module _ (a b : Setting) where
  -- What a wrap and an unwrap make.

  crypt_given : (who : Holder) (ad body : List ℕ) → SameUse a b (Gives who 0x53 (length ad ∷ (ad ++ 0 ∷ [])))
      → crypt a.mac (key_held a who) ad body ≡ crypt b.mac (key_held b who) ad body
  unfolding crypt
  crypt_given who ad body h = ap (xor_bytes body) h

  tag_given : (who : Holder) (ad cipher : List ℕ) → SameUse a b (Gives who 0x54 (length ad ∷ (ad ++ cipher)))
      → wrap_tag a.mac (key_held a who) ad cipher ≡ wrap_tag b.mac (key_held b who) ad cipher
  unfolding wrap_tag
  tag_given who ad cipher h = ap (take 16) h

  tag_tried : (who : Holder) (ad cipher tag : List ℕ) → SameUse a b (Tries who 0x54 (length ad ∷ (ad ++ cipher)) tag)
      → bytes_eq tag (wrap_tag a.mac (key_held a who) ad cipher) ≡ bytes_eq tag (wrap_tag b.mac (key_held b who) ad cipher)
  unfolding wrap_tag
  tag_tried who ad cipher tag h = h

  pub wrapped_given : (who : Holder) (ad body : List ℕ) → SameUses a b (given a who ad body) → wrapped a.mac (key_held a who) ad body ≡ wrapped b.mac (key_held b who) ad body
  wrapped_given who ad body h =
      let c = crypt_given who ad body h.0 in
      ap₂ (λ (c t : List ℕ). record { cipher = c; tag = t }) c
      (tag_given who ad (crypt a.mac (key_held a who) ad body) h.1.0 ∙ ap (λ c. wrap_tag b.mac (key_held b who) ad c) c)

  opened_if : (c d : Bool) (us : List Use) (x y : List ℕ) → c ≡ d → SameUses a b (cond c us []) → (SameUses a b us → x ≡ y)
      → cond c (Some (padded x)) None ≡ cond d (Some (padded y)) None
  opened_if true d us x y e h f = subst (λ (z : Bool). Some (padded x) ≡ cond z (Some (padded y)) None) e (ap (λ (c : List ℕ). Some (padded c)) (f h))
  opened_if false d us x y e h f = subst (λ (z : Bool). None ≡ cond z (Some (padded y)) None) e refl

  unwrapped_tried : (who : Holder) (ad cipher tag : List ℕ) → SameUses a b (tried a who ad cipher tag)
      → unwrapped a.mac (key_held a who) ad cipher tag ≡ unwrapped b.mac (key_held b who) ad cipher tag
  unfolding unwrapped
  unwrapped_tried who ad cipher tag h =
      opened_if (bytes_eq tag (wrap_tag a.mac (key_held a who) ad cipher)) (bytes_eq tag (wrap_tag b.mac (key_held b who) ad cipher)) (Gives who 0x53 (length ad ∷ (ad ++ 0 ∷ [])) ∷ [])
      (crypt a.mac (key_held a who) ad cipher) (crypt b.mac (key_held b who) ad cipher) (tag_tried who ad cipher tag h.0) h.1 (λ g. crypt_given who ad cipher g.0)

  -- what follows a test, where the uses that follow it have the same answers
  pub by_test : (t r : Bool) (us : List Use) (o p : Outcome) (v : Violation) → r ≡ t → SameUses a b (cond t us []) → (SameUses a b us → Out o p) → Out (cond t o (Violated v)) (cond r p (Violated v))
  by_test true r us o p v e h f = subst (λ (d : Bool). Out o (cond d p (Violated v))) (sym e) (f h)
  by_test false r us o p v e h f = subst (λ (d : Bool). Out (Violated v) (cond d p (Violated v))) (sym e) refl

  pub by_case : (t : Bool) (us vs : List Use) (o p q r : Outcome) → SameUses a b (cond t us vs) → (SameUses a b us → Out o p) → (SameUses a b vs → Out q r) → Out (cond t o q) (cond t p r)
  by_case true us vs o p q r h f g = f h
  by_case false us vs o p q r h f g = g h

  module _ (n : ℕ) (s : State) (u : Sections) (base : List ℕ) (like : LikeAll N N s.sections.live u.live) (next : u.next ≡ s.sections.next)
      (left : (x : Section) → section_of s.sections.live (own_of s) ≡ Some x → x.key ≡ key_held a (section_holder n s x))
      (right : (y : Section) → section_of u.live (own_of s) ≡ Some y → y.key ≡ key_held b (section_holder n s y)) where
    abbrev g : Given
    g = given_at_pc a.mac s

    abbrev pub beside : Given
    beside = record g { sections = u; base = base }

    abbrev start : Moment
    start = untouched_with g s.mem

    abbrev At : Plan → Plan → Type 0
    At p q = Out (exec g.sections g.own p start) (exec u g.own q start)

    equal_ : (p q : Plan) → p ≡ q → At p q
    equal_ p q e = equal_alike N N g.sections u like next g.own p q e start

    answer_at : (v : ℕ) → At (answer g v) (answer g v)
    answer_at v = same_alike N N g.sections u like next g.own (answer g v) start

    reads : (at m : ℕ) (us : List ℕ → List Use) (k l : List ℕ → Plan) → SameUses a b (reading s at m us) → ((bs : List ℕ) → SameUses a b (us bs) → At (k bs) (l bs)) → At (Bytes at m k) (Bytes at m l)
    reads at m us k l h f =
        let bs = bytes_from s.mem at m in
        by_test (may_range s.sections.live (own_of s) Read at m) (may_range u.live (own_of s) Read at m) (us bs) (exec g.sections g.own (k bs) start) (exec u g.own (l bs) start) bad.Read
        (may_range_like N N g.sections u like next g.own Read at m) h (f bs)

    abbrev in_memory : List Buffer → Bool
    in_memory bs = not (list_any (λ b. passes_end b.at b.count) bs)

    abbrev off_devices : List Buffer → Bool
    off_devices bs = not (list_any (λ b. meets_device (places_of s.devices) b.at b.count) bs)

    tested_at : (bs : List Buffer) (us : List Use) (p q : Plan) → SameUses a b (in_reach s bs us) → (SameUses a b us → At p q) → At (tested g bs p) (tested beside bs q)
    tested_at bs us p q h f =
        by_test (in_memory bs) (in_memory bs) (cond (off_devices bs) us []) (exec g.sections g.own (Need (off_devices bs) bad.Device p) start) (exec u g.own (Need (off_devices bs) bad.Device q) start) bad.Range refl h (λ h2.
        by_test (off_devices bs) (off_devices bs) us (exec g.sections g.own p start) (exec u g.own q start) bad.Device refl h2 f)

    -- the keys of sections are those of one holder
    record Keys (x y : Section) : Type 0 where
      one : x.key ≡ key_held a (section_holder n s x)
      two : y.key ≡ key_held b (section_holder n s x)

    -- Attest.

    abbrev id_of : Section → List ℕ → List ℕ
    id_of t text = identity text t.layout.pub_from t.layout.pub_to t.layout.priv_from t.layout.priv_to

    vouches_same : (x y t : Section) (tag text : List ℕ) → Keys x y → SameUse a b (Tries (section_holder n s x) 0x41 (id_of t text) tag) → vouches a.mac x tag t text ≡ vouches b.mac y tag t text
    unfolding attest_tag
    vouches_same x y t tag text k h =
        ap (λ (key : List ℕ). bytes_eq tag (take 16 (a.mac key (0x41 ∷ id_of t text)))) k.one ∙ h
        ∙ sym (ap (λ (key : List ℕ). bytes_eq tag (take 16 (b.mac key (0x41 ∷ id_of t text)))) k.two)

    abbrev told : Mac → Section → List ℕ → Section → List ℕ → Plan
    told m own tag t text = answer g (cond (vouches m own tag t text) t.id 0)

    attested_at : (x y : Section) (tag : List ℕ) (o p : Option Section) → Keys x y → LikeFound N N o p → SameUses a b (attested_uses n s x tag o)
        → At (attested a.mac g x tag o) (attested b.mac beside y tag p)
    attested_at x y tag None None k f h = answer_at 0
    attested_at x y tag None (Some r) k f h = absurd f
    attested_at x y tag (Some t) None k f h = absurd f
    attested_at x y tag (Some t) (Some r) k f h =
        subst (λ (z : Section). At (attested a.mac g x tag (Some t)) (attested b.mac beside y tag (Some z))) (sym f.0)
        (reads t.layout.pub_from (t.layout.pub_to - t.layout.pub_from) (λ text. Tries (section_holder n s x) 0x41 (id_of t text) tag ∷ []) (told a.mac x tag t) (told b.mac y tag t) h (λ text h2.
        equal_ (told a.mac x tag t text) (told b.mac y tag t text) (ap (λ (c : Bool). answer g (cond c t.id 0)) (vouches_same x y t tag text k h2.0))))

    attest_at : (x y : Section) → Keys x y → SameUses a b (attest_uses n s x) → At (attest a.mac g x) (attest b.mac beside y)
    attest_at x y key h =
        let at = holder g.sections.live (slice_index g.regs 9) in
        let au = holder u.live (slice_index g.regs 9) in
        let us : List ℕ → List Use = λ tag. attested_uses n s x tag (section_of s.sections.live at) in
        let k : List ℕ → Plan = λ tag. attested a.mac g x tag (section_of g.sections.live at) in
        let l : List ℕ → Plan = λ tag. attested b.mac beside y tag (section_of u.live au) in
        tested_at (record { at = slice_index g.regs 10; count = 16 } ∷ []) (reading s (slice_index s.regs 10) 16 us) (Bytes (slice_index g.regs 10) 16 k) (Bytes (slice_index g.regs 10) 16 l) h (λ h2.
        reads (slice_index g.regs 10) 16 us k l h2 (λ tag h3.
        subst (λ (i : ℕ). At (attested a.mac g x tag (section_of g.sections.live at)) (attested b.mac beside y tag (section_of u.live i)))
        (sym (holder_like N N g.sections.live u.live (slice_index g.regs 9) like))
        (attested_at x y tag (section_of g.sections.live at) (section_of u.live at) key (found_like N N g.sections.live u.live at like) h3)))

    -- Wrap and unwrap.

    key_at : (own : Bool) (x y : Section) (us : Holder → List Use) (rest ress : List ℕ → Plan) → Keys x y
        → SameUses a b (cond own (us (section_holder n s x)) (reading s (slice_index s.regs 9) 16 (λ key. us (Held key))))
        → ((who : Holder) → SameUses a b (us who) → At (rest (key_held a who)) (ress (key_held b who)))
        → At (cond own (rest x.key) (Bytes (slice_index g.regs 9) 16 rest)) (cond own (ress y.key) (Bytes (slice_index g.regs 9) 16 ress))
    key_at true x y us rest ress k h f =
        let who = section_holder n s x in
        subst (λ (z : List ℕ). At (rest z) (ress y.key)) (sym k.one) (subst (λ (z : List ℕ). At (rest (key_held a who)) (ress z)) (sym k.two) (f who h))
    key_at false x y us rest ress k h f = reads (slice_index g.regs 9) 16 (λ key. us (Held key)) rest ress h (λ key h2. f (Held key) h2)

    inputs_at : (x y : Section) (us : Holder → List ℕ → List ℕ → List Use) (rest ress : List ℕ → List ℕ → List ℕ → Plan) → Keys x y → SameUses a b (inputs_uses n s x us)
        → ((who : Holder) (ad text : List ℕ) → SameUses a b (us who ad text) → At (rest (key_held a who) ad text) (ress (key_held b who) ad text))
        → At (with_inputs g x rest) (with_inputs beside y ress)
    inputs_at x y us rest ress k h f =
        let short = nat_le (slice_index g.regs 11) 32 && nat_le (slice_index g.regs 13) 32 in
        let vs : Holder → List Use = λ who. reading s (slice_index s.regs 10) (slice_index s.regs 11) (λ ad. reading s (slice_index s.regs 12) (slice_index s.regs 13) (λ text. us who ad text)) in
        let p = with_key g x (behind g rest) in
        let q = with_key beside y (behind g ress) in
        by_test short short (in_reach s (buffers s.regs) (key_uses n s x vs)) (exec g.sections g.own (tested g (buffers g.regs) p) start) (exec u g.own (tested beside (buffers g.regs) q) start) bad.Range refl h (λ h2.
        tested_at (buffers g.regs) (key_uses n s x vs) p q h2 (λ h3.
        key_at (own_key g.regs) x y vs (behind g rest) (behind g ress) k h3 (λ who h4.
        reads (slice_index g.regs 10) (slice_index g.regs 11) (λ ad. reading s (slice_index s.regs 12) (slice_index s.regs 13) (λ text. us who ad text))
        (λ ad. Bytes (slice_index g.regs 12) (slice_index g.regs 13) (λ text. rest (key_held a who) ad text))
        (λ ad. Bytes (slice_index g.regs 12) (slice_index g.regs 13) (λ text. ress (key_held b who) ad text)) h4 (λ ad h5.
        reads (slice_index g.regs 12) (slice_index g.regs 13) (λ text. us who ad text) (λ text. rest (key_held a who) ad text) (λ text. ress (key_held b who) ad text) h5 (λ text h6.
        f who ad text h6)))))

    abbrev makes : Holder → List ℕ → List ℕ → List Use
    makes who ad body = cond (is_written a s who ad body) (given a who ad body) (Sizes who ad body ∷ [])

    -- what can't be written violates
    shut : (t : Sections) (ad body : List ℕ) (w : WrappedBytes)
        → (may_each t.live g.own Write (slice_index g.regs 14) w.cipher && may_each t.live g.own Write (slice_index g.regs 15) w.tag) ≡ false
        → exec t g.own (sealed g ad body w) start ≡ Violated bad.Write
    shut t ad body w h =
        by (may_each t.live g.own Write (slice_index g.regs 14) w.cipher) (may_each t.live g.own Write (slice_index g.regs 15) w.tag)
        (exec t g.own (Tell (concluded g.regs 1) (event.Wrapped g.own) (exchanged g.regs ad body)) (record start { mem = put_bytes (put_bytes s.mem (slice_index g.regs 14) w.cipher) (slice_index g.regs 15) w.tag })) h
      where
        by : (c d : Bool) (o : Outcome) → (c && d) ≡ false → cond c (cond d o (Violated bad.Write)) (Violated bad.Write) ≡ Violated bad.Write
        by true d o e = ap (λ (z : Bool). cond z o (Violated bad.Write)) e
        by false d o e = refl

    sealed_at : (who : Holder) (ad body : List ℕ) (c : Bool) → is_written a s who ad body ≡ c → SameUses a b (cond c (given a who ad body) (Sizes who ad body ∷ []))
        → At (sealed g ad body (wrapped a.mac (key_held a who) ad body)) (sealed g ad body (wrapped b.mac (key_held b who) ad body))
    sealed_at who ad body true e h =
        equal_ (sealed g ad body (wrapped a.mac (key_held a who) ad body)) (sealed g ad body (wrapped b.mac (key_held b who) ad body)) (ap (sealed g ad body) (wrapped_given who ad body h))
    sealed_at who ad body false e h =
        let w = wrapped a.mac (key_held a who) ad body in
        let v = wrapped b.mac (key_held b who) ad body in
        let l = g.sections.live in
        let r14 = slice_index g.regs 14 in
        let r15 = slice_index g.regs 15 in
        let one : may_each u.live g.own Write r14 v.cipher ≡ may_each l g.own Write r14 w.cipher =
        may_each_like N N g.sections u like next g.own Write r14 v.cipher ∙ each_long l g.own Write r14 v.cipher w.cipher (sym h.0.0) in
        let two : may_each u.live g.own Write r15 v.tag ≡ may_each l g.own Write r15 w.tag =
        may_each_like N N g.sections u like next g.own Write r15 v.tag ∙ each_long l g.own Write r15 v.tag w.tag (sym h.0.1) in
        subst (λ (o : Outcome). Out o (exec u g.own (sealed g ad body v) start)) (sym (shut g.sections ad body w e))
        (subst (λ (o : Outcome). Out (Violated bad.Write) o) (sym (shut u ad body v (ap₂ (λ (c d : Bool). c && d) one two ∙ e))) refl)

    wrap_at : (x y : Section) → Keys x y → SameUses a b (wrap_uses a n s x) → At (wrap a.mac g x) (wrap b.mac beside y)
    wrap_at x y k h =
        inputs_at x y makes (λ key ad body. sealed g ad body (wrapped a.mac key ad body)) (λ key ad body. sealed g ad body (wrapped b.mac key ad body)) k h (λ who ad body h2.
        sealed_at who ad body (is_written a s who ad body) refl h2)

    opened_same : (ad : List ℕ) (o : Option (List ℕ)) → opened g ad o ≡ opened beside ad o
    opened_same ad None = refl
    opened_same ad (Some body) = refl

    abbrev tries : Holder → List ℕ → List ℕ → List ℕ → List Use
    tries who ad cipher tag = cond (may_range s.sections.live (own_of s) Write (slice_index s.regs 14) (slice_index s.regs 13)) (tried a who ad cipher tag) []

    opens_at : (who : Holder) (ad cipher tag : List ℕ) → SameUses a b (tries who ad cipher tag) → At (opens g a.mac (key_held a who) ad cipher tag) (opens beside b.mac (key_held b who) ad cipher tag)
    opens_at who ad cipher tag h =
        let o = unwrapped a.mac (key_held a who) ad cipher tag in
        let p = unwrapped b.mac (key_held b who) ad cipher tag in
        by_test (may_range s.sections.live (own_of s) Write (slice_index s.regs 14) (slice_index s.regs 13)) (may_range u.live (own_of s) Write (slice_index s.regs 14) (slice_index s.regs 13)) (tried a who ad cipher tag)
        (exec g.sections g.own (opened g ad o) start) (exec u g.own (opened beside ad p) start) bad.Write
        (may_range_like N N g.sections u like next g.own Write (slice_index s.regs 14) (slice_index s.regs 13)) h (λ h2.
        equal_ (opened g ad o) (opened beside ad p) (ap (opened g ad) (unwrapped_tried who ad cipher tag h2) ∙ opened_same ad p))

    unwrap_at : (x y : Section) → Keys x y → SameUses a b (unwrap_uses a n s x) → At (unwrap a.mac g x) (unwrap b.mac beside y)
    unwrap_at x y k h =
        inputs_at x y (λ who ad cipher. reading s (slice_index s.regs 15) 16 (λ tag. tries who ad cipher tag))
        (λ key ad cipher. Bytes (slice_index g.regs 15) 16 (opens g a.mac key ad cipher)) (λ key ad cipher. Bytes (slice_index g.regs 15) 16 (opens beside b.mac key ad cipher)) k h (λ who ad cipher h2.
        reads (slice_index g.regs 15) 16 (λ tag. tries who ad cipher tag) (opens g a.mac (key_held a who) ad cipher) (opens beside b.mac (key_held b who) ad cipher) h2 (λ tag h3.
        opens_at who ad cipher tag h3))

    -- The rows.

    -- the row with this code, of code of this section
    abbrev rows : Mac → Given → ℕ → Option Section → Plan
    rows m h code o =
        cond (code == 2) (within h (attest m h) o)
        (cond (code == 4) (within h (wrap m h) o)
        (cond (code == 5) (within h (unwrap m h) o)
        (cond (code == 6) (answer h (holder h.sections.live (slice_index h.regs 9)))
        (within h (λ own. answer h h.caller) o))))

    pick : (c : Bool) (us vs : List Use) (p q r t : Plan) → SameUses a b (cond c us vs) → (SameUses a b us → At p q) → (SameUses a b vs → At r t) → At (cond c p r) (cond c q t)
    pick true us vs p q r t h f k = f h
    pick false us vs p q r t h f k = k h

    both : (c : Bool) (p q r t : Plan) → At p q → At r t → At (cond c p r) (cond c q t)
    both true p q r t h k = h
    both false p q r t h k = k

    abbrev told_id : Sections → Plan
    told_id v = answer g (holder v.live (slice_index g.regs 9))

    id_at : At (told_id g.sections) (told_id u)
    id_at = equal_ (told_id g.sections) (told_id u) (ap (answer g) (sym (holder_like N N g.sections.live u.live (slice_index g.regs 9) like)))

    rows_at : (code : ℕ) (o p : Option Section) → LikeFound N N o p
        → ((x : Section) → o ≡ Some x → x.key ≡ key_held a (section_holder n s x))
        → ((y : Section) → p ≡ Some y → y.key ≡ key_held b (section_holder n s y))
        → SameUses a b (instruction_uses a n s code o) → At (rows a.mac g code o) (rows b.mac beside code p)
    rows_at code None None f l r h =
        let c = answer g 0 in
        both (code == 2) c c (cond (code == 4) c (cond (code == 5) c (cond (code == 6) (told_id g.sections) c))) (cond (code == 4) c (cond (code == 5) c (cond (code == 6) (told_id u) c))) (answer_at 0)
        (both (code == 4) c c (cond (code == 5) c (cond (code == 6) (told_id g.sections) c)) (cond (code == 5) c (cond (code == 6) (told_id u) c)) (answer_at 0)
        (both (code == 5) c c (cond (code == 6) (told_id g.sections) c) (cond (code == 6) (told_id u) c) (answer_at 0)
        (both (code == 6) (told_id g.sections) (told_id u) c c id_at (answer_at 0))))
    rows_at code None (Some y) f l r h = absurd f
    rows_at code (Some x) None f l r h = absurd f
    rows_at code (Some x) (Some y) f l r h =
        let k : Keys x y = record { one = l x refl; two = r y refl ∙ ap (λ (z : Section). key_held b (section_holder n s z)) f.0 } in
        let c = answer g g.caller in
        let r6 = cond (code == 6) (told_id g.sections) c in
        let t6 = cond (code == 6) (told_id u) c in
        let r5 = cond (code == 5) (unwrap a.mac g x) r6 in
        let t5 = cond (code == 5) (unwrap b.mac beside y) t6 in
        let u5 = cond (code == 5) (unwrap_uses a n s x) [] in
        let u4 = cond (code == 4) (wrap_uses a n s x) u5 in
        pick (code == 2) (attest_uses n s x) u4 (attest a.mac g x) (attest b.mac beside y) (cond (code == 4) (wrap a.mac g x) r5) (cond (code == 4) (wrap b.mac beside y) t5) h (attest_at x y k) (λ h4.
        pick (code == 4) (wrap_uses a n s x) u5 (wrap a.mac g x) (wrap b.mac beside y) r5 t5 h4 (wrap_at x y k) (λ h5.
        pick (code == 5) (unwrap_uses a n s x) [] (unwrap a.mac g x) (unwrap b.mac beside y) r6 t6 h5 (unwrap_at x y k) (λ h6.
        both (code == 6) (told_id g.sections) (told_id u) c c id_at (answer_at g.caller))))

    row_at : (code : ℕ) → SameUses a b (instruction_uses a n s code (section_of s.sections.live (own_of s))) → At (module_row a.mac code g) (module_row b.mac code beside)
    unfolding module_row
    row_at code h = rows_at code (section_of s.sections.live (own_of s)) (section_of u.live (own_of s)) (found_like N N s.sections.live u.live (own_of s) like) left right h

    -- Protect and unprotect.

    protected_at : (m : List ℕ) (l : Layout) (o : Option Refusal) → Out (protected_if a.mac g m l o) (protected_if b.mac beside m l o)
    protected_at m l None =
        subst (λ (i : ℕ). Out (protected_if a.mac g m l None)
        (Module (answer_registers g.regs i 0) (untouched_with g (wiped m l))
        (record { live = u.live ++ record { layout = l; provider = provider_in g.regs; id = i; key = key_for b.mac beside m l } ∷ []; next = i + 1 })
        (Protected i) g.exchange)) (sym next) (
          refl,
          refl,
          append_like N N g.sections.live u.live
              (record { layout = l; provider = provider_in g.regs; id = g.sections.next; key = key_for a.mac g m l })
              (record { layout = l; provider = provider_in g.regs; id = g.sections.next; key = key_for b.mac beside m l }) like (refl, λ kind rest ne. refl),
          refl,
          refl,
          refl,
        )
    protected_at m l (Some why) = (refl, refl, like, next, refl, refl)

    protect_at : (m : List ℕ) → Out (protect a.mac g m) (protect b.mac beside m)
    unfolding protect
    protect_at m =
        let l = layout_in g.regs in
        subst (λ (o : Option Refusal). Out (protected_if a.mac g m l (refusal g.sections l (places_of g.devices))) (protected_if b.mac beside m l o))
        (sym (refusal_like N N g.sections u l (places_of g.devices) like next)) (protected_at m l (refusal g.sections l (places_of g.devices)))

    unprotect_at : (m : List ℕ) → Out (unprotect g m) (unprotect beside m)
    unprotect_at m = instruction_like N N (λ k e kind rest ne. refl) g u base like next (λ provider id kind rest ne. refl) 0 m

    pub instruction_at : (code : ℕ) → SameUses a b (instruction_uses a n s code (section_of s.sections.live (own_of s)))
        → Out (module_instruction a.mac code g s.mem) (module_instruction b.mac code beside s.mem)
    instruction_at code h =
        let rowa = exec g.sections g.own (module_row a.mac code g) start in
        let rowb = exec u g.own (module_row b.mac code beside) start in
        cond_like N N (code == 0) (unprotect g s.mem) (unprotect beside s.mem) (cond (code == 1) (protect a.mac g s.mem) rowa) (cond (code == 1) (protect b.mac beside s.mem) rowb) (unprotect_at s.mem)
        (cond_like N N (code == 1) (protect a.mac g s.mem) (protect b.mac beside s.mem) rowa rowb (protect_at s.mem) (row_at code h))
