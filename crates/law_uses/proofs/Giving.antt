-- Where a step gives a tag over `T`, it wraps.
use Rattle.std.proofs.Common.{◌≡◌, ℕ, ◌-◌, ◌++◌, Bool, true, false, cond, not, ◌==◌, ◌&&◌, ◌⊎◌, inl, inr, bytes_eq, List, [], ◌∷◌, length, slice_index, Option, Some, None, is_some, refl, sym, ◌∙◌, ap, subst, arith}
use Rattle.std.specs.Prelude.{nat_le}
use Rattle.std.specs.List.{list_any}
use Rattle.std.proofs.lemmas.Bool.{eqb-true}
use Rattle.sx_rules.specs.declared.access.Access.TheVariants.{Read, Write}
use Rattle.sx_rules.specs.declared.access.Violation.{Violation}
use Rattle.sx_rules.specs.declared.access.Violation.TheVariants as bad
use Rattle.sx_rules.specs.declared.section.Section.{Section}
use Rattle.sx_rules.specs.Access.{holder, section_of, in_order}
use Rattle.sx_bus.specs.Devices.{places_of, device_at}
use Rattle.sx_tag.specs.Keys.{identity}
use Rattle.sx_tag.specs.Wrap.{crypt, Wrapped as WrappedBytes, wrapped, wrap_tag}
use Rattle.spec_machine.specs.declared.kinds.Event.TheVariants as event
use Rattle.spec_machine.specs.Memory.{word, bytes_from, put_bytes}
use Rattle.spec_machine.specs.Ranges.{passes_end, meets_device}
use Rattle.spec_machine.specs.Plan.{Plan, Need, Bytes}
use Rattle.spec_machine.specs.Rows.{program}
use Rattle.spec_machine.specs.Run.{Moment, Outcome, Violated, Module, may_range, may_each, exec}
use Rattle.spec_machine.specs.Given.{Given, untouched_with, concluded}
use Rattle.spec_machine.specs.Protect.{protect, unprotect}
use Rattle.spec_machine.specs.ModuleRows.{answer, within, Buffer, tested, attest, own_key, buffers, with_key, exchanged, wrap, unwrap, module_row}
use Rattle.spec_machine.specs.Modules.{module_instruction}
use Rattle.spec_machine.specs.State.{State}
use Rattle.spec_machine.specs.Step.{own_of, pc_of, start as starts, given_at_pc, instruction, ordered, word_outside, is_module_word, attempt}
use Rattle.spec_run.specs.Setting.{Setting}
use Rattle.law_forgery.proofs.Instructions.{behind, sealed}
use Rattle.law_uses.specs.Uses.{Holder, Held, key_held, Use, Gives, Tries, Sizes, given, tried, reading, in_reach, section_holder, attested_uses, attest_uses, key_uses, is_written, wrap_uses, unwrap_uses, instruction_uses, step_uses}
use Rattle.law_uses.specs.GivenLogged.{IsUse}

module _ (set : Setting) (n : ℕ) (s : State) where
  -- whose key an instruction of this section uses
  abbrev pub IsHolder : Section → Holder → Type 0
  IsHolder x who = ((own_key s.regs ≡ true) × (who ≡ section_holder n s x)) ⊎ ((key : List ℕ) × (own_key s.regs ≡ false) × (who ≡ Held key))

  -- it wraps, with this header and this body
  pub record Makes (o : Outcome) (x : Section) (who : Holder) (rest : List ℕ) : Type 0 where
    pub header : List ℕ
    pub body : List ℕ
    pub is : rest ≡ length header ∷ (header ++ crypt set.mac (key_held set who) header body)
    pub whose : IsHolder x who
    pub regs : List ℕ
    pub left : Moment
    pub ends : o ≡ Module regs left s.sections (event.Wrapped (own_of s)) (exchanged s.regs header body)

  module _ (x : Section) where
    -- each tag over `T` that is given is that of what is wrapped
    abbrev Fits : Outcome → Use → Type 0
    Fits o (Gives who kind rest) = kind ≡ 0x54 → Makes o x who rest
    Fits o (Tries who kind rest tag) = Unit {0}
    Fits o (Sizes who header body) = Unit {0}

    abbrev pub Fit : Outcome → List Use → Type 0
    Fit o [] = Unit {0}
    Fit o (u ∷ us) = Fits o u × Fit o us

    pub fit_found : (o : Outcome) (us : List Use) (who : Holder) (rest : List ℕ) → Fit o us → IsUse (Gives who 0x54 rest) us → Makes o x who rest
    fit_found o [] who rest h i = absurd i
    fit_found o (u ∷ us) who rest h (inl e) = subst (λ (z : Use). Fits o z) e h.0 refl
    fit_found o (u ∷ us) who rest h (inr i) = fit_found o us who rest h.1 i

    -- what follows a test
    by_test : (t : Bool) (us : List Use) (o : Outcome) (v : Violation) → Fit o us → Fit (cond t o (Violated v)) (cond t us [])
    by_test true us o v h = h
    by_test false us o v h = tt

    either : (t : Bool) (us vs : List Use) (o p : Outcome) → Fit o us → Fit p vs → Fit (cond t o p) (cond t us vs)
    either true us vs o p h k = h
    either false us vs o p h k = k

    -- where nothing is given, whatever comes of it
    if_any : (t : Bool) (us vs : List Use) (o : Outcome) → Fit o us → Fit o vs → Fit o (cond t us vs)
    if_any true us vs o h k = h
    if_any false us vs o h k = k

    abbrev in_memory : List Buffer → Bool
    in_memory bs = not (list_any (λ b. passes_end b.at b.count) bs)

    abbrev off_devices : List Buffer → Bool
    off_devices bs = not (list_any (λ b. meets_device (places_of s.devices) b.at b.count) bs)

    module _ (o : Outcome) where
      reads_any : (at m : ℕ) (us : List ℕ → List Use) → ((bs : List ℕ) → Fit o (us bs)) → Fit o (reading s at m us)
      reads_any at m us f = if_any (may_range s.sections.live (own_of s) Read at m) (us (bytes_from s.mem at m)) [] o (f (bytes_from s.mem at m)) tt

      reach_any : (bs : List Buffer) (us : List Use) → Fit o us → Fit o (in_reach s bs us)
      reach_any bs us f = if_any (in_memory bs) (cond (off_devices bs) us []) [] o (if_any (off_devices bs) us [] o f tt) tt

      attest_any : Fit o (attest_uses n s x)
      attest_any =
          let us : List ℕ → List Use = λ tag. attested_uses n s x tag (section_of s.sections.live (holder s.sections.live (slice_index s.regs 9))) in
          reach_any (record { at = slice_index s.regs 10; count = 16 } ∷ []) (reading s (slice_index s.regs 10) 16 us)
          (reads_any (slice_index s.regs 10) 16 us (λ tag. by tag (section_of s.sections.live (holder s.sections.live (slice_index s.regs 9)))))
        where
          by : (tag : List ℕ) (t : Option Section) → Fit o (attested_uses n s x tag t)
          by tag None = tt
          by tag (Some t) =
              reads_any t.layout.pub_from (t.layout.pub_to - t.layout.pub_from)
              (λ text. Tries (section_holder n s x) 0x41 (identity text t.layout.pub_from t.layout.pub_to t.layout.priv_from t.layout.priv_to) tag ∷ []) (λ text. (tt, tt))

      key_any : (us : Holder → List Use) → ((who : Holder) → Fit o (us who)) → Fit o (key_uses n s x us)
      key_any us f =
          if_any (own_key s.regs) (us (section_holder n s x)) (reading s (slice_index s.regs 9) 16 (λ key. us (Held key))) o (f (section_holder n s x))
          (reads_any (slice_index s.regs 9) 16 (λ key. us (Held key)) (λ key. f (Held key)))

      tried_any : (who : Holder) (ad cipher tag : List ℕ) → Fit o (tried set who ad cipher tag)
      tried_any who ad cipher tag =
          (tt, if_any (bytes_eq tag (wrap_tag set.mac (key_held set who) ad cipher)) (Gives who 0x53 (length ad ∷ (ad ++ 0 ∷ [])) ∷ []) [] o ((λ e. absurd (omega (arith, e))), tt) tt)

      unwrap_any : Fit o (unwrap_uses set n s x)
      unwrap_any =
          let open_ = may_range s.sections.live (own_of s) Write (slice_index s.regs 14) (slice_index s.regs 13) in
          let us : Holder → List ℕ → List ℕ → List Use = λ who ad cipher. reading s (slice_index s.regs 15) 16 (λ tag. cond open_ (tried set who ad cipher tag) []) in
          let vs : Holder → List Use = λ who. reading s (slice_index s.regs 10) (slice_index s.regs 11) (λ ad. reading s (slice_index s.regs 12) (slice_index s.regs 13) (λ text. us who ad text)) in
          if_any (nat_le (slice_index s.regs 11) 32 && nat_le (slice_index s.regs 13) 32) (in_reach s (buffers s.regs) (key_uses n s x vs)) [] o
          (reach_any (buffers s.regs) (key_uses n s x vs) (key_any vs (λ who.
          reads_any (slice_index s.regs 10) (slice_index s.regs 11) (λ ad. reading s (slice_index s.regs 12) (slice_index s.regs 13) (λ text. us who ad text)) (λ ad.
          reads_any (slice_index s.regs 12) (slice_index s.regs 13) (λ text. us who ad text) (λ text.
          reads_any (slice_index s.regs 15) 16 (λ tag. cond open_ (tried set who ad text tag) []) (λ tag.
          if_any open_ (tried set who ad text tag) [] o (tried_any who ad text tag) tt)))))) tt

    abbrev g : Given
    g = given_at_pc set.mac s

    abbrev start : Moment
    start = untouched_with g s.mem

    abbrev Runs : Plan → List Use → Type 0
    Runs p us = Fit (exec g.sections g.own p start) us

    reads : (at m : ℕ) (us : List ℕ → List Use) (k : List ℕ → Plan) → ((bs : List ℕ) → Runs (k bs) (us bs)) → Runs (Bytes at m k) (reading s at m us)
    reads at m us k f =
        let bs = bytes_from s.mem at m in
        by_test (may_range s.sections.live (own_of s) Read at m) (us bs) (exec g.sections g.own (k bs) start) bad.Read (f bs)

    tested_fit : (bs : List Buffer) (us : List Use) (p : Plan) → Runs p us → Runs (tested g bs p) (in_reach s bs us)
    tested_fit bs us p h =
        by_test (in_memory bs) (cond (off_devices bs) us []) (exec g.sections g.own (Need (off_devices bs) bad.Device p) start) bad.Range
        (by_test (off_devices bs) us (exec g.sections g.own p start) bad.Device h)

    -- the section's own key, or one that code holds
    key_fit : (own : Bool) → own_key s.regs ≡ own → (us : Holder → List Use) (rest : List ℕ → Plan) → x.key ≡ key_held set (section_holder n s x)
        → ((who : Holder) → IsHolder x who → Runs (rest (key_held set who)) (us who))
        → Runs (cond own (rest x.key) (Bytes (slice_index g.regs 9) 16 rest)) (cond own (us (section_holder n s x)) (reading s (slice_index s.regs 9) 16 (λ key. us (Held key))))
    key_fit true e us rest k f = subst (λ (z : List ℕ). Runs (rest z) (us (section_holder n s x))) (sym k) (f (section_holder n s x) (inl (e, refl)))
    key_fit false e us rest k f = reads (slice_index g.regs 9) 16 (λ key. us (Held key)) rest (λ key. f (Held key) (inr (key, e, refl)))

    abbrev makes : Holder → List ℕ → List ℕ → List Use
    makes who ad body = cond (is_written set s who ad body) (given set who ad body) (Sizes who ad body ∷ [])

    -- what comes of a wrap
    abbrev wrote : List ℕ → List ℕ → WrappedBytes → Outcome
    wrote ad body w =
        Module (concluded g.regs 1) (record start { mem = put_bytes (put_bytes s.mem (slice_index g.regs 14) w.cipher) (slice_index g.regs 15) w.tag }) s.sections (event.Wrapped (own_of s)) (exchanged g.regs ad body)

    sealed_fit : (who : Holder) (ad body : List ℕ) → IsHolder x who → Runs (sealed g ad body (wrapped set.mac (key_held set who) ad body)) (makes who ad body)
    sealed_fit who ad body h =
        let w = wrapped set.mac (key_held set who) ad body in
        by (may_each s.sections.live (own_of s) Write (slice_index s.regs 14) w.cipher) (may_each s.sections.live (own_of s) Write (slice_index s.regs 15) w.tag) (wrote ad body w) (
          (λ e. absurd (omega (arith, e))),
          (
            (λ e. record {
              header = ad;
              body = body;
              is = refl;
              whose = h;
              regs = concluded g.regs 1;
              left = record start { mem = put_bytes (put_bytes s.mem (slice_index g.regs 14) w.cipher) (slice_index g.regs 15) w.tag };
              ends = refl;
            }),
            tt,
          ),
        )
      where
        by : (c d : Bool) (o : Outcome) → Fit o (given set who ad body) → Fit (cond c (cond d o (Violated bad.Write)) (Violated bad.Write)) (cond (c && d) (given set who ad body) (Sizes who ad body ∷ []))
        by true true o f = f
        by true false o f = (tt, tt)
        by false d o f = (tt, tt)

    wrap_fit : x.key ≡ key_held set (section_holder n s x) → Runs (wrap set.mac g x) (wrap_uses set n s x)
    wrap_fit k =
        let short = nat_le (slice_index g.regs 11) 32 && nat_le (slice_index g.regs 13) 32 in
        let rest : List ℕ → List ℕ → List ℕ → Plan = λ key ad body. sealed g ad body (wrapped set.mac key ad body) in
        let vs : Holder → List Use = λ who. reading s (slice_index s.regs 10) (slice_index s.regs 11) (λ ad. reading s (slice_index s.regs 12) (slice_index s.regs 13) (λ text. makes who ad text)) in
        let p = with_key g x (behind g rest) in
        by_test short (in_reach s (buffers s.regs) (key_uses n s x vs)) (exec g.sections g.own (tested g (buffers g.regs) p) start) bad.Range
        (tested_fit (buffers g.regs) (key_uses n s x vs) p
        (key_fit (own_key g.regs) refl vs (behind g rest) k (λ who h.
        reads (slice_index g.regs 10) (slice_index g.regs 11) (λ ad. reading s (slice_index s.regs 12) (slice_index s.regs 13) (λ text. makes who ad text))
        (λ ad. Bytes (slice_index g.regs 12) (slice_index g.regs 13) (λ text. rest (key_held set who) ad text)) (λ ad.
        reads (slice_index g.regs 12) (slice_index g.regs 13) (λ text. makes who ad text) (λ text. rest (key_held set who) ad text) (λ text. sealed_fit who ad text h)))))

    abbrev rows : ℕ → Plan
    rows code =
        cond (code == 2) (attest set.mac g x)
        (cond (code == 4) (wrap set.mac g x)
        (cond (code == 5) (unwrap set.mac g x)
        (cond (code == 6) (answer g (holder g.sections.live (slice_index g.regs 9)))
        (answer g g.caller))))

    pick : (c : Bool) (us vs : List Use) (p q : Plan) → Runs p us → Runs q vs → Runs (cond c p q) (cond c us vs)
    pick true us vs p q h k = h
    pick false us vs p q h k = k

    rows_fit : (code : ℕ) → x.key ≡ key_held set (section_holder n s x) → Runs (rows code) (instruction_uses set n s code (Some x))
    rows_fit code k =
        let r6 = cond (code == 6) (answer g (holder g.sections.live (slice_index g.regs 9))) (answer g g.caller) in
        let r5 = cond (code == 5) (unwrap set.mac g x) r6 in
        let u5 = cond (code == 5) (unwrap_uses set n s x) [] in
        pick (code == 2) (attest_uses n s x) (cond (code == 4) (wrap_uses set n s x) u5) (attest set.mac g x) (cond (code == 4) (wrap set.mac g x) r5) (attest_any (exec g.sections g.own (attest set.mac g x) start))
        (pick (code == 4) (wrap_uses set n s x) u5 (wrap set.mac g x) r5 (wrap_fit k)
        (pick (code == 5) (unwrap_uses set n s x) [] (unwrap set.mac g x) r6 (unwrap_any (exec g.sections g.own (unwrap set.mac g x) start)) tt))

    row_fit : (code : ℕ) → section_of s.sections.live (own_of s) ≡ Some x → x.key ≡ key_held set (section_holder n s x) → Runs (module_row set.mac code g) (instruction_uses set n s code (Some x))
    unfolding module_row
    row_fit code e k =
        subst (λ (o : Option Section). Runs (cond (code == 2) (within g (attest set.mac g) o) (cond (code == 4) (within g (wrap set.mac g) o) (cond (code == 5) (within g (unwrap set.mac g) o)
        (cond (code == 6) (answer g (holder g.sections.live (slice_index g.regs 9))) (within g (λ own. answer g g.caller) o))))) (instruction_uses set n s code (Some x)))
        (sym e) (rows_fit code k)

    -- the first two instructions ask nothing
    instruction_fit : (code : ℕ) → section_of s.sections.live (own_of s) ≡ Some x → x.key ≡ key_held set (section_holder n s x)
        → Fit (module_instruction set.mac code g s.mem) (instruction_uses set n s code (Some x))
    instruction_fit code e k = by (code == 0) (code == 1) refl refl
      where
        by : (c d : Bool) → (code == 0) ≡ c → (code == 1) ≡ d
            → Fit (cond c (unprotect g s.mem) (cond d (protect set.mac g s.mem) (exec g.sections g.own (module_row set.mac code g) start))) (instruction_uses set n s code (Some x))
        by true d z f = subst (λ (i : ℕ). Fit (unprotect g s.mem) (instruction_uses set n s i (Some x))) (sym (eqb-true code 0 z)) tt
        by false true z f = subst (λ (i : ℕ). Fit (protect set.mac g s.mem) (instruction_uses set n s i (Some x))) (sym (eqb-true code 1 f)) tt
        by false false z f = row_fit code e k

    abbrev w : ℕ
    w = word s.mem (pc_of s)

    abbrev asked : List Use
    asked = cond (is_module_word w) (instruction_uses set n s (w - 0x1380) (Some x)) []

    instruction_at_fit : section_of s.sections.live (own_of s) ≡ Some x → x.key ≡ key_held set (section_holder n s x) → Fit (instruction set.mac s) asked
    instruction_at_fit e k =
        either (is_module_word w) (instruction_uses set n s (w - 0x1380) (Some x)) [] (module_instruction set.mac (w - 0x1380) g s.mem) (exec s.sections (own_of s) (program w s.regs) (starts s))
        (instruction_fit (w - 0x1380) e k) tt

    ordered_fit : Fit (instruction set.mac s) asked → (d : Option ℕ) → Fit (ordered set.mac s d) (cond (not (is_some d) && in_order s.sections.live s.cur (pc_of s)) asked [])
    ordered_fit h (Some d) = tt
    ordered_fit h None = by_test (in_order s.sections.live s.cur (pc_of s)) asked (instruction set.mac s) bad.Order h

    fetched : (t r : Bool) (o : Outcome) → Fit o (cond r asked []) → Fit (cond t o (Violated bad.Fetch)) (cond (t && r) asked [])
    fetched true r o h = h
    fetched false r o h = tt

    attempt_fit : section_of s.sections.live (own_of s) ≡ Some x → x.key ≡ key_held set (section_holder n s x)
        → Fit (attempt set.mac s) (step_uses set n (Some s))
    attempt_fit e k =
        let d = device_at s.devices (pc_of s) in
        let r = not (is_some d) && in_order s.sections.live s.cur (pc_of s) in
        subst (λ (o : Option Section). Fit (attempt set.mac s) (cond (word_outside s.sections.live (pc_of s) && r) (cond (is_module_word w) (instruction_uses set n s (w - 0x1380) o) []) [])) (sym e)
        (fetched (word_outside s.sections.live (pc_of s)) r (ordered set.mac s d) (ordered_fit (instruction_at_fit e k) d))

  none_asks : (c d : Bool) → cond {A = List Use} c (cond d [] []) [] ≡ []
  none_asks true true = refl
  none_asks true false = refl
  none_asks false d = refl

  -- the step of code of a section, which wraps
  pub record Wraps (who : Holder) (rest : List ℕ) : Type 0 where
    pub section : Section
    pub found : section_of s.sections.live (own_of s) ≡ Some section
    pub makes_it : Makes (attempt set.mac s) section who rest

  pub step_gives : ((y : Section) → section_of s.sections.live (own_of s) ≡ Some y → y.key ≡ key_held set (section_holder n s y))
      → (who : Holder) (rest : List ℕ) → IsUse (Gives who 0x54 rest) (step_uses set n (Some s)) → Wraps who rest
  step_gives keys who rest i = by (section_of s.sections.live (own_of s)) refl
    where
      by : (o : Option Section) → section_of s.sections.live (own_of s) ≡ o → Wraps who rest
      by (Some y) e = record { section = y; found = e; makes_it = fit_found y (attempt set.mac s) (step_uses set n (Some s)) who rest (attempt_fit y e (keys y e)) i }
      by None e =
          let r = word_outside s.sections.live (pc_of s) && (not (is_some (device_at s.devices (pc_of s))) && in_order s.sections.live s.cur (pc_of s)) in
          absurd (subst (IsUse (Gives who 0x54 rest))
          (ap (λ (o : Option Section). cond r (cond (is_module_word (word s.mem (pc_of s))) (instruction_uses set n s (word s.mem (pc_of s) - 0x1380) o) []) []) e
          ∙ none_asks r (is_module_word (word s.mem (pc_of s)))) i)
