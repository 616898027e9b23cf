-- Whose keys a step uses: that of the section whose code runs, or 16 bytes.
use Rattle.std.proofs.Common.{◌≡◌, ℕ, ◌-◌, ◌≤◌, ◌==◌, ◌⊎◌, inl, inr, Bool, true, false, cond, not, ◌&&◌, bytes_eq, List, [], ◌∷◌, ◌++◌, length, slice_index, Option, Some, None, refl, subst, arith}
use Rattle.std.specs.Prelude.{nat_le}
use Rattle.std.specs.List.{list_any}
use Rattle.std.proofs.lemmas.Bool.{and_parts, leb-true}
use Rattle.sx_rules.specs.declared.access.Access.TheVariants.{Read, Write}
use Rattle.sx_rules.specs.declared.section.Section.{Section}
use Rattle.sx_rules.specs.Access.{holder, section_of}
use Rattle.sx_bus.specs.Devices.{places_of}
use Rattle.sx_tag.specs.Keys.{identity}
use Rattle.sx_tag.specs.Wrap.{wrap_tag}
use Rattle.spec_machine.specs.Memory.{word, bytes_from}
use Rattle.spec_machine.proofs.Lengths.{length-bytes_from}
use Rattle.spec_machine.specs.Ranges.{passes_end, meets_device}
use Rattle.spec_machine.specs.Run.{may_range}
use Rattle.spec_machine.specs.ModuleRows.{Buffer, own_key, buffers}
use Rattle.spec_machine.specs.State.{State}
use Rattle.spec_machine.specs.Step.{pc_of, own_of, is_module_word, is_let_run}
use Rattle.spec_run.specs.Setting.{Setting}
use Rattle.law_uses.specs.Uses.{Holder, Held, key_held, Use, Gives, Tries, Sizes, given, tried, reading, in_reach, section_holder, attested_uses, attest_uses, key_uses, inputs_uses, is_written}
use Rattle.law_uses.specs.Uses.{wrap_uses, unwrap_uses, instruction_uses, step_uses}
use Rattle.law_uses.specs.GivenLogged.{IsUse}

module _ (set : Setting) (n : ℕ) (s : State) (own : Section) where
  -- the section's own key, or 16 bytes that code holds
  abbrev pub Whose : Holder → Type 0
  Whose who = (who ≡ section_holder n s own) ⊎ ((key : List ℕ) × (who ≡ Held key) × (length key ≡ 16))

  -- what code unwraps: a header and a cipher that are in memory, of 32 bytes at most
  pub record Unwrapped (rest : List ℕ) : Type 0 where
    pub header_fits : slice_index s.regs 11 ≤ 32
    pub cipher_fits : slice_index s.regs 13 ≤ 32
    pub is : let header = bytes_from s.mem (slice_index s.regs 10) (slice_index s.regs 11) in rest ≡ length header ∷ (header ++ bytes_from s.mem (slice_index s.regs 12) (slice_index s.regs 13))

  abbrev Of : Use → Type 0
  Of (Gives who kind rest) = Whose who
  Of (Tries who kind rest tag) = Whose who × (kind ≡ 0x54 → Unwrapped rest)
  Of (Sizes who header body) = Unit {0}

  abbrev AllOf : List Use → Type 0
  AllOf [] = Unit {0}
  AllOf (u ∷ us) = Of u × AllOf us

  found : (u : Use) (us : List Use) → AllOf us → IsUse u us → Of u
  found u [] h i = absurd i
  found u (x ∷ us) h (inl e) = subst Of e h.0
  found u (x ∷ us) h (inr i) = found u us h.1 i

  if_of : (t : Bool) (us vs : List Use) → AllOf us → AllOf vs → AllOf (cond t us vs)
  if_of true us vs h k = h
  if_of false us vs h k = k

  where_true : (t : Bool) (us : List Use) → (t ≡ true → AllOf us) → AllOf (cond t us [])
  where_true true us h = h refl
  where_true false us h = tt

  reads : (at m : ℕ) (f : List ℕ → List Use) → AllOf (f (bytes_from s.mem at m)) → AllOf (reading s at m f)
  reads at m f h = if_of (may_range s.sections.live (own_of s) Read at m) (f (bytes_from s.mem at m)) [] h tt

  reaches : (bs : List Buffer) (us : List Use) → AllOf us → AllOf (in_reach s bs us)
  reaches bs us h =
      let off = not (list_any (λ (b : Buffer). meets_device (places_of s.devices) b.at b.count) bs) in
      if_of (not (list_any (λ (b : Buffer). passes_end b.at b.count) bs)) (cond off us []) [] (if_of off us [] h tt) tt

  keys : (f : Holder → List Use) → ((who : Holder) → Whose who → AllOf (f who)) → AllOf (key_uses n s own f)
  keys f h =
      if_of (own_key s.regs) (f (section_holder n s own)) (reading s (slice_index s.regs 9) 16 (λ key. f (Held key))) (h (section_holder n s own) (inl refl))
      (reads (slice_index s.regs 9) 16 (λ key. f (Held key))
      (let key = bytes_from s.mem (slice_index s.regs 9) 16 in h (Held key) (inr (key, refl, length-bytes_from s.mem (slice_index s.regs 9) 16))))

  abbrev ad : List ℕ
  ad = bytes_from s.mem (slice_index s.regs 10) (slice_index s.regs 11)

  abbrev text : List ℕ
  text = bytes_from s.mem (slice_index s.regs 12) (slice_index s.regs 13)

  inputs : (f : Holder → List ℕ → List ℕ → List Use) → ((who : Holder) → Whose who → slice_index s.regs 11 ≤ 32 → slice_index s.regs 13 ≤ 32 → AllOf (f who ad text)) → AllOf (inputs_uses n s own f)
  inputs f h =
      let fs : Holder → List Use = λ who. reading s (slice_index s.regs 10) (slice_index s.regs 11) (λ a. reading s (slice_index s.regs 12) (slice_index s.regs 13) (λ t. f who a t)) in
      where_true (nat_le (slice_index s.regs 11) 32 && nat_le (slice_index s.regs 13) 32) (in_reach s (buffers s.regs) (key_uses n s own fs)) (λ fit.
      let fits = and_parts (nat_le (slice_index s.regs 11) 32) (nat_le (slice_index s.regs 13) 32) fit in
      reaches (buffers s.regs) (key_uses n s own fs) (keys fs (λ who w.
      reads (slice_index s.regs 10) (slice_index s.regs 11) (λ a. reading s (slice_index s.regs 12) (slice_index s.regs 13) (λ t. f who a t))
      (reads (slice_index s.regs 12) (slice_index s.regs 13) (λ t. f who ad t) (h who w (leb-true (slice_index s.regs 11) 32 fits.0) (leb-true (slice_index s.regs 13) 32 fits.1))))))

  attests : AllOf (attest_uses n s own)
  attests =
      let f : List ℕ → List Use = λ tag. attested_uses n s own tag (section_of s.sections.live (holder s.sections.live (slice_index s.regs 9))) in
      reaches (record { at = slice_index s.regs 10; count = 16 } ∷ []) (reading s (slice_index s.regs 10) 16 f)
      (reads (slice_index s.regs 10) 16 f (by (bytes_from s.mem (slice_index s.regs 10) 16) (section_of s.sections.live (holder s.sections.live (slice_index s.regs 9)))))
    where
      by : (tag : List ℕ) (o : Option Section) → AllOf (attested_uses n s own tag o)
      by tag None = tt
      by tag (Some x) =
          reads x.layout.pub_from (x.layout.pub_to - x.layout.pub_from)
          (λ text. Tries (section_holder n s own) 0x41 (identity text x.layout.pub_from x.layout.pub_to x.layout.priv_from x.layout.priv_to) tag ∷ [])
          ((inl refl, (λ e. absurd (omega (arith, e)))), tt)

  wraps : AllOf (wrap_uses set n s own)
  wraps =
      inputs (λ who a body. cond (is_written set s who a body) (given set who a body) (Sizes who a body ∷ [])) (λ who w r11 r13.
      if_of (is_written set s who ad text) (given set who ad text) (Sizes who ad text ∷ []) (w, (w, tt)) (tt, tt))

  unwraps : AllOf (unwrap_uses set n s own)
  unwraps =
      let open_ = may_range s.sections.live (own_of s) Write (slice_index s.regs 14) (slice_index s.regs 13) in
      let tag = bytes_from s.mem (slice_index s.regs 15) 16 in
      inputs (λ who a cipher. reading s (slice_index s.regs 15) 16 (λ tag. cond open_ (tried set who a cipher tag) [])) (λ who w r11 r13.
      reads (slice_index s.regs 15) 16 (λ tag. cond open_ (tried set who ad text tag) [])
      (if_of open_ (tried set who ad text tag) []
      ((w, (λ e. record { header_fits = r11; cipher_fits = r13; is = refl })), if_of (bytes_eq tag (wrap_tag set.mac (key_held set who) ad text)) (Gives who 0x53 (length ad ∷ (ad ++ 0 ∷ [])) ∷ []) [] (w, tt) tt) tt))

  instructs : (code : ℕ) → AllOf (instruction_uses set n s code (Some own))
  instructs code =
      let u5 = cond (code == 5) (unwrap_uses set n s own) [] in
      if_of (code == 2) (attest_uses n s own) (cond (code == 4) (wrap_uses set n s own) u5) attests (if_of (code == 4) (wrap_uses set n s own) u5 wraps (if_of (code == 5) (unwrap_uses set n s own) [] unwraps tt))

-- the section whose code runs, and whose key it is
pub record Owned (set : Setting) (n : ℕ) (s : State) (who : Holder) : Type 0 where
  pub own : Section
  pub runs : section_of s.sections.live (own_of s) ≡ Some own
  pub whose : Whose set n s own who

module _ (set : Setting) (n : ℕ) (s : State) where
  of_step : (P : List Use → Type 0) → P [] → ((own : Section) → section_of s.sections.live (own_of s) ≡ Some own → (code : ℕ) → P (instruction_uses set n s code (Some own)))
      → P (step_uses set n (Some s))
  of_step P none some = by (is_let_run s) (is_module_word (word s.mem (pc_of s))) (section_of s.sections.live (own_of s)) refl
    where
      by : (b c : Bool) (o : Option Section) → section_of s.sections.live (own_of s) ≡ o → P (cond b (cond c (instruction_uses set n s (word s.mem (pc_of s) - 0x1380) o) []) [])
      by false c o e = none
      by true false o e = none
      by true true None e = none
      by true true (Some own) e = some own e (word s.mem (pc_of s) - 0x1380)

  pub gives_owned : (who : Holder) (kind : ℕ) (rest : List ℕ) → IsUse (Gives who kind rest) (step_uses set n (Some s)) → Owned set n s who
  gives_owned who kind rest =
      of_step (λ us. IsUse (Gives who kind rest) us → Owned set n s who) (λ i. absurd i) (λ own e code i.
      record { own = own; runs = e; whose = found set n s own (Gives who kind rest) (instruction_uses set n s code (Some own)) (instructs set n s own code) i })

  -- the same of what is tried
  pub record OwnedTry (who : Holder) (rest : List ℕ) : Type 0 where
    pub own : Section
    pub whose : Whose set n s own who
    pub read : Unwrapped set n s own rest

  pub tries_owned : (who : Holder) (rest tag : List ℕ) → IsUse (Tries who 0x54 rest tag) (step_uses set n (Some s)) → OwnedTry who rest
  tries_owned who rest tag =
      of_step (λ us. IsUse (Tries who 0x54 rest tag) us → OwnedTry who rest) (λ i. absurd i) (λ own e code i.
      let f = found set n s own (Tries who 0x54 rest tag) (instruction_uses set n s code (Some own)) (instructs set n s own code) i in
      record { own = own; whose = f.0; read = f.1 refl })
