-- What a moment asks under two tag functions that differ in tags over `T` alone: the same first, and where that has the same answer, all the same.
use Rattle.std.proofs.Common.{◌≡◌, ◌≢◌, ℕ, ◌-◌, ◌==◌, Bool, true, false, cond, not, ◌&&◌, bytes_eq, List, [], ◌∷◌, ◌++◌, length, min, slice_index, Option, Some, None, refl, sym, ◌∙◌, ap, ap₂, arith}
use Rattle.std.specs.Prelude.{nat_le, slice_get}
use Rattle.std.specs.List.{list_any}
use Rattle.std.specs.Option.{option_flatten}
use Rattle.std.proofs.lemmas.List.{length-take}
use Rattle.sx_rules.specs.declared.access.Access.TheVariants.{Read, Write}
use Rattle.sx_rules.specs.declared.section.Section.{Section}
use Rattle.sx_rules.specs.Access.{holder, section_of}
use Rattle.sx_bus.specs.Devices.{places_of}
use Rattle.sx_tag.specs.Mac.{Mac}
use Rattle.sx_tag.specs.Keys.{identity}
use Rattle.sx_tag.specs.Wrap.{xor_bytes, crypt, wrap_tag, wrapped}
use Rattle.spec_machine.specs.Memory.{word, bytes_from}
use Rattle.spec_machine.specs.Ranges.{passes_end, meets_device}
use Rattle.spec_machine.specs.Run.{may_range, may_each}
use Rattle.spec_machine.specs.ModuleRows.{Buffer, own_key, buffers}
use Rattle.spec_machine.specs.State.{State}
use Rattle.spec_machine.specs.Step.{pc_of, own_of, is_module_word, is_let_run}
use Rattle.sx_deployer.specs.Granting.{Grant, grants_after}
use Rattle.spec_run.specs.Setting.{Setting, Site}
use Rattle.spec_run.specs.Deployer.{key_of, connection_key, grant_header, accepts, after_acceptance}
use Rattle.sx_model.specs.Renewal.{may_attest}
use Rattle.spec_run.specs.State.{World}
use Rattle.law_isolation.specs.Happening.{Happening, Step, Answer}
use Rattle.law_forgery.specs.Moments.{Moment}
use Rattle.law_uses.specs.Uses.{Holder, Held, key_held, Use, Gives, Tries, Sizes, SameUse, SameUses, given, tried, reading, in_reach, section_holder, attested_uses, attest_uses, key_uses, inputs_uses, is_written}
use Rattle.law_uses.specs.Uses.{wrap_uses, unwrap_uses, instruction_uses, step_uses, module_holder, grant_uses, grants_uses, verdict_uses, answer_uses, uses_at, uses}
use Rattle.law_uses.specs.Whole.{DeriveTheSame}
use Rattle.law_uses.proofs.Asking.{each_long}
use Rattle.law_uses.proofs.Whole.{keys_are_held}
use Rattle.law_uses.proofs.Answering.{asked_tag}

-- two tag functions differ in tags over `T` alone, and not in how many bytes they have
pub record IsClose (mac nac : Mac) : Type 0 where
  pub others : (key : List ℕ) (kind : ℕ) (rest : List ℕ) → kind ≢ 0x54 → mac key (kind ∷ rest) ≡ nac key (kind ∷ rest)
  pub size : (key message : List ℕ) → length (mac key message) ≡ length (nac key message)

pub derives : (mac nac : Mac) → IsClose mac nac → DeriveTheSame mac nac
derives mac nac close key rest = close.others key 0x4B rest (λ e. absurd (omega (arith, e)))

-- nothing is tried
abbrev pub NoTries : List Use → Type 0
NoTries [] = Unit {0}
NoTries (Gives who kind rest ∷ us) = NoTries us
NoTries (Tries who kind rest tag ∷ us) = ⊥
NoTries (Sizes who header body ∷ us) = NoTries us

-- the first use, if any
abbrev pub first_of : List Use → Option Use
first_of [] = None
first_of (u ∷ us) = Some u

-- only the first may be a try
abbrev pub TriesFirst : List Use → Type 0
TriesFirst [] = Unit {0}
TriesFirst (u ∷ us) = NoTries us

module _ (a : Setting) (nac : Mac) (close : IsClose a.mac nac) where
  abbrev b : Setting
  b = record a { mac = nac }

  held : (who : Holder) → key_held a who ≡ key_held b who
  held = (keys_are_held a nac (derives a.mac nac close)).1

  -- The first use is the same, the further ones are where it has the same answer, and only the first may be a try.
  abbrev Shape : List Use → List Use → Type 0
  Shape [] [] = Unit {0}
  Shape [] (v ∷ vs) = ⊥
  Shape (u ∷ us) [] = ⊥
  Shape (u ∷ us) (v ∷ vs) = (u ≡ v) × (SameUse a b u → us ≡ vs) × NoTries us

  crypt_is : (who : Holder) (header body : List ℕ) → crypt a.mac (key_held a who) header body ≡ crypt nac (key_held b who) header body
  unfolding crypt
  crypt_is who header body =
      ap (xor_bytes body) (close.others (key_held a who) 0x53 (length header ∷ (header ++ 0 ∷ [])) (λ e. absurd (omega (arith, e)))
      ∙ ap (λ (k : List ℕ). nac k (0x53 ∷ length header ∷ (header ++ 0 ∷ []))) (held who))

  given_is : (who : Holder) (header body : List ℕ) → given a who header body ≡ given b who header body
  given_is who header body =
      ap (λ (c : List ℕ). Gives who 0x53 (length header ∷ (header ++ 0 ∷ [])) ∷ Gives who 0x54 (length header ∷ (header ++ c)) ∷ []) (crypt_is who header body)

  given_shape : (who : Holder) (header body : List ℕ) → Shape (given a who header body) (given b who header body)
  given_shape who header body = (refl, (λ e. ap (λ (c : List ℕ). Gives who 0x54 (length header ∷ (header ++ c)) ∷ []) (crypt_is who header body)), tt)

  tag_size : (who : Holder) (header cipher : List ℕ) → length (wrap_tag a.mac (key_held a who) header cipher) ≡ length (wrap_tag nac (key_held b who) header cipher)
  unfolding wrap_tag
  tag_size who header cipher =
      let m = 0x54 ∷ length header ∷ (header ++ cipher) in
      length-take 16 (a.mac (key_held a who) m)
      ∙ ap (min 16) (close.size (key_held a who) m ∙ ap (λ (k : List ℕ). length (nac k m)) (held who))
      ∙ sym (length-take 16 (nac (key_held b who) m))

  written_is : (s : State) (who : Holder) (header body : List ℕ) → is_written a s who header body ≡ is_written b s who header body
  written_is s who header body =
      let w = wrapped a.mac (key_held a who) header body in
      let v = wrapped nac (key_held b who) header body in
      ap₂ (λ (c d : Bool). c && d)
      (ap (may_each s.sections.live (own_of s) Write (slice_index s.regs 14)) (crypt_is who header body))
      (each_long s.sections.live (own_of s) Write (slice_index s.regs 15) w.tag v.tag
      (ap (λ (c : List ℕ). length (wrap_tag a.mac (key_held a who) header c)) (crypt_is who header body) ∙ tag_size who header v.cipher))

  if_shape : (t : Bool) (us vs : List Use) → Shape us vs → Shape (cond t us []) (cond t vs [])
  if_shape true us vs h = h
  if_shape false us vs h = tt

  module _ (n : ℕ) (s : State) where
    reads : (at m : ℕ) (f g : List ℕ → List Use) → ((bs : List ℕ) → Shape (f bs) (g bs)) → Shape (reading s at m f) (reading s at m g)
    reads at m f g h = if_shape (may_range s.sections.live (own_of s) Read at m) (f (bytes_from s.mem at m)) (g (bytes_from s.mem at m)) (h (bytes_from s.mem at m))

    reaches : (bs : List Buffer) (us vs : List Use) → Shape us vs → Shape (in_reach s bs us) (in_reach s bs vs)
    reaches bs us vs h =
        let off = not (list_any (λ (b : Buffer). meets_device (places_of s.devices) b.at b.count) bs) in
        if_shape (not (list_any (λ (b : Buffer). passes_end b.at b.count) bs)) (cond off us []) (cond off vs []) (if_shape off us vs h)

    keys : (own : Section) (f g : Holder → List Use) → ((who : Holder) → Shape (f who) (g who)) → Shape (key_uses n s own f) (key_uses n s own g)
    keys own f g h = by (own_key s.regs)
      where
        by : (t : Bool) → Shape (cond t (f (section_holder n s own)) (reading s (slice_index s.regs 9) 16 (λ key. f (Held key))))
            (cond t (g (section_holder n s own)) (reading s (slice_index s.regs 9) 16 (λ key. g (Held key))))
        by true = h (section_holder n s own)
        by false = reads (slice_index s.regs 9) 16 (λ key. f (Held key)) (λ key. g (Held key)) (λ key. h (Held key))

    inputs : (own : Section) (f g : Holder → List ℕ → List ℕ → List Use) → ((who : Holder) (ad text : List ℕ) → Shape (f who ad text) (g who ad text))
        → Shape (inputs_uses n s own f) (inputs_uses n s own g)
    inputs own f g h =
        let fs : Holder → List Use = λ who. reading s (slice_index s.regs 10) (slice_index s.regs 11) (λ ad. reading s (slice_index s.regs 12) (slice_index s.regs 13) (λ text. f who ad text)) in
        let gs : Holder → List Use = λ who. reading s (slice_index s.regs 10) (slice_index s.regs 11) (λ ad. reading s (slice_index s.regs 12) (slice_index s.regs 13) (λ text. g who ad text)) in
        if_shape (nat_le (slice_index s.regs 11) 32 && nat_le (slice_index s.regs 13) 32) (in_reach s (buffers s.regs) (key_uses n s own fs)) (in_reach s (buffers s.regs) (key_uses n s own gs))
        (reaches (buffers s.regs) (key_uses n s own fs) (key_uses n s own gs)
        (keys own fs gs (λ who.
        reads (slice_index s.regs 10) (slice_index s.regs 11) (λ ad. reading s (slice_index s.regs 12) (slice_index s.regs 13) (λ text. f who ad text))
        (λ ad. reading s (slice_index s.regs 12) (slice_index s.regs 13) (λ text. g who ad text)) (λ ad.
        reads (slice_index s.regs 12) (slice_index s.regs 13) (λ text. f who ad text) (λ text. g who ad text) (λ text. h who ad text)))))

    attests : (own : Section) → Shape (attest_uses n s own) (attest_uses n s own)
    attests own =
        let found = section_of s.sections.live (holder s.sections.live (slice_index s.regs 9)) in
        let f : List ℕ → List Use = λ tag. attested_uses n s own tag found in
        reaches (record { at = slice_index s.regs 10; count = 16 } ∷ []) (reading s (slice_index s.regs 10) 16 f) (reading s (slice_index s.regs 10) 16 f)
        (reads (slice_index s.regs 10) 16 f f (λ tag. by tag found))
      where
        by : (tag : List ℕ) (o : Option Section) → Shape (attested_uses n s own tag o) (attested_uses n s own tag o)
        by tag None = tt
        by tag (Some x) =
            let f : List ℕ → List Use = λ text. Tries (section_holder n s own) 0x41 (identity text x.layout.pub_from x.layout.pub_to x.layout.priv_from x.layout.priv_to) tag ∷ [] in
            reads x.layout.pub_from (x.layout.pub_to - x.layout.pub_from) f f (λ text. (refl, (λ e. refl), tt))

    wraps : (own : Section) → Shape (wrap_uses a n s own) (wrap_uses b n s own)
    wraps own =
        inputs own (λ who ad body. cond (is_written a s who ad body) (given a who ad body) (Sizes who ad body ∷ []))
        (λ who ad body. cond (is_written b s who ad body) (given b who ad body) (Sizes who ad body ∷ [])) (λ who ad body. by who ad body (is_written a s who ad body) (is_written b s who ad body) (written_is s who ad body))
      where
        by : (who : Holder) (ad body : List ℕ) (t u : Bool) → t ≡ u → Shape (cond t (given a who ad body) (Sizes who ad body ∷ [])) (cond u (given b who ad body) (Sizes who ad body ∷ []))
        by who ad body true true e = given_shape who ad body
        by who ad body false false e = (refl, (λ f. refl), tt)
        by who ad body true false e = absurd cc
        by who ad body false true e = absurd cc

    -- a tag that is tried, and the stream that follows where it is right
    tries_shape : (who : Holder) (ad cipher tag : List ℕ) → Shape (tried a who ad cipher tag) (tried b who ad cipher tag)
    unfolding wrap_tag
    tries_shape who ad cipher tag =
        let g = Gives who 0x53 (length ad ∷ (ad ++ 0 ∷ [])) ∷ [] in (
          refl,
          (λ e. ap (λ (t : Bool). cond t g []) e),
          none (bytes_eq tag (wrap_tag a.mac (key_held a who) ad cipher)),
        )
      where
        none : (t : Bool) → NoTries (cond t (Gives who 0x53 (length ad ∷ (ad ++ 0 ∷ [])) ∷ []) [])
        none true = tt
        none false = tt

    unwraps : (own : Section) → Shape (unwrap_uses a n s own) (unwrap_uses b n s own)
    unwraps own =
        let open_ = may_range s.sections.live (own_of s) Write (slice_index s.regs 14) (slice_index s.regs 13) in
        inputs own (λ who ad cipher. reading s (slice_index s.regs 15) 16 (λ tag. cond open_ (tried a who ad cipher tag) []))
        (λ who ad cipher. reading s (slice_index s.regs 15) 16 (λ tag. cond open_ (tried b who ad cipher tag) [])) (λ who ad cipher.
        reads (slice_index s.regs 15) 16 (λ tag. cond open_ (tried a who ad cipher tag) []) (λ tag. cond open_ (tried b who ad cipher tag) []) (λ tag.
        if_shape open_ (tried a who ad cipher tag) (tried b who ad cipher tag) (tries_shape who ad cipher tag)))

    pick : (t : Bool) (us vs us2 vs2 : List Use) → Shape us vs → Shape us2 vs2 → Shape (cond t us us2) (cond t vs vs2)
    pick true us vs us2 vs2 h k = h
    pick false us vs us2 vs2 h k = k

    instructs : (code : ℕ) (o : Option Section) → Shape (instruction_uses a n s code o) (instruction_uses b n s code o)
    instructs code None = tt
    instructs code (Some own) =
        let a5 = cond (code == 5) (unwrap_uses a n s own) [] in
        let b5 = cond (code == 5) (unwrap_uses b n s own) [] in
        pick (code == 2) (attest_uses n s own) (attest_uses n s own) (cond (code == 4) (wrap_uses a n s own) a5) (cond (code == 4) (wrap_uses b n s own) b5) (attests own)
        (pick (code == 4) (wrap_uses a n s own) (wrap_uses b n s own) a5 b5 (wraps own)
        (if_shape (code == 5) (unwrap_uses a n s own) (unwrap_uses b n s own) (unwraps own)))

  steps : (n : ℕ) (o : Option State) → Shape (step_uses a n o) (step_uses b n o)
  steps n None = tt
  steps n (Some s) =
      let code = word s.mem (pc_of s) - 0x1380 in
      let found = section_of s.sections.live (own_of s) in
      let one = instruction_uses a n s code found in
      let two = instruction_uses b n s code found in
      let m = is_module_word (word s.mem (pc_of s)) in
      if_shape (is_let_run s) (cond m one []) (cond m two []) (if_shape m one two (instructs n s code found))

  grant_is : (g : Grant) (o : Option Site) → grant_uses a g o ≡ grant_uses b g o
  grant_is g None = refl
  grant_is g (Some site) =
      given_is (module_holder site g.boot) (grant_header g) (connection_key a g.«end».link g.epoch)
      ∙ ap (given b (module_holder site g.boot) (grant_header g)) ((keys_are_held a nac (derives a.mac nac close)).0.links g.«end».link g.epoch)

  grants_are : (gs : List Grant) → grants_uses a gs ≡ grants_uses b gs
  grants_are [] = refl
  grants_are (g ∷ gs) = ap₂ (λ (us vs : List Use). us ++ vs) (grant_is g (slice_get a.sites g.holder)) (grants_are gs)

  no_more : (us vs : List Use) → NoTries us → NoTries vs → NoTries (us ++ vs)
  no_more [] vs h k = k
  no_more (Gives who kind rest ∷ us) vs h k = no_more us vs h k
  no_more (Tries who kind rest tag ∷ us) vs h k = absurd h
  no_more (Sizes who header body ∷ us) vs h k = no_more us vs h k

  grants_none : (gs : List Grant) → NoTries (grants_uses a gs)
  grants_none [] = tt
  grants_none (g ∷ gs) = no_more (grant_uses a g (slice_get a.sites g.holder)) (grants_uses a gs) (by (slice_get a.sites g.holder)) (grants_none gs)
    where
      by : (o : Option Site) → NoTries (grant_uses a g o)
      by None = tt
      by (Some site) = tt

  verdicts : (w : World) (m : ℕ) (site : Site) (boot : ℕ) (answer : List ℕ) (o : Option (List ℕ)) → Shape (verdict_uses a w m site boot answer o) (verdict_uses b w m site boot answer o)
  verdicts w m site boot answer None = tt
  verdicts w m site boot answer (Some ask) =
      let last = option_flatten (slice_get w.deployer.attested m) in
      let gs = grants_after a.app (after_acceptance a.app.links w.deployer m boot last) m boot last in (
        refl,
        (λ h. ap₂ (λ (t : Bool) (us : List Use). cond t us []) (accepts_is last h) (grants_are gs)),
        none (accepts a site w.deployer m boot answer (Some ask) last) gs,
      )
    where
      accepts_is : (last : Option ℕ) → SameUse a b (Tries (module_holder site boot) 0x54 (length ask ∷ (ask ++ [])) answer)
          → accepts a site w.deployer m boot answer (Some ask) last ≡ accepts b site w.deployer m boot answer (Some ask) last
      accepts_is last h =
          ap (λ (t : Bool). t && may_attest m a.app.links w.deployer.epochs last boot)
          (ap (bytes_eq answer) (asked_tag a.mac (key_of a site boot) ask) ∙ h ∙ sym (ap (bytes_eq answer) (asked_tag nac (key_of b site boot) ask)))

      none : (t : Bool) (gs : List Grant) → NoTries (cond t (grants_uses a gs) [])
      none true gs = grants_none gs
      none false gs = tt

  answers : (w : World) (m boot : ℕ) (o : Option Site) (p : Option (List ℕ)) → Shape (answer_uses a w m boot o p) (answer_uses b w m boot o p)
  answers w m boot None p = tt
  answers w m boot (Some site) None = tt
  answers w m boot (Some site) (Some answer) = verdicts w m site boot answer (option_flatten (slice_get w.deployer.open_asks m))

  shape : (x : Happening) (w : World) → Shape (uses_at a x w) (uses_at b x w)
  shape (Step n) w = steps n (slice_get w.nodes n)
  shape (Answer m boot k) w = answers w m boot (slice_get a.sites m) (slice_get w.packets k)
  shape x w = tt

  -- where all have the same answers, they are the same
  all_same : (us vs : List Use) → Shape us vs → SameUses a b us → us ≡ vs
  all_same [] [] h p = refl
  all_same [] (v ∷ vs) h p = absurd h
  all_same (u ∷ us) [] h p = absurd h
  all_same (u ∷ us) (v ∷ vs) h p = ap₂ (λ (x : Use) (xs : List Use). x ∷ xs) h.0 (h.1 p.0)

  pub uses_same : (now : Moment) → SameUses a b (uses a now) → uses a now ≡ uses b now
  uses_same now p = all_same (uses a now) (uses b now) (shape now.next now.world) p

  first_same_of : (us vs : List Use) → Shape us vs → first_of us ≡ first_of vs
  first_same_of [] [] h = refl
  first_same_of [] (v ∷ vs) h = absurd h
  first_same_of (u ∷ us) [] h = absurd h
  first_same_of (u ∷ us) (v ∷ vs) h = ap Some h.0

  pub first_same : (now : Moment) → first_of (uses a now) ≡ first_of (uses b now)
  first_same now = first_same_of (uses a now) (uses b now) (shape now.next now.world)

  tries_of : (us vs : List Use) → Shape us vs → TriesFirst us
  tries_of [] [] h = tt
  tries_of [] (v ∷ vs) h = absurd h
  tries_of (u ∷ us) [] h = absurd h
  tries_of (u ∷ us) (v ∷ vs) h = h.2

  pub tries_first : (now : Moment) → TriesFirst (uses a now)
  tries_first now = tries_of (uses a now) (uses b now) (shape now.next now.world)
