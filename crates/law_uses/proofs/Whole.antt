-- Whole runs, and settings that no tag tells apart.
use Rattle.std.proofs.Common.{◌≡◌, ℕ, suc, ◌-◌, Bool, true, false, cond, not, ◌&&◌, bytes_eq, List, [], ◌∷◌, ◌++◌, length, take, min, slice_index, Option, Some, None, refl, sym, ◌∙◌, ap, ap₂, subst, arith}
use Rattle.std.specs.Prelude.{slice_get, nat_le, ◌==◌}
use Rattle.std.specs.List.{list_any}
use Rattle.std.specs.Option.{option_flatten}
use Rattle.std.proofs.lemmas.List.{length-take}
use Rattle.sx_trace.specs.declared.items.Item.{Item}
use Rattle.sx_rules.specs.declared.access.Access.TheVariants.{Read, Write}
use Rattle.sx_rules.specs.declared.section.Section.{Section}
use Rattle.sx_rules.specs.Access.{holder, section_of}
use Rattle.sx_bus.specs.Devices.{places_of}
use Rattle.sx_tag.specs.Mac.{Mac, IsTag}
use Rattle.sx_tag.specs.Keys.{kdf, boot_key, section_key, module_key, identity}
use Rattle.sx_tag.specs.Wrap.{xor_bytes, stream, crypt, wrap_tag, Wrapped}
use Rattle.spec_machine.specs.Memory.{word, bytes_from}
use Rattle.spec_machine.proofs.Lengths.{length-bytes_from}
use Rattle.spec_machine.specs.Ranges.{passes_end, meets_device}
use Rattle.spec_machine.specs.Run.{may_range}
use Rattle.spec_machine.specs.ModuleRows.{Buffer, own_key, buffers}
use Rattle.spec_machine.specs.State.{State}
use Rattle.spec_machine.specs.Step.{pc_of, own_of, is_module_word, is_let_run}
use Rattle.sx_sched.specs.Lines as line
use Rattle.sx_sched.specs.Lines.{Line}
use Rattle.sx_deployer.specs.Granting.{Grant, grants_after}
use Rattle.spec_run.specs.Setting.{Setting, Site}
use Rattle.spec_run.specs.Deployer.{list_at, connection_key, grant_header, accepts, after_acceptance}
use Rattle.spec_run.specs.State.{World, Acted, switched_on}
use Rattle.spec_run.specs.Acts.{then_}
use Rattle.spec_run.specs.Run.{run}
use Rattle.law_isolation.specs.Happening.{Happening, Begin, Step, Answer, done}
use Rattle.law_isolation.specs.Script.{Look, looks, Script, End, Do, performed}
use Rattle.law_isolation.specs.Lines.{script_of, line_script}
use Rattle.law_isolation.proofs.Guarding.{on_placed}
use Rattle.law_isolation.proofs.Performing.{is_performed}
use Rattle.law_forgery.specs.Tags.{rekeyed, AgreeOnTags}
use Rattle.law_forgery.specs.Moments.{Moment, moment_from}
use Rattle.law_forgery.specs.Unseen.{ShowTheSame, KeysUnseen}
use Rattle.law_forgery.proofs.Granting.{LikeActed}
use Rattle.law_uses.specs.Uses.{Holder, Held, OfSection, key_held, Use, Gives, Tries, Sizes, SameUse, SameUses, given, tried, reading, in_reach, section_holder, attested_uses, attest_uses, key_uses, inputs_uses, is_written, wrap_uses, unwrap_uses, instruction_uses, step_uses, module_holder, grant_uses, grants_uses, verdict_uses, answer_uses, uses_at, uses}
use Rattle.law_uses.specs.UsesAlone.{AnswerAlike}
use Rattle.law_uses.specs.Whole.{ScriptsAlone, RunsAlone, AgreeingAnswerAlike, SizesAreAlike, DeriveTheSame, KeysAreHeld}
use Rattle.law_uses.proofs.Asking.{N, wrapped_given}
use Rattle.law_uses.proofs.Alone.{Side, both_do, on_side, same_looks, bare_worlds}

module _ (a : Setting) (nac : Mac) (keys : List (List ℕ)) (secret : List ℕ)
    (links : (link epoch : ℕ) → connection_key a link epoch ≡ connection_key (rekeyed a nac keys secret) link epoch) where
  abbrev b : Setting
  b = rekeyed a nac keys secret

  performs : (script : Script) (w v : World) → Side a nac keys secret links w v
      → ((i : ℕ) (now : Moment) → moment_from a i script w ≡ Some now → SameUses a b (uses a now))
      → LikeActed N N (performed a script w) (performed b script v)
  performs End w v s p = (refl, s.like)
  performs (Do x rest) w v s p =
      let one = both_do a nac keys secret links x w v s (p 0 (record { next = x; world = w }) refl) in
      let wa = (done a x w).world in
      let wb = (done b x v).world in
      let more = performs (rest (looks wa)) wa wb one.side (λ i now e. p (suc i) now e) in
      subst (λ (z : Script). LikeActed N N (performed a (Do x rest) w) (then_ (done b x v) (λ u. performed b z u))) (sym (ap rest (same_looks wa wb one.side.like)))
      (ap₂ (λ (p q : List Item). p ++ q) one.items more.0, more.1)

  scripts : (script : Script) → length a.keys ≡ length keys → ((k : ℕ) → AnswerAlike a b script k)
      → ShowTheSame (performed a script (switched_on a)) (performed b script (switched_on b))
  scripts script e p =
      let r = performs script (switched_on a) (switched_on b) (on_side a nac keys secret links e) (λ i now f. p (suc i) i now (omega arith) f) in
      (r.0, bare_worlds (performed a script (switched_on a)).world (performed b script (switched_on b)).world r.1)

pub scripts_alone : ScriptsAlone
scripts_alone a b script d p =
    subst (λ (z : Setting). ShowTheSame (performed a script (switched_on a)) (performed z script (switched_on z))) (sym d.rest)
    (scripts a b.mac b.keys b.secret (λ link epoch. d.links link epoch ∙ ap (λ (z : Setting). connection_key z link epoch) d.rest) script d.count
    (λ k. subst (λ (z : Setting). AnswerAlike a z script k) d.rest (p k)))

-- The script of a schedule is the same.

line_same : (a : Setting) (nac : Mac) (keys : List (List ℕ)) (secret : List ℕ) (l : Line) (rest : List Look → Script) → line_script (rekeyed a nac keys secret) l rest ≡ line_script a l rest
line_same a nac keys secret line.Blank rest = refl
line_same a nac keys secret (line.Run n k) rest = refl
line_same a nac keys secret (line.Finish n) rest = refl
line_same a nac keys secret (line.Put n at bytes) rest = refl
line_same a nac keys secret (line.Set n r v) rest = refl
line_same a nac keys secret (line.Take n at len) rest = refl
line_same a nac keys secret (line.Give k n at) rest = refl
line_same a nac keys secret (line.Forge bytes) rest = refl
line_same a nac keys secret (line.Sense d v) rest = refl
line_same a nac keys secret (line.Irq n k) rest = refl
line_same a nac keys secret (line.Reset n) rest = refl
line_same a nac keys secret (line.Ask m) rest = refl
line_same a nac keys secret (line.Answer m boot k) rest = refl
line_same a nac keys secret (line.Load m) rest = refl
line_same a nac keys secret (line.Call m e input output) rest = refl

pub script_same : (a : Setting) (nac : Mac) (keys : List (List ℕ)) (secret : List ℕ) (lines : List Line) → script_of (rekeyed a nac keys secret) lines ≡ script_of a lines
script_same a nac keys secret [] = refl
script_same a nac keys secret (l ∷ lines) =
    ap (λ (f : List Look → Script). Do Begin f) (line_same a nac keys secret l (λ now. script_of (rekeyed a nac keys secret) lines))
    ∙ ap (λ (s : Script). Do Begin (line_script a l (λ now. s))) (script_same a nac keys secret lines)

pub runs_alone : RunsAlone
runs_alone a b lines d p =
    let scr : script_of b lines ≡ script_of a lines = ap (λ (z : Setting). script_of z lines) d.rest ∙ script_same a b.mac b.keys b.secret lines in
    subst (λ (x : Acted). ShowTheSame x (run b (switched_on b) lines)) (sym (is_performed a lines (switched_on a) (on_placed a)))
    (subst (λ (y : Acted). ShowTheSame (performed a (script_of a lines) (switched_on a)) y) (sym (is_performed b lines (switched_on b) (on_placed b)))
    (subst (λ (z : Script). ShowTheSame (performed a (script_of a lines) (switched_on a)) (performed b z (switched_on b))) (sym scr)
    (scripts_alone a b (script_of a lines) d p)))

-- Settings that no tag tells apart.

-- 16 bytes, or a section
abbrev Fair : Holder → Type 0
Fair (Held key) = length key ≡ 16
Fair (OfSection n boot provider text l) = Unit {0}

module _ (a b : Setting) (agree : AgreeOnTags a b) where
  tag_same : (who : Holder) → Fair who → (kind : ℕ) (rest : List ℕ) → (kind ≡ 0x4B → ⊥) → a.mac (key_held a who) (kind ∷ rest) ≡ b.mac (key_held b who) (kind ∷ rest)
  tag_same (Held key) f kind rest ne = agree.held key f kind rest ne
  tag_same (OfSection n boot provider text l) f kind rest ne = agree.modules n boot provider (identity text l.pub_from l.pub_to l.priv_from l.priv_to) kind rest ne

  tries_same : (who : Holder) → Fair who → (kind : ℕ) (rest tag : List ℕ) → (kind ≡ 0x4B → ⊥) → SameUse a b (Tries who kind rest tag)
  tries_same who f kind rest tag ne = ap (λ (t : List ℕ). bytes_eq tag (take 16 t)) (tag_same who f kind rest ne)

  given_same : (who : Holder) → Fair who → (header body : List ℕ) → SameUses a b (given a who header body)
  given_same who f header body = (
    tag_same who f 0x53 (length header ∷ (header ++ 0 ∷ [])) (λ e. absurd (omega (arith, e))),
    (tag_same who f 0x54 (length header ∷ (header ++ crypt a.mac (key_held a who) header body)) (λ e. absurd (omega (arith, e))), tt),
  )

  if_same : (t : Bool) (us vs : List Use) → SameUses a b us → SameUses a b vs → SameUses a b (cond t us vs)
  if_same true us vs h k = h
  if_same false us vs h k = k

  tried_same : (who : Holder) → Fair who → (header cipher tag : List ℕ) → SameUses a b (tried a who header cipher tag)
  tried_same who f header cipher tag = (
    tries_same who f 0x54 (length header ∷ (header ++ cipher)) tag (λ e. absurd (omega (arith, e))),
    if_same (bytes_eq tag (wrap_tag a.mac (key_held a who) header cipher)) (Gives who 0x53 (length header ∷ (header ++ 0 ∷ [])) ∷ []) []
        (tag_same who f 0x53 (length header ∷ (header ++ 0 ∷ [])) (λ e. absurd (omega (arith, e))), tt) tt,
  )

  sizes_same : (who : Holder) → Fair who → (header body : List ℕ) → SameUse a b (Sizes who header body)
  sizes_same who f header body =
      let e = wrapped_given a b who header body (given_same who f header body) in
      (ap (λ (w : Wrapped). length w.cipher) e, ap (λ (w : Wrapped). length w.tag) e)

  module _ (n : ℕ) (s : State) where
    reads_same : (at m : ℕ) (us : List ℕ → List Use) → ((bs : List ℕ) → length bs ≡ m → SameUses a b (us bs)) → SameUses a b (reading s at m us)
    reads_same at m us f = if_same (may_range s.sections.live (own_of s) Read at m) (us (bytes_from s.mem at m)) [] (f (bytes_from s.mem at m) (length-bytes_from s.mem at m)) tt

    reach_same : (bs : List Buffer) (us : List Use) → SameUses a b us → SameUses a b (in_reach s bs us)
    reach_same bs us f =
        let off = not (list_any (λ b. meets_device (places_of s.devices) b.at b.count) bs) in
        if_same (not (list_any (λ b. passes_end b.at b.count) bs)) (cond off us []) [] (if_same off us [] f tt) tt

    inputs_same : (x : Section) (us : Holder → List ℕ → List ℕ → List Use) → ((who : Holder) → Fair who → (ad text : List ℕ) → SameUses a b (us who ad text)) → SameUses a b (inputs_uses n s x us)
    inputs_same x us f =
        let vs : Holder → List Use = λ who. reading s (slice_index s.regs 10) (slice_index s.regs 11) (λ ad. reading s (slice_index s.regs 12) (slice_index s.regs 13) (λ text. us who ad text)) in
        let each : (who : Holder) → Fair who → SameUses a b (vs who) = λ who h.
        reads_same (slice_index s.regs 10) (slice_index s.regs 11) (λ ad. reading s (slice_index s.regs 12) (slice_index s.regs 13) (λ text. us who ad text)) (λ ad e.
        reads_same (slice_index s.regs 12) (slice_index s.regs 13) (λ text. us who ad text) (λ text e2. f who h ad text)) in
        if_same (nat_le (slice_index s.regs 11) 32 && nat_le (slice_index s.regs 13) 32) (in_reach s (buffers s.regs) (key_uses n s x vs)) []
        (reach_same (buffers s.regs) (key_uses n s x vs)
        (if_same (own_key s.regs) (vs (section_holder n s x)) (reading s (slice_index s.regs 9) 16 (λ key. vs (Held key))) (each (section_holder n s x) tt)
        (reads_same (slice_index s.regs 9) 16 (λ key. vs (Held key)) (λ key e. each (Held key) e)))) tt

    attested_same : (x : Section) (tag : List ℕ) (t : Option Section) → SameUses a b (attested_uses n s x tag t)
    attested_same x tag None = tt
    attested_same x tag (Some t) =
        let id : List ℕ → List ℕ = λ text. identity text t.layout.pub_from t.layout.pub_to t.layout.priv_from t.layout.priv_to in
        reads_same t.layout.pub_from (t.layout.pub_to - t.layout.pub_from) (λ text. Tries (section_holder n s x) 0x41 (id text) tag ∷ []) (λ text e.
        (tries_same (section_holder n s x) tt 0x41 (id text) tag (λ z. absurd (omega (arith, z))), tt))

    instruction_same : (code : ℕ) (o : Option Section) → SameUses a b (instruction_uses a n s code o)
    instruction_same code None = tt
    instruction_same code (Some x) =
        let us : List ℕ → List Use = λ tag. attested_uses n s x tag (section_of s.sections.live (holder s.sections.live (slice_index s.regs 9))) in
        let open_ = may_range s.sections.live (own_of s) Write (slice_index s.regs 14) (slice_index s.regs 13) in
        if_same (code == 2) (attest_uses n s x) (cond (code == 4) (wrap_uses a n s x) (cond (code == 5) (unwrap_uses a n s x) []))
        (reach_same (record { at = slice_index s.regs 10; count = 16 } ∷ []) (reading s (slice_index s.regs 10) 16 us)
        (reads_same (slice_index s.regs 10) 16 us (λ tag e. attested_same x tag (section_of s.sections.live (holder s.sections.live (slice_index s.regs 9))))))
        (if_same (code == 4) (wrap_uses a n s x) (cond (code == 5) (unwrap_uses a n s x) [])
        (inputs_same x (λ who ad body. cond (is_written a s who ad body) (given a who ad body) (Sizes who ad body ∷ [])) (λ who h ad body.
        if_same (is_written a s who ad body) (given a who ad body) (Sizes who ad body ∷ []) (given_same who h ad body) (sizes_same who h ad body, tt)))
        (if_same (code == 5) (unwrap_uses a n s x) []
        (inputs_same x (λ who ad cipher. reading s (slice_index s.regs 15) 16 (λ tag. cond open_ (tried a who ad cipher tag) [])) (λ who h ad cipher.
        reads_same (slice_index s.regs 15) 16 (λ tag. cond open_ (tried a who ad cipher tag) []) (λ tag e.
        if_same open_ (tried a who ad cipher tag) [] (tried_same who h ad cipher tag) tt))) tt))

    step_same : SameUses a b (step_uses a n (Some s))
    step_same =
        let us = instruction_uses a n s (word s.mem (pc_of s) - 0x1380) (section_of s.sections.live (own_of s)) in
        if_same (is_let_run s) (cond (is_module_word (word s.mem (pc_of s))) us []) []
        (if_same (is_module_word (word s.mem (pc_of s))) us [] (instruction_same (word s.mem (pc_of s) - 0x1380) (section_of s.sections.live (own_of s))) tt) tt

  step_at : (n : ℕ) (o : Option State) → SameUses a b (step_uses a n o)
  step_at n None = tt
  step_at n (Some s) = step_same n s

  join : (us vs : List Use) → SameUses a b us → SameUses a b vs → SameUses a b (us ++ vs)
  join [] vs h k = k
  join (u ∷ us) vs h k = (h.0, join us vs h.1 k)

  grant_same : (g : Grant) (o : Option Site) → SameUses a b (grant_uses a g o)
  grant_same g None = tt
  grant_same g (Some site) = given_same (module_holder site g.boot) tt (grant_header g) (connection_key a g.«end».link g.epoch)

  grants_same : (gs : List Grant) → SameUses a b (grants_uses a gs)
  grants_same [] = tt
  grants_same (g ∷ gs) = join (grant_uses a g (slice_get a.sites g.holder)) (grants_uses a gs) (grant_same g (slice_get a.sites g.holder)) (grants_same gs)

  verdict_same : (w : World) (m : ℕ) (site : Site) (boot : ℕ) (answer : List ℕ) (o : Option (List ℕ)) → SameUses a b (verdict_uses a w m site boot answer o)
  verdict_same w m site boot answer None = tt
  verdict_same w m site boot answer (Some ask) =
      let last = option_flatten (slice_get w.deployer.attested m) in
      let gs = grants_after a.app (after_acceptance a.app.links w.deployer m boot last) m boot last in (
        tries_same (module_holder site boot) tt 0x54 (length ask ∷ (ask ++ [])) answer (λ e. absurd (omega (arith, e))),
        if_same (accepts a site w.deployer m boot answer (Some ask) last) (grants_uses a gs) [] (grants_same gs) tt,
      )

  answer_same : (w : World) (m boot : ℕ) (o : Option Site) (p : Option (List ℕ)) → SameUses a b (answer_uses a w m boot o p)
  answer_same w m boot None p = tt
  answer_same w m boot (Some site) None = tt
  answer_same w m boot (Some site) (Some answer) = verdict_same w m site boot answer (option_flatten (slice_get w.deployer.open_asks m))

  all_same : (x : Happening) (w : World) → SameUses a b (uses_at a x w)
  all_same (Step n) w = step_at n (slice_get w.nodes n)
  all_same (Answer m boot k) w = answer_same w m boot (slice_get a.sites m) (slice_get w.packets k)
  all_same x w = tt

pub agreeing_answer_alike : AgreeingAnswerAlike
agreeing_answer_alike a b agree now = all_same a b agree now.next now.world

-- Sizes.

xor_long : (bytes s t : List ℕ) → length s ≡ length t → length (xor_bytes bytes s) ≡ length (xor_bytes bytes t)
xor_long [] s t e = refl
xor_long (x ∷ bytes) [] [] e = refl
xor_long (x ∷ bytes) [] (c ∷ t) e = absurd (omega (arith, e))
xor_long (x ∷ bytes) (d ∷ s) [] e = absurd (omega (arith, e))
xor_long (x ∷ bytes) (d ∷ s) (c ∷ t) e = ap suc (xor_long bytes s t (omega (arith, e)))

crypt_long : (mac nac : Mac) (k l ad body : List ℕ) → IsTag mac → IsTag nac → length (crypt mac k ad body) ≡ length (crypt nac l ad body)
unfolding crypt
crypt_long mac nac k l ad body h g =
    xor_long body (stream mac k ad) (stream nac l ad) (h.width k (0x53 ∷ length ad ∷ (ad ++ 0 ∷ [])) ∙ sym (g.width l (0x53 ∷ length ad ∷ (ad ++ 0 ∷ []))))

tag_long : (mac : Mac) (k ad cipher : List ℕ) → IsTag mac → length (wrap_tag mac k ad cipher) ≡ min 16 32
unfolding wrap_tag
tag_long mac k ad cipher h = length-take 16 (mac k (0x54 ∷ length ad ∷ (ad ++ cipher))) ∙ ap (min 16) (h.width k (0x54 ∷ length ad ∷ (ad ++ cipher)))

pub sizes_are_alike : SizesAreAlike
sizes_are_alike a b h g who header body = (
  crypt_long a.mac b.mac (key_held a who) (key_held b who) header body h g,
  tag_long a.mac (key_held a who) header (crypt a.mac (key_held a who) header body) h ∙ sym (tag_long b.mac (key_held b who) header (crypt b.mac (key_held b who) header body) g),
)

-- Keys that are derived alike.

kdf_same : (mac nac : Mac) → DeriveTheSame mac nac → (key part : List ℕ) → kdf mac key part ≡ kdf nac key part
unfolding kdf
kdf_same mac nac h key part = ap (take 16) (h key part)

pub module_key_same : (mac nac : Mac) → DeriveTheSame mac nac → (key : List ℕ) (boot provider : ℕ) (id : List ℕ) → module_key mac key boot provider id ≡ module_key nac key boot provider id
unfolding module_key section_key boot_key
module_key_same mac nac h key boot provider id =
    let w32 = Rattle.std.specs.Int.to_le_bytes Rattle.std.specs.Int.w32 boot in
    let w16 = Rattle.std.specs.Int.to_le_bytes Rattle.std.specs.Int.w16 provider in
    ap (λ (k : List ℕ). kdf mac (kdf mac k w16) id) (kdf_same mac nac h key w32)
    ∙ ap (λ (k : List ℕ). kdf mac k id) (kdf_same mac nac h (kdf nac key w32) w16)
    ∙ kdf_same mac nac h (kdf nac (kdf nac key w32) w16) id

pub keys_are_held : KeysAreHeld
keys_are_held set nac h = (
  record {
    rest = refl;
    count = refl;
    links = λ link epoch. kdf_same set.mac nac h set.secret _;
  },
  by,
)
  where
    by : (who : Holder) → key_held set who ≡ key_held (record set { mac = nac }) who
    by (Held key) = refl
    by (OfSection n boot provider text l) = module_key_same set.mac nac h (list_at set.keys n) boot provider (identity text l.pub_from l.pub_to l.priv_from l.priv_to)

-- So keys are unseen.
pub keys_unseen_so : KeysUnseen
keys_unseen_so a b script h =
    scripts_alone a b script (record { rest = h.rest; count = h.count; links = h.links }) (λ k j now lt e. agreeing_answer_alike a b h now)
