-- What a moment of a run asks of the tag function.
use Rattle.std.specs.Prelude.{◌≡◌, ℕ, ◌-◌, ◌==◌, nat_le, Bool, ◌&&◌, not, if◌then◌else◌, List, []}
use Rattle.std.specs.Prelude.{◌∷◌, ◌++◌, length, take, slice_get, slice_index, bytes_eq}
use Rattle.std.specs.Prelude.{Option, Some, None}
use Rattle.std.specs.Option.{option_flatten}
use Rattle.std.specs.List.{list_any}
use Rattle.sx_rules.specs.declared.access.Access.TheVariants.{Read, Write}
use Rattle.sx_rules.specs.declared.section.Layout.{Layout}
use Rattle.sx_rules.specs.declared.section.Section.{Section}
use Rattle.sx_rules.specs.Access.{holder, section_of}
use Rattle.sx_bus.specs.Devices.{places_of}
use Rattle.sx_tag.specs.Keys.{module_key, identity}
use Rattle.sx_tag.specs.Wrap.{crypt, wrap_tag, wrapped}
use Rattle.spec_machine.specs.Memory.{word, bytes_from}
use Rattle.spec_machine.specs.Ranges.{passes_end, meets_device}
use Rattle.spec_machine.specs.Run.{may_range, may_each}
use Rattle.spec_machine.specs.ModuleRows.{Buffer, own_key, buffers}
use Rattle.spec_machine.specs.State.{State}
use Rattle.spec_machine.specs.Step.{pc_of, own_of, is_module_word, is_let_run}
use Rattle.sx_deployer.specs.Granting.{Grant, grants_after}
use Rattle.spec_run.specs.Setting.{Setting, Site}
use Rattle.spec_run.specs.Deployer.{list_at, accepts, after_acceptance, connection_key, grant_header}
use Rattle.spec_run.specs.State.{World}
use Rattle.law_isolation.specs.Happening as happening
use Rattle.law_isolation.specs.Happening.{Happening}
use Rattle.law_forgery.specs.Moments.{Moment}

-- whose key it is: one that code holds in memory, or that of a section with these public bytes and
-- this layout
pub data Holder : Type 0 where
  Held : (key : List ℕ) → Holder
  OfSection : (node boot provider : ℕ) (text : List ℕ) (layout : Layout) → Holder

-- the key in a setting
abbrev pub key_held : Setting → Holder → List ℕ
key_held set (Held key) = key
key_held set (OfSection n boot provider text l) =
    module_key set.mac (list_at set.keys n) boot provider
    (identity text l.pub_from l.pub_to l.priv_from l.priv_to)

-- A tag is handed out; or it is only asked whether these bytes are its first sixteen; or, where
-- what is wrapped can't be written, how many bytes it has.
pub data Use : Type 0 where
  Gives : (whose : Holder) (kind : ℕ) (rest : List ℕ) → Use
  Tries : (whose : Holder) (kind : ℕ) (rest tag : List ℕ) → Use
  Sizes : (whose : Holder) (header body : List ℕ) → Use

-- two settings answer alike
abbrev pub SameUse : Setting → Setting → Use → Type 0
SameUse a b (Gives whose kind rest) =
    a.mac (key_held a whose) (kind ∷ rest) ≡ b.mac (key_held b whose) (kind ∷ rest)
SameUse a b (Tries whose kind rest tag) =
    bytes_eq tag (take 16 (a.mac (key_held a whose) (kind ∷ rest)))
    ≡ bytes_eq tag (take 16 (b.mac (key_held b whose) (kind ∷ rest)))
SameUse a b (Sizes whose header body) =
    let w = wrapped a.mac (key_held a whose) header body in
    let v = wrapped b.mac (key_held b whose) header body in
    (length w.cipher ≡ length v.cipher) × (length w.tag ≡ length v.tag)

-- all of these
abbrev pub SameUses : Setting → Setting → List Use → Type 0
SameUses a b [] = Unit {0}
SameUses a b (use_ ∷ uses) = SameUse a b use_ × SameUses a b uses

-- a header and a body are wrapped: the stream and the tag are given
abbrev pub given : Setting → Holder → (header body : List ℕ) → List Use
given set whose header body =
    Gives whose 0x53 (length header ∷ (header ++ 0 ∷ []))
    ∷ Gives whose 0x54
    (length header ∷ (header ++ crypt set.mac (key_held set whose) header body)) ∷ []

-- a tag is tried, and if it is right the stream is given
abbrev pub tried : Setting → Holder → (header cipher tag : List ℕ) → List Use
tried set whose header cipher tag =
    Tries whose 0x54 (length header ∷ (header ++ cipher)) tag
    ∷ (if bytes_eq tag (wrap_tag set.mac (key_held set whose) header cipher) then
    Gives whose 0x53 (length header ∷ (header ++ 0 ∷ [])) ∷ [] else [])

-- what follows once code has read these bytes, if it may
abbrev pub reading : State → ℕ → ℕ → (List ℕ → List Use) → List Use
reading s at n rest =
    if may_range s.sections.live (own_of s) Read at n then rest (bytes_from s.mem at n) else []

-- what follows once buffers were tested
abbrev pub in_reach : State → List Buffer → List Use → List Use
in_reach s bs rest =
    if not (list_any (λ b. passes_end b.at b.count) bs) then
    (if not (list_any (λ b. meets_device (places_of s.devices) b.at b.count) bs) then rest else [])
    else []

-- the holder of a live section's key, at the n-th node
abbrev pub section_holder : ℕ → State → Section → Holder
section_holder n s x = OfSection n s.boot x.provider
    (bytes_from s.mem x.layout.pub_from (x.layout.pub_to - x.layout.pub_from)) x.layout

-- attest tries a tag over the identity of the section at an address
abbrev pub attested_uses : ℕ → State → Section → List ℕ → Option Section → List Use
attested_uses n s own tag None = []
attested_uses n s own tag (Some x) =
    reading s x.layout.pub_from (x.layout.pub_to - x.layout.pub_from) (λ text.
    Tries (section_holder n s own) 0x41 (identity text x.layout.pub_from x.layout.pub_to
    x.layout.priv_from x.layout.priv_to) tag ∷ [])

abbrev pub attest_uses : ℕ → State → Section → List Use
attest_uses n s own =
    in_reach s (record { at = slice_index s.regs 10; count = 16 } ∷ [])
    (reading s (slice_index s.regs 10) 16 (λ tag. attested_uses n s own tag
    (section_of s.sections.live (holder s.sections.live (slice_index s.regs 9)))))

-- the module's own key, or 16 bytes that code holds
abbrev pub key_uses : ℕ → State → Section → (Holder → List Use) → List Use
key_uses n s own rest =
    if own_key s.regs then rest (section_holder n s own) else
    reading s (slice_index s.regs 9) 16 (λ key. rest (Held key))

-- what follows once a wrap or an unwrap has read its inputs
abbrev pub inputs_uses : ℕ → State → Section → (Holder → List ℕ → List ℕ → List Use) → List Use
inputs_uses n s own rest =
    if nat_le (slice_index s.regs 11) 32 && nat_le (slice_index s.regs 13) 32 then
    in_reach s (buffers s.regs) (key_uses n s own (λ whose.
    reading s (slice_index s.regs 10) (slice_index s.regs 11) (λ ad.
    reading s (slice_index s.regs 12) (slice_index s.regs 13) (λ text. rest whose ad text))))
    else []

-- what is wrapped may be written
abbrev pub is_written : Setting → State → Holder → (header body : List ℕ) → Bool
is_written set s whose header body =
    let w = wrapped set.mac (key_held set whose) header body in
    may_each s.sections.live (own_of s) Write (slice_index s.regs 14) w.cipher
    && may_each s.sections.live (own_of s) Write (slice_index s.regs 15) w.tag

-- once a wrap has read its inputs
abbrev pub wrap_uses : Setting → ℕ → State → Section → List Use
wrap_uses set n s own = inputs_uses n s own (λ whose ad body.
    if is_written set s whose ad body then given set whose ad body else Sizes whose ad body ∷ [])

-- once an unwrap has read a tag, and where its place is open to writes
abbrev pub unwrap_uses : Setting → ℕ → State → Section → List Use
unwrap_uses set n s own = inputs_uses n s own (λ whose ad cipher.
    reading s (slice_index s.regs 15) 16 (λ tag.
    if may_range s.sections.live (own_of s) Write (slice_index s.regs 14) (slice_index s.regs 13)
    then tried set whose ad cipher tag else []))

-- the module instruction with this code, of code of a module: attest, wrap and unwrap ask
abbrev pub instruction_uses : Setting → ℕ → State → ℕ → Option Section → List Use
instruction_uses set n s code None = []
instruction_uses set n s code (Some own) =
    if code == 2 then attest_uses n s own
    else if code == 4 then wrap_uses set n s own
    else if code == 5 then unwrap_uses set n s own
    else []

-- a step of the n-th node, if PC is let run and is at a module instruction
abbrev pub step_uses : Setting → ℕ → Option State → List Use
step_uses set n None = []
step_uses set n (Some s) =
    if is_let_run s then
    (if is_module_word (word s.mem (pc_of s)) then
    instruction_uses set n s (word s.mem (pc_of s) - 0x1380)
    (section_of s.sections.live (own_of s)) else [])
    else []

-- the holder of a deployed module's key at a boot
abbrev pub module_holder : Site → ℕ → Holder
module_holder site boot = OfSection site.node boot site.provider site.text site.layout

-- a set-key packet
abbrev pub grant_uses : Setting → Grant → Option Site → List Use
grant_uses set g None = []
grant_uses set g (Some site) = given set (module_holder site g.boot) (grant_header g)
    (connection_key set g.«end».link g.epoch)

abbrev pub grants_uses : Setting → List Grant → List Use
grants_uses set [] = []
grants_uses set (g ∷ gs) =
    grant_uses set g (slice_get set.sites g.holder) ++ grants_uses set gs

-- an answer to an open ask is tried, and if it is accepted set-key packets are given
abbrev pub verdict_uses : Setting → World → ℕ → Site → ℕ → List ℕ → Option (List ℕ) → List Use
verdict_uses set w m site boot answer None = []
verdict_uses set w m site boot answer (Some ask) =
    let last = option_flatten (slice_get w.deployer.attested m) in
    Tries (module_holder site boot) 0x54 (length ask ∷ (ask ++ [])) answer
    ∷ (if accepts set site w.deployer m boot answer (Some ask) last then
    grants_uses set (grants_after set.app
    (after_acceptance set.app.links w.deployer m boot last) m boot last) else [])

abbrev pub answer_uses : Setting → World → ℕ → ℕ → Option Site → Option (List ℕ) → List Use
answer_uses set w m boot None packet = []
answer_uses set w m boot (Some site) None = []
answer_uses set w m boot (Some site) (Some answer) =
    verdict_uses set w m site boot answer (option_flatten (slice_get w.deployer.open_asks m))

-- what happens asks for a step or an answer, and for nothing else
abbrev pub uses_at : Setting → Happening → World → List Use
uses_at set (happening.Step n) w = step_uses set n (slice_get w.nodes n)
uses_at set (happening.Answer m boot k) w =
    answer_uses set w m boot (slice_get set.sites m) (slice_get w.packets k)
uses_at set _ w = []

-- what a moment asks
abbrev pub uses : Setting → Moment → List Use
uses set now = uses_at set now.next now.world
