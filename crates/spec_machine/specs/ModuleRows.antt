-- The rows of the other module instructions: the plan of each (Sancus 2.0; registers and order of
-- the tests are own).
use Rattle.std.specs.Prelude.{ℕ, ◌-◌, ◌==◌, nat_le, Bool, ◌&&◌, not, if◌then◌else◌, List, [], ◌∷◌}
use Rattle.std.specs.Prelude.{length, slice_index, take, bytes_eq, Option, Some, None}
use Rattle.std.specs.List.{list_any}
use Rattle.sx_tag.specs.Mac.{Mac}
use Rattle.sx_tag.specs.Keys.{identity, attest_tag}
use Rattle.sx_tag.specs.Wrap.{padded, wrapped, unwrapped}
use Rattle.sx_rules.specs.declared.access.Violation.TheVariants as bad
use Rattle.sx_rules.specs.declared.section.Section.{Section}
use Rattle.sx_rules.specs.Access.{holder, section_of}
use Rattle.sx_bus.specs.Devices.{places_of}
use Rattle.spec_machine.specs.declared.kinds.Event.TheVariants.{Quiet, Wrapped, Unwrapped}
use Rattle.spec_machine.specs.declared.kinds.Exchange.{Exchange}
use Rattle.spec_machine.specs.Ranges.{passes_end, meets_device}
use Rattle.spec_machine.specs.Given.{Given, own_section, concluded}
use Rattle.spec_machine.specs.Plan.{Plan, Tell, Need, Writable, Bytes, Put}

-- the end of an instruction that does nothing but answer in R15
abbrev pub answer : Given → ℕ → Plan
answer g v = Tell (concluded g.regs v) Quiet g.exchange

-- an instruction for code of a module alone: outside every module it answers 0
abbrev pub within : Given → (Section → Plan) → Option Section → Plan
within g row None = answer g 0
within g row (Some own) = row own

-- this many bytes from an address on
pub record Buffer : Type 0 where
  pub at : ℕ
  pub count : ℕ

-- The tests of all buffers come before anything is read: none passes the end of memory, and none
-- meets a device.
abbrev pub tested : Given → List Buffer → Plan → Plan
tested g buffers rest =
    Need (not (list_any (λ b. passes_end b.at b.count) buffers)) bad.Range
    (Need (not (list_any (λ b. meets_device (places_of g.devices) b.at b.count) buffers)) bad.Device
    rest)

-- Attest: R9 is an address, and R10 the place of 16 bytes. R15 is the id of the module whose public
-- section holds the address, where these bytes are the tag over its identity under the key of the
-- module whose code this is; else 0.

-- the tag is that over a section's identity under the key of the module whose code this is
abbrev pub vouches : Mac → Section → List ℕ → Section → List ℕ → Bool
vouches mac own tag s text = bytes_eq tag (attest_tag mac own.key
    (identity text s.layout.pub_from s.layout.pub_to s.layout.priv_from s.layout.priv_to))

-- the answer: the id of the section at the address, where the tag is over its identity, else 0
abbrev pub attested : Mac → Given → Section → List ℕ → Option Section → Plan
attested mac g own tag None = answer g 0
attested mac g own tag (Some s) =
    Bytes s.layout.pub_from (s.layout.pub_to - s.layout.pub_from)
    (λ text. answer g (if vouches mac own tag s text then s.id else 0))

-- the instruction `attest`: it reads the tag, and then the public bytes of the section at the
-- address
abbrev pub attest : Mac → Given → Section → Plan
attest mac g own =
    tested g (record { at = slice_index g.regs 10; count = 16 } ∷ [])
    (Bytes (slice_index g.regs 10) 16 (λ tag. attested mac g own tag
    (section_of g.sections.live (holder g.sections.live (slice_index g.regs 9)))))

-- Wrap and unwrap: R9 is the place of the key, 0 for the module's own; R10 the header and R11 its
-- length; R12 the body, or the cipher, and R13 its length; R14 the place of the cipher, or of the
-- body; R15 the place of the tag.

-- the module's own key is used
abbrev pub own_key : List ℕ → Bool
own_key regs = slice_index regs 9 == 0

-- the buffers that wrap and unwrap name: the key, the header, the text that is read, the place that
-- is written, and the tag
abbrev pub buffers : List ℕ → List Buffer
buffers regs =
    record { at = slice_index regs 9; count = if own_key regs then 0 else 16 }
    ∷ record { at = slice_index regs 10; count = slice_index regs 11 }
    ∷ record { at = slice_index regs 12; count = slice_index regs 13 }
    ∷ record { at = slice_index regs 14; count = slice_index regs 13 }
    ∷ record { at = slice_index regs 15; count = 16 } ∷ []

-- the module's own key, or the one at R9
abbrev pub with_key : Given → Section → (List ℕ → Plan) → Plan
with_key g own rest = if own_key g.regs then rest own.key else Bytes (slice_index g.regs 9) 16 rest

-- what both begin with: header and body have at most 32 bytes, the buffers' tests, and then the
-- key, the header, and the body or the cipher are read
abbrev pub with_inputs : Given → Section → (List ℕ → List ℕ → List ℕ → Plan) → Plan
with_inputs g own rest =
    Need (nat_le (slice_index g.regs 11) 32 && nat_le (slice_index g.regs 13) 32) bad.Range
    (tested g (buffers g.regs)
    (with_key g own (λ key. Bytes (slice_index g.regs 10) (slice_index g.regs 11)
    (λ ad. Bytes (slice_index g.regs 12) (slice_index g.regs 13) (λ text. rest key ad text)))))

-- a header and a plain body, as the node keeps them
abbrev pub exchanged : List ℕ → List ℕ → List ℕ → Exchange
exchanged regs ad body = record {
  ad = padded ad;
  ad_len = length ad;
  body = padded body;
  body_len =
      length body;
  own_key = own_key regs;
}

-- the cipher is written, then the tag
abbrev pub wrap : Mac → Given → Section → Plan
wrap mac g own =
    with_inputs g own (λ key ad body.
    Put (slice_index g.regs 14) (wrapped mac key ad body).cipher
    (Put (slice_index g.regs 15) (wrapped mac key ad body).tag
    (Tell (concluded g.regs 1) (Wrapped g.own) (exchanged g.regs ad body))))

-- a wrong tag opens nothing
abbrev pub opened : Given → List ℕ → Option (List ℕ) → Plan
opened g ad None = answer g 0
opened g ad (Some body) =
    let plain = take (slice_index g.regs 13) body in
    Put (slice_index g.regs 14) plain (Tell (concluded g.regs 1) (Unwrapped g.own)
    (exchanged g.regs ad plain))

-- the body's place must be open to writes with a wrong tag, too
abbrev pub unwrap : Mac → Given → Section → Plan
unwrap mac g own =
    with_inputs g own (λ key ad cipher. Bytes (slice_index g.regs 15) 16 (λ tag.
    Writable (slice_index g.regs 14) (slice_index g.regs 13)
    (opened g ad (unwrapped mac key ad cipher tag))))

-- the plan of the module instruction with this code: 2 attest, 4 wrap, 5 unwrap, 6 get-id, 7
-- get-caller-id
unfoldable pub module_row : Mac → ℕ → Given → Plan
module_row mac code g =
    if code == 2 then within g (attest mac g) (own_section g)
    else if code == 4 then within g (wrap mac g) (own_section g)
    else if code == 5 then within g (unwrap mac g) (own_section g)
    else if code == 6 then answer g (holder g.sections.live (slice_index g.regs 9))
    else within g (λ own. answer g g.caller) (own_section g)
