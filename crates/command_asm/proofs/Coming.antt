-- How the bytes of an input of `dis` come, line by line.
use Rattle.std.proofs.Common.{◌≡◌, ◌∙◌, ℕ, ◌+◌, Bool, List, [], ◌∷◌, ◌++◌, take, refl, sym, ap}
use Rattle.std.proofs.Common.{◌≤◌, ◌<◌, append_assoc, Option, Some, None, true, false}
use Rattle.std.specs.Prelude.{IsTrue, MatchOption}
use Rattle.std.proofs.lemmas.Bool.{lt-ltb, le-ltb}
use Rattle.hex.specs.Hex.{decode_of}
use Rattle.std.proofs.lemmas.List.{append-nil}
use Rattle.sx_io.specs.Streams.{SourceAt}
use Rattle.sx_io.specs.Reading.{Answer, Line, longest}
use Rattle.sx_io.specs.Next.{Ahead, Next}
use Rattle.sx_io.specs.declared.lines.LineRead.TheVariants as read
use Rattle.sx_io.specs.declared.lines.ReaderState.TheVariants.{Open}
use Rattle.command_promise.specs.Reads.{anything}
use Rattle.command_promise.specs.Got.{Got}
use Rattle.command_promise.proofs.Takings.{got-new, got-line, got-same, alone}
use Rattle.command_promise.proofs.Takings.{reads-end, reads-failed, reads-stop, reads-too-long}
use Rattle.command_asm.specs.Disassembling.{HexInput, Bytes, BadLine, Unread, in_front, on_line, hex_input}
use Rattle.command_asm.specs.Disassembling.{decoded, line_bytes, dis_lines}
use Rattle.command_asm.specs.Kept.{ReadsGiven}

-- ---- bytes before others

nothing_in_front : (g : HexInput) → in_front [] g ≡ g
nothing_in_front (Bytes more) = refl
nothing_in_front (BadLine number) = refl
nothing_in_front Unread = refl

both_in_front : (bytes more : List ℕ) (g : HexInput)
    → in_front bytes (in_front more g) ≡ in_front (bytes ++ more) g
both_in_front bytes more (Bytes rest) = ap Bytes (sym (append_assoc bytes more rest))
both_in_front bytes more (BadLine number) = refl
both_in_front bytes more Unread = refl

taken_line : (number : ℕ) (bytes taken text : List ℕ) (more : List Answer)
    → line_bytes number text ≡ Some taken
    → in_front bytes (hex_input number (Line text ∷ more))
    ≡ in_front (bytes ++ taken) (hex_input (number + 1) more)
taken_line number bytes taken text more e =
    let rest : HexInput = hex_input (number + 1) more in
    ap (λ (o : Option (List ℕ)). in_front bytes (on_line number o rest)) e
    ∙ both_in_front bytes taken rest

bad_line : (number : ℕ) (bytes text : List ℕ) (more : List Answer)
    → line_bytes number text ≡ None
    → in_front bytes (hex_input number (Line text ∷ more)) ≡ BadLine number
bad_line number bytes text more e =
    let rest : HexInput = hex_input (number + 1) more in
    ap (λ (o : Option (List ℕ)). in_front bytes (on_line number o rest)) e

-- ---- what a line writes

pub line_too_many : (number : ℕ) (text : List ℕ) → 65536 < number → line_bytes number text ≡ None
unfolding line_bytes
line_too_many number text h = rw (lt-ltb 65536 number h) refl

pub line_decoded : (number : ℕ) (text : List ℕ) → number ≤ 65536
    → line_bytes number text ≡ decoded (decode_of text)
unfolding line_bytes
line_decoded number text h = rw (le-ltb 65536 number h) refl

-- a text was decoded to these bytes exactly where this is answered
abbrev pub IsDecoded : Option (List ℕ) → Bool → List ℕ → Type 0
IsDecoded o is bytes = MatchOption o (is ≡ false) (λ said. IsTrue is × (bytes ≡ said))

pub decoded_some : (o : Option (List ℕ)) (bytes : List ℕ) → IsDecoded o true bytes
    → o ≡ Some bytes
decoded_some (Some said) bytes h = ap Some (sym h.1)
decoded_some None bytes h = absurd (cc h)

pub decoded_none : (o : Option (List ℕ)) (bytes : List ℕ) → IsDecoded o false bytes → o ≡ None
decoded_none (Some said) bytes h = absurd (cc h.0)
decoded_none None bytes h = refl

-- ---- lines

-- the bytes before the line with this number have come
abbrev pub Come : Bool → SourceAt → SourceAt → Ahead → ℕ → List ℕ → Type 0
Come tells s0 s1 now number bytes =
    Got tells dis_lines dis_lines s0 s1 now (hex_input 1)
    (λ more. in_front bytes (hex_input number more)) Unread anything

pub come_new : {tells : Bool} {s : SourceAt} (a : Ahead)
    → a ≡ record { held = []; state = Open } → Come tells s s a 1 []
come_new {tells} {s} a e =
    got-same {F = hex_input 1} {f = hex_input 1} {g = λ more. in_front [] (hex_input 1 more)}
    (λ more. sym (nothing_in_front (hex_input 1 more))) refl (got-new dis_lines a (hex_input 1) e)

pub come_line : {tells : Bool} {s0 s1 s2 : SourceAt} {old new : Ahead} {into : List ℕ} {n : ℕ}
    (number : ℕ) (bytes taken : List ℕ)
    → Come tells s0 s1 old number bytes → Next longest tells s1 s2 old new into (read.Text n)
    → line_bytes number (take n into) ≡ Some taken
    → Come tells s0 s2 new (number + 1) (bytes ++ taken)
come_line {tells} {s0} {s1} {s2} {old} {new} {into} {n} number bytes taken b x e =
    got-same {f = λ more. in_front bytes (hex_input number (Line (take n into) ∷ more))}
    {g = λ more. in_front (bytes ++ taken) (hex_input (number + 1) more)}
    (λ more. taken_line number bytes taken (take n into) more e) refl
    (got-line (λ more. in_front bytes (hex_input number more)) b x)

-- a line breaks the rule of lines, and nothing is read after it
pub come_bad : {tells : Bool} {s0 s1 s2 : SourceAt} {old new : Ahead} {into : List ℕ} {n : ℕ}
    (number : ℕ) (bytes : List ℕ)
    → Come tells s0 s1 old number bytes → Next longest tells s1 s2 old new into (read.Text n)
    → line_bytes number (take n into) ≡ None → ReadsGiven tells s0 s2 (BadLine number)
come_bad {tells} {s0} {s1} {s2} {old} {new} {into} {n} number bytes b x e =
    alone
    (reads-stop (λ g. g ≡ BadLine number)
    (got-line (λ more. in_front bytes (hex_input number more)) b x)
    (λ more. bad_line number bytes (take n into) more e))

-- ---- the last answer

pub come_end : {tells : Bool} {s0 s1 s2 : SourceAt} {old new : Ahead} {into : List ℕ}
    (number : ℕ) (bytes : List ℕ)
    → Come tells s0 s1 old number bytes → Next longest tells s1 s2 old new into read.End
    → ReadsGiven tells s0 s2 (Bytes bytes)
come_end number bytes b x =
    alone (reads-end (λ g. g ≡ Bytes bytes) refl b x (ap Bytes (append-nil bytes)))

pub come_long : {tells : Bool} {s0 s1 s2 : SourceAt} {old new : Ahead} {into : List ℕ}
    (number : ℕ) (bytes : List ℕ)
    → Come tells s0 s1 old number bytes → Next longest tells s1 s2 old new into read.TooLong
    → ReadsGiven tells s0 s2 (BadLine number)
come_long number bytes b x = alone (reads-too-long (λ g. g ≡ BadLine number) b x refl)

pub come_failed : {tells : Bool} {s0 s1 s2 : SourceAt} {old new : Ahead} {into : List ℕ}
    (number : ℕ) (bytes : List ℕ)
    → Come tells s0 s1 old number bytes → Next longest tells s1 s2 old new into read.Failed
    → ReadsGiven tells s0 s2 Unread
come_failed number bytes b x = alone (reads-failed (λ g. g ≡ Unread) b x refl)
