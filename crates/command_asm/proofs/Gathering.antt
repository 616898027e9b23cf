-- How a text comes, line by line.
use Rattle.std.proofs.Common.{◌≡◌, ℕ, ◌+◌, Bool, true, false, List, [], ◌∷◌, ◌++◌, length, take, refl, sym, subst, nat_lt}
use Rattle.std.proofs.Common.{Option, Some, None, is_some}
use Rattle.std.specs.Prelude.{Result, Ok, Err}
use Rattle.std.specs.Result.{IsErrAnd}
use Rattle.std.specs.Str.{IsUtf8, is_utf8}
use Rattle.std.proofs.lemmas.Str.{IsUtf8-from_is_utf8, is_utf8-from_IsUtf8}
use Rattle.sx_io.specs.Streams.{SourceAt}
use Rattle.sx_io.specs.Reading.{Answer, Line, longest, newline}
use Rattle.sx_io.specs.Next.{Ahead, Next}
use Rattle.sx_io.specs.declared.lines.LineRead.TheVariants as read
use Rattle.command_promise.specs.Reads.{Reads, anything}
use Rattle.command_promise.specs.Got.{Got}
use Rattle.command_promise.proofs.Takings.{got-line, got-same, reads-map, reads-stop, reads-end, reads-too-long, reads-failed, alone}
use Rattle.command_asm.specs.declared.assembling.GatheredText.{GatheredText}
use Rattle.command_asm.specs.declared.assembling.GatherFault.{GatherFault}
use Rattle.command_asm.specs.declared.assembling.GatherFault.TheVariants as fault
use Rattle.command_asm.specs.Gathering.{Gathers}
use Rattle.command_asm.specs.Assembling.{Gathered, broken_at, with_line, Whole, Unread, asm_lines, most_bytes, gather, input}

-- this many lines have come, and this many bytes, and this was gathered of them
abbrev pub Come : Bool → SourceAt → SourceAt → Ahead → ℕ → ℕ → Gathered → Type 0
Come tells s0 s1 now number count g = Got tells asm_lines asm_lines s0 s1 now input (gather number count g) Unread anything

-- the same in other words
pub come_as : {tells : Bool} {s0 s1 : SourceAt} {now : Ahead} {number count : ℕ} (g other : Gathered) → g ≡ other
    → Come tells s0 s1 now number count g → Come tells s0 s1 now number count other
come_as {tells} {s0} {s1} {now} {number} {count} g other e b =
    let P : Gathered → Type 0 = λ v. Come tells s0 s1 now number count v in subst P e b

pub whole_as : {tells : Bool} {s0 s1 : SourceAt} (g other : Gathered) → g ≡ other
    → Reads tells asm_lines s0 s1 input Unread (λ answers. input answers ≡ Whole g)
    → Reads tells asm_lines s0 s1 input Unread (λ answers. input answers ≡ Whole other)
whole_as {tells} {s0} {s1} g other e r =
    let P : Gathered → Type 0 = λ v. Reads tells asm_lines s0 s1 input Unread (λ answers. input answers ≡ Whole v) in subst P e r

-- ---- a line is added

pub none_bad : (bad : Option ℕ) (some : Bool) → some ≡ is_some bad → some ≡ false → bad ≡ None
none_bad None some e f = refl
none_bad (Some n) some e f = absurd (cc)

with_good : (number : ℕ) (text line : List ℕ) → is_utf8 line ≡ true
    → with_line number line (record { text = text; bad = None }) ≡ record { text = text ++ line ++ newline ∷ []; bad = None }
with_good number text line u = rw u refl

with_bad : (number : ℕ) (text line : List ℕ) → is_utf8 line ≡ false
    → with_line number line (record { text = text; bad = None }) ≡ record { text = text; bad = Some number }
with_bad number text line u = rw u refl

pub good_line : (number : ℕ) (text line more : List ℕ) (bad : Option ℕ) → bad ≡ None → IsUtf8 line → more ≡ (text ++ line) ++ newline ∷ []
    → record { text = more; bad = bad } ≡ with_line number line (record { text = text; bad = bad })
good_line number text line more bad none u e =
    rw (none, e) (sym (with_good number text line (is_utf8-from_IsUtf8 line u)))

pub bad_line : (number : ℕ) (text line : List ℕ) (bad : Option ℕ) → bad ≡ None → (IsUtf8 line → ⊥)
    → record { text = text; bad = Some number } ≡ with_line number line (record { text = text; bad = bad })
bad_line number text line bad none u = rw none (by_test (is_utf8 line) refl)
  where
    by_test : (t : Bool) → is_utf8 line ≡ t
        → record { text = text; bad = Some number } ≡ with_line number line (record { text = text; bad = None })
    by_test true e = absurd (u (IsUtf8-from_is_utf8 line e))
    by_test false e = sym (with_bad number text line e)

-- ---- the answers

goes_on : (number count : ℕ) (g : Gathered) (line : List ℕ) (more : List Answer) → nat_lt most_bytes (count + (length line + 1)) ≡ false
    → gather number count g (Line line ∷ more) ≡ gather (number + 1) (count + (length line + 1)) (with_line number line g) more
goes_on number count g line more e = rw e refl

passing : (number count : ℕ) (g : Gathered) (line : List ℕ) (more : List Answer) → nat_lt most_bytes (count + (length line + 1)) ≡ true
    → gather number count g (Line line ∷ more) ≡ Whole (broken_at number g)
passing number count g line more e = rw e refl

pub come_line : {tells : Bool} {s0 s1 s2 : SourceAt} {old new : Ahead} {into : List ℕ} {n : ℕ} (number count : ℕ) (g : Gathered)
    → Come tells s0 s1 old number count g → Next longest tells s1 s2 old new into (read.Text n)
    → nat_lt most_bytes (count + (length (take n into) + 1)) ≡ false
    → Come tells s0 s2 new (number + 1) (count + (length (take n into) + 1)) (with_line number (take n into) g)
come_line {tells} {s0} {s1} {s2} {old} {new} {into} {n} number count g b x e =
    let line = take n into in
    got-same {f = λ more. gather number count g (Line line ∷ more)} {g = gather (number + 1) (count + (length line + 1)) (with_line number line g)}
    (λ more. goes_on number count g line more e) refl (got-line (gather number count g) b x)

pub come_past : {tells : Bool} {s0 s1 s2 : SourceAt} {old new : Ahead} {into : List ℕ} {n : ℕ} (number count : ℕ) (g : Gathered)
    → Come tells s0 s1 old number count g → Next longest tells s1 s2 old new into (read.Text n)
    → nat_lt most_bytes (count + (length (take n into) + 1)) ≡ true
    → Reads tells asm_lines s0 s2 input Unread (λ answers. input answers ≡ Whole (broken_at number g))
come_past {tells} {s0} {s1} {s2} {old} {new} {into} {n} number count g b x e =
    alone (reads-stop (λ i. i ≡ Whole (broken_at number g)) (got-line (gather number count g) b x) (λ more. passing number count g (take n into) more e))

-- memory runs out after a line
pub come_starved : {tells : Bool} {s0 s1 s2 : SourceAt} {old new : Ahead} {into : List ℕ} {n : ℕ} (number count : ℕ) (g : Gathered)
    → Come tells s0 s1 old number count g → Next longest tells s1 s2 old new into (read.Text n) → Reads tells asm_lines s0 s2 input Unread anything
come_starved number count g b x =
    reads-map anything (λ i. i) (λ answers q. tt) (reads-stop (λ i. Unit {0}) (got-line (gather number count g) b x) (λ more. tt))

pub come_end : {tells : Bool} {s0 s1 s2 : SourceAt} {old new : Ahead} {into : List ℕ} (number count : ℕ) (g : Gathered)
    → Come tells s0 s1 old number count g → Next longest tells s1 s2 old new into read.End
    → Reads tells asm_lines s0 s2 input Unread (λ answers. input answers ≡ Whole g)
come_end number count g b x = alone (reads-end (λ i. i ≡ Whole g) refl b x refl)

pub come_long : {tells : Bool} {s0 s1 s2 : SourceAt} {old new : Ahead} {into : List ℕ} (number count : ℕ) (g : Gathered)
    → Come tells s0 s1 old number count g → Next longest tells s1 s2 old new into read.TooLong
    → Reads tells asm_lines s0 s2 input Unread (λ answers. input answers ≡ Whole (broken_at number g))
come_long number count g b x = alone (reads-too-long (λ i. i ≡ Whole (broken_at number g)) b x refl)

pub come_failed : {tells : Bool} {s0 s1 s2 : SourceAt} {old new : Ahead} {into : List ℕ} (number count : ℕ) (g : Gathered)
    → Come tells s0 s1 old number count g → Next longest tells s1 s2 old new into read.Failed
    → Reads tells asm_lines s0 s2 input Unread (λ answers. input answers ≡ Unread)
come_failed number count g b x = alone (reads-failed (λ i. i ≡ Unread) b x refl)

-- the answer where memory runs out
pub starved : {tells : Bool} {s0 s1 : SourceAt} (r : Result GatheredText GatherFault) → IsErrAnd r (λ e. e ≡ fault.OutOfMemory)
    → Reads tells asm_lines s0 s1 input Unread anything → Gathers tells s0 s1 r
starved (Ok g) e r = absurd e
starved (Err fault.Failed) e r = absurd (cc e)
starved (Err fault.OutOfMemory) e r = r
