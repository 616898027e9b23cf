-- What a call that reads the head of an input took, and answered.
use Rattle.std.specs.Prelude.{◌≡◌, ℕ, List, Bool, Result, Ok, Err}
use Rattle.sx_io.specs.Streams.{SourceAt}
use Rattle.sx_io.specs.Reading.{Answer, Limit}
use Rattle.sx_io.specs.Next.{Ahead}
use Rattle.command_promise.specs.Told.{Output}
use Rattle.command_promise.specs.Parts.{Notes}
use Rattle.command_promise.specs.Reads.{Reads, anything}
use Rattle.command_promise.specs.Got.{Got}
use Rattle.command_promise.specs.declared.head.HeadFault.{HeadFault}
use Rattle.command_promise.specs.declared.head.HeadFault.TheVariants as fault
use Rattle.command_promise.specs.Head.{Head, Found, TooLong, NoMark, Unread, head, head_lines}

-- What a call took of the input, and answered: the head, and the answers to come after it; or why
-- there is none. Memory runs out only if there is a head: that it is too long, or has no mark,
-- is found without memory.
abbrev pub HeadRead : Bool → SourceAt → SourceAt → Ahead → Result (List ℕ) HeadFault → Type 0
HeadRead tells s0 s1 now (Ok text) =
    Got tells head_lines head_lines s0 s1 now head (λ more. Found text more) Unread anything
HeadRead tells s0 s1 now (Err fault.TooLong) =
    Reads tells head_lines s0 s1 head Unread (λ answers. head answers ≡ TooLong)
HeadRead tells s0 s1 now (Err fault.NoMark) =
    Reads tells head_lines s0 s1 head Unread (λ answers. head answers ≡ NoMark)
HeadRead tells s0 s1 now (Err fault.Failed) =
    Reads tells head_lines s0 s1 head Unread (λ answers. head answers ≡ Unread)
HeadRead tells s0 s1 now (Err fault.OutOfMemory) =
    (text : List ℕ) × Got tells head_lines head_lines s0 s1 now head
    (λ more. Found text more) Unread anything

-- what a command writes of its input, and what is noted of that
pub record Noted : Type 0 where
  pub output : Output
  pub notes : List (List ℕ)

-- What a call that reads another text took, and answered, where F was of all that comes and g is of
-- the text that comes.
abbrev pub TextTaken : Bool → Limit → SourceAt → SourceAt → Ahead → (List Answer → Noted)
    → (Head → Noted) → (List Answer → Type 0) → Result (List ℕ) HeadFault → Type 0
TextTaken tells limit s0 s2 now F g also (Ok text) =
    Got tells limit head_lines s0 s2 now F (λ more. g (Found text more)) (g Unread) also
TextTaken tells limit s0 s2 now F g also (Err fault.TooLong) =
    Reads tells limit s0 s2 F (g Unread) (λ answers. (F answers ≡ g TooLong) × also answers)
TextTaken tells limit s0 s2 now F g also (Err fault.NoMark) =
    Reads tells limit s0 s2 F (g Unread) (λ answers. (F answers ≡ g NoMark) × also answers)
TextTaken tells limit s0 s2 now F g also (Err fault.Failed) =
    Reads tells limit s0 s2 F (g Unread) (λ answers. (F answers ≡ g Unread) × also answers)
TextTaken tells limit s0 s2 now F g also (Err fault.OutOfMemory) =
    (text : List ℕ) × Got tells limit head_lines s0 s2 now F
    (λ more. g (Found text more)) (g Unread) also

-- So it is wherever a command has come, of which the text that follows decides the rest.
abbrev pub TextRead : Bool → SourceAt → SourceAt → Ahead → Ahead → Result (List ℕ) HeadFault
    → Type 0
TextRead tells s1 s2 old now result =
    (limit : Limit) (s0 : SourceAt) (F : List Answer → Noted) (g : Head → Noted)
    (aside : List Answer → List ℕ) (noted : List ℕ)
    → Got tells limit head_lines s0 s1 old F (λ answers. g (head answers)) (g Unread)
    (Notes aside noted)
    → TextTaken tells limit s0 s2 now F g (Notes aside noted) result

-- a call's answer, with the text's bytes in place of what holds them
abbrev pub seen_text : {V : Type 0} → (V → List ℕ) → Result V HeadFault → Result (List ℕ) HeadFault
seen_text bytes (Ok v) = Ok (bytes v)
seen_text bytes (Err f) = Err f
