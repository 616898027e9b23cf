-- What a call makes of one line. Nobody has to believe this file: it is for contracts of functions
-- that aren't public.
use Rattle.std.specs.Prelude.{◌≡◌, ℕ, ◌+◌, ◌==◌, ◌&&◌, nat_le, Bool, if◌then◌else◌, List, [], ◌∷◌}
use Rattle.std.specs.Prelude.{◌++◌, ◌⊎◌, codes, length, take, Option, Some, Ok}
use Rattle.std.specs.Str.{bytes_eq}
use Rattle.sx_io.specs.Streams.{SinkAt, SourceAt}
use Rattle.sx_io.specs.Reading.{Answer}
use Rattle.sx_io.specs.Next.{Ahead}
use Rattle.command_promise.specs.Told.{CommandEnds, Output, behind}
use Rattle.command_promise.specs.declared.turned.Turned.{Turned}
use Rattle.command_promise.specs.declared.turned.Turned.TheVariants.{On, Stop}
use Rattle.sx_trace.specs.declared.items.Item.{Item}
use Rattle.sx_mean.specs.Application.{AppTree}
use Rattle.sx_deploy.specs.Deployment.{Deployed, IsRead}
use Rattle.sx_explain.specs.Followed.{Follows, Seen}
use Rattle.sx_explain.specs.Judging.{judged}
use Rattle.sx_explain.specs.declared.judge.Judged.{Judged}
use Rattle.command_head.specs.Given.{GivenSince, RanOutSince, WantsLast}
use Rattle.command_explain.specs.declared.images.ImageLine.{ImageLine}
use Rattle.command_explain.specs.declared.images.ImageLine.TheVariants as image
use Rattle.command_explain.specs.Output.{told_item}
use Rattle.command_explain.specs.Meant.{Meanings}
use Rattle.command_explain.specs.Trace.{image_lines, most_images, trace_lines}
use Rattle.command_explain.specs.Wants.{explain_may, trace_may}

-- what a line before `trace` is, by its first bytes and how many it has
abbrev pub front_line : ℕ → List ℕ → ℕ → ImageLine
front_line number front count =
    if (count == 5) && bytes_eq (take 5 front) (codes "trace") then image.Trace
    else if nat_le number most_images
    && (nat_le 6 count && bytes_eq (take 6 front) (codes "image ")) then image.Image
    else image.Other

-- What was said of an item is kept after what was kept before, and nothing was written; or the
-- command ended.
abbrev pub TellsItem : Bool → SinkAt → SinkAt → List ℕ → List ℕ → ℕ → Judged → Turned → Type 0
TellsItem to_tell k0 k1 kept left number said On =
    (k1 ≡ k0) × ((o : Output) → behind left o ≡ behind kept (told_item number said o))
TellsItem to_tell k0 k1 kept left number said (Stop status) =
    (o : Output) → CommandEnds to_tell k0 k1 status (behind kept (told_item number said o))

-- An item was judged after the items before it, and what is said of it was kept.
pub record JudgesItem (to_tell : Bool) (k0 k1 : SinkAt) (kept left : List ℕ) (app : AppTree)
    (items : List Item) (item : Item) (new : Seen) (turned : Turned) : Type 0 where
  pub does : TellsItem to_tell k0 k1 kept left (length items + 1) (judged app items item) turned
  pub follows : turned ≡ On → Follows app (items ++ item ∷ []) new

-- whatever items came before
abbrev pub JudgesFrom : Bool → SinkAt → SinkAt → List ℕ → List ℕ → AppTree → Seen → Seen → ℕ
    → Item → Turned → Type 0
JudgesFrom to_tell k0 k1 kept left app old new number item turned =
    (items : List Item) → Follows app items old → number ≡ length items + 1
    → JudgesItem to_tell k0 k1 kept left app items item new turned

-- Memory ran out in a trace: at once, or at a line that may want it.
abbrev pub TraceWants : (List ℕ → Option Item) → Bool → SourceAt → SourceAt → Ahead → Ahead
    → Type 0
TraceWants item tells s1 s2 old new = ((s2 ≡ s1) × (new ≡ old))
    ⊎ ((lines : List Answer) × GivenSince trace_lines trace_lines tells s1 s2 old new lines
    × WantsLast trace_lines (trace_may item) tells s1 s2 old lines)

-- after a head: at once, or after a deployment at a line that may want it
abbrev pub ReadWants : Meanings → List ℕ → Bool → SourceAt → SourceAt → Ahead → Ahead → Type 0
ReadWants means text tells s1 s2 old new = (s2 ≡ s1) ⊎ ((d : Deployed) × IsRead text (Ok d)
    × RanOutSince image_lines trace_lines (explain_may means d) tells s1 s2 old new)
