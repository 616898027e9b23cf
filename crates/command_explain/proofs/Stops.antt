-- How a trace stops: the stop that doesn't come.
use Rattle.std.proofs.Common.{◌≡◌, ℕ, ◌+◌, List, [], ◌∷◌, Option, Result, Ok, Err}
use Rattle.sx_io.specs.Reading.{Answer, Line, End, Long, Fault}
use Rattle.sx_trace.specs.declared.items.Item.{Item}
use Rattle.command_explain.specs.declared.images.ImageLine.{ImageLine}
use Rattle.command_explain.specs.declared.images.ImageLine.TheVariants as image
use Rattle.command_explain.specs.declared.lines.TraceLine.{TraceLine}
use Rattle.command_explain.specs.declared.lines.TraceLine.TheVariants as kind
use Rattle.command_explain.specs.declared.lines.TraceRule.{TraceRule}
use Rattle.command_explain.specs.declared.lines.TraceRule.TheVariants.{NoItem, NoEnd}
use Rattle.command_explain.specs.Trace.{Breaks, Missing, Start, Stop, Trace, Unread, Whole, image_line, judged_line, line_of, on_image, on_line, start, stop_behind, trace}

-- A stop that no broken rule gives, and what answers keep so that it doesn't come.
module _ (bad : Stop) (Kept : List Answer → Type 0) (breaks : (rule : TraceRule) (number : ℕ) → Breaks rule number ≡ bad → ⊥)
    (none : Kept [] → Whole ≡ bad → ⊥) (ended : (more : List Answer) → Kept (End ∷ more) → Whole ≡ bad → ⊥)
    (failed : (more : List Answer) → Kept (Fault ∷ more) → Unread ≡ bad → ⊥)
    (behind : (text : List ℕ) (more : List Answer) → Kept (Line text ∷ more) → Kept more) where
  last_kept : (item : List ℕ → Option Item) (number : ℕ) (answers : List Answer) → Kept answers → stop_behind item number answers ≡ bad → ⊥
  last_kept item number [] k e = none k e
  last_kept item number (End ∷ more) k e = ended more k e
  last_kept item number (Long ∷ more) k e = breaks NoItem number e
  last_kept item number (Fault ∷ more) k e = failed more k e
  last_kept item number (Line text ∷ more) k e = breaks _ number e

  line_kept : (number : ℕ) (r : Result TraceLine TraceRule) (last : Stop) (rest : Trace) → (last ≡ bad → ⊥) → (rest.stop ≡ bad → ⊥) → (on_line number r last rest).stop ≡ bad → ⊥
  line_kept number (Err rule) last rest a b e = breaks rule number e
  line_kept number (Ok kind.Last) last rest a b e = a e
  line_kept number (Ok (kind.Item i)) last rest a b e = b e

  pub trace_kept : (item : List ℕ → Option Item) (number : ℕ) (answers : List Answer) → Kept answers → (trace item number answers).stop ≡ bad → ⊥
  trace_kept item number [] k e = breaks NoEnd number e
  trace_kept item number (End ∷ more) k e = breaks NoEnd number e
  trace_kept item number (Long ∷ more) k e = breaks NoItem number e
  trace_kept item number (Fault ∷ more) k e = failed more k e
  trace_kept item number (Line text ∷ more) k e =
      line_kept number (judged_line number (line_of item text)) (stop_behind item (number + 1) more) (trace item (number + 1) more)
      (last_kept item (number + 1) more (behind text more k)) (trace_kept item (number + 1) more (behind text more k)) e

-- a start isn't missing where nothing is broken
never_whole : (number : ℕ) (l : ImageLine) (more : List Answer) (rest : Start) → (rest ≡ Missing Whole → ⊥) → on_image number l more rest ≡ Missing Whole → ⊥
never_whole number image.Trace more rest n e = cc e
never_whole number image.Image more rest n e = n e
never_whole number image.Other more rest n e = cc e

pub start_whole : (number : ℕ) (answers : List Answer) → start number answers ≡ Missing Whole → ⊥
start_whole number [] e = cc e
start_whole number (End ∷ more) e = cc e
start_whole number (Long ∷ more) e = cc e
start_whole number (Fault ∷ more) e = cc e
start_whole number (Line text ∷ more) e = never_whole number (image_line number text) more (start (number + 1) more) (start_whole (number + 1) more) e
