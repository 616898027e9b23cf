-- The lines that an honest run says, read back from their texts, are these lines; and each is told with its own items.
use Rattle.std.proofs.Common.{◌≡◌, ◌∙◌, ℕ, zero, suc, ◌+◌, ◌≤◌, Bool, List, [], ◌∷◌, ◌++◌, length, map, take, refl, sym, ap, subst, arith, Result, Ok, Err, le-ltb}
use Rattle.std.specs.Prelude.{All, IsTrue, if◌then◌else◌}
use Rattle.sx_asm.specs.Assembled.{assembled}
use Rattle.sx_trace.specs.declared.items.Item.{Item}
use Rattle.sx_trace.specs.Names.{NameLists}
use Rattle.sx_trace.specs.ValidNames.{are_valid}
use Rattle.sx_sched.specs.Lines.{Line, Blank, Run, Finish, Put, Set, Take, Give, Forge, Sense, Irq, Reset, Ask, Answer, Load, Call}
use Rattle.sx_sched.specs.InForm.{IsLine, IsWritten}
use Rattle.sx_sched.specs.Reading.{said_line}
use Rattle.sx_sched.specs.Written.{line_text}
use Rattle.sx_sched.proofs.SaidTexts.{text_is_said}
use Rattle.spec_run.specs.Setting.{Setting}
use Rattle.spec_run.specs.State.{World, switched_on}
use Rattle.sx_world.specs.Whole.{next}
use Rattle.sx_deploy.specs.Deployment.{Deployed}
use Rattle.spec_honest.specs.Course.{IsSampling}
use Rattle.law_delivery.specs.Schedule.{honest_schedule}
use Rattle.sx_drive.specs.Honest.{MOST_LINES, Reading, Said, SaidItem, SaidLine, honest_run}
use Rattle.law_honest.specs.Laws.{IsDriveable}
use Rattle.law_honest.specs.Samplings.{samplings_of, told}
use Rattle.law_honest.proofs.Driven.{schedule_is_said}
use Rattle.command_world.specs.Schedule.{Schedule, AtEnd, judged_line, on_line, or_rule, schedule}
use Rattle.command_drive.specs.Promise.{AreRead, lines_in, written}
use Rattle.command_drive.specs.Parts.{AreNamed, IsNamed}
use Rattle.command_drive.proofs.Named.{named_run}
use Rattle.command_drive.proofs.Numbers.{AreNumbered, HasNumbers, numbered_first, numbered_more, schedule_numbered}
use Rattle.command_drive.proofs.Quiet.{AreReadings}
use Rattle.command_drive.proofs.Ways.{AreThere}

-- ---- each line is told with its items

items_then : (items : List Item) (said : List Said) → lines_in (map SaidItem items ++ said) ≡ lines_in said
items_then [] said = refl
items_then (i ∷ items) said = items_then items said

lines_told : (set : Setting) (ls : List Line) (w : World) → lines_in (told set w ls) ≡ ls
lines_told set [] w = refl
lines_told set (l ∷ ls) w =
    let a = next set w l in
    ap (λ (xs : List Line). l ∷ xs) (items_then a.items (told set a.world ls) ∙ lines_told set ls a.world)

-- what an honest run says, by the schedule of its readings
pub record IsSaid (set : Setting) (readings : List Reading) : Type 0 where
  pub lines : lines_in (honest_run set readings).said ≡ take MOST_LINES (honest_schedule set.app (samplings_of readings))
  pub told : (honest_run set readings).said ≡ told set (switched_on set) (lines_in (honest_run set readings).said)

pub is_said : (set : Setting) (readings : List Reading) → IsDriveable set readings → IsSaid set readings
is_said set readings d =
    let ls : List Line = take MOST_LINES (honest_schedule set.app (samplings_of readings)) in
    let w : World = switched_on set in
    let says = schedule_is_said set readings d in
    let same : lines_in (honest_run set readings).said ≡ ls = ap lines_in says.said ∙ lines_told set ls w in
    record { lines = same; told = says.said ∙ ap (λ (xs : List Line). told set w xs) (sym same) }

-- ---- each line is one that is written, in form

-- lines are so
abbrev LinesNamed : NameLists → List Line → Type 0
LinesNamed names [] = Unit {0}
LinesNamed names (l ∷ ls) = IsNamed names l × LinesNamed names ls

lines_named : (names : NameLists) (said : List Said) → AreNamed names said → LinesNamed names (lines_in said)
lines_named names [] a = tt
lines_named names (SaidLine l ∷ said) a = (a.0, lines_named names said a.1)
lines_named names (SaidItem i ∷ said) a = lines_named names said a.1

record IsWhole (names : NameLists) (l : Line) : Type 0 where
  kind : IsWritten l
  form : IsLine names l

is_whole : (names : NameLists) (b : ℕ) (l : Line) → b ≤ 65536 → IsNamed names l → HasNumbers b l → IsWhole names l
is_whole names b (Take node at len) le is n = record { kind = tt; form = (is.0, omega (arith, n), is.1, is.2) }
is_whole names b (Give packet node at) le is n = let few = n.0 in let low = n.1 in record { kind = tt; form = (omega (arith, few, le), is, omega (arith, low)) }
is_whole names b (Sense device value) le is n = record { kind = tt; form = is }
is_whole names b (Ask m) le is n = record { kind = tt; form = is }
is_whole names b (Answer m boot packet) le is n = let first = n.0 in let few = n.1 in record { kind = tt; form = (is, omega (arith, first, le), omega (arith, few, le)) }
is_whole names b (Load m) le is n = record { kind = tt; form = is }
is_whole names b (Call m entry input output) le is n =
    let e = n.0 in let i = n.1 in let o = n.2 in record { kind = tt; form = (is, omega (arith, e), omega (arith, i), omega (arith, o)) }
is_whole names b Blank le is n = absurd is
is_whole names b (Run node steps) le is n = absurd is
is_whole names b (Finish node) le is n = absurd is
is_whole names b (Put node at bytes) le is n = absurd is
is_whole names b (Set node r v) le is n = absurd is
is_whole names b (Forge bytes) le is n = absurd is
is_whole names b (Irq node l) le is n = absurd is
is_whole names b (Reset node) le is n = absurd is

-- ---- so its text is read as the line

judged : (names : NameLists) (number : ℕ) (l : Line) → IsTrue (are_valid names) → number ≤ 65536 → IsWhole names l → judged_line assembled names number (line_text names l) ≡ Ok l
unfolding judged_line
judged names number l valid few is =
    let r = said_line assembled names (line_text names l) in
    ap (λ (b : Bool). if b then Err 2 else or_rule r) (le-ltb 65536 number few) ∙ ap or_rule (text_is_said names l valid is.kind is.form)

replayed : (names : NameLists) (ls : List Line) (b : ℕ) → IsTrue (are_valid names) → LinesNamed names ls → AreNumbered b ls → b + length ls ≤ 65536
    → schedule assembled names (b + 1) (written names ls) ≡ record { lines = ls; stop = AtEnd }
replayed names [] b valid named numbers few = refl
replayed names (l ∷ ls) b valid named numbers few =
    let is = is_whole names b l (omega (arith, few)) named.0 numbers.0 in
    let one = judged names (b + 1) l valid (omega (arith, few)) is in
    let rest = replayed names ls (b + 1) valid named.1 (numbered_more ls (suc b) (b + 1) (omega arith) numbers.1) (omega (arith, few)) in
    ap (λ (r : Result Line ℕ). on_line (b + 1) r (schedule assembled names (b + 1 + 1) (written names ls))) one
    ∙ ap (λ (x : Schedule). record { lines = l ∷ x.lines; stop = x.stop }) rest

first_few : (k : ℕ) (ls : List Line) → length (take k ls) ≤ k
first_few zero [] = omega arith
first_few zero (l ∷ ls) = omega arith
first_few (suc k) [] = omega arith
first_few (suc k) (l ∷ ls) = let rest = first_few k ls in omega (arith, rest)

most_is : MOST_LINES ≡ 65536
unfolding MOST_LINES
most_is = refl

-- the lines of a run are read as they were said
pub are_read : (d : Deployed) (set : Setting) (readings : List Reading) → set.app ≡ d.app → IsTrue (are_valid d.names) → IsDriveable set readings → AreThere d.names set → AreReadings d readings
    → All (IsSampling set.app) (samplings_of readings) → AreRead d.names (lines_in (honest_run set readings).said)
are_read d set readings same valid driveable there are samplings =
    let all : List Line = honest_schedule set.app (samplings_of readings) in
    let ls = lines_in (honest_run set readings).said in
    let is : ls ≡ take MOST_LINES all = (is_said set readings driveable).lines in
    let most = most_is in
    let few : length (take MOST_LINES all) ≤ MOST_LINES = first_few MOST_LINES all in
    let long : length ls ≡ length (take MOST_LINES all) = ap (λ (xs : List Line). length xs) is in
    let within : length ls ≤ 65536 = omega (arith, most, few, long) in
    let numbers : AreNumbered 0 (take MOST_LINES all) = numbered_first MOST_LINES all 0 (schedule_numbered set driveable.room.valid (samplings_of readings) samplings) in
    record {
      few = within;
      replays = replayed d.names ls 0 valid (lines_named d.names (honest_run set readings).said (named_run d set readings there are))
          (subst (λ (xs : List Line). AreNumbered 0 xs) (sym is) numbers) (omega (arith, within));
    }
