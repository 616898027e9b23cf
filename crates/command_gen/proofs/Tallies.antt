-- The state of the workload's run between two of its lines.
use Rattle.std.proofs.Common.{◌≡◌, ◌∙◌, ℕ, suc, ◌+◌, ◌-◌, ◌*◌, ◌<◌, ◌≤◌, Bool, List, [], ◌∷◌, ◌++◌, length, take, refl, sym, ap, subst, arith, append_assoc, length-append, Result, Ok, Err}
use Rattle.std.specs.Prelude.{cond, IfErr}
use Rattle.std.specs.List.{count_by}
use Rattle.std.proofs.Math.Seq.{take-append_seam}
use Rattle.std.proofs.lemmas.List.{append-nil}
use Rattle.std.proofs.lemmas.List.Sums.{sum_by-append}
use Rattle.sx_asm.specs.Assembled.{assembled}
use Rattle.sx_io.specs.Reading.{Answer, End}
use Rattle.sx_io.specs.Reading as answer
use Rattle.command_promise.specs.declared.status.Status.TheVariants.{Done}
use Rattle.command_promise.specs.Told.{Output}
use Rattle.sx_trace.specs.declared.items.Item.{Item}
use Rattle.sx_trace.specs.Names.{NameLists}
use Rattle.sx_sched.specs.Lines.{Line}
use Rattle.sx_world.specs.Continued.{Acts}
use Rattle.sx_world.specs.Held.{Held}
use Rattle.spec_run.specs.Setting.{Setting}
use Rattle.sx_world.specs.Standing.{Stands}
use Rattle.spec_run.specs.State.{World, switched_on}
use Rattle.spec_run.specs.Run.{run}
use Rattle.sx_bulk.specs.Bulk as bulk
use Rattle.command_gen.specs.declared.counts.Counts.{Counts}
use Rattle.command_gen.specs.Counts.{is_output, is_lit, counts, summary}
use Rattle.command_gen.specs.Counting.{plus, ActsIn, ActsFrom, EndsAs, LineStopsAt}
use Rattle.command_world.specs.Turning.{after_next}
use Rattle.command_world.specs.Broken.{broken_output}
use Rattle.command_world.specs.Schedule.{Schedule, AtEnd, judged_line, on_line, schedule}
use Rattle.command_gen.specs.Promise.{answers_from, gen_run, told_at, workload}
use Rattle.command_gen.specs.declared.counting.Stopped.{Stopped}
use Rattle.command_gen.specs.declared.counting.Stopped.TheVariants.{Broken, OutOfMemory}

-- ---- counts of more items

count_more : (p : Item → Bool) (xs ys : List Item) → count_by p (xs ++ ys) ≡ count_by p xs + count_by p ys
count_more p xs ys = sum_by-append (λ (x : Item). cond (p x) 1 0) xs ys

abbrev of : ℕ → ℕ → ℕ → Counts
of a b c = record { items = a; outputs = b; lit = c }

same_counts : (a b c a' b' c' : ℕ) → a ≡ a' → b ≡ b' → c ≡ c' → of a b c ≡ of a' b' c'
same_counts a b c a' b' c' e f g = ap (λ (x : ℕ). of x b c) e ∙ ap (λ (x : ℕ). of a' x c) f ∙ ap (λ (x : ℕ). of a' b' x) g

counts_append : (xs ys : List Item) → counts (xs ++ ys) ≡ plus (counts xs) (counts ys)
counts_append xs ys = same_counts _ _ _ _ _ _ (length-append xs ys) (count_more is_output xs ys) (count_more is_lit xs ys)

-- ---- what is left to tell

-- what is told of a schedule that is run in a world where these items came before
abbrev left_by : ℕ → Setting → List Item → World → Schedule → Output
left_by n set before w x = told_at n (record { world = (run set w x.lines).world; items = before ++ (run set w x.lines).items }) x.stop

-- from the line with this number on
abbrev pub left_of : ℕ → NameLists → Setting → List Item → World → ℕ → List Answer → Output
left_of n names set before w number answers = left_by n set before w (schedule assembled names number answers)

left_line : (n : ℕ) (names : NameLists) (set : Setting) (before : List Item) (w : World) (number : ℕ) (text : List ℕ) (line : Line) (more : List Answer)
    → judged_line assembled names number text ≡ Ok line
    → left_of n names set before w number (answer.Line text ∷ more) ≡ left_of n names set (before ++ (after_next set w line).items) (after_next set w line).world (number + 1) more
left_line n names set before w number text line more e =
    let rest = schedule assembled names (number + 1) more in
    let a = after_next set w line in
    let b = run set a.world rest.lines in
    ap (λ (r : Result Line ℕ). left_by n set before w (on_line number r rest)) e
    ∙ ap (λ (items : List Item). told_at n (record { world = b.world; items = items }) rest.stop) (sym (append_assoc before a.items b.items))

left_breaks : (n : ℕ) (names : NameLists) (set : Setting) (before : List Item) (w : World) (number rule : ℕ) (text : List ℕ) (more : List Answer) → judged_line assembled names number text ≡ Err rule
    → left_of n names set before w number (answer.Line text ∷ more) ≡ broken_output rule number
left_breaks n names set before w number rule text more e =
    ap (λ (r : Result Line ℕ). left_by n set before w (on_line number r (schedule assembled names (number + 1) more))) e

left_ended : (n : ℕ) (names : NameLists) (set : Setting) (before : List Item) (w : World) (number : ℕ)
    → left_of n names set before w number (End ∷ []) ≡ record { text = summary (bulk.lines n) (counts before) w.steps; status = Done }
left_ended n names set before w number = ap (λ (items : List Item). told_at n (record { world = w; items = items }) AtEnd) (append-nil before)

left_begun : (n : ℕ) (names : NameLists) (set : Setting) → left_of n names set [] (switched_on set) 1 (answers_from (bulk.lines n) 0) ≡ gen_run n names set
unfolding gen_run workload
left_begun n names set = refl

-- ---- a line

pub acts_from : (names : NameLists) (set : Setting) (held left : Held) (number : ℕ) (text : List ℕ) (items : List Item) (line : Line) → judged_line assembled names number text ≡ Ok line
    → Acts set line held left [] items → ActsFrom names set held left number text items
acts_from names set held left number text items line e h = λ w st. record { line = line; keeps = e; stands = (h w st).0; made = (h w st).1 }

pub no_memory : {X : Type 0} (names : NameLists) (number : ℕ) (text : List ℕ) (r : Result X Stopped) → IfErr r (λ e. e ≡ OutOfMemory) → IfErr r (λ e. LineStopsAt names number text e)
no_memory names number text (Ok x) h = h
no_memory names number text (Err e) h = let P : Stopped → Type 0 = LineStopsAt names number text in subst P (sym h) tt

-- the start of a buffer is what was written there
pub front_is : (n : ℕ) (into line rest : List ℕ) → into ≡ line ++ rest → n ≡ length line → take n into ≡ line
front_is n into line rest e h = ap (λ (xs : List ℕ). take n xs) e ∙ ap (λ (k : ℕ). take k (line ++ rest)) h ∙ take-append_seam line rest

-- ---- between two lines

-- i lines were acted: the program's world is that of the run, so much was counted of the items before, and what is left is what is defined
pub record Tallied (n : ℕ) (names : NameLists) (set : Setting) (held : Held) (i : ℕ) (c : Counts) : Type 0 where
  pub world : World
  pub before : List Item
  pub stands : Stands set held world
  pub few : length before ≤ i * 18446744073709551615
  pub counted : c ≡ counts before
  pub left : left_of n names set before world (i + 1) (answers_from (bulk.lines n - i) i) ≡ gen_run n names set

pub tally_begins : (n : ℕ) (names : NameLists) (set : Setting) (held : Held) → Stands set held (switched_on set) → Tallied n names set held 0 (counts [])
tally_begins n names set held st =
    let e : bulk.lines n - 0 ≡ bulk.lines n = omega arith in record {
      world = switched_on set;
      before = [];
      stands = st;
      few = omega arith;
      counted = refl;
      left = ap (λ (k : ℕ). left_of n names set [] (switched_on set) 1 (answers_from k 0)) e ∙ left_begun n names set;
    }

-- the line that is next, and the answers after it
next_is : (n : ℕ) (names : NameLists) (set : Setting) (before : List Item) (w : World) (i : ℕ) → i < bulk.lines n
    → left_of n names set before w (i + 1) (answers_from (bulk.lines n - i) i)
    ≡ left_of n names set before w (i + 1) (answer.Line (bulk.line i) ∷ answers_from (bulk.lines n - (i + 1)) (i + 1))
next_is n names set before w i h =
    let e : bulk.lines n - i ≡ suc (bulk.lines n - (i + 1)) = omega arith in
    ap (λ (k : ℕ). left_of n names set before w (i + 1) (answers_from k i)) e

pub tally_goes_on : (n : ℕ) (names : NameLists) (set : Setting) (held left : Held) (i : ℕ) (c : Counts) (items : List Item) (s : Tallied n names set held i c) → i < bulk.lines n
    → ActsIn names set left (i + 1) (bulk.line i) items s.world → length items ≤ 18446744073709551615 → Tallied n names set left (i + 1) (plus c (counts items))
tally_goes_on n names set held left i c items s h a few =
    let more = answers_from (bulk.lines n - (i + 1)) (i + 1) in
    let v = (after_next set s.world a.line).world in record {
      world = v;
      before = s.before ++ items;
      stands = a.stands;
      few = omega (arith, s.few, few, length-append s.before items);
      counted = ap (λ (x : Counts). plus x (counts items)) s.counted ∙ sym (counts_append s.before items);
      left = ap (λ (its : List Item). left_of n names set (s.before ++ its) v ((i + 1) + 1) more) a.made
          ∙ sym (left_line n names set s.before s.world (i + 1) (bulk.line i) a.line more a.keeps) ∙ sym (next_is n names set s.before s.world i h) ∙ s.left;
    }

pub tally_breaks : (n : ℕ) (names : NameLists) (set : Setting) (held : Held) (i : ℕ) (c : Counts) (rule : ℕ) → Tallied n names set held i c → i < bulk.lines n
    → judged_line assembled names (i + 1) (bulk.line i) ≡ Err rule → gen_run n names set ≡ broken_output rule (i + 1)
tally_breaks n names set held i c rule s h e =
    sym s.left ∙ next_is n names set s.before s.world i h ∙ left_breaks n names set s.before s.world (i + 1) rule (bulk.line i) (answers_from (bulk.lines n - (i + 1)) (i + 1)) e

pub tally_ends : (n : ℕ) (names : NameLists) (set : Setting) (held : Held) (i : ℕ) (c : Counts) → Tallied n names set held i c → i ≡ bulk.lines n
    → gen_run n names set ≡ record { text = summary (bulk.lines n) c held.running.steps; status = Done }
tally_ends n names set held i c s h =
    let e : bulk.lines n - i ≡ 0 = omega arith in
    sym s.left ∙ ap (λ (k : ℕ). left_of n names set s.before s.world (i + 1) (answers_from k i)) e ∙ left_ended n names set s.before s.world (i + 1)
    ∙ ap (λ (x : Counts). record { text = summary (bulk.lines n) x s.world.steps; status = Done }) (sym s.counted)
    ∙ ap (λ (k : ℕ). record { text = summary (bulk.lines n) c k; status = Done }) (sym s.stands.shows.steps)

pub tally_stops : (n : ℕ) (names : NameLists) (set : Setting) (held : Held) (i : ℕ) (c : Counts) (steps : ℕ) (e : Stopped) → Tallied n names set held i c → i < bulk.lines n
    → LineStopsAt names (i + 1) (bulk.line i) e → EndsAs n names set steps (Err e)
tally_stops n names set held i c steps (Broken rule at) s h stops = tally_breaks n names set held i c rule s h stops.0 ∙ ap (λ (k : ℕ). broken_output rule k) (sym stops.1)
tally_stops n names set held i c steps OutOfMemory s h stops = tt
