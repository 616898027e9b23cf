-- A line that the program's world performed, and what was said of it.
use Rattle.std.proofs.Common.{◌≡◌, ◌≢◌, ℕ, ◌+◌, ◌<◌, ◌≤◌, ◌==◌, ◌||◌, Bool, true, false, if◌then◌else◌, ◌++◌, List, [], ◌∷◌, length, map, Result, Ok, Err, OnOk, inl, inr}
use Rattle.std.proofs.Common.{OnErr, refl, sym, subst, ap, ◌∙◌, arith}
use Rattle.std.proofs.lemmas.Grind.{flat_map-append}
use Rattle.std.proofs.lemmas.List.{append-nil, map-append}
use Rattle.std.proofs.lemmas.Bool.{or_parts, eq-eqb}
use Rattle.sx_tag.specs.Mac.{Mac}
use Rattle.sx_trace.specs.declared.items.Item.{Item}
use Rattle.sx_sched.specs.Lines.{Line}
use Rattle.sx_deploy.specs.declared.deployment.Deployment.{Deployment}
use Rattle.spec_run.specs.Setting.{Setting, Site}
use Rattle.spec_run.specs.State.{World, switched_on}
use Rattle.spec_run.specs.Run.{run}
use Rattle.spec_run.proofs.acts.Counting.{run_counts}
use Rattle.sx_world.specs.Held.{Held}
use Rattle.sx_observe.specs.Observing.{IsFront}
use Rattle.sx_world.specs.Standing.{Stands, IsGoing}
use Rattle.sx_world.specs.Continued.{Acts, ActsInPart}
use Rattle.sx_world.specs.Whole.{next}
use Rattle.sx_observe.specs.InMemory.{setting_at}
use Rattle.sx_world.specs.InMemory.{world_setting}
use Rattle.spec_run.specs.Law.{IsSoundSetting}
use Rattle.sx_drive.specs.declared.said.Said.{Said as Told}
use Rattle.sx_drive.specs.Honest.{SaidLine, SaidItem, Honest, Driven, MOST_LINES, Said, left_out, performed, says}
use Rattle.sx_drive.specs.Driving.{Kept, Follows, GoesOn, LosesNothing, SaysLast, Did, Wanted, Does, all_said, said_of, is_full, left}
use Rattle.sx_drive.proofs.Remains.{Part, still_goes}
use Rattle.sx_drive.proofs.Parts.{does_same}

-- a schedule has room for so many lines
pub most : MOST_LINES ≡ 65536
unfolding MOST_LINES
most = refl

-- so do the program's world and the world that it is at
pub stands_lines : (set : Setting) (held : Held) (w : World) → Stands set held w → w.lines ≡ held.performed
stands_lines set held w s =
    let counted : (run set (switched_on set) s.lines).world.lines ≡ 0 + length s.lines = run_counts set s.lines (switched_on set) in
    let same : w.lines ≡ (run set (switched_on set) s.lines).world.lines = ap (λ (v : World). v.lines) s.is in
    let many : length s.lines ≡ held.performed = s.count in
    omega (arith, counted, same, many)

-- the line as a part
abbrev pub line_part : Line → Part
line_part line set h = performed line h (next set h.world line)

-- what a world's act asks of where the run is
pub goes_sound : (mac : Mac) (d : Deployment) (k : Kept) → GoesOn mac d k → IsSoundSetting (world_setting mac d k.world)
goes_sound mac d k goes = subst (λ (s : Setting). IsSoundSetting s) goes.follows.setting goes.sound

pub goes_going : (mac : Mac) (d : Deployment) (k : Kept) → GoesOn mac d k → IsGoing (world_setting mac d k.world) k.world
goes_going mac d k goes = λ e. (goes.honest.world, subst (λ (s : Setting). Stands s k.world goes.honest.world) goes.follows.setting goes.follows.world)

-- what was shown is a prefix of what is due
part_front : (set : Setting) (line : Line) (old : Held) (shown : List Item) → ActsInPart set line old [] shown
    → (w : World) → Stands set old w → IsFront shown (next set w line).items
part_front set line old shown front w s =
    let a = front w s in
    (a.2.0, ap (λ xs. xs ++ a.2.0) a.1 ∙ a.2.1)

act_front : {X E : Type 0} (r : Result X E) (set : Setting) (line : Line) (old new : Held) (shown : List Item)
    → OnOk r (Acts set line old new [] shown) → OnErr r (ActsInPart set line old [] shown)
    → (w : World) → Stands set old w → IsFront shown (next set w line).items
act_front (Ok x) set line old new shown acted front w s = ([], append-nil shown ∙ (acted w s).1)
act_front (Err e) set line old new shown acted front w s = part_front set line old shown front w s

-- the same in a setting that the run follows
part_there : (mac : Mac) (d : Deployment) (line : Line) (old : Kept) (shown : List Item) → ActsInPart (world_setting mac d old.world) line old.world [] shown
    → (set : Setting) (h : Honest) → Follows mac d old set h → IsFront shown (next set h.world line).items
part_there mac d line old shown front set h f =
    subst (λ (s : Setting). IsFront shown (next s h.world line).items) (sym f.setting)
    (part_front (world_setting mac d old.world) line old.world shown front h.world (subst (λ (s : Setting). Stands s old.world h.world) f.setting f.world))

front_there : {X E : Type 0} (mac : Mac) (d : Deployment) (r : Result X E) (line : Line) (old : Kept) (new : Held) (shown : List Item)
    → OnOk r (Acts (world_setting mac d old.world) line old.world new [] shown) → OnErr r (ActsInPart (world_setting mac d old.world) line old.world [] shown)
    → (set : Setting) (h : Honest) → Follows mac d old set h → IsFront shown (next set h.world line).items
front_there mac d r line old new shown acted front set h f =
    subst (λ (s : Setting). IsFront shown (next s h.world line).items) (sym f.setting)
    (act_front r (world_setting mac d old.world) line old.world new shown acted front h.world (subst (λ (s : Setting). Stands s old.world h.world) f.setting f.world))

-- the line is the last one that was said, with all that it gave
pub says_last : (left : Held) (before after : List Told) (line : Line) (shown : List Item)
    → all_said after ≡ all_said before ++ SaidLine line ∷ map SaidItem shown → left.made ≡ length shown → SaysLast left (all_said after)
says_last left before after line shown told made =
    record { earlier = all_said before; line = line; items = shown; parts = told; whole = sym made }

-- memory ran out before the line was performed
pub line_wanted : (mac : Mac) (d : Deployment) (line : Line) (old : Kept) (before after : List Told) → after ≡ before → Wanted mac d old old before after (line_part line)
line_wanted mac d line old before after same = λ set h f. (
  record { front = []; rest = (line_part line set h).said; added = ap (λ xs. all_said xs) same ∙ sym (append-nil (all_said before)); prefix = refl },
  inl (refl, ap (λ xs. all_said xs) same),
)

-- memory ran out when all that it gave was said
pub copy_wanted : {X E : Type 0} (mac : Mac) (d : Deployment) (r : Result X E) (line : Line) (old mid new : Kept) (before after : List Told)
    → OnOk r (Acts (world_setting mac d old.world) line old.world mid.world [] mid.shown) → OnErr r (ActsInPart (world_setting mac d old.world) line old.world [] mid.shown)
    → (old.world.ran_out ≡ false → mid.world.made ≡ length mid.shown) → new.world ≡ mid.world
    → all_said after ≡ all_said before ++ SaidLine line ∷ map SaidItem mid.shown → Wanted mac d old new before after (line_part line)
copy_wanted mac d r line old mid new before after acted front made same told = λ set h f.
    let shown = mid.shown in
    let i = front_there mac d r line old mid.world shown acted front set h f in (
      record {
        front = SaidLine line ∷ map SaidItem shown;
        rest = map SaidItem i.0;
        added = told;
        prefix = ap (λ xs. SaidLine line ∷ xs) (sym (map-append SaidItem shown i.0) ∙ ap (λ xs. map SaidItem xs) i.1);
      },
      inr (subst (λ (w : Held). SaysLast w (all_said after)) (sym same) (says_last mid.world before after line shown told (made f.memory))),
    )

-- all of it was said; the act went well, or memory ran out in it
pub line_does : {X E : Type 0} (mac : Mac) (d : Deployment) (r : Result X E) (line : Line) (old new : Kept) (before after : List Told)
    → OnOk r (Acts (world_setting mac d old.world) line old.world new.world [] new.shown)
    → OnErr r (ActsInPart (world_setting mac d old.world) line old.world [] new.shown)
    → OnOk r (new.world.performed ≡ old.world.performed + 1) → old.world.performed < 65536
    → new.world.sites ≡ old.world.sites → new.waiting ≡ old.waiting → new.long ≡ false
    → OnOk r (new.world.ran_out ≡ false) → (old.world.ran_out ≡ false → new.world.made ≡ length new.shown)
    → all_said after ≡ all_said before ++ SaidLine line ∷ map SaidItem new.shown
    → Does mac d r old new before after (line_part line)
line_does mac d (Ok x) line old new before after acted front counts few sites waiting long memory made told = λ set h f.
    let due = next set h.world line in
    let a : Stands set new.world due.world × (new.shown ≡ due.items) =
    subst (λ (s : Setting). Stands s new.world (next s h.world line).world × (new.shown ≡ (next s h.world line).items)) (sym f.setting)
    (acted h.world (subst (λ (s : Setting). Stands s old.world h.world) f.setting f.world)) in
    let count : due.world.lines ≡ new.world.performed = stands_lines set new.world due.world a.0 in
    let room : due.world.lines ≤ MOST_LINES = omega (arith, count, counts, few, most) in (
      record {
        setting = f.setting ∙ ap (λ (s : List Site). setting_at mac d s) (sym sites);
        world = a.0;
        waiting = waiting ∙ f.waiting;
        shown = a.1;
        long = long;
        room = room;
        memory = memory;
      },
      told ∙ ap (λ items. all_said before ++ SaidLine line ∷ map SaidItem items) a.1,
      inr (says_last new.world before after line new.shown told (made f.memory)),
    )
line_does mac d (Err e) line old new before after acted front counts few sites waiting long memory made told = λ set h f.
    let i = part_there mac d line old new.shown front set h f in
    let shown = new.shown in (
      record {
        front = SaidLine line ∷ map SaidItem shown;
        rest = map SaidItem i.0;
        added = told;
        prefix = ap (λ xs. SaidLine line ∷ xs) (sym (map-append SaidItem shown i.0) ∙ ap (λ xs. map SaidItem xs) i.1);
      },
      inr (says_last new.world before after line shown told (made f.memory)),
    )

-- one more was said
pub pushed : (x : Told) (before after : List Told) → after ≡ before ++ x ∷ [] → all_said after ≡ all_said before ++ said_of x
pushed x before after e =
    ap all_said e ∙ flat_map-append said_of before (x ∷ []) ∙ ap (λ (xs : List Said). all_said before ++ xs) (append-nil (said_of x))

pub said_then : (before among after : List Told) (line : Line) (shown : List Item) → among ≡ before
    → all_said after ≡ all_said among ++ SaidLine line ∷ map SaidItem shown → all_said after ≡ all_said before ++ SaidLine line ∷ map SaidItem shown
said_then before among after line shown same told = told ∙ ap (λ (xs : List Told). all_said xs ++ SaidLine line ∷ map SaidItem shown) same

-- the same where it was kept again
pub kept_does : {X E : Type 0} (mac : Mac) (d : Deployment) (r : Result X E) (line : Line) (old mid new : Kept) (before after : List Told) → new ≡ mid
    → Does mac d r old mid before after (line_part line) → Does mac d r old new before after (line_part line)
kept_does mac d r line old mid new before after same does = subst (λ (k : Kept). Does mac d r old k before after (line_part line)) (sym same) does

-- whether a schedule has room

other_lines : (n : ℕ) → (n == 65536) ≡ false → n ≢ 65536
other_lines n e = λ same. absurd (let t : (n == 65536) ≡ true = eq-eqb n 65536 same in let f : true ≡ false = sym t ∙ e in cc)

pub is_short : (k : Kept) → is_full k ≡ false → k.long ≡ false
is_short k e = (or_parts k.long (k.world.performed == 65536) e).0

pub has_room : (mac : Mac) (d : Deployment) (k : Kept) → GoesOn mac d k → is_full k ≡ false → k.world.performed < 65536
has_room mac d k goes e =
    let f = goes.follows in
    let other = other_lines k.world.performed (or_parts k.long (k.world.performed == 65536) e).1 in
    let count : goes.honest.world.lines ≡ k.world.performed = stands_lines goes.set k.world goes.honest.world f.world in
    let room : goes.honest.world.lines ≤ MOST_LINES = f.room in
    omega (arith, count, room, other, most)

-- the run itself says the same
full_there : (mac : Mac) (d : Deployment) (k : Kept) (set : Setting) (h : Honest) → Follows mac d k set h → is_full k ≡ (h.long || (h.world.lines == MOST_LINES))
full_there mac d k set h f =
    ap (λ (b : Bool). b || (k.world.performed == 65536)) f.long
    ∙ ap (λ (n : ℕ). h.long || (n == 65536)) (sym (stands_lines set k.world h.world f.world))
    ∙ ap (λ (n : ℕ). h.long || (h.world.lines == n)) (sym most)

-- a line that has no room is left out
pub full_did : (mac : Mac) (d : Deployment) (line : Line) (old new : Kept) (before : List Told) → is_full old ≡ true → new ≡ left old
    → Did mac d old new before before (λ set. says set line)
full_did mac d line old new before full is = λ set h f.
    let e : (h.long || (h.world.lines == MOST_LINES)) ≡ true = sym (full_there mac d old set h f) ∙ full in
    let here : left_out h ≡ says set line h = ap (λ (b : Bool). if b then left_out h else line_part line set h) (sym e) in
    subst (λ (a : Driven). Follows mac d new set a.honest × (all_said before ≡ all_said before ++ a.said) × LosesNothing old.world new.world (all_said before) (all_said before)) here (
      subst (λ (k : Kept). Follows mac d k set (left_out h).honest) (sym is)
          (record { setting = f.setting; world = f.world; waiting = f.waiting; shown = refl; long = refl; room = f.room; memory = f.memory }),
      sym (append-nil (all_said before)),
      inl (ap (λ (k : Kept). k.world) is, refl),
    )

-- another is performed
pub room_does : {X E : Type 0} (mac : Mac) (d : Deployment) (r : Result X E) (line : Line) (old new : Kept) (before after : List Told)
    → is_full old ≡ false → Does mac d r old new before after (line_part line) → Does mac d r old new before after (λ set. says set line)
room_does mac d r line old new before after room does =
    does_same mac d r old new before after (line_part line) (λ set. says set line)
    (λ set h f. ap (λ (b : Bool). if b then left_out h else line_part line set h) (sym (sym (full_there mac d old set h f) ∙ room))) does

-- what was done leads on
pub does_goes : {X E : Type 0} (mac : Mac) (d : Deployment) (r : Result X E) (old new : Kept) (before after : List Told) (act : Part)
    → GoesOn mac d old → Does mac d r old new before after act → OnOk r (GoesOn mac d new)
does_goes mac d (Ok x) old new before after act goes did = still_goes mac d old new before after act goes did
does_goes mac d (Err e) old new before after act goes wanted = tt
