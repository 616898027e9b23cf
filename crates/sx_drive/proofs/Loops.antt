-- Parts of an honest run that loops do.
use Rattle.std.proofs.Common.{◌≡◌, ℕ, zero, suc, ◌+◌, ◌-◌, ◌<◌, ◌≤◌, ◌++◌, List, [], ◌∷◌, length, map, get_or, drop, refl, sym, subst, ap, ◌∙◌, arith}
use Rattle.std.proofs.lemmas.List.{at_drop_more, at_drop_all, length-map}
use Rattle.sx_tag.specs.Mac.{Mac}
use Rattle.sx_deploy.specs.declared.deployment.Deployment.{Deployment}
use Rattle.sx_mean.specs.View.{part_as}
use Rattle.spec_run.specs.Setting.{Setting}
use Rattle.sx_world.proofs.passing.Passed.{one_less}
use Rattle.sx_drive.specs.declared.said.Said.{Said as Told}
use Rattle.sx_drive.specs.Honest.{Honest, Driven, MOST_LINES, still, then_, each, made_by, takes_one, takes, collects, if_there, callee_at, sets_up}
use Rattle.sx_drive.specs.Honest.{sets_up_from, setup, with_waiting, delivers, oldest, settles}
use Rattle.sx_drive.specs.Driving.{Kept, Follows, GoesOn, LosesNothing, Did, Wanted, all_said, waits}
use Rattle.sx_drive.proofs.Remains.{Part, Remains, remains_start, remains_on, remains_wanted, remains_none}

-- the same is left, said otherwise
pub remains_as : (mac : Mac) (d : Deployment) (whole left other : Part) (old now : Kept) (before came : List Told)
    → Remains mac d whole left old now before came → ((set : Setting) (h : Honest) → Follows mac d now set h → left set h ≡ other set h)
    → Remains mac d whole other old now before came
remains_as mac d whole left other old now before came remains same = λ set h f.
    let a = remains set h f in
    let e = same set a.honest a.follows in record {
      honest = a.honest;
      said = a.said;
      follows = a.follows;
      added = a.added;
      ends = ap (λ (x : Driven). x.honest) (sym e) ∙ a.ends;
      says = ap (λ (x : Driven). a.said ++ x.said) (sym e) ∙ a.says;
      lossless = a.lossless;
    }

-- the same for each of a list

each_next : (act : ℕ → Honest → Driven) (xs : List ℕ) (i k : ℕ) (h : Honest) → i < length xs
    → each act (drop i xs) h ≡ then_ (act (get_or xs i k) h) (each act (drop (i + 1) xs))
each_next act xs i k h lt = at_drop_more (λ (ys : List ℕ). each act ys h) xs i k lt

each_none : (act : ℕ → Honest → Driven) (xs : List ℕ) (i : ℕ) (h : Honest) → length xs ≤ i → each act (drop i xs) h ≡ still h
each_none act xs i h le = at_drop_all (λ (ys : List ℕ). each act ys h) xs i le

-- from the i-th on
abbrev pub each_from : (Setting → ℕ → Honest → Driven) → ℕ → List ℕ → Part
each_from act i xs set = each (act set) (drop i xs)

-- all of them
abbrev pub each_all : (Setting → ℕ → Honest → Driven) → List ℕ → Part
each_all act xs set = each (act set) xs

pub each_on : (mac : Mac) (d : Deployment) (act : Setting → ℕ → Honest → Driven) (xs : List ℕ) (i k : ℕ) (old now new : Kept) (before came after : List Told)
    → i < length xs → Remains mac d (each_all act xs) (each_from act i xs) old now before came → Did mac d now new came after (λ set. act set (get_or xs i k))
    → Remains mac d (each_all act xs) (each_from act (i + 1) xs) old new before after
each_on mac d act xs i k old now new before came after lt remains did =
    remains_on mac d (each_all act xs) (each_from act i xs) (λ set. act set (get_or xs i k)) (each_from act (i + 1) xs) old now new before came after remains
    (λ set h f. each_next (act set) xs i k h lt) did

pub each_wanted : (mac : Mac) (d : Deployment) (act : Setting → ℕ → Honest → Driven) (xs : List ℕ) (i k : ℕ) (old now new : Kept) (before came after : List Told)
    → i < length xs → Remains mac d (each_all act xs) (each_from act i xs) old now before came → Wanted mac d now new came after (λ set. act set (get_or xs i k))
    → Wanted mac d old new before after (each_all act xs)
each_wanted mac d act xs i k old now new before came after lt remains wanted =
    remains_wanted mac d (each_all act xs) (each_from act i xs) (λ set. act set (get_or xs i k)) (each_from act (i + 1) xs) old now new before came after remains
    (λ set h f. each_next (act set) xs i k h lt) wanted

pub each_done : (mac : Mac) (d : Deployment) (act : Setting → ℕ → Honest → Driven) (xs : List ℕ) (i : ℕ) (old now : Kept) (before came : List Told)
    → length xs ≤ i → Remains mac d (each_all act xs) (each_from act i xs) old now before came → Did mac d old now before came (each_all act xs)
each_done mac d act xs i old now before came le remains =
    remains_none mac d (each_all act xs) (each_from act i xs) old now before came remains (λ set h f. each_none (act set) xs i h le)

-- the packets that a call made, of which so many are there

-- from the i-th on
abbrev pub takes_from : ℕ → ℕ → ℕ → Part
takes_from n count i set = takes set n i (count - i)

abbrev pub collects_at : ℕ → Part
collects_at n set = collects set n

pub takes_first : (mac : Mac) (d : Deployment) (n : ℕ) (old : Kept) (before : List Told)
    → Remains mac d (collects_at n) (takes_from n (made_by old.shown) 0) old old before before
takes_first mac d n old before =
    remains_as mac d (collects_at n) (collects_at n) (takes_from n (made_by old.shown) 0) old old before before (remains_start mac d (collects_at n) old before)
    (λ set h f. ap (λ k. takes set n 0 k h) (ap made_by (sym f.shown) ∙ whole (made_by old.shown)))
  where
    whole : (k : ℕ) → k ≡ k - 0
    whole k = omega arith

takes_next : (n count i : ℕ) (set : Setting) (h : Honest) → i < count → takes set n i (count - i) h ≡ then_ (takes_one set n i h) (takes set n (i + 1) (count - (i + 1)))
takes_next n count i set h lt = ap (λ k. takes set n i k h) (one_less count i lt)

pub takes_on : (mac : Mac) (d : Deployment) (n count i : ℕ) (old now new : Kept) (before came after : List Told)
    → i < count → Remains mac d (collects_at n) (takes_from n count i) old now before came → Did mac d now new came after (λ set. takes_one set n i)
    → Remains mac d (collects_at n) (takes_from n count (i + 1)) old new before after
takes_on mac d n count i old now new before came after lt remains did =
    remains_on mac d (collects_at n) (takes_from n count i) (λ set. takes_one set n i) (takes_from n count (i + 1)) old now new before came after remains
    (λ set h f. takes_next n count i set h lt) did

pub takes_wanted : (mac : Mac) (d : Deployment) (n count i : ℕ) (old now new : Kept) (before came after : List Told)
    → i < count → Remains mac d (collects_at n) (takes_from n count i) old now before came → Wanted mac d now new came after (λ set. takes_one set n i)
    → Wanted mac d old new before after (collects_at n)
takes_wanted mac d n count i old now new before came after lt remains wanted =
    remains_wanted mac d (collects_at n) (takes_from n count i) (λ set. takes_one set n i) (takes_from n count (i + 1)) old now new before came after remains
    (λ set h f. takes_next n count i set h lt) wanted

pub takes_done : (mac : Mac) (d : Deployment) (n count i : ℕ) (old now : Kept) (before came : List Told)
    → count ≤ i → Remains mac d (collects_at n) (takes_from n count i) old now before came → Did mac d old now before came (collects_at n)
takes_done mac d n count i old now before came le remains =
    remains_none mac d (collects_at n) (takes_from n count i) old now before came remains (λ set h f. ap (λ k. takes set n i k h) (let none : count - i ≡ 0 = omega (arith, le) in none))

-- the modules of a deployment, of which there are so many

-- the m-th is set up
abbrev pub set_up_part : ℕ → Part
set_up_part m set h = if_there (sets_up set) (callee_at set.app m) h

-- from the m-th on
abbrev pub set_up_rest : ℕ → ℕ → Part
set_up_rest count m set = sets_up_from set m (count - m)

pub set_up_first : (mac : Mac) (d : Deployment) (old : Kept) (before : List Told)
    → Remains mac d setup (set_up_rest (length d.app.parts.items) 0) old old before before
set_up_first mac d old before =
    remains_as mac d setup setup (set_up_rest (length d.app.parts.items) 0) old old before before (remains_start mac d setup old before)
    (λ set h f. ap (λ k. sets_up_from set 0 k h) (ap (λ (s : Setting). length s.app.parts) f.setting
    ∙ whole (length (map part_as d.app.parts.items)) (length d.app.parts.items) (length-map d.app.parts.items part_as)))
  where
    whole : (k n : ℕ) → k ≡ n → k ≡ n - 0
    whole k n e = omega arith

set_up_next : (count m : ℕ) (set : Setting) (h : Honest) → m < count → sets_up_from set m (count - m) h ≡ then_ (set_up_part m set h) (sets_up_from set (m + 1) (count - (m + 1)))
set_up_next count m set h lt = ap (λ k. sets_up_from set m k h) (one_less count m lt)

pub set_up_on : (mac : Mac) (d : Deployment) (count m : ℕ) (old now new : Kept) (before came after : List Told)
    → m < count → Remains mac d setup (set_up_rest count m) old now before came → Did mac d now new came after (set_up_part m)
    → Remains mac d setup (set_up_rest count (m + 1)) old new before after
set_up_on mac d count m old now new before came after lt remains did =
    remains_on mac d setup (set_up_rest count m) (set_up_part m) (set_up_rest count (m + 1)) old now new before came after remains
    (λ set h f. set_up_next count m set h lt) did

pub set_up_wanted : (mac : Mac) (d : Deployment) (count m : ℕ) (old now new : Kept) (before came after : List Told)
    → m < count → Remains mac d setup (set_up_rest count m) old now before came → Wanted mac d now new came after (set_up_part m)
    → Wanted mac d old new before after setup
set_up_wanted mac d count m old now new before came after lt remains wanted =
    remains_wanted mac d setup (set_up_rest count m) (set_up_part m) (set_up_rest count (m + 1)) old now new before came after remains
    (λ set h f. set_up_next count m set h lt) wanted

pub set_up_done : (mac : Mac) (d : Deployment) (count m : ℕ) (old now : Kept) (before came : List Told)
    → count ≤ m → Remains mac d setup (set_up_rest count m) old now before came → Did mac d old now before came setup
set_up_done mac d count m old now before came le remains =
    remains_none mac d setup (set_up_rest count m) old now before came remains (λ set h f. ap (λ k. sets_up_from set m k h) (let none : count - m ≡ 0 = omega (arith, le) in none))

-- deliveries, of which at most so many are left

abbrev pub settle_all : Part
settle_all set = settles set MOST_LINES

-- after the i-th
abbrev pub settle_rest : ℕ → Part
settle_rest i set = settles set (MOST_LINES - i)

-- the packet at the front, and what follows
abbrev pub deliver_rest : ℕ → ℕ → Part
deliver_rest k i set h = then_ (delivers set k h) (settles set (MOST_LINES - (i + 1)))

pub settle_first : (mac : Mac) (d : Deployment) (old : Kept) (before : List Told) → Remains mac d settle_all (settle_rest 0) old old before before
settle_first mac d old before =
    remains_as mac d settle_all settle_all (settle_rest 0) old old before before (remains_start mac d settle_all old before)
    (λ set h f. ap (λ k. settles set k h) (whole MOST_LINES))
  where
    whole : (k : ℕ) → k ≡ k - 0
    whole k = omega arith

-- the oldest packet is no longer one of those that wait
popped : (mac : Mac) (d : Deployment) (now : Kept) (ks : List ℕ) (set : Setting) (h : Honest) → Follows mac d now set h
    → Follows mac d (waits now ks) set (with_waiting h ks)
popped mac d now ks set h f = record { setting = f.setting; world = f.world; waiting = refl; shown = f.shown; long = f.long; room = f.room; memory = f.memory }

pub goes_popped : (mac : Mac) (d : Deployment) (now new : Kept) (ks : List ℕ) → new ≡ waits now ks → GoesOn mac d now → GoesOn mac d new
goes_popped mac d now new ks is goes = subst (λ (k : Kept). GoesOn mac d k) (sym is) (record {
  set = goes.set;
  honest = with_waiting goes.honest ks;
  follows = popped mac d now ks goes.set goes.honest goes.follows;
  deployed = goes.deployed;
  sound = goes.sound;
})

settle_next : (mac : Mac) (d : Deployment) (i k : ℕ) (old now new : Kept) (before came : List Told)
    → i < MOST_LINES → now.waiting ≡ k ∷ new.waiting → new ≡ waits now (drop 1 now.waiting) → Remains mac d settle_all (settle_rest i) old now before came
    → Remains mac d settle_all (deliver_rest k i) old new before came
settle_next mac d i k old now new before came lt first is remains = λ set h f.
    let a = remains set h f in
    let b = a.follows in
    let ks = new.waiting in
    let left : Honest → Driven = settles set (MOST_LINES - (i + 1)) in
    let here : new ≡ waits now ks = is ∙ ap (λ (xs : List ℕ). waits now xs) (sym (ap (λ (x : Kept). x.waiting) is)) in
    let e : settles set (MOST_LINES - i) a.honest ≡ then_ (delivers set k (with_waiting a.honest ks)) left =
    ap (λ n. settles set n a.honest) (one_less MOST_LINES i lt) ∙ ap (λ ws. oldest set left ws a.honest) (sym b.waiting ∙ first) in record {
      honest = with_waiting a.honest ks;
      said = a.said;
      follows = subst (λ (x : Kept). Follows mac d x set (with_waiting a.honest ks)) (sym here) (popped mac d now ks set a.honest b);
      added = a.added;
      ends = ap (λ (x : Driven). x.honest) (sym e) ∙ a.ends;
      says = ap (λ (x : Driven). a.said ++ x.said) (sym e) ∙ a.says;
      lossless = subst (λ (k : Kept). LosesNothing old.world k.world (all_said before) (all_said came)) (sym here) a.lossless;
    }

pub settle_on : (mac : Mac) (d : Deployment) (i k : ℕ) (old now mid new : Kept) (before came after : List Told)
    → i < MOST_LINES → now.waiting ≡ k ∷ mid.waiting → mid ≡ waits now (drop 1 now.waiting) → Remains mac d settle_all (settle_rest i) old now before came
    → Did mac d mid new came after (λ set. delivers set k) → Remains mac d settle_all (settle_rest (i + 1)) old new before after
settle_on mac d i k old now mid new before came after lt first is remains did =
    remains_on mac d settle_all (deliver_rest k i) (λ set. delivers set k) (settle_rest (i + 1)) old mid new before came after
    (settle_next mac d i k old now mid before came lt first is remains) (λ set h f. refl) did

pub settle_wanted : (mac : Mac) (d : Deployment) (i k : ℕ) (old now mid new : Kept) (before came after : List Told)
    → i < MOST_LINES → now.waiting ≡ k ∷ mid.waiting → mid ≡ waits now (drop 1 now.waiting) → Remains mac d settle_all (settle_rest i) old now before came
    → Wanted mac d mid new came after (λ set. delivers set k) → Wanted mac d old new before after settle_all
settle_wanted mac d i k old now mid new before came after lt first is remains wanted =
    remains_wanted mac d settle_all (deliver_rest k i) (λ set. delivers set k) (settle_rest (i + 1)) old mid new before came after
    (settle_next mac d i k old now mid before came lt first is remains) (λ set h f. refl) wanted

-- none waits
still_none : (set : Setting) (n : ℕ) (h : Honest) → h.waiting ≡ [] → settles set n h ≡ still h
still_none set zero h e = refl
still_none set (suc n) h e = ap (λ ws. oldest set (settles set n) ws h) e

empty : (xs ys : List ℕ) → xs ≡ ys → ys ≡ drop 1 xs → xs ≡ []
empty [] ys e f = refl
empty (x ∷ xs) ys e f =
    let long : length (x ∷ xs) ≡ length xs = ap (λ (zs : List ℕ). length zs) (e ∙ f) in
    let more : length (x ∷ xs) ≡ suc (length xs) = refl in
    absurd (omega (arith, long, more))

pub settle_none : (mac : Mac) (d : Deployment) (i : ℕ) (old now new : Kept) (before came : List Told)
    → now.waiting ≡ new.waiting → new ≡ waits now (drop 1 now.waiting) → Remains mac d settle_all (settle_rest i) old now before came
    → Did mac d old new before came settle_all
settle_none mac d i old now new before came same is remains =
    let none : now.waiting ≡ [] = empty now.waiting new.waiting same (ap (λ (x : Kept). x.waiting) is) in
    let here : new ≡ now = is ∙ ap (λ (xs : List ℕ). waits now xs) (sym (ap (λ (x : Kept). x.waiting) is) ∙ sym same) in
    subst (λ (k : Kept). Did mac d old k before came settle_all) (sym here)
    (remains_none mac d settle_all (settle_rest i) old now before came remains (λ set h f. still_none set (MOST_LINES - i) h (sym f.waiting ∙ none)))

pub settle_done : (mac : Mac) (d : Deployment) (i : ℕ) (old now : Kept) (before came : List Told)
    → MOST_LINES ≤ i → Remains mac d settle_all (settle_rest i) old now before came → Did mac d old now before came settle_all
settle_done mac d i old now before came le remains =
    remains_none mac d settle_all (settle_rest i) old now before came remains (λ set h f. ap (λ k. settles set k h) (let none : MOST_LINES - i ≡ 0 = omega (arith, le) in none))

-- a loop's end by another name
pub lower : (i n count : ℕ) → i < n → n ≡ count → i < count
lower i n count lt e = omega arith

pub upper : (i n count : ℕ) → n ≤ i → n ≡ count → count ≤ i
upper i n count le e = omega arith

-- a schedule has room for so many lines
pub below_most : (i : ℕ) → i < 65536 → i < MOST_LINES
unfolding MOST_LINES
below_most i lt = lt

pub above_most : (i : ℕ) → 65536 ≤ i → MOST_LINES ≤ i
unfolding MOST_LINES
above_most i le = le
