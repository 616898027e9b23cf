-- The runs of accepted lines have few moments, and their answers are for boots that a name can have.
use Rattle.std.proofs.Common.{◌≡◌, ℕ, zero, suc, ◌+◌, ◌*◌, ◌-◌, ◌^◌, ◌/◌, ◌<◌, ◌≤◌, ◌==◌, Bool, true, false, cond, List, [], ◌∷◌, length, drop, Option, Some, None, refl, ap, subst, arith}
use Rattle.std.specs.Prelude.{slice_get}
use Rattle.lemmas.proofs.Lists.{get_some}
use Rattle.sx_trace.specs.declared.items.Item.TheVariants as item
use Rattle.sx_trace.specs.Names.{NameLists}
use Rattle.sx_sched.specs.Lines as line
use Rattle.sx_sched.specs.Lines.{Line}
use Rattle.sx_sched.specs.InForm.{IsLine}
use Rattle.spec_run.specs.Setting.{Setting, Site}
use Rattle.spec_run.specs.AcceptedLaw.{AreLines}
use Rattle.spec_run.specs.Law.{IsSoundSetting}
use Rattle.spec_run.specs.State.{World, switched_on}
use Rattle.spec_run.specs.Run.{FINISH_STEPS, Register, protect_registers, call_registers}
use Rattle.spec_run.proofs.tie.Lists.{some_inj, get_within}
use Rattle.law_isolation.specs.Happening.{Happening, Step, Put, Set, Take, Give, Forge, Sense, Irq, Reset, Ask, Answer, Show, done}
use Rattle.law_isolation.specs.Script.{Look, Script, End, Do, looks}
use Rattle.law_isolation.specs.Lines.{all, ends, where_node, steps, finishing, unless_running, pieces, setting_of, loading, calling, line_script, script_of}
use Rattle.law_forgery.specs.Moments.{Moment, moment_from, moment}

abbrev Low : Happening → Type 0
Low (Answer m boot packet) = boot < 2 ^ 32
Low x = Unit {0}

-- at most so many moments, whose answers are for such boots
abbrev Fits : ℕ → Script → Type 0
Fits n End = Unit {0}
Fits n (Do x rest) = (1 ≤ n) × Low x × ((now : List Look) → Fits (n - 1) (rest now))

fits_more : (n m : ℕ) (s : Script) → n ≤ m → Fits n s → Fits m s
fits_more n m End le h = tt
fits_more n m (Do x rest) le h = let one = h.0 in (omega (arith, le, one), h.1, λ now. fits_more (n - 1) (m - 1) (rest now) (omega (arith, le)) (h.2 now))

over : (set : Setting) (n q : ℕ) (s : Script) (w : World) → Fits n s → n ≤ q → moment_from set q s w ≡ None
over set n q End w h le = refl
over set n zero (Do x rest) w h le = let one = h.0 in absurd (omega (arith, one, le))
over set n (suc q) (Do x rest) w h le =
    over set (n - 1) q (rest (looks (done set x w).world)) (done set x w).world (h.2 (looks (done set x w).world)) (omega (arith, le))

low_then : (set : Setting) (n k : ℕ) (s : Script) (w : World) (now : Moment) → Fits n s → moment_from set k s w ≡ Some now → Low now.next
low_then set n k End w now h e = absurd cc
low_then set n zero (Do x rest) w now h e = subst (λ (z : Moment). Low z.next) (some_inj (record { next = x; world = w }) now e) h.1
low_then set n (suc k) (Do x rest) w now h e =
    low_then set (n - 1) k (rest (looks (done set x w).world)) (done set x w).world now (h.2 (looks (done set x w).world)) e

abbrev AllLow : List Happening → Type 0
AllLow [] = Unit {0}
AllLow (x ∷ xs) = Low x × AllLow xs

abbrev Rest : ℕ → (List Look → Script) → Type 0
Rest n f = (now : List Look) → Fits n (f now)

all_fits : (xs : List Happening) (m : ℕ) (f : List Look → Script) → AllLow xs → Rest m f → Rest (length xs + m) (all xs f)
all_fits [] m f a h now = fits_more m (0 + m) (f now) (omega arith) (h now)
all_fits (x ∷ xs) m f a h now =
    (omega arith, a.0, λ next. fits_more (length xs + m) (suc (length xs) + m - 1) (all xs f next) (omega arith) (all_fits xs m f a.1 h next))

if_fits : (n : ℕ) (b : Bool) (p q : Script) → Fits n p → Fits n q → Fits n (cond b p q)
if_fits n true p q f g = f
if_fits n false p q f g = g

steps_fits : (stops : Look → Bool) (last : List Happening) (n k m : ℕ) (f : List Look → Script) → AllLow last → Rest m f → Rest (k + length last + m) (steps stops last n k f)
steps_fits stops last n zero m f a h now = fits_more (length last + m) (0 + length last + m) (all last f now) (omega arith) (all_fits last m f a h now)
steps_fits stops last n (suc k) m f a h now = by (steps_fits stops last n k m f a h) (slice_get now n)
  where
    by : Rest (k + length last + m) (steps stops last n k f) → (o : Option Look) → Fits (suc k + length last + m) (where_node o
        (λ a. Do (Step n) (λ next. cond (ends stops a (slice_get next n)) (f next) (steps stops last n k f next))) (f now))
    by more None = fits_more m (suc k + length last + m) (f now) (omega arith) (h now)
    by more (Some a) = (
      omega arith,
      tt,
      λ next.
          if_fits (suc k + length last + m - 1) (ends stops a (slice_get next n)) (f next) (steps stops last n k f next)
          (fits_more m (suc k + length last + m - 1) (f next) (omega arith) (h next))
          (fits_more (k + length last + m) (suc k + length last + m - 1) (steps stops last n k f next) (omega arith) (more next)),
    )

unless_fits : (n p m : ℕ) (doing f : List Look → Script) → m < p → Rest p doing → Rest m f → Rest p (unless_running n doing f)
unless_fits n p m doing f lt d h now = by (slice_get now n)
  where
    by : (o : Option Look) → Fits p (where_node o (λ a. cond (a.cur == 0) (doing now) (Do (Show (item.Busy n)) f)) (f now))
    by None = fits_more m p (f now) (omega (arith, lt)) (h now)
    by (Some a) = if_fits p (a.cur == 0) (doing now) (Do (Show (item.Busy n)) f) (d now) (omega (arith, lt), tt, λ next. fits_more m (p - 1) (f next) (omega (arith, lt)) (h next))

pieces_long : (n k at : ℕ) (bytes : List ℕ) → length (pieces n k at bytes) ≡ k
pieces_long n zero at bytes = refl
pieces_long n (suc k) at bytes = ap suc (pieces_long n k (at + 1024) (drop 1024 bytes))

pieces_low : (n k at : ℕ) (bytes : List ℕ) → AllLow (pieces n k at bytes)
pieces_low n zero at bytes = tt
pieces_low n (suc k) at bytes = (tt, pieces_low n k (at + 1024) (drop 1024 bytes))

set_low : (n : ℕ) (rs : List Register) → AllLow (setting_of n rs)
set_low n [] = tt
set_low n (r ∷ rs) = (tt, set_low n rs)

module _ (set : Setting) (sound : IsSoundSetting set) (names : NameLists) (top : ℕ) (finish : FINISH_STEPS + 16 ≤ top) (wide : 65536 + 16 ≤ top) where
  one_fits : (x : Happening) (m : ℕ) (f : List Look → Script) → Low x → Rest m f → Fits (top + m) (Do x f)
  one_fits x m f low h = (omega (arith, wide), low, λ now. fits_more m (top + m - 1) (f now) (omega (arith, wide)) (h now))

  loading_fits : (o : Option Site) (i m : ℕ) (f : List Look → Script) → slice_get set.sites i ≡ o → Rest m f → Rest (top + m) (loading o f)
  loading_fits None i m f e h now = fits_more m (top + m) (f now) (omega arith) (h now)
  loading_fits (Some site) i m f e h now =
      let q = get_some set.app.parts i (omega (arith, get_within set.sites i site e, sound.sites)) in
      let d = sound.deployed i q.0 site q.1 e in
      let te = d.text_end in
      let t = d.text in
      let count = (length site.text + 1023) / 1024 in
      let few : count ≤ 65 = omega (arith, te, t) in
      let n = site.node in
      let put = pieces n count site.layout.pub_from site.text in
      let code = Put n 0 (0x81 ∷ 0x13 ∷ []) ∷ [] in
      let regs = setting_of n (protect_registers site) in
      let f3 = all (Step n ∷ []) f in
      let f2 = all regs f3 in
      let f1 = all code f2 in
      let f0 = all put f1 in
      let long = pieces_long n count site.layout.pub_from site.text in
      let r3 : Rest (1 + m) f3 = all_fits (Step n ∷ []) m f (tt, tt) h in
      let r2 : Rest (6 + (1 + m)) f2 = all_fits regs (1 + m) f3 (set_low n (protect_registers site)) r3 in
      let r1 : Rest (1 + (6 + (1 + m))) f1 = all_fits code (6 + (1 + m)) f2 (tt, tt) r2 in
      let r0 : Rest (length put + (1 + (6 + (1 + m)))) f0 = all_fits put (1 + (6 + (1 + m))) f1 (pieces_low n count site.layout.pub_from site.text) r1 in
      unless_fits n (top + m) m f0 f (omega (arith, wide)) (λ next. fits_more (length put + (1 + (6 + (1 + m)))) (top + m) (f0 next) (omega (arith, wide, few, long)) (r0 next)) h now

  finishing_fits : (n m : ℕ) (f : List Look → Script) → Rest m f → Rest (FINISH_STEPS + 1 + m) (finishing n f)
  finishing_fits n m f h = steps_fits (λ a. a.cur == 0) (Show (item.Budget n) ∷ []) n FINISH_STEPS m f (tt, tt) h

  calling_fits : (e input output : ℕ) (o : Option Site) (m : ℕ) (f : List Look → Script) → Rest m f → Rest (top + m) (calling e input output o f)
  calling_fits e input output None m f h now = fits_more m (top + m) (f now) (omega arith) (h now)
  calling_fits e input output (Some site) m f h now =
      let n = site.node in
      let regs = setting_of n (call_registers site e input output) in
      let f1 = finishing n f in
      let f0 = all regs f1 in
      let r0 : Rest (5 + (FINISH_STEPS + 1 + m)) f0 = all_fits regs (FINISH_STEPS + 1 + m) f1 (set_low n (call_registers site e input output)) (finishing_fits n m f h) in
      unless_fits n (top + m) m f0 f (omega (arith, wide)) (λ next. fits_more (5 + (FINISH_STEPS + 1 + m)) (top + m) (f0 next) (omega (arith, finish)) (r0 next)) h now

  line_fits : (l : Line) → IsLine names l → (m : ℕ) (f : List Look → Script) → Rest m f → Rest (top + m) (line_script set l f)
  line_fits line.Blank is m f h now = fits_more m (top + m) (f now) (omega arith) (h now)
  line_fits (line.Run n k) is m f h now =
      let few = is.2 in fits_more (k + 0 + m) (top + m) (steps (λ a. false) [] n k f now) (omega (arith, few, wide)) (steps_fits (λ a. false) [] n k m f tt h now)
  line_fits (line.Finish n) is m f h now = fits_more (FINISH_STEPS + 1 + m) (top + m) (finishing n f now) (omega (arith, finish)) (finishing_fits n m f h now)
  line_fits (line.Put n at bytes) is m f h now = one_fits (Put n at bytes) m f tt h
  line_fits (line.Set n r v) is m f h now = one_fits (Set n r v) m f tt h
  line_fits (line.Take n at len) is m f h now = one_fits (Take n at len) m f tt h
  line_fits (line.Give k n at) is m f h now = one_fits (Give k n at) m f tt h
  line_fits (line.Forge bytes) is m f h now = one_fits (Forge bytes) m f tt h
  line_fits (line.Sense d v) is m f h now = one_fits (Sense d v) m f tt h
  line_fits (line.Irq n k) is m f h now = one_fits (Irq n k) m f tt h
  line_fits (line.Reset n) is m f h now = one_fits (Reset n) m f tt h
  line_fits (line.Ask i) is m f h now = one_fits (Ask i) m f tt h
  line_fits (line.Answer i boot k) is m f h now = one_fits (Answer i boot k) m f is.1 h
  line_fits (line.Load i) is m f h now = loading_fits (slice_get set.sites i) i m f refl h now
  line_fits (line.Call i e input output) is m f h now = calling_fits e input output (slice_get set.sites i) m f h now

  -- room for so many lines
  abbrev room : ℕ → ℕ
  room zero = 0
  room (suc n) = 1 + (top + room n)

  room_is : (n : ℕ) → room n ≡ n * (top + 1)
  room_is zero = omega arith
  room_is (suc n) = let r = room_is n in omega (arith, r)

  lines_fit : (lines : List Line) → AreLines names lines → Fits (room (length lines)) (script_of set lines)
  lines_fit [] h = tt
  lines_fit (l ∷ lines) h =
      let n = room (length lines) in (
        omega arith,
        tt,
        λ now. fits_more (top + n) (1 + (top + n) - 1) (line_script set l (λ next. script_of set lines) now) (omega arith)
            (line_fits l h.0 n (λ next. script_of set lines) (λ next. lines_fit lines h.1) now),
      )

  run_over : (lines : List Line) → AreLines names lines → (q : ℕ) → length lines * (top + 1) ≤ q → moment set lines q ≡ None
  run_over lines h q le =
      let r = room_is (length lines) in over set (room (length lines)) q (script_of set lines) (switched_on set) (lines_fit lines h) (omega (arith, r, le))

  run_low : (lines : List Line) → AreLines names lines → (k : ℕ) (now : Moment) (m boot packet : ℕ) → moment set lines k ≡ Some now → now.next ≡ Answer m boot packet → boot < 2 ^ 32
  run_low lines h k now m boot packet here next = subst Low next (low_then set (room (length lines)) k (script_of set lines) (switched_on set) now (lines_fit lines h) here)

finish_is : FINISH_STEPS ≡ 1000000
unfolding FINISH_STEPS
finish_is = refl

module _ (set : Setting) (sound : IsSoundSetting set) (names : NameLists) (lines : List Line) (are : AreLines names lines) where
  abbrev most : ℕ
  most = FINISH_STEPS + 16

  pub few_moments : length lines ≤ 65536 → moment set lines (2 ^ 37) ≡ None
  few_moments few =
      run_over set sound names most (omega arith) (omega (arith, finish_is)) lines are (2 ^ 37)
      (bound (length lines) few)
    where
      bound : (n : ℕ) → n ≤ 65536 → n * (most + 1) ≤ 2 ^ 37
      bound n le =
          let a : n * (most + 1) ≤ 65536 * 1000017 = Rattle.std.proofs.lemmas.Nat.mul-le n (most + 1) 65536 1000017 le (omega (arith, finish_is)) in
          omega (arith, a)

  pub low_answers : (k : ℕ) (now : Moment) (m boot packet : ℕ) → moment set lines k ≡ Some now → now.next ≡ Answer m boot packet → boot < 2 ^ 32
  low_answers = run_low set sound names most (omega arith) (omega (arith, finish_is)) lines are
