-- A schedule with more lines: its moments go on from those of the first lines.
use Rattle.std.proofs.Common.{◌≡◌, ℕ, zero, suc, ◌<◌, ◌==◌, Bool, true, false, cond, List, [], ◌∷◌, ◌++◌, Option, Some, None, refl, sym, ◌∙◌, ap, subst, arith}
use Rattle.std.specs.Prelude.{slice_get, length, ◌+◌, ◌/◌}
use Rattle.sx_trace.specs.declared.items.Item.TheVariants as item
use Rattle.sx_sched.specs.Lines as line
use Rattle.sx_sched.specs.Lines.{Line}
use Rattle.spec_run.specs.Setting.{Setting, Site}
use Rattle.spec_run.specs.State.{World, switched_on}
use Rattle.spec_run.specs.Run.{FINISH_STEPS, protect_registers, call_registers}
use Rattle.law_isolation.specs.Happening.{Happening, Step, Put, Show, done}
use Rattle.law_isolation.specs.Script.{Look, Script, End, Do, looks}
use Rattle.law_isolation.specs.Lines.{all, ends, where_node, steps, finishing, unless_running, pieces, setting_of, loading, calling, line_script, script_of}
use Rattle.law_forgery.specs.Moments.{Moment, moment_from, moment}

-- the second does what the first does, and then more
abbrev pub Extends : Script → Script → Type 0
Extends End t = Unit {0}
Extends (Do x r) End = ⊥
Extends (Do x r) (Do y q) = (x ≡ y) × ((now : List Look) → Extends (r now) (q now))

abbrev Extend : (List Look → Script) → (List Look → Script) → Type 0
Extend f g = (now : List Look) → Extends (f now) (g now)

extended : (set : Setting) (s t : Script) → Extends s t → (k : ℕ) (w : World) (now : Moment) → moment_from set k s w ≡ Some now → moment_from set k t w ≡ Some now
extended set End t h k w now e = absurd cc
extended set (Do x r) End h k w now e = absurd h
extended set (Do x r) (Do y q) h zero w now e = ap (λ (z : Happening). Some (record { next = z; world = w })) (sym h.0) ∙ e
extended set (Do x r) (Do y q) h (suc k) w now e =
    subst (λ (z : Happening). moment_from set k (q (looks (done set z w).world)) (done set z w).world ≡ Some now) h.0
    (extended set (r (looks (done set x w).world)) (q (looks (done set x w).world)) (h.1 (looks (done set x w).world)) k (done set x w).world now e)

-- after the last moment there is none
none_after : (set : Setting) (s : Script) (j k : ℕ) (w : World) (now : Moment) → moment_from set k s w ≡ None → moment_from set j s w ≡ Some now → j < k
none_after set End j k w now e f = absurd cc
none_after set (Do x r) j zero w now e f = absurd cc
none_after set (Do x r) zero (suc k) w now e f = omega arith
none_after set (Do x r) (suc j) (suc k) w now e f =
    let lt = none_after set (r (looks (done set x w).world)) j k (done set x w).world now e f in omega (arith, lt)

-- What follows more.
module _ (f g : List Look → Script) (h : Extend f g) where
  all_more : (xs : List Happening) → Extend (all xs f) (all xs g)
  all_more [] now = h now
  all_more (x ∷ xs) now = (refl, all_more xs)

  if_more : (b : Bool) (s t u v : Script) → Extends s u → Extends t v → Extends (cond b s t) (cond b u v)
  if_more true s t u v p q = p
  if_more false s t u v p q = q

  steps_more : (stops : Look → Bool) (last : List Happening) (n k : ℕ) → Extend (steps stops last n k f) (steps stops last n k g)
  steps_more stops last n zero now = all_more last now
  steps_more stops last n (suc k) now = by (slice_get now n) (steps_more stops last n k)
    where
      by : (o : Option Look) → Extend (steps stops last n k f) (steps stops last n k g) → Extends
          (where_node o (λ a. Do (Step n) (λ next. cond (ends stops a (slice_get next n)) (f next) (steps stops last n k f next))) (f now))
          (where_node o (λ a. Do (Step n) (λ next. cond (ends stops a (slice_get next n)) (g next) (steps stops last n k g next))) (g now))
      by None more = h now
      by (Some a) more = (refl, λ next. if_more (ends stops a (slice_get next n)) (f next) (steps stops last n k f next) (g next) (steps stops last n k g next) (h next) (more next))

  unless_more : (n : ℕ) (d e : List Look → Script) → Extend d e → Extend (unless_running n d f) (unless_running n e g)
  unless_more n d e p now = by (slice_get now n)
    where
      by : (o : Option Look) → Extends (where_node o (λ a. cond (a.cur == 0) (d now) (Do (Show (item.Busy n)) f)) (f now))
          (where_node o (λ a. cond (a.cur == 0) (e now) (Do (Show (item.Busy n)) g)) (g now))
      by None = h now
      by (Some a) = if_more (a.cur == 0) (d now) (Do (Show (item.Busy n)) f) (e now) (Do (Show (item.Busy n)) g) (p now) (refl, h)

all_then : (xs : List Happening) (f g : List Look → Script) → Extend f g → Extend (all xs f) (all xs g)
all_then xs f g h = all_more f g h xs

finishing_more : (n : ℕ) (f g : List Look → Script) → Extend f g → Extend (finishing n f) (finishing n g)
finishing_more n f g h = steps_more f g h (λ a. a.cur == 0) (Show (item.Budget n) ∷ []) n FINISH_STEPS

loading_more : (o : Option Site) (f g : List Look → Script) → Extend f g → Extend (loading o f) (loading o g)
loading_more None f g h now = h now
loading_more (Some site) f g h now =
    let put = pieces site.node ((length site.text + 1023) / 1024) site.layout.pub_from site.text in
    let code = Put site.node 0 (0x81 ∷ 0x13 ∷ []) ∷ [] in
    let regs = setting_of site.node (protect_registers site) in
    let step = Step site.node ∷ [] in
    unless_more f g h site.node (all put (all code (all regs (all step f)))) (all put (all code (all regs (all step g))))
    (all_then put (all code (all regs (all step f))) (all code (all regs (all step g)))
    (all_then code (all regs (all step f)) (all regs (all step g))
    (all_then regs (all step f) (all step g) (all_then step f g h)))) now

calling_more : (e input output : ℕ) (o : Option Site) (f g : List Look → Script) → Extend f g → Extend (calling e input output o f) (calling e input output o g)
calling_more e input output None f g h now = h now
calling_more e input output (Some site) f g h now =
    let regs = setting_of site.node (call_registers site e input output) in
    unless_more f g h site.node (all regs (finishing site.node f)) (all regs (finishing site.node g))
    (all_then regs (finishing site.node f) (finishing site.node g) (finishing_more site.node f g h)) now

module _ (set : Setting) where
  line_more : (l : Line) (f g : List Look → Script) → Extend f g → Extend (line_script set l f) (line_script set l g)
  line_more line.Blank f g h now = h now
  line_more (line.Run n k) f g h now = steps_more f g h (λ a. false) [] n k now
  line_more (line.Finish n) f g h now = finishing_more n f g h now
  line_more (line.Put n at bytes) f g h now = (refl, h)
  line_more (line.Set n r v) f g h now = (refl, h)
  line_more (line.Take n at len) f g h now = (refl, h)
  line_more (line.Give k n at) f g h now = (refl, h)
  line_more (line.Forge bytes) f g h now = (refl, h)
  line_more (line.Sense d v) f g h now = (refl, h)
  line_more (line.Irq n k) f g h now = (refl, h)
  line_more (line.Reset n) f g h now = (refl, h)
  line_more (line.Ask m) f g h now = (refl, h)
  line_more (line.Answer m boot k) f g h now = (refl, h)
  line_more (line.Load m) f g h now = loading_more (slice_get set.sites m) f g h now
  line_more (line.Call m e input output) f g h now = calling_more e input output (slice_get set.sites m) f g h now

  lines_more : (xs ys : List Line) → Extends (script_of set xs) (script_of set (xs ++ ys))
  lines_more [] ys = tt
  lines_more (l ∷ xs) ys = (refl, line_more l (λ now. script_of set xs) (λ now. script_of set (xs ++ ys)) (λ now. lines_more xs ys))

  pub moment_more : (xs ys : List Line) (k : ℕ) (now : Moment) → moment set xs k ≡ Some now → moment set (xs ++ ys) k ≡ Some now
  moment_more xs ys k now e = extended set (script_of set xs) (script_of set (xs ++ ys)) (lines_more xs ys) k (switched_on set) now e

  pub moment_before : (lines : List Line) (j k : ℕ) (now : Moment) → moment set lines k ≡ None → moment set lines j ≡ Some now → j < k
  moment_before lines j k now e f = none_after set (script_of set lines) j k (switched_on set) now e f
