-- Packets are handed to modules, and those that a call makes are taken and wait.
use Rattle.std.proofs.Common.{◌≡◌, ℕ, zero, suc, ◌+◌, ◌*◌, ◌≤◌, inr, List, [], ◌∷◌, ◌++◌, map, append_assoc, refl, sym, ◌∙◌, ap, subst, arith}
use Rattle.std.proofs.Math.Nat.{min-eq_left}
use Rattle.std.proofs.lemmas.List.{append-nil}
use Rattle.sx_trace.specs.declared.items.Item.{Item}
use Rattle.sx_trace.specs.declared.items.Item.TheVariants as item
use Rattle.sx_sched.specs.Lines.{Line, Call, Give, Take}
use Rattle.spec_run.specs.Setting.{Setting}
use Rattle.spec_run.specs.State.{World}
use Rattle.sx_world.specs.Whole.{next}
use Rattle.law_setup.proofs.forms.ByLine.{shown_by}
use Rattle.law_delivery.specs.Schedule.{take_lines}
use Rattle.law_delivery.proofs.ByLine.{call_shown, packets_shown}
use Rattle.sx_drive.specs.Honest.{Callee, Honest, calls, collects, hands, made_by, packets_of, queues, receives, samples, says, takes, takes_one}
use Rattle.law_honest.proofs.Playing.{Fares, IsWhole, Shows, Waits, fares_as, says_fares, still_fares, then_fares}
use Rattle.law_honest.proofs.Staying.{collects_stay, says_stays, takes_stay}

-- this many numbers, from a number on
abbrev pub numbers : ℕ → ℕ → List ℕ
numbers n zero = []
numbers n (suc k) = n ∷ numbers (n + 1) k

pub numbers_append : (n a b : ℕ) → numbers n a ++ numbers (n + a) b ≡ numbers n (a + b)
numbers_append n zero b =
    let here : n + 0 ≡ n = omega arith in
    let none : b ≡ 0 + b = omega arith in
    ap (λ (k : ℕ). numbers k b) here ∙ ap (λ (k : ℕ). numbers n k) none
numbers_append n (suc a) b =
    let next : n + suc a ≡ n + 1 + a = omega arith in
    let more : suc (a + b) ≡ suc a + b = omega arith in
    ap (λ (k : ℕ). n ∷ numbers (n + 1) a ++ numbers k b) next ∙ ap (λ (zs : List ℕ). n ∷ zs) (numbers_append (n + 1) a b) ∙ ap (λ (k : ℕ). numbers n k) more

-- the items of the first line, and those of the others
abbrev pub first_of : List (List Item) → List Item
first_of [] = []
first_of (x ∷ xs) = x

abbrev pub rest_of : List (List Item) → List (List Item)
rest_of [] = []
rest_of (x ∷ xs) = xs

-- how many packets an event says that it made
pub made_outs : (p k : ℕ) (outs : List ℕ) → k ≤ 16 → made_by (map (λ v. item.Out p v) outs ++ item.Done p 1 k ∷ []) ≡ k
made_outs p k [] few = min-eq_left few
made_outs p k (v ∷ outs) few = made_outs p k outs few

-- A packet is given, and its module called.
pub hands_fares : (set : Setting) (e : ℕ) (x : Callee) (k : ℕ) (h : Honest) → IsWhole h
    → Fares set h.world (hands set e x k h) (Give k x.node 0x40 ∷ Call x.part e 0x40 0x80 ∷ [])
    (Shows h.waiting (next set (next set h.world (Give k x.node 0x40)).world (Call x.part e 0x40 0x80)).items)
hands_fares set e x k h whole =
    let give : Line = Give k x.node 0x40 in
    let call : Line = Call x.part e 0x40 0x80 in
    let g : Honest = (says set give h).honest in
    let p : List Item = (next set (next set h.world give).world call).items in
    then_fares set h.world (says set give h) (calls set e x) (give ∷ []) (call ∷ []) (Shows h.waiting (next set h.world give).items) (Shows h.waiting p) (says_fares set give h whole)
    (says_stays set call)
    (λ first. fares_as set g.world (says set call g) (call ∷ []) (Shows g.waiting (next set g.world call).items) (Shows h.waiting p)
    (λ second. record {
      waiting = second.holds.waiting ∙ first.holds.waiting;
      shown = second.holds.shown ∙ ap (λ (v : World). (next set v call).items) first.world;
    }) (says_fares set call g first.whole))

-- One packet is taken, and waits after the others.
take_fares : (set : Setting) (n i number : ℕ) (h : Honest) → IsWhole h → (next set h.world (Take n (0x80 + 24 * i) 24)).items ≡ item.Packet number 24 ∷ []
    → Fares set h.world (takes_one set n i h) (Take n (0x80 + 24 * i) 24 ∷ []) (Waits (h.waiting ++ number ∷ []))
take_fares set n i number h whole shown =
    let l : Line = Take n (0x80 + 24 * i) 24 in
    let g : Honest = (says set l h).honest in
    then_fares set h.world (says set l h) queues (l ∷ []) [] (Shows h.waiting (next set h.world l).items) (Waits (h.waiting ++ number ∷ []))
    (says_fares set l h whole) (λ g cut. record { said = refl; long = cut })
    (λ played. inr (record {
      said = refl;
      world = refl;
      whole = record { uncut = played.whole.uncut; room = played.whole.room };
      holds = ap (λ (ks : List ℕ). ks ++ packets_of g.shown) played.holds.waiting ∙ ap (λ (is : List Item). h.waiting ++ packets_of is) (played.holds.shown ∙ shown);
    }))

-- So are as many as there are, from the i-th on.
takes_fares : (set : Setting) (n i k number : ℕ) (h : Honest) → IsWhole h → shown_by set h.world (take_lines n (0x80 + 24 * i) k) ≡ packets_shown number k
    → Fares set h.world (takes set n i k h) (take_lines n (0x80 + 24 * i) k) (Waits (h.waiting ++ numbers number k))
takes_fares set n i zero number h whole shown = still_fares set h (Waits (h.waiting ++ [])) whole (sym (append-nil h.waiting))
takes_fares set n i (suc k) number h whole shown =
    let l : Line = Take n (0x80 + 24 * i) 24 in
    let ls : List Line = take_lines n (0x80 + 24 * (i + 1)) k in
    let g : Honest = (takes_one set n i h).honest in
    let P : Honest → Type 0 = Waits (h.waiting ++ number ∷ []) in
    let Q : Honest → Type 0 = Waits (h.waiting ++ number ∷ numbers (number + 1) k) in
    let place : 0x80 + 24 * i + 24 ≡ 0x80 + 24 * (i + 1) = omega arith in
    let first : (next set h.world l).items ≡ item.Packet number 24 ∷ [] = ap first_of shown in
    let rest : shown_by set (next set h.world l).world (take_lines n (0x80 + 24 * i + 24) k) ≡ packets_shown (number + 1) k = ap rest_of shown in
    subst (λ (z : ℕ). Fares set h.world (takes set n i (suc k) h) (l ∷ take_lines n z k) Q) (sym place)
    (then_fares set h.world (takes_one set n i h) (takes set n (i + 1) k) (l ∷ []) ls P Q (take_fares set n i number h whole first) (takes_stay set n (i + 1) k)
    (λ played. fares_as set g.world (takes set n (i + 1) k g) ls (Waits (g.waiting ++ numbers (number + 1) k)) Q
    (λ more. more.holds ∙ ap (λ (ks : List ℕ). ks ++ numbers (number + 1) k) played.holds ∙ append_assoc h.waiting (number ∷ []) (numbers (number + 1) k))
    (takes_fares set n (i + 1) k (number + 1) g played.whole
    (ap (λ (v : World). shown_by set v ls) played.world ∙ ap (λ (z : ℕ). shown_by set (next set h.world l).world (take_lines n z k)) (sym place) ∙ rest))))

-- all that a call made
collects_fares : (set : Setting) (n made number : ℕ) (h : Honest) → IsWhole h → made_by h.shown ≡ made → shown_by set h.world (take_lines n 0x80 made) ≡ packets_shown number made
    → Fares set h.world (collects set n h) (take_lines n 0x80 made) (Waits (h.waiting ++ numbers number made))
collects_fares set n made number h whole count shown =
    subst (λ (k : ℕ). Fares set h.world (takes set n 0 k h) (take_lines n 0x80 made) (Waits (h.waiting ++ numbers number made))) (sym count)
    (takes_fares set n 0 made number h whole shown)

-- A call of a module that shows this, and the takes of what it made.
module _ (set : Setting) (x : Callee) (begins : Item) (outs : List ℕ) (made number : ℕ) (count : made_by (begins ∷ map (λ v. item.Out x.part v) outs ++ item.Done x.part 1 made ∷ []) ≡ made) where
  abbrev ends : List Line
  ends = take_lines x.node 0x80 made

  abbrev shows : List Item
  shows = begins ∷ map (λ v. item.Out x.part v) outs ++ item.Done x.part 1 made ∷ []

  -- after a packet
  pub receives_fares : (k : ℕ) (h : Honest) → IsWhole h → shown_by set h.world (Give k x.node 0x40 ∷ Call x.part 2 0x40 0x80 ∷ ends) ≡ [] ∷ call_shown x.part begins outs made number
      → Fares set h.world (receives set k x h) (Give k x.node 0x40 ∷ Call x.part 2 0x40 0x80 ∷ ends) (Waits (h.waiting ++ numbers number made))
  receives_fares k h whole shown =
      let give : Line = Give k x.node 0x40 in
      let call : Line = Call x.part 2 0x40 0x80 in
      let g : Honest = (hands set 2 x k h).honest in
      let w : World = (next set h.world give).world in
      let Q : Honest → Type 0 = Waits (h.waiting ++ numbers number made) in
      let called : (next set w call).items ≡ shows = ap (λ (zs : List (List Item)). first_of (rest_of zs)) shown in
      let taken : shown_by set (next set w call).world ends ≡ packets_shown number made = ap (λ (zs : List (List Item)). rest_of (rest_of zs)) shown in
      then_fares set h.world (hands set 2 x k h) (collects set x.node) (give ∷ call ∷ []) ends (Shows h.waiting (next set w call).items) Q (hands_fares set 2 x k h whole)
      (collects_stay set x.node)
      (λ played. fares_as set g.world (collects set x.node g) ends (Waits (g.waiting ++ numbers number made)) Q
      (λ more. more.holds ∙ ap (λ (ks : List ℕ). ks ++ numbers number made) played.holds.waiting)
      (collects_fares set x.node made number g played.whole (ap made_by (played.holds.shown ∙ called) ∙ count) (ap (λ (v : World). shown_by set v ends) played.world ∙ taken)))

  -- after its sensor got a value
  pub samples_fares : (h : Honest) → IsWhole h → shown_by set h.world (Call x.part 3 0x40 0x80 ∷ ends) ≡ call_shown x.part begins outs made number
      → Fares set h.world (samples set x h) (Call x.part 3 0x40 0x80 ∷ ends) (Waits (h.waiting ++ numbers number made))
  samples_fares h whole shown =
      let call : Line = Call x.part 3 0x40 0x80 in
      let g : Honest = (calls set 3 x h).honest in
      let Q : Honest → Type 0 = Waits (h.waiting ++ numbers number made) in
      let called : (next set h.world call).items ≡ shows = ap first_of shown in
      let taken : shown_by set (next set h.world call).world ends ≡ packets_shown number made = ap rest_of shown in
      then_fares set h.world (calls set 3 x h) (collects set x.node) (call ∷ []) ends (Shows h.waiting (next set h.world call).items) Q (says_fares set call h whole) (collects_stay set x.node)
      (λ played. fares_as set g.world (collects set x.node g) ends (Waits (g.waiting ++ numbers number made)) Q
      (λ more. more.holds ∙ ap (λ (ks : List ℕ). ks ++ numbers number made) played.holds.waiting)
      (collects_fares set x.node made number g played.whole (ap made_by (played.holds.shown ∙ called) ∙ count) (ap (λ (v : World). shown_by set v ends) played.world ∙ taken)))
