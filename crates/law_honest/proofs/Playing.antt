-- What a part of the program's honest run says: lines, each with what it shows, or else a line was left out, since they are too many.
use Rattle.std.proofs.Common.{◌≡◌, ℕ, ◌+◌, ◌<◌, ◌≤◌, ◌==◌, ◌||◌, ◌⊎◌, inl, inr, Bool, true, false, if◌then◌else◌, List, [], ◌∷◌, ◌++◌, length, length-append}
use Rattle.std.proofs.Common.{map, append_assoc, refl, sym, ◌∙◌, ap, subst, arith}
use Rattle.std.proofs.lemmas.Bool.{eq-eqb, eqb-true}
use Rattle.std.proofs.lemmas.List.{append-nil}
use Rattle.sx_trace.specs.declared.items.Item.{Item}
use Rattle.sx_sched.specs.Lines.{Line}
use Rattle.spec_run.specs.Setting.{Setting}
use Rattle.spec_run.specs.State.{World, Acted}
use Rattle.spec_run.specs.Run.{line_counted, run}
use Rattle.spec_run.proofs.acts.Counting.{counts_lines}
use Rattle.sx_world.specs.Whole.{next}
use Rattle.law_setup.proofs.Runs.{run_append}
use Rattle.sx_drive.specs.Honest.{Driven, Honest, MOST_LINES, Said, SaidItem, SaidLine, each, left_out, performed, says, still, then_}
use Rattle.law_honest.specs.Samplings.{told}

-- no line was left out, and a schedule has room for as many as there were
pub record IsWhole (h : Honest) : Type 0 where
  pub uncut : h.long ≡ false
  pub room : h.world.lines ≤ 65536

-- a part says these lines from a world, each with what it shows, and this holds then
pub record Plays (set : Setting) (w : World) (d : Driven) (ls : List Line) (P : Honest → Type 0) : Type 0 where
  pub said : d.said ≡ told set w ls
  pub world : d.honest.world ≡ (run set w ls).world
  pub whole : IsWhole d.honest
  pub holds : P d.honest

-- a schedule has no room for all of these lines: the first of them were said, each with what it shows, and the others were left out
pub record IsCut (set : Setting) (w : World) (d : Driven) (ls : List Line) : Type 0 where
  pub front : List Line
  pub rest : List Line
  pub lines : ls ≡ front ++ rest
  pub full : w.lines + length front ≡ 65536
  pub some : 0 < length rest
  pub said : d.said ≡ told set w front
  pub long : d.honest.long ≡ true

abbrev pub Fares : Setting → World → Driven → List Line → (Honest → Type 0) → Type 0
Fares set w d ls P = IsCut set w d ls ⊎ Plays set w d ls P

-- it says nothing, since a line was left out before
pub record IsSilent (d : Driven) : Type 0 where
  pub said : d.said ≡ []
  pub long : d.honest.long ≡ true

-- once a line was left out, it says nothing
abbrev pub Stays : (Honest → Driven) → Type 0
Stays f = (h : Honest) → h.long ≡ true → IsSilent (f h)

-- what waits
abbrev pub Waits : List ℕ → Honest → Type 0
Waits ks h = h.waiting ≡ ks

-- what waits, and what the last line showed
pub record Shows (ks : List ℕ) (p : List Item) (h : Honest) : Type 0 where
  pub waiting : h.waiting ≡ ks
  pub shown : h.shown ≡ p

-- One part after the other.

told_append : (set : Setting) (xs ys : List Line) (w : World) → told set w (xs ++ ys) ≡ told set w xs ++ told set (run set w xs).world ys
told_append set [] ys w = refl
told_append set (x ∷ xs) ys w =
    let a = next set w x in
    ap (λ (zs : List Said). SaidLine x ∷ map SaidItem a.items ++ zs) (told_append set xs ys a.world)
    ∙ ap (λ (zs : List Said). SaidLine x ∷ zs) (sym (append_assoc (map SaidItem a.items) (told set a.world xs) (told set (run set a.world xs).world ys)))

-- so many lines were counted
pub run_counts : (set : Setting) (ls : List Line) (w : World) → (run set w ls).world.lines ≡ w.lines + length ls
run_counts set [] w = omega arith
run_counts set (l ∷ ls) w =
    let a = next set w l in
    let one : a.world.lines ≡ w.lines + 1 = counts_lines set (line_counted w) l in
    let rest : (run set a.world ls).world.lines ≡ a.world.lines + length ls = run_counts set ls a.world in
    omega (arith, one, rest)

module _ (set : Setting) (w : World) (a : Driven) (f : Honest → Driven) (xs ys : List Line) (P Q : Honest → Type 0) where
  then_cut : Stays f → IsCut set w a xs → IsCut set w (then_ a f) (xs ++ ys)
  then_cut stays cut =
      let silent = stays a.honest cut.long in
      let more = length-append cut.rest ys in
      let some = cut.some in
      record {
        front = cut.front;
        rest = cut.rest ++ ys;
        lines = ap (λ (zs : List Line). zs ++ ys) cut.lines ∙ append_assoc cut.front cut.rest ys;
        full = cut.full;
        some = omega (arith, more, some);
        said = ap (λ (zs : List Said). a.said ++ zs) silent.said ∙ append-nil a.said ∙ cut.said;
        long = silent.long;
      }

  later_cut : Plays set w a xs P → IsCut set a.honest.world (f a.honest) ys → IsCut set w (then_ a f) (xs ++ ys)
  later_cut first cut =
      let long = length-append xs cut.front in
      let full = cut.full in
      let count : a.honest.world.lines ≡ w.lines + length xs = ap (λ (v : World). v.lines) first.world ∙ run_counts set xs w in
      record {
        front = xs ++ cut.front;
        rest = cut.rest;
        lines = ap (λ (zs : List Line). xs ++ zs) cut.lines ∙ sym (append_assoc xs cut.front cut.rest);
        full = omega (arith, full, long, count);
        some = cut.some;
        said =
            ap (λ (zs : List Said). zs ++ (f a.honest).said) first.said ∙ ap (λ (zs : List Said). told set w xs ++ zs) cut.said
            ∙ ap (λ (v : World). told set w xs ++ told set v cut.front) first.world ∙ sym (told_append set xs cut.front w);
        long = cut.long;
      }

  both_play : Plays set w a xs P → Plays set a.honest.world (f a.honest) ys Q → Plays set w (then_ a f) (xs ++ ys) Q
  both_play first second = record {
    said =
        ap (λ (zs : List Said). zs ++ (f a.honest).said) first.said ∙ ap (λ (zs : List Said). told set w xs ++ zs) second.said
        ∙ ap (λ (v : World). told set w xs ++ told set v ys) first.world ∙ sym (told_append set xs ys w);
    world = second.world ∙ ap (λ (v : World). (run set v ys).world) first.world ∙ sym (ap (λ (r : Acted). r.world) (run_append set xs ys w));
    whole = second.whole;
    holds = second.holds;
  }

  pub then_fares : Fares set w a xs P → Stays f → (Plays set w a xs P → Fares set a.honest.world (f a.honest) ys Q) → Fares set w (then_ a f) (xs ++ ys) Q
  then_fares first stays more = elim first [
    | inl cut ↦ inl (then_cut stays cut)
    | inr played ↦ elim (more played) [ inl cut ↦ inl (later_cut played cut) | inr rest ↦ inr (both_play played rest) ]
  ]

pub then_silent : (a : Driven) (f : Honest → Driven) → IsSilent a → Stays f → IsSilent (then_ a f)
then_silent a f silent stays =
    let rest = stays a.honest silent.long in
    record { said = ap (λ (zs : List Said). zs ++ (f a.honest).said) silent.said ∙ rest.said; long = rest.long }

pub still_silent : (h : Honest) → h.long ≡ true → IsSilent (still h)
still_silent h cut = record { said = refl; long = cut }

pub still_fares : (set : Setting) (h : Honest) (P : Honest → Type 0) → IsWhole h → P h → Fares set h.world (still h) [] P
still_fares set h P whole holds = inr (record { said = refl; world = refl; whole = whole; holds = holds })

pub fares_as : (set : Setting) (w : World) (d : Driven) (ls : List Line) (P Q : Honest → Type 0) → (Plays set w d ls P → Q d.honest) → Fares set w d ls P → Fares set w d ls Q
fares_as set w d ls P Q f x = elim x [
  | inl cut ↦ inl cut
  | inr played ↦ inr (record { said = played.said; world = played.world; whole = played.whole; holds = f played })
]

-- one after the other of a single thing
pub each_one : {A : Type 0} (act : A → Honest → Driven) (x : A) (set : Setting) (h : Honest) (w : World) (ls : List Line) (P : Honest → Type 0)
    → Fares set w (act x h) ls P → Fares set w (each act (x ∷ []) h) ls P
each_one act x set h w ls P fares = elim fares [
  | inl cut ↦
      inl (record { front = cut.front; rest = cut.rest; lines = cut.lines; full = cut.full; some = cut.some; said = append-nil (act x h).said ∙ cut.said; long = cut.long })
  | inr played ↦ inr (record { said = append-nil (act x h).said ∙ played.said; world = played.world; whole = played.whole; holds = played.holds })
]

pub cut_many : (set : Setting) (w : World) (d : Driven) (ls : List Line) → IsCut set w d ls → 65536 < w.lines + length ls
cut_many set w d ls cut =
    let all = ap (λ (zs : List Line). length zs) cut.lines ∙ length-append cut.front cut.rest in
    let full = cut.full in
    let some = cut.some in
    omega (arith, all, full, some)

-- One line.

not_same : (a b : ℕ) → (a == b) ≡ false → a ≡ b → ⊥
not_same a b f e = let t : (a == b) ≡ true = eq-eqb a b e in cc

below : (a b : ℕ) → a ≤ b → (a ≡ b → ⊥) → a + 1 ≤ b
below a b le apart = omega (arith, le, apart)

either_way : (set : Setting) (l : Line) (h : Honest) → h.world.lines ≤ 65536 → (b : Bool) → (h.world.lines == 65536) ≡ b
    → Fares set h.world (if b then left_out h else performed l h (next set h.world l)) (l ∷ []) (Shows h.waiting (next set h.world l).items)
either_way set l h room true e = let full : h.world.lines ≡ 65536 = eqb-true h.world.lines 65536 e in
    inl (record { front = []; rest = l ∷ []; lines = refl; full = omega (arith, full); some = omega arith; said = refl; long = refl })
either_way set l h room false e =
    let a = next set h.world l in
    let one : a.world.lines ≡ h.world.lines + 1 = counts_lines set (line_counted h.world) l in
    let fits = below h.world.lines 65536 room (not_same h.world.lines 65536 e) in
    inr (record {
      said = ap (λ (zs : List Said). SaidLine l ∷ zs) (sym (append-nil (map SaidItem a.items)));
      world = refl;
      whole = record { uncut = refl; room = omega (arith, one, fits) };
      holds = record { waiting = refl; shown = refl };
    })

pub says_fares : (set : Setting) (l : Line) (h : Honest) → IsWhole h → Fares set h.world (says set l h) (l ∷ []) (Shows h.waiting (next set h.world l).items)
unfolding MOST_LINES
says_fares set l h whole =
    let P : Honest → Type 0 = Shows h.waiting (next set h.world l).items in
    let here : Fares set h.world (if h.world.lines == 65536 then left_out h else performed l h (next set h.world l)) (l ∷ []) P = either_way set l h whole.room (h.world.lines == 65536) refl in
    subst (λ (b : Bool). Fares set h.world (if b || (h.world.lines == 65536) then left_out h else performed l h (next set h.world l)) (l ∷ []) P) (sym whole.uncut) here
