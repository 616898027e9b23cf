-- The timeline without a line, and one with a line more.
use Rattle.std.proofs.Common.{◌≡◌, ◌∙◌, ◌⊎◌, inl, inr, ℕ, zero, suc, ◌+◌, ◌-◌, ◌*◌, ◌<◌, ◌≤◌, List, [], ◌∷◌, ◌++◌, length, take, refl, sym, ap, subst, arith}
use Rattle.std.proofs.Common.{false, Some, add-mul, mul-le-mul_right}
use Rattle.std.specs.Prelude.{slice_get, OnErr, OnOk, Result, Ok, Err}
use Rattle.std.proofs.lemmas.List.{take-append-le, length_push}
use Rattle.std.proofs.lemmas.Option.{slice_get_within}
use Rattle.std.proofs.Math.Seq.{take-length}
use Rattle.sx_tag.specs.Mac.{Mac}
use Rattle.sx_sched.specs.Lines.{Line}
use Rattle.sx_sched.specs.InForm.{IsLine}
use Rattle.sx_deploy.specs.Deployment.{Deployed}
use Rattle.sx_deploy.specs.Law.{IsSoundDeployment}
use Rattle.spec_run.specs.Setting.{Site}
use Rattle.spec_run.specs.State.{switched_on}
use Rattle.spec_run.specs.Accepted.{setting, setting_of}
use Rattle.spec_run.specs.Law.{IsSoundSetting}
use Rattle.sx_world.specs.Held.{Held}
use Rattle.sx_world.specs.Standing.{Stands}
use Rattle.sx_snap.specs.Kept.{Kept, first_sites}
use Rattle.sx_snap.specs.Checkpoints.{IsTimeline, StandsAfter}
use Rattle.sx_snap.proofs.Stretches.{formed_more}

take_none : (n : ℕ) → ◌≡◌ {A = List Line} (take n []) []
take_none zero = refl
take_none (suc n) = refl

-- a further checkpoint leaves the first one
pub first_kept : (checkpoints : List Held) (held : Held) → 1 ≤ length checkpoints → first_sites (checkpoints ++ held ∷ []) ≡ first_sites checkpoints
first_kept [] held h = absurd (omega (arith, h))
first_kept (x ∷ checkpoints) held h = refl

pub on_ok : {T E : Type 0} (r : Result T E) (X : Type 0) → X → OnOk r X
on_ok (Ok v) X x = x
on_ok (Err e) X x = tt

-- the only element
only : (x h : Held) (i : ℕ) → slice_get (x ∷ []) i ≡ Some h → x ≡ h
only x h zero e = cc
only x h (suc i) e = absurd (cc e)

-- an element of a list with one more is an old one or the last
at_end : (xs : List Held) (x h : Held) (i : ℕ) → slice_get (xs ++ x ∷ []) i ≡ Some h → (slice_get xs i ≡ Some h) ⊎ ((i ≡ length xs) × (x ≡ h))
at_end [] x h zero e = inr (refl, cc)
at_end [] x h (suc i) e = absurd (cc e)
at_end (y ∷ xs) x h zero e = inl e
at_end (y ∷ xs) x h (suc i) e = elim (at_end xs x h i e) [
  | inl old ↦ inl old
  | inr last ↦ inr (ap suc last.0, last.1)
]

module _ (mac : Mac) (d : Deployed) where
  -- no line, and one checkpoint, where all is switched on
  pub first_timeline : (texts : List (List ℕ)) (world : Held) (checkpoints : List Held) (every : ℕ) → IsSoundDeployment d → IsSoundSetting (setting_of mac d texts) → 1 ≤ every
      → checkpoints ≡ world ∷ []
      → world.sites ≡ (setting_of mac d texts).sites → world.ran_out ≡ false → world.performed ≡ 0
      → Stands (setting_of mac d texts) world (switched_on (setting_of mac d texts))
      → IsTimeline mac d (record { sites = first_sites checkpoints; lines = []; every = every; checkpoints = checkpoints })
  first_timeline texts world checkpoints every sound images some one sites goes none stands =
      let long : length checkpoints ≡ 1 = ap length one in
      let all : length checkpoints * every ≡ every = ap (λ (n : ℕ). n * every) long ∙ omega arith in
      let set = setting mac d (first_sites checkpoints) in
      let P : List Site → Type 0 = λ s. Stands (setting mac d s) world (switched_on (setting mac d s)) in
      let its : first_sites checkpoints ≡ world.sites = ap first_sites one in
      let here : StandsAfter set [] world = record { sites = sym its; memory = goes; count = none; stands = subst P (sym (its ∙ sites)) stands } in
      let Q : List Site → Type 0 = λ s. IsSoundSetting (setting mac d s) in
      record {
        sound = sound;
        images = subst Q (sym (its ∙ sites)) images;
        some = some;
        few = omega arith;
        formed = tt;
        last = omega (arith, all);
        next = omega (arith, all, some);
        checkpoint = λ i held e.
            let is : world ≡ held = only world held i (ap (λ (xs : List Held). slice_get xs i) (sym one) ∙ e) in
            subst (λ (lines : List Line). StandsAfter set lines held) (sym (take_none (i * every))) (subst (λ (h : Held). StandsAfter set [] h) is here);
      }

  -- there is a checkpoint after lines that are there
  within : (t : Kept) (i : ℕ) (held : Held) → IsTimeline mac d t → slice_get t.checkpoints i ≡ Some held → i * t.every ≤ length t.lines
  within t i held is e =
      let lt = slice_get_within t.checkpoints i held e in
      let up : (i + 1) * t.every ≤ length t.checkpoints * t.every = mul-le-mul_right t.every (omega (arith, lt)) in
      let more : (i + 1) * t.every ≡ i * t.every + 1 * t.every = add-mul i 1 t.every in
      let last = is.last in
      omega (arith, up, more, last)

  old_checkpoint : (t : Kept) (line : Line) (i : ℕ) (held : Held) → IsTimeline mac d t → slice_get t.checkpoints i ≡ Some held
      → StandsAfter (setting mac d t.sites) (take (i * t.every) (t.lines ++ line ∷ [])) held
  old_checkpoint t line i held is e =
      let P : List Line → Type 0 = λ lines. StandsAfter (setting mac d t.sites) lines held in
      subst P (sym (take-append-le (i * t.every) t.lines (line ∷ []) (within t i held is e))) (is.checkpoint i held e)

  -- a line more, and no further checkpoint
  pub pushed : (t : Kept) (line : Line) → IsTimeline mac d t → IsLine d.names line → length t.lines < 65536 → length t.lines + 1 < length t.checkpoints * t.every
      → IsTimeline mac d (record { sites = t.sites; lines = t.lines ++ line ∷ []; every = t.every; checkpoints = t.checkpoints })
  pushed t line is form few room =
      let long = length_push t.lines line in
      let last = is.last in
      record {
        sound = is.sound;
        images = is.images;
        some = is.some;
        few = omega (arith, long, few);
        formed = formed_more d.names t.lines line is.formed form;
        last = omega (arith, long, last);
        next = omega (arith, long, room);
        checkpoint = λ i held e. old_checkpoint t line i held is e;
      }

  -- a line more, and a checkpoint
  pub pushed_both : (t : Kept) (line : Line) (held : Held) → IsTimeline mac d t → IsLine d.names line → length t.lines < 65536
      → length t.lines + 1 ≡ length t.checkpoints * t.every → StandsAfter (setting mac d t.sites) (t.lines ++ line ∷ []) held
      → IsTimeline mac d (record { sites = t.sites; lines = t.lines ++ line ∷ []; every = t.every; checkpoints = t.checkpoints ++ held ∷ [] })
  pushed_both t line held is form few full here =
      let long = length_push t.lines line in
      let many = length_push t.checkpoints held in
      let times : length (t.checkpoints ++ held ∷ []) * t.every ≡ length t.checkpoints * t.every + 1 * t.every =
      ap (λ (n : ℕ). n * t.every) many ∙ add-mul (length t.checkpoints) 1 t.every in
      let some = is.some in
      record {
        sound = is.sound;
        images = is.images;
        some = is.some;
        few = omega (arith, long, few);
        formed = formed_more d.names t.lines line is.formed form;
        last = omega (arith, long, times, full);
        next = omega (arith, long, times, full, some);
        checkpoint = λ i h e. elim (at_end t.checkpoints held h i e) [
          | inl old ↦ old_checkpoint t line i h is old
          | inr new ↦
              let whole : take (i * t.every) (t.lines ++ line ∷ []) ≡ t.lines ++ line ∷ [] =
              ap (λ (n : ℕ). take n (t.lines ++ line ∷ [])) (ap (λ (n : ℕ). n * t.every) new.0 ∙ sym full ∙ sym long) ∙ take-length (t.lines ++ line ∷ []) in
              subst (λ (lines : List Line). StandsAfter (setting mac d t.sites) lines h) (sym whole)
              (subst (λ (w : Held). StandsAfter (setting mac d t.sites) (t.lines ++ line ∷ []) w) new.1 here)
        ];
      }

  -- both ways in which a call may end leave a timeline
  pub either_way : {T E : Type 0} (r : Result T E) (old new longer : Kept) → OnOk r (new ≡ longer) → OnErr r (new ≡ old) → IsTimeline mac d old → IsTimeline mac d longer
      → IsTimeline mac d new
  either_way (Ok x) old new longer e f was is = subst (λ (k : Kept). IsTimeline mac d k) (sym e) is
  either_way (Err x) old new longer e f was is = subst (λ (k : Kept). IsTimeline mac d k) (sym f) was
