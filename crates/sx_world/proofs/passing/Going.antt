-- Steps that the program does one by one.
use Rattle.std.proofs.Common.{◌≡◌, ℕ, suc, Bool, true, false, if◌then◌else◌, ◌||◌, List, ◌++◌, Some, sym, subst, ap, ◌∙◌, ◌∷◌, [], Option, None, Result, Ok, Err, OnOk, OnErr}
use Rattle.std.specs.Prelude.{slice_get}
use Rattle.std.specs.Option.{option_to_list}
use Rattle.std.proofs.lemmas.List.{append-nil}
use Rattle.sx_trace.specs.declared.items.Item.{Item}
use Rattle.spec_machine.specs.State.{State}
use Rattle.spec_machine.specs.Step.{step}
use Rattle.spec_run.specs.Setting.{Setting}
use Rattle.spec_run.specs.State.{World, Acted}
use Rattle.spec_run.specs.Acts.{at_node, after_step, then_, only}
use Rattle.spec_run.specs.Run.{is_reset, steps_of}
use Rattle.sx_world.specs.Held.{Running, Shows, Did, Wanted}
use Rattle.sx_observe.specs.Observing.{AddsFront}
use Rattle.sx_observe.proofs.Fronts.{front_more, front_same, Comes, comes_on, comes_all, comes_front}

-- of all the steps that are due, this many are left, and these items have come
pub record Going (set : Setting) (stops : State → Bool) (ends : List Item) (n all left : ℕ) (old now : Running) (before came : List Item) : Type 0 where
  pub goes : (w : World) → Shows set old w → (v : World) × Shows set now v
      × ((steps_of set stops ends n left v).world ≡ (steps_of set stops ends n all w).world)
      × Comes before came (steps_of set stops ends n left v).items (steps_of set stops ends n all w).items

-- the step is the last one
abbrev pub is_last : Setting → (State → Bool) → State → Bool
is_last set stops s = is_reset (step set.mac s).shown.event || stops (step set.mac s).state

-- what a world's next step leaves and shows
abbrev pub next : Setting → ℕ → World → Acted
next set n w = at_node w (after_step set w n) (slice_get w.nodes n)

first_of : (set : Setting) (stops : State → Bool) (ends : List Item) (n left k : ℕ) (v : World) (s : State) → left ≡ suc k → slice_get v.nodes n ≡ Some s
    → steps_of set stops ends n left v ≡ (if is_last set stops s then after_step set v n s else then_ (after_step set v n s) (steps_of set stops ends n k))
first_of set stops ends n left k v s e here =
    ap (λ i. steps_of set stops ends n i v) e
    ∙ ap (at_node v (λ s. if is_last set stops s then after_step set v n s else then_ (after_step set v n s) (steps_of set stops ends n k))) here

-- what a step shows of each world that the program's world shows
abbrev pub Steps : Setting → ℕ → Running → Running → List Item → List Item → Type 0
Steps set n now new came after = (v : World) → Shows set now v → Shows set new (next set n v).world × (after ≡ came ++ (next set n v).items)

did : (set : Setting) (n : ℕ) (now new : Running) (came after : List Item) (v : World) (s : State) → slice_get v.nodes n ≡ Some s → Shows set now v → Steps set n now new came after
    → Shows set new (after_step set v n s).world × (after ≡ came ++ (after_step set v n s).items)
did set n now new came after v s here h steps =
    subst (λ o. Shows set new (at_node v (after_step set v n) o).world × (after ≡ came ++ (at_node v (after_step set v n) o).items)) here (steps v h)

-- a step that isn't the last
pub going_on : (set : Setting) (stops : State → Bool) (ends : List Item) (n all left k : ℕ) (old now new : Running) (before came after : List Item) (s : State)
    → Going set stops ends n all left old now before came → left ≡ suc k → slice_get now.nodes n ≡ Some s → is_last set stops s ≡ false
    → Steps set n now new came after → Going set stops ends n all k old new before after
going_on set stops ends n all left k old now new before came after s going e there more steps = record {
  goes = λ w h.
      let g = going.goes w h in
      let v = g.0 in
      let here : slice_get v.nodes n ≡ Some s = ap (λ ns. slice_get ns n) (sym g.1.nodes) ∙ there in
      let d = did set n now new came after v s here g.1 steps in
      let whole : steps_of set stops ends n left v ≡ then_ (after_step set v n s) (steps_of set stops ends n k) =
      first_of set stops ends n left k v s e here ∙ ap (λ (d : Bool). if d then after_step set v n s else then_ (after_step set v n s) (steps_of set stops ends n k)) more in
      let u = (after_step set v n s).world in
      let rest = (steps_of set stops ends n k u).items in (
        u,
        d.0,
        sym (ap (λ (a : Acted). a.world) whole) ∙ g.2,
        comes_on before came after (after_step set v n s).items rest (steps_of set stops ends n left v).items (steps_of set stops ends n all w).items g.3 d.1 (ap (λ (a : Acted). a.items) whole),
      );
}

-- the last step
pub going_over : (set : Setting) (stops : State → Bool) (ends : List Item) (n all left k : ℕ) (old now new : Running) (before came after : List Item) (s : State)
    → Going set stops ends n all left old now before came → left ≡ suc k → slice_get now.nodes n ≡ Some s → is_last set stops s ≡ true
    → Steps set n now new came after
    → (w : World) → Shows set old w → Shows set new (steps_of set stops ends n all w).world × (after ≡ before ++ (steps_of set stops ends n all w).items)
going_over set stops ends n all left k old now new before came after s going e there last steps = λ w h.
    let g = going.goes w h in
    let v = g.0 in
    let here : slice_get v.nodes n ≡ Some s = ap (λ ns. slice_get ns n) (sym g.1.nodes) ∙ there in
    let d = did set n now new came after v s here g.1 steps in
    let whole : steps_of set stops ends n left v ≡ after_step set v n s =
    first_of set stops ends n left k v s e here ∙ ap (λ (d : Bool). if d then after_step set v n s else then_ (after_step set v n s) (steps_of set stops ends n k)) last in (
      subst (λ x. Shows set new x) (sym (ap (λ (a : Acted). a.world) whole) ∙ g.2) d.0,
      comes_all before came after (steps_of set stops ends n left v).items (steps_of set stops ends n all w).items g.3 (d.1 ∙ sym (ap (λ (a : Acted). came ++ a.items) whole)),
    )

starts : (set : Setting) (stops : State → Bool) (ends : List Item) (n k : ℕ) (v : World) (s : State) (b : Bool) (after came : List Item)
    → AddsFront came after (after_step set v n s).items
    → AddsFront came after (if b then after_step set v n s else then_ (after_step set v n s) (steps_of set stops ends n k)).items
starts set stops ends n k v s true after came f = f
starts set stops ends n k v s false after came f = front_more after came (after_step set v n s).items _ f

-- a step in which memory ran out
pub going_front : (set : Setting) (stops : State → Bool) (ends : List Item) (n all left k : ℕ) (old now : Running) (before came after : List Item) (s : State)
    → Going set stops ends n all left old now before came → left ≡ suc k → slice_get now.nodes n ≡ Some s
    → ((v : World) → Shows set now v → AddsFront came after (next set n v).items)
    → (w : World) → Shows set old w → AddsFront before after (steps_of set stops ends n all w).items
going_front set stops ends n all left k old now before came after s going e there front = λ w h.
    let g = going.goes w h in
    let v = g.0 in
    let here : slice_get v.nodes n ≡ Some s = ap (λ ns. slice_get ns n) (sym g.1.nodes) ∙ there in
    let f : AddsFront came after (after_step set v n s).items = subst (λ o. AddsFront came after (at_node v (after_step set v n) o).items) here (front v g.1) in
    let all_of = starts set stops ends n k v s (is_last set stops s) after came f in
    comes_front before came after (steps_of set stops ends n left v).items (steps_of set stops ends n all w).items g.3
    (subst (λ (a : Acted). AddsFront came after a.items) (sym (first_of set stops ends n left k v s e here)) all_of)

-- all steps were taken, and the items after them were added
pub going_end : {T E : Type 0} (set : Setting) (stops : State → Bool) (ends : List Item) (n all left : ℕ) (old now : Running) (before came after : List Item) (r : Result T E)
    → Going set stops ends n all left old now before came → left ≡ 0 → OnOk r (after ≡ came ++ ends) → OnOk r (Did set old now before after (steps_of set stops ends n all))
going_end set stops ends n all left old now before came after (Ok x) going e h = λ w shown.
    let g = going.goes w shown in
    let none : steps_of set stops ends n left g.0 ≡ only g.0 ends = ap (λ i. steps_of set stops ends n i g.0) e in (
      subst (λ x. Shows set now x) (sym (ap (λ (a : Acted). a.world) none) ∙ g.2) g.1,
      comes_all before came after (steps_of set stops ends n left g.0).items (steps_of set stops ends n all w).items g.3 (h ∙ sym (ap (λ (a : Acted). came ++ a.items) none)),
    )
going_end set stops ends n all left old now before came after (Err x) going e h = tt

pub going_none : {T E : Type 0} (set : Setting) (stops : State → Bool) (ends : List Item) (n all left : ℕ) (old now : Running) (before came after : List Item) (r : Result T E)
    → Going set stops ends n all left old now before came → OnErr r (after ≡ came) → OnErr r (Wanted set old before after (steps_of set stops ends n all))
going_none set stops ends n all left old now before came after (Ok x) going h = tt
going_none set stops ends n all left old now before came after (Err x) going h = λ w shown.
    let g = going.goes w shown in
    comes_front before came after (steps_of set stops ends n left g.0).items (steps_of set stops ends n all w).items g.3 (front_same after came (steps_of set stops ends n left g.0).items h)

-- all steps were taken, and no item is due after them
pub going_done : (set : Setting) (stops : State → Bool) (end : Option Item) (n all left : ℕ) (old now : Running) (before came : List Item)
    → Going set stops (option_to_list end) n all left old now before came → left ≡ 0 → end ≡ None → Did set old now before came (steps_of set stops (option_to_list end) n all)
going_done set stops end n all left old now before came going e h = λ w shown.
    let g = going.goes w shown in
    let none : steps_of set stops (option_to_list end) n left g.0 ≡ only g.0 (option_to_list end) = ap (λ i. steps_of set stops (option_to_list end) n i g.0) e in (
      subst (λ x. Shows set now x) (sym (ap (λ (a : Acted). a.world) none) ∙ g.2) g.1,
      comes_all before came came (steps_of set stops (option_to_list end) n left g.0).items (steps_of set stops (option_to_list end) n all w).items g.3
          (sym (ap (λ o. came ++ option_to_list o) h ∙ append-nil came) ∙ sym (ap (λ (a : Acted). came ++ a.items) none)),
    )

-- the last item
pub went_on : {T E : Type 0} (r : Result T E) (came after : List Item) (end : Option Item) (item : Item)
    → end ≡ Some item → OnOk r (after ≡ came ++ item ∷ []) → OnOk r (after ≡ came ++ option_to_list end)
went_on (Ok x) came after end item e h = h ∙ sym (ap (λ o. came ++ option_to_list o) e)
went_on (Err x) came after end item e h = tt
