-- Acts that the program does one after the other.
use Rattle.std.proofs.Common.{◌≡◌, List, [], ◌++◌, Result, Ok, Err, OnOk, OnErr, refl, sym, subst, ap, ◌∙◌}
use Rattle.std.proofs.lemmas.List.{append_assoc, append-nil}
use Rattle.sx_trace.specs.declared.items.Item.{Item}
use Rattle.spec_run.specs.Setting.{Setting}
use Rattle.spec_run.specs.State.{World, Acted}
use Rattle.spec_run.specs.Acts.{only, then_}
use Rattle.sx_world.specs.Held.{Running, Shows, Did, Wanted, DoesAct}
use Rattle.sx_observe.specs.Observing.{AddsFront}
use Rattle.sx_observe.proofs.Fronts.{front_more, front_next, Comes, comes_first, comes_on, comes_all, comes_front}

-- an act that was done, and then what follows
pub then_did : (set : Setting) (old mid new : Running) (before among after : List Item) (a b : World → Acted)
    → Did set old mid before among a → Did set mid new among after b → Did set old new before after (λ w. then_ (a w) b)
then_did set old mid new before among after a b first next = λ w h.
    let d = first w h in
    let e = next (a w).world d.0 in
    (e.0, e.1 ∙ ap (λ z. z ++ (b (a w).world).items) d.1 ∙ append_assoc before (a w).items (b (a w).world).items)

pub then_wanted : (set : Setting) (old mid : Running) (before among after : List Item) (a b : World → Acted)
    → Did set old mid before among a → Wanted set mid among after b → Wanted set old before after (λ w. then_ (a w) b)
then_wanted set old mid before among after a b first next = λ w h.
    let d = first w h in
    front_next after among before (a w).items (b (a w).world).items d.1 (next (a w).world d.0)

-- an act in which memory ran out
pub first_wanted : (set : Setting) (old : Running) (before after : List Item) (a b : World → Acted) → Wanted set old before after a → Wanted set old before after (λ w. then_ (a w) b)
first_wanted set old before after a b first = λ w h. front_more after before (a w).items (b (a w).world).items (first w h)

-- in either case what follows
pub then_does : {X E : Type 0} (set : Setting) (r : Result X E) (old mid new : Running) (before among after : List Item) (a b : World → Acted)
    → Did set old mid before among a → DoesAct set r mid new among after b → DoesAct set r old new before after (λ w. then_ (a w) b)
then_does set (Ok x) old mid new before among after a b first next = then_did set old mid new before among after a b first next
then_does set (Err e) old mid new before among after a b first next = then_wanted set old mid before among after a b first next

-- an act by its two outcomes
pub does_both : {X E : Type 0} (set : Setting) (r : Result X E) (old new : Running) (before after : List Item) (act : World → Acted)
    → OnOk r (Did set old new before after act) → OnErr r (Wanted set old before after act) → DoesAct set r old new before after act
does_both set (Ok x) old new before after act done front = done
does_both set (Err e) old new before after act done front = front

-- and where they hold of every setting
pub does_any : {X E : Type 0} (set : Setting) (r : Result X E) (old new : Running) (before after : List Item) (act : World → Acted)
    → OnOk r ((s : Setting) → Did s old new before after act) → OnErr r ((s : Setting) → Wanted s old before after act) → DoesAct set r old new before after act
does_any set (Ok x) old new before after act done front = done set
does_any set (Err e) old new before after act done front = front set

-- the same act, said otherwise
pub does_same : {X E : Type 0} (set : Setting) (r : Result X E) (old new : Running) (before after : List Item) (act said : World → Acted)
    → ((w : World) → Shows set old w → act w ≡ said w) → DoesAct set r old new before after act → DoesAct set r old new before after said
does_same set (Ok x) old new before after act said same does = λ w h. subst (λ (a : Acted). Shows set new a.world × (after ≡ before ++ a.items)) (same w h) (does w h)
does_same set (Err e) old new before after act said same does = λ w h. subst (λ (a : Acted). AddsFront before after a.items) (same w h) (does w h)

-- Of an act this much is left, and these items have come.
pub record Remains (set : Setting) (act rest : World → Acted) (old now : Running) (before came : List Item) : Type 0 where
  pub goes : (w : World) → Shows set old w → (v : World) × Shows set now v × ((rest v).world ≡ (act w).world) × Comes before came (rest v).items (act w).items

-- nothing was done yet
pub remains_first : (set : Setting) (act : World → Acted) (old : Running) (before : List Item) → Remains set act act old old before before
remains_first set act old before = record { goes = λ w h. (w, h, refl, comes_first before (act w).items) }

pub remains_start : (set : Setting) (act rest : World → Acted) (old : Running) (before : List Item) → act ≡ rest → Remains set act rest old old before before
remains_start set act rest old before same = subst (λ (r : World → Acted). Remains set act r old old before before) same (remains_first set act old before)

-- one more part was done
pub remains_on : (set : Setting) (act left part rest : World → Acted) (old now new : Running) (before came after : List Item)
    → Remains set act left old now before came → left ≡ (λ w. then_ (part w) rest) → Did set now new came after part
    → Remains set act rest old new before after
remains_on set act left part rest old now new before came after remains e did = record {
  goes = λ w h.
      let g = remains.goes w h in
      let v = g.0 in
      let d = did v g.1 in
      let whole : left v ≡ then_ (part v) rest = ap (λ (f : World → Acted). f v) e in
      let more = (rest (part v).world).items in (
        (part v).world,
        d.0,
        ap (λ (a : Acted). a.world) (sym whole) ∙ g.2,
        comes_on before came after (part v).items more (left v).items (act w).items g.3 d.1 (ap (λ (a : Acted). a.items) whole),
      );
}

-- a part in which memory ran out
pub remains_wanted : (set : Setting) (act left part rest : World → Acted) (old now : Running) (before came after : List Item)
    → Remains set act left old now before came → left ≡ (λ w. then_ (part w) rest) → Wanted set now came after part → Wanted set old before after act
remains_wanted set act left part rest old now before came after remains e wanted = λ w h.
    let g = remains.goes w h in
    let v = g.0 in
    let whole : left v ≡ then_ (part v) rest = ap (λ (f : World → Acted). f v) e in
    comes_front before came after (left v).items (act w).items g.3
    (subst (λ (a : Acted). AddsFront came after a.items) (sym whole) (front_more after came (part v).items (rest (part v).world).items (wanted v g.1)))

-- nothing is left
pub remains_none : (set : Setting) (act left : World → Acted) (old now : Running) (before came : List Item)
    → Remains set act left old now before came → left ≡ (λ w. only w []) → Did set old now before came act
remains_none set act left old now before came remains e = λ w h.
    let g = remains.goes w h in
    let none : left g.0 ≡ only g.0 [] = ap (λ (f : World → Acted). f g.0) e in (
      subst (λ x. Shows set now x) (sym (ap (λ (a : Acted). a.world) none) ∙ g.2) g.1,
      comes_all before came came (left g.0).items (act w).items g.3 (sym (append-nil came) ∙ ap (λ (a : Acted). came ++ a.items) (sym none)),
    )
