-- What was recognized stays true, whatever happens to a node, and says which module a section is.
use Rattle.std.proofs.Common.{◌≡◌, ℕ, zero, suc, ◌<◌, ◌≤◌, ◌⊎◌, inl, inr, List, [], ◌∷◌, Option, Some, None, refl, sym, ◌∙◌, ap, subst, arith}
use Rattle.std.specs.Prelude.{option_and_then, option_map, replicate, slice_get, slice_set}
use Rattle.std.proofs.lemmas.Bool.{cases_eq}
use Rattle.lemmas.proofs.Lists.{get_same}
use Rattle.sx_rules.specs.declared.section.Section.{Section}
use Rattle.sx_rules.specs.Access.{Sections, Lives, section_of}
use Rattle.sx_rules.specs.Placed.{AllSound, Placed}
use Rattle.sx_rules.proofs.Placing.{placed_found}
use Rattle.sx_tag.specs.Mac.{Mac}
use Rattle.spec_machine.specs.declared.kinds.Event.{Event}
use Rattle.spec_machine.specs.declared.kinds.Event.TheVariants as event
use Rattle.spec_machine.specs.State.{State, reset}
use Rattle.spec_machine.specs.Step.{step}
use Rattle.spec_machine.specs.Acting.{Act, Step, Restart, Put, Set, Take, Sense, Interrupt, acted}
use Rattle.spec_machine.specs.Events.{Says}
use Rattle.spec_machine.proofs.Apart.{lives_push, lives_without}
use Rattle.spec_machine.proofs.Boots.{boots_count}
use Rattle.spec_machine.proofs.Meanings.{steps_say, others_keep_sections}
use Rattle.spec_machine.proofs.PublicKept.{public_kept}
use Rattle.spec_machine.proofs.RunGuard.{lives_given}
use Rattle.spec_machine.proofs.Stays.{found_lives, lives_below}
use Rattle.spec_run.proofs.steps.Machine.{public_same}
use Rattle.spec_run.proofs.tie.Lists.{get_other, some_inj}
use Rattle.spec_run.specs.Setting.{Site, deployed, module_of}
use Rattle.sx_observe.specs.declared.recognized.Recognized.{Recognized}
use Rattle.sx_observe.specs.Recognized.{IsRecognized, AreRecognized, none_recognized}
use Rattle.sx_observe.proofs.Runners.{deployed_same}

-- no id was given twice: a section that lives afterwards lived before, or has the next id
record Later (t u : Sections) : Type 0 where
  next : t.next ≤ u.next
  lives : (x : Section) → Lives u.live x → Lives t.live x ⊎ (x.id ≡ t.next)

same_later : (t u : Sections) → u ≡ t → Later t u
same_later t u e = record {
  next = let n = ap (λ (z : Sections). z.next) e in omega (arith, n);
  lives = λ x l. inl (subst (λ (z : Sections). Lives z.live x) e l);
}

reset_later : (a b : State) → b.boot ≡ a.boot → b ≡ reset a → Later a.sections b.sections
reset_later a b n r = record {
  next = let e = ap (λ (z : State). z.boot) r in absurd (omega (arith, n, e));
  lives = λ x l. absurd (subst (λ (z : State). Lives z.sections.live x) r l);
}

step_later : (mac : Mac) (a b : State) (e : Event) → b.boot ≡ a.boot → Says mac a b e → Later a.sections b.sections
step_later mac a b event.Quiet n says = same_later a.sections b.sections says
step_later mac a b (event.Reset v) n says = reset_later a b n says
step_later mac a b (event.Protected id) n says = record {
  next = let k = ap (λ (z : Sections). z.next) says.sections in omega (arith, k);
  lives = λ x l. elim (lives_push a.sections.live _ x (subst (λ (z : Sections). Lives z.live x) says.sections l)) [
    | inl old ↦ inl old
    | inr new ↦ inr (sym (ap (λ (z : Section). z.id) new))
  ];
}
step_later mac a b (event.Removed id) n says = record {
  next = let k = ap (λ (z : Sections). z.next) says.sections in omega (arith, k);
  lives = λ x l. inl (lives_without a.sections.live id x (subst (λ (z : Sections). Lives z.live x) says.sections l));
}
step_later mac a b (event.Wrapped id) n says = same_later a.sections b.sections says.1
step_later mac a b (event.Unwrapped id) n says = same_later a.sections b.sections says.1
step_later mac a b (event.Left id) n says = same_later a.sections b.sections says.2

other_later : (a b : State) → b.boot ≡ a.boot → (b.sections ≡ a.sections) ⊎ (b ≡ reset a) → Later a.sections b.sections
other_later a b n (inl same) = same_later a.sections b.sections same
other_later a b n (inr r) = reset_later a b n r

acted_later : (mac : Mac) (act : Act) (a : State) → Placed a.sections → (acted mac act a).state.boot ≡ a.boot → Later a.sections (acted mac act a).state.sections
acted_later mac Step a p n = step_later mac a (step mac a).state (step mac a).shown.event n (steps_say mac a p)
acted_later mac Restart a p n = reset_later a (reset a) n refl
acted_later mac (Put at bytes) a p n = other_later a (acted mac (Put at bytes) a).state n (others_keep_sections mac (Put at bytes) a tt)
acted_later mac (Set r v) a p n = other_later a (acted mac (Set r v) a).state n (others_keep_sections mac (Set r v) a tt)
acted_later mac (Take at k) a p n = other_later a (acted mac (Take at k) a).state n (others_keep_sections mac (Take at k) a tt)
acted_later mac (Sense device v) a p n = other_later a (acted mac (Sense device v) a).state n (others_keep_sections mac (Sense device v) a tt)
acted_later mac (Interrupt line) a p n = other_later a (acted mac (Interrupt line) a).state n (others_keep_sections mac (Interrupt line) a tt)

-- a section that lived before, at the same boot
old_section : (mac : Mac) (act : Act) (sites : List Site) (a : State) (r : Recognized) (x : Section) → Placed a.sections → IsRecognized sites a r → r.boot ≡ a.boot
    → Lives a.sections.live x → Lives (acted mac act a).state.sections.live x → x.id ≡ r.id → deployed sites r.node (acted mac act a).state.mem x ≡ Some r.part
old_section mac act sites a r x p h e l m i = elim (public_kept mac act a x p l) [
  | inl f ↦ deployed_same sites r.node 0 a.mem (acted mac act a).state.mem x (public_same x a.mem (acted mac act a).state.mem f) ∙ h.is e x l i
  | inr s ↦ absurd (subst (λ (z : State). Lives z.sections.live x) s m)
]

same_boot : (mac : Mac) (act : Act) (sites : List Site) (a : State) (r : Recognized) → Placed a.sections → (acted mac act a).state.boot ≡ a.boot
    → IsRecognized sites a r → IsRecognized sites (acted mac act a).state r
same_boot mac act sites a r p s h =
    let later = acted_later mac act a p s in record {
      boot = omega (arith, h.boot, s);
      given = λ e. let g = h.given (e ∙ s) in omega (arith, g, later.next);
      is = λ e x m i. elim (later.lives x m) [
        | inl l ↦ old_section mac act sites a r x p h (e ∙ s) l m i
        | inr j ↦ let g = h.given (e ∙ s) in absurd (omega (arith, g, i, j))
      ];
    }

later_boot : (sites : List Site) (a b : State) (r : Recognized) → a.boot ≤ b.boot → (b.boot ≡ a.boot → ⊥) → IsRecognized sites a r → IsRecognized sites b r
later_boot sites a b r le other h =
    let none : r.boot ≡ b.boot → ⊥ = λ e. other (omega (arith, e, h.boot, le)) in record {
      boot = omega (arith, h.boot, le);
      given = λ e. absurd (none e);
      is = λ e x l i. absurd (none e);
    }

-- it stays true, whatever happens to the node
pub recognized_stays : (mac : Mac) (act : Act) (sites : List Site) (a : State) (r : Recognized) → Placed a.sections → IsRecognized sites a r → IsRecognized sites (acted mac act a).state r
recognized_stays mac act sites a r p h = elim (cases_eq (acted mac act a).state.boot a.boot) [
  | inl same ↦ same_boot mac act sites a r p same h
  | inr other ↦ later_boot sites a (acted mac act a).state r (boots_count mac act a).0 other h
]

-- so does each, whatever happens to a node
pub all_stay : (mac : Mac) (act : Act) (sites : List Site) (nodes : List State) (n : ℕ) (s : State) (those : List Recognized) → slice_get nodes n ≡ Some s → Placed s.sections
    → AreRecognized sites nodes those → AreRecognized sites (slice_set nodes n (acted mac act s).state) those
all_stay mac act sites nodes n s those here placed all i r e a there =
    let t = (acted mac act s).state in
    elim (cases_eq r.node n) [
      | inl same ↦
          let found : t ≡ a = some_inj t a (sym (get_same nodes n t s here) ∙ ap (λ (k : ℕ). slice_get (slice_set nodes n t) k) (sym same) ∙ there) in
          subst (λ (z : State). IsRecognized sites z r) found (recognized_stays mac act sites s r placed (all i r e s (ap (λ (k : ℕ). slice_get nodes k) same ∙ here)))
      | inr other ↦ all i r e a (sym (get_other nodes n r.node t other) ∙ there)
    ]

-- at its boot it says which module the live section with its id is
answered : (sites : List Site) (a : State) (r : Recognized) (o : Option Section) → section_of a.sections.live r.id ≡ o → IsRecognized sites a r → r.boot ≡ a.boot
    → option_map (λ x. r.part) o ≡ option_and_then (deployed sites r.node a.mem) o
answered sites a r None e h b = refl
answered sites a r (Some x) e h b = let l = found_lives a.sections.live r.id x e in sym (h.is b x l.0 l.1)

pub recognized_answers : (sites : List Site) (nodes : List State) (those : List Recognized) (n id i : ℕ) (a : State) (r : Recognized) → slice_get those i ≡ Some r → slice_get nodes n ≡ Some a
    → r.node ≡ n → r.boot ≡ a.boot → r.id ≡ id → AreRecognized sites nodes those → option_map (λ x. r.part) (section_of a.sections.live id) ≡ module_of sites n a id
recognized_answers sites nodes those n id i a r e here at boot same all =
    let h = all i r e a (ap (λ (k : ℕ). slice_get nodes k) at ∙ here) in
    subst (λ (k : ℕ). option_map (λ x. r.part) (section_of a.sections.live k) ≡ module_of sites n a k) same
    (subst (λ (k : ℕ). option_map (λ x. r.part) (section_of a.sections.live r.id) ≡ module_of sites k a r.id) at (answered sites a r (section_of a.sections.live r.id) refl h boot))

-- what was found is recognized
found : (sites : List Site) (n : ℕ) (a : State) (id part : ℕ) (o : Option Section) → Placed a.sections → section_of a.sections.live id ≡ o
    → option_and_then (deployed sites n a.mem) o ≡ Some part → IsRecognized sites a (record { node = n; boot = a.boot; id = id; part = part })
found sites n a id part None p e h = absurd cc
found sites n a id part (Some x) p e h =
    let f = found_lives a.sections.live id x e in
    let below : x.id < a.sections.next = lives_below a.sections.next a.sections.live x p.each f.0 in
    record {
      boot = omega arith;
      given = λ b. let i = f.1 in omega (arith, below, i);
      is = λ b y l i.
          let here : section_of a.sections.live id ≡ Some y = subst (λ (k : ℕ). section_of a.sections.live k ≡ Some y) i (placed_found a.sections y p l) in
          subst (λ (z : Section). deployed sites n a.mem z ≡ Some part) (some_inj x y (sym e ∙ here)) h;
    }

-- one more is kept at a place
set_either : {X : Type 0} → (xs : List X) (i j : ℕ) (v x : X) → slice_get (slice_set xs i v) j ≡ Some x → (x ≡ v) ⊎ (slice_get xs j ≡ Some x)
set_either [] i j v x e = inr e
set_either (y ∷ xs) zero zero v x e = inl (some_inj x v (sym e))
set_either (y ∷ xs) zero (suc j) v x e = inr e
set_either (y ∷ xs) (suc i) zero v x e = inr e
set_either (y ∷ xs) (suc i) (suc j) v x e = set_either xs i j v x e

all_with : (sites : List Site) (nodes : List State) (those : List Recognized) (i : ℕ) (r : Recognized) → AreRecognized sites nodes those
    → ((a : State) → slice_get nodes r.node ≡ Some a → IsRecognized sites a r) → AreRecognized sites nodes (slice_set those i r)
all_with sites nodes those i r all new j q e = elim (set_either those i j r q e) [
  | inl same ↦ subst (λ (z : Recognized). (a : State) → slice_get nodes z.node ≡ Some a → IsRecognized sites a z) (sym same) new
  | inr old ↦ all j q old
]

pub found_recognized : (sites : List Site) (nodes : List State) (those : List Recognized) (n id part i : ℕ) (a : State) (o : Option ℕ) → slice_get nodes n ≡ Some a → Placed a.sections
    → o ≡ module_of sites n a id → o ≡ Some part → AreRecognized sites nodes those → AreRecognized sites nodes (slice_set those i (record { node = n; boot = a.boot; id = id; part = part }))
found_recognized sites nodes those n id part i a o here placed said is all =
    let r : Recognized = record { node = n; boot = a.boot; id = id; part = part } in
    all_with sites nodes those i r all (λ b there.
    subst (λ (z : State). IsRecognized sites z r) (some_inj a b (sym here ∙ there)) (found sites n a id part (section_of a.sections.live id) placed refl (sym said ∙ is)))

get_replicate : {X : Type 0} → (k i : ℕ) (x y : X) → slice_get (replicate k x) i ≡ Some y → y ≡ x
get_replicate zero i x y e = absurd cc
get_replicate (suc k) zero x y e = some_inj y x (sym e)
get_replicate (suc k) (suc i) x y e = get_replicate k i x y e

-- nothing was recognized yet
pub first_recognized : (sites : List Site) (nodes : List State) → ((n : ℕ) (a : State) → slice_get nodes n ≡ Some a → Placed a.sections) → AreRecognized sites nodes none_recognized
first_recognized sites nodes placed i r e a here =
    let none : Recognized = record { node = 0; boot = 0; id = 0; part = 0 } in
    let p = placed r.node a here in
    subst (λ (z : Recognized). IsRecognized sites a z) (sym (get_replicate 64 i none r e)) (record {
      boot = omega arith;
      given = λ b. p.first;
      is = λ b x l z. let g = lives_given a.sections.next a.sections.live x p.each l in absurd (omega (arith, g, z));
    })
