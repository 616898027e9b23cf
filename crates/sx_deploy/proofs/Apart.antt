-- Modules that rule 10 lets through are apart, and no two drive one device.
use Rattle.std.proofs.Common.{◌≡◌, ℕ, ◌+◌, ◌==◌, if◌then◌else◌, Bool, true, false, ◌||◌, ◌&&◌, List, [], ◌∷◌, ◌++◌, length, Some, None, Ok, refl, sym, ap}
use Rattle.std.proofs.Common.{subst, ◌∙◌, arith, append_assoc, append-nil, length-append}
use Rattle.std.specs.List.{list_any}
use Rattle.std.proofs.lemmas.Bool.Decides.{nat_tests}
use Rattle.std.proofs.lemmas.Bool.{eq-eqb, or_parts}
use Rattle.sx_mean.specs.declared.apps.Link.{Link}
use Rattle.sx_entries.specs.Stage.{made_after}
use Rattle.sx_entries.specs.declared.fault.Sort.TheVariants.{Module}
use Rattle.sx_entries.proofs.Each.{Each, bind-Ok, each-snoc}
use Rattle.sx_entries.proofs.Tested.{made-keeps}
use Rattle.sx_entries.specs.declared.entries.DeviceEntry.{DeviceEntry}
use Rattle.sx_entries.proofs.Kept.{in_entry-Ok}
use Rattle.sx_deploy.specs.declared.placing.Placement.{Placement}
use Rattle.sx_deploy.specs.Sources.{Coded}
use Rattle.sx_deploy.specs.Places.{ModuleSections, Span, data_of, is_misplaced, is_outside, layout_of, meet, meets_module, placed_module, placement_of, sections_of, text_of}
use Rattle.sx_deploy.specs.Law.{AreApartSpans, AreBeside}

pub and_false : (a b : Bool) → (a && b) ≡ false → a ≡ true → b ≡ false
and_false true b h t = h
and_false false b h t = absurd (cc)

pub none-any : {A : Type 0} (p : A → Bool) (xs : List A) → list_any p xs ≡ false → Each (λ x. p x ≡ false) xs
none-any p [] h = tt
none-any p (x ∷ xs) h = let parts = or_parts (p x) (list_any p xs) h in (parts.0, none-any p xs parts.1)

pub each-weaker : {A : Type 0} (P Q : A → Type 0) → ((x : A) → P x → Q x) → (xs : List A) → Each P xs → Each Q xs
each-weaker P Q k [] h = tt
each-weaker P Q k (x ∷ xs) h = (k x h.0, each-weaker P Q k xs h.1)

-- each has it with each that comes later
abbrev pub EachPair : {A : Type 0} → (A → A → Type 0) → List A → Type 0
EachPair R [] = Unit {0}
EachPair R (x ∷ xs) = Each (R x) xs × EachPair R xs

pub pair-snoc : {A : Type 0} (R : A → A → Type 0) (xs : List A) (y : A) → EachPair R xs → Each (λ x. R x y) xs → EachPair R (xs ++ y ∷ [])
pair-snoc R [] y h p = (tt, tt)
pair-snoc R (x ∷ xs) y h p = (each-snoc (R x) xs y h.0 p.0, pair-snoc R xs y h.1 p.1)

pub apart-meet : (a b : Span) → meet a b ≡ false → AreApartSpans b a
apart-meet a b h = grind (arith, nat_tests)

module _ (devices : List DeviceEntry) (links : List Link) where
  -- where a module is
  abbrev pub stand : ℕ → Coded → Placement
  stand n m = record { node = m.node; layout = layout_of (sections_of devices links n m) }

  abbrev pub stand_after : ℕ → List Coded → List Placement
  stand_after n [] = []
  stand_after n (m ∷ ms) = stand n m ∷ stand_after (n + 1) ms

  placement-is : (done : List Placement) (s : ModuleSections) (p : Placement) → placement_of devices done s ≡ Some p
      → (is_misplaced devices done s ≡ false) × (record { node = s.node; layout = layout_of s } ≡ p)
  placement-is done s p h = by_case (is_misplaced devices done s) refl h
    where
      by_case : (b : Bool) → is_misplaced devices done s ≡ b → (if b then None else Some (record { node = s.node; layout = layout_of s })) ≡ Some p
          → (is_misplaced devices done s ≡ false) × (record { node = s.node; layout = layout_of s } ≡ p)
      by_case true e i = absurd (cc)
      by_case false e i = (e, cc)

  pub one_placed : (done : List Placement) (m : Coded) (p : Placement) → placed_module devices links done m ≡ Ok p
      → (is_misplaced devices done (sections_of devices links (length done) m) ≡ false) × (stand (length done) m ≡ p)
  one_placed done m p h =
      placement-is done (sections_of devices links (length done) m) p (in_entry-Ok 10 Module (length done) (placement_of devices done (sections_of devices links (length done) m)) p h)

  pub all_stand : (done : List Placement) (ms : List Coded) (out : List Placement) → made_after (placed_module devices links) done ms ≡ Ok out → out ≡ done ++ stand_after (length done) ms
  all_stand done [] out h = let same : done ≡ out = cc in rw (append-nil done) (sym same)
  all_stand done (m ∷ ms) out h =
      let step = bind-Ok (placed_module devices links done m) (λ p. made_after (placed_module devices links) (done ++ p ∷ []) ms) out h in
      let one = one_placed done m step.0 step.1 in
      let rest = all_stand (done ++ step.0 ∷ []) ms out step.2 in
      let len : length (done ++ step.0 ∷ []) ≡ length done + 1 = length-append done (step.0 ∷ []) in
      rest ∙ append_assoc done (step.0 ∷ []) (stand_after (length (done ++ step.0 ∷ [])) ms)
      ∙ ap (λ (n : ℕ). done ++ step.0 ∷ stand_after n ms) len
      ∙ ap (λ (p : Placement). done ++ p ∷ stand_after (length done + 1) ms) (sym one.1)

  beside : (s : ModuleSections) (p b : Placement) → record { node = s.node; layout = layout_of s } ≡ b → meets_module s p ≡ false → AreBeside p b
  beside s p b e h = subst (λ (x : Placement). AreBeside p x) e (record { beside = go })
    where
      go : p.node ≡ s.node → AreApartSpans (text_of p) s.text × AreApartSpans (text_of p) s.data_part × AreApartSpans (data_of p) s.text × AreApartSpans (data_of p) s.data_part
      go same =
          let parts = and_false (p.node == s.node) _ h (eq-eqb p.node s.node same) in
          let halves = or_parts (meet s.text (text_of p) || meet s.text (data_of p)) _ parts in
          let text = or_parts (meet s.text (text_of p)) _ halves.0 in
          let own = or_parts (meet s.data_part (text_of p)) _ halves.1 in
          (apart-meet s.text (text_of p) text.0, apart-meet s.data_part (text_of p) own.0, apart-meet s.text (data_of p) text.1, apart-meet s.data_part (data_of p) own.1)

  keeps : (done : List Placement) (m : Coded) (b : Placement) → EachPair AreBeside done → placed_module devices links done m ≡ Ok b → EachPair AreBeside (done ++ b ∷ [])
  keeps done m b old h =
      let s = sections_of devices links (length done) m in
      let one = one_placed done m b h in
      let parts = or_parts ((is_outside s.text || is_outside s.data_part) || meet s.text s.data_part) _ one.0 in
      let earlier = or_parts (list_any (meets_module s) done) _ parts.1 in
      pair-snoc AreBeside done b old (each-weaker (λ (p : Placement). meets_module s p ≡ false) (λ (p : Placement). AreBeside p b)
      (λ p e. beside s p b one.1 e) done (none-any (meets_module s) done earlier.0))

  pub all_beside : (ms : List Coded) (out : List Placement) → made_after (placed_module devices links) [] ms ≡ Ok out → EachPair AreBeside (stand_after 0 ms)
  all_beside ms out h =
      subst (λ (l : List Placement). EachPair AreBeside l) (all_stand [] ms out h)
      (made-keeps (λ (l : List Placement). EachPair AreBeside l) (placed_module devices links) keeps [] ms out tt h)
