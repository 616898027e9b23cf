-- Where the modules of an accepted deployment are.
use Rattle.std.proofs.Common.{◌≡◌, ℕ, zero, suc, ◌+◌, ◌<◌, ◌≤◌, ◌==◌, ◌%◌, if◌then◌else◌, Bool, true, false, ◌||◌, ◌&&◌, not, nat_lt, nat_le, List, [], ◌∷◌}
use Rattle.std.proofs.Common.{◌++◌, length, map, Some, None, slice_get, IfSome, IsSome, Ok, refl, sym, ap, subst, ◌∙◌, ◌⊎◌, inl, inr, arith, append_assoc}
use Rattle.std.proofs.Common.{append-nil, length-append}
use Rattle.std.specs.List.{list_any, All, AllPairs}
use Rattle.std.proofs.lemmas.Bool.Decides.{nat_tests}
use Rattle.std.proofs.lemmas.Option.{slice_get-get_or, slice_get-map}
use Rattle.std.proofs.lemmas.Bool.{eqb-true, eq-eqb, ltb-false, leb-false, and_parts, or_parts}
use Rattle.sx_lang.specs.Sizes.{module_weight, module_data_size}
use Rattle.sx_mean.specs.Application.{ends_from, ends_to}
use Rattle.sx_mean.specs.declared.apps.Link.{Link}
use Rattle.sx_rules.specs.declared.section.Layout.{Layout}
use Rattle.sx_entries.specs.Stage.{made_after}
use Rattle.sx_entries.specs.Lines.{first_bad}
use Rattle.sx_entries.proofs.Each.{Each, all-each, bind-Ok, each-at}
use Rattle.sx_entries.specs.Law.{IsThere}
use Rattle.sx_entries.specs.declared.entries.DeviceEntry.{DeviceEntry}
use Rattle.sx_entries.specs.declared.entries.Start.{Start}
use Rattle.sx_entries.specs.declared.entries.Start.TheVariants as start
use Rattle.sx_deploy.specs.declared.placing.Placement.{Placement}
use Rattle.sx_deploy.specs.Sources.{Coded}
use Rattle.sx_deploy.specs.Ties.{app_device, byte, start_device}
use Rattle.sx_deploy.specs.Places.{ModuleSections, Span, data_of, drives, ends_of, holds_word, is_bad_place, is_outside, is_own, layout_of, meet, meets_module}
use Rattle.sx_deploy.specs.Places.{placed_module, sections_of, span, start_of, text_of}
use Rattle.sx_mean.specs.Application.{PartTree}
use Rattle.sx_deploy.specs.Deployment.{Deployed, part_of}
use Rattle.sx_deploy.specs.Law.{AreApartSpans, AreLaid, IsInside, IsLaid, IsWordPlace, Word, standing, words_of}
use Rattle.sx_deploy.proofs.Apart.{EachPair, none-any, one_placed, and_false, pair-snoc, stand, stand_after, each-weaker, apart-meet}
use Rattle.sx_deploy.proofs.ValidApp.{each-map, each-both}
use Rattle.sx_deploy.proofs.Drivers.{same_bytes}

apart : (a b : Span) → meet a b ≡ false → AreApartSpans a b
apart a b h = grind (arith, nat_tests)

even : (n : ℕ) → (n % 2 == 1) ≡ false → n % 2 ≡ 0
even n h = grind (arith, nat_tests)

inside : (s : Span) → is_outside s ≡ false → IsInside s
inside s h =
    let halves = or_parts (s.from % 2 == 1 || nat_lt s.from 0x0200) _ h in
    let first = or_parts (s.from % 2 == 1) _ halves.0 in
    record { even = even s.from first.0; low = ltb-false s.from 0x0200 first.1; high = ltb-false 0xFFE0 s.to halves.1 }

has_device : (s : Start) → drives s ≡ true → IsSome (start_device s)
has_device (start.At at) h = absurd (cc)
has_device (start.Device n) h = refl

-- the words of devices, by their entries
abbrev pub word : DeviceEntry → Word
word d = record { node = byte d.node; at = d.at }

pub words-map : (ds : List DeviceEntry) → words_of (map app_device ds) (map (λ (d : DeviceEntry). d.at) ds) ≡ map word ds
words-map [] = refl
words-map (d ∷ ds) = ap (λ ws. word d ∷ ws) (words-map ds)

-- a driver's private section begins at its device's place
at_device : (ds : List DeviceEntry) (s : Start) → length ds ≤ 32 → IsThere s (length ds) → IfSome (start_device s) (λ n. slice_get (map (λ (d : DeviceEntry). d.at) ds) n ≡ Some (start_of ds s))
at_device ds (start.At at) f h = tt
at_device ds (start.Device n) f h = by_case ds n f h
  where
    by_case : (ds : List DeviceEntry) (n : ℕ) → length ds ≤ 32 → n < length ds → slice_get (map (λ (d : DeviceEntry). d.at) ds) (byte n) ≡ Some (start_of ds (start.Device n))
    by_case [] n f h = absurd (omega arith)
    by_case (d ∷ ds) n f h =
        let own : byte n ≡ n = omega arith in
        let found = slice_get-get_or (d ∷ ds) n d h in
        subst (λ (k : ℕ). slice_get (map (λ (d : DeviceEntry). d.at) (d ∷ ds)) k ≡ Some (start_of (d ∷ ds) (start.Device n))) (sym own)
        (slice_get-map (λ (d : DeviceEntry). d.at) (d ∷ ds) n ∙ rw found refl)

abbrev pub IsClear : PartTree → Layout → Word → Type 0
IsClear q l w = w.node ≡ q.node → (IsSome q.device × (w.at ≡ l.priv_from))
    ⊎ (AreApartSpans (span w.at 2) (text_of (record { node = q.node; layout = l })) × AreApartSpans (span w.at 2) (data_of (record { node = q.node; layout = l })))

one_clear : (m : Coded) (s : ModuleSections) → s.node ≡ m.node → s.drives ≡ drives m.start → m.node < 16 → (d : DeviceEntry) → d.node < 16
    → holds_word s d ≡ false → IsClear (part_of m) (layout_of s) (word d)
one_clear m s n v small d there h same =
    let nodes : d.node ≡ s.node = same_bytes d.node m.node (omega arith) (omega arith) same ∙ sym n in
    by_own (is_own s d) refl (λ own. and_false (d.node == s.node && not (is_own s d)) _ h (rw (eq-eqb d.node s.node nodes, own) refl))
  where
    by_own : (b : Bool) → is_own s d ≡ b → (is_own s d ≡ false → (meet s.text (span d.at 2) || meet s.data_part (span d.at 2)) ≡ false)
        → (IsSome (start_device m.start) × (d.at ≡ s.data_part.from)) ⊎ (AreApartSpans (span d.at 2) s.text × AreApartSpans (span d.at 2) s.data_part)
    by_own true e k = let parts = and_parts s.drives (d.at == s.data_part.from) e in inl (has_device m.start (sym v ∙ parts.0), eqb-true d.at s.data_part.from parts.1)
    by_own false e k = let parts = or_parts (meet s.text (span d.at 2)) _ (k e) in inr (apart-meet s.text (span d.at 2) parts.0, apart-meet s.data_part (span d.at 2) parts.1)

-- each has it with each that comes later: by places
pub pair-all : {A : Type 0} (R : A → A → Type 0) (xs : List A) → EachPair R xs → AllPairs R xs
pair-all R [] h i j d lt k = absurd (omega arith)
pair-all R (x ∷ xs) h zero zero d lt k = absurd (omega arith)
pair-all R (x ∷ xs) h zero (suc j) d lt k = each-at (R x) xs j d h.0 (omega arith)
pair-all R (x ∷ xs) h (suc i) zero d lt k = absurd (omega arith)
pair-all R (x ∷ xs) h (suc i) (suc j) d lt k = pair-all R xs h.1 i j d (omega arith) (omega arith)

-- devices

each_pair-clear : {A : Type 0} (bad : List A → A → Bool) (R : A → A → Type 0) → ((e : List A) (x : A) → bad e x ≡ false → Each (λ y. R y x) e) → (earlier xs : List A)
    → EachPair R earlier → first_bad bad earlier xs ≡ None → EachPair R (earlier ++ xs)
each_pair-clear bad R k earlier [] p h = rw (append-nil earlier) p
each_pair-clear bad R k earlier (x ∷ xs) p h = by_case (bad earlier x) refl h (λ q. each_pair-clear bad R k (earlier ++ x ∷ []) xs q)
  where
    by_case : (b : Bool) → bad earlier x ≡ b → (if b then Some (length earlier) else first_bad bad (earlier ++ x ∷ []) xs) ≡ None
        → (EachPair R (earlier ++ x ∷ []) → first_bad bad (earlier ++ x ∷ []) xs ≡ None → EachPair R ((earlier ++ x ∷ []) ++ xs)) → EachPair R (earlier ++ x ∷ xs)
    by_case true e i rest = absurd (cc)
    by_case false e i rest = rw (← append_assoc earlier (x ∷ []) xs) (rest (pair-snoc R earlier x p (k earlier x e)) i)

each_first : {A : Type 0} (bad : List A → A → Bool) (P : A → Type 0) → ((e : List A) (x : A) → bad e x ≡ false → P x) → (earlier xs : List A) → first_bad bad earlier xs ≡ None → Each P xs
each_first bad P k earlier [] h = tt
each_first bad P k earlier (x ∷ xs) h = by_case (bad earlier x) refl h (each_first bad P k (earlier ++ x ∷ []) xs)
  where
    by_case : (b : Bool) → bad earlier x ≡ b → (if b then Some (length earlier) else first_bad bad (earlier ++ x ∷ []) xs) ≡ None
        → (first_bad bad (earlier ++ x ∷ []) xs ≡ None → Each P xs) → P x × Each P xs
    by_case true e i rest = absurd (cc)
    by_case false e i rest = (k earlier x e, rest i)

word_place : (e : List DeviceEntry) (d : DeviceEntry) → is_bad_place e d ≡ false → IsWordPlace (word d)
word_place e d h =
    let all = or_parts ((d.at % 2 == 1 || nat_lt d.at 0x0200) || nat_le 0xFFE0 d.at) _ h in
    let three = or_parts (d.at % 2 == 1 || nat_lt d.at 0x0200) _ all.0 in
    let two = or_parts (d.at % 2 == 1) _ three.0 in
    record { even = even d.at two.0; low = ltb-false d.at 0x0200 two.1; high = leb-false 0xFFE0 d.at three.1 }

abbrev pub ArePlaced : DeviceEntry → DeviceEntry → Type 0
ArePlaced d e = d.node ≡ e.node → ¬ (d.at ≡ e.at)

two_places : (e : List DeviceEntry) (d : DeviceEntry) → is_bad_place e d ≡ false → Each (λ y. ArePlaced y d) e
two_places e d h =
    let all = or_parts ((d.at % 2 == 1 || nat_lt d.at 0x0200) || nat_le 0xFFE0 d.at) _ h in
    each-weaker (λ (y : DeviceEntry). (y.node == d.node && y.at == d.at) ≡ false) (λ (y : DeviceEntry). ArePlaced y d)
    (λ y f node at. (let t : (y.node == d.node && y.at == d.at) ≡ true = rw (eq-eqb y.node d.node node, eq-eqb y.at d.at at) refl in let x : true ≡ false = sym t ∙ f in cc))
    e (none-any (λ (y : DeviceEntry). y.node == d.node && y.at == d.at) e all.1)

pub words_places : (ds : List DeviceEntry) → first_bad is_bad_place [] ds ≡ None → Each IsWordPlace (map word ds)
words_places ds h = each-map word IsWordPlace ds (each_first is_bad_place (λ (d : DeviceEntry). IsWordPlace (word d)) word_place [] ds h)

abbrev pub AreWordsApart : Word → Word → Type 0
AreWordsApart v w = v.node ≡ w.node → ¬ (v.at ≡ w.at)

pair_words : (ds : List DeviceEntry) → Each (λ (d : DeviceEntry). d.node < 16) ds → EachPair ArePlaced ds → EachPair AreWordsApart (map word ds)
pair_words [] n h = tt
pair_words (d ∷ ds) n h = (
  each-map word (AreWordsApart (word d)) ds (each-both (λ (e : DeviceEntry). e.node < 16) (ArePlaced d) (λ (e : DeviceEntry). AreWordsApart (word d) (word e))
      (λ e s p same. (let own : d.node < 16 = n.0 in p (same_bytes d.node e.node (omega (arith, own)) (omega (arith, s)) same))) ds n.1 h.0),
  pair_words ds n.1 h.1,
)

pub words_apart : (ds : List DeviceEntry) → Each (λ (d : DeviceEntry). d.node < 16) ds → first_bad is_bad_place [] ds ≡ None → EachPair AreWordsApart (map word ds)
words_apart ds n h = pair_words ds n (each_pair-clear is_bad_place ArePlaced two_places [] ds tt h)

-- modules

pub standing-map : (devices : List DeviceEntry) (links : List Link) (n : ℕ) (ms : List Coded) → Each (λ (m : Coded). m.node < 16) ms
    → standing (map part_of ms) (map (λ (p : Placement). p.layout) (stand_after devices links n ms)) ≡ stand_after devices links n ms
standing-map devices links n [] h = refl
standing-map devices links n (m ∷ ms) h =
    let own : byte m.node ≡ m.node = (let s : m.node < 16 = h.0 in omega (arith, s)) in
    ap (λ (k : ℕ). record { node = k; layout = layout_of (sections_of devices links n m) } ∷ standing (map part_of ms) (map (λ (p : Placement). p.layout) (stand_after devices links (n + 1) ms))) own
    ∙ ap (λ (ps : List Placement). stand devices links n m ∷ ps) (standing-map devices links (n + 1) ms h.1)

-- what else is known of a module
pub record IsFitting (devices : List DeviceEntry) (m : Coded) : Type 0 where
  pub node : m.node < 16
  pub there : IsThere m.start (length devices)

module _ (d : Deployed) (devices : List DeviceEntry) (links : List Link) (total : ℕ)
    (same_links : d.app.links ≡ links) (same_devices : d.app.devices ≡ map app_device devices) (same_places : d.places ≡ map (λ (e : DeviceEntry). e.at) devices)
    (few : length devices ≤ 32) (on_nodes : Each (λ (e : DeviceEntry). e.node < 16) devices)
    (ends : (p : ℕ) → p < total → ends_from links p + ends_to links p ≤ 16) where
  one_laid : (done : List Placement) (m : Coded) (p : Placement) → placed_module devices links done m ≡ Ok p → IsFitting devices m → length done < total
      → IsLaid d (length done) (part_of m) (layout_of (sections_of devices links (length done) m))
  one_laid done m p h f k =
      let n = length done in
      let s = sections_of devices links n m in
      let one = one_placed devices links done m p h in
      let halves = or_parts ((is_outside s.text || is_outside s.data_part) || meet s.text s.data_part) _ one.0 in
      let own = or_parts (is_outside s.text || is_outside s.data_part) _ halves.0 in
      let ranges = or_parts (is_outside s.text) _ own.0 in
      let others = or_parts (list_any (meets_module s) done) _ halves.1 in
      let count : ends_of links n ≡ ends_from d.app.links n + ends_to d.app.links n =
      (let e : ends_from links n + ends_to links n ≤ 16 = ends n k in
      let cut : ends_of links n ≡ ends_from links n + ends_to links n = omega (arith, e) in
      cut ∙ ap (λ (ls : List Link). ends_from ls n + ends_to ls n) (sym same_links)) in
      let clear : Each (λ (e : DeviceEntry). IsClear (part_of m) (layout_of s) (word e)) devices =
      each-both (λ (e : DeviceEntry). e.node < 16) (λ (e : DeviceEntry). holds_word s e ≡ false) (λ (e : DeviceEntry). IsClear (part_of m) (layout_of s) (word e))
      (λ e there free. one_clear m s refl refl f.node e there free) devices on_nodes (none-any (holds_word s) devices others.1) in
      let words : words_of d.app.devices d.places ≡ map word devices = ap (λ ds. words_of ds d.places) same_devices ∙ ap (λ ps. words_of (map app_device devices) ps) same_places ∙ words-map devices in
      record {
        weight = ap (λ (c : ℕ). m.text + module_weight m.tree c) count;
        data_size = ap (λ (c : ℕ). start_of devices m.start + module_data_size m.tree c) count;
        text = inside s.text ranges.0;
        data_part = inside s.data_part ranges.1;
        apart = apart s.text s.data_part own.1;
        device = subst (λ (ps : List ℕ). IfSome (start_device m.start) (λ n. slice_get ps n ≡ Some (start_of devices m.start))) (sym same_places) (at_device devices m.start few f.there);
        words = subst (λ (ws : List Word). All (IsClear (part_of m) (layout_of s)) ws) (sym words)
            (all-each (IsClear (part_of m) (layout_of s)) (map word devices) (each-map word (IsClear (part_of m) (layout_of s)) devices clear));
      }

  pub laid_from : (done : List Placement) (ms : List Coded) (out : List Placement) → made_after (placed_module devices links) done ms ≡ Ok out
      → Each (IsFitting devices) ms → length done + length ms ≡ total
      → AreLaid d (length done) (map part_of ms) (map (λ (p : Placement). p.layout) (stand_after devices links (length done) ms))
  laid_from done [] out h f k = tt
  laid_from done (m ∷ ms) out h f k =
      let step = bind-Ok (placed_module devices links done m) (λ p. made_after (placed_module devices links) (done ++ p ∷ []) ms) out h in
      let len : length (done ++ step.0 ∷ []) ≡ length done + 1 = length-append done (step.0 ∷ []) in
      let rest = laid_from (done ++ step.0 ∷ []) ms out step.2 f.1 (omega (arith, len, k)) in (
        one_laid done m step.0 step.1 f.0 (omega (arith, k)),
        subst (λ (n : ℕ). AreLaid d n (map part_of ms) (map (λ (p : Placement). p.layout) (stand_after devices links n ms))) len rest,
      )
