-- An image's pieces, registers, and what is done to a node where no module of it runs.
use Rattle.std.proofs.Common.{◌≡◌, ◌≢◌, ℕ, ◌+◌, ◌-◌, ◌*◌, ◌/◌, ◌<◌, ◌≤◌, ◌==◌, Bool, true}
use Rattle.std.proofs.Common.{false, if◌then◌else◌, List, [], ◌∷◌, ◌++◌, length, length-drop, take}
use Rattle.std.proofs.Common.{drop, drop-cons, add-one, get_or, min, Option, Some, None, option_map}
use Rattle.std.proofs.Common.{Result, Ok, Err, OnOk, OnErr, refl, sym, subst, ap, ◌∙◌, arith}
use Rattle.std.specs.Prelude.{slice_get, slice_range}
use Rattle.std.specs.Int.{div_ceil}
use Rattle.std.proofs.lemmas.List.{length-map, take_min}
use Rattle.std.proofs.lemmas.Option.{slice_get-map, slice_get-get_or}
use Rattle.std.proofs.Math.ListN.{drop_of_length-le}
use Rattle.std.proofs.Math.Seq.{drop-drop}
use Rattle.lemmas.proofs.Lists.{get_some}
use Rattle.sx_trace.specs.declared.items.Item.{Item}
use Rattle.sx_trace.specs.declared.items.Item.TheVariants.{Busy}
use Rattle.spec_machine.specs.State.{State}
use Rattle.spec_run.specs.Setting.{Site, Setting}
use Rattle.spec_run.specs.State.{World, Acted}
use Rattle.spec_run.specs.Acts.{at_node, only, then_}
use Rattle.spec_run.specs.Run.{Register, call, call_registers, finish, put_on, put_pieces, set_on, set_all, steps_of, unless_busy}
use Rattle.sx_world.specs.Held.{Running, Shows, Did, Wanted, DoesAct, boots_of}
use Rattle.sx_world.specs.Loading.{AreSettable, after_loading}
use Rattle.spec_run.specs.Run.{protect_registers}
use Rattle.sx_world.proofs.doing.Composed.{does_same, then_does, then_wanted, first_wanted}
use Rattle.sx_observe.proofs.Fronts.{front_same}
use Rattle.sx_world.proofs.passing.Passed.{one_less}
use Rattle.spec_run.proofs.tie.Lists.{some_inj}

-- nodes with the same counts of resets can be reset once more
pub still_few : (old new : List State) (n : ℕ) → boots_of new ≡ boots_of old → ((s : State) → slice_get old n ≡ Some s → s.boot < 4294967295)
    → (s : State) → slice_get new n ≡ Some s → s.boot < 4294967295
still_few old new n same few s here = by (slice_get old n) refl
  where
    boot : option_map (λ (s : State). s.boot) (slice_get old n) ≡ Some s.boot
    boot =
        sym (slice_get-map (λ (s : State). s.boot) old n) ∙ ap (λ bs. slice_get bs n) (sym same) ∙ slice_get-map (λ (s : State). s.boot) new n
        ∙ ap (option_map (λ (s : State). s.boot)) here

    by : (o : Option State) → slice_get old n ≡ o → s.boot < 4294967295
    by None e = absurd (no (sym (ap (option_map (λ (s : State). s.boot)) e) ∙ boot))
      where
        no : ◌≡◌ {A = Option ℕ} None (Some s.boot) → ⊥
        no e = cc
    by (Some t) e = subst (λ b. b < 4294967295) (some_inj t.boot s.boot (sym (ap (option_map (λ (s : State). s.boot)) e) ∙ boot)) (few t e)

-- they are as many nodes
pub long_by_boots : (old new : List State) (n : ℕ) → boots_of new ≡ boots_of old → n < length old → n < length new
long_by_boots old new n same lt =
    subst (λ k. n < k) (sym (length-map old (λ (s : State). s.boot)) ∙ ap length (sym same) ∙ length-map new (λ (s : State). s.boot)) lt

-- The pieces of an image from the i-th of this many on.
abbrev pub pieces_from : ℕ → ℕ → List ℕ → ℕ → ℕ → World → Acted
pieces_from n at bytes count i = put_pieces n (count - i) (at + i * 1024) (drop (i * 1024) bytes)

pub same_count : (len : ℕ) → (len + 1023) / 1024 ≡ div_ceil len 1024
same_count len = omega arith

pub pieces_first : (n at : ℕ) (bytes : List ℕ) (k count : ℕ) → k ≡ count → put_pieces n k at bytes ≡ pieces_from n at bytes count 0
pieces_first n at bytes k count same =
    let all : count ≡ count - 0 = omega arith in
    let start : at ≡ at + 0 * 1024 = omega arith in
    ap (λ (j : ℕ). put_pieces n j at bytes) (same ∙ all) ∙ ap (λ (p : ℕ). put_pieces n (count - 0) p bytes) start

-- a piece that is due begins within the image
pub piece_within : (len i : ℕ) → i < div_ceil len 1024 → i * 1024 < len
piece_within len i lt = omega arith

piece_is : (bytes : List ℕ) (start : ℕ) → start < length bytes → slice_range bytes start (min (length bytes) (start + 1024)) ≡ take 1024 (drop start bytes)
piece_is bytes start lt =
    ap (λ k. take k (drop start bytes)) (span (length bytes) start lt ∙ ap (λ k. min 1024 k) (sym (length-drop start bytes))) ∙ take_min 1024 (drop start bytes)
  where
    span : (len start : ℕ) → start < len → min len (start + 1024) - start ≡ min 1024 (len - start)
    span len start lt = omega arith

-- one piece, and those after it
pub next_piece : (n at : ℕ) (bytes : List ℕ) (count i to : ℕ) (piece : List ℕ) → i < count → i * 1024 < length bytes → to ≡ at + i * 1024
    → piece ≡ slice_range bytes (i * 1024) (min (length bytes) (i * 1024 + 1024))
    → pieces_from n at bytes count i ≡ (λ w. then_ (put_on n to piece w) (pieces_from n at bytes count (i + 1)))
next_piece n at bytes count i to piece lt within t p =
    let start = i * 1024 in
    let behind : drop 1024 (drop start bytes) ≡ drop ((i + 1) * 1024) bytes = drop-drop 1024 start bytes ∙ ap (λ k. drop k bytes) (omega arith) in
    let further : at + start + 1024 ≡ at + (i + 1) * 1024 = omega arith in
    ap (λ k. put_pieces n k (at + start) (drop start bytes)) (one_less count i lt)
    ∙ ap (λ xs. λ w. then_ (put_on n (at + start) xs w) (put_pieces n (count - (i + 1)) (at + start + 1024) (drop 1024 (drop start bytes)))) (sym (p ∙ piece_is bytes start within))
    ∙ ap (λ k. λ w. then_ (put_on n k piece w) (put_pieces n (count - (i + 1)) (at + start + 1024) (drop 1024 (drop start bytes)))) (sym t)
    ∙ ap (λ k. λ w. then_ (put_on n to piece w) (put_pieces n (count - (i + 1)) k (drop 1024 (drop start bytes)))) further
    ∙ ap (λ xs. λ w. then_ (put_on n to piece w) (put_pieces n (count - (i + 1)) (at + (i + 1) * 1024) xs)) behind

-- all pieces were put
pub no_piece : (n at : ℕ) (bytes : List ℕ) (count i : ℕ) → count ≤ i → pieces_from n at bytes count i ≡ (λ w. only w [])
no_piece n at bytes count i le = ap (λ k. put_pieces n k (at + i * 1024) (drop (i * 1024) bytes)) (none count i le)
  where
    none : (count i : ℕ) → count ≤ i → count - i ≡ 0
    none count i le = omega arith

-- one register, and those after it
next_of : (rs : List Register) (i : ℕ) (r d : Register) → i < length rs → r ≡ get_or rs i d → drop i rs ≡ r ∷ drop (i + 1) rs
next_of rs i r d lt e =
    drop-cons rs i d lt ∙ ap (λ (k : ℕ). get_or rs i d ∷ drop k rs) (sym (add-one i)) ∙ ap (λ (x : Register). x ∷ drop (i + 1) rs) (sym e)

pub next_register : (n : ℕ) (rs : List Register) (i : ℕ) (r d : Register) → i < length rs → r ≡ get_or rs i d
    → set_all n (drop i rs) ≡ (λ w. then_ (set_on n r.number r.value w) (set_all n (drop (i + 1) rs)))
next_register n rs i r d lt e = ap (set_all n) (next_of rs i r d lt e)

pub no_register : (n : ℕ) (rs : List Register) (i : ℕ) → length rs ≤ i → set_all n (drop i rs) ≡ (λ w. only w [])
no_register n rs i le = ap (set_all n) (drop_of_length-le rs le)

pub settable : (rs : List Register) (i : ℕ) (r d : Register) → i < length rs → r ≡ get_or rs i d → AreSettable (drop i rs)
    → (r.number < 16) × (r.number ≢ 3) × AreSettable (drop (i + 1) rs)
settable rs i r d lt e h = subst AreSettable (next_of rs i r d lt e) h

-- where no module runs
pub idle_does : {X E : Type 0} (set : Setting) (r : Result X E) (old new : Running) (before after : List Item) (n : ℕ) (act : World → Acted) (idle : Bool)
    → n < length old.nodes → ((s : State) → slice_get old.nodes n ≡ Some s → idle ≡ (s.cur == 0)) → idle ≡ true
    → DoesAct set r old new before after act → DoesAct set r old new before after (λ w. unless_busy n w act)
idle_does set r old new before after n act idle lt says rests does =
    does_same set r old new before after act (λ w. unless_busy n w act) (λ w h. sym (same w h)) does
  where
    same : (w : World) → Shows set old w → unless_busy n w act ≡ act w
    same w h =
        let found = get_some old.nodes n lt in
        ap (at_node w (λ s. if s.cur == 0 then act w else only w (Busy n ∷ []))) (ap (λ ns. slice_get ns n) (sym h.nodes) ∙ found.1)
        ∙ ap (λ (b : Bool). if b then act w else only w (Busy n ∷ [])) (sym (says found.0 found.1) ∙ rests)

-- where one runs
pub busy_does : {X E : Type 0} (set : Setting) (r : Result X E) (old : Running) (before after : List Item) (n : ℕ) (act : World → Acted) (idle : Bool)
    → n < length old.nodes → ((s : State) → slice_get old.nodes n ≡ Some s → idle ≡ (s.cur == 0)) → idle ≡ false
    → OnOk r (after ≡ before ++ Busy n ∷ []) → OnErr r (after ≡ before) → DoesAct set r old old before after (λ w. unless_busy n w act)
busy_does set r old before after n act idle lt says runs ok err =
    does_same set r old old before after (λ w. only w (Busy n ∷ [])) (λ w. unless_busy n w act) (λ w h. sym (same w h)) (refused r ok err)
  where
    same : (w : World) → Shows set old w → unless_busy n w act ≡ only w (Busy n ∷ [])
    same w h =
        let found = get_some old.nodes n lt in
        ap (at_node w (λ s. if s.cur == 0 then act w else only w (Busy n ∷ []))) (ap (λ ns. slice_get ns n) (sym h.nodes) ∙ found.1)
        ∙ ap (λ (b : Bool). if b then act w else only w (Busy n ∷ [])) (sym (says found.0 found.1) ∙ runs)

    refused : {X E : Type 0} (r : Result X E) → OnOk r (after ≡ before ++ Busy n ∷ []) → OnErr r (after ≡ before) → DoesAct set r old old before after (λ w. only w (Busy n ∷ []))
    refused (Ok x) ok err = λ w h. (h, ok)
    refused (Err e) ok err = λ w h. front_same after before (Busy n ∷ []) err

-- a module is called where none runs
pub called_does : {X E : Type 0} (set : Setting) (r : Result X E) (old new : Running) (before after : List Item) (sites : List Site) (m entry input output : ℕ) (site view : Site)
    (registers : List Register) (idle : Bool) → slice_get sites m ≡ Some site → view ≡ site → site.node < length old.nodes
    → ((s : State) → slice_get old.nodes view.node ≡ Some s → idle ≡ (s.cur == 0)) → idle ≡ true → registers ≡ call_registers site entry input output
    → DoesAct set r old new before after (λ w. then_ (set_all view.node registers w) (finish set view.node))
    → DoesAct set r old new before after (λ w. call set w entry input output (slice_get sites m))
called_does set r old new before after sites m entry input output site view registers idle found seen lt says rests given does =
    subst (λ (o : Option Site). DoesAct set r old new before after (λ w. call set w entry input output o)) (sym found)
    (idle_does set r old new before after site.node (λ w. then_ (set_all site.node (call_registers site entry input output) w) (finish set site.node)) idle lt
    (λ s here. says s (subst (λ (x : Site). slice_get old.nodes x.node ≡ Some s) (sym seen) here)) rests
    (subst (λ (rs : List Register). DoesAct set r old new before after (λ w. then_ (set_all site.node rs w) (finish set site.node))) given
    (subst (λ (x : Site). DoesAct set r old new before after (λ w. then_ (set_all x.node registers w) (finish set x.node))) seen does)))

-- the element at a place
pub element_at : {X : Type 0} (xs : List X) (m i : ℕ) (x : X) → m < length xs → i ≡ m → x ≡ get_or xs i x → slice_get xs m ≡ Some x
element_at xs m i x lt same e = slice_get-get_or xs m x lt ∙ ap (λ y. Some y) (ap (λ k. get_or xs k x) (sym same) ∙ sym e)

-- An image is put and protected, part by part.
module _ (set : Setting) (site : Site) where
  abbrev image : World → Acted
  image = put_pieces site.node ((length site.text + 1023) / 1024) site.layout.pub_from site.text

  abbrev code : World → Acted
  code = put_on site.node 0 (0x81 ∷ 0x13 ∷ [])

  abbrev given : World → Acted
  given = set_all site.node (protect_registers site)

  abbrev protects : World → Acted
  protects = steps_of set (λ s. false) [] site.node 1

  pub image_wanted : (old : Running) (before after : List Item) → Wanted set old before after image → Wanted set old before after (after_loading set site)
  image_wanted old before after a = first_wanted set old before after image (λ w. then_ (code w) (λ v. then_ (given v) protects)) a

  pub code_wanted : (old mid : Running) (before among after : List Item) → Did set old mid before among image → Wanted set mid among after code
      → Wanted set old before after (after_loading set site)
  code_wanted old mid before among after a b =
      then_wanted set old mid before among after image (λ w. then_ (code w) (λ v. then_ (given v) protects)) a
      (first_wanted set mid among after code (λ v. then_ (given v) protects) b)

  pub given_wanted : (old mid late : Running) (before among behind after : List Item) → Did set old mid before among image → Did set mid late among behind code
      → Wanted set late behind after given → Wanted set old before after (after_loading set site)
  given_wanted old mid late before among behind after a b c =
      then_wanted set old mid before among after image (λ w. then_ (code w) (λ v. then_ (given v) protects)) a
      (then_wanted set mid late among behind after code (λ v. then_ (given v) protects) b (first_wanted set late behind after given protects c))

  pub loaded_does : {X E : Type 0} (r : Result X E) (old mid late last new : Running) (before among behind near after : List Item)
      → Did set old mid before among image → Did set mid late among behind code → Did set late last behind near given → DoesAct set r last new near after protects
      → DoesAct set r old new before after (after_loading set site)
  loaded_does r old mid late last new before among behind near after a b c d =
      then_does set r old mid new before among after image (λ w. then_ (code w) (λ v. then_ (given v) protects)) a
      (then_does set r mid late new among behind after code (λ v. then_ (given v) protects) b (then_does set r late last new behind near after given protects c d))
