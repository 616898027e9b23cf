-- What the acts of an event make, where all ends of the module are open in epoch 0: a packet, its entry and the next number for each value
-- that the plain fold puts on its way.
use Rattle.std.proofs.Common.{◌≡◌, ℕ, zero, suc, ◌+◌, ◌<◌, ◌≤◌, inl, inr, ◌==◌, ◌&&◌, Bool, true, false, if◌then◌else◌, List, [], ◌∷◌, ◌++◌, length, map}
use Rattle.std.proofs.Common.{Option, Some, None, slice_get, nat_lt, append_assoc, zero-add, add-zero, refl, sym, ap, ◌∙◌, subst, arith}
use Rattle.std.specs.Prelude.{slice_index_or}
use Rattle.std.specs.List.{AllPairs, cons_option}
use Rattle.std.proofs.lemmas.Bool.{cases_eq}
use Rattle.std.proofs.lemmas.Bool.Decides.{nat_tests}
use Rattle.std.proofs.lemmas.List.{append-nil, length-append}
use Rattle.std.proofs.lemmas.Option.{get_or_from_slice_get, slice_get_within}
use Rattle.sx_lang.specs.declared.sides.Side.{Side}
use Rattle.sx_lang.specs.declared.sides.Side.TheVariants.{From, To}
use Rattle.sx_mean.specs.declared.apps.Link.{Link}
use Rattle.sx_mean.specs.declared.events.Act.{Act}
use Rattle.sx_mean.specs.declared.events.Act.TheVariants.{Send, Emit}
use Rattle.sx_mean.specs.declared.events.End.{End}
use Rattle.sx_mean.specs.Application.{PartTree}
use Rattle.sx_mean.specs.Ends.{ends_after, ends_of, is_sending}
use Rattle.sx_mean.specs.EndLaws.{IsBefore}
use Rattle.sx_rules.specs.declared.section.Section.{Section}
use Rattle.sx_bus.specs.declared.devices.Window.{Window}
use Rattle.sx_ledger.specs.declared.entry.Maker.TheVariants as maker
use Rattle.sx_ledger.specs.Made.{Made, NO_TARGET}
use Rattle.spec_machine.specs.State.{State}
use Rattle.spec_invocation.specs.Setup.{Setup}
use Rattle.spec_invocation.specs.ModuleState.{EndState, end_of, with_end}
use Rattle.spec_invocation.specs.Acts.{event_header, event_packet}
use Rattle.spec_invocation.specs.Marks.{Wrapped}
use Rattle.spec_invocation.specs.Windows.{two}
use Rattle.spec_run.specs.Setting.{Setting, Site}
use Rattle.spec_run.specs.Deployer.{connection_key}
use Rattle.spec_run.specs.Ledger.{made_entry}
use Rattle.law_invocation.specs.Effect.{Effect, act_made, acts_made, also, emit_marks, nothing, packet_made, packets_made}
use Rattle.law_calls.specs.Shown.{devices_after}
use Rattle.law_calls.specs.Calls.{setup_of}
use Rattle.law_calls.specs.FourCalls.{entries_of}
use Rattle.law_calls.proofs.Observing.{devices_append}
use Rattle.law_calls.proofs.Showing.{marks_entries}
use Rattle.spec_honest.specs.Plain.{Waiting, act_sends, acts_send, over}
use Rattle.spec_honest.specs.Course.{count_over}
use Rattle.spec_honest.proofs.Lists.{words-few}
use Rattle.spec_honest.proofs.Views.{count-other, count-same}
use Rattle.law_setup.proofs.forms.Served.{callee}
use Rattle.law_setup.proofs.forms.Settled.{event_of, open_end}

-- the packets of values, where these were sent before
abbrev pub pieces_of : Setting → List Waiting → List Waiting → List (List ℕ)
pieces_of set all [] = []
pieces_of set all (w ∷ ws) = event_of set w.link (count_over w.link all) w.value ∷ pieces_of set (all ++ w ∷ []) ws

-- the entry of a value that the m-th module sent
abbrev pub entry_of : ℕ → List Waiting → Waiting → Made
entry_of m all w = made_entry (maker.Module m) NO_TARGET 0 (event_header (record { is_open = true; field = w.link; number = count_over w.link all; key = [] })) (two w.value)

abbrev pub entries_for : ℕ → List Waiting → List Waiting → List Made
entries_for m all [] = []
entries_for m all (w ∷ ws) = entry_of m all w ∷ entries_for m (all ++ w ∷ []) ws

pub pieces_append : (set : Setting) (all ws vs : List Waiting) → pieces_of set all (ws ++ vs) ≡ pieces_of set all ws ++ pieces_of set (all ++ ws) vs
pieces_append set all [] vs = ap (λ zs. pieces_of set zs vs) (sym (append-nil all))
pieces_append set all (w ∷ ws) vs =
    ap (λ ps. event_of set w.link (count_over w.link all) w.value ∷ ps)
    (pieces_append set (all ++ w ∷ []) ws vs ∙ ap (λ zs. pieces_of set (all ++ w ∷ []) ws ++ pieces_of set zs vs) (append_assoc all (w ∷ []) ws))

pub entries_append : (m : ℕ) (all ws vs : List Waiting) → entries_for m all (ws ++ vs) ≡ entries_for m all ws ++ entries_for m (all ++ ws) vs
entries_append m all [] vs = ap (λ zs. entries_for m zs vs) (sym (append-nil all))
entries_append m all (w ∷ ws) vs =
    ap (λ (es : List Made). entry_of m all w ∷ es)
    (entries_append m (all ++ w ∷ []) ws vs ∙ ap (λ zs. entries_for m (all ++ w ∷ []) ws ++ entries_for m zs vs) (append_assoc all (w ∷ []) ws))

-- An end at its place.

pub end_mapped : (f : End → EndState) (es : List End) (k : ℕ) (e : End) → slice_get es k ≡ Some e → end_of (map f es) k ≡ f e
end_mapped f [] k e h = absurd cc
end_mapped f (x ∷ es) zero e h = ap f (Rattle.std.proofs.lemmas.Option.same_Some x e h)
end_mapped f (x ∷ es) (suc k) e h = end_mapped f es k e h

pub with_end_mapped : (f g : End → EndState) (es : List End) (k : ℕ) (e : End) (new : EndState) → slice_get es k ≡ Some e
    → ((j : ℕ) (a : End) → (j ≡ k → ⊥) → slice_get es j ≡ Some a → f a ≡ g a) → new ≡ g e → with_end (map f es) k new ≡ map g es
with_end_mapped f g [] k e new h others is = absurd cc
with_end_mapped f g (x ∷ es) zero e new h others is =
    ap (λ (z : EndState). z ∷ map f es) (is ∙ ap g (sym (Rattle.std.proofs.lemmas.Option.same_Some x e h)))
    ∙ ap (λ (zs : List EndState). g x ∷ zs) (all_same es (λ j a t. others (suc j) a (λ z. omega (arith, z)) t))
  where
    all_same : (es : List End) → ((j : ℕ) (a : End) → slice_get es j ≡ Some a → f a ≡ g a) → map f es ≡ map g es
    all_same [] h = refl
    all_same (y ∷ ys) h = ap (λ (z : EndState). z ∷ map f ys) (h 0 y refl) ∙ ap (λ (zs : List EndState). g y ∷ zs) (all_same ys (λ j a t. h (suc j) a t))
with_end_mapped f g (x ∷ es) (suc k) e new h others is =
    ap (λ (z : EndState). z ∷ with_end (map f es) k new) (others 0 x (λ z. omega (arith, z)) refl)
    ∙ ap (λ (zs : List EndState). g x ∷ zs) (with_end_mapped f g es k e new h (λ j a n t. others (suc j) a (λ z. n (omega (arith, z))) t) is)

-- no two ends of a list are of one connection and side
same_not : (a b : End) → IsBefore a b → a.link ≡ b.link → a.side ≡ b.side → ⊥
same_not a b (inl lt) l s = omega (arith, lt, l)
same_not a b (inr h) l s = (let z : ◌≡◌ {A = Side} From To = (sym h.1 ∙ s ∙ h.2) in cc)

before_at : (es : List End) (i j : ℕ) (a b : End) → AllPairs IsBefore es → i < j → slice_get es i ≡ Some a → slice_get es j ≡ Some b → IsBefore a b
before_at es i j a b ordered lt f h =
    let pair = ordered i j b lt (slice_get_within es j b h) in
    subst (λ (z : End). IsBefore z b) (get_or_from_slice_get es i a b f) (subst (λ (z : End). IsBefore (slice_index_or es i b) z) (get_or_from_slice_get es j b b h) pair)

pub ends_apart : (es : List End) (j k : ℕ) (a b : End) → AllPairs IsBefore es → (j ≡ k → ⊥) → slice_get es j ≡ Some a → slice_get es k ≡ Some b → a.side ≡ b.side → a.link ≡ b.link → ⊥
ends_apart es j k a b ordered n f h s l = go (nat_lt j k) refl
  where
    go : (t : Bool) → nat_lt j k ≡ t → ⊥
    go true t = let lt : j < k = Rattle.std.proofs.lemmas.Bool.ltb-true j k t in same_not a b (before_at es j k a b ordered lt f h) l s
    go false t =
        let le = Rattle.std.proofs.lemmas.Bool.ltb-false j k t in
        elim (cases_eq j k) [
          | inl e ↦ n e
          | inr d ↦ let lt : k < j = omega (arith, le, d) in same_not b a (before_at es k j b a ordered lt h f) (sym l) (sym s)
        ]

-- what is sent to an output, end by end
abbrev pub sends_over : ℕ → ℕ → List End → List Waiting
sends_over output v [] = []
sends_over output v (e ∷ es) = if is_sending output e.side e.port then record { link = e.link; value = v } ∷ sends_over output v es else sends_over output v es

pub sends_are : (n p output v : ℕ) (ls : List Link) → sends_over output v (ends_after n p ls) ≡ over n p output v ls
sends_are n p output v [] = refl
sends_are n p output v (l ∷ ls) = go (l.from == p) (l.to == p) (sends_are (n + 1) p output v ls)
  where
    go : (a b : Bool) → sends_over output v (ends_after (n + 1) p ls) ≡ over (n + 1) p output v ls
        → sends_over output v (cons_option (if a then Some (record { link = n; side = From; port = l.output }) else None)
        (cons_option (if b then Some (record { link = n; side = To; port = l.input }) else None) (ends_after (n + 1) p ls)))
        ≡ (if a && (l.output == output) then record { link = n; value = v } ∷ over (n + 1) p output v ls else over (n + 1) p output v ls)
    go true true more = ap (λ (zs : List Waiting). if l.output == output then record { link = n; value = v } ∷ zs else zs) more
    go true false more = ap (λ (zs : List Waiting). if l.output == output then record { link = n; value = v } ∷ zs else zs) more
    go false true more = more
    go false false more = more

sending_from : (output port : ℕ) (side : Side) → is_sending output side port ≡ true → side ≡ From
sending_from output port From h = refl
sending_from output port To h = absurd cc

module _ (set : Setting) (m : ℕ) (q : PartTree) (site : Site) (sec : Section) (s : State) (ordered : AllPairs IsBefore (ends_of set.app m)) where
  abbrev su : Setup
  su = setup_of set (callee m q site sec s)

  abbrev es : List End
  es = ends_of set.app m

  -- all ends, open
  abbrev opened : List Waiting → List Waiting → List EndState
  opened past all = map (open_end set past all) es

  -- something makes the packets of these values, and leaves the ends open
  pub record Makes (past all : List Waiting) (d : Effect) (ws : List Waiting) : Type 0 where
    pub ends : d.ends ≡ map (open_end set past (all ++ ws)) (ends_of set.app m)
    pub pieces : d.pieces ≡ pieces_of set all ws
    pub entries : entries_of m d.marks ≡ entries_for m all ws
    pub quiet : (ds : List Window) → devices_after d.marks ds ≡ ds

  makes_none : (past all : List Waiting) → Makes past all (nothing (opened past all)) []
  makes_none past all = record { ends = ap (λ zs. opened past zs) (sym (append-nil all)); pieces = refl; entries = refl; quiet = λ ds. refl }

  makes_also : (past all : List Waiting) (d : Effect) (rest : List EndState → Effect) (ws vs : List Waiting) → Makes past all d ws
      → Makes past (all ++ ws) (rest d.ends) vs → Makes past all (also d rest) (ws ++ vs)
  makes_also past all d rest ws vs a b = record {
    ends = b.ends ∙ ap (λ zs. opened past zs) (append_assoc all ws vs);
    pieces = ap (λ ps. ps ++ (rest d.ends).pieces) a.pieces ∙ ap (λ ps. pieces_of set all ws ++ ps) b.pieces ∙ sym (pieces_append set all ws vs);
    entries =
        marks_entries m d.marks (rest d.ends).marks ∙ ap (λ (zs : List Made). zs ++ entries_of m (rest d.ends).marks) a.entries
        ∙ ap (λ (zs : List Made). entries_for m all ws ++ zs) b.entries ∙ sym (entries_append m all ws vs);
    quiet = λ ds. devices_append d.marks (rest d.ends).marks ds ∙ b.quiet (devices_after d.marks ds) ∙ a.quiet ds;
  }

  -- one packet
  packet_at : (past all : List Waiting) (v k c port : ℕ) → slice_get es k ≡ Some (record { link = c; side = From; port = port }) → length all < 65535
      → Makes past all (packet_made su v k (opened past all)) (record { link = c; value = v } ∷ [])
  packet_at past all v k c port here few =
      let w : Waiting = record { link = c; value = v } in
      let e : End = record { link = c; side = From; port = port } in
      let x : EndState = record { is_open = true; field = c; number = count_over c all; key = connection_key set c 0 } in
      let made : Effect = record {
        ends = with_end (opened past all) k (record { is_open = true; field = c; number = count_over c all + 1; key = connection_key set c 0 });
        marks = Wrapped (event_header x) (two v) false ∷ [];
        pieces = event_packet su x v ∷ [];
      } in
      let room : nat_lt (count_over c all) 65535 ≡ true = (let n = words-few c all in let lt : count_over c all < 65535 = omega (arith, n, few) in grind (arith, nat_tests)) in
      let end_is : end_of (opened past all) k ≡ x = end_mapped (open_end set past all) es k e here in
      let is : made ≡ packet_made su v k (opened past all) = (rw (end_is, room) refl) in
      let others : (j : ℕ) (a : End) → (j ≡ k → ⊥) → slice_get es j ≡ Some a → open_end set past all a ≡ open_end set past (all ++ w ∷ []) a =
      (λ j a n t. other_end past all w a (λ from at. ends_apart es j k a e ordered n t here from (sym at))) in
      subst (λ d. Makes past all d (w ∷ [])) is (record {
        ends = with_end_mapped (open_end set past all) (open_end set past (all ++ w ∷ [])) es k e _ here others
            (ap (λ (i : ℕ). record { is_open = true; field = c; number = i; key = connection_key set c 0 }) (sym (count-same c all w refl)));
        pieces = refl;
        entries = refl;
        quiet = λ ds. refl;
      })
    where
      other_end : (past all : List Waiting) (w : Waiting) (a : End) → (a.side ≡ From → w.link ≡ a.link → ⊥) → open_end set past all a ≡ open_end set past (all ++ w ∷ []) a
      other_end past all w a far = by_side a.side far
        where
          by_side : (side : Side) → (side ≡ From → w.link ≡ a.link → ⊥)
              → ◌≡◌ {A = EndState} (open_end set past all (record { link = a.link; side = side; port = a.port }))
              (open_end set past (all ++ w ∷ []) (record { link = a.link; side = side; port = a.port }))
          by_side From far = ap (λ (i : ℕ). record { is_open = true; field = a.link; number = i; key = connection_key set a.link 0 }) (sym (count-other a.link all w (far refl)))
          by_side To far = refl

  -- the packets of a value that is sent to an output, from the k-th end on
  packets_at : (past : List Waiting) (output v k : ℕ) (fs : List End) (all : List Waiting) → ((j : ℕ) (e : End) → slice_get fs j ≡ Some e → slice_get es (k + j) ≡ Some e)
      → length all + length (sends_over output v fs) ≤ 65535 → Makes past all (packets_made su output v k fs (opened past all)) (sends_over output v fs)
  packets_at past output v k [] all at few = makes_none past all
  packets_at past output v k (e ∷ fs) all at few = go (is_sending output e.side e.port) refl few (λ zs le. packets_at past output v (k + 1) fs zs next le)
    where
      next : (j : ℕ) (a : End) → slice_get fs j ≡ Some a → slice_get es (k + 1 + j) ≡ Some a
      next j a h = let n : k + 1 + j ≡ k + suc j = omega arith in ap (λ i. slice_get es i) n ∙ at (suc j) a h

      go : (b : Bool) → is_sending output e.side e.port ≡ b → length all + length (if b then record { link = e.link; value = v } ∷ sends_over output v fs else sends_over output v fs) ≤ 65535
          → ((zs : List Waiting) → length zs + length (sends_over output v fs) ≤ 65535 → Makes past zs (packets_made su output v (k + 1) fs (opened past zs)) (sends_over output v fs))
          → Makes past all (if b then also (packet_made su v k (opened past all)) (packets_made su output v (k + 1) fs) else packets_made su output v (k + 1) fs
          (opened past all)) (if b then record { link = e.link; value = v } ∷ sends_over output v fs else sends_over output v fs)
      go true t few more =
          let w : Waiting = record { link = e.link; value = v } in
          let rest = sends_over output v fs in
          let from : e.side ≡ From = sending_from output e.port e.side t in
          let here : slice_get es k ≡ Some (record { link = e.link; side = From; port = e.port }) =
          ap (λ i. slice_get es i) (sym (add-zero k)) ∙ at 0 e refl ∙ ap (λ (sd : Side). Some (record { link = e.link; side = sd; port = e.port })) from in
          let one = packet_at past all v k e.link e.port here (omega (arith, few)) in
          let l = length-append all (w ∷ []) in
          makes_also past all (packet_made su v k (opened past all)) (packets_made su output v (k + 1) fs) (w ∷ []) rest one
          (subst (λ x. Makes past (all ++ w ∷ []) (packets_made su output v (k + 1) fs x) rest) (sym one.ends) (more (all ++ w ∷ []) (omega (arith, few, l))))
      go false t few more = more all few

  emit_quiet : (device : Option ℕ) (v : ℕ) → (entries_of m (emit_marks device v) ≡ []) × ((ds : List Window) → devices_after (emit_marks device v) ds ≡ ds)
  emit_quiet None v = (refl, λ ds. refl)
  emit_quiet (Some k) v = (refl, λ ds. refl)

  act_at : (past : List Waiting) (device : Option ℕ) (a : Act) (all : List Waiting) → length all + length (act_sends set.app.links m a) ≤ 65535
      → Makes past all (act_made su device a (opened past all)) (act_sends set.app.links m a)
  act_at past device (Send output v) all few =
      let same = sends_are 0 m output v set.app.links in
      subst (λ ws. Makes past all (packets_made su output v 0 es (opened past all)) ws) same
      (packets_at past output v 0 es all (λ j e h. ap (λ i. slice_get es i) (zero-add j) ∙ h) (subst (λ (ws : List Waiting). length all + length ws ≤ 65535) (sym same) few))
  act_at past device (Emit v) all few =
      let q = emit_quiet device v in
      record { ends = ap (λ zs. opened past zs) (sym (append-nil all)); pieces = refl; entries = q.0; quiet = q.1 }

  pub acts_at : (past : List Waiting) (device : Option ℕ) (acts : List Act) (all : List Waiting) → length all + length (acts_send set.app.links m acts) ≤ 65535
      → Makes past all (acts_made su device acts (opened past all)) (acts_send set.app.links m acts)
  acts_at past device [] all few = makes_none past all
  acts_at past device (a ∷ acts) all few =
      let ys = act_sends set.app.links m a in
      let zs = acts_send set.app.links m acts in
      let l = length-append ys zs in
      let k = length-append all ys in
      let one = act_at past device a all (omega (arith, few, l)) in
      makes_also past all (act_made su device a (opened past all)) (acts_made su device acts) ys zs one
      (subst (λ x. Makes past (all ++ ys) (acts_made su device acts x) zs) (sym one.ends) (acts_at past device acts (all ++ ys) (omega (arith, few, l, k))))
