-- A wrap or an unwrap in a deployed module's turn gives the same in both runs: it uses the module's own key, or that which an end had at the call.
use Rattle.std.proofs.Common.{◌≡◌, ℕ, zero, suc, ◌+◌, ◌-◌, ◌*◌, ◌<◌, ◌≤◌, ◌==◌, Bool, true, false, bytes_eq, inl, inr, ◌⊎◌, List, [], ◌∷◌, ◌++◌, length, take}
use Rattle.std.proofs.Common.{replicate, slice_index, Option, Some, None, refl, sym, ◌∙◌, ap, ap₂, subst, arith}
use Rattle.std.specs.Prelude.{if◌then◌else◌}
use Rattle.std.proofs.lemmas.Bool.{and_parts, eq-eqb, eqb-true, true≢false}
use Rattle.std.proofs.lemmas.List.{length-append}
use Rattle.sx_mean.specs.Offsets.{end_key_at}
use Rattle.sx_mean.specs.Ends.{ends_of}
use Rattle.sx_rules.specs.Access.{Sections, outside_private}
use Rattle.sx_tag.specs.Mac.{Mac}
use Rattle.sx_tag.specs.Wrap.{crypt, padded, unwrapped, wrap_tag, wrapped}
use Rattle.spec_machine.specs.Memory.{bytes_from, even, word}
use Rattle.spec_machine.proofs.Lengths.{length-bytes_from}
use Rattle.spec_machine.specs.ModuleRows.{own_key}
use Rattle.spec_machine.specs.State.{State}
use Rattle.spec_machine.specs.Step.{is_module_word, pc_of, word_outside}
use Rattle.sx_lang.specs.Tree.{ModuleTree}
use Rattle.spec_invocation.specs.Setup.{Setup}
use Rattle.spec_invocation.specs.Marks.{Mark}
use Rattle.spec_machine.specs.declared.kinds.Event.{Event}
use Rattle.spec_invocation.specs.ModuleState.{EndState, end_of, end_state, state_of}
use Rattle.spec_invocation.specs.Protocol.{key_size}
use Rattle.spec_invocation.specs.Pieces.{tag_size}
use Rattle.sx_image.specs.Image.{private_bytes}
use Rattle.sx_image.specs.Watched.{Watched}
use Rattle.spec_run.specs.Setting.{Setting}
use Rattle.spec_run.specs.Law.{IsTagUnder, IsSoundSetting}
use Rattle.law_forgery.proofs.Accepting.{crypt_long}
use Rattle.law_forgery.specs.Tags.{SameTags}
use Rattle.law_forgery.proofs.Instructions.{wrapped_same, unwrapped_same}
use Rattle.sx_lower.proofs.Slots.{end_among}
use Rattle.sx_tmpl.specs.Unseen.{SealShowsNone, StepShowsNone, WasOpen, WordShowsNone}
use Rattle.sx_tmpl.specs.Steady.{SameOpened, SealsAlike, Twins, key_used}
use Rattle.law_connections.specs.Unlinked.{Unlinked}
use Rattle.law_connections.proofs.Opened.{outside_open}
use Rattle.law_connections.proofs.Twice.{SameEnd, end_same}
use Rattle.law_connections.proofs.Linking.{second, Linked, linked_tags}
use Rattle.law_connections.proofs.Entered.{Entry, setup_a, setup_b, mate, places, ends_count, own_tags}
use Rattle.law_connections.proofs.Between.{watched_as}

-- The state of an end is that in its slot.
end_in : (a : Setting) (m : ℕ) (tree : ModuleTree) (priv : List ℕ) (k : ℕ) → k < length (ends_of a.app m)
    → end_of (state_of tree (ends_of a.app m) priv).ends k ≡ end_state priv k
unfolding state_of
end_in a m tree priv k lt =
    let at : 0 + k ≡ k = omega arith in
    end_among (ends_of a.app m) priv 0 k lt ∙ ap (end_state priv) at

-- Bodies of one length are as long with zeros after them.
padded_length : (xs ys : List ℕ) → length xs ≡ length ys → length (padded ys) ≡ length (padded xs)
padded_length xs ys e =
    let short : replicate {A = ℕ} (32 - length ys) 0 ≡ replicate (32 - length xs) 0 = ap (λ (n : ℕ). replicate {A = ℕ} (32 - n) 0) (sym e) in
    length-append ys (replicate (32 - length ys) 0) ∙ ap₂ (λ (n : ℕ) (zs : List ℕ). n + length zs) (sym e) short ∙ sym (length-append xs (replicate (32 - length xs) 0))

-- A wrap with no body, and an unwrap, where tags of texts are the same under the two keys.
bare_wrap : (mac nac : Mac) (k l ad : List ℕ) → ((rest : List ℕ) → mac k (0x54 ∷ rest) ≡ nac l (0x54 ∷ rest)) → wrapped nac l ad [] ≡ wrapped mac k ad []
unfolding crypt wrap_tag
bare_wrap mac nac k l ad tags = ap (λ (t : List ℕ). record { cipher = []; tag = take 16 t }) (sym (tags (length ad ∷ (ad ++ []))))

opened_self : (regs : List ℕ) (o p : Option (List ℕ)) → p ≡ o → SameOpened regs o p
opened_self regs None None e = tt
opened_self regs None (Some y) e = absurd cc
opened_self regs (Some x) None e = absurd cc
opened_self regs (Some x) (Some y) e = inl cc

own_opened : (mac nac : Mac) (first second k l ad cipher tag regs : List ℕ) → IsTagUnder first mac → IsTagUnder second nac → length cipher ≤ 32 → ((rest : List ℕ) → mac k (0x54 ∷ rest) ≡ nac l (0x54 ∷ rest))
    → own_key regs ≡ true → SameOpened regs (unwrapped mac k ad cipher tag) (unwrapped nac l ad cipher tag)
unfolding unwrapped wrap_tag
own_opened mac nac first second k l ad cipher tag regs one two few tags own =
    subst (λ (t : List ℕ). SameOpened regs (if bytes_eq tag (take 16 (mac k (0x54 ∷ length ad ∷ (ad ++ cipher)))) then Some (padded (crypt mac k ad cipher)) else None)
    (if bytes_eq tag (take 16 t) then Some (padded (crypt nac l ad cipher)) else None)) (tags (length ad ∷ (ad ++ cipher)))
    (by (bytes_eq tag (take 16 (mac k (0x54 ∷ length ad ∷ (ad ++ cipher))))))
  where
    by : (c : Bool) → SameOpened regs (if c then Some (padded (crypt mac k ad cipher)) else None) (if c then Some (padded (crypt nac l ad cipher)) else None)
    by true = inr (own, padded_length (crypt mac k ad cipher) (crypt nac l ad cipher) (crypt_long first mac k ad cipher one few ∙ sym (crypt_long second nac l ad cipher two few)))
    by false = tt

module _ (a : Setting) (nac : Mac) (keys : List (List ℕ)) (secret : List ℕ) (e : Entry a nac keys secret)
    (sound : IsSoundSetting a) (sound2 : IsSoundSetting (second a nac keys secret)) (unlinked : Unlinked a (second a nac keys secret)) where
  abbrev L : ℕ → List ℕ → List ℕ → Type 0
  L = Linked a nac keys secret

  abbrev su : Setup
  su = setup_a a nac keys secret e

  abbrev sv : Setup
  sv = setup_b a nac keys secret e

  -- the keys that an end had at the two calls, where it was open
  linked_of : (one two : EndState) → SameEnd (Linked a nac keys secret) one two → one.is_open ≡ true → SameTags a.mac one.key nac two.key
  linked_of one two h o = linked_tags a nac keys secret unlinked one.field one.key two.key (h.1 o)

  keys_linked : (k : ℕ) (x y : List ℕ) → k < ends_count a nac keys secret e → WasOpen (setup_a a nac keys secret e) e.s.mem k x → WasOpen (setup_b a nac keys secret e) e.mem k y
      → SameTags a.mac x nac y
  unfolding end_state
  keys_linked k x y lt p q =
      let first = private_bytes e.sec.layout e.s.mem in
      let other = private_bytes e.sec.layout e.mem in
      let ends = (e.beside.states e.m e.q e.site e.sec e.part e.sited e.lives e.at).1 in
      let h : SameEnd L (end_state first k) (end_state other k) =
      subst (λ (z : EndState). SameEnd L z (end_state other k)) (end_in a e.m e.q.tree first k lt)
      (subst (λ (z : EndState). SameEnd L (end_of (state_of e.q.tree (ends_of a.app e.m) first).ends k) z) (end_in a e.m e.q.tree other k lt)
      (end_same L (state_of e.q.tree (ends_of a.app e.m) first).ends (state_of e.q.tree (ends_of a.app e.m) other).ends k ends)) in
      subst (λ (z : List ℕ). SameTags a.mac z nac y) p.key (subst (λ (z : List ℕ). SameTags a.mac (bytes_from first (end_key_at k) key_size) nac z) q.key
      (linked_of (end_state first k) (end_state other k) h p.is_open))

  -- Two nodes side by side at the same wrap or unwrap.
  module _ (u v : State) (ms ns : List Mark) (last : Event) (tw : Twins (places a nac keys secret e) u v)
      (live : u.sections ≡ e.s.sections) (let_run : word_outside u.sections.live (pc_of u) ≡ true)
      (p : StepShowsNone (setup_a a nac keys secret e) e.s.mem (watched_as a nac keys secret u ms last))
      (q : StepShowsNone (setup_b a nac keys secret e) e.mem (watched_as a nac keys secret v ns last)) where
    regs : v.regs ≡ u.regs
    regs = ap (λ (z : State). z.regs) tw.rest

    word_same : word v.mem (pc_of v) ≡ word u.mem (pc_of u)
    word_same =
        let both = and_parts (outside_private u.sections.live (even (pc_of u))) (outside_private u.sections.live (even (pc_of u) + 1)) let_run in
        let at : (k : ℕ) → outside_private u.sections.live k ≡ true → places a nac keys secret e k =
        λ k out. inl (outside_open _ e.s.sections.live k (subst (λ (z : Sections). outside_private z.live k ≡ true) live out)) in
        ap (λ (r : List ℕ). word v.mem (slice_index r 0)) regs
        ∙ ap₂ (λ (i j : ℕ). i + 256 * j) (sym (tw.mem.same (even (pc_of u)) (at (even (pc_of u)) both.0))) (sym (tw.mem.same (even (pc_of u) + 1) (at (even (pc_of u) + 1) both.1)))

    seal_of : (s : Setup) (entered : List ℕ) (c : Watched) (w x : ℕ) → w ≡ x → is_module_word x ≡ true → WordShowsNone s entered c w (is_module_word w)
        → SealShowsNone s entered c x c.node.regs
    seal_of s entered c w x e is h =
        subst (λ (t : Bool). WordShowsNone s entered c x t) is (subst (λ (z : ℕ). WordShowsNone s entered c z (is_module_word z)) e h)

    used_too : key_used (mate a nac keys secret e) v ≡ (if own_key u.regs then e.other else bytes_from v.mem (slice_index v.regs 9) key_size)
    used_too = ap (λ (r : List ℕ). if own_key r then e.other else bytes_from v.mem (slice_index v.regs 9) key_size) regs

    -- the key in a slot: in both nodes that of the end
    slot_tags : (x : ℕ) → SealShowsNone (setup_a a nac keys secret e) e.s.mem (watched_as a nac keys secret u ms last) x u.regs
        → SealShowsNone (setup_b a nac keys secret e) e.mem (watched_as a nac keys secret v ns last) x v.regs → own_key u.regs ≡ false
        → SameTags a.mac (bytes_from u.mem (slice_index u.regs 9) key_size) nac (bytes_from v.mem (slice_index v.regs 9) key_size)
    slot_tags x one two own = by one.key two.key
      where
        nine : slice_index v.regs 9 ≡ slice_index u.regs 9
        nine = ap (λ (r : List ℕ). slice_index r 9) (ap (λ (z : State). z.regs) tw.rest)

        not_own : (r : ℕ) → r ≡ 0 → (r == 0) ≡ false → ⊥
        not_own r z f = true≢false (sym (eq-eqb r 0 z) ∙ f)

        by : (slice_index u.regs 9 ≡ 0) ⊎ ((k : ℕ) × (k < ends_count a nac keys secret e) × (slice_index u.regs 9 ≡ e.sec.layout.priv_from + end_key_at k)
            × WasOpen (setup_a a nac keys secret e) e.s.mem k (bytes_from u.mem (slice_index u.regs 9) key_size))
            → (slice_index v.regs 9 ≡ 0) ⊎ ((k : ℕ) × (k < ends_count a nac keys secret e) × (slice_index v.regs 9 ≡ e.sec.layout.priv_from + end_key_at k)
            × WasOpen (setup_b a nac keys secret e) e.mem k (bytes_from v.mem (slice_index v.regs 9) key_size))
            → SameTags a.mac (bytes_from u.mem (slice_index u.regs 9) key_size) nac (bytes_from v.mem (slice_index v.regs 9) key_size)
        by (inl z) h = absurd (not_own (slice_index u.regs 9) z own)
        by (inr g) (inl z) = absurd (not_own (slice_index u.regs 9) (sym nine ∙ z) own)
        by (inr g) (inr h) =
            let i = g.2 in
            let j = h.2 in
            let same : h.0 ≡ g.0 = omega (arith, i, j, nine) in
            keys_linked g.0 _ _ g.1 g.3 (subst (λ (z : ℕ). WasOpen (setup_b a nac keys secret e) e.mem z (bytes_from v.mem (slice_index v.regs 9) key_size)) same h.3)

    abbrev header : List ℕ
    header = bytes_from u.mem (slice_index u.regs 10) (slice_index u.regs 11)

    abbrev body : List ℕ
    body = bytes_from u.mem (slice_index u.regs 12) (slice_index u.regs 13)

    abbrev tag : List ℕ
    tag = bytes_from u.mem (slice_index u.regs 15) tag_size

    no_bytes : (m : List ℕ) (at n : ℕ) → n ≡ 0 → bytes_from m at n ≡ []
    unfolding bytes_from
    no_bytes m at zero z = refl
    no_bytes m at (suc n) z = absurd (omega (arith, z))

    wraps_as : word u.mem (pc_of u) ≡ 0x1384 → (c : Bool) → own_key u.regs ≡ c
        → wrapped nac (if c then e.other else bytes_from v.mem (slice_index v.regs 9) key_size) header body
        ≡ wrapped a.mac (if c then e.sec.key else bytes_from u.mem (slice_index u.regs 9) key_size) header body
    wraps_as is true own =
        let one = seal_of su e.s.mem (watched_as a nac keys secret u ms last) (word u.mem (pc_of u)) 0x1384 is refl p in
        let none : body ≡ [] = no_bytes u.mem (slice_index u.regs 12) (slice_index u.regs 13) (one.bodiless refl (eqb-true (slice_index u.regs 9) 0 own)) in
        subst (λ (z : List ℕ). wrapped nac e.other header z ≡ wrapped a.mac e.sec.key header z) (sym none)
        (bare_wrap a.mac nac e.sec.key e.other header (own_tags a nac keys secret e sound sound2 unlinked))
    wraps_as is false own =
        let one = seal_of su e.s.mem (watched_as a nac keys secret u ms last) (word u.mem (pc_of u)) 0x1384 is refl p in
        let two = seal_of sv e.mem (watched_as a nac keys secret v ns last) (word v.mem (pc_of v)) 0x1384 (word_same ∙ is) refl q in
        sym (wrapped_same a.mac nac _ _ header body (slot_tags 0x1384 one two own))

    opens_as : word u.mem (pc_of u) ≡ 0x1385 → (c : Bool) → own_key u.regs ≡ c
        → SameOpened u.regs (unwrapped a.mac (if c then e.sec.key else bytes_from u.mem (slice_index u.regs 9) key_size) header body tag)
        (unwrapped nac (if c then e.other else bytes_from v.mem (slice_index v.regs 9) key_size) header body tag)
    opens_as is true own =
        let one = seal_of su e.s.mem (watched_as a nac keys secret u ms last) (word u.mem (pc_of u)) 0x1385 is refl p in
        let few = (one.opened refl (eqb-true (slice_index u.regs 9) 0 own)).1 in
        let size = length-bytes_from u.mem (slice_index u.regs 12) (slice_index u.regs 13) in
        own_opened a.mac nac a.secret secret e.sec.key e.other header body tag u.regs sound.tag sound2.tag (omega (arith, few, size)) (own_tags a nac keys secret e sound sound2 unlinked) own
    opens_as is false own =
        let one = seal_of su e.s.mem (watched_as a nac keys secret u ms last) (word u.mem (pc_of u)) 0x1385 is refl p in
        let two = seal_of sv e.mem (watched_as a nac keys secret v ns last) (word v.mem (pc_of v)) 0x1385 (word_same ∙ is) refl q in
        opened_self u.regs _ _ (sym (unwrapped_same a.mac nac _ _ header body tag (slot_tags 0x1385 one two own)))

    pub seals : SealsAlike (setup_a a nac keys secret e) nac (mate a nac keys secret e) u v
    seals = record {
      wraps = λ is. ap (λ (k : List ℕ). wrapped nac k header body) used_too ∙ wraps_as is (own_key u.regs) refl;
      opens = λ is.
          subst (λ (k : List ℕ). SameOpened u.regs (unwrapped a.mac (key_used e.sec u) header body tag) (unwrapped nac k header body tag)) (sym used_too)
          (opens_as is (own_key u.regs) refl);
    }
