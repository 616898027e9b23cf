-- What the ledgers of the two runs have in common, and what marks show over them.
use Rattle.std.proofs.Common.{◌≡◌, ℕ, ◌+◌, ◌*◌, ◌==◌, ◌&&◌, ◌||◌, Bool, true, false, if◌then◌else◌, inl, inr, ◌⊎◌, bytes_eq, List, [], ◌∷◌, ◌++◌, length, Some, refl}
use Rattle.std.proofs.Common.{sym, ◌∙◌, ap, ap₂, subst}
use Rattle.std.specs.Bool.{one_answer}
use Rattle.std.proofs.lemmas.Bool.{and_parts, or_cases, true≢false}
use Rattle.std.proofs.lemmas.Slice.Eq.{bytes_eq-Decides}
use Rattle.sx_lang.specs.declared.sides.Side.TheVariants.{To}
use Rattle.sx_trace.specs.declared.items.Item.{Item}
use Rattle.sx_trace.specs.declared.items.Item.TheVariants as item
use Rattle.sx_ledger.specs.declared.entry.Maker.{Maker}
use Rattle.sx_ledger.specs.declared.entry.Maker.TheVariants as maker
use Rattle.sx_tag.specs.Mac.{Mac}
use Rattle.spec_invocation.specs.Entries.{header_in}
use Rattle.spec_invocation.specs.Marks as mark
use Rattle.spec_invocation.specs.Marks.{Mark}
use Rattle.spec_run.specs.Setting.{Setting}
use Rattle.spec_run.specs.Ledger.{Made, NO_TARGET, made_entry, same_maker, same_entry, is_made}
use Rattle.sx_deployer.specs.Granting.{Grant, side_number}
use Rattle.spec_run.specs.Deployer.{grant_header, set_key_entry, connection_key}
use Rattle.sx_wire.specs.Headers.{is_ask, challenge_in, is_set_key_header, is_event_header, link_in, epoch_in, last_in, value_in}
use Rattle.spec_run.specs.Observation.{Observed, with_items, has_wrapped, has_unwrapped, has_end, side_in, sender_of, unless_made}
use Rattle.law_calls.specs.Shown.{mark_observed, marks_observed}
use Rattle.law_forgery.specs.Moments.{IsAmong, NoForged}
use Rattle.law_forgery.proofs.Opening.{AllMarks}
use Rattle.law_forgery.proofs.Keyed.{among_right}
use Rattle.law_forgery.proofs.Unmade.{among_left}
use Rattle.law_connections.proofs.Twice.{IsKey, SameOpened, SameMarks, IsMark}
use Rattle.law_connections.proofs.Linking.{second, Linked, Opens}

module _ (a : Setting) (nac : Mac) (keys : List (List ℕ)) (secret : List ℕ) where
  abbrev b : Setting
  b = second a nac keys secret

  abbrev O : List ℕ → List ℕ → List ℕ → Type 0
  O = Opens a nac keys secret

  -- the same entry of a module, or the set-key packets of the same grant
  abbrev pub SameEntry : Made → Made → Type 0
  SameEntry e f = (((j : ℕ) × (e.maker ≡ maker.Module j)) × (f ≡ e)) ⊎ ((g : Grant) × (e ≡ set_key_entry a g) × (f ≡ set_key_entry b g))

  abbrev pub SameLedger : List Made → List Made → Type 0
  SameLedger [] [] = Unit {0}
  SameLedger [] (f ∷ fs) = ⊥
  SameLedger (e ∷ es) [] = ⊥
  SameLedger (e ∷ es) (f ∷ fs) = SameEntry e f × SameLedger es fs

  pub same_more : (es fs : List Made) (e f : Made) → SameLedger es fs → SameEntry e f → SameLedger (es ++ e ∷ []) (fs ++ f ∷ [])
  same_more [] [] e f h g = (g, tt)
  same_more [] (y ∷ fs) e f h g = absurd h
  same_more (x ∷ es) [] e f h g = absurd h
  same_more (x ∷ es) (y ∷ fs) e f h g = (h.0, same_more es fs e f h.1 g)

  -- A module's entry was made in both or in neither.
  pub module_made : (es fs : List Made) → SameLedger es fs → (j target boot : ℕ) (header body : List ℕ)
      → is_made fs (made_entry (maker.Module j) target boot header body) ≡ is_made es (made_entry (maker.Module j) target boot header body)
  module_made [] [] h j target boot header body = refl
  module_made [] (f ∷ fs) h j target boot header body = absurd h
  module_made (e ∷ es) [] h j target boot header body = absurd h
  module_made (e ∷ es) (f ∷ fs) h j target boot header body =
      ap₂ (λ (p q : Bool). p || q) (by h.0) (module_made es fs h.1 j target boot header body)
    where
      by : SameEntry e f → same_entry (made_entry (maker.Module j) target boot header body) f ≡ same_entry (made_entry (maker.Module j) target boot header body) e
      by (inl k) = ap (same_entry (made_entry (maker.Module j) target boot header body)) k.1
      by (inr g) = ap (same_entry (made_entry (maker.Module j) target boot header body)) g.2 ∙ sym (ap (same_entry (made_entry (maker.Module j) target boot header body)) g.1)

  -- A set-key packet was made in both or in neither, where that is so of what it opens to.
  pub key_made : (es fs : List Made) → SameLedger es fs → (m boot : ℕ) (header k l : List ℕ) → O header k l
      → is_made fs (made_entry maker.Deployer m boot header l) ≡ is_made es (made_entry maker.Deployer m boot header k)
  key_made [] [] h m boot header k l o = refl
  key_made [] (f ∷ fs) h m boot header k l o = absurd h
  key_made (e ∷ es) [] h m boot header k l o = absurd h
  key_made (e ∷ es) (f ∷ fs) h m boot header k l o = ap₂ (λ (p q : Bool). p || q) (by h.0) (key_made es fs h.1 m boot header k l o)
    where
      none : (body : List ℕ) (z : Made) (j : ℕ) → z.maker ≡ maker.Module j → same_entry (made_entry maker.Deployer m boot header body) z ≡ false
      none body z j is = ap (λ (w : Maker). same_maker maker.Deployer w && ((m == z.target) && ((boot == z.boot) && (bytes_eq header z.header && bytes_eq body z.body)))) is

      keys_same : (g : Grant) (c : Bool) → bytes_eq header (grant_header g) ≡ c
          → (c && bytes_eq l (connection_key b g.«end».link g.epoch)) ≡ (c && bytes_eq k (connection_key a g.«end».link g.epoch))
      keys_same g false e = refl
      keys_same g true e =
          let is : header ≡ grant_header g = (bytes_eq-Decides header (grant_header g)).0 e in
          let p = o g.«end».link g.epoch (side_number g.«end».side) is in
          let x = connection_key a g.«end».link g.epoch in
          let y = connection_key b g.«end».link g.epoch in
          one_answer {P = k ≡ x} (bytes_eq l y) (bytes_eq k x) (λ t. p.1 ((bytes_eq-Decides l y).0 t), λ is. (bytes_eq-Decides l y).1 (p.0 is)) (bytes_eq-Decides k x)

      by : SameEntry e f → same_entry (made_entry maker.Deployer m boot header l) f ≡ same_entry (made_entry maker.Deployer m boot header k) e
      by (inl i) = ap (same_entry (made_entry maker.Deployer m boot header l)) i.1 ∙ none l e i.0.0 i.0.1 ∙ sym (none k e i.0.0 i.0.1)
      by (inr g) =
          ap (same_entry (made_entry maker.Deployer m boot header l)) g.2
          ∙ ap (λ (c : Bool). (m == g.0.holder) && ((boot == g.0.boot) && c)) (keys_same g.0 (bytes_eq header (grant_header g.0)) refl)
          ∙ sym (ap (same_entry (made_entry maker.Deployer m boot header k)) g.1)

  -- A set-key packet that was made is a grant's.
  abbrev pub IsGranted : List ℕ → List ℕ → Type 0
  IsGranted header k = (g : Grant) × (header ≡ grant_header g) × (k ≡ connection_key a g.«end».link g.epoch)

  pub made_granted : (es fs : List Made) → SameLedger es fs → (m boot : ℕ) (header k : List ℕ) → is_made es (made_entry maker.Deployer m boot header k) ≡ true → IsGranted header k
  made_granted [] fs h m boot header k e = absurd (true≢false (sym e))
  made_granted (x ∷ es) [] h m boot header k e = absurd h
  made_granted (x ∷ es) (y ∷ fs) h m boot header k e =
      elim (or_cases (same_entry (made_entry maker.Deployer m boot header k) x) (is_made es (made_entry maker.Deployer m boot header k)) e) [
        | inl t ↦ by h.0 t
        | inr r ↦ made_granted es fs h.1 m boot header k r
      ]
    where
      by : SameEntry x y → same_entry (made_entry maker.Deployer m boot header k) x ≡ true → IsGranted header k
      by (inl i) t = absurd (true≢false (sym t
          ∙ ap (λ (w : Maker). same_maker maker.Deployer w && ((m == x.target) && ((boot == x.boot) && (bytes_eq header x.header && bytes_eq k x.body)))) i.0.1))
      by (inr g) t =
          let t2 : ((m == g.0.holder) && ((boot == g.0.boot) && (bytes_eq header (grant_header g.0) && bytes_eq k (connection_key a g.0.«end».link g.0.epoch)))) ≡ true =
          sym (ap (same_entry (made_entry maker.Deployer m boot header k)) g.1) ∙ t in
          let p = and_parts (m == g.0.holder) _ t2 in
          let q = and_parts (boot == g.0.boot) _ p.1 in
          let r = and_parts (bytes_eq header (grant_header g.0)) _ q.1 in
          (g.0, (bytes_eq-Decides header (grant_header g.0)).0 r.0, (bytes_eq-Decides k (connection_key a g.0.«end».link g.0.epoch)).0 r.1)

  -- Marks of a module, where `P` says what they are of.
  module _ (places : ℕ → Type 0) (n m boot : ℕ) (P : Mark → Type 0)
      (keyed : (header body : List ℕ) → P (mark.Unwrapped header body true) → (is_set_key_header header && has_end a.app m (link_in header) (side_in header)) ≡ true)
      (event : (header body : List ℕ) → P (mark.Unwrapped header body false) → is_set_key_header header ≡ false) where
    abbrev L : ℕ → List ℕ → List ℕ → Type 0
    L = Linked a nac keys secret

    abbrev SameSeen : Observed → Observed → Type 0
    SameSeen x y = (y.items ≡ x.items) × SameLedger x.ledger y.ledger

    wrapped_same : (header body : List ℕ) (own : Bool) (es fs : List Made) → SameLedger es fs → SameSeen (has_wrapped m boot header body own es) (has_wrapped m boot header body own fs)
    wrapped_same header body own es fs h = by (is_ask header && ((length body == 0) && own)) (is_event_header header && (length body == 2))
      where
        by : (p q : Bool) → SameSeen
            (if p then with_items (es ++ made_entry (maker.Module m) NO_TARGET boot header body ∷ []) (item.Vouch m (challenge_in header) ∷ [])
            else if q then with_items (es ++ made_entry (maker.Module m) NO_TARGET 0 header body ∷ []) [] else with_items es [])
            (if p then with_items (fs ++ made_entry (maker.Module m) NO_TARGET boot header body ∷ []) (item.Vouch m (challenge_in header) ∷ [])
            else if q then with_items (fs ++ made_entry (maker.Module m) NO_TARGET 0 header body ∷ []) [] else with_items fs [])
        by true q = (refl, same_more es fs (made_entry (maker.Module m) NO_TARGET boot header body) (made_entry (maker.Module m) NO_TARGET boot header body) h (inl ((m, refl), refl)))
        by false true = (refl, same_more es fs (made_entry (maker.Module m) NO_TARGET 0 header body) (made_entry (maker.Module m) NO_TARGET 0 header body) h (inl ((m, refl), refl)))
        by false false = (refl, h)

    -- what an unwrap shows
    abbrev shown_if : (c d e : Bool) → List ℕ → List ℕ → List Item
    shown_if c d e header body =
        if c then unless_made (Some m) d (item.Open m (link_in header) (side_in header) (epoch_in header))
        else if is_event_header header && has_end a.app m (link_in header) To then
        unless_made (Some m) e (item.Take m (link_in header) (65536 * epoch_in header + last_in header) (value_in body))
        else []

    abbrev from_module : List ℕ → List ℕ → Made
    from_module header body = made_entry (maker.Module (sender_of a.app (link_in header))) NO_TARGET 0 header body

    taken_same : (header body : List ℕ) (es fs : List Made) → SameLedger es fs → is_set_key_header header ≡ false
        → has_unwrapped a.app m boot header body fs ≡ has_unwrapped a.app m boot header body es
    taken_same header body es fs h other =
        let c : (is_set_key_header header && has_end a.app m (link_in header) (side_in header)) ≡ false =
        ap (λ (z : Bool). z && has_end a.app m (link_in header) (side_in header)) other in
        ap (λ (z : Bool). shown_if z (is_made fs (made_entry maker.Deployer m boot header body)) (is_made fs (from_module header body)) header body) c
        ∙ ap (λ (z : Bool). shown_if false true z header body) (module_made es fs h (sender_of a.app (link_in header)) NO_TARGET 0 header body)
        ∙ sym (ap (λ (z : Bool). shown_if z (is_made es (made_entry maker.Deployer m boot header body)) (is_made es (from_module header body)) header body) c)

    opened_same : (header k l : List ℕ) (es fs : List Made) → SameLedger es fs → O header k l
        → (is_set_key_header header && has_end a.app m (link_in header) (side_in header)) ≡ true
        → has_unwrapped a.app m boot header l fs ≡ has_unwrapped a.app m boot header k es
    opened_same header k l es fs h o c =
        ap (λ (z : Bool). shown_if z (is_made fs (made_entry maker.Deployer m boot header l)) (is_made fs (from_module header l)) header l) c
        ∙ ap (λ (z : Bool). shown_if true z true header k) (key_made es fs h m boot header k l o)
        ∙ sym (ap (λ (z : Bool). shown_if z (is_made es (made_entry maker.Deployer m boot header k)) (is_made es (from_module header k)) header k) c)

    mark_same : (x y : Mark) (es fs : List Made) → SameLedger es fs → P x → ((x ≡ y) × (IsKey x → ⊥)) ⊎ SameOpened L O places x y
        → SameSeen (mark_observed a.app n m boot x es) (mark_observed a.app n m boot y fs)
    mark_same x y es fs h p (inl e) = subst (λ (z : Mark). SameSeen (mark_observed a.app n m boot x es) (mark_observed a.app n m boot z fs)) e.0 (by x p e.1)
      where
        by : (z : Mark) → P z → (IsKey z → ⊥) → SameSeen (mark_observed a.app n m boot z es) (mark_observed a.app n m boot z fs)
        by (mark.Wrapped header body own) p plain = wrapped_same header body own es fs h
        by (mark.Unwrapped header body true) p plain = absurd (plain tt)
        by (mark.Unwrapped header body false) p plain = (taken_same header body es fs h (event header body p), h)
        by (mark.Sampled k v) p plain = (refl, h)
        by (mark.Actuated k v) p plain = (refl, h)
    mark_same x y es fs h p (inr o) =
        let c = keyed (header_in o.packet) o.a (subst P o.first p) in
        subst (λ (z : Mark). SameSeen (mark_observed a.app n m boot z es) (mark_observed a.app n m boot y fs)) (sym o.first)
        (subst (λ (z : Mark). SameSeen (mark_observed a.app n m boot (mark.Unwrapped (header_in o.packet) o.a true) es) (mark_observed a.app n m boot z fs)) (sym o.second)
        (opened_same (header_in o.packet) o.a o.b es fs h o.opens c, h))

    -- the same items, over ledgers that have the same in common again
    pub marks_same : (ms ns : List Mark) (es fs : List Made) → SameLedger es fs → AllMarks P ms → SameMarks L O places ms ns
        → SameSeen (marks_observed a.app n m boot ms es) (marks_observed a.app n m boot ns fs)
    marks_same [] [] es fs h p g = (refl, h)
    marks_same [] (y ∷ ns) es fs h p g = absurd g
    marks_same (x ∷ ms) [] es fs h p g = absurd g
    marks_same (x ∷ ms) (y ∷ ns) es fs h p g =
        let one = mark_same x y es fs h p.0 g.0 in
        let rest = marks_same ms ns (mark_observed a.app n m boot x es).ledger (mark_observed a.app n m boot y fs).ledger one.1 p.1 g.1 in
        (ap₂ (λ (i j : List Item). i ++ j) one.0 rest.0, rest.1)

    key_granted : (header k : List ℕ) (es fs : List Made) → SameLedger es fs → (is_set_key_header header && has_end a.app m (link_in header) (side_in header)) ≡ true
        → NoForged (has_unwrapped a.app m boot header k es) → IsGranted header k
    key_granted header k es fs h c clean = by (is_made es (made_entry maker.Deployer m boot header k)) refl
      where
        by : (d : Bool) → is_made es (made_entry maker.Deployer m boot header k) ≡ d → IsGranted header k
        by true e = made_granted es fs h m boot header k e
        by false e =
            absurd (clean (Some m)
            (subst (λ (z : Bool). IsAmong (item.Forged (Some m)) (shown_if z (is_made es (made_entry maker.Deployer m boot header k)) (is_made es (from_module header k)) header k)) (sym c)
            (subst (λ (z : Bool). IsAmong (item.Forged (Some m)) (unless_made (Some m) z (item.Open m (link_in header) (side_in header) (epoch_in header)))) (sym e) (inl refl))))

    -- where no `forged` shows, each key that was taken was granted
    pub keys_granted : (ms ns : List Mark) (es fs : List Made) → SameLedger es fs → AllMarks P ms → SameMarks L O places ms ns
        → NoForged (marks_observed a.app n m boot ms es).items → (header k : List ℕ) → IsMark (mark.Unwrapped header k true) ms → IsGranted header k
    keys_granted [] ns es fs h p g clean header k is = absurd is
    keys_granted (x ∷ ms) [] es fs h p g clean header k is = absurd g
    keys_granted (x ∷ ms) (y ∷ ns) es fs h p g clean header k is =
        let first = (mark_observed a.app n m boot x es).items in
        let rest = (marks_observed a.app n m boot ms (mark_observed a.app n m boot x es).ledger).items in
        elim is [
          | inl e ↦ key_granted header k es fs h (keyed header k (subst P e p.0))
              (λ who i. clean who (among_left (item.Forged who) first rest (subst (λ (z : Mark). IsAmong (item.Forged who) (mark_observed a.app n m boot z es).items) (sym e) i)))
          | inr r ↦
              let one = mark_same x y es fs h p.0 g.0 in
              keys_granted ms ns (mark_observed a.app n m boot x es).ledger (mark_observed a.app n m boot y fs).ledger one.1 p.1 g.1
              (λ who i. clean who (among_right (item.Forged who) first rest i)) header k r
        ]
