-- A line in which an item is read is that item's.
use Rattle.std.proofs.Common.{◌≡◌, ◌⊎◌, inl, inr, ℕ, suc, ◌+◌, ◌^◌, ◌<◌, ◌≤◌, Bool, true, false, ◌==◌, nat_lt, List, [], ◌∷◌, ◌++◌, length, codes, decimal, Option, Some, None, refl, sym, ap, ◌∙◌, arith}
use Rattle.std.specs.Prelude.{if◌then◌else◌}
use Rattle.std.specs.List.{position_or_len}
use Rattle.std.specs.Str.{bytes_eq}
use Rattle.std.proofs.lemmas.Bool.Decides.{nat_tests}
use Rattle.std.proofs.lemmas.Slice.Eq.{bytes_eq-Decides}
use Rattle.sx_lang.specs.declared.sides.Side.{Side}
use Rattle.sx_lang.specs.declared.sides.Side.TheVariants.{From, To}
use Rattle.sx_index.specs.Places.{place_of}
use Rattle.sx_trace.specs.Names.{NameLists, deployer}
use Rattle.sx_trace.specs.declared.items.Cause.{Cause}
use Rattle.sx_trace.specs.declared.items.Cause.TheVariants as cause
use Rattle.sx_trace.specs.declared.items.Item.{Item}
use Rattle.sx_trace.specs.declared.items.Item.TheVariants.{Reset, Protect, Sense, Read, Drain, Ask, Attested, Denied, Vouch, Open, Take, Out, Raw, Done, Packet, Forged}
use Rattle.sx_trace.specs.Items.{name_at, name_or, cause_word, side_word, item_text}
use Rattle.sx_trace.specs.Finding.{◌>>=◌, or_else, cut, number_below, index_or_none, cause_of, side_of, later_open, later_in, open_in, take_in, done_in, packet_in, numbered_in, module_in, device_in, node_in}
use Rattle.sx_trace.specs.Finding.{refused_in, has_one_name, named_in, is_of_node, is_of_device, first_in, kind_in, item_in}
use Rattle.sx_trace.proofs.Cut.{cut_joined, number_text}

-- there was a value, and something was made of it
some : {A B P : Type 0} (o : Option A) (f : A → Option B) (y : B) → (o >>= f) ≡ Some y → ((x : A) → o ≡ Some x → f x ≡ Some y → P) → P
some (Some x) f y h k = k x refl h
some None f y h k = absurd (cc h)

-- which of two answers it was
either : {A : Type 0} (t : Bool) (a b : Option A) (y : A) → (if t then a else b) ≡ Some y → ((t ≡ true) × (a ≡ Some y)) ⊎ ((t ≡ false) × (b ≡ Some y))
either true a b y h = inl (refl, h)
either false a b y h = inr (refl, h)

same : (a b : List ℕ) → bytes_eq a b ≡ true → a ≡ b
same a b h = (bytes_eq-Decides a b).0 h

-- the place of a name
abbrev IsPlaced : List ℕ → List (List ℕ) → ℕ → Type 0
IsPlaced text names k = k < length names → name_at names k ≡ text

placed_first : (text : List ℕ) (names : List (List ℕ)) → IsPlaced text names (position_or_len (λ n. bytes_eq n text) names)
placed_first text [] lt = absurd (omega arith)
placed_first text (x ∷ xs) lt = by_test (placed_first text xs) (bytes_eq x text) refl lt
  where
    by_test : IsPlaced text xs (position_or_len (λ n. bytes_eq n text) xs) → (t : Bool) → bytes_eq x text ≡ t
        → IsPlaced text (x ∷ xs) (position_or_len (λ n. bytes_eq n text) (x ∷ xs))
    by_test rest true e lt = rw e (same x text e)
    by_test rest false e lt =
        let k = position_or_len (λ n. bytes_eq n text) xs in
        let far : position_or_len (λ n. bytes_eq n text) (x ∷ xs) ≡ 1 + k = rw e refl in
        let next : position_or_len (λ n. bytes_eq n text) (x ∷ xs) ≡ suc k = omega (arith, far) in
        rw next (rest (omega (arith, far, lt)))

placed : (names : List (List ℕ)) (text : List ℕ) (i : ℕ) → place_of names text ≡ Some i → text ≡ name_at names i
placed names text i h = by_test (nat_lt (position_or_len (λ n. bytes_eq n text) names) (length names)) refl
  where
    by_test : (t : Bool) → nat_lt (position_or_len (λ n. bytes_eq n text) names) (length names) ≡ t → text ≡ name_at names i
    by_test false e =
        let none : place_of names text ≡ None = rw e refl in
        absurd (cc (none, h))
    by_test true e =
        let k = position_or_len (λ n. bytes_eq n text) names in
        let found : place_of names text ≡ Some k = rw e refl in
        let at : k ≡ i = cc (found, h) in
        let within : k < length names = grind (arith, nat_tests, e) in
        sym (placed_first text names within) ∙ ap (name_at names) at

-- an item was made of a number
number : {P : Type 0} (limit : ℕ) (make : ℕ → Item) (fields : List ℕ) (item : Item) → limit ≤ 2 ^ 128 → (number_below limit fields >>= (λ v. Some (make v))) ≡ Some item
    → ((v : ℕ) → item ≡ make v → fields ≡ decimal v → P) → P
number limit make fields item few h k = some (number_below limit fields) (λ v. Some (make v)) item h (λ v e g.
    let is : item ≡ make v = cc g in
    k v is (number_text limit v fields few e))

cause_said : (word : List ℕ) (why : Cause) → cause_of word ≡ Some why → word ≡ cause_word why
cause_said word why h = elim (either (bytes_eq word (codes "order")) _ _ why h) [
  | inl p ↦ let e = p.1 in let w : why ≡ cause.Order = cc e in same word (codes "order") p.0 ∙ rw w refl
  | inr h1 ↦ elim (either (bytes_eq word (codes "fetch")) _ _ why h1.1) [
    | inl p ↦ let e = p.1 in let w : why ≡ cause.Fetch = cc e in same word (codes "fetch") p.0 ∙ rw w refl
    | inr h2 ↦ elim (either (bytes_eq word (codes "read")) _ _ why h2.1) [
      | inl p ↦ let e = p.1 in let w : why ≡ cause.Read = cc e in same word (codes "read") p.0 ∙ rw w refl
      | inr h3 ↦ elim (either (bytes_eq word (codes "write")) _ _ why h3.1) [
        | inl p ↦ let e = p.1 in let w : why ≡ cause.Write = cc e in same word (codes "write") p.0 ∙ rw w refl
        | inr h4 ↦ elim (either (bytes_eq word (codes "device")) _ _ why h4.1) [
          | inl p ↦ let e = p.1 in let w : why ≡ cause.Device = cc e in same word (codes "device") p.0 ∙ rw w refl
          | inr h5 ↦ elim (either (bytes_eq word (codes "illegal")) _ _ why h5.1) [
            | inl p ↦ let e = p.1 in let w : why ≡ cause.Illegal = cc e in same word (codes "illegal") p.0 ∙ rw w refl
            | inr h6 ↦ elim (either (bytes_eq word (codes "range")) _ _ why h6.1) [
              | inl p ↦ let e = p.1 in let w : why ≡ cause.Range = cc e in same word (codes "range") p.0 ∙ rw w refl
              | inr h7 ↦ elim (either (bytes_eq word (codes "asked")) _ _ why h7.1) [
                | inl p ↦ let e = p.1 in let w : why ≡ cause.Asked = cc e in same word (codes "asked") p.0 ∙ rw w refl
                | inr p ↦ let e = p.1 in absurd (cc e)
              ]
            ]
          ]
        ]
      ]
    ]
  ]
]

side_said : (word : List ℕ) (side : Side) → side_of word ≡ Some side → word ≡ side_word side
side_said word side h = elim (either (bytes_eq word (codes "from")) _ _ side h) [
  | inl p ↦ let e = p.1 in let w : side ≡ From = cc e in same word (codes "from") p.0 ∙ rw w refl
  | inr q ↦ elim (either (bytes_eq word (codes "to")) _ _ side q.1) [
    | inl p ↦ let e = p.1 in let w : side ≡ To = cc e in same word (codes "to") p.0 ∙ rw w refl
    | inr p ↦ let e = p.1 in absurd (cc e)
  ]
]

index_said : (other word : List ℕ) (names : List (List ℕ)) (m : Option ℕ) → index_or_none other names word ≡ Some m → word ≡ name_or other names m
index_said other word names m h = elim (either (bytes_eq word other) _ _ m h) [
  | inl p ↦ let e = p.1 in let w : m ≡ None = cc e in same word other p.0 ∙ rw w refl
  | inr q ↦ some (place_of names word) (λ i. Some (Some i)) m q.1 (λ i at g.
      let w : m ≡ Some i = cc g in
      placed names word i at ∙ rw w refl)
]

module _ (n : NameLists) where
  later_said : (m link : ℕ) (side epoch : List ℕ) (item : Item) → later_open m link side epoch ≡ Some item
      → item_text n item ≡ codes "open" ++ 32 ∷ (name_at n.modules m ++ 32 ∷ (name_at n.links link ++ 32 ∷ (side ++ 32 ∷ epoch)))
  unfolding item_text
  later_said m link side epoch item h = some (side_of side) _ item h (λ s is_side g.
      some (number_below (2 ^ 8) epoch) _ item g (λ v is_number made.
      elim (either (v == 0) _ _ item made) [
        | inl p ↦ let no = p.1 in absurd (cc no)
        | inr p ↦
            let is = p.1 in
            let w : item ≡ Open m link s v = cc is in
            rw (w, side_said side s is_side, number_text (2 ^ 8) v epoch (omega arith) is_number, p.0) refl
      ]))

  side_of_said : (m link : ℕ) (fields : List ℕ) (item : Item) (o : Option Side) → side_of fields ≡ o
      → or_else (o >>= (λ side. Some (Open m link side 0))) (later_in m link fields) ≡ Some item
      → item_text n item ≡ codes "open" ++ 32 ∷ (name_at n.modules m ++ 32 ∷ (name_at n.links link ++ 32 ∷ fields))
  unfolding item_text
  side_of_said m link fields item (Some side) e h =
      let w : item ≡ Open m link side 0 = cc h in
      rw (w, side_said fields side e) refl
  side_of_said m link fields item None e h = some (cut fields) (λ f. later_open m link f.0 f.1) item h (λ f is g.
      rw (cut_joined fields f is) (later_said m link f.0 f.1 item g))

  open_said : (m : ℕ) (fields : List ℕ) (item : Item) → open_in n m fields ≡ Some item → item_text n item ≡ codes "open" ++ 32 ∷ (name_at n.modules m ++ 32 ∷ fields)
  open_said m fields item h = some (cut fields) _ item h (λ f is g.
      some (place_of n.links f.0) _ item g (λ link at made.
      rw (cut_joined fields f is, placed n.links f.0 link at) (side_of_said m link f.1 item (side_of f.1) refl made)))

  take_said : (m : ℕ) (fields : List ℕ) (item : Item) → take_in n m fields ≡ Some item → item_text n item ≡ codes "take" ++ 32 ∷ (name_at n.modules m ++ 32 ∷ fields)
  unfolding item_text
  take_said m fields item h = some (cut fields) _ item h (λ f is g.
      some (cut f.1) _ item g (λ r is_rest g1.
      some (place_of n.links f.0) _ item g1 (λ link at g2.
      some (number_below (2 ^ 32) r.0) _ item g2 (λ k is_number g3.
      number (2 ^ 16) (Take m link k) r.1 item (omega arith) g3 (λ v w text.
      let link_text : f.0 ≡ name_at n.links link = placed n.links f.0 link at in
      let number : r.0 ≡ decimal k = number_text (2 ^ 32) k r.0 (omega arith) is_number in
      rw (w, cut_joined fields f is, link_text, cut_joined f.1 r is_rest, number, text) refl)))))

  done_said : (m : ℕ) (fields : List ℕ) (item : Item) → done_in m fields ≡ Some item → item_text n item ≡ codes "done" ++ 32 ∷ (name_at n.modules m ++ 32 ∷ fields)
  unfolding item_text
  done_said m fields item h = some (cut fields) _ item h (λ f is g.
      some (number_below (2 ^ 16) f.0) _ item g (λ k is_number g1.
      number (2 ^ 16) (Done m k) f.1 item (omega arith) g1 (λ v w text.
      rw (w, cut_joined fields f is, number_text (2 ^ 16) k f.0 (omega arith) is_number, text) refl)))

  packet_said : (fields : List ℕ) (item : Item) → packet_in fields ≡ Some item → item_text n item ≡ codes "packet" ++ 32 ∷ fields
  unfolding item_text
  packet_said fields item h = some (cut fields) _ item h (λ f is g.
      some (number_below (2 ^ 32) f.0) _ item g (λ k is_number g1.
      number (2 ^ 16) (Packet k) f.1 item (omega arith) g1 (λ v w text.
      rw (w, cut_joined fields f is, number_text (2 ^ 32) k f.0 (omega arith) is_number, text) refl)))

  -- the line of a kind, a name and fields
  abbrev IsLine : Item → List ℕ → List ℕ → List ℕ → Type 0
  IsLine item kind name fields = item_text n item ≡ kind ++ 32 ∷ (name ++ 32 ∷ fields)

  numbered_said : (kind : List ℕ) (m : ℕ) (fields : List ℕ) (item : Item) → numbered_in kind m fields ≡ Some item → IsLine item kind (name_at n.modules m) fields
  unfolding item_text
  numbered_said kind m fields item h = elim (either (bytes_eq kind (codes "read")) _ _ item h) [
    | inl p ↦ number (2 ^ 16) (Read m) fields item (omega arith) p.1 (λ v w text. rw (w, same kind (codes "read") p.0, text) refl)
    | inr h1 ↦ elim (either (bytes_eq kind (codes "out")) _ _ item h1.1) [
      | inl p ↦ number (2 ^ 16) (Out m) fields item (omega arith) p.1 (λ v w text. rw (w, same kind (codes "out") p.0, text) refl)
      | inr h2 ↦ elim (either (bytes_eq kind (codes "ask")) _ _ item h2.1) [
        | inl p ↦ number (2 ^ 128) (Ask m) fields item (omega arith) p.1 (λ v w text. rw (w, same kind (codes "ask") p.0, text) refl)
        | inr h3 ↦ elim (either (bytes_eq kind (codes "vouch")) _ _ item h3.1) [
          | inl p ↦ number (2 ^ 128) (Vouch m) fields item (omega arith) p.1 (λ v w text. rw (w, same kind (codes "vouch") p.0, text) refl)
          | inr h4 ↦ elim (either (bytes_eq kind (codes "attested")) _ _ item h4.1) [
            | inl p ↦ number (2 ^ 32) (Attested m) fields item (omega arith) p.1 (λ v w text. rw (w, same kind (codes "attested") p.0, text) refl)
            | inr p ↦ let e = p.1 in absurd (cc e)
          ]
        ]
      ]
    ]
  ]

  module_said : (kind : List ℕ) (m : ℕ) (fields : List ℕ) (item : Item) → module_in n kind m fields ≡ Some item → IsLine item kind (name_at n.modules m) fields
  module_said kind m fields item h = elim (either (bytes_eq kind (codes "done")) _ _ item h) [
    | inl p ↦ rw (same kind (codes "done") p.0) (done_said m fields item p.1)
    | inr h1 ↦ elim (either (bytes_eq kind (codes "take")) _ _ item h1.1) [
      | inl p ↦ rw (same kind (codes "take") p.0) (take_said m fields item p.1)
      | inr h2 ↦ elim (either (bytes_eq kind (codes "open")) _ _ item h2.1) [
        | inl p ↦ rw (same kind (codes "open") p.0) (open_said m fields item p.1)
        | inr p ↦ numbered_said kind m fields item p.1
      ]
    ]
  ]

  device_said : (kind : List ℕ) (d : ℕ) (fields : List ℕ) (item : Item) → is_of_device kind ≡ true → device_in kind d fields ≡ Some item → IsLine item kind (name_at n.devices d) fields
  unfolding item_text
  device_said kind d fields item of h = elim (either (bytes_eq kind (codes "sense")) _ _ item h) [
    | inl p ↦ number (2 ^ 16) (Sense d) fields item (omega arith) p.1 (λ v w text. rw (w, same kind (codes "sense") p.0, text) refl)
    | inr p ↦
        let raw : bytes_eq kind (codes "raw") ≡ true = rw p.0 at of in
        number (2 ^ 16) (Raw d) fields item (omega arith) p.1 (λ v w text. rw (w, same kind (codes "raw") raw, text) refl)
  ]

  node_said : (kind : List ℕ) (node : ℕ) (fields : List ℕ) (item : Item) → is_of_node kind ≡ true → node_in n kind node fields ≡ Some item → IsLine item kind (name_at n.nodes node) fields
  unfolding item_text
  node_said kind node fields item of h = elim (either (bytes_eq kind (codes "reset")) _ _ item h) [
    | inl p ↦ some (cause_of fields) _ item p.1 (λ why is made.
        let w : item ≡ Reset node why = cc made in
        rw (w, same kind (codes "reset") p.0, cause_said fields why is) refl)
    | inr p ↦ some (index_or_none (codes "-") n.modules fields) _ item p.1 (λ m is made.
        let w : item ≡ Protect node m = cc made in
        let protect : bytes_eq kind (codes "protect") ≡ true = rw p.0 at of in
        rw (w, same kind (codes "protect") protect, index_said (codes "-") fields n.modules m is) refl)
  ]

  -- the line of a kind and a name
  abbrev IsShort : Item → List ℕ → List ℕ → Type 0
  IsShort item kind name = item_text n item ≡ kind ++ 32 ∷ name

  budget : (kind : List ℕ) (t : Bool) → bytes_eq kind (codes "budget") ≡ t → has_one_name kind ≡ true → bytes_eq kind (codes "busy") ≡ false → bytes_eq kind (codes "skip") ≡ false
      → bytes_eq kind (codes "drain") ≡ false → bytes_eq kind (codes "denied") ≡ false → bytes_eq kind (codes "forged") ≡ false → bytes_eq kind (codes "budget") ≡ true
  budget kind true e h no_busy no_skip no_drain no_denied no_forged = e
  budget kind false e h no_busy no_skip no_drain no_denied no_forged =
      let no : false ≡ true = rw (no_busy, no_skip, e, no_drain, no_denied, no_forged) at h in
      absurd (cc no)

  refused_said : (kind : List ℕ) (node : ℕ) → has_one_name kind ≡ true → bytes_eq kind (codes "drain") ≡ false → bytes_eq kind (codes "denied") ≡ false
      → bytes_eq kind (codes "forged") ≡ false → IsShort (refused_in kind node) kind (name_at n.nodes node)
  unfolding item_text
  refused_said kind node h no_drain no_denied no_forged = by_busy (bytes_eq kind (codes "busy")) refl
    where
      by_skip : (t : Bool) → bytes_eq kind (codes "skip") ≡ t → bytes_eq kind (codes "busy") ≡ false → IsShort (refused_in kind node) kind (name_at n.nodes node)
      by_skip true e f = rw (f, e) (rw (same kind (codes "skip") e) refl)
      by_skip false e f =
          let last : bytes_eq kind (codes "budget") ≡ true = budget kind (bytes_eq kind (codes "budget")) refl h f e no_drain no_denied no_forged in
          rw (f, e) (rw (same kind (codes "budget") last) refl)

      by_busy : (t : Bool) → bytes_eq kind (codes "busy") ≡ t → IsShort (refused_in kind node) kind (name_at n.nodes node)
      by_busy true e = rw e (rw (same kind (codes "busy") e) refl)
      by_busy false e = by_skip (bytes_eq kind (codes "skip")) refl e

  named_said : (kind name : List ℕ) (item : Item) → has_one_name kind ≡ true → named_in n kind name ≡ Some item → IsShort item kind name
  unfolding item_text
  named_said kind name item one h = elim (either (bytes_eq kind (codes "drain")) _ _ item h) [
    | inl p ↦ some (place_of n.devices name) _ item p.1 (λ d at made.
        let w : item ≡ Drain d = cc made in
        rw (w, same kind (codes "drain") p.0, placed n.devices name d at) refl)
    | inr h1 ↦ elim (either (bytes_eq kind (codes "denied")) _ _ item h1.1) [
      | inl p ↦ some (place_of n.modules name) _ item p.1 (λ m at made.
          let w : item ≡ Denied m = cc made in
          rw (w, same kind (codes "denied") p.0, placed n.modules name m at) refl)
      | inr h2 ↦ elim (either (bytes_eq kind (codes "forged")) _ _ item h2.1) [
        | inl p ↦ some (index_or_none deployer n.modules name) _ item p.1 (λ m is made.
            let w : item ≡ Forged m = cc made in
            rw (w, same kind (codes "forged") p.0, index_said deployer name n.modules m is) refl)
        | inr p ↦ some (place_of n.nodes name) _ item p.1 (λ node at made.
            let w : item ≡ refused_in kind node = cc made in
            rw (w, placed n.nodes name node at) (refused_said kind node one h1.0 h2.0 p.0))
      ]
    ]
  ]

  first_said : (kind name fields : List ℕ) (item : Item) → first_in n kind name fields ≡ Some item → IsLine item kind name fields
  first_said kind name fields item h = elim (either (is_of_node kind) _ _ item h) [
    | inl p ↦ some (place_of n.nodes name) _ item p.1 (λ node at g. rw (placed n.nodes name node at) (node_said kind node fields item p.0 g))
    | inr h1 ↦ elim (either (is_of_device kind) _ _ item h1.1) [
      | inl p ↦ some (place_of n.devices name) _ item p.1 (λ d at g. rw (placed n.devices name d at) (device_said kind d fields item p.0 g))
      | inr p ↦ some (place_of n.modules name) _ item p.1 (λ m at g. rw (placed n.modules name m at) (module_said kind m fields item g))
    ]
  ]

  kind_said : (kind fields : List ℕ) (item : Item) → kind_in n kind fields ≡ Some item → IsShort item kind fields
  kind_said kind fields item h = elim (either (bytes_eq kind (codes "packet")) _ _ item h) [
    | inl p ↦ rw (same kind (codes "packet") p.0) (packet_said fields item p.1)
    | inr h1 ↦ elim (either (has_one_name kind) _ _ item h1.1) [
      | inl p ↦ named_said kind fields item p.0 p.1
      | inr p ↦ some (cut fields) (λ f. first_in n kind f.0 f.1) item p.1 (λ f is g.
          rw (cut_joined fields f is) (first_said kind f.0 f.1 item g))
    ]
  ]

  -- a line in which an item is read is that item's
  pub line_said : (line : List ℕ) (item : Item) → item_in n line ≡ Some item → item_text n item ≡ line
  unfolding item_in
  line_said line item h = some (cut line) (λ f. kind_in n f.0 f.1) item h (λ f is g. kind_said f.0 f.1 item g ∙ sym (cut_joined line f is))
