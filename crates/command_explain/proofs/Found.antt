-- Which item has a line: there is one answer, and one alone.
use Rattle.std.proofs.Common.{◌≡◌, ◌∙◌, ◌⊎◌, inl, inr, ◌<◌, ◌^◌, ℕ, Bool, true, false, List, length, Option, Some, None, sym, ap, refl, subst, arith}
use Rattle.std.specs.Prelude.{IsTrue}
use Rattle.std.proofs.lemmas.Bool.{cases_lt}
use Rattle.std.proofs.lemmas.Slice.Eq.{bytes_eq-Decides}
use Rattle.std.specs.Str.{bytes_eq}
use Rattle.sx_trace.specs.declared.items.Item.{Item}
use Rattle.sx_trace.specs.declared.items.Item.TheVariants.{Reset, Protect, Sense, Read, Drain, Ask, Attested, Denied, Vouch, Open, Take, Out, Raw, Done, Packet, Forged, Busy, Skip, Budget}
use Rattle.sx_trace.specs.Names.{NameLists}
use Rattle.sx_trace.specs.ValidNames.{are_valid}
use Rattle.sx_trace.specs.Items.{item_text}
use Rattle.sx_trace.specs.KnownItems.{IsIndexOrNone, IsItem, IsNamedItem, IsSizedItem}
use Rattle.sx_trace.specs.Finding.{item_in}
use Rattle.sx_trace.proofs.ItemsDiffer.{found_only, items_differ}
use Rattle.command_head.proofs.Known.{known, is_known}
use Rattle.command_explain.specs.Meant.{AreMeanings, Meanings, SaysItem}

-- two answers are equal
pub one_item : (names : NameLists) (line : List ℕ) (a b : Option Item) → IsTrue (are_valid names) → SaysItem names line a → SaysItem names line b → a ≡ b
one_item names line None None v x y = refl
one_item names line None (Some j) v x y = absurd (x j y.0 y.1)
one_item names line (Some i) None v x y = absurd (y i x.0 x.1)
one_item names line (Some i) (Some j) v x y = ap (λ (i : Item). Some i) (items_differ names i j v x.0 y.0 (x.1 ∙ sym y.1))

-- ---- there is an answer

abbrev Decided : Type 0 → Type 0
Decided P = P ⊎ (P → ⊥)

below : (a b : ℕ) → Decided (a < b)
below a b = elim (cases_lt a b) [ inl lt ↦ inl lt | inr ge ↦ inr (λ lt. omega (arith, lt, ge)) ]

both : {P Q : Type 0} → Decided P → Decided Q → Decided (P × Q)
both (inl p) (inl q) = inl (p, q)
both (inl p) (inr n) = inr (λ w. n w.1)
both (inr n) d = inr (λ w. n w.0)

index_or_none : (names : List (List ℕ)) (o : Option ℕ) → Decided (IsIndexOrNone names o)
index_or_none names None = inl tt
index_or_none names (Some i) = below i (length names)

named : (n : NameLists) (i : Item) → Decided (IsNamedItem n i)
named n (Reset node why) = below node (length n.nodes)
named n (Protect node m) = both (below node (length n.nodes)) (index_or_none n.modules m)
named n (Sense d value) = below d (length n.devices)
named n (Read m value) = below m (length n.modules)
named n (Drain d) = below d (length n.devices)
named n (Ask m challenge) = below m (length n.modules)
named n (Attested m boot) = below m (length n.modules)
named n (Denied m) = below m (length n.modules)
named n (Vouch m challenge) = below m (length n.modules)
named n (Open m link side epoch) = both (below m (length n.modules)) (below link (length n.links))
named n (Take m link number value) = both (below m (length n.modules)) (below link (length n.links))
named n (Out m value) = below m (length n.modules)
named n (Raw d value) = below d (length n.devices)
named n (Done m status pieces) = below m (length n.modules)
named n (Packet number len) = inl tt
named n (Forged m) = index_or_none n.modules m
named n (Busy node) = below node (length n.nodes)
named n (Skip node) = below node (length n.nodes)
named n (Budget node) = below node (length n.nodes)

sized : (i : Item) → Decided (IsSizedItem i)
sized (Reset node why) = inl tt
sized (Protect node m) = inl tt
sized (Sense d value) = below value (2 ^ 16)
sized (Read m value) = below value (2 ^ 16)
sized (Drain d) = inl tt
sized (Ask m challenge) = below challenge (2 ^ 128)
sized (Attested m boot) = below boot (2 ^ 32)
sized (Denied m) = inl tt
sized (Vouch m challenge) = below challenge (2 ^ 128)
sized (Open m link side epoch) = below epoch (2 ^ 8)
sized (Take m link number value) = both (below number (2 ^ 32)) (below value (2 ^ 16))
sized (Out m value) = below value (2 ^ 16)
sized (Raw d value) = below value (2 ^ 16)
sized (Done m status pieces) = both (below status (2 ^ 16)) (below pieces (2 ^ 16))
sized (Packet number len) = both (below number (2 ^ 32)) (below len (2 ^ 16))
sized (Forged m) = inl tt
sized (Busy node) = inl tt
sized (Skip node) = inl tt
sized (Budget node) = inl tt

has_text : (a b : List ℕ) → Decided (a ≡ b)
has_text a b = at (bytes_eq a b) (bytes_eq-Decides a b)
  where
    at : (t : Bool) → ((t ≡ true → a ≡ b) × (a ≡ b → t ≡ true)) → Decided (a ≡ b)
    at true d = inl (d.0 refl)
    at false d = inr (λ e. absurd (let z : false ≡ true = d.1 e in cc))

is_items : (names : NameLists) (line : List ℕ) (i : Item) → Decided (IsItem names i × (item_text names i ≡ line))
is_items names line i = both (both (named names i) (sized i)) (has_text (item_text names i) line)

-- the item that is found, if it has the line
abbrev tried : {P : Type 0} → Item → Decided P → Option Item
tried i (inl p) = Some i
tried i (inr n) = None

abbrev looked_up : NameLists → List ℕ → Option Item → Option Item
looked_up names line None = None
looked_up names line (Some i) = tried i (is_items names line i)

abbrev item_of : NameLists → List ℕ → Option Item
item_of names line = looked_up names line (item_in names line)

tried_answers : (names : NameLists) (line : List ℕ) (i : Item) (d : Decided (IsItem names i × (item_text names i ≡ line))) → IsTrue (are_valid names) → item_in names line ≡ Some i
    → SaysItem names line (tried i d)
tried_answers names line i (inl p) v e = p
tried_answers names line i (inr n) v e = λ j is t.
    let f = found_only names line j v is t in
    let same : j ≡ i = cc (e, f) in
    n (subst (λ (k : Item). IsItem names k × (item_text names k ≡ line)) same (is, t))

answered : (names : NameLists) (line : List ℕ) (o : Option Item) → IsTrue (are_valid names) → item_in names line ≡ o → SaysItem names line (looked_up names line o)
answered names line None v e = λ j is t. (let f = found_only names line j v is t in cc (e, f))
answered names line (Some i) v e = tried_answers names line i (is_items names line i) v e

-- what texts of deployments and lines of traces mean
pub meant : Meanings
meant = record { deployment = known; item = item_of }

pub are_meant : AreMeanings meant
unfolding meant
are_meant = record { deployment = is_known; item = λ names line v. answered names line (item_in names line) v refl }
