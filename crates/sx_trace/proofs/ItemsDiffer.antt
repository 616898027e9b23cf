-- The item that is read in an item's line is that item.
use Rattle.std.proofs.Common.{◌≡◌, ℕ, ◌+◌, ◌^◌, ◌<◌, Bool, true, false, ◌==◌, List, ◌∷◌, ◌++◌, codes, decimal, Option, Some, None, IfSome, refl, sym, ap, subst, ◌∙◌, arith, IsTrue}
use Rattle.std.specs.Option.{MatchOption}
use Rattle.std.proofs.lemmas.Bool.Decides.{nat_tests}
use Rattle.sx_lang.specs.declared.sides.Side.{Side}
use Rattle.sx_lang.specs.declared.sides.Side.TheVariants.{From, To}
use Rattle.sx_trace.specs.Names.{NameLists, deployer}
use Rattle.sx_trace.specs.ValidNames.{are_valid}
use Rattle.sx_trace.specs.declared.items.Cause.{Cause}
use Rattle.sx_trace.specs.declared.items.Cause.TheVariants as cause
use Rattle.sx_trace.specs.declared.items.Item.{Item}
use Rattle.sx_trace.specs.declared.items.Item.TheVariants.{Reset, Protect, Sense, Read, Drain, Ask, Attested, Denied, Vouch, Open, Take, Out, Raw, Done, Packet, Forged, Busy, Skip, Budget}
use Rattle.sx_trace.specs.Items.{name_at, name_or, cause_word, side_word, epoch_words, spaced_words, item_text}
use Rattle.sx_trace.specs.KnownItems.{IsItem, IsNoItem, IsIndexOrNone}
use Rattle.sx_trace.specs.Laws.{ItemsDiffer}
use Rattle.sx_trace.specs.Finding.{index_or_none, cause_of, side_of, side_in, kind_in, item_in, ◌>>=◌}
use Rattle.sx_trace.proofs.Cut.{is_word, cut_word, number_read, decimal_word}
use Rattle.sx_trace.proofs.Said.{line_said}
use Rattle.sx_trace.proofs.Known.{known_node, known_device, known_module, known_link, no_deployer}

-- after the first word the kind decides
of_kind : (n : NameLists) (kind fields : List ℕ) → is_word kind ≡ true → item_in n (kind ++ 32 ∷ fields) ≡ kind_in n kind fields
unfolding item_in
of_kind n kind fields h = ap (λ (o : Option (List ℕ × List ℕ)). o >>= (λ f. kind_in n f.0 f.1)) (cut_word kind fields h)

cause_found : (why : Cause) → cause_of (cause_word why) ≡ Some why
cause_found cause.Order = refl
cause_found cause.Fetch = refl
cause_found cause.Read = refl
cause_found cause.Write = refl
cause_found cause.Device = refl
cause_found cause.Illegal = refl
cause_found cause.Range = refl
cause_found cause.Asked = refl

side_found : (side : Side) → (side_of (side_word side) ≡ Some side) × (is_word (side_word side) ≡ true)
side_found From = (refl, refl)
side_found To = (refl, refl)

dash_found : (n : NameLists) (m : Option ℕ) → IsTrue (are_valid n) → IsIndexOrNone n.modules m
    → index_or_none (codes "-") n.modules (name_or (codes "-") n.modules m) ≡ Some m
dash_found n None v h = refl
dash_found n (Some m) v h = let k = known_module n m v h in rw (k.no_dash, k.found) refl

deployer_found : (n : NameLists) (m : Option ℕ) → IsTrue (are_valid n) → IsIndexOrNone n.modules m
    → index_or_none deployer n.modules (name_or deployer n.modules m) ≡ Some m
deployer_found n None v h = refl
deployer_found n (Some m) v h = let k = known_module n m v h in rw (no_deployer n m v h, k.found) refl

-- a side that something follows isn't one alone
no_side : (side : Side) (rest : List ℕ) → side_of (side_word side ++ 32 ∷ rest) ≡ None
no_side From rest = refl
no_side To rest = refl

-- the side, and the epoch's word if there is one
side_read : (m link : ℕ) (side : Side) (epoch : ℕ) → epoch < 2 ^ 8 → side_in m link (spaced_words (side_word side ∷ epoch_words epoch)) ≡ Some (Open m link side epoch)
side_read m link side epoch small = by_test (epoch == 0) refl
  where
    by_test : (t : Bool) → (epoch == 0) ≡ t → side_in m link (spaced_words (side_word side ∷ epoch_words epoch)) ≡ Some (Open m link side epoch)
    by_test true e =
        let zero_epoch : epoch ≡ 0 = grind (arith, nat_tests, e) in
        rw (zero_epoch, (side_found side).0) refl
    by_test false e =
        rw (e, no_side side (decimal epoch), cut_word (side_word side) (decimal epoch) (side_found side).1, (side_found side).0) (
        rw (number_read (2 ^ 8) epoch small (omega arith), e) refl
        )

pub found : (n : NameLists) (item : Item) → IsTrue (are_valid n) → IsItem n item → item_in n (item_text n item) ≡ Some item
unfolding item_text
found n (Reset node why) v h =
    let k = known_node n node v h.0 in
    of_kind n (codes "reset") (name_at n.nodes node ++ 32 ∷ cause_word why) refl
    ∙ rw (cut_word (name_at n.nodes node) (cause_word why) k.word, k.found, cause_found why) refl
found n (Protect node m) v h =
    let k = known_node n node v h.0.0 in
    of_kind n (codes "protect") (name_at n.nodes node ++ 32 ∷ name_or (codes "-") n.modules m) refl
    ∙ rw (cut_word (name_at n.nodes node) (name_or (codes "-") n.modules m) k.word, k.found, dash_found n m v h.0.1) refl
found n (Sense d value) v h =
    let k = known_device n d v h.0 in
    of_kind n (codes "sense") (name_at n.devices d ++ 32 ∷ decimal value) refl
    ∙ rw (cut_word (name_at n.devices d) (decimal value) k.word, k.found, number_read (2 ^ 16) value (omega arith) (omega arith)) refl
found n (Read m value) v h =
    let k = known_module n m v h.0 in
    of_kind n (codes "read") (name_at n.modules m ++ 32 ∷ decimal value) refl
    ∙ rw (cut_word (name_at n.modules m) (decimal value) k.word, k.found, number_read (2 ^ 16) value (omega arith) (omega arith)) refl
found n (Drain d) v h =
    let k = known_device n d v h.0 in
    of_kind n (codes "drain") (name_at n.devices d) refl ∙ rw k.found refl
found n (Ask m challenge) v h =
    let k = known_module n m v h.0 in
    of_kind n (codes "ask") (name_at n.modules m ++ 32 ∷ decimal challenge) refl
    ∙ rw (cut_word (name_at n.modules m) (decimal challenge) k.word, k.found, number_read (2 ^ 128) challenge h.1 (omega arith)) refl
found n (Attested m boot) v h =
    let k = known_module n m v h.0 in
    of_kind n (codes "attested") (name_at n.modules m ++ 32 ∷ decimal boot) refl
    ∙ rw (cut_word (name_at n.modules m) (decimal boot) k.word, k.found, number_read (2 ^ 32) boot (omega arith) (omega arith)) refl
found n (Denied m) v h =
    let k = known_module n m v h.0 in
    of_kind n (codes "denied") (name_at n.modules m) refl ∙ rw k.found refl
found n (Vouch m challenge) v h =
    let k = known_module n m v h.0 in
    of_kind n (codes "vouch") (name_at n.modules m ++ 32 ∷ decimal challenge) refl
    ∙ rw (cut_word (name_at n.modules m) (decimal challenge) k.word, k.found, number_read (2 ^ 128) challenge h.1 (omega arith)) refl
found n (Open m link side epoch) v h =
    let k = known_module n m v h.0.0 in
    let l = known_link n link v h.0.1 in
    let rest : List ℕ = spaced_words (side_word side ∷ epoch_words epoch) in
    of_kind n (codes "open") (name_at n.modules m ++ 32 ∷ (name_at n.links link ++ 32 ∷ rest)) refl
    ∙ rw (cut_word (name_at n.modules m) (name_at n.links link ++ 32 ∷ rest) k.word, k.found, cut_word (name_at n.links link) rest l.word, l.found) (
    side_read m link side epoch h.1
    )
found n (Take m link number value) v h =
    let k = known_module n m v h.0.0 in
    let l = known_link n link v h.0.1 in
    of_kind n (codes "take") (name_at n.modules m ++ 32 ∷ (name_at n.links link ++ 32 ∷ (decimal number ++ 32 ∷ decimal value))) refl
    ∙ rw (
      cut_word (name_at n.modules m) (name_at n.links link ++ 32 ∷ (decimal number ++ 32 ∷ decimal value)) k.word,
      k.found,
      cut_word (name_at n.links link) (decimal number ++ 32 ∷ decimal value) l.word,
      l.found,
      cut_word (decimal number) (decimal value) (decimal_word number (omega arith)),
      number_read (2 ^ 32) number (omega arith) (omega arith),
      number_read (2 ^ 16) value (omega arith) (omega arith),
    ) refl
found n (Out m value) v h =
    let k = known_module n m v h.0 in
    of_kind n (codes "out") (name_at n.modules m ++ 32 ∷ decimal value) refl
    ∙ rw (cut_word (name_at n.modules m) (decimal value) k.word, k.found, number_read (2 ^ 16) value (omega arith) (omega arith)) refl
found n (Raw d value) v h =
    let k = known_device n d v h.0 in
    of_kind n (codes "raw") (name_at n.devices d ++ 32 ∷ decimal value) refl
    ∙ rw (cut_word (name_at n.devices d) (decimal value) k.word, k.found, number_read (2 ^ 16) value (omega arith) (omega arith)) refl
found n (Done m status pieces) v h =
    let k = known_module n m v h.0 in
    of_kind n (codes "done") (name_at n.modules m ++ 32 ∷ (decimal status ++ 32 ∷ decimal pieces)) refl
    ∙ rw (
      cut_word (name_at n.modules m) (decimal status ++ 32 ∷ decimal pieces) k.word,
      k.found,
      cut_word (decimal status) (decimal pieces) (decimal_word status (omega arith)),
      number_read (2 ^ 16) status (omega arith) (omega arith),
      number_read (2 ^ 16) pieces (omega arith) (omega arith),
    ) refl
found n (Packet number len) v h =
    of_kind n (codes "packet") (decimal number ++ 32 ∷ decimal len) refl
    ∙ rw (
      cut_word (decimal number) (decimal len) (decimal_word number (omega arith)),
      number_read (2 ^ 32) number (omega arith) (omega arith),
      number_read (2 ^ 16) len (omega arith) (omega arith),
    ) refl
found n (Forged m) v h =
    of_kind n (codes "forged") (name_or deployer n.modules m) refl ∙ rw (deployer_found n m v h.0) refl
found n (Busy node) v h =
    let k = known_node n node v h.0 in
    of_kind n (codes "busy") (name_at n.nodes node) refl ∙ rw k.found refl
found n (Skip node) v h =
    let k = known_node n node v h.0 in
    of_kind n (codes "skip") (name_at n.nodes node) refl ∙ rw k.found refl
found n (Budget node) v h =
    let k = known_node n node v h.0 in
    of_kind n (codes "budget") (name_at n.nodes node) refl ∙ rw k.found refl

-- a line that is an item's is that of the item that is read
pub found_only : (n : NameLists) (line : List ℕ) (item : Item) → IsTrue (are_valid n) → IsItem n item → item_text n item ≡ line → item_in n line ≡ Some item
found_only n line item v h e = let P : List ℕ → Type 0 = λ t. item_in n t ≡ Some item in subst P e (found n item v h)

pub items_differ : ItemsDiffer
items_differ n a b v ha hb e = let one = found_only n (item_text n b) a v ha e in let two = found n b v hb in cc

-- what is read in a line is the item that has it, if one has
pub read_as_said : (n : NameLists) (line : List ℕ) (r : Option Item) → IsTrue (are_valid n) → r ≡ item_in n line → IfSome r (λ item. IsItem n item)
    → MatchOption r (IsNoItem n line) (λ item. IsItem n item × (item_text n item ≡ line))
read_as_said n line (Some item) v e fit = (fit, line_said n line item (sym e))
read_as_said n line None v e fit = λ item is t. let f = found_only n line item v is t in cc
