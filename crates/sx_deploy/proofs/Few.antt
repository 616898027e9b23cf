-- What rule 6 leaves.
use Rattle.std.proofs.Common.{◌≡◌, ℕ, ◌≤◌, List, [], ◌∷◌, ◌++◌, length, None, Bool, true, false, nat_lt, arith, refl, zero, suc, get_or, ◌<◌, ◌+◌, length-append, if◌then◌else◌, Some}
use Rattle.std.proofs.lemmas.Bool.{ltb-false}
use Rattle.sx_entries.specs.Lines.{entries, first_bad, whole}
use Rattle.sx_entries.specs.declared.fault.Sort.TheVariants.{Node, Device, Module, Connection}
use Rattle.sx_entries.proofs.Tested.{clear, entries-None, whole-None}
use Rattle.sx_entries.specs.Entries.{EntryLists}
use Rattle.sx_deploy.specs.Counts.{counts_fault, is_crowded}

pub record AreFew (e : EntryLists) : Type 0 where
  pub nodes : length e.nodes ≤ 16
  pub crowds : first_bad (is_crowded e.modules) [] e.nodes ≡ None
  pub devices : length e.devices ≤ 32
  pub modules : length e.modules ≤ 32
  pub links : length e.links ≤ 64

pub few : (e : EntryLists) → counts_fault e ≡ None → AreFew e
few e h =
    let lines = clear (whole 6 Node (nat_lt 16 (length e.nodes)) ∷ entries 6 Node (is_crowded e.modules) e.nodes ∷ whole 6 Device (nat_lt 32 (length e.devices))
    ∷ whole 6 Module (nat_lt 32 (length e.modules)) ∷ whole 6 Connection (nat_lt 64 (length e.links)) ∷ []) h in
    record {
      nodes = ltb-false 16 (length e.nodes) (whole-None 6 Node _ lines.0);
      crowds = entries-None 6 Node (is_crowded e.modules) e.nodes lines.1.0;
      devices = ltb-false 32 (length e.devices) (whole-None 6 Device _ lines.1.1.0);
      modules = ltb-false 32 (length e.modules) (whole-None 6 Module _ lines.1.1.1.0);
      links = ltb-false 64 (length e.links) (whole-None 6 Connection _ lines.1.1.1.1.0);
    }

-- a line that no entry breaks is kept at each, after as many as its place says
pub tested-at : {A : Type 0} (bad : List A → A → Bool) (earlier xs : List A) → first_bad bad earlier xs ≡ None → (i : ℕ) (d : A) → i < length xs
    → (before : List A) × (length before ≡ length earlier + i) × (bad before (get_or xs i d) ≡ false)
tested-at bad earlier [] h i d k = absurd (omega arith)
tested-at bad earlier (x ∷ xs) h i d k = by_case (bad earlier x) refl h i k (tested-at bad (earlier ++ x ∷ []) xs)
  where
    by_case : (b : Bool) → bad earlier x ≡ b → (if b then Some (length earlier) else first_bad bad (earlier ++ x ∷ []) xs) ≡ None → (i : ℕ) → i < length (x ∷ xs)
        → (first_bad bad (earlier ++ x ∷ []) xs ≡ None → (i : ℕ) (d : _) → i < length xs → (before : List _) × (length before ≡ length (earlier ++ x ∷ []) + i) × (bad before (get_or xs i d) ≡ false))
        → (before : List _) × (length before ≡ length earlier + i) × (bad before (get_or (x ∷ xs) i d) ≡ false)
    by_case true e q i k rest = absurd (cc)
    by_case false e q zero k rest = (earlier, omega arith, e)
    by_case false e q (suc i) k rest =
        let more = rest q i d (omega arith) in
        let len : length (earlier ++ x ∷ []) ≡ length earlier + 1 = length-append earlier (x ∷ []) in
        let count : length more.0 ≡ length (earlier ++ x ∷ []) + i = more.1 in
        (more.0, omega (arith, len, count), more.2)
