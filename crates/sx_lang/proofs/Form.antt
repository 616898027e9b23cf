-- A text in the form of a name has the size of one.
use Rattle.std.proofs.Common.{◌≡◌, ℕ, ◌<◌, ◌≤◌, true, ◌&&◌, List, [], ◌∷◌, length, nat_le, arith}
use Rattle.std.specs.List.{list_all}
use Rattle.std.proofs.lemmas.Bool.{leb-true, and_parts}
use Rattle.sx_lang.specs.Form.{is_lower, is_name, is_name_byte}

pub name_size : (x : List ℕ) → is_name x ≡ true → (0 < length x) × (length x ≤ 16)
name_size [] h = absurd (cc)
name_size (b ∷ bs) h =
    let few = leb-true (length bs) 15 (and_parts (list_all is_name_byte bs) (nat_le (length bs) 15) (and_parts (is_lower b) (list_all is_name_byte bs && nat_le (length bs) 15) h).1).1 in
    (omega arith, omega (arith, few))
