-- The lists of valid names are short.
use Rattle.std.proofs.Common.{◌≡◌, ℕ, ◌≤◌, true, ◌&&◌, nat_le, List, length, arith, IsTrue}
use Rattle.std.proofs.lemmas.Bool.Decides.{nat_tests}
use Rattle.std.proofs.lemmas.Bool.{and_parts}
use Rattle.sx_trace.specs.Names.{NameLists}
use Rattle.sx_trace.specs.ValidNames.{are_valid, are_names}

short : (most : ℕ) (names : List (List ℕ)) → are_names most names ≡ true → length names ≤ most
short most names h = let few : nat_le (length names) most ≡ true = (and_parts _ _ h).0 in grind (arith, nat_tests)

pub few_nodes : (n : NameLists) → IsTrue (are_valid n) → length n.nodes ≤ 64
unfolding are_valid
few_nodes n h = let few : length n.nodes ≤ 16 = short 16 n.nodes (and_parts _ _ (and_parts (are_names 16 n.nodes && are_names 32 n.devices) _ h).0).0 in omega arith

pub few_devices : (n : NameLists) → IsTrue (are_valid n) → length n.devices ≤ 64
unfolding are_valid
few_devices n h = let few : length n.devices ≤ 32 = short 32 n.devices (and_parts (are_names 16 n.nodes) _ (and_parts (are_names 16 n.nodes && are_names 32 n.devices) _ h).0).1 in omega arith

pub few_modules : (n : NameLists) → IsTrue (are_valid n) → length n.modules ≤ 64
unfolding are_valid
few_modules n h = let few : length n.modules ≤ 32 = short 32 n.modules
    (and_parts _ _ (and_parts (are_names 32 n.modules && are_names 64 n.links) _ (and_parts (are_names 16 n.nodes && are_names 32 n.devices) _ h).1).0).0 in omega arith

pub few_links : (n : NameLists) → IsTrue (are_valid n) → length n.links ≤ 64
unfolding are_valid
few_links n h = short 64 n.links (and_parts _ _ (and_parts (are_names 32 n.modules && are_names 64 n.links) _ (and_parts (are_names 16 n.nodes && are_names 32 n.devices) _ h).1).0).1
