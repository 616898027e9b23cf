-- The entry protocol and the handlers, joined, are the module's whole code.
use Rattle.std.proofs.Common.{◌≡◌, ℕ, ◌+◌, ◌<◌, ◌≤◌, true, List, [], ◌∷◌, ◌++◌, length, map, Result, Ok, Err, refl, ap, ◌∙◌, arith}
use Rattle.std.specs.Prelude.{IfOk, nat_le, nat_lt, ◌&&◌}
use Rattle.std.specs.List.{All, list_all}
use Rattle.std.proofs.lemmas.Bool.{and_parts, leb-true, ltb-true}
use Rattle.std.proofs.lemmas.List.{length-append, length-map}
use Rattle.sx_lang.specs.Sizes.{module_data_size}
use Rattle.sx_lang.specs.Tree.{ModuleTree}
use Rattle.sx_mean.specs.declared.events.End.{End}
use Rattle.sx_rules.specs.declared.section.Layout.{Layout}
use Rattle.sx_ir.specs.declared.ir.Code.{Code}
use Rattle.sx_ir.specs.declared.ir.Ir.{Ir}
use Rattle.sx_ir.specs.declared.ir.Ir.TheVariants as ir
use Rattle.sx_ir.specs.Joined.{joined_ops, moved, moved_part, moved_place}
use Rattle.sx_ir.specs.Sound.{is_even, is_free, is_sound_op, is_sound_part}
use Rattle.sx_lower.specs.Lowered.{handlers_code}
use Rattle.sx_lower.specs.Lowering.{IsLowerable, LowersTo}
use Rattle.sx_lower.specs.Moved as lowered
use Rattle.sx_lower.proofs.LoweredMoves.{lowered_moves}
use Rattle.sx_stub.specs.Stub.{stub_ops}
use Rattle.sx_stub.specs.Stubs.{StubsTo}
use Rattle.sx_compile.specs.Compiled.{HasSections, IsCompiled, compiled_ops, compiled_parts}
use Rattle.sx_compile.proofs.Sound.{ops_few}

-- a place that isn't cut
place_same : (k p : ℕ) → k + p ≤ 65535 → moved_place k p ≡ k + p
place_same k p le = omega (arith, le)

moved_same : (n m size k : ℕ) (i : Ir) → k + n ≤ 65535 → is_sound_op n m size i ≡ true → moved k i ≡ lowered.moved k i
moved_same n m size k (ir.Jump p) le h = let lt = ltb-true p n h in ap (λ (q : ℕ). ir.Jump q) (place_same k p (omega (arith, le, lt)))
moved_same n m size k (ir.JumpZero p) le h = let lt = ltb-true p n h in ap (λ (q : ℕ). ir.JumpZero q) (place_same k p (omega (arith, le, lt)))
moved_same n m size k (ir.JumpEqual o x p) le h =
    let lt = ltb-true p n (and_parts (is_free size o 2) (nat_lt p n) (and_parts (is_even o) (is_free size o 2 && nat_lt p n) h).1).1 in
    ap (λ (q : ℕ). ir.JumpEqual o x q) (place_same k p (omega (arith, le, lt)))
moved_same n m size k (ir.Push x) le h = refl
moved_same n m size k (ir.Load o) le h = refl
moved_same n m size k (ir.Store o) le h = refl
moved_same n m size k (ir.LoadAt o x) le h = refl
moved_same n m size k (ir.StoreAt o x) le h = refl
moved_same n m size k (ir.Op f) le h = refl
moved_same n m size k (ir.Packet j) le h = refl
moved_same n m size k ir.Drop le h = refl
moved_same n m size k ir.Emit le h = refl
moved_same n m size k ir.Stop le h = refl
moved_same n m size k (ir.Saved r) le h = refl
moved_same n m size k ir.Inside le h = refl
moved_same n m size k (ir.Meets r x) le h = refl
moved_same n m size k (ir.CopyIn x o) le h = refl
moved_same n m size k (ir.CopyOut x o) le h = refl
moved_same n m size k (ir.Seal x y z u v) le h = refl
moved_same n m size k (ir.Open x y z u v) le h = refl
moved_same n m size k (ir.SetEnd x) le h = refl
moved_same n m size k ir.Sense le h = refl
moved_same n m size k (ir.Handler x) le h = refl
moved_same n m size k ir.Leave le h = refl

ops_same : (n m size k : ℕ) (ops : List Ir) → k + n ≤ 65535 → list_all (is_sound_op n m size) ops ≡ true → map (moved k) ops ≡ map (lowered.moved k) ops
ops_same n m size k [] le h = refl
ops_same n m size k (i ∷ ops) le h =
    let p = and_parts (is_sound_op n m size i) (list_all (is_sound_op n m size) ops) h in
    ap (λ (j : Ir). j ∷ map (moved k) ops) (moved_same n m size k i le p.0) ∙ ap (λ (l : List Ir). lowered.moved k i ∷ l) (ops_same n m size k ops le p.1)

parts_same : (n k : ℕ) (parts : List (ℕ × ℕ)) → k + n ≤ 65535 → list_all (is_sound_part n) parts ≡ true → map (moved_part k) parts ≡ map (lowered.moved_part k) parts
parts_same n k [] le h = refl
parts_same n k (part ∷ parts) le h =
    let p = and_parts (is_sound_part n part) (list_all (is_sound_part n) parts) h in
    let q = and_parts (nat_lt part.0 n) (nat_le part.1 n) p.0 in
    let from = ltb-true part.0 n q.0 in
    let to = leb-true part.1 n q.1 in
    ap (λ (x : ℕ). (x, moved_place k part.1) ∷ map (moved_part k) parts) (place_same k part.0 (omega (arith, le, from)))
    ∙ ap (λ (x : ℕ). (k + part.0, x) ∷ map (moved_part k) parts) (place_same k part.1 (omega (arith, le, to)))
    ∙ ap (λ (l : List (ℕ × ℕ)). (k + part.0, k + part.1) ∷ l) (parts_same n k parts le p.1)

module _ (tree : ModuleTree) (ends : List End) (l : Layout) (protocol handlers : Code) (able : IsLowerable tree ends) (links : All (λ e. e.link < 256) ends) (room : HasSections tree ends l)
    (first : StubsTo tree ends protocol) (second : LowersTo tree ends handlers) where
  abbrev k : ℕ
  k = length (stub_ops tree ends)

  -- together they are few
  within : k + length handlers.ops.items ≤ 65535
  unfolding compiled_ops
  within =
      let moves = (lowered_moves tree.decls ends tree.handlers k).0 in
      let count = length-map (handlers_code tree.decls ends 0 tree.handlers) (lowered.moved k) in
      let same = ap length moves in
      let here = ap length second.is.ops in
      let both = length-append (stub_ops tree ends) (handlers_code tree.decls ends k tree.handlers) in
      let few = ops_few tree ends able links in
      let public = room.public in
      let below = room.public_below in
      omega (arith, count, same, here, both, few, public, below)

  pub join_short : length protocol.ops.items + length handlers.ops.items < 65536
  join_short = let le = within in let is = ap length first.is in omega (arith, le, is)

  ops_joined : joined_ops protocol.ops.items handlers.ops.items ≡ compiled_ops tree ends
  unfolding compiled_ops
  ops_joined =
      ap (λ (ops : List Ir). joined_ops ops handlers.ops.items) first.is
      ∙ ap (λ (ops : List Ir). stub_ops tree ends ++ ops)
      (ops_same (length handlers.ops.items) (length handlers.parts.items) (module_data_size tree (length ends)) k handlers.ops.items within second.does.fits.sound
      ∙ ap (λ (ops : List Ir). map (lowered.moved k) ops) second.is.ops ∙ (lowered_moves tree.decls ends tree.handlers k).0)

  parts_joined : map (moved_part (length protocol.ops.items)) handlers.parts.items ≡ compiled_parts tree ends
  unfolding compiled_parts
  parts_joined =
      ap (λ (ops : List Ir). map (moved_part (length ops)) handlers.parts.items) first.is
      ∙ parts_same (length handlers.ops.items) k handlers.parts.items within second.does.there
      ∙ ap (λ (parts : List (ℕ × ℕ)). map (lowered.moved_part k) parts) second.is.parts ∙ (lowered_moves tree.decls ends tree.handlers k).1

  pub joins : (code : Code) → code.ops.items ≡ joined_ops protocol.ops.items handlers.ops.items → code.parts.items ≡ map (moved_part (length protocol.ops.items)) handlers.parts.items
      → IsCompiled tree ends code
  joins code ops parts = record { ops = ops ∙ ops_joined; parts = parts ∙ parts_joined }

  pub joined : {E : Type 0} (result : Result Code E) → IfOk result (λ code. code.ops.items ≡ joined_ops protocol.ops.items handlers.ops.items)
      → IfOk result (λ code. code.parts.items ≡ map (moved_part (length protocol.ops.items)) handlers.parts.items) → IfOk result (λ code. IsCompiled tree ends code)
  joined (Ok code) ops parts = joins code ops parts
  joined (Err e) ops parts = tt
