-- A module's whole code is sound in its sections.
use Rattle.std.proofs.Common.{◌≡◌, ℕ, ◌*◌, ◌<◌, ◌≤◌, true, List, ◌++◌, length, All, sym, ◌∙◌, subst, arith}
use Rattle.std.specs.List.{list_all}
use Rattle.std.proofs.lemmas.Bool.{and_from, le-leb, lt-ltb}
use Rattle.std.proofs.lemmas.List.{length-append}
use Rattle.std.proofs.lemmas.List.Folds.{list_all-append}
use Rattle.sx_lang.specs.Sizes.{module_data_size, module_weight}
use Rattle.sx_lang.specs.Tree.{ModuleTree}
use Rattle.sx_mean.specs.declared.events.End.{End}
use Rattle.sx_rules.specs.declared.section.Layout.{Layout}
use Rattle.sx_ir.specs.Sizes.{bytes}
use Rattle.sx_ir.specs.Sound.{is_sound, is_sound_op, is_sound_part, private_size, public_size}
use Rattle.sx_lower.specs.Lowered.{handlers_code}
use Rattle.sx_lower.specs.Lowering.{IsLowerable}
use Rattle.sx_lower.proofs.Reacts.{lowered_fits}
use Rattle.sx_stub.specs.Sound.{is_plain}
use Rattle.sx_stub.specs.Stub.{stub_ops}
use Rattle.sx_stub.proofs.StubSound.{stub_sound}
use Rattle.sx_compile.specs.Compiled.{HasSections, compiled_ops, compiled_parts}
use Rattle.sx_lower.proofs.Reacts.{length-parts, parts_there}
use Rattle.sx_compile.proofs.Sizes.{ops_two, within_weight}

module _ (tree : ModuleTree) (ends : List End) (able : IsLowerable tree ends) (links : All (λ e. e.link < 256) ends) where
  -- each operation is sound
  pub ops_sound : list_all (is_sound_op (length (compiled_ops tree ends)) (length (compiled_parts tree ends)) (module_data_size tree (length ends))) (compiled_ops tree ends) ≡ true
  unfolding compiled_ops compiled_parts
  ops_sound =
      let stub = stub_ops tree ends in
      let bodies = handlers_code tree.decls ends (length stub) tree.handlers in
      let size = module_data_size tree (length ends) in
      let long = length-append stub bodies in
      let count = length-parts tree.decls ends (length stub) tree.handlers in
      let all = length (stub ++ bodies) in
      let first = (stub_sound tree ends all able.few_ends links (omega (arith, long))).0 in
      let fits = lowered_fits tree ends (length stub) all (length tree.handlers) able (omega (arith, long)) in
      subst (λ (n : ℕ). list_all (is_sound_op all n size) (stub ++ bodies) ≡ true) (sym count)
      (list_all-append (is_sound_op all (length tree.handlers) size) stub bodies ∙ and_from _ _ first fits.sound)

  -- and each part
  parts_sound : list_all (is_sound_part (length (compiled_ops tree ends))) (compiled_parts tree ends) ≡ true
  unfolding compiled_ops compiled_parts
  parts_sound =
      let stub = stub_ops tree ends in
      let bodies = handlers_code tree.decls ends (length stub) tree.handlers in
      let long = length-append stub bodies in
      parts_there tree.decls ends (length stub) (length (stub ++ bodies)) tree.handlers (omega (arith, long))

  -- the stub's operations are plain
  pub plain : list_all is_plain (stub_ops tree ends) ≡ true
  plain = (stub_sound tree ends (length (stub_ops tree ends)) able.few_ends links (omega arith)).1

  -- the code has fewer than half the weight's operations
  pub ops_few : 2 * length (compiled_ops tree ends) ≤ module_weight tree (length ends)
  ops_few = let a = within_weight tree ends plain able in let b = ops_two (compiled_ops tree ends) in omega (arith, a, b)

  -- in sections of the module's sizes the whole code is sound
  pub compiled_sound : (l : Layout) → HasSections tree ends l → is_sound (compiled_ops tree ends) (compiled_parts tree ends) l ≡ true
  compiled_sound l room =
      let ops = compiled_ops tree ends in
      let parts = compiled_parts tree ends in
      let few = ops_few in
      let fits = within_weight tree ends plain able in
      let public = room.public in
      let below = room.public_below in
      let private = room.private in
      let size : private_size l ≡ module_data_size tree (length ends) = omega (arith, private) in
      and_from _ _ (lt-ltb (length ops) 65536 (omega (arith, few, public, below)))
      (and_from _ _ (subst (λ (n : ℕ). list_all (is_sound_op (length ops) (length parts) n) ops ≡ true) (sym size) ops_sound)
      (and_from _ _ parts_sound (le-leb (bytes ops) (public_size l) (omega (arith, fits, public)))))
