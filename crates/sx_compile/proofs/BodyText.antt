-- The handlers' code alone is sound in the module's sections, and its operands are words.
use Rattle.std.proofs.Common.{◌≡◌, ℕ, zero, suc, ◌<◌, ◌≤◌, true, List, [], ◌∷◌, length, Option, None, Some, sym, ap, ◌∙◌, subst, arith}
use Rattle.std.specs.Prelude.{slice_get}
use Rattle.std.specs.List.{list_all}
use Rattle.std.proofs.lemmas.Bool.{and_from, and_parts, le-leb, leb-true, lt-ltb, ltb-true}
use Rattle.sx_lang.specs.Sizes.{module_data_size, module_weight}
use Rattle.sx_lang.specs.Tree.{ModuleTree}
use Rattle.sx_mean.specs.declared.events.End.{End}
use Rattle.sx_rules.specs.declared.section.Layout.{Layout}
use Rattle.sx_ir.specs.declared.ir.Code.{Code}
use Rattle.sx_ir.specs.declared.ir.Ir.{Ir}
use Rattle.sx_ir.specs.Sizes.{bytes}
use Rattle.sx_ir.specs.Sound.{is_sound, is_sound_op, is_sound_part, private_size, public_size}
use Rattle.sx_lower.specs.Lowering.{IsLowerable, LowersTo}
use Rattle.sx_stub.proofs.StubFits.{stub_fits}
use Rattle.sx_tmpl.specs.Performs.{IsNarrow}
use Rattle.sx_tmpl.specs.Template.{Addresses}
use Rattle.sx_tmpl.specs.Text.{words_of}
use Rattle.sx_compile.specs.Compiled.{HasSections}
use Rattle.sx_compile.proofs.Narrow.{AreBelow, handler_narrow, handler_op, push_below}
use Rattle.sx_compile.proofs.Sizes.{before_bytes, few_routines, of_senders}

module _ (tree : ModuleTree) (ends : List End) (code : Code) (able : IsLowerable tree ends) (low : LowersTo tree ends code) where
  abbrev ops : List Ir
  ops = code.ops.items

  -- its text has no more bytes than the module's weight
  pub body_within : bytes ops ≤ module_weight tree (length ends)
  body_within =
      let light = low.does.fits.light in
      let room = stub_fits tree ends able.few_ends in
      let few = few_routines ends ops (λ k e. of_senders ends ops k low.does.fits.plain e) 256 in
      let least = before_bytes ends 256 in
      omega (arith, light, room, few, least)

  pub body_sound : (l : Layout) → HasSections tree ends l → is_sound ops code.parts.items l ≡ true
  body_sound l room =
      let public = room.public in
      let private = room.private in
      let fits = body_within in
      let size : private_size l ≡ module_data_size tree (length ends) = omega (arith, private) in
      and_from _ _ (lt-ltb (length ops) 65536 low.does.short)
      (and_from _ _ (subst (λ (n : ℕ). list_all (is_sound_op (length ops) (length code.parts.items) n) ops ≡ true) (sym size) low.does.fits.sound)
      (and_from _ _ low.does.there (le-leb (bytes ops) (public_size l) (omega (arith, fits, public)))))

  -- where its text is made of bytes
  pub body_narrow : (l : Layout) (a : Addresses) → AreBelow 65536 (words_of l a 0 ops) → (p : ℕ) (i : Ir) → slice_get ops p ≡ Some i → IsNarrow i
  body_narrow l a below p i e = handler_narrow ends i able.few_ends (λ n is. push_below l a 0 p n ops below (e ∙ ap (λ (j : Ir). Some j) is)) (handler_op ends ops p i low.does.fits.plain e)

  -- a part is in it
  pub part_within : (k from to : ℕ) → slice_get code.parts.items k ≡ Some (from, to) → (from < length ops) × (to ≤ length ops)
  part_within k from to is = go code.parts.items k low.does.there is
    where
      go : (parts : List (ℕ × ℕ)) (k : ℕ) → list_all (is_sound_part (length ops)) parts ≡ true → slice_get parts k ≡ Some (from, to) → (from < length ops) × (to ≤ length ops)
      go [] k there is = absurd (none_some is)
        where
          none_some : ◌≡◌ {A = Option (ℕ × ℕ)} None (Some (from, to)) → ⊥
          none_some e = cc
      go (x ∷ parts) zero there is =
          let same = some_same is in
          let here = and_parts _ _ (subst (λ (y : ℕ × ℕ). is_sound_part (length ops) y ≡ true) same (and_parts _ _ there).0) in
          (ltb-true from (length ops) here.0, leb-true to (length ops) here.1)
        where
          some_same : ◌≡◌ {A = Option (ℕ × ℕ)} (Some x) (Some (from, to)) → x ≡ (from, to)
          some_same e = cc
      go (x ∷ parts) (suc k) there is = go parts k (and_parts _ _ there).1 is
