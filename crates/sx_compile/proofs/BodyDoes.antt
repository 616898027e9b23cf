-- The text of a module's handlers does them.
use Rattle.std.proofs.Common.{◌≡◌, ℕ, zero, suc, ◌<◌, List, [], ◌∷◌, map, Option, None, Some, refl, sym, ap, ◌∙◌, subst, arith}
use Rattle.std.specs.Prelude.{slice_get}
use Rattle.sx_lang.specs.Sizes.{handler_cost}
use Rattle.sx_lang.specs.Tree.{ModuleTree}
use Rattle.sx_mean.specs.declared.events.End.{End}
use Rattle.sx_rules.specs.declared.section.Layout.{Layout}
use Rattle.sx_tag.specs.Mac.{IsTag, Mac}
use Rattle.sx_image.specs.Image.{setup_at}
use Rattle.sx_ir.specs.declared.ir.Code.{Code}
use Rattle.sx_ir.specs.declared.ir.Ir.{Ir}
use Rattle.sx_ir.specs.Sizes.{bytes}
use Rattle.sx_lower.specs.Lowering.{IsLowerable, LowersTo}
use Rattle.sx_tmpl.specs.Text.{bytes_of, text_words, text_words_of}
use Rattle.sx_compile.specs.Body.{DoHandlers, DoesHandler, body_ops, body_parts, part_return, part_start}
use Rattle.sx_compile.specs.Compiled.{HasSections}
use Rattle.sx_compile.proofs.BodyText.{body_within}
use Rattle.sx_compile.proofs.Handling.{does_handler}

-- the source of an element of a list that is made of another
listed : (f : ℕ × ℕ → ℕ) (parts : List (ℕ × ℕ)) (k p : ℕ) → slice_get (map f parts) k ≡ Some p → (part : ℕ × ℕ) × (slice_get parts k ≡ Some part) × (f part ≡ p)
listed f [] k p is = absurd (none_some is)
  where
    none_some : ◌≡◌ {A = Option ℕ} None (Some p) → ⊥
    none_some e = cc
listed f (x ∷ parts) zero p is = (x, refl, some_same is)
  where
    some_same : ◌≡◌ {A = Option ℕ} (Some (f x)) (Some p) → f x ≡ p
    some_same e = cc
listed f (x ∷ parts) (suc k) p is = listed f parts k p is

module _ (mac : Mac) (tree : ModuleTree) (ends : List End) (l : Layout) (code : Code) (tag : IsTag mac) (able : IsLowerable tree ends) (low : LowersTo tree ends code)
    (room : HasSections tree ends l) where
  -- its offsets are words
  pub body_small : bytes code.ops.items < 65536
  body_small = let fits = body_within tree ends code able low in let public = room.public in let below = room.public_below in omega (arith, fits, public, below)

  pub text_is : bytes_of (text_words l code) ≡ bytes_of (text_words_of l (body_ops tree ends) (body_parts tree ends))
  unfolding text_words body_ops body_parts
  text_is = ap (λ (ops : List Ir). bytes_of (text_words_of l ops code.parts.items)) low.is.ops ∙ ap (λ (parts : List (ℕ × ℕ)). bytes_of (text_words_of l (body_ops tree ends) parts)) low.is.parts

  pub places_are : (f : List Ir → ℕ × ℕ → ℕ) → map (f code.ops.items) code.parts.items ≡ map (f (body_ops tree ends)) (body_parts tree ends)
  unfolding body_ops body_parts
  places_are f = ap (λ (ops : List Ir). map (f ops) code.parts.items) low.is.ops ∙ ap (λ (parts : List (ℕ × ℕ)). map (f (body_ops tree ends)) parts) low.is.parts

  -- wherever it is
  do_handlers : DoHandlers mac tree ends l (bytes_of (text_words l code)) (map (part_start code.ops.items) code.parts.items) (map (part_return code.ops.items) code.parts.items)
  do_handlers section n e h k p q same part =
      let from = listed (part_start code.ops.items) code.parts.items k p part.begins in
      let to = listed (part_return code.ops.items) code.parts.items k q part.returns in
      let one : ◌≡◌ {A = Option (ℕ × ℕ)} (Some from.0) (Some to.0) = sym from.1 ∙ to.1 in
      let there = subst (λ (l : Layout). HasSections tree ends l) (sym same) room in
      let s = setup_at mac tree ends section n in
      subst (λ (l : Layout). DoesHandler s (bytes_of (text_words l code)) p q (handler_cost h) e n) same
      (subst (λ (p : ℕ). DoesHandler s (bytes_of (text_words section.layout code)) p q (handler_cost h) e n) from.2
      (subst (λ (q : ℕ). DoesHandler s (bytes_of (text_words section.layout code)) (part_start code.ops.items from.0) q (handler_cost h) e n)
      (ap (part_return code.ops.items) (some_same from.0 to.0 one) ∙ to.2)
      (λ b. does_handler mac tree ends code tag able low section there n e h k from.0.0 from.0.1 part.is part.handler from.1 b)))
    where
      some_same : (x y : ℕ × ℕ) → ◌≡◌ {A = Option (ℕ × ℕ)} (Some x) (Some y) → x ≡ y
      some_same x y e = cc

  pub body_does : (text from to : List ℕ) → text ≡ bytes_of (text_words l code) → from ≡ map (part_start code.ops.items) code.parts.items → to ≡ map (part_return code.ops.items) code.parts.items
      → DoHandlers mac tree ends l text from to
  body_does text from to a b c =
      subst (λ (t : List ℕ). DoHandlers mac tree ends l t from to) (sym a)
      (subst (λ (x : List ℕ). DoHandlers mac tree ends l (bytes_of (text_words l code)) x to) (sym b)
      (subst (λ (x : List ℕ). DoHandlers mac tree ends l (bytes_of (text_words l code)) (map (part_start code.ops.items) code.parts.items) x) (sym c) do_handlers))
