-- What is written one after the other.
use Rattle.std.proofs.Common.{◌≡◌, ℕ, suc, ◌+◌, ◌<◌, ◌^◌, true, List, ◌∷◌, ◌++◌, nat_le, codes, refl, sym, ap, ◌∙◌, append_assoc, arith}
use Rattle.std.specs.Fmt.{decimal}
use Rattle.std.proofs.lemmas.Bool.Decides.{nat_tests}
use Rattle.sx_lex.specs.declared.tokens.Kind.{Kind}
use Rattle.sx_print.specs.declared.words.Gap.{Gap}
use Rattle.sx_print.specs.Pieces.{Piece, name, number, quoted, spelling, gap_bytes, text_of, margin}
use Rattle.sx_print.specs.Written.{Wrote}

-- a word and then its gap
two_texts : (before middle after word gap rest : List ℕ) → middle ≡ before ++ word → after ≡ middle ++ gap → before ++ ((word ++ gap) ++ rest) ≡ after ++ rest
two_texts before middle after word gap rest e f = sym (rw (f, e) (ap (λ x. x ++ rest) (append_assoc before word gap) ∙ append_assoc before (word ++ gap) rest))

pub quoted_written : (before middle after : List ℕ) (k : Kind) (g : Gap) → middle ≡ before ++ spelling k → after ≡ middle ++ gap_bytes g → Wrote before (λ rest. quoted k g ∷ rest) after
quoted_written before middle after k g e f = record { text = λ rest. two_texts before middle after (spelling k) (gap_bytes g) (text_of rest) e f; short = λ rest h. h }

pub name_written : (before middle after x : List ℕ) (g : Gap) → middle ≡ before ++ x → after ≡ middle ++ gap_bytes g → Wrote before (λ rest. name x g ∷ rest) after
name_written before middle after x g e f = record { text = λ rest. two_texts before middle after x (gap_bytes g) (text_of rest) e f; short = λ rest h. h }

pub number_written : (before middle after : List ℕ) (n : ℕ) (g : Gap) → middle ≡ before ++ decimal n → after ≡ middle ++ gap_bytes g → n < 2 ^ 16 → Wrote before (λ rest. number n g ∷ rest) after
number_written before middle after n g e f l = record {
  text = λ rest. two_texts before middle after (decimal n) (gap_bytes g) (text_of rest) e f;
  short = λ rest h. (let s : nat_le n 65535 ≡ true = grind (arith, nat_tests, l) in rw s h);
}

pub no_margin : (before after : List ℕ) (n : ℕ) → after ≡ before → n ≡ 0 → Wrote before (margin n) after
no_margin before after n e z = rw (e, z) (record { text = λ rest. refl; short = λ rest h. h })

pub margin_written : (before middle after : List ℕ) (n m : ℕ) → middle ≡ before ++ codes "    " → Wrote middle (margin m) after → n ≡ m + 1 → Wrote before (margin n) after
margin_written before middle after n m e w s =
    let t : n ≡ suc m = omega (arith, s) in
    rw t (record {
      text = λ rest. sym (append_assoc before (codes "    ") (text_of (margin m rest))) ∙ ap (λ x. x ++ text_of (margin m rest)) (sym e) ∙ w.text rest;
      short = λ rest h. w.short rest h;
    })

-- one part and then the next
pub both : (before middle after : List ℕ) (first second : List Piece → List Piece) → Wrote before first middle → Wrote middle second after → Wrote before (λ rest. first (second rest)) after
both before middle after first second a b = record {
  text = λ rest. a.text (second rest) ∙ b.text rest;
  short = λ rest h. a.short (second rest) (b.short rest h);
}
