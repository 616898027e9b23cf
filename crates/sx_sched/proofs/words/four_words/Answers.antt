use Rattle.std.proofs.Common.{◌≡◌, ℕ, List, [], ◌∷◌, refl}
use Rattle.std.specs.Prelude.{option_map}
use Rattle.sx_sched.specs.Words.{three_words, four_words}
use Rattle.sx_sched.proofs.words.four_words.Goals as goal

-- four words are a word and three
four_of : (a : List ℕ) (ws : List (List ℕ)) → four_words (a ∷ ws) ≡ option_map (λ w. (a, w.0, w.1, w.2)) (three_words ws)
four_of a [] = refl
four_of a (b ∷ []) = refl
four_of a (b ∷ c ∷ []) = refl
four_of a (b ∷ c ∷ d ∷ []) = refl
four_of a (b ∷ c ∷ d ∷ e ∷ ws) = refl

pub returns : goal.returns
returns c = rw (c.in_ok-a.ensures.words, four_of, c.in_ok-b.ensures) refl
