-- The texts of lines that are written.
use Rattle.std.specs.Prelude.{List, [], ◌∷◌, codes, decimal, ℕ}
use Rattle.sx_asm.specs.Shown.{hex}
use Rattle.sx_trace.specs.Names.{NameLists}
use Rattle.sx_trace.specs.Items.{name_at, spaced_words}
use Rattle.sx_sched.specs.Lines.{Line, Take, Give, Sense, Ask, Answer, Load, Call}

-- the words of a line: addresses are hexadecimal, other numbers decimal
abbrev pub line_words : NameLists → Line → List (List ℕ)
line_words n (Take node at len) =
    codes "take" ∷ name_at n.nodes node ∷ hex at ∷ decimal len ∷ []
line_words n (Give packet node at) =
    codes "give" ∷ decimal packet ∷ name_at n.nodes node ∷ hex at ∷ []
line_words n (Sense device value) = codes "sense" ∷ name_at n.devices device ∷ decimal value ∷ []
line_words n (Ask m) = codes "ask" ∷ name_at n.modules m ∷ []
line_words n (Answer m boot packet) =
    codes "answer" ∷ name_at n.modules m ∷ decimal boot ∷ decimal packet ∷ []
line_words n (Load m) = codes "load" ∷ name_at n.modules m ∷ []
line_words n (Call m entry input output) =
    codes "call" ∷ name_at n.modules m ∷ decimal entry ∷ hex input ∷ hex output ∷ []
line_words n _ = []

-- the text of a line, without its newline
unfoldable pub line_text : NameLists → Line → List ℕ
line_text n line = spaced_words (line_words n line)
