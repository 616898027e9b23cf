-- The lines that commands write at their end, or where they begin to run.
use Rattle.std.specs.Prelude.{ℕ, List, [], ◌∷◌, ◌++◌, codes}

-- a text and its newline
abbrev pub line : List ℕ → List ℕ
line text = text ++ 10 ∷ []

-- the line after the images
unfoldable pub trace_line : List ℕ
trace_line = line (codes "trace")

-- the last line of an output without a fault
unfoldable pub end_line : List ℕ
end_line = line (codes "end")
