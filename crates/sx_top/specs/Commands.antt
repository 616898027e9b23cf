-- The commands that words name.
use Rattle.std.specs.Prelude.{ℕ, ◌==◌, if◌then◌else◌, List, [], ◌∷◌, codes, Option, Some, None}
use Rattle.std.specs.Prelude.{option_map}
use Rattle.std.specs.Str.{bytes_eq}
use Rattle.sx_io.specs.Numbers.{number_of}
use Rattle.sx_top.specs.declared.words.Command.{Command}
use Rattle.sx_top.specs.declared.words.Command.TheVariants.{Run, Check, Explain, Snap, Gen, Asm}
use Rattle.sx_top.specs.declared.words.Command.TheVariants.{Batch, Dis, Drive, Holds, Lines, Watch}
use Rattle.sx_top.specs.declared.words.Command.TheVariants.{Describe}

-- the commands without a number
abbrev pub plain_command : List ℕ → Option Command
plain_command word =
    if bytes_eq word (codes "run") then Some Run else
    if bytes_eq word (codes "check") then Some Check else
    if bytes_eq word (codes "explain") then Some Explain else
    if bytes_eq word (codes "watch") then Some Watch else
    if bytes_eq word (codes "drive") then Some Drive else
    if bytes_eq word (codes "snap") then Some Snap else
    if bytes_eq word (codes "holds") then Some Holds else
    if bytes_eq word (codes "lines") then Some Lines else
    if bytes_eq word (codes "describe") then Some Describe else
    if bytes_eq word (codes "batch") then Some Batch else
    None

-- an address from 0 to 65,535
abbrev pub address_in : List ℕ → Option ℕ
address_in word = number_of word 65535

-- a number that is not 0
abbrev pub not_none : Option ℕ → Option ℕ
not_none None = None
not_none (Some n) = if n == 0 then None else Some n

-- a number of samples, from 1 to 8,000
abbrev pub samples_in : List ℕ → Option ℕ
samples_in word = not_none (number_of word 8000)

-- the commands with a number: of samples, or an address
abbrev pub numbered_command : List ℕ → List ℕ → Option Command
numbered_command word number =
    if bytes_eq word (codes "gen") then option_map Gen (samples_in number) else
    if bytes_eq word (codes "asm") then option_map Asm (address_in number) else
    if bytes_eq word (codes "dis") then option_map Dis (address_in number) else
    None

-- the command that these words name
abbrev pub command_of : List (List ℕ) → Option Command
command_of [] = None
command_of (word ∷ []) = plain_command word
command_of (word ∷ number ∷ []) = numbered_command word number
command_of (word ∷ number ∷ next ∷ rest) = None
