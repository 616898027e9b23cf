-- What the acts of a handler make, as a function of them: which packets, and which writes.
use Rattle.std.specs.Prelude.{ℕ, ◌+◌, ◌≤◌, nat_lt, false, ◌&&◌, if◌then◌else◌, List, []}
use Rattle.std.specs.Prelude.{◌∷◌, ◌++◌, Option, Some, None}
use Rattle.sx_lang.specs.Tree.{ModuleTree}
use Rattle.sx_mean.specs.declared.events.End.{End}
use Rattle.sx_mean.specs.declared.events.Act.{Act}
use Rattle.sx_mean.specs.declared.events.Act.TheVariants.{Send, Emit}
use Rattle.sx_mean.specs.declared.events.SourceEvent.{SourceEvent}
use Rattle.sx_mean.specs.Ends.{is_sending}
use Rattle.sx_mean.specs.EndLaws.{senders}
use Rattle.sx_mean.specs.React.{react}
use Rattle.spec_invocation.specs.Protocol.{last_number}
use Rattle.spec_invocation.specs.Setup.{Setup}
use Rattle.spec_invocation.specs.ModuleState.{EndState, end_of, with_end}
use Rattle.spec_invocation.specs.Marks.{Mark, Wrapped, Actuated}
use Rattle.spec_invocation.specs.Windows.{two}
use Rattle.spec_invocation.specs.Acts.{event_header, event_packet}

-- what acts make: the ends after them, their marks and their pieces
pub record Effect : Type 0 where
  pub ends : List EndState
  pub marks : List Mark
  pub pieces : List (List ℕ)

-- nothing is made
abbrev pub nothing : List EndState → Effect
nothing ends = record { ends = ends; marks = []; pieces = [] }

-- one part's effect, and then that of the rest, from the ends that the part leaves
abbrev pub also : Effect → (List EndState → Effect) → Effect
also first rest =
    let last = rest first.ends in
    record {
      ends = last.ends;
      marks = first.marks ++ last.marks;
      pieces = first.pieces ++ last.pieces;
    }

-- the end with this number
abbrev pub numbered : EndState → ℕ → EndState
numbered e number = record e { number = number }

-- a packet of an end, the k-th: its number rises, with one wrap and one piece
abbrev pub one_packet : Setup → ℕ → ℕ → EndState → List EndState → Effect
one_packet su v k e ends = record {
  ends = with_end ends k (numbered e (e.number + 1));
  marks = Wrapped (event_header e) (two v) false ∷ [];
  pieces = event_packet su e v ∷ [];
}

-- the packet of the k-th end, if it is open and its number is below the last
abbrev pub packet_made : Setup → ℕ → ℕ → List EndState → Effect
packet_made su v k ends =
    let e = end_of ends k in
    if e.is_open && nat_lt e.number last_number then one_packet su v k e ends else nothing ends

-- a packet for each sending end of the output, from the k-th end on
abbrev pub packets_made : Setup → ℕ → ℕ → ℕ → List End → List EndState → Effect
packets_made su output v k [] ends = nothing ends
packets_made su output v k (e ∷ es) ends =
    if is_sending output e.side e.port then also (packet_made su v k ends)
    (packets_made su output v (k + 1) es)
    else packets_made su output v (k + 1) es ends

-- a write to the module's device, if it has one
abbrev pub emit_marks : Option ℕ → ℕ → List Mark
emit_marks None v = []
emit_marks (Some k) v = Actuated k v ∷ []

-- what one act makes, of a module with this device
abbrev pub act_made : Setup → Option ℕ → Act → List EndState → Effect
act_made su device (Send output v) ends = packets_made su output v 0 su.ends ends
act_made su device (Emit v) ends =
    record { ends = ends; marks = emit_marks device v; pieces = [] }

-- what acts make, one after the other
abbrev pub acts_made : Setup → Option ℕ → List Act → List EndState → Effect
acts_made su device [] ends = nothing ends
acts_made su device (a ∷ acts) ends = also (act_made su device a ends) (acts_made su device acts)

-- the packets that one act makes at most
abbrev pub act_packets : List End → Act → ℕ
act_packets ends (Send output v) = senders ends output
act_packets ends (Emit v) = 0

-- the packets that acts make at most
abbrev pub acts_packets : List End → List Act → ℕ
acts_packets ends [] = 0
acts_packets ends (a ∷ acts) = act_packets ends a + acts_packets ends acts

-- no event makes more than 16 packets, as many as the out-window holds
abbrev pub MakesFew : ModuleTree → List End → Type 0
MakesFew tree ends =
    (e : SourceEvent) (cells : List ℕ) → acts_packets ends (react tree e cells).acts ≤ 16
