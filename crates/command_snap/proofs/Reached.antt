-- Queries that are asked, and the worlds that answer them.
use Rattle.std.proofs.Common.{ℕ, ◌<◌, ◌≤◌, length, take, sym, subst, arith}
use Rattle.sx_tag.specs.Mac.{Mac}
use Rattle.sx_trace.specs.Names.{NameLists}
use Rattle.sx_deploy.specs.Deployment.{Deployed}
use Rattle.spec_run.specs.Accepted.{setting}
use Rattle.sx_world.specs.Held.{Held}
use Rattle.sx_snap.specs.Kept.{Kept}
use Rattle.sx_snap.specs.Checkpoints.{IsTimeline, StandsAfter}
use Rattle.sx_snap.proofs.Stretches.{nodes_long}
use Rattle.command_snap.specs.declared.queries.Query.{Query}
use Rattle.command_snap.specs.declared.queries.Query.TheVariants.{Blank, Registers, Bytes, Items}
use Rattle.command_snap.specs.Asked.{IsAsked, lines_before}

pub before_within : (names : NameLists) (last : ℕ) (q : Query) → IsAsked names last q → lines_before q ≤ last
before_within names last Blank a = omega arith
before_within names last (Registers node at) a = a.1
before_within names last (Bytes node from len at) a = a.2
before_within names last (Items at) a = let within = a.1 in omega (arith, within)

-- a world that is reached has a node that is asked about
pub node_there : (mac : Mac) (d : Deployed) (t : Kept) (at node : ℕ) (held : Held) → IsTimeline mac d t → StandsAfter (setting mac d t.sites) (take at t.lines) held → node < length d.names.nodes
    → node < length held.running.nodes
node_there mac d t at node held is here lt =
    subst (λ (n : ℕ). node < n) (sym (nodes_long mac d t.sites (take at t.lines) held is.sound is.images here)) lt
