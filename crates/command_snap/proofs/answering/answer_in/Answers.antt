use Rattle.std.proofs.Common.{◌≡◌, ◌∙◌, ◌-◌, List, ℕ, ap, length, subst, sym, take}
use Rattle.std.specs.Prelude.{IfOk}
use Rattle.sx_trace.specs.declared.items.Item.{Item}
use Rattle.sx_deploy.specs.SeenDeployment.{deployed_as}
use Rattle.spec_run.specs.Accepted.{setting}
use Rattle.sx_world.specs.Held.{Held}
use Rattle.sx_snap.specs.Checkpoints.{StandsAfter}
use Rattle.command_snap.specs.declared.queries.Query.{Query}
use Rattle.command_snap.specs.Asked.{IsAsked, lines_before}
use Rattle.command_snap.specs.Answers.{answer_text, bytes_line, items_text, registers_line}
use Rattle.command_snap.proofs.Reached.{node_there}
use Rattle.command_snap.proofs.Written.{of_found}
use Rattle.command_snap.proofs.answering.answer_in.Goals as goal

pub node-requires : goal.node-requires
node-requires g c =
    let d = deployed_as c.args.deployment.now in
    let t = c.args.timeline.now in
    let P : Query → Type 0 = λ q. IsAsked d.names (length t.lines) q in
    let Q : Query → Type 0 = λ q. StandsAfter (setting g.T.Tag.mac d t.sites) (take (lines_before q) t.lines) c.args.world.now in
    node_there g.T.Tag.mac d t c.in-Registers.at c.in-Registers.node c.args.world.now c.requires.timeline (subst Q c.in-Registers.is c.requires.stands) (subst P c.in-Registers.is c.requires.asked).0

pub node-requires-in-Bytes : goal.node-requires-in-Bytes
node-requires-in-Bytes g c =
    let d = deployed_as c.args.deployment.now in
    let t = c.args.timeline.now in
    let P : Query → Type 0 = λ q. IsAsked d.names (length t.lines) q in
    let Q : Query → Type 0 = λ q. StandsAfter (setting g.T.Tag.mac d t.sites) (take (lines_before q) t.lines) c.args.world.now in
    node_there g.T.Tag.mac d t c.in-Bytes.at c.in-Bytes.node c.args.world.now c.requires.timeline (subst Q c.in-Bytes.is c.requires.stands) (subst P c.in-Bytes.is c.requires.asked).0

pub bytes_line-requires : goal.bytes_line-requires
bytes_line-requires g c =
    let P : Query → Type 0 = λ q. IsAsked (deployed_as c.args.deployment.now).names (length c.args.timeline.now.lines) q in
    (subst P c.in-Bytes.is c.requires.asked).1

pub items_in-requires-clause-some : goal.items_in-requires-clause-some
items_in-requires-clause-some g c =
    let P : Query → Type 0 = λ q. IsAsked (deployed_as c.args.deployment.now).names (length c.args.timeline.now.lines) q in
    (subst P c.in-Items.is c.requires.asked).0

pub items_in-requires-clause-within : goal.items_in-requires-clause-within
items_in-requires-clause-within g c =
    let P : Query → Type 0 = λ q. IsAsked (deployed_as c.args.deployment.now).names (length c.args.timeline.now.lines) q in
    (subst P c.in-Items.is c.requires.asked).1

pub items_in-requires-clause-stands : goal.items_in-requires-clause-stands
items_in-requires-clause-stands g c =
    let d = deployed_as c.args.deployment.now in
    let t = c.args.timeline.now in
    let set = setting g.T.Tag.mac d t.sites in
    let Q : Query → Type 0 = λ q. StandsAfter set (take (lines_before q) t.lines) c.args.world.now in
    subst (λ (h : Held). StandsAfter set (take (c.in-Items.at - 1) t.lines) h) (sym c.in_ok-copy-in-Items.ensures) (subst Q c.in-Items.is c.requires.stands)

pub returns-in-Registers : goal.returns-in-Registers
unfolding answer_text
returns-in-Registers g c =
    let d = deployed_as c.args.deployment.now in
    let t = c.args.timeline.now in
    let set = setting g.T.Tag.mac d t.sites in
    let Q : Query → Type 0 = λ q. StandsAfter set (take (lines_before q) t.lines) c.args.world.now in
    let P : List ℕ → Type 0 = λ due. IfOk c.registers_line.result (λ text. text.items ≡ due) in
    let R : Query → Type 0 = λ q. IfOk c.registers_line.result (λ text. text.items ≡ answer_text d.names set t.lines q) in
    subst R (sym c.in-Registers.is)
    (subst P
    (sym (of_found (registers_line d.names c.in-Registers.node c.in-Registers.at) set t.lines c.in-Registers.at c.in-Registers.node _ c.node.result.now
    (subst Q c.in-Registers.is c.requires.stands) c.node.ensures))
    c.registers_line.ensures)

pub returns-in-Bytes : goal.returns-in-Bytes
unfolding answer_text
returns-in-Bytes g c =
    let d = deployed_as c.args.deployment.now in
    let t = c.args.timeline.now in
    let set = setting g.T.Tag.mac d t.sites in
    let Q : Query → Type 0 = λ q. StandsAfter set (take (lines_before q) t.lines) c.args.world.now in
    let P : List ℕ → Type 0 = λ due. IfOk c.bytes_line.result (λ text. text.items ≡ due) in
    let R : Query → Type 0 = λ q. IfOk c.bytes_line.result (λ text. text.items ≡ answer_text d.names set t.lines q) in
    subst R (sym c.in-Bytes.is)
    (subst P
    (sym (of_found (bytes_line d.names c.in-Bytes.node c.in-Bytes.from c.in-Bytes.len c.in-Bytes.at) set t.lines c.in-Bytes.at c.in-Bytes.node _ c.node-in-Bytes.result.now
    (subst Q c.in-Bytes.is c.requires.stands) c.node-in-Bytes.ensures))
    c.bytes_line.ensures)

pub returns-in_ok-items-in-Items : goal.returns-in_ok-items-in-Items
unfolding answer_text
returns-in_ok-items-in-Items g c =
    let d = deployed_as c.args.deployment.now in
    let t = c.args.timeline.now in
    let set = setting g.T.Tag.mac d t.sites in
    let P : List ℕ → Type 0 = λ due. IfOk c.items_text.result (λ text. text.items ≡ due) in
    let R : Query → Type 0 = λ q. IfOk c.items_text.result (λ text. text.items ≡ answer_text d.names set t.lines q) in
    subst R (sym c.in-Items.is)
    (subst P (ap (λ (items : List Item). items_text d.names c.in-Items.at items) (c.deref.ensures.value ∙ c.in_ok-items-in-Items.ensures)) c.items_text.ensures)
