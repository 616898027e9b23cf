use Rattle.std.proofs.Common.{◌+◌, ◌-◌, ◌*◌, ◌/◌, ◌<◌, ◌≤◌, length, take, drop, refl, subst, ap, ◌∙◌}
use Rattle.std.specs.Int.{div_ceil}
use Rattle.spec_run.specs.Run.{put_on, put_pieces}
use Rattle.sx_world.proofs.doing.Composed.{remains_start, remains_on, remains_wanted, remains_none}
use Rattle.sx_world.proofs.granting.Given.{does_err}
use Rattle.sx_world.proofs.doing.Loaded.{long_by_boots, same_count, pieces_first, pieces_from, piece_within, next_piece, no_piece}
use Rattle.sx_world.proofs.running.Running.put_pieces.Goals as goal

pub returns-in_err-put_on-clause-does : goal.returns-in_err-put_on-clause-does
returns-in_err-put_on-clause-does g c = λ set.
    let bytes = c.args.bytes.now in
    let count = div_ceil (length bytes) 1024 in
    let i = c.loop-i.i in
    let lt : i < count = subst (λ k. i < k) c.div_ceil-i-end.ensures c.loop-i-test.true in
    let piece = take (c.min-end.result - i * 1024) (drop (i * 1024) bytes) in
    let all = put_pieces c.args.n ((length bytes + 1023) / 1024) c.args.at bytes in
    does_err set c.from_residual.result c.args.self.now c.put_on.new.self c.args.items.now.items c.put_on.new.items.items all c.from_residual.ensures.0
    (remains_wanted set all (pieces_from c.args.n c.args.at bytes count i) (put_on c.args.n (c.from.result + i * 1024) piece) (pieces_from c.args.n c.args.at bytes count (i + 1))
    c.args.self.now c.loop-i.self c.args.items.now.items c.loop-i.items.items c.put_on.new.items.items (c.loop-i.invariant.remains set)
    (next_piece c.args.n c.args.at bytes count i (c.from.result + i * 1024) piece lt (piece_within (length bytes) i lt) (ap (λ k. k + i * 1024) c.from.ensures)
    (ap (λ k. take (k - i * 1024) (drop (i * 1024) bytes)) c.min-end.ensures))
    (c.in_err-put_on.ensures.does set))

pub loop-i-preserved : goal.loop-i-preserved
loop-i-preserved g c =
    let bytes = c.args.bytes.now in
    let count = div_ceil (length bytes) 1024 in
    let i = c.loop-i.i in
    let lt : i < count = subst (λ k. i < k) c.div_ceil-i-end.ensures c.loop-i-test.true in
    let piece = take (c.min-end.result - i * 1024) (drop (i * 1024) bytes) in
    let all = put_pieces c.args.n ((length bytes + 1023) / 1024) c.args.at bytes in
    record {
      remains = λ set.
          remains_on set all (pieces_from c.args.n c.args.at bytes count i) (put_on c.args.n (c.from.result + i * 1024) piece) (pieces_from c.args.n c.args.at bytes count (i + 1))
          c.args.self.now c.loop-i.self c.put_on.new.self c.args.items.now.items c.loop-i.items.items c.put_on.new.items.items (c.loop-i.invariant.remains set)
          (next_piece c.args.n c.args.at bytes count i (c.from.result + i * 1024) piece lt (piece_within (length bytes) i lt) (ap (λ k. k + i * 1024) c.from.ensures)
          (ap (λ k. take (k - i * 1024) (drop (i * 1024) bytes)) c.min-end.ensures))
          (c.in_ok-put_on.ensures.does set);
      boots = c.in_ok-put_on.ensures.boots ∙ c.loop-i.invariant.boots;
      steps = c.in_ok-put_on.ensures.steps ∙ c.loop-i.invariant.steps;
    }

pub returns-clause-does : goal.returns-clause-does
returns-clause-does g c = λ set.
    let bytes = c.args.bytes.now in
    let count = div_ceil (length bytes) 1024 in
    let le : count ≤ c.loop-i.i = subst (λ k. k ≤ c.loop-i.i) c.div_ceil-i-end.ensures c.loop-i-test.false in
    remains_none set (put_pieces c.args.n ((length bytes + 1023) / 1024) c.args.at bytes) (pieces_from c.args.n c.args.at bytes count c.loop-i.i)
    c.args.self.now c.loop-i.self c.args.items.now.items c.loop-i.items.items (c.loop-i.invariant.remains set) (no_piece c.args.n c.args.at bytes count c.loop-i.i le)

pub loop-i-init : goal.loop-i-init
loop-i-init g c =
    let bytes = c.args.bytes.now in
    record {
      remains = λ set.
          remains_start set (put_pieces c.args.n ((length bytes + 1023) / 1024) c.args.at bytes) (pieces_from c.args.n c.args.at bytes (div_ceil (length bytes) 1024) 0)
          c.args.self.now c.args.items.now.items (pieces_first c.args.n c.args.at bytes ((length bytes + 1023) / 1024) (div_ceil (length bytes) 1024) (same_count (length bytes)));
      boots = refl;
      steps = refl;
    }

pub put_on-requires : goal.put_on-requires
put_on-requires g c = long_by_boots c.args.self.now.nodes c.loop-i.self.nodes c.args.n c.loop-i.invariant.boots c.requires.node
