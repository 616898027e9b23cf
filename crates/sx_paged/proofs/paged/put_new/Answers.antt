use Rattle.std.proofs.Common.{◌/◌, arith}
use Rattle.sx_paged.proofs.Starts.{put-kept, IsKept-put, last-kept, IsKept-last}
use Rattle.sx_paged.proofs.paged.put_new.Goals as goal

pub returns-in-Some-clause-value : goal.returns-in-Some-clause-value
returns-in-Some-clause-value c =
    let took = c.in-Some.ensures in
    rw (c.write.ensures, took.3, c.start_of.ensures) (put-kept c.args.arena.now c.args.starts.now c.args.blank.now c.requires.0 c.args.at c.in-Some.page c.args.byte (omega (arith, c.ranges.at.fits))
    took.0 took.2 c.requires.1)

pub returns-in-Some-clause-kept : goal.returns-in-Some-clause-kept
returns-in-Some-clause-kept c =
    let took = c.in-Some.ensures in
    rw (c.write.ensures, took.3, c.start_of.ensures) (IsKept-put c.args.arena.now c.args.starts.now c.args.blank.now c.requires.0 (c.args.at / 256) c.in-Some.page _ _ (omega (arith, c.ranges.at.fits))
    took.0 took.2 c.requires.1)

pub returns-in-None-clause-value : goal.returns-in-None-clause-value
returns-in-None-clause-value c =
    let full = c.in-None.ensures in
    rw (c.write-in-None.ensures, full.1, c.number_of.ensures) (last-kept c.args.arena.now c.args.starts.now c.args.blank.now c.requires.0 c.args.at c.args.byte (omega (arith, c.ranges.at.fits)) c.requires.1 full.0)

pub returns-in-None-clause-kept : goal.returns-in-None-clause-kept
returns-in-None-clause-kept c =
    let full = c.in-None.ensures in
    rw (c.write-in-None.ensures, full.1, c.number_of.ensures) (IsKept-last c.args.arena.now c.args.starts.now c.args.blank.now c.requires.0 (c.args.at / 256) _ (omega (arith, c.ranges.at.fits)) c.requires.1 full.0)
