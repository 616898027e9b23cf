use Rattle.std.proofs.Common.{rules, replicate, refl}
use Rattle.byteorder.specs.Endian.{little_bytes}
use Rattle.sx_wire.specs.Headers.{header}
use Rattle.sx_wire.proofs.Parts.{put_parts}
use Rattle.sx_wire.proofs.writing.write_event.Goals as goal

pub returns : goal.returns
returns c =
    rw (c.copy_from_slice.ensures.after, c.header.ensures, c.copy_from_slice-2.ensures.after, c.copy_from_slice-3.ensures.after)
    (put_parts 2 16 (header 3 (little_bytes 2 c.args.p.now.link) (little_bytes 2 c.args.p.now.number)) (replicate 18 0) c.args.p.now.cipher c.args.p.now.mac refl (search rules) (search rules))
