-- the next byte is written behind those before it
use Rattle.formatting.proofs.Wrote.{wrote_none}
use Rattle.formatting.proofs.Texts.{bytes_none, bytes_next_room, bytes_next_written}
use Rattle.formatting.proofs.write_bytes.Goals as goal

pub loop-byte-init : goal.loop-byte-init
loop-byte-init c = rw bytes_none (wrote_none c.args.at c.args.output.now)

pub write_byte-next-requires : goal.write_byte-next-requires
write_byte-next-requires c =
    let loop = c.loop-byte in
    bytes_next_room c.args.bytes.now c.args.at loop.byte-index c.args.output.now loop.output loop.next c.requires loop.invariant c.loop-byte-test.true

pub loop-byte-preserved : goal.loop-byte-preserved
loop-byte-preserved c =
    let loop = c.loop-byte in
    bytes_next_written c.args.bytes.now c.args.at loop.byte-index c.args.output.now loop.output loop.next c.requires loop.invariant c.loop-byte-test.true c.write_byte-next.ensures
