-- The totals are copied over the row.
use Rattle.std.proofs.Common.{◌+◌, ◌-◌, ◌*◌, arith}
use Rattle.std.proofs.lemmas.Slice.{put_mid-paste}
use Rattle.counters.proofs.put_superblock.Goals as goal

pub returns : goal.returns
returns c =
    let a = c.args in
    let at = a.row * 256 in
    put_mid-paste at (at + 256 - at) a.superblocks.now c.copy_from_slice.new.self a.totals.now 256 c.copy_from_slice.ensures.after (omega arith) (omega arith)
