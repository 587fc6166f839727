-- One byte is read: the one sought, or another.
use Rattle.std.proofs.Common.{arith, add-one}
use Rattle.block_scan.proofs.Looks.{met-one, clear-one}
use Rattle.block_scan.proofs.Sought.read_byte.Goals as goal

pub returns-then-self-read : goal.returns-then-self-read
returns-then-self-read c =
    let a = c.args in
    (omega arith, rw add-one (met-one a.self.now.byte a.read a.self.now.block.now c.requires.0 c.if-self-read.true))

pub returns-else-self-read : goal.returns-else-self-read
returns-else-self-read c =
    let a = c.args in
    (omega arith, rw add-one (clear-one a.self.now.byte a.read a.self.now.block.now c.requires.0 c.if-self-read.false))
