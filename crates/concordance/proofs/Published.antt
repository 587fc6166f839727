-- The published code: the number of closing byte values with which every entry works. Assumes nothing.
use lib.Dec.{lit≤}
use Rattle.dense.specs.Code.{Closing}

-- 128 is such a number
pub closing_128 : Closing 128
closing_128 = record { least = lit≤ tt; most = lit≤ tt }
