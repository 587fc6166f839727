-- The index that is lent to a call.
use Rattle.index.specs.declared.LentIndex.{LentIndex}
use Rattle.index.specs.Arrays.{Arrays, arrays}

-- its four slices
abbrev pub slices_of : LentIndex → Arrays
slices_of x = arrays x.lengths.now x.bytes.now x.superblocks.now x.blocks.now
