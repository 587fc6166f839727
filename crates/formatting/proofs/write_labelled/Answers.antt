-- the number is written behind the words
use Rattle.std.proofs.Common.{length}
use Rattle.formatting.specs.Characters.{decimal, labelled}
use Rattle.formatting.proofs.Wrote.{room_first, room_second, wrote_both}
use Rattle.formatting.proofs.write_labelled.Goals as goal

pub write_words-next-requires : goal.write_words-next-requires
unfolding labelled
write_words-next-requires c = room_first c.args.label.now (decimal c.args.n) c.args.at (length c.args.output.now) c.requires

pub write_decimal-requires : goal.write_decimal-requires
unfolding labelled
write_decimal-requires c = room_second c.write_words-next.ensures (decimal c.args.n) c.requires

pub returns : goal.returns
unfolding labelled
returns c = wrote_both c.write_words-next.ensures (decimal c.args.n) c.requires c.write_decimal.ensures
