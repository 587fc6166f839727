-- the number and the end of the line are written one behind another
use Rattle.std.proofs.Common.{length, arith}
use Rattle.formatting.specs.Characters.{characters, labelled}
use Rattle.formatting.proofs.Wrote.{room_first, room_second, wrote_both}
use Rattle.node_lines.specs.Lines.{line_end, refusal_line}
use Rattle.node_lines.proofs.write_refusal.Goals as goal

pub write_labelled-last-requires : goal.write_labelled-last-requires
unfolding refusal_line
write_labelled-last-requires c =
    room_first (labelled (characters "refused ") c.args.number) line_end 0 (length c.args.output.now) (omega (arith, c.requires))

pub write_words-requires : goal.write_words-requires
unfolding refusal_line
write_words-requires c = room_second c.write_labelled-last.ensures line_end (omega (arith, c.requires))

pub returns : goal.returns
unfolding refusal_line
returns c = wrote_both c.write_labelled-last.ensures line_end (omega (arith, c.requires)) c.write_words.ensures
