-- the four parts of the line are written one behind another
use Rattle.std.proofs.Common.{arith}
use Rattle.formatting.specs.Characters.{characters, labelled}
use Rattle.formatting.proofs.Wrote.{first_of_four, second_of_four, third_of_four, fourth_of_four, wrote_four}
use Rattle.node_lines.specs.Lines.{line_end, counts_line}
use Rattle.node_lines.proofs.write_counts.Goals as goal

pub write_labelled-first-requires : goal.write_labelled-first-requires
unfolding counts_line
write_labelled-first-requires c =
    first_of_four (labelled (characters "words ") c.args.words) (labelled (characters " nodes ") c.args.nodes) (labelled (characters " bytes ") c.args.bytes) line_end 0 c.args.output.now (omega (arith, c.requires))

pub write_labelled-second-requires : goal.write_labelled-second-requires
unfolding counts_line
write_labelled-second-requires c =
    second_of_four (labelled (characters "words ") c.args.words) (labelled (characters " nodes ") c.args.nodes) (labelled (characters " bytes ") c.args.bytes) line_end 0 c.args.output.now (omega (arith, c.requires)) c.write_labelled-first.ensures

pub write_labelled-third-requires : goal.write_labelled-third-requires
unfolding counts_line
write_labelled-third-requires c =
    third_of_four (labelled (characters "words ") c.args.words) (labelled (characters " nodes ") c.args.nodes) (labelled (characters " bytes ") c.args.bytes) line_end 0 c.args.output.now (omega (arith, c.requires)) c.write_labelled-first.ensures c.write_labelled-second.ensures

pub write_words-requires : goal.write_words-requires
unfolding counts_line
write_words-requires c =
    fourth_of_four (labelled (characters "words ") c.args.words) (labelled (characters " nodes ") c.args.nodes) (labelled (characters " bytes ") c.args.bytes) line_end 0 c.args.output.now (omega (arith, c.requires)) c.write_labelled-first.ensures c.write_labelled-second.ensures c.write_labelled-third.ensures

pub returns : goal.returns
unfolding counts_line
returns c =
    wrote_four (labelled (characters "words ") c.args.words) (labelled (characters " nodes ") c.args.nodes) (labelled (characters " bytes ") c.args.bytes) line_end 0 c.args.output.now (omega (arith, c.requires)) c.write_labelled-first.ensures c.write_labelled-second.ensures c.write_labelled-third.ensures c.write_words.ensures
