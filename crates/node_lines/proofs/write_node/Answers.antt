-- the four parts of the line are written one behind another
use Rattle.std.proofs.Common.{arith}
use Rattle.formatting.specs.Characters.{characters, labelled, bytes_text}
use Rattle.formatting.proofs.Wrote.{first_of_four, second_of_four, third_of_four, fourth_of_four, wrote_four}
use Rattle.formatting.proofs.Texts.{length_bytes_text}
use Rattle.node_lines.specs.Lines.{line_end, node_line}
use Rattle.node_lines.proofs.write_node.Goals as goal

pub write_labelled-name-requires : goal.write_labelled-name-requires
unfolding node_line
write_labelled-name-requires c =
    first_of_four (labelled (characters "node ") c.args.node) (characters ":") (bytes_text c.args.bytes.now) line_end c.args.at c.args.output.now c.requires

pub write_words-colon-requires : goal.write_words-colon-requires
unfolding node_line
write_words-colon-requires c =
    second_of_four (labelled (characters "node ") c.args.node) (characters ":") (bytes_text c.args.bytes.now) line_end c.args.at c.args.output.now c.requires c.write_labelled-name.ensures

pub write_bytes-end-requires : goal.write_bytes-end-requires
unfolding node_line
write_bytes-end-requires c =
    omega (arith, third_of_four (labelled (characters "node ") c.args.node) (characters ":") (bytes_text c.args.bytes.now) line_end c.args.at c.args.output.now c.requires c.write_labelled-name.ensures c.write_words-colon.ensures, length_bytes_text c.args.bytes.now)

pub write_words-requires : goal.write_words-requires
unfolding node_line
write_words-requires c =
    fourth_of_four (labelled (characters "node ") c.args.node) (characters ":") (bytes_text c.args.bytes.now) line_end c.args.at c.args.output.now c.requires c.write_labelled-name.ensures c.write_words-colon.ensures c.write_bytes-end.ensures

pub returns : goal.returns
unfolding node_line
returns c =
    wrote_four (labelled (characters "node ") c.args.node) (characters ":") (bytes_text c.args.bytes.now) line_end c.args.at c.args.output.now c.requires c.write_labelled-name.ensures c.write_words-colon.ensures c.write_bytes-end.ensures c.write_words.ensures
