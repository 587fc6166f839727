-- The theorem of the tree, from the laws. Assumes nothing.
use Rattle.tree.specs.Theorems.{TreeExact}
use Rattle.tree.proofs.Numbers.{child_parent, child_digit, digit_below, child_of_parent, node_of_below, nodes_most, rank_from_root, code_ends}
use Rattle.tree.proofs.Paths.{code_end}
use Rattle.tree.proofs.Nodes.{reach_append, node_bytes-append, reach_root, reach_child, child_length_lem, child_nth}
use Rattle.tree.proofs.Frequency.{position_root, position_child, node_of_own, occurrences_below_lem}
use Rattle.tree.proofs.Reading.{text_of_nodes, nodes_injective}
use Rattle.tree.proofs.Passing.{good_iff_text, nodes_of_text, text_below}
use Rattle.tree.proofs.Visits.{total_nodes}
use Rattle.tree.proofs.Words.{length_of_text, word_of_text, count_of_text, nth_of_text}
use Rattle.tree.proofs.Checks.{good_test_lem}

pub tree_exact : TreeExact
tree_exact = record {
  numbers = λ s within. record {
    ends_in = code_ends s within;
    ends = code_end s within;
    stands_in = node_of_own s within;
    is_node = node_of_below s within;
    in_levels = nodes_most s within;
    named = rank_from_root s within;
    is_child = λ k h. (digit_below s within k, child_of_parent s within k h);
    of_child = λ k e h. (child_parent s k e h, child_digit s k e h);
    root_reached = reach_root s;
    child_reached = λ t k e h. reach_child s k e t h;
  };
  tree = λ s within. record {
    joined = λ k t u. (reach_append s k t u, node_bytes-append s k t u);
    child_length = λ t k e h. child_length_lem s k e t h;
    child_position = λ t k e j h l. child_nth s k e j t h l;
    root = λ t place h. position_root s place.0 t h;
    down = λ t k e p h. position_child s k e p t h;
    often = λ t i p b h. occurrences_below_lem s within i p t h b;
  };
  reading = λ s v within fits. record {
    read = text_of_nodes s within v fits;
    only_one = nodes_injective s within v fits;
    good = good_iff_text s within v fits;
    again = λ ns g. (text_below s within v fits ns g, nodes_of_text s within v fits ns g);
    tested = good_test_lem s v;
    sized = λ t b. total_nodes s within v t fits b;
  };
  words = λ s v within fits ns g. record {
    size = length_of_text s within v fits ns g;
    word = word_of_text s within v fits ns g;
    often = count_of_text s within v fits ns g;
    place = nth_of_text s within v fits ns g;
  };
}
