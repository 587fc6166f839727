-- what is answered counts bytes of the output
use Rattle.node_listing.proofs.Calls.{listing_counts}
use Rattle.nodes_cases.proofs.show_ends.Goals as goal

pub slice_bounds-output-end : goal.slice_bounds-output-end
slice_bounds-output-end g c =
    let answer = c.write_listing-answer in
    (listing_counts _ _ answer.result answer.new.output answer.ensures.0 answer.ensures.1).0

pub slice_bounds-print_ends-end : goal.slice_bounds-print_ends-end
slice_bounds-print_ends-end g c =
    let answer = c.write_listing-answer in
    (listing_counts _ _ answer.result answer.new.output answer.ensures.0 answer.ensures.1).1
