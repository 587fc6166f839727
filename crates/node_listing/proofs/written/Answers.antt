-- the listing is made in a slice that is long enough, and copied where it has room
use Rattle.std.proofs.Common.{◌≡◌, ℕ, List, length, take, sym, ap, ap₂, ◌∙◌, arith}
use Rattle.std.proofs.Math.ListN.{length-take}
use Rattle.base.specs.Answers.{accepted}
use Rattle.base.proofs.Fronts.{take_front}
use Rattle.formatting.specs.Writing.{Wrote}
use Rattle.formatting.proofs.Wrote.{wrote_front}
use Rattle.node_listing.specs.Listing.{listing as listing_of}
use Rattle.node_listing.proofs.Calls.{listing_short, listing_written}
use Rattle.node_listing.proofs.written.Goals as goal

-- what is made stands in front, as many bytes as are returned
made : (stream z : List ℕ) (count : ℕ) (y : List ℕ) → Wrote (listing_of stream) 0 z count y → (count ≡ length (listing_of stream)) × (take count y ≡ listing_of stream)
made stream z count y printed =
    let w = wrote_front printed in
    (w.0, ap₂ take w.0 w.1 ∙ take_front (listing_of stream) z)

pub returns-then-output-count : goal.returns-then-output-count
returns-then-output-count c =
    let call = c.print_stream-count in
    let e = listing_short c.args.stream.now c.args.output.now (omega (arith, (made c.args.stream.now _ call.result call.new.output call.ensures).0, c.if-output-count.true)) in
    rw c.into.ensures (sym e.0, sym e.1)

pub slice_bounds-listing-end : goal.slice_bounds-listing-end
slice_bounds-listing-end c =
    let call = c.print_stream-count in
    let m = made c.args.stream.now _ call.result call.new.output call.ensures in
    omega (arith, m.0, ap length m.1, length-take call.result call.new.output)

pub slice_bounds-write_words-end : goal.slice_bounds-write_words-end
slice_bounds-write_words-end c =
    let call = c.print_stream-count in
    let m = made c.args.stream.now _ call.result call.new.output call.ensures in
    m.0 ∙ sym (ap length m.1)

pub returns : goal.returns
returns c =
    let call = c.print_stream-count in
    let m = made c.args.stream.now _ call.result call.new.output call.ensures in
    let e = listing_written c.args.stream.now c.args.output.now (omega (arith, m.0, c.if-output-count.false)) in
    let w = wrote_front (rw m.1 at c.write_words.ensures) in
    (ap accepted m.0 ∙ sym e.0, w.1 ∙ sym e.1)
