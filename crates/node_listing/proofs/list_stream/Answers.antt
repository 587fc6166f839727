-- which listing a stream has: one that is too long, and then by what reading it answers
use Rattle.std.proofs.Common.{◌≡◌, ◌≤◌, ◌<◌, ℕ, List, length, take, get_or, refl, sym, ap, ◌∙◌, arith}
use Rattle.std.proofs.Math.ListN.{length-take}
use Rattle.base.specs.declared.Answer.{Answer}
use Rattle.base.specs.Lists.{Below}
use Rattle.base.proofs.Lists.{all_of_at}
use Rattle.dense.specs.Streams.{stream_text, read_stream_answer, read_stream_exit}
use Rattle.node_listing.specs.Listing.{max_stream, max_stream_words}
use Rattle.node_listing.proofs.Cases.{listing_long, listing_broken, listing_many, listing_read, words_read, text_read_lem}
use Rattle.node_listing.proofs.list_stream.Goals as goal

pub returns-then-stream-gt-MAX_STREAM : goal.returns-then-stream-gt-MAX_STREAM
returns-then-stream-gt-MAX_STREAM c = (listing_long c.args.stream.now c.if-stream-gt-MAX_STREAM.true, refl)

pub returns-then-read-number : goal.returns-then-read-number
returns-then-read-number c =
    let call = c.read_stream-read in
    (listing_broken c.args.stream.now c.if-stream-gt-MAX_STREAM.false _ refl call.result call.ensures.0 (c.if-read-number.true ∙ c.number.ensures), refl)

pub returns-then-read-ne0 : goal.returns-then-read-ne0
returns-then-read-ne0 c =
    let call = c.read_stream-read in
    (listing_many c.args.stream.now c.if-stream-gt-MAX_STREAM.false _ refl call.result call.ensures.0 (λ q. c.if-read-number.false (q ∙ sym c.number.ensures)) c.if-read-ne0.true, refl)

-- past all refusals, the text of the stream stands in front of the ranks
text_read : (stream z : List ℕ) (r : Answer) (y : List ℕ) → ((i : ℕ) → get_or stream i 0 < 256) → length stream ≤ max_stream → length z ≡ max_stream_words
    → r ≡ read_stream_answer 128 stream z → y ≡ read_stream_exit 128 stream z → r.refusal ≡ 0
    → (take r.value y ≡ stream_text 128 stream) × (r.value ≡ length (stream_text 128 stream)) × (length (stream_text 128 stream) ≤ max_stream_words)
text_read stream z r y bytes fits long answered left accepted =
    let below : Below 256 stream = all_of_at (λ (x : ℕ). x < 256) stream 0 (λ i h. bytes i) in
    let words = words_read stream fits z long r answered below accepted in
    (text_read_lem stream fits z long r answered below accepted y left, words.0, words.1)

pub slice_bounds-text-end : goal.slice_bounds-text-end
slice_bounds-text-end c =
    let call = c.read_stream-read in
    let read = text_read c.args.stream.now _ call.result call.new.text (λ i. omega (arith, c.type_inv.stream i)) c.if-stream-gt-MAX_STREAM.false refl call.ensures.0 call.ensures.1 c.if-read-ne0.false in
    omega (arith, length-take call.result.value call.new.text, ap length read.0, read.1)

pub slice_bounds-list_text-end : goal.slice_bounds-list_text-end
slice_bounds-list_text-end c =
    let call = c.read_stream-read in
    let read = text_read c.args.stream.now _ call.result call.new.text (λ i. omega (arith, c.type_inv.stream i)) c.if-stream-gt-MAX_STREAM.false refl call.ensures.0 call.ensures.1 c.if-read-ne0.false in
    read.1 ∙ sym (ap length read.0)

pub list_text-requires : goal.list_text-requires
list_text-requires c =
    let call = c.read_stream-read in
    let read = text_read c.args.stream.now _ call.result call.new.text (λ i. omega (arith, c.type_inv.stream i)) c.if-stream-gt-MAX_STREAM.false refl call.ensures.0 call.ensures.1 c.if-read-ne0.false in
    (omega (arith, read.2, ap length read.0), c.requires)

pub returns : goal.returns
returns c =
    let call = c.read_stream-read in
    let read = text_read c.args.stream.now _ call.result call.new.text (λ i. omega (arith, c.type_inv.stream i)) c.if-stream-gt-MAX_STREAM.false refl call.ensures.0 call.ensures.1 c.if-read-ne0.false in
    rw (listing_read c.args.stream.now c.if-stream-gt-MAX_STREAM.false _ refl call.result call.ensures.0 c.if-read-ne0.false) (rw read.0 at c.list_text.ensures)
