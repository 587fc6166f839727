-- The call that writes the listing of a stream into a lent slice.
use Rattle.std.specs.Prelude.{ℕ, suc, ◌≤◌, ◌≡◌, List, [], ◌∷◌, ltb, length, take}
use Rattle.base.specs.declared.Answer.{Answer}
use Rattle.base.specs.Lists.{Below}
use Rattle.base.specs.Refusals.{refusal_short_slice}
use Rattle.base.specs.Answers.{accepted, refused, ◌⇒◌, first_of, filled}
use Rattle.node_listing.specs.Listing.{max_stream, listing}

-- the most bytes of a listing: 32 in the line of the numbers, 1,180 in 129 lines without their bytes, and 3 for each of 8,192 bytes
abbrev pub max_listing : ℕ
max_listing = 25788

-- Statement: the listing of bytes is never longer, so a slice of that length is never too short.
abbrev pub ListingFits : Type 0
ListingFits = (stream : List ℕ) → Below 256 stream → length (listing stream) ≤ max_listing

-- Statement: the listing of a stream is that of its first 8,193 bytes, so a program that reads no more prints the same.
abbrev pub ListingOfFront : Type 0
ListingOfFront = (stream : List ℕ) → listing (take (suc max_stream) stream) ≡ listing stream

-- writing the listing of a stream into a slice that holds z: refusal 5 if the slice is shorter than the listing, else its length
unfoldable pub listing_answer : List ℕ → List ℕ → Answer
listing_answer stream z =
    first_of ((ltb (length z) (length (listing stream)) ⇒ refused refusal_short_slice) ∷ []) (accepted (length (listing stream)))

-- what the slice holds then: the listing in front, the rest as it was
unfoldable pub listing_exit : List ℕ → List ℕ → List ℕ
listing_exit stream z = filled (listing_answer stream z) (listing stream) z
