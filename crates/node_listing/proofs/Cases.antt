-- Which listing a stream has, by what the call that reads it answers. Assumes nothing.
use Prim.Native.Nat.{ℕ, suc, ◌≤◌, ◌<◌}
use mathlib.Core.Path.{◌≡◌, refl, sym, ap, ap₂, ◌∙◌}
use mathlib.Core.Bool.{Bool, true, false}
use mathlib.Core.Logic.{◌⊎◌, inl, inr}
use mathlib.Core.List.{List}
use native.Mathlib.Omega.{arith}
use borrow.Author.Tests.{lt-ltb, le-ltb}
use lib.Dec.{ltb}
use lib.ListN.{length, take}
use lib.Seq.{take_all, length-take-le}
use Rattle.base.specs.declared.Answer.{Answer}
use Rattle.base.specs.Lists.{Below}
use Rattle.base.specs.Texts.{max_words}
use Rattle.base.proofs.Tests.{below_or_not, or_false, or_left, or_right}
use Rattle.dense.specs.Streams.{is_broken, stream_text, closings, read_stream_answer, read_stream_exit}
use Rattle.dense.proofs.Calls.{Readable, accepted_readable, readable_accepted, readable_read, read_words, read_short, read_broken}
use Rattle.node_lines.specs.Lines.{refusal_line}
use Rattle.node_listing.specs.Listing.{max_stream, max_stream_words, text_listing, is_long, listing}
use Rattle.node_listing.specs.Calls.{ListingOfFront}
use Rattle.node_listing.proofs.Refusals.{is_long_lem, is_broken_lem, is_whole}
use Rattle.node_listing.proofs.Lengths.{words_counted}

module _ (bytes : List ℕ) where
  -- a stream of too many bytes
  pub listing_long : max_stream < length bytes → listing bytes ≡ refusal_line 2
  listing_long h = is_long_lem bytes (or_left (ltb max_stream (length bytes)) (ltb max_stream_words (closings 128 bytes)) (lt-ltb max_stream (length bytes) h))

  -- what reading into a slice of 4,096 ranks answers, and the listing: too many words, broken, or read
  data Cases (r : Answer) : Type 0 where
    many : (r.refusal ≡ 15 → ⊥) → (r.refusal ≡ 0 → ⊥) → listing bytes ≡ refusal_line 2 → Cases r
    broken : r.refusal ≡ 15 → listing bytes ≡ refusal_line 15 → Cases r
    read : r.refusal ≡ 0 → listing bytes ≡ text_listing (stream_text 128 bytes) → Cases r

  module _ (fits : length bytes ≤ max_stream) (z : List ℕ) (long : length z ≡ max_stream_words) (r : Answer) (is : r ≡ read_stream_answer 128 bytes z) where
    cases : Cases r
    cases = words (below_or_not max_stream_words (closings 128 bytes))
      where
        refused : (n : ℕ) → (read_stream_answer 128 bytes z).refusal ≡ n → r.refusal ≡ n
        refused n e = ap (λ (a : Answer). a.refusal) is ∙ e

        words : (max_stream_words < closings 128 bytes) ⊎ (closings 128 bytes ≤ max_stream_words) → Cases r
        words (inl h) = most (below_or_not max_words (closings 128 bytes))
          where
            line : listing bytes ≡ refusal_line 2
            line = is_long_lem bytes (or_right (ltb max_stream (length bytes)) (ltb max_stream_words (closings 128 bytes)) (lt-ltb max_stream_words (closings 128 bytes) h))

            most : (max_words < closings 128 bytes) ⊎ (closings 128 bytes ≤ max_words) → Cases r
            most (inl l) =
                let e : r.refusal ≡ 2 = refused 2 (ap (λ (a : Answer). a.refusal) (read_words 128 bytes z l)) in
                many (λ q. omega arith) (λ q. omega arith) line
            most (inr l) =
                let e : r.refusal ≡ 5 = refused 5 (ap (λ (a : Answer). a.refusal) (read_short 128 bytes z l (omega arith))) in
                many (λ q. omega arith) (λ q. omega arith) line
        words (inr h) = whole (is_broken 128 bytes) refl
          where
            short : is_long bytes ≡ false
            short = or_false (ltb max_stream (length bytes)) (ltb max_stream_words (closings 128 bytes)) (le-ltb max_stream (length bytes) fits) (le-ltb max_stream_words (closings 128 bytes) h)

            whole : (b : Bool) → is_broken 128 bytes ≡ b → Cases r
            whole true e = broken (refused 15 (ap (λ (a : Answer). a.refusal) (read_broken 128 bytes z (omega arith) (omega arith) e))) (is_broken_lem bytes short e)
            whole false e = read (refused 0 (ap (λ (a : Answer). a.refusal) (readable_accepted 128 bytes z record { short = omega arith; room = omega arith; whole = e }))) (is_whole bytes short e)

    -- so the refusal that is answered says which listing it is
    pub listing_broken : r.refusal ≡ 15 → listing bytes ≡ refusal_line 15
    listing_broken e = go cases
      where
        go : Cases r → listing bytes ≡ refusal_line 15
        go (many n m l) = absurd (n e)
        go (broken q l) = l
        go (read q l) = absurd (omega arith)

    pub listing_many : (r.refusal ≡ 15 → ⊥) → (r.refusal ≡ 0 → ⊥) → listing bytes ≡ refusal_line 2
    listing_many n m = go cases
      where
        go : Cases r → listing bytes ≡ refusal_line 2
        go (many n' m' l) = l
        go (broken q l) = absurd (n q)
        go (read q l) = absurd (m q)

    pub listing_read : r.refusal ≡ 0 → listing bytes ≡ text_listing (stream_text 128 bytes)
    listing_read e = go cases
      where
        go : Cases r → listing bytes ≡ text_listing (stream_text 128 bytes)
        go (many n m l) = absurd (m e)
        go (broken q l) = absurd (omega arith)
        go (read q l) = l

    -- and the text stands in front of the slice, as many words as are answered
    module _ (below : Below 256 bytes) (accepted : r.refusal ≡ 0) where
      readable : Readable 128 bytes z
      readable = accepted_readable 128 bytes z (ap (λ (a : Answer). a.refusal) (sym is) ∙ accepted)

      pub words_read : (r.value ≡ length (stream_text 128 bytes)) × (length (stream_text 128 bytes) ≤ max_stream_words)
      words_read =
          let n : r.value ≡ closings 128 bytes = ap (λ (a : Answer). a.value) (is ∙ readable_accepted 128 bytes z readable) in
          let m : length (stream_text 128 bytes) ≡ closings 128 bytes = words_counted bytes below readable.whole in
          (n ∙ sym m, omega (arith, readable.room))

      pub text_read_lem : (y : List ℕ) → y ≡ read_stream_exit 128 bytes z → take r.value y ≡ stream_text 128 bytes
      text_read_lem y e = ap₂ take words_read.0 e ∙ readable_read 128 bytes z readable

-- a stream of more than 8,193 bytes and its first 8,193 are both too long
pub listing_of_front : ListingOfFront
listing_of_front stream = go (below_or_not (suc max_stream) (length stream))
  where
    go : (suc max_stream < length stream) ⊎ (length stream ≤ suc max_stream) → listing (take (suc max_stream) stream) ≡ listing stream
    go (inl h) =
        listing_long (take (suc max_stream) stream) (omega (arith, length-take-le (suc max_stream) stream (omega arith)))
        ∙ sym (listing_long stream (omega arith))
    go (inr h) = ap listing (take_all (suc max_stream) stream h)
