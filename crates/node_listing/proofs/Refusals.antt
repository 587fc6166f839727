-- Which listing a text and a stream have, by each of the tests in their order. Assumes nothing.
use Prim.Native.Nat.{ℕ, ◌≤◌, ◌<◌}
use mathlib.Core.Path.{◌≡◌}
use mathlib.Core.Bool.{true, false}
use mathlib.Core.List.{List}
use Rattle.base.proofs.Tests.{cond_below, cond_not_below}
use Rattle.dense.specs.Streams.{is_broken, stream_text}
use Rattle.node_lines.specs.Lines.{refusal_line}
use Rattle.node_listing.specs.Listing.{vocabulary_of, index_listing, max_stream_vocabulary, text_listing, is_long, listing}

-- by the size of the vocabulary
pub text_refused : (t : List ℕ) → max_stream_vocabulary < vocabulary_of t → text_listing t ≡ refusal_line 1
unfolding text_listing
text_refused t h = cond_below _ _ _ _ h

pub text_listed : (t : List ℕ) → vocabulary_of t ≤ max_stream_vocabulary → text_listing t ≡ index_listing t
unfolding text_listing
text_listed t h = cond_not_below _ _ _ _ h

-- by the tests of a stream
module _ (bytes : List ℕ) where
  pub is_long_lem : is_long bytes ≡ true → listing bytes ≡ refusal_line 2
  unfolding listing
  is_long_lem e = rw e

  pub is_broken_lem : is_long bytes ≡ false → is_broken 128 bytes ≡ true → listing bytes ≡ refusal_line 15
  unfolding listing
  is_broken_lem e b = rw (e, b)

  pub is_whole : is_long bytes ≡ false → is_broken 128 bytes ≡ false → listing bytes ≡ text_listing (stream_text 128 bytes)
  unfolding listing
  is_whole e b = rw (e, b)
