-- The code and its streams give each other back, at every number of closing values. Assumes nothing.
use Prim.Native.Nat.{ℕ, ◌≤◌}
use mathlib.Core.Path.{◌≡◌, sym, ap, ◌∙◌}
use mathlib.Core.List.{List}
use native.Mathlib.Omega.{arith}
use lib.ListN.{length, take}
use Rattle.base.specs.declared.Answer.{Answer}
use Rattle.base.specs.Lists.{Below}
use Rattle.base.specs.Answers.{accepted}
use Rattle.base.proofs.Lists.{below_weaken}
use Rattle.dense.specs.Code.{Closing, max_vocabulary}
use Rattle.dense.specs.Streams.{stream, stream_text, closings, write_stream_answer, write_stream_exit, read_stream_answer, read_stream_exit}
use Rattle.dense.specs.Laws.{stream_written, text_read, DenseExact}
use Rattle.dense.proofs.Codewords.{code_word, code_length_lem, rank_of_code, code_of_rank}
use Rattle.dense.proofs.Streams.{stream_length_lem, stream_not_broken, stream_closings, text_of_stream, stream_text_below, stream_of_text, closings_whole, length_stream_text}
use Rattle.dense.proofs.Calls.{Writable, writable_accepted, accepted_writable, writable_written, Readable, readable_accepted, accepted_readable, readable_read}

module _ (s : ℕ) (within : Closing s) where
  -- what an accepted call has written is the stream
  pub written_is_stream : (vocab : ℕ) (t z : List ℕ) → Writable s vocab t z → stream_written s vocab t z ≡ stream s t
  unfolding stream_written
  written_is_stream vocab t z w =
      ap (λ (a : Answer). take a.value (write_stream_exit s vocab t z)) (writable_accepted s vocab t z w) ∙ writable_written s vocab t z w

  -- a stream that was written is accepted by the call that reads
  written_readable : (vocab : ℕ) (t z y : List ℕ) → Writable s vocab t z → length t ≤ length y → Readable s (stream s t) y
  written_readable vocab t z y w room =
      let b : Below (max_vocabulary s) t = below_weaken vocab (max_vocabulary s) t w.most_words w.ranks in
      record {
        short = rw (stream_closings s within t b) w.short;
        room = rw (stream_closings s within t b) room;
        whole = stream_not_broken s within t b;
      }

  pub by_calls_lem : (vocab : ℕ) (t z y : List ℕ) → (write_stream_answer s vocab t z).refusal ≡ 0 → length t ≤ length y
      → (read_stream_answer s (stream_written s vocab t z) y ≡ accepted (length t)) × (take (length t) (read_stream_exit s (stream_written s vocab t z) y) ≡ t)
  by_calls_lem vocab t z y e room =
      let w : Writable s vocab t z = accepted_writable s vocab t z e in
      let b : Below (max_vocabulary s) t = below_weaken vocab (max_vocabulary s) t w.most_words w.ranks in
      let r : Readable s (stream s t) y = written_readable vocab t z y w room in
      rw (written_is_stream vocab t z w) (
        readable_accepted s (stream s t) y r ∙ ap accepted (stream_closings s within t b),
        ap (λ (x : List ℕ). take (length x) (read_stream_exit s (stream s t) y)) (sym (text_of_stream s within t b))
            ∙ readable_read s (stream s t) y r ∙ text_of_stream s within t b,
      )

  -- what an accepted call has read is the text of the stream
  read_is_text : (bytes y : List ℕ) → Below 256 bytes → Readable s bytes y → text_read s bytes y ≡ stream_text s bytes
  unfolding text_read
  read_is_text bytes y b r =
      let words : closings s bytes ≡ length (stream_text s bytes) = omega (arith, closings_whole s bytes b r.whole, length_stream_text s bytes) in
      ap (λ (a : Answer). take a.value (read_stream_exit s bytes y)) (readable_accepted s bytes y r ∙ ap accepted words) ∙ readable_read s bytes y r

  -- a text that was read is accepted by the call that writes
  read_writable : (bytes y z : List ℕ) (vocab : ℕ) → Below 256 bytes → Readable s bytes y → 1 ≤ vocab → vocab ≤ max_vocabulary s
      → Below vocab (stream_text s bytes) → length bytes ≤ length z
      → (write_stream_answer s vocab (stream_text s bytes) z ≡ accepted (length bytes)) × (take (length bytes) (write_stream_exit s vocab (stream_text s bytes) z) ≡ bytes)
  read_writable bytes y z vocab b r one most ranks room =
      let q : stream s (stream_text s bytes) ≡ bytes = stream_of_text s within bytes b r.whole in
      let w : Writable s vocab (stream_text s bytes) z = record {
        some_word = one;
        most_words = most;
        short = omega (arith, r.short, closings_whole s bytes b r.whole, length_stream_text s bytes);
        ranks = ranks;
        room = rw q room;
      } in (
        writable_accepted s vocab (stream_text s bytes) z w ∙ ap (λ (x : List ℕ). accepted (length x)) q,
        ap (λ (x : List ℕ). take (length x) (write_stream_exit s vocab (stream_text s bytes) z)) (sym q)
            ∙ writable_written s vocab (stream_text s bytes) z w ∙ q,
      )

  pub by_calls_back_lem : (bytes y z : List ℕ) (vocab : ℕ) → Below 256 bytes → (read_stream_answer s bytes y).refusal ≡ 0
      → 1 ≤ vocab → vocab ≤ max_vocabulary s → Below vocab (text_read s bytes y) → length bytes ≤ length z
      → (write_stream_answer s vocab (text_read s bytes y) z ≡ accepted (length bytes)) × (take (length bytes) (write_stream_exit s vocab (text_read s bytes y) z) ≡ bytes)
  by_calls_back_lem bytes y z vocab b e one most ranks room =
      let r : Readable s bytes y = accepted_readable s bytes y e in
      let is : text_read s bytes y ≡ stream_text s bytes = read_is_text bytes y b r in
      rw is (read_writable bytes y z vocab b r one most (rw is at ranks) room)

pub dense_exact : DenseExact
dense_exact = record {
  codes = λ s within. record { formed = code_word s within; sized = code_length_lem s; read = rank_of_code s within; written = code_of_rank s within };
  streams = λ s within. record {
    sized = stream_length_lem s;
    written_read = λ t b. (stream_not_broken s within t b, stream_closings s within t b, text_of_stream s within t b);
    read_written = λ bytes b e. (stream_text_below s within bytes b e, stream_of_text s within bytes b e);
    by_calls = by_calls_lem s within;
    by_calls_back = by_calls_back_lem s within;
  };
}
