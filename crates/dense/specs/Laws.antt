-- Statements: the code and its streams give each other back, at every number of closing values.
use Rattle.std.specs.Prelude.{ℕ, ◌≤◌, ◌<◌, ◌≡◌, false, cond, List, map, ltb, length, take}
use Rattle.base.specs.Lists.{Below, total}
use Rattle.base.specs.Answers.{accepted}
use Rattle.dense.specs.Code.{Closing, max_vocabulary, first_of_two, first_of_three, code, rank_of, Word}
use Rattle.dense.specs.Streams.{stream, stream_text, is_broken, closings, write_stream_answer, write_stream_exit, read_stream_answer, read_stream_exit}

-- how many bytes the codeword of a rank has
abbrev pub code_length : ℕ → ℕ → ℕ
code_length s i = cond (ltb i (first_of_two s)) 1 (cond (ltb i (first_of_three s)) 2 3)

pub record CodeExact (s : ℕ) : Type 0 where
  -- every codeword is continuing bytes and one closing byte, one, two or three in all
  pub formed : (i : ℕ) → i < max_vocabulary s → Word s (code s i)
  pub sized : (i : ℕ) → length (code s i) ≡ code_length s i
  -- decoding inverts coding, and coding inverts decoding
  pub read : (i : ℕ) → i < max_vocabulary s → rank_of s (code s i) ≡ i
  pub written : (w : List ℕ) → Word s w → length w ≤ 3 → (rank_of s w < max_vocabulary s) × (code s (rank_of s w) ≡ w)

-- what an accepted call has written
unfoldable pub stream_written : ℕ → ℕ → List ℕ → List ℕ → List ℕ
stream_written s vocab t z = take (write_stream_answer s vocab t z).value (write_stream_exit s vocab t z)

-- and what one has read
unfoldable pub text_read : ℕ → List ℕ → List ℕ → List ℕ
text_read s bytes y = take (read_stream_answer s bytes y).value (read_stream_exit s bytes y)

pub record StreamsExact (s : ℕ) : Type 0 where
  -- the length of a stream is the sum of the lengths of its codewords
  pub sized : (t : List ℕ) → length (stream s t) ≡ total (map (code_length s) t)
  -- the stream of a text is not broken, has a closing byte for each word, and is read as the text
  pub written_read :
      (t : List ℕ) → Below (max_vocabulary s) t →
      (is_broken s (stream s t) ≡ false) × (closings s (stream s t) ≡ length t) × (stream_text s (stream s t) ≡ t)
  -- bytes that are no broken stream are the stream of the text that is read from them
  pub read_written :
      (bytes : List ℕ) → Below 256 bytes → is_broken s bytes ≡ false →
      Below (max_vocabulary s) (stream_text s bytes) × (stream s (stream_text s bytes) ≡ bytes)
  -- by the calls: what an accepted call has written is accepted by the call that reads, into any slice of an element for each word,
  -- whose front is then the text
  pub by_calls :
      (vocab : ℕ) (t z y : List ℕ) → (write_stream_answer s vocab t z).refusal ≡ 0 → length t ≤ length y →
      (read_stream_answer s (stream_written s vocab t z) y ≡ accepted (length t))
      × (take (length t) (read_stream_exit s (stream_written s vocab t z) y) ≡ t)
  -- by the calls, the other way: what an accepted call has read from a stream is accepted by the call that writes, for every vocabulary
  -- that holds it and into any slice as long as the stream, and gives the stream
  pub by_calls_back :
      (bytes y z : List ℕ) (vocab : ℕ) → Below 256 bytes → (read_stream_answer s bytes y).refusal ≡ 0 →
      1 ≤ vocab → vocab ≤ max_vocabulary s → Below vocab (text_read s bytes y) → length bytes ≤ length z →
      (write_stream_answer s vocab (text_read s bytes y) z ≡ accepted (length bytes))
      × (take (length bytes) (write_stream_exit s vocab (text_read s bytes y) z) ≡ bytes)

-- Statement: at every number of closing values.
pub record DenseExact : Type 0 where
  pub codes : (s : ℕ) → Closing s → CodeExact s
  pub streams : (s : ℕ) → Closing s → StreamsExact s
