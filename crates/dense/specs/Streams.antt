-- Streams: codewords one after another; the answers of the calls that write and read them, and what these leave in the lent slice.
use Rattle.std.specs.Prelude.{ℕ, Bool, false, not, ltb, length}
use mathlib.Core.List.{List, [], ◌∷◌, map, flatten}
use Rattle.base.specs.declared.Answer.{Answer}
use Rattle.base.specs.Lists.{all_pass, filter_by, cut_after}
use Rattle.base.specs.Refusals.{refusal_short_slice, refusal_stream}
use Rattle.base.specs.Answers.{accepted, refused, ◌⇒◌, first_of, filled}
use Rattle.base.specs.Texts.{words_case, rank_case}
use Rattle.dense.specs.Code.{closes, vocabulary_case, code, rank_of}

-- the stream of a text: its codewords one after another
unfoldable pub stream : ℕ → List ℕ → List ℕ
stream s t = flatten (map (code s) t)

-- the codewords of a stream, each up to its closing byte; the last has none if the stream ends inside it
unfoldable pub codewords : ℕ → List ℕ → List (List ℕ)
codewords s bytes = cut_after (closes s) bytes

-- whether one of them is whole: at most three bytes, and the last closes it
abbrev pub is_whole : ℕ → List ℕ → Bool
is_whole s [] = false
is_whole s (b ∷ []) = closes s b
is_whole s (a ∷ b ∷ []) = closes s b
is_whole s (a ∷ b ∷ e ∷ []) = closes s e
is_whole s (a ∷ b ∷ e ∷ f ∷ rest) = false

-- whether a stream has a codeword of over three bytes, or ends inside one
unfoldable pub is_broken : ℕ → List ℕ → Bool
is_broken s bytes = not (all_pass (is_whole s) (codewords s bytes))

-- the text of a stream
unfoldable pub stream_text : ℕ → List ℕ → List ℕ
stream_text s bytes = map (rank_of s) (codewords s bytes)

-- how many bytes of a stream close a word, broken or not
unfoldable pub closings : ℕ → List ℕ → ℕ
closings s bytes = length (filter_by (closes s) bytes)

-- writing the text t as a stream into a slice that holds z
unfoldable pub write_stream_answer : ℕ → ℕ → List ℕ → List ℕ → Answer
write_stream_answer s vocab t z =
    first_of
    (vocabulary_case s vocab
    ∷ words_case (length t)
    ∷ rank_case vocab t
    ∷ (ltb (length z) (length (stream s t)) ⇒ refused refusal_short_slice)
    ∷ [])
    (accepted (length (stream s t)))

-- what the slice holds then: the stream in front, the rest as it was
unfoldable pub write_stream_exit : ℕ → ℕ → List ℕ → List ℕ → List ℕ
write_stream_exit s vocab t z = filled (write_stream_answer s vocab t z) (stream s t) z

-- reading a stream into a slice that holds z
unfoldable pub read_stream_answer : ℕ → List ℕ → List ℕ → Answer
read_stream_answer s bytes z =
    first_of
    (words_case (closings s bytes)
    ∷ (ltb (length z) (closings s bytes) ⇒ refused refusal_short_slice)
    ∷ (is_broken s bytes ⇒ refused refusal_stream)
    ∷ [])
    (accepted (closings s bytes))

-- what the slice holds then: the text in front, the rest as it was
unfoldable pub read_stream_exit : ℕ → List ℕ → List ℕ → List ℕ
read_stream_exit s bytes z = filled (read_stream_answer s bytes z) (stream_text s bytes) z
