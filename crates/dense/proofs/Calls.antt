-- Which calls that write and read streams are accepted, and what those then have written. Assumes nothing.
use Prim.Native.Nat.{ℕ, ◌≤◌, ◌<◌}
use mathlib.Core.Path.{◌≡◌, refl, ap, ◌∙◌}
use mathlib.Core.Bool.{true, false, cond, not, ◌||◌}
use mathlib.Core.List.{List, [], ◌∷◌}
use borrow.Author.Tests.{eq-eqb, lt-ltb, le-ltb, ltb-false, not-false}
use lib.Dec.{ltb, leb}
use lib.ListN.{length, take, drop}
use lib.Seq.{take-append_seam}
use Rattle.base.specs.Lists.{Below, first_where}
use Rattle.base.specs.Refusals.{refusal_vocabulary, refusal_words, refusal_text_rank, refusal_short_slice, refusal_stream}
use Rattle.base.specs.Answers.{accepted, refused, refused_at, is_accepted, ◌⇒◌, NoneHolds, first_of, filled, front}
use Rattle.base.specs.Texts.{max_words, outside, ranks_below, words_case, rank_case}
use Rattle.base.proofs.Tests.{inside_range, range_inside}
use Rattle.base.proofs.Answers.{first_here, first_later, none_holds, answers, filled_front}
use Rattle.base.proofs.Texts.{below_of_test, test_of_below, rank_outside, no_rank_outside}
use Rattle.std.proofs.lemmas.Bool.Decides.{nat_tests}
use Rattle.dense.specs.Code.{max_vocabulary, vocabulary_case}
use Rattle.dense.specs.Streams.{stream, is_broken, stream_text, closings, write_stream_answer, write_stream_exit, read_stream_answer, read_stream_exit}

-- what the call that writes a stream asks of the vocabulary, the text and the slice
pub record Writable (s vocab : ℕ) (t z : List ℕ) : Type 0 where
  pub some_word : 1 ≤ vocab
  pub most_words : vocab ≤ max_vocabulary s
  pub short : length t ≤ max_words
  pub ranks : Below vocab t
  pub room : length (stream s t) ≤ length z

-- the call is accepted exactly if it has that
pub writable_accepted : (s vocab : ℕ) (t z : List ℕ) → Writable s vocab t z → write_stream_answer s vocab t z ≡ accepted (length (stream s t))
unfolding write_stream_answer vocabulary_case words_case rank_case
writable_accepted s vocab t z w =
    answers
    (vocabulary_case s vocab ∷ words_case (length t) ∷ rank_case vocab t ∷ (ltb (length z) (length (stream s t)) ⇒ refused refusal_short_slice) ∷ [])
    (accepted (length (stream s t)))
    (inside_range 1 (max_vocabulary s) vocab w.some_word w.most_words, (le-ltb max_words (length t) w.short, (ap not (test_of_below vocab t w.ranks), (le-ltb (length z) (length (stream s t)) w.room, tt))))

pub accepted_writable : (s vocab : ℕ) (t z : List ℕ) → (write_stream_answer s vocab t z).refusal ≡ 0 → Writable s vocab t z
unfolding write_stream_answer vocabulary_case words_case rank_case
accepted_writable s vocab t z e =
    let n : NoneHolds (vocabulary_case s vocab ∷ words_case (length t) ∷ rank_case vocab t ∷ (ltb (length z) (length (stream s t)) ⇒ refused refusal_short_slice) ∷ []) =
    none_holds
    (vocabulary_case s vocab ∷ words_case (length t) ∷ rank_case vocab t ∷ (ltb (length z) (length (stream s t)) ⇒ refused refusal_short_slice) ∷ [])
    (accepted (length (stream s t)))
    (refl, (refl, (refl, (refl, tt))))
    (eq-eqb (write_stream_answer s vocab t z).refusal 0 e) in
    record {
      some_word = (range_inside 1 (max_vocabulary s) vocab n.0).0;
      most_words = (range_inside 1 (max_vocabulary s) vocab n.0).1;
      short = ltb-false max_words (length t) n.1.0;
      ranks = below_of_test vocab t (not-false (ranks_below vocab t) n.1.1.0);
      room = ltb-false (length z) (length (stream s t)) n.1.1.1.0;
    }

-- and has then written the stream to the front
pub writable_written : (s vocab : ℕ) (t z : List ℕ) → Writable s vocab t z → take (length (stream s t)) (write_stream_exit s vocab t z) ≡ stream s t
unfolding write_stream_exit
writable_written s vocab t z w =
    ap (take (length (stream s t)))
    (filled_front (write_stream_answer s vocab t z) (stream s t) z (ap is_accepted (writable_accepted s vocab t z w)))
    ∙ take-append_seam (stream s t) (drop (length (stream s t)) z)

-- the answer of the call that writes, case by case, and what it leaves
pub write_answer_is : (s vocab : ℕ) (t z : List ℕ) →
    write_stream_answer s vocab t z
    ≡ cond (ltb vocab 1 || ltb (max_vocabulary s) vocab) (refused refusal_vocabulary)
    (cond (ltb max_words (length t)) (refused refusal_words)
    (cond (not (ranks_below vocab t)) (refused_at refusal_text_rank (first_where (λ (w : ℕ). leb vocab w) t))
    (cond (ltb (length z) (length (stream s t))) (refused refusal_short_slice) (accepted (length (stream s t))))))
unfolding write_stream_answer vocabulary_case words_case rank_case outside first_of
write_answer_is s vocab t z = refl

pub write_exit_is : (s vocab : ℕ) (t z : List ℕ) → write_stream_exit s vocab t z ≡ cond (is_accepted (write_stream_answer s vocab t z)) (front (stream s t) z) z
unfolding write_stream_exit filled
write_exit_is s vocab t z = refl

-- what the call that writes is proved with
pub ruleset write_cases = (write_answer_is, write_exit_is, rank_outside, no_rank_outside, nat_tests)

-- the same of the call that reads
pub read_answer_is : (s : ℕ) (bytes z : List ℕ) →
    read_stream_answer s bytes z
    ≡ cond (ltb max_words (closings s bytes)) (refused refusal_words)
    (cond (ltb (length z) (closings s bytes)) (refused refusal_short_slice) (cond (is_broken s bytes) (refused refusal_stream) (accepted (closings s bytes))))
unfolding read_stream_answer words_case first_of
read_answer_is s bytes z = refl

pub read_exit_is : (s : ℕ) (bytes z : List ℕ) → read_stream_exit s bytes z ≡ cond (is_accepted (read_stream_answer s bytes z)) (front (stream_text s bytes) z) z
unfolding read_stream_exit filled
read_exit_is s bytes z = refl

-- what the call that reads is proved with
pub ruleset read_cases = (read_answer_is, read_exit_is, nat_tests)

-- the refusals of the call that reads, in their order
module _ (s : ℕ) (bytes z : List ℕ) where
  pub read_words : max_words < closings s bytes → read_stream_answer s bytes z ≡ refused refusal_words
  unfolding read_stream_answer words_case
  read_words h = first_here _ _ _ _ (lt-ltb max_words (closings s bytes) h)

  module _ (words : closings s bytes ≤ max_words) where
    pub read_short : length z < closings s bytes → read_stream_answer s bytes z ≡ refused refusal_short_slice
    unfolding read_stream_answer words_case
    read_short h = first_later _ _ _ _ (le-ltb max_words (closings s bytes) words) ∙ first_here _ _ _ _ (lt-ltb (length z) (closings s bytes) h)

    pub read_broken : closings s bytes ≤ length z → is_broken s bytes ≡ true → read_stream_answer s bytes z ≡ refused refusal_stream
    unfolding read_stream_answer words_case
    read_broken h e =
        first_later _ _ _ _ (le-ltb max_words (closings s bytes) words) ∙ first_later _ _ _ _ (le-ltb (length z) (closings s bytes) h) ∙ first_here _ _ _ _ e

-- what the call that reads a stream asks of the bytes and the slice
pub record Readable (s : ℕ) (bytes z : List ℕ) : Type 0 where
  pub short : closings s bytes ≤ max_words
  pub room : closings s bytes ≤ length z
  pub whole : is_broken s bytes ≡ false

-- the call is accepted exactly if it has that
pub readable_accepted : (s : ℕ) (bytes z : List ℕ) → Readable s bytes z → read_stream_answer s bytes z ≡ accepted (closings s bytes)
unfolding read_stream_answer words_case
readable_accepted s bytes z r =
    answers
    (words_case (closings s bytes) ∷ (ltb (length z) (closings s bytes) ⇒ refused refusal_short_slice) ∷ (is_broken s bytes ⇒ refused refusal_stream) ∷ [])
    (accepted (closings s bytes))
    (le-ltb max_words (closings s bytes) r.short, (le-ltb (length z) (closings s bytes) r.room, (r.whole, tt)))

pub accepted_readable : (s : ℕ) (bytes z : List ℕ) → (read_stream_answer s bytes z).refusal ≡ 0 → Readable s bytes z
unfolding read_stream_answer words_case
accepted_readable s bytes z e =
    let n : NoneHolds (words_case (closings s bytes) ∷ (ltb (length z) (closings s bytes) ⇒ refused refusal_short_slice) ∷ (is_broken s bytes ⇒ refused refusal_stream) ∷ []) =
    none_holds
    (words_case (closings s bytes) ∷ (ltb (length z) (closings s bytes) ⇒ refused refusal_short_slice) ∷ (is_broken s bytes ⇒ refused refusal_stream) ∷ [])
    (accepted (closings s bytes))
    (refl, (refl, (refl, tt)))
    (eq-eqb (read_stream_answer s bytes z).refusal 0 e) in
    record { short = ltb-false max_words (closings s bytes) n.0; room = ltb-false (length z) (closings s bytes) n.1.0; whole = n.1.1.0 }

-- and has then written the text to the front
pub readable_read : (s : ℕ) (bytes z : List ℕ) → Readable s bytes z → take (length (stream_text s bytes)) (read_stream_exit s bytes z) ≡ stream_text s bytes
unfolding read_stream_exit
readable_read s bytes z r =
    ap (take (length (stream_text s bytes)))
    (filled_front (read_stream_answer s bytes z) (stream_text s bytes) z (ap is_accepted (readable_accepted s bytes z r)))
    ∙ take-append_seam (stream_text s bytes) (drop (length (stream_text s bytes)) z)
