-- Which calls that read a plain text are accepted, and the refusals in their order. Assumes nothing.
use Prim.Native.Nat.{ℕ, ◌≤◌}
use mathlib.Core.Path.{◌≡◌, refl, sym, ap, ◌∙◌}
use mathlib.Core.Bool.{Bool, true, false, not, ◌&&◌}
use mathlib.Core.List.{List, [], ◌∷◌}
use borrow.Author.Tests.{le-ltb, ltb-false, eq-eqb, not-false}
use lib.Dec.{ltb}
use lib.ListN.{length, length-map}
use Rattle.base.proofs.Answers.{first_here, first_later, none_holds, answers, filled_not, filled_front}
use Rattle.base.proofs.Tests.{inside_range, range_inside}
use Rattle.base.specs.Answers.{accepted, refused, refused_at, is_accepted, Case, NoneHolds, front, ◌⇒◌}
use Rattle.base.specs.Lists.{all_pass}
use Rattle.base.specs.Refusals.{refusal_short_slice, refusal_word_list, refusal_unlisted}
use Rattle.base.specs.Texts.{max_words, outside, words_case}
use Rattle.base.specs.declared.Answer.{Answer}
use Rattle.dense.specs.Code.{vocabulary_case, max_vocabulary}
use Rattle.lexicon.specs.Laws.{Accepts}
use Rattle.lexicon.specs.Lexicon.{list_size, list_words, distinct, is_written, is_list}
use Rattle.lexicon.specs.Reading.{TextWord, text_words, spellings, text_ranks, is_listed, first_unlisted, read_text_answer, read_text_exit}

-- a text has as many spellings as words
pub spellings_long : (table text : List ℕ) → length (spellings table text) ≡ length (text_words table text)
unfolding spellings
spellings_long table text = length-map (text_words table text) (λ (w : TextWord). w.spelling)

-- the tests of the call, in their order
abbrev pub read_text_cases : List ℕ → List ℕ → List ℕ → List ℕ → List Case
read_text_cases table list text z =
    vocabulary_case 128 (list_size list)
    ∷ words_case (length (text_words table text))
    ∷ (ltb (length z) (length (text_words table text)) ⇒ refused refusal_short_slice)
    ∷ (not (is_list table list) ⇒ refused refusal_word_list)
    ∷ (not (all_pass (is_listed list) (text_words table text)) ⇒ refused_at refusal_unlisted (first_unlisted table list text))
    ∷ []

-- the call is accepted exactly if it has that
pub accepts_accepted : (table list text z : List ℕ) → Accepts table list text z → read_text_answer table list text z ≡ accepted (length (text_words table text))
unfolding read_text_answer vocabulary_case words_case
accepts_accepted table list text z a =
    answers (read_text_cases table list text z) (accepted (length (text_words table text)))
    (inside_range 1 (max_vocabulary 128) (list_size list) a.some_word a.most_words, (le-ltb max_words (length (text_words table text)) a.short, (le-ltb (length z) (length (text_words table text)) a.room, (ap not a.rules, (ap not a.listed, tt)))))

pub accepted_accepts : (table list text z : List ℕ) → (read_text_answer table list text z).refusal ≡ 0 → Accepts table list text z
unfolding read_text_answer vocabulary_case words_case
accepted_accepts table list text z e =
    let n : NoneHolds (read_text_cases table list text z) =
    none_holds (read_text_cases table list text z) (accepted (length (text_words table text))) (refl, (refl, (refl, (refl, (refl, tt)))))
    (eq-eqb (read_text_answer table list text z).refusal 0 e) in
    record {
      some_word = (range_inside 1 (max_vocabulary 128) (list_size list) n.0).0;
      most_words = (range_inside 1 (max_vocabulary 128) (list_size list) n.0).1;
      short = ltb-false max_words (length (text_words table text)) n.1.0;
      room = ltb-false (length z) (length (text_words table text)) n.1.1.0;
      rules = not-false (is_list table list) n.1.1.1.0;
      listed = not-false (all_pass (is_listed list) (text_words table text)) n.1.1.1.1.0;
    }

-- the refusals behind those of the sizes
module _ (table list text z : List ℕ) where
  module _ (vocabulary : outside 1 (max_vocabulary 128) (list_size list) ≡ false) (words : length (text_words table text) ≤ max_words)
      (room : length (text_words table text) ≤ length z) where
    pub read_text_list : is_list table list ≡ false → read_text_answer table list text z ≡ refused refusal_word_list
    unfolding read_text_answer vocabulary_case words_case
    read_text_list e =
        first_later _ _ _ _ vocabulary ∙ first_later _ _ _ _ (le-ltb max_words (length (text_words table text)) words)
        ∙ first_later _ _ _ _ (le-ltb (length z) (length (text_words table text)) room) ∙ first_here _ _ _ _ (ap not e)

    pub read_text_unlisted : is_list table list ≡ true → all_pass (is_listed list) (text_words table text) ≡ false
        → read_text_answer table list text z ≡ refused_at refusal_unlisted (first_unlisted table list text)
    unfolding read_text_answer vocabulary_case words_case
    read_text_unlisted l e =
        first_later _ _ _ _ vocabulary ∙ first_later _ _ _ _ (le-ltb max_words (length (text_words table text)) words)
        ∙ first_later _ _ _ _ (le-ltb (length z) (length (text_words table text)) room) ∙ first_later _ _ _ _ (ap not l) ∙ first_here _ _ _ _ (ap not e)

  -- a refused call returns the answer and leaves the slice
  pub read_text_refused : (a : Answer) → is_accepted a ≡ false → read_text_answer table list text z ≡ a
      → (r : Answer) → r ≡ a → (r ≡ read_text_answer table list text z) × (z ≡ read_text_exit table list text z)
  unfolding read_text_exit
  read_text_refused a n e r q = (q ∙ sym e, sym (filled_not (read_text_answer table list text z) (text_ranks table list text) z (ap is_accepted e ∙ n)))

  -- an accepted call returns the number of words and has their ranks in front
  pub read_text_accepted : Accepts table list text z → (r : Answer) (ranks : List ℕ) → r ≡ accepted (length (text_words table text)) → ranks ≡ front (text_ranks table list text) z
      → (r ≡ read_text_answer table list text z) × (ranks ≡ read_text_exit table list text z)
  unfolding read_text_exit front
  read_text_accepted a r ranks q e = (
    q ∙ sym (accepts_accepted table list text z a),
    e ∙ sym (filled_front (read_text_answer table list text z) (text_ranks table list text) z (ap is_accepted (accepts_accepted table list text z a))),
  )

-- a list whose words are not written as they must be does not keep the rules
pub list_unwritten : (table list : List ℕ) → is_written table list ≡ false → is_list table list ≡ false
unfolding is_list
list_unwritten table list e = ap (λ (t : Bool). t && distinct (list_words list)) e
