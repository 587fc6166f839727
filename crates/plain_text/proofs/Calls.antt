-- What the tests of a call that reads a plain text find. Assumes nothing.
use Prim.Native.Nat.{ℕ, ◌≤◌, ◌<◌}
use mathlib.Core.Path.{◌≡◌, refl, sym, ap, ap₂, ◌∙◌}
use mathlib.Core.Bool.{Bool, true, false, ◌&&◌}
use mathlib.Core.List.{List, [], map}
use native.Mathlib.Omega.{arith}
use lib.ListN.{length, get_or}
use Rattle.base.proofs.Lists.{all_at, all_of_pass, get_d_map}
use Rattle.base.proofs.Tests.{and_left, false_of, range_inside}
use Rattle.base.specs.Answers.{refused, refused_at}
use Rattle.base.specs.Lists.{all_pass}
use Rattle.base.specs.Refusals.{refusal_word_list, refusal_unlisted}
use Rattle.dense.specs.Code.{max_vocabulary}
use Rattle.lexicon.proofs.Calls.{read_text_list, read_text_unlisted}
use Rattle.lexicon.proofs.WordLists.{closed_size}
use Rattle.lexicon.specs.Laws.{Accepts}
use Rattle.lexicon.specs.Letters.{is_table}
use Rattle.lexicon.specs.Lexicon.{list_size, list_words, is_closed, list_rank, is_in, distinct, is_spelled, is_written, is_list}
use Rattle.lexicon.specs.Reading.{TextWord, word, text_words, text_ranks, is_listed, first_unlisted, read_text_answer, spellings}
use Rattle.list_rules.proofs.Written.{list_words_lem}
use Rattle.lookup.proofs.Listed.{missing_none, missing_some, missing_below}
use Rattle.lookup.specs.Lookups.{first_missing}
use Rattle.scanning.proofs.Scans.{text_words_inside}
use Rattle.plain_text.specs.Sizes.{Sized}
use Rattle.ranking.specs.Ranks.{ranks_in, Rankable}

module _ (table : List ℕ) (rule : is_table table ≡ true) (list : List ℕ) (written : is_written table list ≡ true) where
  pub list_by_tests : (t : Bool) → distinct (spellings table list) ≡ t → is_list table list ≡ t
  unfolding is_list
  list_by_tests t e = ap (λ (s : Bool). s && distinct (list_words list)) written ∙ ap distinct (sym (list_words_lem table rule list written)) ∙ e

  -- it has as many words as it has closing bytes
  pub list_sized : list_size list ≡ length (spellings table list)
  unfolding is_written
  list_sized =
      sym (closed_size list (and_left (is_closed list) (all_pass (is_spelled table) (list_words list)) written)) ∙ ap length (sym (list_words_lem table rule list written))

  module _ (text : List ℕ) where
    missing-is : first_missing (spellings table list) (length text) (text_words table text) ≡ first_missing (list_words list) (length text) (text_words table text)
    missing-is = ap (λ (s : List (List ℕ)). first_missing s (length text) (text_words table text)) (list_words_lem table rule list written)

    -- a word is not listed exactly if the first that is not is inside the text
    pub found_unlisted : first_missing (spellings table list) (length text) (text_words table text) < length text → all_pass (is_listed list) (text_words table text) ≡ false
    unfolding is_listed
    found_unlisted h =
        false_of (all_pass (is_listed list) (text_words table text)) (λ e. absurd (omega (arith, missing-is, missing_none (list_words list) (length text) (text_words table text) e)))

    pub found_offset : all_pass (is_listed list) (text_words table text) ≡ false → first_unlisted table list text ≡ first_missing (spellings table list) (length text) (text_words table text)
    unfolding is_listed first_unlisted
    found_offset e = sym (missing-is ∙ missing_some (list_words list) (length text) (text_words table text) e)

    pub found_none : length text ≤ first_missing (spellings table list) (length text) (text_words table text) → all_pass (is_listed list) (text_words table text) ≡ true
    unfolding is_listed
    found_none h = go (all_pass (is_listed list) (text_words table text)) refl
      where
        go : (t : Bool) → all_pass (is_listed list) (text_words table text) ≡ t → all_pass (is_listed list) (text_words table text) ≡ true
        go true e = e
        go false e = absurd (omega (arith, missing-is, missing_below (list_words list) (length text) (text_words table text) (text_words_inside table text) e))

    -- each word is then in the list
    pub all_listed : all_pass (is_listed list) (text_words table text) ≡ true → (p : ℕ) → p < length (text_words table text) → is_in (spellings table list) (get_or (spellings table text) p []) ≡ true
    unfolding is_listed spellings
    all_listed e p h =
        ap₂ is_in (list_words_lem table rule list written) (get_d_map (λ (w : TextWord). w.spelling) (text_words table text) p [] (word 0 []) h)
        ∙ all_at (λ (w : TextWord). is_in (list_words list) w.spelling ≡ true) (text_words table text) (word 0 []) p (all_of_pass (λ (w : TextWord). is_in (list_words list) w.spelling) (text_words table text) e) h

    -- and the ranks are those of the words of the list
    pub ranks_are : ranks_in (spellings table list) (text_words table text) ≡ text_ranks table list text
    unfolding ranks_in text_ranks
    ranks_are = ap (λ (s : List (List ℕ)). map (λ (w : TextWord). list_rank s w.spelling) (text_words table text)) (list_words_lem table rule list written)

-- ---- a call whose sizes are not refused

module _ (table list : List ℕ) (words : ℕ) (text : List ℕ) (size : ℕ) (z : List ℕ) (s : Sized table list words text size z) where
  -- as many words are spelled in the list
  pub spelled_sized : words ≡ length (spellings table list)
  spelled_sized = s.all ∙ list_sized table s.rule list s.written

  -- a word is there twice
  pub twice_refused : distinct (spellings table list) ≡ false → read_text_answer table list text z ≡ refused refusal_word_list
  twice_refused e = read_text_list table list text z s.inside s.short s.room (list_by_tests table s.rule list s.written false e)

  module _ (once : distinct (spellings table list) ≡ true) where
    rules : is_list table list ≡ true
    rules = list_by_tests table s.rule list s.written true once

    -- a word of the text is not in the list
    pub unlisted_refused : first_missing (spellings table list) (length text) (text_words table text) < length text
        → read_text_answer table list text z ≡ refused_at refusal_unlisted (first_missing (spellings table list) (length text) (text_words table text))
    unlisted_refused h =
        let e = found_unlisted table s.rule list s.written text h in
        read_text_unlisted table list text z s.inside s.short s.room rules e ∙ ap (refused_at refusal_unlisted) (found_offset table s.rule list s.written text e)

    -- all are
    module _ (none : length text ≤ first_missing (spellings table list) (length text) (text_words table text)) where
      listed : all_pass (is_listed list) (text_words table text) ≡ true
      listed = found_none table s.rule list s.written text none

      pub all_accepted : Accepts table list text z
      all_accepted =
          let i = range_inside 1 (max_vocabulary 128) (list_size list) s.inside in
          record { some_word = i.0; most_words = i.1; short = s.short; room = s.room; rules = rules; listed = listed }

      pub all_rankable : Rankable table list words text size
      all_rankable =
          record {
            rule = s.rule;
            all = spelled_sized;
            most = omega (arith, s.all, (range_inside 1 (max_vocabulary 128) (list_size list) s.inside).1);
            once = once;
            sized = s.sized;
            listed = λ p h. all_listed table s.rule list s.written text listed p (rw (← s.sized) h);
          }
