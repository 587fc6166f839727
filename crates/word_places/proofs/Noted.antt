-- What is noted of the words of a text, step by step. Assumes nothing.
use Prim.Native.Nat.{ℕ, ◌≤◌, ◌<◌}
use mathlib.Core.Path.{◌≡◌, refl, sym, ap, ◌∙◌}
use mathlib.Core.List.{List}
use native.Mathlib.Omega.{arith}
use lib.Dec.{ltb}
use lib.ListN.{length, get_or, take, drop, length-map, length-drop}
use lib.Seq.{ext_get_or, get_or-take, length-take-le, take_all}
use Rattle.base.specs.Answers.{front}
use Rattle.base.specs.Lists.{filter_by}
use Rattle.lexicon.proofs.Calls.{spellings_long}
use Rattle.lexicon.specs.Reading.{text_words, spellings}
use Rattle.scanning.proofs.Scans.{words_end}
use Rattle.scanning.specs.Scans.{words_at}
use Rattle.counting_sort.specs.Sorting.{places_by_count, PlacesRanked, Histogram}
use Rattle.counting_sort.proofs.Ranked.{places_are_ranked}
use Rattle.word_order.specs.Order.{by_frequency}
use Rattle.word_places.specs.Places.{word_of, first_appearances, appearance_counts, Begun, TextNoted, TextCounted}
use Rattle.word_places.proofs.Firsts.{appearances_long, appearances_noted}
use Rattle.word_places.proofs.ByCount.{counts_long_lem, count_place_lem, counts_below, words_by_count}

module _ (words : List (List ℕ)) where
  -- the places with a count stand at their ranks, and there is one for each distinct word
  pub sorted_ranked : PlacesRanked (appearance_counts words)
  sorted_ranked = places_are_ranked (appearance_counts words) (rw (counts_long_lem words) (counts_below words))

  pub sorted_long : length (places_by_count (appearance_counts words)) ≡ length (by_frequency words)
  sorted_long = sym (length-map (places_by_count (appearance_counts words)) (word_of words)) ∙ ap length (words_by_count words)

  -- a histogram of the first places begins with the counts
  pub counts_noted : (counts : List ℕ) → length words ≤ length counts → Histogram (first_appearances words) counts → take (length words) counts ≡ appearance_counts words
  counts_noted counts l h = ext_get_or 0 (take (length words) counts) (appearance_counts words) (long ∙ sym (counts_long_lem words)) (λ p m. at p (omega (arith, long)))
    where
      long : length (take (length words) counts) ≡ length words
      long = length-take-le (length words) counts l

      at : (p : ℕ) → p < length words → get_or (take (length words) counts) p 0 ≡ get_or (appearance_counts words) p 0
      at p m = get_or-take (length words) counts p 0 m ∙ h p (omega arith) ∙ sym (count_place_lem words p m)

  -- the number of counts above 0 is that of the distinct words
  pub distinct_noted : length (filter_by (ltb 0) (appearance_counts words)) ≡ length (by_frequency words)
  distinct_noted = sym sorted_ranked.number ∙ sorted_long

-- all that is noted of the words when none is left
pub text_noted : (table text starts slice firsts : List ℕ) (at place : ℕ) → length text ≤ at → place ≤ length (spellings table text) → words_at table text at ≡ drop place (text_words table text)
    → Begun table text place starts → firsts ≡ front (take place (first_appearances (spellings table text))) slice → TextNoted table text starts firsts place
text_noted table text starts slice firsts at place end most left begun e =
    record {
      sized = sized;
      begun = rw (← sized) begun;
      appeared = appearances_noted S (length S) slice firsts refl (e ∙ ap (λ (xs : List ℕ). front xs slice) (take_all place (first_appearances S) (omega (arith, sized, appearances_long S))));
    }
  where
    S : List (List ℕ)
    S = spellings table text

    sized : place ≡ length (spellings table text)
    sized =
        omega (
          arith,
          ap length (sym left ∙ words_end table text at end),
          length-drop place (text_words table text),
          spellings_long table text,
        )

-- all that is noted and counted
pub text_counted : (table text starts firsts counts : List ℕ) (size number : ℕ) → TextNoted table text starts firsts size → size ≤ length counts → Histogram (take size firsts) counts
    → number ≡ length (filter_by (ltb 0) (take size counts)) → TextCounted table text starts firsts counts size number
text_counted table text starts firsts counts size number noted room h r =
    record {
      noted = noted;
      counted = counted;
      distinct_words = r ∙ ap (λ (k : ℕ). length (filter_by (ltb 0) (take k counts))) noted.sized ∙ ap (λ (xs : List ℕ). length (filter_by (ltb 0) xs)) counted ∙ distinct_noted (spellings table text);
    }
  where
    appeared : take size firsts ≡ first_appearances (spellings table text)
    appeared = ap (λ (k : ℕ). take k firsts) noted.sized ∙ noted.appeared

    counted : take (length (spellings table text)) counts ≡ appearance_counts (spellings table text)
    counted = counts_noted (spellings table text) counts (omega (arith, noted.sized)) (rw appeared at h)
