-- What is noted of the words of a text, sorted, is what the writing of its list and its ranks goes by. Assumes nothing.
use Prim.Native.Nat.{ℕ, zero, suc, ◌≤◌, ◌<◌}
use mathlib.Core.Path.{◌≡◌, refl, sym, ap, ◌∙◌}
use mathlib.Core.Bool.{true}
use mathlib.Core.List.{List, [], map}
use native.Mathlib.Omega.{arith}
use lib.ListN.{length, get_or, take, replicate, length-map}
use lib.Seq.{ext_get_or}
use Rattle.base.specs.Lists.{Below}
use Rattle.base.proofs.Lists.{all_at, get_d_map}
use Rattle.lexicon.specs.Lexicon.{list_rank, is_in}
use Rattle.lexicon.specs.Letters.{is_table}
use Rattle.lexicon.specs.Reading.{spellings}
use Rattle.lexicon.proofs.Members.{list_rank_below, list_rank_stands}
use Rattle.scanning.specs.Scans.{run_at}
use Rattle.counting_sort.specs.Sorting.{places_by_count, Cleared, Sortable, Sorted}
use Rattle.word_order.specs.Order.{by_frequency}
use Rattle.word_order.proofs.Order.{order_exact}
use Rattle.word_places.specs.Places.{word_of, first_appearances, appearance_counts, TextNoted, TextCounted}
use Rattle.word_places.proofs.Firsts.{appearances_long, appearance_at, appearances_below}
use Rattle.word_places.proofs.ByCount.{counts_long_lem, counts_below, counted_first, words_by_count}
use Rattle.word_places.proofs.Noted.{sorted_ranked, sorted_long, distinct_noted}
use Rattle.list_calls.specs.Making.{max_list_text, max_list_words, made_words, made_ranks}
use Rattle.list_writing.specs.Noted.{WordsNoted, ListNoted}

-- ---- the words of a text and their sorted places

module _ (words : List (List ℕ)) where
  -- the first places of the words, in rank order
  abbrev sorted_places : List ℕ
  sorted_places = places_by_count (appearance_counts words)

  sorted_inside : (r : ℕ) → r < length (by_frequency words) → get_or sorted_places r 0 < length words
  sorted_inside r h = omega (arith, (sorted_ranked words).inside r (omega (arith, sorted_long words)), counts_long_lem words)

  -- the word of a rank stands at its place
  sorted_word : (r : ℕ) → r < length (by_frequency words) → word_of words (get_or sorted_places r 0) ≡ get_or (by_frequency words) r []
  sorted_word r h =
      sym (get_d_map (word_of words) sorted_places r [] 0 (omega (arith, sorted_long words))) ∙ ap (λ (ws : List (List ℕ)). get_or ws r []) (words_by_count words)

  -- the word at a place has a rank, and the place of that rank is where the word appears first
  word_ranked : (p : ℕ) → p < length words → is_in (by_frequency words) (word_of words p) ≡ true
  word_ranked p h = all_at (λ (w : List ℕ). is_in (by_frequency words) w ≡ true) words [] p (order_exact words).every h

  rank_place : (p : ℕ) → p < length words → get_or sorted_places (list_rank (by_frequency words) (word_of words p)) 0 ≡ get_or (first_appearances words) p 0
  rank_place p h =
      let r = list_rank (by_frequency words) (word_of words p) in
      let l : r < length (by_frequency words) = list_rank_below (by_frequency words) (word_of words p) (word_ranked p h) in
      sym (counted_first words (get_or sorted_places r 0) (sorted_inside r l) ((sorted_ranked words).counted r (omega (arith, sorted_long words))))
      ∙ ap (list_rank words) (sorted_word r l ∙ sym (list_rank_stands (by_frequency words) (word_of words p) (word_ranked p h)))
      ∙ sym (appearance_at words p h)

-- zeros are clear
pub zeros_clear : (n : ℕ) → Cleared (replicate n 0)
zeros_clear n x h = at n x
  where
    at : (n x : ℕ) → ◌≡◌ {A = ℕ} (get_or (replicate n 0) x 0) 0
    at zero x = refl
    at (suc n) zero = refl
    at (suc n) (suc x) = at n x

-- ---- a text

-- the words of the list that is made of a text are its words in the order of frequency
pub made_words_lem : (table text : List ℕ) → made_words table text ≡ by_frequency (spellings table text)
unfolding made_words
made_words_lem table text = refl

made_ranks_lem : (table text : List ℕ) → made_ranks table text ≡ map (list_rank (by_frequency (spellings table text))) (spellings table text)
unfolding made_ranks made_words
made_ranks_lem table text = refl

module _ (table text starts firsts counts values order : List ℕ) (size number : ℕ) (counted : TextCounted table text starts firsts counts size number)
    (sorted : Sorted (take size counts) values order) (room : number ≤ length order) where
  abbrev S : List (List ℕ)
  S = spellings table text

  counts_are : take size counts ≡ appearance_counts S
  counts_are = ap (λ (n : ℕ). take n counts) counted.noted.sized ∙ counted.counted

  firsts_are : take size firsts ≡ first_appearances S
  firsts_are = ap (λ (n : ℕ). take n firsts) counted.noted.sized ∙ counted.noted.appeared

  long : length (places_by_count (take size counts)) ≡ length (by_frequency S)
  long = ap (λ (xs : List ℕ). length (places_by_count xs)) counts_are ∙ sorted_long S

  order_at : (r : ℕ) → r < length (by_frequency S) → get_or order r 0 ≡ get_or (sorted_places S) r 0
  order_at r h = sorted.places r (omega (arith, long)) ∙ ap (λ (xs : List ℕ). get_or (places_by_count xs) r 0) counts_are

  rank_at_lem : (r : ℕ) → r < length (by_frequency S) → get_or values (get_or (sorted_places S) r 0) 0 ≡ r
  rank_at_lem r h = ap (λ (xs : List ℕ). get_or values (get_or (places_by_count xs) r 0) 0) (sym counts_are) ∙ sorted.ranks r (omega (arith, long))

  words_noted : WordsNoted table text starts order
  words_noted = record { inside = λ r h. inside r (rw (made_words_lem table text) at h); word = λ r h. word r (rw (made_words_lem table text) at h) }
    where
      inside : (r : ℕ) → r < length (by_frequency S) → (r < length order) × (get_or order r 0 < length starts)
      inside r h = (omega (arith, counted.distinct_words), omega (arith, order_at r h, sorted_inside S r h, counted.noted.begun.long))

      word : (r : ℕ) → r < length (by_frequency S) → (get_or starts (get_or order r 0) 0 ≤ length text) × (run_at table text (get_or starts (get_or order r 0) 0) ≡ get_or (made_words table text) r [])
      word r h =
          let b = counted.noted.begun.start (get_or (sorted_places S) r 0) (sorted_inside S r h) in
          rw (order_at r h, made_words_lem table text) (b.0, b.1 ∙ sorted_word S r h)

  ranks_noted : map (λ (p : ℕ). get_or values p 0) (take size firsts) ≡ made_ranks table text
  ranks_noted =
      ap (map (λ (p : ℕ). get_or values p 0)) firsts_are
      ∙ ext_get_or 0 (map (λ (p : ℕ). get_or values p 0) (first_appearances S)) (map (list_rank (by_frequency S)) S) (one-long ∙ sym (length-map S (list_rank (by_frequency S)))) (λ p h. at p (omega (arith, one-long)))
      ∙ sym (made_ranks_lem table text)
    where
      one-long : length (map (λ (p : ℕ). get_or values p 0) (first_appearances S)) ≡ length S
      one-long = length-map (first_appearances S) (λ (p : ℕ). get_or values p 0) ∙ appearances_long S

      at : (p : ℕ) → p < length S → get_or (map (λ (q : ℕ). get_or values q 0) (first_appearances S)) p 0 ≡ get_or (map (list_rank (by_frequency S)) S) p 0
      at p h =
          get_d_map (λ (q : ℕ). get_or values q 0) (first_appearances S) p 0 0 (omega (arith, appearances_long S))
          ∙ ap (λ (q : ℕ). get_or values q 0) (sym (rank_place S p h))
          ∙ rank_at_lem (list_rank (by_frequency S) (word_of S p)) (list_rank_below (by_frequency S) (word_of S p) (word_ranked S p h))
          ∙ sym (get_d_map (list_rank (by_frequency S)) S p 0 [] h)

  -- all that is noted
  pub list_noted : is_table table ≡ true → length text ≤ max_list_text → number ≤ max_list_words → size ≤ length firsts → size ≤ length values
      → ListNoted table text starts order firsts values size number
  list_noted rule short few f v =
      record {
        rule = rule;
        sized = counted.noted.sized;
        short = short;
        number = counted.distinct_words ∙ sym (ap length (made_words_lem table text));
        few = few;
        noted = words_noted;
        long = f;
        below = rw firsts_are (appearances_below S (length values) (omega (arith, counted.noted.sized)));
        ranked = ranks_noted;
      }

-- the places that are noted are places
pub noted_below : (table text starts firsts : List ℕ) (size n : ℕ) → TextNoted table text starts firsts size → size ≤ n → Below n (take size firsts)
noted_below table text starts firsts size n noted h =
    let are : take size firsts ≡ first_appearances (spellings table text) = ap (λ (k : ℕ). take k firsts) noted.sized ∙ noted.appeared in
    rw are (appearances_below (spellings table text) n (omega (arith, noted.sized)))

-- the counts can be sorted in tables of which the first is clear
pub counts_sortable : (table text starts firsts counts next order : List ℕ) (size number : ℕ) → TextCounted table text starts firsts counts size number
    → size < 4294967296 → size ≤ length counts → Cleared next → size < length next → number ≤ length order → Sortable counts size next order
counts_sortable table text starts firsts counts next order size number counted few inside clear long room =
    let are : take size counts ≡ appearance_counts (spellings table text) = ap (λ (n : ℕ). take n counts) counted.noted.sized ∙ counted.counted in
    record {
      few = few;
      inside = inside;
      most = rw (are, counted.noted.sized) (counts_below (spellings table text));
      clear = clear;
      long = long;
      room = rw (are, distinct_noted (spellings table text), ← counted.distinct_words) room;
    }
