-- The list that is made of a text is a word list, and reading the text through it gives the ranks. Assumes nothing.
use Prim.Native.Nat.{ℕ, suc, ◌≤◌, ◌<◌}
use mathlib.Core.Path.{◌≡◌, refl, sym, ap, ◌∙◌}
use mathlib.Core.Bool.{true, false, ◌&&◌}
use mathlib.Core.List.{List, [], ◌∷◌, ◌++◌, map, flatten}
use native.Mathlib.Omega.{arith}
use borrow.Author.Tests.{ne_eqb}
use lib.Dec.{eqb, ltb}
use lib.ListN.{length, get_or, length-map}
use Rattle.base.specs.Lists.{All, Below, all_pass, range_from, total, count_of, cons_first}
use Rattle.base.specs.Answers.{refused}
use Rattle.base.specs.Texts.{max_words, outside}
use Rattle.base.proofs.Tests.{and_true, and_right, cond_below}
use Rattle.base.proofs.Lists.{all_at, all_imp, all_of_pass, all_map, map_map, pass_of_all}
use Rattle.base.proofs.Answers.{first_here}
use Rattle.dense.specs.Code.{vocabulary_case}
use Rattle.lexicon.specs.Laws.{Accepts}
use Rattle.lexicon.specs.Letters.{letter_in, line_feed, is_table}
use Rattle.lexicon.specs.Lexicon.{list_size, list_words, list_rank, is_in, distinct, is_closed, is_spelling, is_spelled, is_written, is_list}
use Rattle.lexicon.proofs.Calls.{spellings_long}
use Rattle.lexicon.specs.Reading.{TextWord, text_words, spellings, text_ranks, is_listed, read_text_answer}
use Rattle.lexicon.proofs.Tables.{table_closing}
use Rattle.lexicon.proofs.WordLists.{list_closing, list_letter, closed_size, spelling_letter}
use Rattle.lexicon.proofs.Members.{list_rank_below, list_rank_stands}
use Rattle.plain_text.proofs.Theorem.{words_spelled}
use Rattle.word_order.specs.Order.{times_in, by_frequency}
use Rattle.word_order.proofs.Shortest.{below, below_counts}
use Rattle.word_order.proofs.Order.{order_exact, rank_times, ranks_inside}
use Rattle.list_calls.specs.Making.{max_list_words, list_of, made_words, made_list, made_ranks}
use Rattle.list_calls.proofs.Lists.{list_none, list_cons}
use Rattle.made_lists.specs.Made.{MadeExact, MadeOfTables}

-- no byte of a word closes it
abbrev Unclosed : List ℕ → Type 0
Unclosed w = All (λ (x : ℕ). eqb x line_feed ≡ false) w

-- a word in front of a list
list_front : (w : List ℕ) → Unclosed w → (rest : List ℕ) → list_words (w ++ line_feed ∷ rest) ≡ w ∷ list_words rest
list_front [] a rest = list_closing line_feed rest refl
list_front (x ∷ w) a rest = list_letter x (w ++ line_feed ∷ rest) a.0 ∙ ap (cons_first x) (list_front w a.1 rest)

append_one : (w rest : List ℕ) → (w ++ line_feed ∷ []) ++ rest ≡ w ++ line_feed ∷ rest
append_one [] rest = refl
append_one (x ∷ w) rest = ap (λ (xs : List ℕ). x ∷ xs) (append_one w rest)

words_none : list_words [] ≡ []
unfolding list_words
words_none = refl

-- the words of the list of words are these
pub words_of_list : (ws : List (List ℕ)) → All Unclosed ws → list_words (list_of ws) ≡ ws
words_of_list [] a = ap list_words list_none ∙ words_none
words_of_list (w ∷ ws) a =
    ap list_words (list_cons w ws ∙ append_one w (list_of ws)) ∙ list_front w a.0 (list_of ws) ∙ ap (λ (vs : List (List ℕ)). w ∷ vs) (words_of_list ws a.1)

-- each is closed
closed_front : (w rest : List ℕ) → is_closed rest ≡ true → is_closed (w ++ line_feed ∷ rest) ≡ true
closed_front [] [] e = refl
closed_front [] (y ∷ ys) e = e
closed_front (x ∷ []) rest e = closed_front [] rest e
closed_front (x ∷ y ∷ w) rest e = closed_front (y ∷ w) rest e

closed_list : (ws : List (List ℕ)) → is_closed (list_of ws) ≡ true
closed_list [] = ap is_closed list_none
closed_list (w ∷ ws) = ap is_closed (list_cons w ws ∙ append_one w (list_of ws)) ∙ closed_front w (list_of ws) (closed_list ws)

all_below : (n : ℕ) (xs : List ℕ) → Below n xs → below n xs ≡ length xs
all_below n [] a = refl
all_below n (x ∷ xs) a = cond_below (suc (below n xs)) (below n xs) x n a.0 ∙ ap suc (all_below n xs a.1)

module _ (table text : List ℕ) (rule : is_table table ≡ true) where
  -- the words of the text are spelled, so those of the order are
  text_spelled : All (λ (w : List ℕ). is_spelled table w ≡ true) (spellings table text)
  unfolding spellings
  text_spelled = all_map (λ (w : TextWord). is_spelled table w.spelling ≡ true) (λ (w : List ℕ). is_spelled table w ≡ true) (λ (w : TextWord). w.spelling) (λ w e. e) (text_words table text) (words_spelled table rule text)

  in_spelled : (w : List ℕ) → is_in (spellings table text) w ≡ true → is_spelled table w ≡ true
  in_spelled w e =
      ap (is_spelled table) (list_rank_stands (spellings table text) w e)
      ∙ all_at (λ (v : List ℕ). is_spelled table v ≡ true) (spellings table text) [] (list_rank (spellings table text) w) text_spelled (list_rank_below (spellings table text) w e)

  made_spelled : All (λ (w : List ℕ). is_spelled table w ≡ true) (made_words table text)
  unfolding made_words
  made_spelled = all_imp (λ (w : List ℕ). is_in (spellings table text) w ≡ true) (λ (w : List ℕ). is_spelled table w ≡ true) in_spelled (made_words table text) (order_exact (spellings table text)).no_other

  spelled_unclosed : (w : List ℕ) → is_spelled table w ≡ true → Unclosed w
  unfolding is_spelled
  spelled_unclosed w e = go w (all_of_pass (is_spelling table) w (and_right (ltb 0 (length w)) (all_pass (is_spelling table) w) e))
    where
      one : (x : ℕ) → is_spelling table x ≡ true → eqb x line_feed ≡ false
      one x p = ne_eqb x line_feed (λ q. spelling_letter table x p (ap (letter_in table) q ∙ table_closing table rule))

      go : (w : List ℕ) → All (λ (x : ℕ). is_spelling table x ≡ true) w → Unclosed w
      go [] a = tt
      go (x ∷ w) a = (one x a.0, go w a.1)

  its_words_lem : list_words (made_list table text) ≡ made_words table text
  unfolding made_list
  its_words_lem = words_of_list (made_words table text) (all_imp (λ (w : List ℕ). is_spelled table w ≡ true) Unclosed spelled_unclosed (made_words table text) made_spelled)

  closed : is_closed (made_list table text) ≡ true
  unfolding made_list
  closed = closed_list (made_words table text)

  made_once : distinct (made_words table text) ≡ true
  unfolding made_words
  made_once = (order_exact (spellings table text)).once

  made_every : All (λ (w : List ℕ). is_in (made_words table text) w ≡ true) (spellings table text)
  unfolding made_words
  made_every = (order_exact (spellings table text)).every

  is_word_list_lem : is_list table (made_list table text) ≡ true
  unfolding is_list is_written
  is_word_list_lem =
      and_true (is_closed (made_list table text) && all_pass (is_spelled table) (list_words (made_list table text))) (distinct (list_words (made_list table text)))
      (and_true (is_closed (made_list table text)) (all_pass (is_spelled table) (list_words (made_list table text))) closed (ap (all_pass (is_spelled table)) its_words_lem ∙ pass_of_all (is_spelled table) (made_words table text) made_spelled))
      (ap distinct its_words_lem ∙ made_once)

  its_size_lem : list_size (made_list table text) ≡ length (made_words table text)
  its_size_lem = sym (closed_size (made_list table text) closed) ∙ ap length its_words_lem

  read_back : text_ranks table (made_list table text) text ≡ made_ranks table text
  unfolding text_ranks made_ranks spellings
  read_back =
      ap (λ (ws : List (List ℕ)). map (λ (w : TextWord). list_rank ws w.spelling) (text_words table text)) its_words_lem
      ∙ sym (map_map (list_rank (made_words table text)) (λ (w : TextWord). w.spelling) (text_words table text))

  -- every word of the text is listed
  all_listed : all_pass (is_listed (made_list table text)) (text_words table text) ≡ true
  unfolding is_listed spellings
  all_listed = go (text_words table text) made_every
    where
      go : (ws : List TextWord) → All (λ (w : List ℕ). is_in (made_words table text) w ≡ true) (map (λ (w : TextWord). w.spelling) ws) → all_pass (λ (w : TextWord). is_in (list_words (made_list table text)) w.spelling) ws ≡ true
      go [] a = refl
      go (w ∷ ws) a = and_true _ _ (ap (λ (vs : List (List ℕ)). is_in vs w.spelling) its_words_lem ∙ a.0) (go ws a.1)

  some_word : 1 ≤ length (text_words table text) → 1 ≤ length (made_words table text)
  some_word h = omega (arith, list_rank_below (made_words table text) (get_or (spellings table text) 0 []) (all_at (λ (w : List ℕ). is_in (made_words table text) w ≡ true) (spellings table text) [] 0 made_every (omega (arith, spellings_long table text))))

  made_ranks_lem : made_ranks table text ≡ map (list_rank (made_words table text)) (spellings table text)
  unfolding made_ranks
  made_ranks_lem = refl

  ranks_number_lem : length (made_ranks table text) ≡ length (text_words table text)
  ranks_number_lem = ap length made_ranks_lem ∙ length-map (spellings table text) (list_rank (made_words table text)) ∙ spellings_long table text

  add_up_lem : total (map (λ (i : ℕ). count_of i (made_ranks table text)) (range_from 0 (length (made_words table text)))) ≡ length (text_words table text)
  add_up_lem =
      sym (below_counts (length (made_words table text)) (made_ranks table text))
      ∙ ap (below (length (made_words table text))) made_ranks_lem
      ∙ all_below (length (made_words table text)) (map (list_rank (made_words table text)) (spellings table text)) (ranks_inside (made_words table text) (spellings table text) made_every)
      ∙ sym (ap length made_ranks_lem) ∙ ranks_number_lem

  frequencies_are : (i : ℕ) → i < length (made_words table text) → count_of i (made_ranks table text) ≡ times_in (spellings table text) (get_or (made_words table text) i [])
  frequencies_are i h = ap (count_of i) made_ranks_lem ∙ rank_times (made_words table text) made_once i h (spellings table text) made_every

  no_words : length (text_words table text) ≡ 0 → made_list table text ≡ []
  unfolding made_list made_words by_frequency flatten
  no_words e = go (spellings table text) (spellings_long table text ∙ e)
    where
      go : (ws : List (List ℕ)) → length ws ≡ 0 → list_of (by_frequency ws) ≡ []
      go [] q = list_none
      go (w ∷ ws) q = absurd (omega arith)

  empty_read_lem : (other z : List ℕ) → read_text_answer table [] other z ≡ refused 1
  unfolding read_text_answer vocabulary_case list_size outside
  empty_read_lem other z = first_here _ _ _ _ refl

  -- the list of a text that has a word, with few enough words, reads the text
  pub made_accepts : (q : List ℕ) → length (text_words table text) ≤ max_words → length (made_words table text) ≤ max_list_words → 1 ≤ length (text_words table text)
      → length (text_words table text) ≤ length q → Accepts table (made_list table text) text q
  made_accepts q few distinct some room = record {
    some_word = omega (arith, its_size_lem, some_word some);
    most_words = omega (arith, its_size_lem);
    short = few;
    room = room;
    rules = is_word_list_lem;
    listed = all_listed;
  }

  made_exact_of : MadeExact table text
  made_exact_of = record {
    order = order_exact (spellings table text);
    is_word_list = is_word_list_lem;
    its_words = its_words_lem;
    its_size = its_size_lem;
    ranks_number = ranks_number_lem;
    read_back = read_back;
    frequencies = frequencies_are;
    add_up = add_up_lem;
    no_words = no_words;
    empty_read = empty_read_lem;
  }

-- the theorem
pub made_of_tables : MadeOfTables
made_of_tables table text rule = made_exact_of table text rule
