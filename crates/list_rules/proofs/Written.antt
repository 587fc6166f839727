-- Laws of the test of how the words of a list are written, byte by byte, and of a list read as a text. Assumes nothing.
use Prim.Native.Nat.{ℕ, suc, ◌+◌, ◌≤◌, ◌<◌}
use mathlib.Core.Path.{◌≡◌, refl, sym, ap, ◌∙◌}
use mathlib.Core.Bool.{Bool, true, false, cond, not, ◌&&◌}
use mathlib.Core.Logic.{◌⊎◌, inl, inr}
use mathlib.Core.List.{List, [], ◌∷◌, map}
use native.Mathlib.Omega.{arith}
use borrow.Author.Tests.{eq-eqb, ne_eqb, eqb-true, lt-ltb}
use lib.Dec.{eqb, ltb}
use lib.ListN.{length, drop, get_or, drop_of_length-le}
use Rattle.base.specs.Lists.{All, all_pass, filter_by, cons_first}
use Rattle.base.proofs.Tests.{cond_same, cond_other, and_left, and_right, and_never}
use Rattle.base.proofs.Lists.{all_of_pass, all_imp}
use Rattle.lexicon.proofs.Tables.{table_closing}
use Rattle.lexicon.proofs.WordLists.{list_closing, list_letter, closed_behind, spelling_kept, spelling_letter}
use Rattle.lexicon.specs.Letters.{letter_in, line_feed, is_table}
use Rattle.lexicon.specs.Lexicon.{list_words, is_closed, is_spelling, is_spelled, is_written}
use Rattle.lexicon.specs.Reading.{TextWord, word, extended, words_from, text_words, spellings}
use Rattle.scanning.proofs.Scans.{words_skip, words_more, words_later, extended_apart, words_run, drop_here}
use Rattle.scanning.specs.Scans.{run}

-- whether the bytes left of a list go on as they must, where the word before them is begun or not
abbrev pub written_after : List ℕ → Bool → List ℕ → Bool
written_after table begun [] = not begun
written_after table begun (x ∷ xs) =
    cond (eqb x line_feed) (begun && written_after table false xs) (is_spelling table x && written_after table true xs)

-- ---- how they are written

-- words of which the first was begun before
abbrev rest_written : List ℕ → List (List ℕ) → Bool
rest_written table [] = true
rest_written table (l ∷ ls) = all_pass (is_spelling table) l && all_pass (is_spelled table) ls

-- the bytes left, where a word was begun before
abbrev goes_on : List ℕ → List ℕ → Bool
goes_on table [] = false
goes_on table (x ∷ xs) = is_closed (x ∷ xs) && rest_written table (list_words (x ∷ xs))

-- one letter more of the first word
spelled_more : (table : List ℕ) (x : ℕ) (l : List ℕ) → is_spelled table (x ∷ l) ≡ is_spelling table x && all_pass (is_spelling table) l
unfolding is_spelled
spelled_more table x l = ap (λ (t : Bool). t && (is_spelling table x && all_pass (is_spelling table) l)) (lt-ltb 0 (suc (length l)) (omega arith))

spelled_none : (table : List ℕ) → is_spelled table [] ≡ false
unfolding is_spelled
spelled_none table = refl

shuffle : (k c l s : Bool) → k && (c && (l && s)) ≡ c && ((k && l) && s)
shuffle true c l s = refl
shuffle false true l s = refl
shuffle false false l s = refl

shuffle_one : (k c : Bool) → k && (c && true) ≡ c && (k && true)
shuffle_one true c = refl
shuffle_one false true = refl
shuffle_one false false = refl

module _ (table : List ℕ) where
  -- a letter in front of bytes that go on a word
  goes_spelled : (x : ℕ) (xs : List ℕ) → eqb x line_feed ≡ false → is_spelling table x && goes_on table xs ≡ is_closed (x ∷ xs) && all_pass (is_spelled table) (cons_first x (list_words xs))
  goes_spelled x [] e = and_never (is_spelling table x) ∙ sym (ap (λ (t : Bool). t && all_pass (is_spelled table) (cons_first x (list_words []))) e)
  goes_spelled x (y ∷ ys) e = go (list_words (y ∷ ys))
    where
      go : (ls : List (List ℕ)) → is_spelling table x && (is_closed (y ∷ ys) && rest_written table ls) ≡ is_closed (y ∷ ys) && all_pass (is_spelled table) (cons_first x ls)
      go [] =
          shuffle_one (is_spelling table x) (is_closed (y ∷ ys))
          ∙ ap (λ (t : Bool). is_closed (y ∷ ys) && t) (swap (is_spelling table x) ∙ ap (λ (t : Bool). t && true) (sym (spelled_more table x [])))
        where
          swap : (t : Bool) → t && true ≡ (t && true) && true
          swap true = refl
          swap false = refl
      go (l ∷ ls) =
          shuffle (is_spelling table x) (is_closed (y ∷ ys)) (all_pass (is_spelling table) l) (all_pass (is_spelled table) ls)
          ∙ ap (λ (t : Bool). is_closed (y ∷ ys) && (t && all_pass (is_spelled table) ls)) (sym (spelled_more table x l))

  goes_rest : (x : ℕ) (xs : List ℕ) → eqb x line_feed ≡ false → is_spelling table x && goes_on table xs ≡ is_closed (x ∷ xs) && rest_written table (cons_first x (list_words xs))
  goes_rest x [] e = and_never (is_spelling table x) ∙ sym (ap (λ (t : Bool). t && rest_written table (cons_first x (list_words []))) e)
  goes_rest x (y ∷ ys) e = go (list_words (y ∷ ys))
    where
      go : (ls : List (List ℕ)) → is_spelling table x && (is_closed (y ∷ ys) && rest_written table ls) ≡ is_closed (y ∷ ys) && rest_written table (cons_first x ls)
      go [] = shuffle (is_spelling table x) (is_closed (y ∷ ys)) true true
      go (l ∷ ls) = shuffle (is_spelling table x) (is_closed (y ∷ ys)) (all_pass (is_spelling table) l) (all_pass (is_spelled table) ls)

  -- the test byte by byte is the test of the words
  both_written : (xs : List ℕ) → (written_after table false xs ≡ is_closed xs && all_pass (is_spelled table) (list_words xs)) × (written_after table true xs ≡ goes_on table xs)
  unfolding list_words
  both_written [] = (refl, refl)
  both_written (x ∷ xs) = go (eqb x line_feed) refl (both_written xs)
    where
      go : (t : Bool) → eqb x line_feed ≡ t → (written_after table false xs ≡ is_closed xs && all_pass (is_spelled table) (list_words xs)) × (written_after table true xs ≡ goes_on table xs)
          → (cond t (false && written_after table false xs) (is_spelling table x && written_after table true xs) ≡ is_closed (x ∷ xs) && all_pass (is_spelled table) (list_words (x ∷ xs)))
          × (cond t (true && written_after table false xs) (is_spelling table x && written_after table true xs) ≡ goes_on table (x ∷ xs))
      go true e ih = (
        sym (ap (λ (ls : List (List ℕ)). is_closed (x ∷ xs) && all_pass (is_spelled table) ls) (list_closing x xs e)
            ∙ ap (λ (t : Bool). is_closed (x ∷ xs) && (t && all_pass (is_spelled table) (list_words xs))) (spelled_none table)
            ∙ and_never (is_closed (x ∷ xs))),
        ih.0 ∙ ap (λ (t : Bool). t && all_pass (is_spelled table) (list_words xs)) (sym (closed_behind x xs e))
            ∙ ap (λ (ls : List (List ℕ)). is_closed (x ∷ xs) && rest_written table ls) (sym (list_closing x xs e)),
      )
      go false e ih = (
        ap (λ (t : Bool). is_spelling table x && t) ih.1 ∙ goes_spelled x xs e
            ∙ ap (λ (ls : List (List ℕ)). is_closed (x ∷ xs) && all_pass (is_spelled table) ls) (sym (list_letter x xs e)),
        ap (λ (t : Bool). is_spelling table x && t) ih.1 ∙ goes_rest x xs e
            ∙ ap (λ (ls : List (List ℕ)). is_closed (x ∷ xs) && rest_written table ls) (sym (list_letter x xs e)),
      )

  pub written_after_lem : (list : List ℕ) → is_written table list ≡ written_after table false list
  unfolding is_written
  written_after_lem list = sym (both_written list).0

  -- from a position on: at a closing byte, at another byte, and at the end
  module _ (list : List ℕ) (begun : Bool) (at : ℕ) where
    pub written_closing : at < length list → get_or list at 0 ≡ line_feed → written_after table begun (drop at list) ≡ begun && written_after table false (drop (at + 1) list)
    written_closing h q = ap (written_after table begun) (drop_here list at h) ∙ cond_same _ _ (get_or list at 0) line_feed q

    pub written_letter : at < length list → (get_or list at 0 ≡ line_feed → ⊥)
        → written_after table begun (drop at list) ≡ is_spelling table (get_or list at 0) && written_after table true (drop (at + 1) list)
    written_letter h n = ap (written_after table begun) (drop_here list at h) ∙ cond_other _ _ (get_or list at 0) line_feed n

    pub written_end : length list ≤ at → written_after table begun (drop at list) ≡ not begun
    written_end h = ap (written_after table begun) (drop_of_length-le list h)

  -- ---- a list as a text

  -- a byte that closes a word or may stand in one
  abbrev pub ListByte : ℕ → Type 0
  ListByte x = (x ≡ line_feed) ⊎ (is_spelling table x ≡ true)

  pub written_bytes : (begun : Bool) (xs : List ℕ) → written_after table begun xs ≡ true → All ListByte xs
  written_bytes begun [] e = tt
  written_bytes begun (x ∷ xs) e = go (eqb x line_feed) refl e (λ b. written_bytes b xs)
    where
      go : (t : Bool) → eqb x line_feed ≡ t → cond t (begun && written_after table false xs) (is_spelling table x && written_after table true xs) ≡ true
          → ((b : Bool) → written_after table b xs ≡ true → All ListByte xs) → All ListByte (x ∷ xs)
      go true q e ih = (inl (eqb-true x line_feed q), ih false (and_right begun (written_after table false xs) e))
      go false q e ih = (inr (and_left (is_spelling table x) (written_after table true xs) e), ih true (and_right (is_spelling table x) (written_after table true xs) e))

-- whether a word is not empty
abbrev pub non_empty : List ℕ → Bool
non_empty l = ltb 0 (length l)

module _ (table : List ℕ) (rule : is_table table ≡ true) where
  closing_separates : (x : ℕ) → x ≡ line_feed → letter_in table x ≡ 0
  closing_separates x q = rw q (table_closing table rule)

  not_closing : (x : ℕ) → is_spelling table x ≡ true → eqb x line_feed ≡ false
  not_closing x s = ne_eqb x line_feed (λ q. spelling_letter table x s (closing_separates x q))

  -- the words of such bytes as a text are the words of the list that are not empty
  pub text_of_list : (i : ℕ) (xs : List ℕ) → All (ListByte table) xs → map (λ (w : TextWord). w.spelling) (words_from table i xs) ≡ filter_by non_empty (list_words xs)
  unfolding list_words
  text_of_list i [] a = refl
  text_of_list i (x ∷ xs) a = go xs a.0 a.1 (text_of_list (suc i) xs a.1)
    where
      go : (xs : List ℕ) → ListByte table x → All (ListByte table) xs → map (λ (w : TextWord). w.spelling) (words_from table (suc i) xs) ≡ filter_by non_empty (list_words xs)
          → map (λ (w : TextWord). w.spelling) (words_from table i (x ∷ xs)) ≡ filter_by non_empty (list_words (x ∷ xs))
      go xs (inl q) a ih =
          ap (map (λ (w : TextWord). w.spelling)) (words_skip table i x xs (closing_separates x q)) ∙ ih
          ∙ ap (filter_by non_empty) (sym (list_closing x xs (eq-eqb x line_feed q)))
      go [] (inr s) a ih =
          ap (map (λ (w : TextWord). w.spelling)) (words_more table i x [] (spelling_letter table x s))
          ∙ ap (λ (y : ℕ). (y ∷ []) ∷ []) (spelling_kept table x s)
          ∙ ap (filter_by non_empty) (sym (list_letter x [] (not_closing x s)))
      go (y ∷ ys) (inr s) (inl q, a) ih =
          ap (map (λ (w : TextWord). w.spelling))
          (words_more table i x (y ∷ ys) (spelling_letter table x s)
          ∙ ap (extended i (letter_in table x)) (words_skip table (suc i) y ys (closing_separates y q))
          ∙ extended_apart table i (letter_in table x) (words_from table (suc (suc i)) ys) (words_later table (suc (suc i)) ys)
          ∙ ap (λ (ws : List TextWord). word i (letter_in table x ∷ []) ∷ ws) (sym (words_skip table (suc i) y ys (closing_separates y q))))
          ∙ ap (λ (ls : List (List ℕ)). (letter_in table x ∷ []) ∷ ls) (ih ∙ ap (filter_by non_empty) (list_closing y ys (eq-eqb y line_feed q)))
          ∙ ap (λ (z : ℕ). (z ∷ []) ∷ filter_by non_empty (list_words ys)) (spelling_kept table x s)
          ∙ ap (filter_by non_empty) (sym (list_letter x (y ∷ ys) (not_closing x s) ∙ ap (cons_first x) (list_closing y ys (eq-eqb y line_feed q))))
      go (y ∷ ys) (inr s) (inr r, a) ih =
          ap (map (λ (w : TextWord). w.spelling)) (words_more table i x (y ∷ ys) (spelling_letter table x s) ∙ ap (extended i (letter_in table x)) run-of-y)
          ∙ ap (map (λ (w : TextWord). w.spelling)) (cond_same _ _ (suc i) (suc i) refl)
          ∙ ap (cons_first (letter_in table x)) (ap (map (λ (w : TextWord). w.spelling)) (sym run-of-y) ∙ ih ∙ ap (filter_by non_empty) (list_letter y ys (not_closing y r)))
          ∙ ap (λ (z : ℕ). cons_first z (filter_by non_empty (cons_first y (list_words ys)))) (spelling_kept table x s)
          ∙ both (list_words ys)
          ∙ ap (filter_by non_empty) (sym (list_letter x (y ∷ ys) (not_closing x s) ∙ ap (cons_first x) (list_letter y ys (not_closing y r))))
        where
          run-of-y : words_from table (suc i) (y ∷ ys) ≡ word (suc i) (run table (y ∷ ys)) ∷ words_from table (suc i + length (run table (y ∷ ys))) (drop (length (run table (y ∷ ys))) (y ∷ ys))
          run-of-y = words_run table (suc i) y ys (spelling_letter table y r)

          both : (ls : List (List ℕ)) → cons_first x (filter_by non_empty (cons_first y ls)) ≡ filter_by non_empty (cons_first x (cons_first y ls))
          both [] = refl
          both (l ∷ ls) = rw (lt-ltb 0 (suc (length l)) (omega arith), lt-ltb 0 (suc (suc (length l))) (omega arith))

  -- words of which none is empty are all kept
  filter_all : (ls : List (List ℕ)) → All (λ (l : List ℕ). non_empty l ≡ true) ls → filter_by non_empty ls ≡ ls
  filter_all [] a = refl
  filter_all (l ∷ ls) a = rw a.0 (ap (λ (r : List (List ℕ)). l ∷ r) (filter_all ls a.1))

  -- the words of a list that is written as it must be are its words as a text
  pub list_words_lem : (list : List ℕ) → is_written table list ≡ true → spellings table list ≡ list_words list
  unfolding spellings text_words is_written is_spelled
  list_words_lem list e =
      text_of_list 0 list (written_bytes table false list (sym (written_after_lem table list) ∙ e))
      ∙ filter_all (list_words list)
      (all_imp (λ (l : List ℕ). is_spelled table l ≡ true) (λ (l : List ℕ). non_empty l ≡ true) (λ l s. and_left (non_empty l) (all_pass (is_spelling table) l) s) (list_words list)
      (all_of_pass (is_spelled table) (list_words list) (and_right (is_closed list) (all_pass (is_spelled table) (list_words list)) e)))
