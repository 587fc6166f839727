-- The rank of a spelled word in a list whose words are written as they must be, and the answer of the call, case by case. Assumes nothing.
use Prim.Native.Nat.{ℕ, suc, ◌≤◌, ◌<◌}
use mathlib.Core.Path.{◌≡◌, sym, ap, ◌∙◌}
use mathlib.Core.Bool.{Bool, true, false, cond, not, false≢true}
use mathlib.Core.Logic.{◌⊎◌, inl, inr}
use mathlib.Core.List.{List, [], ◌∷◌, map}
use native.Mathlib.Omega.{arith}
use borrow.Author.Tests.{ltb-true, lt-ltb}
use lib.Dec.{ltb}
use lib.ListN.{length, get_or, length-map}
use lib.Seq.{take_all}
use Rattle.base.specs.Answers.{accepted, refused, ◌⇒◌}
use Rattle.base.specs.Lists.{All, all_pass, first_where, same}
use Rattle.base.specs.Refusals.{refusal_vocabulary, refusal_word_list}
use Rattle.base.specs.Texts.{outside}
use Rattle.base.proofs.Answers.{first_here, first_later, answers}
use Rattle.base.proofs.Tests.{and_left, and_right, below_or_not}
use Rattle.base.proofs.Lists.{all_at, all_of_pass, get_d_map}
use Rattle.dense.specs.Code.{max_vocabulary, vocabulary_case}
use Rattle.lexicon.specs.Letters.{letter_in, is_table}
use Rattle.lexicon.specs.Lexicon.{list_size, list_words, list_rank, is_in, is_closed, is_spelling, is_spelled, is_written, is_list}
use Rattle.lexicon.specs.Reading.{spellings}
use Rattle.lexicon.proofs.Members.{not_in}
use Rattle.lexicon.proofs.WordLists.{closed_size, spelling_kept, spelling_letter}
use Rattle.list_rules.proofs.Written.{list_words_lem}
use Rattle.scanning.specs.Scans.{run, run_at}
use Rattle.plain_text.proofs.Theorem.{run_folded, run_behind}
use Rattle.finding.specs.Finding.{folded_by, word_rank, find_word_answer}

-- the first that passes a test stands among the words or at their end
first_where_bound : (test : List ℕ → Bool) (ws : List (List ℕ)) → first_where test ws ≤ length ws
first_where_bound test [] = omega arith
first_where_bound test (w ∷ ws) = go (test w) (first_where_bound test ws)
  where
    go : (b : Bool) → first_where test ws ≤ length ws → cond b 0 (suc (first_where test ws)) ≤ suc (length ws)
    go true h = omega arith
    go false h = omega arith

pub list_rank_most : (ws : List (List ℕ)) (w : List ℕ) → list_rank ws w ≤ length ws
unfolding list_rank
list_rank_most ws w = first_where_bound (same w) ws

-- a word that is not among words has their number
list_rank_none : (ws : List (List ℕ)) (w : List ℕ) → is_in ws w ≡ false → list_rank ws w ≡ length ws
unfolding is_in
list_rank_none ws w e = go (below_or_not (list_rank ws w) (length ws))
  where
    go : (list_rank ws w < length ws) ⊎ (length ws ≤ list_rank ws w) → list_rank ws w ≡ length ws
    go (inl l) = absurd (false≢true (sym e ∙ lt-ltb (list_rank ws w) (length ws) l))
    go (inr l) = omega (arith, list_rank_most ws w)

module _ (table : List ℕ) where
  pub folded_length : (spelling : List ℕ) → length (folded_by table spelling) ≡ length spelling
  unfolding folded_by
  folded_length spelling = length-map spelling (letter_in table)

  pub folded_at : (spelling : List ℕ) (i : ℕ) → i < length spelling → get_or (folded_by table spelling) i 0 ≡ letter_in table (get_or spelling i 0)
  unfolding folded_by
  folded_at spelling i h = get_d_map (letter_in table) spelling i 0 0 h

  -- a spelling that is a run from its front to its end is folded as a run
  pub whole_run : (spelling : List ℕ) → length spelling ≤ length (run_at table spelling 0) → run_at table spelling 0 ≡ folded_by table spelling
  unfolding run_at folded_by
  whole_run spelling h = run_folded table spelling ∙ ap (map (letter_in table)) (take_all (length (run table spelling)) spelling h)

  -- one that is longer has a separator where the run ends
  pub cut_run : (spelling : List ℕ) → length (run_at table spelling 0) < length spelling → letter_in table (get_or spelling (length (run_at table spelling 0)) 0) ≡ 0
  unfolding run_at
  cut_run spelling h = run_behind table spelling h

module _ (table list : List ℕ) (written : is_written table list ≡ true) where
  pub sized : length (list_words list) ≡ list_size list
  unfolding is_written
  sized = closed_size list (and_left (is_closed list) (all_pass (is_spelled table) (list_words list)) written)

  spelled : (j : ℕ) → j < list_size list → is_spelled table (get_or (list_words list) j []) ≡ true
  unfolding is_written
  spelled j h =
      all_at (λ (w : List ℕ). is_spelled table w ≡ true) (list_words list) [] j
      (all_of_pass (is_spelled table) (list_words list) (and_right (is_closed list) (all_pass (is_spelled table) (list_words list)) written)) (omega (arith, sized))

  -- each word of the list has a byte, and its bytes are letters that the table keeps
  some : (j : ℕ) → j < list_size list → 0 < length (get_or (list_words list) j [])
  unfolding is_spelled
  some j h = ltb-true 0 (length (get_or (list_words list) j [])) (and_left (ltb 0 (length (get_or (list_words list) j []))) (all_pass (is_spelling table) (get_or (list_words list) j [])) (spelled j h))

  pub letters_of : (j : ℕ) → j < list_size list → All (λ (x : ℕ). is_spelling table x ≡ true) (get_or (list_words list) j [])
  unfolding is_spelled
  letters_of j h =
      all_of_pass (is_spelling table) (get_or (list_words list) j [])
      (and_right (ltb 0 (length (get_or (list_words list) j []))) (all_pass (is_spelling table) (get_or (list_words list) j [])) (spelled j h))

  -- a spelling that is folded to no word of the list has V
  lacks : (spelling : List ℕ) → ((j : ℕ) → j < list_size list → folded_by table spelling ≡ get_or (list_words list) j [] → ⊥) → word_rank table list spelling ≡ list_size list
  unfolding word_rank
  lacks spelling n =
      list_rank_none (list_words list) (folded_by table spelling) (not_in (list_words list) (folded_by table spelling) (λ j h e. n j (omega (arith, sized)) e)) ∙ sized

  pub lacks_empty : word_rank table list [] ≡ list_size list
  lacks_empty = lacks [] (λ j h e. omega (arith, some j h, ap length e, folded_length table []))

  pub lacks_separator : (spelling : List ℕ) (i : ℕ) → i < length spelling → letter_in table (get_or spelling i 0) ≡ 0 → word_rank table list spelling ≡ list_size list
  lacks_separator spelling i h z =
      lacks spelling (λ j l e.
      let w : List ℕ = get_or (list_words list) j [] in
      let long : i < length w = omega (arith, ap length e, folded_length table spelling) in
      let good = all_at (λ (x : ℕ). is_spelling table x ≡ true) w 0 i (letters_of j l) long in
      let at : get_or w i 0 ≡ 0 = ap (λ (v : List ℕ). get_or v i 0) (sym e) ∙ folded_at table spelling i h ∙ z in
      spelling_letter table (get_or w i 0) good (spelling_kept table (get_or w i 0) good ∙ at))

  -- a spelling without a separator has the rank of its run
  pub rank_of_run : is_table table ≡ true → (spelling : List ℕ) → length spelling ≤ length (run_at table spelling 0) → list_rank (spellings table list) (run_at table spelling 0) ≡ word_rank table list spelling
  unfolding word_rank
  rank_of_run rule spelling h =
      ap (λ (ws : List (List ℕ)). list_rank ws (run_at table spelling 0)) (list_words_lem table rule list written) ∙ ap (list_rank (list_words list)) (whole_run table spelling h)

  -- and one with a separator has V
  pub rank_of_cut : (spelling : List ℕ) → length (run_at table spelling 0) < length spelling → word_rank table list spelling ≡ list_size list
  rank_of_cut spelling h = lacks_separator spelling (length (run_at table spelling 0)) h (cut_run table spelling h)

-- the answer of the call: the refusals in their order, and none
module _ (table list spelling : List ℕ) where
  pub find_vocabulary : outside 1 (max_vocabulary 128) (list_size list) ≡ true → find_word_answer table list spelling ≡ refused refusal_vocabulary
  unfolding find_word_answer vocabulary_case
  find_vocabulary e = first_here _ _ _ _ e

  module _ (inside : outside 1 (max_vocabulary 128) (list_size list) ≡ false) where
    pub find_list : is_list table list ≡ false → find_word_answer table list spelling ≡ refused refusal_word_list
    unfolding find_word_answer vocabulary_case
    find_list e = first_later _ _ _ _ inside ∙ first_here _ _ _ _ (ap not e)

    pub find_rank : is_list table list ≡ true → find_word_answer table list spelling ≡ accepted (word_rank table list spelling)
    unfolding find_word_answer vocabulary_case
    find_rank e =
        answers (vocabulary_case 128 (list_size list) ∷ (not (is_list table list) ⇒ refused refusal_word_list) ∷ []) (accepted (word_rank table list spelling)) (inside, (ap not e, tt))
