-- The rank of a spelled word is where it stands in the list, V where it stands nowhere, and what reading gives it. Assumes nothing.
use Prim.Native.Nat.{ℕ, ◌<◌}
use mathlib.Core.Path.{◌≡◌, refl, sym, ap, ap₂, ◌∙◌}
use mathlib.Core.Bool.{true}
use mathlib.Core.List.{List, [], ◌∷◌, map}
use native.Mathlib.Omega.{arith}
use borrow.Author.Tests.{lt-ltb}
use lib.ListN.{length, get_or, take}
use lib.Seq.{take-length}
use Rattle.base.specs.Lists.{All}
use Rattle.base.proofs.Tests.{and_left, and_right}
use Rattle.base.proofs.Lists.{all_at, get_d_map}
use Rattle.lexicon.specs.Letters.{letter_in}
use Rattle.lexicon.specs.Lexicon.{list_size, list_words, list_rank, is_in, distinct, is_spelling, is_written, is_list}
use Rattle.lexicon.specs.Laws.{IsRun}
use Rattle.lexicon.specs.Reading.{TextWord, word, text_words, text_ranks}
use Rattle.lexicon.proofs.Members.{in_at, list_rank_below, list_rank_stands, list_rank_at}
use Rattle.lexicon.proofs.WordLists.{spelling_kept}
use Rattle.plain_text.proofs.Theorem.{words_exact}
use Rattle.finding.specs.Finding.{folded_by, word_rank, spelled_in, FindingExact, FindingOfTables}
use Rattle.finding.proofs.Ranks.{list_rank_most, sized, letters_of, lacks_empty, lacks_separator}

-- bytes that the table keeps are folded to themselves
kept_all : (table w : List ℕ) → All (λ (x : ℕ). is_spelling table x ≡ true) w → folded_by table w ≡ w
unfolding folded_by
kept_all table [] a = refl
kept_all table (x ∷ w) a = ap₂ (λ (y : ℕ) (v : List ℕ). y ∷ v) (spelling_kept table x a.0) (kept_all table w a.1)

-- a word of a text is the folded spelling
read_spelling : (table text : List ℕ) (w : TextWord) → IsRun table text w → folded_by table (spelled_in text w) ≡ w.spelling
unfolding folded_by
read_spelling table text w run = sym run.folded

module _ (table list : List ℕ) (listed : is_list table list ≡ true) where
  written : is_written table list ≡ true
  unfolding is_list
  written = and_left (is_written table list) (distinct (list_words list)) listed

  once : distinct (list_words list) ≡ true
  unfolding is_list
  once = and_right (is_written table list) (distinct (list_words list)) listed

  ranked : (spelling : List ℕ) → list_rank (list_words list) (folded_by table spelling) ≡ word_rank table list spelling
  unfolding word_rank
  ranked spelling = refl

  stands : (spelling : List ℕ) → word_rank table list spelling < list_size list → get_or (list_words list) (word_rank table list spelling) [] ≡ folded_by table spelling
  unfolding word_rank is_in
  stands spelling h =
      sym (list_rank_stands (list_words list) (folded_by table spelling)
      (lt-ltb (list_rank (list_words list) (folded_by table spelling)) (length (list_words list)) (omega (arith, sized table list written))))

  as_read : (text : List ℕ) (k : ℕ) → k < length (text_words table text)
      → word_rank table list (spelled_in text (get_or (text_words table text) k (word 0 []))) ≡ get_or (text_ranks table list text) k 0
  unfolding text_ranks
  as_read text k h =
      let w : TextWord = get_or (text_words table text) k (word 0 []) in
      let run = all_at (IsRun table text) (text_words table text) (word 0 []) k (words_exact table text).runs h in
      sym (ranked (spelled_in text w)) ∙ ap (list_rank (list_words list)) (read_spelling table text w run)
      ∙ sym (get_d_map (λ (v : TextWord). list_rank (list_words list) v.spelling) (text_words table text) k 0 (word 0 []) h)

  one_word_lem : (spelling folded : List ℕ) → text_words table spelling ≡ word 0 folded ∷ [] → length folded ≡ length spelling → text_ranks table list spelling ≡ word_rank table list spelling ∷ []
  unfolding text_ranks folded_by
  one_word_lem spelling folded e l =
      let run = (rw e at (words_exact table spelling).runs).0 in
      let f : folded ≡ folded_by table spelling = run.folded ∙ ap (λ (m : ℕ). map (letter_in table) (take m spelling)) l ∙ ap (map (letter_in table)) (take-length spelling) in
      rw e (ap (λ (w : List ℕ). list_rank (list_words list) w ∷ []) f ∙ ap (λ (n : ℕ). n ∷ []) (ranked spelling))

  finding_exact : FindingExact table list
  finding_exact = record {
    found = stands;
    most = λ spelling. omega (arith, list_rank_most (list_words list) (folded_by table spelling), ranked spelling, sized table list written);
    lacking = λ spelling j e h q.
        omega (
          arith,
          list_rank_below (list_words list) (folded_by table spelling) (in_at (list_words list) (folded_by table spelling) j (omega (arith, sized table list written)) (sym q)),
          ranked spelling,
          sized table list written,
        );
    empty = lacks_empty table list written;
    separator = lacks_separator table list written;
    own = λ i h.
        sym (ranked (get_or (list_words list) i []))
        ∙ list_rank_at (list_words list) (folded_by table (get_or (list_words list) i [])) i once (omega (arith, sized table list written)) (kept_all table (get_or (list_words list) i []) (letters_of table list written i h));
    as_read = as_read;
    one_word = one_word_lem;
  }

pub finding_of_tables : FindingOfTables
finding_of_tables table list listed = finding_exact table list listed
