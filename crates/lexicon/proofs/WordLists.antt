-- Laws of the words of a list: byte by byte, their number, and the bytes that may stand in them. Assumes nothing.
use Prim.Native.Nat.{ℕ, suc}
use mathlib.Core.Path.{◌≡◌, refl, sym, ap, ◌∙◌}
use mathlib.Core.Bool.{Bool, true, false, not, ◌&&◌, false≢true}
use mathlib.Core.Logic.{◌⊎◌, inl, inr}
use mathlib.Core.List.{List, [], ◌∷◌, map}
use borrow.Author.Tests.{eq-eqb, ne_eqb, eqb-true, eqb-false, not-true}
use lib.Dec.{eqb}
use lib.ListN.{length, get_or}
use Rattle.base.specs.Lists.{all_pass, filter_by, count_of, cons_first, cut_after}
use Rattle.base.proofs.Tests.{same_or_not, cond_same, cond_other, and_left, and_right, and_never, and_true}
use Rattle.lexicon.proofs.Members.{list_rank_at}
use Rattle.lexicon.specs.Letters.{letter_in, keeps, line_feed}
use Rattle.lexicon.specs.Laws.{WordListsExact}
use Rattle.lexicon.specs.Lexicon.{list_size, list_words, is_closed, distinct, is_spelling, is_spelled, is_written, is_list}

-- a closing byte ends an empty word; another byte belongs to the first word
pub list_closing : (x : ℕ) (xs : List ℕ) → eqb x line_feed ≡ true → list_words (x ∷ xs) ≡ [] ∷ list_words xs
unfolding list_words
list_closing x xs e = rw (e, e)

pub list_letter : (x : ℕ) (xs : List ℕ) → eqb x line_feed ≡ false → list_words (x ∷ xs) ≡ cons_first x (list_words xs)
unfolding list_words
list_letter x xs e = rw e (go (cut_after (λ (y : ℕ). eqb y line_feed) xs))
  where
    kept : List ℕ → List ℕ
    kept = filter_by (λ (y : ℕ). not (eqb y line_feed))

    go : (ps : List (List ℕ)) → map kept (cons_first x ps) ≡ cons_first x (map kept ps)
    go [] = rw e
    go (p ∷ ps) = rw e

-- a list is closed exactly if the bytes behind a closing byte are
pub closed_behind : (x : ℕ) (xs : List ℕ) → eqb x line_feed ≡ true → is_closed (x ∷ xs) ≡ is_closed xs
closed_behind x [] e = e
closed_behind x (y ∷ ys) e = refl

-- a closed list has as many words as closing bytes
pub closed_size : (list : List ℕ) → is_closed list ≡ true → length (list_words list) ≡ list_size list
unfolding list_words list_size
closed_size [] e = refl
closed_size (x ∷ xs) e = go (same_or_not x line_feed) xs e (closed_size xs)
  where
    go : (x ≡ line_feed) ⊎ (x ≡ line_feed → ⊥) → (xs : List ℕ) → is_closed (x ∷ xs) ≡ true → (is_closed xs ≡ true → length (list_words xs) ≡ count_of line_feed xs)
        → length (list_words (x ∷ xs)) ≡ count_of line_feed (x ∷ xs)
    go (inl q) xs e ih =
        ap length (list_closing x xs (eq-eqb x line_feed q)) ∙ ap suc (ih (sym (closed_behind x xs (eq-eqb x line_feed q)) ∙ e))
        ∙ sym (cond_same (suc (count_of line_feed xs)) (count_of line_feed xs) x line_feed q)
    go (inr n) [] e ih = absurd (false≢true (sym (ne_eqb x line_feed n) ∙ e))
    go (inr n) (y ∷ ys) e ih =
        ap length (list_letter x (y ∷ ys) (ne_eqb x line_feed n)) ∙ some (eqb y line_feed) refl ∙ ih e
        ∙ sym (cond_other (suc (count_of line_feed (y ∷ ys))) (count_of line_feed (y ∷ ys)) x line_feed n)
      where
        kept : (z : ℕ) (ls : List (List ℕ)) → length (cons_first x (cons_first z ls)) ≡ length (cons_first z ls)
        kept z [] = refl
        kept z (l ∷ ls) = refl

        some : (t : Bool) → eqb y line_feed ≡ t → length (cons_first x (list_words (y ∷ ys))) ≡ length (list_words (y ∷ ys))
        some true q = rw (list_closing y ys q)
        some false q = rw (list_letter y ys q) (kept y (list_words ys))

module _ (table : List ℕ) where
  -- which bytes may stand in a word
  pub not_spelling_zero : (x : ℕ) → x ≡ 0 → is_spelling table x ≡ false
  unfolding is_spelling
  not_spelling_zero x q = ap (λ (t : Bool). not t && keeps table x) (eq-eqb x 0 q)

  pub not_spelling_other : (x : ℕ) → (letter_in table x ≡ x → ⊥) → is_spelling table x ≡ false
  unfolding is_spelling
  not_spelling_other x n = ap (λ (t : Bool). not (eqb x 0) && t) (ne_eqb (letter_in table x) x n) ∙ and_never (not (eqb x 0))

  pub is_spelling_lem : (x : ℕ) → (x ≡ 0 → ⊥) → letter_in table x ≡ x → is_spelling table x ≡ true
  unfolding is_spelling
  is_spelling_lem x n q = and_true (not (eqb x 0)) (keeps table x) (ap not (ne_eqb x 0 n)) (eq-eqb (letter_in table x) x q)

  -- a byte that may stand in a word is a letter that the table keeps
  pub spelling_kept : (x : ℕ) → is_spelling table x ≡ true → letter_in table x ≡ x
  unfolding is_spelling
  spelling_kept x e = eqb-true (letter_in table x) x (and_right (not (eqb x 0)) (keeps table x) e)

  pub spelling_letter : (x : ℕ) → is_spelling table x ≡ true → letter_in table x ≡ 0 → ⊥
  unfolding is_spelling
  spelling_letter x e q =
      eqb-false x 0 (not-true (eqb x 0) (and_left (not (eqb x 0)) (keeps table x) e)) (sym (spelling_kept x e) ∙ q)

-- a list that keeps the rules is closed, and none of its words is there twice
pub word_lists_exact : WordListsExact
unfolding is_list is_written
word_lists_exact table list e =
    let c : is_closed list ≡ true =
    and_left (is_closed list) (all_pass (is_spelled table) (list_words list)) (and_left (is_closed list && all_pass (is_spelled table) (list_words list)) (distinct (list_words list)) e) in
    let d : distinct (list_words list) ≡ true = and_right (is_closed list && all_pass (is_spelled table) (list_words list)) (distinct (list_words list)) e in
    record {
      sized = closed_size list c;
      ranked = λ i h. list_rank_at (list_words list) (get_or (list_words list) i []) i d (rw (closed_size list c) h) refl;
    }
