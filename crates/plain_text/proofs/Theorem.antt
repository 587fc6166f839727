-- The words of a text are its longest runs of non-separators, and what reading them through a list gives. Assumes nothing.
use Prim.Native.Nat.{ℕ, zero, suc, ◌+◌, ◌-◌, ◌≤◌, ◌<◌}
use mathlib.Core.Path.{◌≡◌, refl, sym, ap, ◌∙◌}
use mathlib.Core.Bool.{Bool, true, false, not}
use mathlib.Core.Logic.{◌⊎◌, inl, inr}
use mathlib.Core.List.{List, [], ◌∷◌, ◌++◌, map}
use native.Mathlib.Omega.{arith}
use borrow.Author.Tests.{lt-ltb, eq-eqb, ne_eqb, not-true}
use lib.Dec.{ltb}
use lib.ListN.{length, take, drop, get_or, length-drop, length-map, get_or-eq_default}
use lib.Seq.{get_or-drop, get_or-take, take-append_seam, drop-append_seam}
use Rattle.base.proofs.Answers.{filled_not, filled_front, fills_front}
use Rattle.base.proofs.Lists.{all_at, all_of_at, all_imp, all_of_pass, pass_of_all, first_where_inside, first_where_most, first_where_passes, get_d_map}
use Rattle.base.proofs.Tests.{same_or_not, below_or_not, and_true}
use Rattle.base.specs.Answers.{accepted, refused, refused_at, first_of, ◌⇒◌}
use Rattle.base.specs.Lists.{All, all_pass, first_where}
use Rattle.base.specs.Refusals.{refusal_vocabulary, refusal_words, refusal_short_slice, refusal_word_list, refusal_unlisted}
use Rattle.base.specs.Texts.{max_words, outside, words_case}
use Rattle.base.specs.declared.Answer.{Answer}
use Rattle.dense.specs.Code.{vocabulary_case, max_vocabulary}
use Rattle.lexicon.proofs.Calls.{accepts_accepted, accepted_accepts}
use Rattle.lexicon.proofs.Members.{list_rank_below, list_rank_stands}
use Rattle.lexicon.proofs.Tables.{table_entry}
use Rattle.lexicon.proofs.WordLists.{is_spelling_lem, word_lists_exact}
use Rattle.lexicon.specs.Laws.{IsRun, InOrder, LongestRuns, unlisted_place, ReadingOfTables}
use Rattle.lexicon.specs.Letters.{letter_in, is_table}
use Rattle.lexicon.specs.Lexicon.{list_size, list_words, list_rank, is_in, is_spelling, is_spelled, is_list}
use Rattle.lexicon.specs.Reading.{TextWord, word, text_words, text_ranks, is_listed, first_unlisted, read_text_answer, read_text_exit}
use Rattle.scanning.proofs.Scans.{Letter, gap_more, gap_none, run_none, run_more, start_least, begins, words_end, words_after, Next, next, words_first, some_left}
use Rattle.scanning.specs.Scans.{gap, run, words_at, run_at, start_from, WordBegins}

-- ---- runs and gaps in front of a list

module _ (table : List ℕ) where
  pub run_folded : (xs : List ℕ) → run table xs ≡ map (letter_in table) (take (length (run table xs)) xs)
  run_folded [] = refl
  run_folded (x ∷ xs) = go (same_or_not (letter_in table x) 0) (run_folded xs)
    where
      go : (letter_in table x ≡ 0) ⊎ Letter table x → run table xs ≡ map (letter_in table) (take (length (run table xs)) xs)
          → run table (x ∷ xs) ≡ map (letter_in table) (take (length (run table (x ∷ xs))) (x ∷ xs))
      go (inl e) ih = rw (run_none table x xs e)
      go (inr n) ih = rw (run_more table x xs n) (ap (λ (r : List ℕ). letter_in table x ∷ r) ih)

  run_letters : (xs : List ℕ) (i : ℕ) → i < length (run table xs) → Letter table (get_or xs i 0)
  run_letters [] i h = absurd (omega arith)
  run_letters (x ∷ xs) i h = go i h (same_or_not (letter_in table x) 0) (run_letters xs)
    where
      go : (i : ℕ) → i < length (run table (x ∷ xs)) → (letter_in table x ≡ 0) ⊎ Letter table x → ((i : ℕ) → i < length (run table xs) → Letter table (get_or xs i 0)) → Letter table (get_or (x ∷ xs) i 0)
      go i h (inl e) ih = absurd (omega (arith, ap length (run_none table x xs e)))
      go zero h (inr n) ih = n
      go (suc i) h (inr n) ih = ih i (omega (arith, ap length (run_more table x xs n)))

  pub run_behind : (xs : List ℕ) → length (run table xs) < length xs → letter_in table (get_or xs (length (run table xs)) 0) ≡ 0
  run_behind [] h = absurd (omega arith)
  run_behind (x ∷ xs) h = go (same_or_not (letter_in table x) 0) (run_behind xs)
    where
      go : (letter_in table x ≡ 0) ⊎ Letter table x → (length (run table xs) < length xs → letter_in table (get_or xs (length (run table xs)) 0) ≡ 0)
          → letter_in table (get_or (x ∷ xs) (length (run table (x ∷ xs))) 0) ≡ 0
      go (inl e) ih = rw (run_none table x xs e) e
      go (inr n) ih = rw (run_more table x xs n) (ih (omega (arith, ap length (run_more table x xs n))))

  gap_separators : (xs : List ℕ) (j : ℕ) → j < gap table xs → letter_in table (get_or xs j 0) ≡ 0
  gap_separators [] j h = absurd (omega arith)
  gap_separators (x ∷ xs) j h = go j h (same_or_not (letter_in table x) 0) (gap_separators xs)
    where
      go : (j : ℕ) → j < gap table (x ∷ xs) → (letter_in table x ≡ 0) ⊎ Letter table x → ((j : ℕ) → j < gap table xs → letter_in table (get_or xs j 0) ≡ 0) → letter_in table (get_or (x ∷ xs) j 0) ≡ 0
      go j h (inr n) ih = absurd (omega (arith, gap_none table x xs n))
      go zero h (inl e) ih = e
      go (suc j) h (inl e) ih = ih j (omega (arith, gap_more table x xs e))

-- ---- at a position of a text

module _ (table text : List ℕ) where
  -- between a position and the next word stand separators
  between : (at p : ℕ) → at ≤ p → p < start_from table text at → letter_in table (get_or text p 0) ≡ 0
  unfolding start_from
  between at p h l =
      let e : at + (p - at) ≡ p = omega arith in
      ap (λ (n : ℕ). letter_in table (get_or text n 0)) (sym e)
      ∙ ap (letter_in table) (sym (get_or-drop at text (p - at) 0))
      ∙ gap_separators table (drop at text) (p - at) (omega arith)

  word_folded : (at : ℕ) → run_at table text at ≡ map (letter_in table) (take (length (run_at table text at)) (drop at text))
  unfolding run_at
  word_folded at = run_folded table (drop at text)

  word_letters : (at i : ℕ) → i < length (run_at table text at) → letter_in table (get_or text (at + i) 0) ≡ 0 → ⊥
  unfolding run_at
  word_letters at i h e = run_letters table (drop at text) i h (ap (letter_in table) (get_or-drop at text i 0) ∙ e)

  word_behind : (at : ℕ) → at ≤ length text → at + length (run_at table text at) < length text → letter_in table (get_or text (at + length (run_at table text at)) 0) ≡ 0
  unfolding run_at
  word_behind at l h =
      ap (letter_in table) (sym (get_or-drop at text (length (run table (drop at text))) 0)) ∙ run_behind table (drop at text) (omega (arith, length-drop at text))

  -- before a word stands a separator, or the text begins
  abbrev Before : ℕ → Type 0
  Before at = at < length text → (p : ℕ) → suc p ≡ at → letter_in table (get_or text p 0) ≡ 0

  run_at_lem : (at : ℕ) → WordBegins table text at → at < length text → Before at → IsRun table text (word at (run_at table text at))
  run_at_lem at b h before =
      let n = next table text at b h in
      record {
        some = n.some;
        inside = n.inside;
        folded = word_folded at;
        letters = word_letters at;
        before = before h;
        behind = word_behind at b.inside;
      }

  -- the next word begins behind the separator that ends this one
  next_apart : (at : ℕ) → WordBegins table text at → at < length text → start_from table text (at + length (run_at table text at)) < length text
      → at + length (run_at table text at) < start_from table text (at + length (run_at table text at))
  next_apart at b h l = go (below_or_not e (start_from table text e))
    where
      e : ℕ
      e = at + length (run_at table text at)

      n : Next table text at
      n = next table text at b h

      go : (e < start_from table text e) ⊎ (start_from table text e ≤ e) → e < start_from table text e
      go (inl m) = m
      go (inr m) =
          let q : start_from table text e ≡ e = omega (arith, start_least table text e) in
          absurd (n.begun.letter l (ap (λ (k : ℕ). letter_in table (get_or text k 0)) q ∙ word_behind at b.inside (omega arith)))

  before_next : (at : ℕ) → WordBegins table text at → at < length text → Before (start_from table text (at + length (run_at table text at)))
  before_next at b h l p q = between (at + length (run_at table text at)) p (omega (arith, next_apart at b h l)) (omega arith)

  -- all words from a position on
  runs_from : (n at : ℕ) → length (words_at table text at) ≡ n → WordBegins table text at → Before at → All (IsRun table text) (words_at table text at)
  runs_from zero at e b before = go (words_at table text at) e
    where
      go : (ws : List TextWord) → length ws ≡ 0 → All (IsRun table text) ws
      go [] e = tt
      go (w ∷ ws) e = absurd (omega arith)
  runs_from (suc n) at e b before =
      let h : at < length text = some_left table text at (omega arith) in
      let x = next table text at b h in
      rw x.words
      (run_at_lem at b h before, runs_from n (start_from table text (at + length (run_at table text at))) (omega (arith, ap length x.words)) x.begun (before_next at b h))

  order_from : (n at : ℕ) → length (words_at table text at) ≡ n → WordBegins table text at → InOrder (words_at table text at)
  order_from zero at e b = go (words_at table text at) e
    where
      go : (ws : List TextWord) → length ws ≡ 0 → InOrder ws
      go [] e = tt
      go (w ∷ ws) e = absurd (omega arith)
  order_from (suc n) at e b =
      let h : at < length text = some_left table text at (omega arith) in
      let x = next table text at b h in
      let m : ℕ = start_from table text (at + length (run_at table text at)) in
      rw x.words (later at m (next_apart at b h), order_from n m (omega (arith, ap length x.words)) x.begun)
    where
      later : (at m : ℕ) → (m < length text → at + length (run_at table text at) < m) → All (λ (v : TextWord). at + length (run_at table text at) < v.offset) (words_at table text m)
      later at m a = go (below_or_not m (length text))
        where
          begin-later : All (λ (v : TextWord). m ≤ v.offset) (words_at table text m)
          begin-later = words_after table text m

          go : (m < length text) ⊎ (length text ≤ m) → All (λ (v : TextWord). at + length (run_at table text at) < v.offset) (words_at table text m)
          go (inl h) = all_imp (λ (v : TextWord). m ≤ v.offset) (λ (v : TextWord). at + length (run_at table text at) < v.offset) (λ v l. omega (arith, a h)) (words_at table text m) begin-later
          go (inr h) = rw (words_end table text m h) tt

  -- a byte that is in none of the words from a position on is a separator
  abbrev Apart : ℕ → TextWord → Type 0
  Apart p w = (p < w.offset) ⊎ (w.offset + length w.spelling ≤ p)

  separators_from : (n at : ℕ) → length (words_at table text at) ≡ n → WordBegins table text at → (p : ℕ) → at ≤ p → p < length text → All (Apart p) (words_at table text at) → letter_in table (get_or text p 0) ≡ 0
  separators_from zero at e b p l h a = absurd (omega (arith, ap length (next table text at b (omega arith)).words))
  separators_from (suc n) at e b p l h a =
      let x = next table text at b (omega arith) in
      let m : ℕ = start_from table text (at + length (run_at table text at)) in
      let all : All (Apart p) (word at (run_at table text at) ∷ words_at table text m) = rw x.words at a in
      go m all.0 (below_or_not p m) (separators_from n m (omega (arith, ap length x.words)) x.begun p) (between (at + length (run_at table text at)) p) all.1
    where
      go : (m : ℕ) → Apart p (word at (run_at table text at)) → (p < m) ⊎ (m ≤ p) → (m ≤ p → p < length text → All (Apart p) (words_at table text m) → letter_in table (get_or text p 0) ≡ 0)
          → (at + length (run_at table text at) ≤ p → p < m → letter_in table (get_or text p 0) ≡ 0) → All (Apart p) (words_at table text m) → letter_in table (get_or text p 0) ≡ 0
      go m (inl q) s ih gap rest = absurd (omega arith)
      go m (inr q) (inl s) ih gap rest = gap q s
      go m (inr q) (inr s) ih gap rest = ih s h rest

  pub words_exact : LongestRuns table text
  words_exact =
      let b : WordBegins table text (start_from table text 0) = begins table text 0 (omega arith) in
      rw-words b
    where
      rw-words : WordBegins table text (start_from table text 0) → LongestRuns table text
      rw-words b =
          record {
            runs = rw (words_first table text) (runs_from (length (words_at table text (start_from table text 0))) (start_from table text 0) refl b (λ h p q. between 0 p (omega arith) (omega arith)));
            in_order = rw (words_first table text) (order_from (length (words_at table text (start_from table text 0))) (start_from table text 0) refl b);
            separators = λ p h a. seps p h (rw (words_first table text) at a) (below_or_not p (start_from table text 0));
          }
        where
          seps : (p : ℕ) → p < length text → All (Apart p) (words_at table text (start_from table text 0)) → (p < start_from table text 0) ⊎ (start_from table text 0 ≤ p) → letter_in table (get_or text p 0) ≡ 0
          seps p h a (inl l) = between 0 p (omega arith) l
          seps p h a (inr l) = separators_from (length (words_at table text (start_from table text 0))) (start_from table text 0) refl b p l h a

-- ---- every table that keeps the rules

module _ (table : List ℕ) (rule : is_table table ≡ true) where
  -- a letter is one that the table keeps
  entry_spelled : (x : ℕ) → (letter_in table x ≡ 0 → ⊥) → is_spelling table (letter_in table x) ≡ true
  entry_spelled x n = is_spelling_lem table (letter_in table x) n (kept (table_entry table rule x (inside (below_or_not x (length table)))))
    where
      inside : (x < length table) ⊎ (length table ≤ x) → x < length table
      inside (inl h) = h
      inside (inr h) = absurd (n (get_or-eq_default table 0 h))

      kept : (letter_in table x ≡ 0) ⊎ (letter_in table (letter_in table x) ≡ letter_in table x) → letter_in table (letter_in table x) ≡ letter_in table x
      kept (inl e) = absurd (n e)
      kept (inr e) = e

  run_spelled : (text : List ℕ) (w : TextWord) → IsRun table text w → is_spelled table w.spelling ≡ true
  unfolding is_spelled
  run_spelled text w r =
      and_true (ltb 0 (length w.spelling)) (all_pass (is_spelling table) w.spelling) (lt-ltb 0 (length w.spelling) r.some)
      (pass_of_all (is_spelling table) w.spelling (all_of_at (λ (x : ℕ). is_spelling table x ≡ true) w.spelling 0 at))
    where
      at : (i : ℕ) → i < length w.spelling → is_spelling table (get_or w.spelling i 0) ≡ true
      at i h =
          let s : length (take (length w.spelling) (drop w.offset text)) ≡ length w.spelling = sym (length-map (take (length w.spelling) (drop w.offset text)) (letter_in table)) ∙ sym (ap length r.folded) in
          let e : get_or w.spelling i 0 ≡ letter_in table (get_or text (w.offset + i) 0) =
          ap (λ (xs : List ℕ). get_or xs i 0) r.folded
          ∙ get_d_map (letter_in table) (take (length w.spelling) (drop w.offset text)) i 0 0 (omega arith)
          ∙ ap (letter_in table) (get_or-take (length w.spelling) (drop w.offset text) i 0 h ∙ get_or-drop w.offset text i 0) in
          rw e (entry_spelled (get_or text (w.offset + i) 0) (r.letters i h))

  pub words_spelled : (text : List ℕ) → All (λ (w : TextWord). is_spelled table w.spelling ≡ true) (text_words table text)
  words_spelled text = all_imp (IsRun table text) (λ (w : TextWord). is_spelled table w.spelling ≡ true) (run_spelled text) (text_words table text) (words_exact table text).runs

  ranks_sized : (list text : List ℕ) → length (text_ranks table list text) ≡ length (text_words table text)
  unfolding text_ranks
  ranks_sized list text = length-map (text_words table text) (λ (w : TextWord). list_rank (list_words list) w.spelling)

  pub ranks_written : (list text z : List ℕ) → (read_text_answer table list text z).refusal ≡ 0
      → (take (length (text_words table text)) (read_text_exit table list text z) ≡ text_ranks table list text)
      × (drop (length (text_words table text)) (read_text_exit table list text z) ≡ drop (length (text_words table text)) z)
  unfolding read_text_exit
  ranks_written list text z e =
      let f : read_text_exit table list text z ≡ text_ranks table list text ++ drop (length (text_ranks table list text)) z =
      filled_front (read_text_answer table list text z) (text_ranks table list text) z (eq-eqb (read_text_answer table list text z).refusal 0 e) in
      rw (← ranks_sized list text, f) (take-append_seam (text_ranks table list text) (drop (length (text_ranks table list text)) z), drop-append_seam (text_ranks table list text) (drop (length (text_ranks table list text)) z))

  pub rank_of_word : (list text z : List ℕ) (p : ℕ) → (read_text_answer table list text z).refusal ≡ 0 → p < length (text_words table text)
      → (get_or (text_ranks table list text) p 0 < list_size list)
      × (get_or (list_words list) (get_or (text_ranks table list text) p 0) [] ≡ get_or (map (λ (w : TextWord). w.spelling) (text_words table text)) p [])
  unfolding text_ranks is_listed
  rank_of_word list text z p e h =
      let a = accepted_accepts table list text z e in
      let w : TextWord = get_or (text_words table text) p (word 0 []) in
      let i : is_in (list_words list) w.spelling ≡ true =
      all_at (λ (v : TextWord). is_in (list_words list) v.spelling ≡ true) (text_words table text) (word 0 []) p (all_of_pass (λ (v : TextWord). is_in (list_words list) v.spelling) (text_words table text) a.listed) h in
      let r : get_or (text_ranks table list text) p 0 ≡ list_rank (list_words list) w.spelling = get_d_map (λ (v : TextWord). list_rank (list_words list) v.spelling) (text_words table text) p 0 (word 0 []) h in
      let s : get_or (map (λ (v : TextWord). v.spelling) (text_words table text)) p [] ≡ w.spelling = get_d_map (λ (v : TextWord). v.spelling) (text_words table text) p [] (word 0 []) h in
      (omega (arith, r, (word_lists_exact table list a.rules).sized, list_rank_below (list_words list) w.spelling i), ap (λ (n : ℕ). get_or (list_words list) n []) r ∙ sym (list_rank_stands (list_words list) w.spelling i) ∙ sym s)

  -- an answer of 14 comes from the last test
  last_test : (t₁ t₂ t₃ t₄ t₅ : Bool) (n at to : ℕ)
      → first_of ((t₁ ⇒ refused refusal_vocabulary) ∷ (t₂ ⇒ refused refusal_words) ∷ (t₃ ⇒ refused refusal_short_slice) ∷ (t₄ ⇒ refused refusal_word_list) ∷ (t₅ ⇒ refused_at refusal_unlisted to) ∷ []) (accepted n) ≡ refused_at refusal_unlisted at
      → (t₅ ≡ true) × (to ≡ at)
  unfolding first_of
  last_test true t₂ t₃ t₄ t₅ n at to e = let q : ◌≡◌ {A = ℕ} 1 14 = ap (λ (a : Answer). a.refusal) e in absurd (omega arith)
  last_test false true t₃ t₄ t₅ n at to e = let q : ◌≡◌ {A = ℕ} 2 14 = ap (λ (a : Answer). a.refusal) e in absurd (omega arith)
  last_test false false true t₄ t₅ n at to e = let q : ◌≡◌ {A = ℕ} 5 14 = ap (λ (a : Answer). a.refusal) e in absurd (omega arith)
  last_test false false false true t₅ n at to e = let q : ◌≡◌ {A = ℕ} 13 14 = ap (λ (a : Answer). a.refusal) e in absurd (omega arith)
  last_test false false false false true n at to e = (refl, ap (λ (a : Answer). a.value) e)
  last_test false false false false false n at to e = let q : ◌≡◌ {A = ℕ} 0 14 = ap (λ (a : Answer). a.refusal) e in absurd (omega arith)

  pub unlisted_word : (list text z : List ℕ) (at : ℕ) → read_text_answer table list text z ≡ refused_at refusal_unlisted at
      → (unlisted_place table list text < length (text_words table text))
      × (get_or (map (λ (w : TextWord). w.offset) (text_words table text)) (unlisted_place table list text) 0 ≡ at)
      × (get_or (map (is_listed list) (text_words table text)) (unlisted_place table list text) true ≡ false)
      × ((p : ℕ) → p < unlisted_place table list text → get_or (map (is_listed list) (text_words table text)) p true ≡ true)
  unfolding read_text_answer vocabulary_case words_case first_unlisted unlisted_place
  unlisted_word list text z at e =
      let t = last_test (outside 1 (max_vocabulary 128) (list_size list)) (ltb max_words (length (text_words table text))) (ltb (length z) (length (text_words table text))) (not (is_list table list))
      (not (all_pass (is_listed list) (text_words table text))) (length (text_words table text)) at (first_unlisted table list text) e in
      let u : ℕ = first_where (λ (w : TextWord). not (is_listed list w)) (text_words table text) in
      let h : u < length (text_words table text) =
      first_where_inside (λ (w : TextWord). not (is_listed list w)) (is_listed list) (λ x. refl) (text_words table text) (not-true (all_pass (is_listed list) (text_words table text)) t.0) in (
        h,
        t.1,
        get_d_map (is_listed list) (text_words table text) u true (word 0 []) h
            ∙ not-true (is_listed list (get_or (text_words table text) u (word 0 []))) (first_where_passes (λ (w : TextWord). not (is_listed list w)) (text_words table text) (word 0 []) h),
        λ p l.
            let m : p < length (text_words table text) = omega (arith, l, h) in
            get_d_map (is_listed list) (text_words table text) p true (word 0 []) m
            ∙ listed-before p m (is_listed list (get_or (text_words table text) p (word 0 []))) refl l,
      )
    where
      listed-before : (p : ℕ) → p < length (text_words table text) → (t : Bool) → is_listed list (get_or (text_words table text) p (word 0 [])) ≡ t
          → p < first_where (λ (w : TextWord). not (is_listed list w)) (text_words table text) → is_listed list (get_or (text_words table text) p (word 0 [])) ≡ true
      listed-before p m true q l = q
      listed-before p m false q l = absurd (omega (arith, first_where_most (λ (w : TextWord). not (is_listed list w)) (text_words table text) (word 0 []) p m (ap not q)))

  pub slice_untouched : (list text z : List ℕ) → ((read_text_answer table list text z).refusal ≡ 0 → ⊥) → read_text_exit table list text z ≡ z
  unfolding read_text_exit
  slice_untouched list text z n = filled_not (read_text_answer table list text z) (text_ranks table list text) z (ne_eqb (read_text_answer table list text z).refusal 0 n)

  pub exit_length : (list text z : List ℕ) → length (read_text_exit table list text z) ≡ length z
  unfolding read_text_exit
  exit_length list text z = go (same_or_not (read_text_answer table list text z).refusal 0)
    where
      go : ((read_text_answer table list text z).refusal ≡ 0) ⊎ ((read_text_answer table list text z).refusal ≡ 0 → ⊥) → length (read_text_exit table list text z) ≡ length z
      go (inl e) =
          fills_front.same_length (read_text_answer table list text z) (text_ranks table list text) z (omega (arith, ranks_sized list text, (accepted_accepts table list text z e).room))
      go (inr n) = ap length (slice_untouched list text z n)

pub reading_of_tables : ReadingOfTables
reading_of_tables table rule =
    record {
      words = words_exact table;
      spelled = words_spelled table rule;
      accepts = accepts_accepted table;
      accepted_only = accepted_accepts table;
      written = ranks_written table rule;
      ranks = rank_of_word table rule;
      unlisted = unlisted_word table rule;
      same_length = exit_length table rule;
      untouched = slice_untouched table rule;
    }
