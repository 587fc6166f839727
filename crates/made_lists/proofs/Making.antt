-- What the call that makes a word list returns and writes. Assumes nothing.
use Prim.Native.Nat.{ℕ, ◌+◌, ◌≤◌, ◌<◌}
use mathlib.Core.Path.{◌≡◌, refl, sym, ap, ◌∙◌}
use mathlib.Core.Bool.{Bool, true, false, cond}
use mathlib.Core.Logic.{◌⊎◌, inl, inr}
use mathlib.Core.List.{List, ◌++◌}
use native.Mathlib.Omega.{arith}
use borrow.Author.Tests.{ltb-false}
use lib.Dec.{ltb}
use lib.ListN.{length, take, drop}
use lib.Seq.{take_at}
use Rattle.base.proofs.Answers.{none_holds, filled_not, filled_front}
use Rattle.base.proofs.Fronts.{take_front, drop_front}
use Rattle.base.proofs.Tests.{or_neither}
use Rattle.base.specs.Answers.{accepted, refused, is_accepted, front}
use Rattle.base.specs.Refusals.{refusal_short_slice, refusal_list_making}
use Rattle.base.specs.Texts.{max_words, words_case}
use Rattle.lexicon.proofs.Calls.{accepts_accepted}
use Rattle.lexicon.specs.Letters.{is_table}
use Rattle.lexicon.specs.Reading.{text_words, text_ranks, read_text_answer, read_text_exit}
use Rattle.list_calls.proofs.Calls.{too_many_words_lem, too_long, too_many_distinct, list_too_long, ranks_too_long, makes}
use Rattle.list_calls.specs.Making.{max_list_text, max_list_words, made_words, made_list, made_ranks, list_making_case, list_room_case, make_list_answer, list_made, make_list_exit, make_ranks_exit}
use Rattle.made_lists.proofs.Made.{made_of_tables, made_accepts}
use Rattle.made_lists.specs.Made.{Makes, MakingExact, MakingOfTables}

-- a slice whose front was written has that in front, and behind it what it had
front_cut : (xs slice : List ℕ) → (take (length xs) (front xs slice) ≡ xs) × (drop (length xs) (front xs slice) ≡ drop (length xs) slice)
front_cut xs slice =
    let e : length xs + 0 ≡ length xs = omega arith in
    (take_front xs slice, rw e at (drop_front xs slice 0))

module _ (table text y z : List ℕ) where
  answered : (list_made table text y z).answer ≡ make_list_answer table text y z
  unfolding list_made
  answered = refl

  accepts : Makes table text y z → make_list_answer table text y z ≡ accepted 0
  accepts m = makes table text y z m.few_words m.short_text m.few_distinct m.list_room m.ranks_room

  accepted_makes : is_accepted (make_list_answer table text y z) ≡ true → Makes table text y z
  unfolding make_list_answer words_case list_making_case list_room_case
  accepted_makes e =
      let n = none_holds _ (accepted 0) (refl, (refl, (refl, tt))) e in
      let a = or_neither (ltb max_list_text (length text)) (ltb max_list_words (length (made_words table text))) n.1.0 in
      let b = or_neither (ltb (length y) (length (made_list table text))) (ltb (length z) (length (text_words table text))) n.1.1.0 in
      record {
        few_words = ltb-false max_words (length (text_words table text)) n.0;
        short_text = ltb-false max_list_text (length text) a.0;
        few_distinct = ltb-false max_list_words (length (made_words table text)) a.1;
        list_room = ltb-false (length y) (length (made_list table text)) b.0;
        ranks_room = ltb-false (length z) (length (text_words table text)) b.1;
      }

  -- how much is written, or nothing
  bytes_if : (t : Bool) → is_accepted (make_list_answer table text y z) ≡ t → (list_made table text y z).bytes ≡ cond t (length (made_list table text)) 0
  unfolding list_made
  bytes_if t e = ap (λ (b : Bool). cond b (length (made_list table text)) 0) e

  words_if : (t : Bool) → is_accepted (make_list_answer table text y z) ≡ t → (list_made table text y z).words ≡ cond t (length (text_words table text)) 0
  unfolding list_made
  words_if t e = ap (λ (b : Bool). cond b (length (text_words table text)) 0) e

  -- what is left in the slices
  list_exit : Makes table text y z → make_list_exit table text y z ≡ front (made_list table text) y
  unfolding make_list_exit front
  list_exit m = filled_front (make_list_answer table text y z) (made_list table text) y (ap is_accepted (accepts m))

  ranks_exit : Makes table text y z → make_ranks_exit table text y z ≡ front (made_ranks table text) z
  unfolding make_ranks_exit front
  ranks_exit m = filled_front (make_list_answer table text y z) (made_ranks table text) z (ap is_accepted (accepts m))

  exits_refused : is_accepted (make_list_answer table text y z) ≡ false → (make_list_exit table text y z ≡ y) × (make_ranks_exit table text y z ≡ z)
  unfolding make_list_exit make_ranks_exit
  exits_refused e = (filled_not (make_list_answer table text y z) (made_list table text) y e, filled_not (make_list_answer table text y z) (made_ranks table text) z e)

  bytes_are : Makes table text y z → (list_made table text y z).bytes ≡ length (made_list table text)
  bytes_are m = bytes_if true (ap is_accepted (accepts m))

  words_are : Makes table text y z → (list_made table text y z).words ≡ length (text_words table text)
  words_are m = words_if true (ap is_accepted (accepts m))

  list_cut : Makes table text y z
      → (take (list_made table text y z).bytes (make_list_exit table text y z) ≡ made_list table text)
      × (drop (list_made table text y z).bytes (make_list_exit table text y z) ≡ drop (list_made table text y z).bytes y)
  list_cut m = rw (bytes_are m, list_exit m) (front_cut (made_list table text) y)

  module _ (rule : is_table table ≡ true) where
    ranks-long : length (text_words table text) ≡ length (made_ranks table text)
    ranks-long = sym (made_of_tables table text rule).ranks_number

    ranks-cut : Makes table text y z
        → (take (list_made table text y z).words (make_ranks_exit table text y z) ≡ made_ranks table text)
        × (drop (list_made table text y z).words (make_ranks_exit table text y z) ≡ drop (list_made table text y z).words z)
    ranks-cut m = rw (words_are m, ranks_exit m, ranks-long) (front_cut (made_ranks table text) z)

    -- the list that was written reads the text
    read_again : (q : List ℕ) → Makes table text y z → 1 ≤ length (text_words table text) → length (text_words table text) ≤ length q
        → (read_text_answer table (made_list table text) text q ≡ accepted (length (text_words table text)))
        × (take (length (text_words table text)) (read_text_exit table (made_list table text) text q) ≡ made_ranks table text)
    unfolding read_text_exit
    read_again q m some room =
        let e : read_text_answer table (made_list table text) text q ≡ accepted (length (text_words table text))
        = accepts_accepted table (made_list table text) text q (made_accepts table text rule q m.few_words m.few_distinct some room) in (
          e,
          rw (filled_front (read_text_answer table (made_list table text) text q) (text_ranks table (made_list table text) text) q (ap is_accepted e), (made_of_tables table text rule).read_back, ranks-long)
              (ranks-taken (made_ranks table text) q),
        )
      where
        ranks-taken : (xs slice : List ℕ) → take (length xs) (xs ++ drop (length xs) slice) ≡ xs
        ranks-taken xs slice = take_at xs (drop (length xs) slice) (length xs) refl

    read-by-calls : (q : List ℕ) → Makes table text y z → 1 ≤ length (text_words table text) → length (text_words table text) ≤ length q
        → (read_text_answer table (take (list_made table text y z).bytes (make_list_exit table text y z)) text q ≡ accepted (list_made table text y z).words)
        × (take (list_made table text y z).words (read_text_exit table (take (list_made table text y z).bytes (make_list_exit table text y z)) text q)
        ≡ take (list_made table text y z).words (make_ranks_exit table text y z))
    read-by-calls q m some room =
        let r = read_again q m some room in
        rw ((list_cut m).0, (ranks-cut m).0, words_are m) r

    making-exact-of : MakingExact table text y z
    making-exact-of = record {
      accepted_if = (λ e. accepted_makes (ap is_accepted (sym answered) ∙ e), λ m. ap is_accepted (answered ∙ accepts m));
      returned = λ m. (answered ∙ accepts m, bytes_are m, words_are m);
      written_list = list_cut;
      written_ranks = ranks-cut;
      too_many_words = λ h. answered ∙ too_many_words_lem table text y z h;
      too_much = λ few h. answered ∙ much few h;
      too_short = λ few short distinct h. answered ∙ short_room few short distinct h;
      zeros = λ e. (bytes_if false (ap is_accepted (sym answered) ∙ e), words_if false (ap is_accepted (sym answered) ∙ e));
      untouched = λ e. exits_refused (ap is_accepted (sym answered) ∙ e);
      read_by_calls = read-by-calls;
    }
      where
        much : length (text_words table text) ≤ max_words → (max_list_text < length text) ⊎ (max_list_words < length (made_words table text)) → make_list_answer table text y z ≡ refused refusal_list_making
        much few (inl h) = too_long table text y z few h
        much few (inr h) = too_many_distinct table text y z few h

        short_room : length (text_words table text) ≤ max_words → length text ≤ max_list_text → length (made_words table text) ≤ max_list_words
            → (length y < length (made_list table text)) ⊎ (length z < length (text_words table text)) → make_list_answer table text y z ≡ refused refusal_short_slice
        short_room few short distinct (inl h) = list_too_long table text y z few short distinct h
        short_room few short distinct (inr h) = ranks_too_long table text y z few short distinct h

-- the theorem
pub making_of_tables : MakingOfTables
making_of_tables table text y z rule = making-exact-of table text y z rule
