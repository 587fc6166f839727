-- Which calls that check or build are refused, and which are accepted, by their tests in their order. Assumes nothing.
use Prim.Native.Nat.{ℕ, ◌≤◌, ◌<◌}
use mathlib.Core.Path.{◌≡◌, refl, sym, ap, ◌∙◌}
use mathlib.Core.Bool.{Bool, true, false, not}
use mathlib.Core.List.{List, [], ◌∷◌}
use native.Mathlib.Omega.{arith}
use borrow.Author.Tests.{lt-ltb, le-ltb, ltb-false, not-false}
use lib.Dec.{leb}
use lib.ListN.{length}
use Rattle.std.specs.Prelude.{⊤, Result, Ok, Err, MatchResult}
use Rattle.base.specs.declared.Answer.{Answer}
use Rattle.base.specs.declared.refusal.Refusal.{Refusal}
use Rattle.base.specs.declared.refusal.Refusal.TheVariants.{Vocabulary, Words, Blocks, TextRank, ShortSlice, Index, Kind, Phrase, AskedRank, Offset, Place, Page, WordList, Unlisted, Stream, Sizes, ListMaking, Table, Documents}
use Rattle.base.specs.Outcomes.{number_of, number_of_test}
use Rattle.base.specs.Lists.{first_where}
use Rattle.base.specs.Refusals.{refusal_vocabulary, refusal_words, refusal_blocks, refusal_text_rank, refusal_short_slice, refusal_index}
use Rattle.base.specs.Answers.{accepted, refused, refused_at, is_accepted, first_of, NoneHolds, front}
use Rattle.base.specs.Texts.{max_words, outside, ranks_below, words_case, rank_case}
use Rattle.base.proofs.Tests.{false_of, or_false, or_neither}
use Rattle.base.proofs.Answers.{first_here, first_later, first_none, first_append, none_holds, answers, filled_front, filled_not}
use Rattle.base.proofs.Texts.{test_of_below, below_of_test}
use Rattle.dense.specs.Code.{Closing, max_vocabulary, vocabulary_case}
use Rattle.directory.specs.Counters.{blocks_case}
use Rattle.index.specs.declared.Shape.{Shape}
use Rattle.index.specs.Arrays.{Arrays, arrays, index_of, passes}
use Rattle.index.specs.Entries.{is_shorter, blocks_outside, text_cases, short_case, build_answer, filled_arrays, build_exit, index_cases, check_answer, limits_refusal}
use Rattle.index.specs.Exact.{WithinLimits, IsText}
use Rattle.index.proofs.Limits.{limits_tested, tested_limits}

-- ---- the number of the refusal of V, B and b

-- each refusal has a number, which is not 0
pub some_number : (x : Refusal) → number_of x ≡ 0 → ⊥
some_number Vocabulary e = omega arith
some_number Words e = omega arith
some_number Blocks e = omega arith
some_number TextRank e = omega arith
some_number ShortSlice e = omega arith
some_number Index e = omega arith
some_number Kind e = omega arith
some_number Phrase e = omega arith
some_number AskedRank e = omega arith
some_number Offset e = omega arith
some_number Place e = omega arith
some_number Page e = omega arith
some_number WordList e = omega arith
some_number Unlisted e = omega arith
some_number Stream e = omega arith
some_number Sizes e = omega arith
some_number ListMaking e = omega arith
some_number Table e = omega arith
some_number Documents e = omega arith

module _ (s : ℕ) (shape : Shape) where
  pub limits_vocabulary : outside 1 (max_vocabulary s) shape.vocabulary ≡ true → limits_refusal s shape ≡ refusal_vocabulary
  unfolding limits_refusal vocabulary_case
  limits_vocabulary e = ap (λ (a : Answer). a.refusal) (first_here _ _ _ _ e)

  pub limits_blocks : outside 1 (max_vocabulary s) shape.vocabulary ≡ false → blocks_outside shape.block shape.per_superblock ≡ true → limits_refusal s shape ≡ refusal_blocks
  unfolding limits_refusal vocabulary_case blocks_case
  limits_blocks v e = ap (λ (a : Answer). a.refusal) (first_later _ _ _ _ v ∙ first_here _ _ _ _ e)

  pub limits_none : WithinLimits s shape → limits_refusal s shape ≡ 0
  unfolding limits_refusal vocabulary_case blocks_case
  limits_none w =
      let l = limits_tested s shape w in
      ap (λ (a : Answer). a.refusal) (first_later _ _ _ _ l.0 ∙ first_later _ _ _ _ l.1 ∙ first_none (accepted 0))

  -- where V is within its limits, that of B and b decides
  pub limits_by_blocks : outside 1 (max_vocabulary s) shape.vocabulary ≡ false → (r : Result ⊤ Refusal)
      → MatchResult r (λ _. blocks_outside shape.block shape.per_superblock ≡ false) (λ e. (e ≡ Blocks) × (blocks_outside shape.block shape.per_superblock ≡ true))
      → number_of_test r ≡ limits_refusal s shape
  limits_by_blocks v (Ok _) b = sym (limits_none (tested_limits s shape v b))
  limits_by_blocks v (Err e) b = ap number_of b.0 ∙ sym (limits_blocks v b.1)

  -- where there is none, V, B and b are within their limits
  pub limits_zero : limits_refusal s shape ≡ 0 → WithinLimits s shape
  limits_zero e = go (outside 1 (max_vocabulary s) shape.vocabulary) refl (blocks_outside shape.block shape.per_superblock) refl
    where
      go : (t : Bool) → outside 1 (max_vocabulary s) shape.vocabulary ≡ t → (u : Bool) → blocks_outside shape.block shape.per_superblock ≡ u → WithinLimits s shape
      go true v u b = absurd (omega (arith, limits_vocabulary v))
      go false v true b = absurd (omega (arith, limits_blocks v b))
      go false v false b = tested_limits s shape v b

  -- where it is 1, V is outside its limits
  pub vocabulary_outside : limits_refusal s shape ≡ 1 → outside 1 (max_vocabulary s) shape.vocabulary ≡ true
  vocabulary_outside e = go (outside 1 (max_vocabulary s) shape.vocabulary) refl (blocks_outside shape.block shape.per_superblock) refl
    where
      go : (v : Bool) → outside 1 (max_vocabulary s) shape.vocabulary ≡ v → (b : Bool) → blocks_outside shape.block shape.per_superblock ≡ b
          → outside 1 (max_vocabulary s) shape.vocabulary ≡ true
      go true p b q = p
      go false p true q = absurd (omega (arith, limits_blocks p q))
      go false p false q = absurd (omega (arith, limits_none (tested_limits s shape p q)))

  -- where it is not 1, V is within them
  pub vocabulary_inside : (limits_refusal s shape ≡ 1 → ⊥) → outside 1 (max_vocabulary s) shape.vocabulary ≡ false
  vocabulary_inside n = false_of (outside 1 (max_vocabulary s) shape.vocabulary) (λ e. n (limits_vocabulary e))

  -- and where it is neither 1 nor 0, B or b is outside
  pub blocks_outside_lem : (limits_refusal s shape ≡ 1 → ⊥) → (limits_refusal s shape ≡ 0 → ⊥) → blocks_outside shape.block shape.per_superblock ≡ true
  blocks_outside_lem n m = go (blocks_outside shape.block shape.per_superblock) refl
    where
      go : (b : Bool) → blocks_outside shape.block shape.per_superblock ≡ b → blocks_outside shape.block shape.per_superblock ≡ true
      go true q = q
      go false q = absurd (m (limits_none (tested_limits s shape (vocabulary_inside n) q)))

  -- ---- the call that checks

  -- a refusal of theirs is the answer of the check, and else passing decides
  pub check_refused : (a : Arrays) → (limits_refusal s shape ≡ 0 → ⊥) → check_answer s shape a ≡ refused (limits_refusal s shape)
  unfolding check_answer index_cases vocabulary_case blocks_case
  check_refused a n = go (outside 1 (max_vocabulary s) shape.vocabulary) refl (blocks_outside shape.block shape.per_superblock) refl
    where
      go : (t : Bool) → outside 1 (max_vocabulary s) shape.vocabulary ≡ t → (u : Bool) → blocks_outside shape.block shape.per_superblock ≡ u → check_answer s shape a ≡ refused (limits_refusal s shape)
      go true v u b = first_here _ _ _ _ v ∙ ap refused (sym (limits_vocabulary v))
      go false v true b = first_later _ _ _ _ v ∙ first_here _ _ _ _ b ∙ ap refused (sym (limits_blocks v b))
      go false v false b = absurd (n (limits_none (tested_limits s shape v b)))

  -- and so is a refusal that has their number
  pub check_numbered : (a : Arrays) (x : Refusal) → number_of x ≡ limits_refusal s shape → refused (number_of x) ≡ check_answer s shape a
  check_numbered a x e = ap refused e ∙ sym (check_refused a (λ z. some_number x (e ∙ z)))

  pub check_fails : (a : Arrays) → WithinLimits s shape → passes s shape a ≡ false → check_answer s shape a ≡ refused refusal_index
  unfolding check_answer index_cases vocabulary_case blocks_case
  check_fails a w e =
      let l = limits_tested s shape w in
      first_later _ _ _ _ l.0 ∙ first_later _ _ _ _ l.1 ∙ first_here _ _ _ _ (ap not e)

module _ (s : ℕ) (within : Closing s) (shape : Shape) (a : Arrays) where
  -- a call that checks is accepted exactly if V, B and b are within their limits and the arrays pass
  pub check_limits : check_answer s shape a ≡ accepted 0 → WithinLimits s shape × (passes s shape a ≡ true)
  unfolding check_answer index_cases vocabulary_case blocks_case
  check_limits e =
      let n : NoneHolds (index_cases s shape a) = none_holds (index_cases s shape a) (accepted 0) (refl, (refl, (refl, tt))) (ap is_accepted e) in
      (tested_limits s shape n.0 n.1.0, not-false (passes s shape a) n.1.1.0)

  pub limits_check : WithinLimits s shape → passes s shape a ≡ true → check_answer s shape a ≡ accepted 0
  unfolding check_answer index_cases vocabulary_case blocks_case
  limits_check w e =
      let l = limits_tested s shape w in
      answers (index_cases s shape a) (accepted 0) (l.0, (l.1, (ap not e, tt)))

-- ---- the tests of a text to index

module _ (s : ℕ) (shape : Shape) (t : List ℕ) (x : Answer) where
  -- 1: V is outside its limits
  pub text_vocabulary : outside 1 (max_vocabulary s) shape.vocabulary ≡ true → first_of (text_cases s shape t) x ≡ refused refusal_vocabulary
  unfolding text_cases vocabulary_case
  text_vocabulary e = first_here _ _ _ _ e

  module _ (vocabulary : outside 1 (max_vocabulary s) shape.vocabulary ≡ false) where
    -- 2: the text is too long
    pub text_words_lem : max_words < length t → first_of (text_cases s shape t) x ≡ refused refusal_words
    unfolding text_cases vocabulary_case words_case
    text_words_lem h = first_later _ _ _ _ vocabulary ∙ first_here _ _ _ _ (lt-ltb max_words (length t) h)

    module _ (words : length t ≤ max_words) where
      -- 3: B, b or S is outside its limits
      pub text_blocks : blocks_outside shape.block shape.per_superblock ≡ true → first_of (text_cases s shape t) x ≡ refused refusal_blocks
      unfolding text_cases vocabulary_case words_case blocks_case
      text_blocks e = first_later _ _ _ _ vocabulary ∙ first_later _ _ _ _ (le-ltb max_words (length t) words) ∙ first_here _ _ _ _ e

  module _ (limits : WithinLimits s shape) (words : length t ≤ max_words) where
    -- 4: a rank is not below V
    pub text_rank : ranks_below shape.vocabulary t ≡ false → first_of (text_cases s shape t) x ≡ refused_at refusal_text_rank (first_where (λ (w : ℕ). leb shape.vocabulary w) t)
    unfolding text_cases vocabulary_case words_case blocks_case rank_case
    text_rank e =
        first_later _ _ _ _ (limits_tested s shape limits).0 ∙ first_later _ _ _ _ (le-ltb max_words (length t) words)
        ∙ first_later _ _ _ _ (limits_tested s shape limits).1 ∙ first_here _ _ _ _ (ap not e)

module _ (s : ℕ) (shape : Shape) (t : List ℕ) where
  -- none of them holds of a text of the vocabulary, within the limits
  pub text_tests : WithinLimits s shape → IsText shape.vocabulary t → NoneHolds (text_cases s shape t)
  unfolding text_cases vocabulary_case words_case blocks_case rank_case
  text_tests limits text =
      let l = limits_tested s shape limits in
      (l.0, (le-ltb max_words (length t) text.short, (l.1, (ap not (test_of_below shape.vocabulary t text.ranks), tt))))

  -- and where they refuse nothing, it is one
  pub text_accepted : (x : Answer) → is_accepted (first_of (text_cases s shape t) x) ≡ true → WithinLimits s shape × IsText shape.vocabulary t
  unfolding text_cases vocabulary_case words_case blocks_case rank_case
  text_accepted x e =
      let n : NoneHolds (text_cases s shape t) = none_holds (text_cases s shape t) x (refl, (refl, (refl, (refl, tt)))) e in (
        tested_limits s shape n.0 n.1.1.0,
        record { short = ltb-false _ _ n.1.0; ranks = below_of_test shape.vocabulary t (not-false (ranks_below shape.vocabulary t) n.1.1.1.0) },
      )

-- ---- slices

module _ (r : Answer) (a z : Arrays) where
  -- a refused call leaves them
  pub arrays_stay : is_accepted r ≡ false → filled_arrays r a z ≡ z
  arrays_stay e = λ i. record {
    lengths = filled_not r a.lengths z.lengths e i;
    bytes = filled_not r a.bytes z.bytes e i;
    superblocks = filled_not r a.superblocks z.superblocks e i;
    blocks = filled_not r a.blocks z.blocks e i;
  }

  -- an accepted one fills their fronts
  pub arrays_filled : is_accepted r ≡ true
      → filled_arrays r a z ≡ arrays (front a.lengths z.lengths) (front a.bytes z.bytes) (front a.superblocks z.superblocks) (front a.blocks z.blocks)
  unfolding front
  arrays_filled e = λ i. record {
    lengths = filled_front r a.lengths z.lengths e i;
    bytes = filled_front r a.bytes z.bytes e i;
    superblocks = filled_front r a.superblocks z.superblocks e i;
    blocks = filled_front r a.blocks z.blocks e i;
  }

-- slices are long enough for arrays exactly if each has room for its own
module _ (z a : Arrays) where
  pub room_each : is_shorter z a ≡ false
      → (length a.lengths ≤ length z.lengths) × (length a.bytes ≤ length z.bytes)
      × (length a.superblocks ≤ length z.superblocks) × (length a.blocks ≤ length z.blocks)
  unfolding is_shorter
  room_each e =
      let k = or_neither _ _ e in
      let u = or_neither _ _ k.0 in
      let y = or_neither _ _ u.0 in (
        ltb-false (length z.lengths) (length a.lengths) y.0,
        ltb-false (length z.bytes) (length a.bytes) y.1,
        ltb-false (length z.superblocks) (length a.superblocks) u.1,
        ltb-false (length z.blocks) (length a.blocks) k.1,
      )

  pub each_room : length a.lengths ≤ length z.lengths → length a.bytes ≤ length z.bytes
      → length a.superblocks ≤ length z.superblocks → length a.blocks ≤ length z.blocks → is_shorter z a ≡ false
  unfolding is_shorter
  each_room ls ys us ks =
      or_false _ _ (or_false _ _ (or_false _ _ (le-ltb (length z.lengths) (length a.lengths) ls) (le-ltb (length z.bytes) (length a.bytes) ys)) (le-ltb (length z.superblocks) (length a.superblocks) us)) (le-ltb (length z.blocks) (length a.blocks) ks)

-- ---- the call that builds

module _ (s : ℕ) (shape : Shape) (t : List ℕ) (z : Arrays) where
  -- the tests of the text, and then that of the slices
  pub build_cases : build_answer s shape t z ≡ first_of (text_cases s shape t) (first_of (short_case s shape t z ∷ []) (accepted (length (index_of s shape t).bytes)))
  unfolding build_answer
  build_cases = first_append (text_cases s shape t) (short_case s shape t z ∷ []) (accepted (length (index_of s shape t).bytes))

  -- a refused call leaves the slices
  pub build_stays : is_accepted (build_answer s shape t z) ≡ false → build_exit s shape t z ≡ z
  unfolding build_exit
  build_stays e = arrays_stay (build_answer s shape t z) (index_of s shape t) z e

  -- what an accepted call has passed
  pub build_passed : is_accepted (build_answer s shape t z) ≡ true → WithinLimits s shape × IsText shape.vocabulary t × (is_shorter z (index_of s shape t) ≡ false)
  unfolding build_answer text_cases vocabulary_case words_case blocks_case rank_case short_case
  build_passed e =
      let n = none_holds _ _ (refl, (refl, (refl, (refl, (refl, tt))))) e in
      let w = text_accepted s shape t _ (ap is_accepted (sym build_cases) ∙ e) in
      (w.0, w.1, n.1.1.1.1.0)

  module _ (limits : WithinLimits s shape) (text : IsText shape.vocabulary t) where
    -- 5: a slice is too short
    pub build_short : is_shorter z (index_of s shape t) ≡ true → build_answer s shape t z ≡ refused refusal_short_slice
    unfolding short_case
    build_short e = build_cases ∙ answers (text_cases s shape t) _ (text_tests s shape t limits text) ∙ first_here _ _ _ _ e

    module _ (room : is_shorter z (index_of s shape t) ≡ false) where
      -- a call within the limits, with a text and slices that are long enough, is accepted
      pub build_accepted : build_answer s shape t z ≡ accepted (length (index_of s shape t).bytes)
      unfolding short_case
      build_accepted =
          build_cases ∙ answers (text_cases s shape t) _ (text_tests s shape t limits text) ∙ first_later _ _ _ _ room
          ∙ first_none (accepted (length (index_of s shape t).bytes))

      -- and has the index in front of each slice
      pub build_filled : build_exit s shape t z
          ≡ arrays
          (front (index_of s shape t).lengths z.lengths)
          (front (index_of s shape t).bytes z.bytes)
          (front (index_of s shape t).superblocks z.superblocks)
          (front (index_of s shape t).blocks z.blocks)
      unfolding build_exit
      build_filled = arrays_filled (build_answer s shape t z) (index_of s shape t) z (ap is_accepted build_accepted)
