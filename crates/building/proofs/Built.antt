-- A text that measuring accepts is built where the slices are long enough for its sizes, and refused by 5 where they are not. Assumes nothing.
use Prim.Native.Nat.{ℕ, ◌≤◌}
use mathlib.Core.Path.{◌≡◌, refl, sym, ap, ◌∙◌}
use mathlib.Core.Bool.{true, false}
use mathlib.Core.List.{List}
use lib.ListN.{length}
use Rattle.std.specs.Prelude.{Ok, Err}
use Rattle.base.specs.declared.refusal.Refused.{Refused}
use Rattle.base.specs.Answers.{accepted, refused, refused_at, is_accepted}
use Rattle.base.specs.Outcomes.{number_of}
use Rattle.dense.specs.Code.{Closing}
use Rattle.dense.specs.Streams.{stream}
use Rattle.directory.specs.Counters.{max_bytes}
use Rattle.index.specs.declared.Shape.{Shape}
use Rattle.index.specs.Arrays.{Arrays, index_of}
use Rattle.index.specs.Entries.{is_shorter, build_answer, build_exit}
use Rattle.index.specs.Exact.{WithinLimits, IsText}
use Rattle.index.proofs.Refusals.{some_number, build_stays, build_short}
use Rattle.index.proofs.Texts.{stream_short}
use Rattle.measuring.specs.declared.IndexSizes.{IndexSizes}
use Rattle.measuring.specs.declared.Measured.{Measured}
use Rattle.measuring.specs.Sizes.{sizes_of, measured, measured_of, measure_answer}
use Rattle.measuring.proofs.Sizes.{measure_passed, measured_bytes, taken_up, turned_down, its_answer, its_sizes}
use Rattle.writing.specs.Slices.{too_short, Buildable, fronts}
use Rattle.writing.proofs.Builds.{build_done, short_is}

-- ---- what measuring gives

-- what is known of a text that is measured: it is one of the vocabulary, within the limits, and its sizes are those that were measured
pub record Known (s : ℕ) (shape : Shape) (t : List ℕ) (sizes : IndexSizes) : Type 0 where
  pub taken : is_accepted (measure_answer s shape t) ≡ true
  pub limits : WithinLimits s shape
  pub text : IsText shape.vocabulary t
  pub sizes_are : sizes ≡ sizes_of s shape t
  pub bytes : sizes.bytes ≡ length (stream s t)

module _ (s : ℕ) (shape : Shape) (t : List ℕ) where
  pub known : Closing s → (sizes : IndexSizes) → measured (Ok sizes) ≡ measured_of s shape t → Known s shape t sizes
  known within sizes is =
      let taken = taken_up s shape t (its_answer s shape t is) refl in
      let passed = measure_passed s shape t taken in
      let own = its_sizes s shape t is refl in
      record {
        taken = taken;
        limits = passed.0;
        text = passed.1;
        sizes_are = own;
        bytes = ap (λ (x : IndexSizes). x.bytes) own ∙ measured_bytes s shape t within taken;
      }

  -- a text that is refused
  pub not_taken : (e : Refused) → measured (Err e) ≡ measured_of s shape t → (refused_at (number_of e.refusal) e.at ≡ measure_answer s shape t) × (is_accepted (measure_answer s shape t) ≡ false)
  not_taken e is = let answer = its_answer s shape t is in
      (answer, turned_down s shape t answer (some_number e.refusal))

-- ---- a text that is measured

module _ (s : ℕ) (within : Closing s) (shape : Shape) (limits : WithinLimits s shape) (t : List ℕ) (text : IsText shape.vocabulary t) (n : ℕ) (is : n ≡ length (stream s t)) where
  -- its L is not too large to be tested
  pub bytes_tested : n ≤ max_bytes
  bytes_tested = rw is (stream_short s shape t within limits text)

  module _ (z : Arrays) where
    -- the slices are too short for the index exactly if they are for so many bytes
    shorter : too_short s shape n z ≡ is_shorter z (index_of s shape t)
    shorter = ap (λ (l : ℕ). too_short s shape l z) is ∙ short_is s shape t within limits text z

    -- where they are, the call is refused by 5
    pub short_built : too_short s shape n z ≡ true → (refused 5 ≡ build_answer s shape t z) × (z ≡ build_exit s shape t z)
    short_built e =
        let short = build_short s shape t z limits text (sym shorter ∙ e) in
        (sym short, sym (build_stays s shape t z (ap is_accepted short)))

    -- where they are not, the index can be built
    pub long_buildable : too_short s shape n z ≡ false → Buildable s shape t z
    long_buildable e = record { closing = within; limits = limits; text = text; room = sym shorter ∙ e }

    -- and when it is written, the call has built it
    pub long_built : (a : Arrays) → a ≡ fronts (index_of s shape t) z → too_short s shape n z ≡ false → (accepted n ≡ build_answer s shape t z) × (a ≡ build_exit s shape t z)
    long_built a w e = build_done s shape t z (long_buildable e) _ _ (ap accepted is) w

-- ---- a text that is measured, and accepted

module _ (s : ℕ) (shape : Shape) (t : List ℕ) (within : Closing s) {m : Measured} (is : m ≡ measured_of s shape t) (zero : m.answer.refusal ≡ 0) where
  -- it is a text of the vocabulary, within the limits
  passed : WithinLimits s shape × IsText shape.vocabulary t
  passed = measure_passed s shape t (taken_up s shape t (its_answer s shape t is) zero)

  -- the L that was measured is the length of its stream
  pub measured_size : m.sizes.bytes ≡ length (stream s t)
  measured_size = ap (λ (x : IndexSizes). x.bytes) (its_sizes s shape t is zero) ∙ measured_bytes s shape t within (taken_up s shape t (its_answer s shape t is) zero)

  -- which is not too large to be tested
  pub size_tested : Closing s × WithinLimits s shape × (m.sizes.bytes ≤ max_bytes)
  size_tested = (within, passed.0, bytes_tested s within shape passed.0 t passed.1 m.sizes.bytes measured_size)
