-- Measuring and building with measured sizes: one after the other is building at once, and other sizes are noticed. Assumes nothing.
use Prim.Native.Nat.{ℕ, suc, ◌*◌, ◌/◌}
use mathlib.Core.Path.{◌≡◌, refl, sym, ap, ◌∙◌}
use mathlib.Core.Bool.{Bool, true, false, cond, not, ◌&&◌}
use mathlib.Core.List.{List, [], ◌∷◌}
use native.Mathlib.Omega.{arith}
use borrow.Author.Tests.{eq-eqb, ne_eqb, eqb-true}
use lib.Dec.{eqb}
use lib.ListN.{length}
use Rattle.base.specs.declared.Answer.{Answer}
use Rattle.base.specs.Refusals.{refusal_short_slice, refusal_sizes}
use Rattle.base.specs.Answers.{accepted, refused, is_accepted, first_of}
use Rattle.base.proofs.Tests.{and_left, and_right, and_true, false_of}
use Rattle.base.proofs.Answers.{first_here, first_later, first_append, first_decided, answers}
use Rattle.dense.specs.Code.{Closing}
use Rattle.dense.specs.Streams.{stream}
use Rattle.directory.proofs.Rows.{superblock_rows_length, block_rows_length}
use Rattle.tree.specs.Nodes.{node_count}
use Rattle.index.specs.declared.Shape.{Shape}
use Rattle.index.specs.Arrays.{Arrays, index_of}
use Rattle.index.specs.Entries.{is_shorter, text_cases, short_case, build_answer, filled_arrays, build_exit}
use Rattle.index.specs.Exact.{WithinLimits, IsText}
use Rattle.index.proofs.Refusals.{text_tests, text_accepted, arrays_stay, room_each, each_room, build_cases, build_stays, build_short, build_accepted}
use Rattle.index.proofs.Texts.{index_superblocks, index_blocks, count_lengths, count_bytes}
use Rattle.measuring.specs.declared.IndexSizes.{IndexSizes}
use Rattle.measuring.specs.declared.Measured.{Measured}
use Rattle.measuring.specs.Sizes.{sizes, no_sizes, sizes_of, same_sizes, sizes_case, measure_answer, measured_of, build_sized_answer, build_sized_exit, HasRoom, SizesExact, SizesAreExact}

-- four sizes are the same exactly if they are equal
same_sizes_lem : (x y : IndexSizes) → x ≡ y → same_sizes x y ≡ true
unfolding same_sizes
same_sizes_lem x y e =
    and_true _ (eqb x.block_rows y.block_rows)
    (and_true _ (eqb x.superblock_rows y.superblock_rows)
    (and_true (eqb x.nodes y.nodes) (eqb x.bytes y.bytes) (eq-eqb _ _ (ap (λ (z : IndexSizes). z.nodes) e)) (eq-eqb _ _ (ap (λ (z : IndexSizes). z.bytes) e)))
    (eq-eqb _ _ (ap (λ (z : IndexSizes). z.superblock_rows) e)))
    (eq-eqb _ _ (ap (λ (z : IndexSizes). z.block_rows) e))

pub sizes_same : (x y : IndexSizes) → same_sizes x y ≡ true → x ≡ y
unfolding same_sizes
sizes_same x y e =
    let three = and_left _ (eqb x.block_rows y.block_rows) e in
    let two = and_left _ (eqb x.superblock_rows y.superblock_rows) three in
    λ i. record {
      nodes = eqb-true x.nodes y.nodes (and_left _ (eqb x.bytes y.bytes) two) i;
      bytes = eqb-true x.bytes y.bytes (and_right (eqb x.nodes y.nodes) _ two) i;
      superblock_rows = eqb-true x.superblock_rows y.superblock_rows (and_right (eqb x.nodes y.nodes && eqb x.bytes y.bytes) (eqb x.superblock_rows y.superblock_rows) three) i;
      block_rows = eqb-true x.block_rows y.block_rows (and_right (eqb x.nodes y.nodes && eqb x.bytes y.bytes && eqb x.superblock_rows y.superblock_rows) (eqb x.block_rows y.block_rows) e) i;
    }

module _ (s : ℕ) (shape : Shape) (t : List ℕ) where
  -- measuring accepts a text of the vocabulary, within the limits
  pub measure_accepts : WithinLimits s shape → IsText shape.vocabulary t → measure_answer s shape t ≡ accepted 0
  unfolding measure_answer
  measure_accepts limits text = answers (text_cases s shape t) (accepted 0) (text_tests s shape t limits text)

  -- and nothing else
  pub measure_passed : is_accepted (measure_answer s shape t) ≡ true → WithinLimits s shape × IsText shape.vocabulary t
  unfolding measure_answer
  measure_passed e = text_accepted s shape t (accepted 0) e

  -- what it gives of a text that it accepts, and of one that it refuses
  pub measured_sizes : is_accepted (measure_answer s shape t) ≡ true → (measured_of s shape t).sizes ≡ sizes_of s shape t
  unfolding measured_of
  measured_sizes e = ap (λ (b : Bool). cond b (sizes_of s shape t) no_sizes) e

  pub measured_zeros : is_accepted (measure_answer s shape t) ≡ false → (measured_of s shape t).sizes ≡ no_sizes
  unfolding measured_of
  measured_zeros e = ap (λ (b : Bool). cond b (sizes_of s shape t) no_sizes) e

  -- an answer of 0 accepts the text, and another refuses it
  pub taken_up : {r : Answer} → r ≡ measure_answer s shape t → r.refusal ≡ 0 → is_accepted (measure_answer s shape t) ≡ true
  taken_up e z = ap is_accepted (sym e) ∙ eq-eqb _ _ z

  pub turned_down : {r : Answer} → r ≡ measure_answer s shape t → (r.refusal ≡ 0 → ⊥) → is_accepted (measure_answer s shape t) ≡ false
  turned_down e n = ap is_accepted (sym e) ∙ ne_eqb _ _ n

  -- all that it returns is the answer and the sizes
  pub measured_as : {m : Measured} → m.answer ≡ measure_answer s shape t → m.sizes ≡ (measured_of s shape t).sizes → m ≡ measured_of s shape t
  unfolding measured_of
  measured_as p q = λ i. record { answer = p i; sizes = q i }

  pub its_answer : {m : Measured} → m ≡ measured_of s shape t → m.answer ≡ measure_answer s shape t
  unfolding measured_of
  its_answer e = ap (λ (x : Measured). x.answer) e

  pub its_sizes : {m : Measured} → m ≡ measured_of s shape t → m.answer.refusal ≡ 0 → m.sizes ≡ sizes_of s shape t
  its_sizes e z = ap (λ (x : Measured). x.sizes) e ∙ measured_sizes (taken_up (its_answer e) z)

  -- past the tests of the text, and where one of them holds
  past : is_accepted (measure_answer s shape t) ≡ true → (x : Answer) → first_of (text_cases s shape t) x ≡ x
  past e x = let w = measure_passed e in answers (text_cases s shape t) x (text_tests s shape t w.0 w.1)

  stopped : is_accepted (measure_answer s shape t) ≡ false → (x : Answer) → first_of (text_cases s shape t) x ≡ measure_answer s shape t
  unfolding measure_answer
  stopped e x = first_decided (text_cases s shape t) (accepted 0) x refl e

  module _ (z : Arrays) where
    -- where measuring is refused, building at once is refused alike
    pub build_stopped : is_accepted (measure_answer s shape t) ≡ false → (build_answer s shape t z ≡ measure_answer s shape t) × (build_exit s shape t z ≡ z)
    build_stopped e =
        let r : build_answer s shape t z ≡ measure_answer s shape t = build_cases s shape t z ∙ stopped e _ in
        (r, build_stays s shape t z (ap is_accepted r ∙ e))

    module _ (given : IndexSizes) where
      -- building with sizes: the test of the sizes stands between those of the text and of the slices
      sized-cases : build_sized_answer s shape given t z
          ≡ first_of (text_cases s shape t) (first_of (sizes_case s shape given t ∷ short_case s shape t z ∷ []) (accepted (length (index_of s shape t).bytes)))
      unfolding build_sized_answer
      sized-cases = first_append (text_cases s shape t) (sizes_case s shape given t ∷ short_case s shape t z ∷ []) (accepted (length (index_of s shape t).bytes))

      sized-stays : is_accepted (build_sized_answer s shape given t z) ≡ false → build_sized_exit s shape given t z ≡ z
      unfolding build_sized_exit
      sized-stays e = arrays_stay (build_sized_answer s shape given t z) (index_of s shape t) z e

      -- where measuring is refused, so is it
      pub sized_stopped : is_accepted (measure_answer s shape t) ≡ false → (build_sized_answer s shape given t z ≡ measure_answer s shape t) × (build_sized_exit s shape given t z ≡ z)
      sized_stopped e =
          let r : build_sized_answer s shape given t z ≡ measure_answer s shape t = sized-cases ∙ stopped e _ in
          (r, sized-stays (ap is_accepted r ∙ e))

      -- with the sizes of the text it is building at once
      pub same_sized_lem : given ≡ sizes_of s shape t → (build_sized_answer s shape given t z ≡ build_answer s shape t z) × (build_sized_exit s shape given t z ≡ build_exit s shape t z)
      unfolding sizes_case build_sized_exit build_exit
      same_sized_lem e =
          let r : build_sized_answer s shape given t z ≡ build_answer s shape t z =
          sized-cases ∙ ap (first_of (text_cases s shape t)) (first_later _ _ _ _ (ap not (same_sizes_lem given (sizes_of s shape t) e))) ∙ sym (build_cases s shape t z) in
          (r, ap (λ (x : Answer). filled_arrays x (index_of s shape t) z) r)

      -- with others it is refused by 16
      pub other_sized_lem : is_accepted (measure_answer s shape t) ≡ true → same_sizes given (sizes_of s shape t) ≡ false
          → (build_sized_answer s shape given t z ≡ refused refusal_sizes) × (build_sized_exit s shape given t z ≡ z)
      unfolding sizes_case
      other_sized_lem a n =
          let r : build_sized_answer s shape given t z ≡ refused refusal_sizes = sized-cases ∙ past a _ ∙ first_here _ _ _ _ (ap not n) in
          (r, sized-stays (ap is_accepted r))

-- sizes that are not equal are not the same
other_sizes : (x y : IndexSizes) → (x ≡ y → ⊥) → same_sizes x y ≡ false
other_sizes x y n = false_of (same_sizes x y) (λ e. n (sizes_same x y e))

-- t was measured, and u is brought, whose sizes are others
module _ (s : ℕ) (first shape : Shape) (t u : List ℕ) (z : Arrays) (a : is_accepted (measure_answer s first t) ≡ true) (n : sizes_of s first t ≡ sizes_of s shape u → ⊥) where
  notices_other : (build_sized_answer s shape (measured_of s first t).sizes u z ≡ cond (is_accepted (measure_answer s shape u)) (refused refusal_sizes) (measure_answer s shape u))
      × (build_sized_exit s shape (measured_of s first t).sizes u z ≡ z)
  notices_other = go (is_accepted (measure_answer s shape u)) refl
    where
      given : IndexSizes
      given = (measured_of s first t).sizes

      go : (b : Bool) → is_accepted (measure_answer s shape u) ≡ b →
          (build_sized_answer s shape given u z ≡ cond (is_accepted (measure_answer s shape u)) (refused refusal_sizes) (measure_answer s shape u))
          × (build_sized_exit s shape given u z ≡ z)
      go true q =
          let r = other_sized_lem s shape u z given q (other_sizes given (sizes_of s shape u) (λ e. n (sym (measured_sizes s first t a) ∙ e))) in
          (r.0 ∙ ap (λ (b : Bool). cond b (refused refusal_sizes) (measure_answer s shape u)) (sym q), r.1)
      go false q =
          let r = sized_stopped s shape u z given q in
          (r.0 ∙ ap (λ (b : Bool). cond b (refused refusal_sizes) (measure_answer s shape u)) (sym q), r.1)

-- the sizes of a text are the lengths of its arrays, of which a row has 256 elements
module _ (s : ℕ) (shape : Shape) (t : List ℕ) where
  sizes_nodes : (sizes_of s shape t).nodes ≡ length (index_of s shape t).lengths
  unfolding sizes_of
  sizes_nodes = refl

  sizes_bytes : (sizes_of s shape t).bytes ≡ length (index_of s shape t).bytes
  unfolding sizes_of
  sizes_bytes = refl

  sizes_superblocks : (sizes_of s shape t).superblock_rows * 256 ≡ length (index_of s shape t).superblocks
  unfolding sizes_of
  sizes_superblocks = sym (ap length (sym (index_superblocks s shape t)) ∙ superblock_rows_length shape.block shape.per_superblock (index_of s shape t).bytes)

  sizes_blocks : (sizes_of s shape t).block_rows * 256 ≡ length (index_of s shape t).blocks
  unfolding sizes_of
  sizes_blocks = sym (ap length (sym (index_blocks s shape t)) ∙ block_rows_length shape.block shape.per_superblock (index_of s shape t).bytes)

  -- they are known from V and the length of the stream
  pub sizes_from : Closing s → WithinLimits s shape → IsText shape.vocabulary t → {n l u k : ℕ}
      → n ≡ node_count s shape.vocabulary → l ≡ length (stream s t) → u ≡ suc (l / (shape.block * shape.per_superblock)) → k ≡ suc (l / shape.block)
      → sizes n l u k ≡ sizes_of s shape t
  unfolding sizes_of
  sizes_from within limits text nodes bytes uppers lowers =
      let l = bytes ∙ sym (count_bytes s shape t within limits text) in
      λ i. record {
        nodes = (nodes ∙ sym (count_lengths s shape t)) i;
        bytes = l i;
        superblock_rows = (uppers ∙ ap (λ (x : ℕ). suc (x / (shape.block * shape.per_superblock))) l) i;
        block_rows = (lowers ∙ ap (λ (x : ℕ). suc (x / shape.block)) l) i;
      }

  -- L is the length of the stream of a text that measuring accepts
  pub measured_bytes : Closing s → is_accepted (measure_answer s shape t) ≡ true → (sizes_of s shape t).bytes ≡ length (stream s t)
  measured_bytes within e = let w = measure_passed s shape t e in sizes_bytes ∙ count_bytes s shape t within w.0 w.1

  -- so that slices are long enough exactly if they have room for them
  room_enough : (z : Arrays) → HasRoom (sizes_of s shape t) z → is_shorter z (index_of s shape t) ≡ false
  room_enough z h =
      each_room z (index_of s shape t) (omega (arith, h.lengths, sizes_nodes)) (omega (arith, h.bytes, sizes_bytes)) (omega (arith, h.superblocks, sizes_superblocks)) (omega (arith, h.blocks, sizes_blocks))

  enough_room : (z : Arrays) → is_shorter z (index_of s shape t) ≡ false → HasRoom (sizes_of s shape t) z
  enough_room z e =
      let r = room_each z (index_of s shape t) e in
      record {
        lengths = omega (arith, r.0, sizes_nodes);
        bytes = omega (arith, r.1, sizes_bytes);
        superblocks = omega (arith, r.2, sizes_superblocks);
        blocks = omega (arith, r.3, sizes_blocks);
      }

  -- with room enough, building with the sizes of the text returns L, and else it is refused by 5
  module _ (limits : WithinLimits s shape) (text : IsText shape.vocabulary t) (z : Arrays) where
    built-with-room : HasRoom (sizes_of s shape t) z → build_sized_answer s shape (sizes_of s shape t) t z ≡ accepted (sizes_of s shape t).bytes
    built-with-room h =
        (same_sized_lem s shape t z (sizes_of s shape t) refl).0 ∙ build_accepted s shape t z limits text (room_enough z h) ∙ ap accepted (sym sizes_bytes)

    short-of-room : (HasRoom (sizes_of s shape t) z → ⊥)
        → (build_sized_answer s shape (sizes_of s shape t) t z ≡ refused refusal_short_slice) × (build_sized_exit s shape (sizes_of s shape t) t z ≡ z)
    short-of-room n = go (is_shorter z (index_of s shape t)) refl
      where
        go : (b : Bool) → is_shorter z (index_of s shape t) ≡ b
            → (build_sized_answer s shape (sizes_of s shape t) t z ≡ refused refusal_short_slice) × (build_sized_exit s shape (sizes_of s shape t) t z ≡ z)
        go true e =
            let r : build_sized_answer s shape (sizes_of s shape t) t z ≡ refused refusal_short_slice =
            (same_sized_lem s shape t z (sizes_of s shape t) refl).0 ∙ build_short s shape t z limits text e in
            (r, sized-stays s shape t z (sizes_of s shape t) (ap is_accepted r))
        go false e = absurd (n (enough_room z e))

module _ (s : ℕ) (within : Closing s) (shape : Shape) where
  sizes_exact_at : SizesExact s shape
  unfolding measured_of
  sizes_exact_at =
      record {
        accepted_if = λ t. (measure_passed s shape t, λ w. ap is_accepted (measure_accepts s shape t w.0 w.1));
        measured = λ t limits text.
            let m : measure_answer s shape t ≡ accepted 0 = measure_accepts s shape t limits text in
            let g : (measured_of s shape t).sizes ≡ sizes_of s shape t = measured_sizes s shape t (ap is_accepted m) in (
              m,
              ap (λ (z : IndexSizes). z.nodes) g ∙ sizes_nodes s shape t ∙ count_lengths s shape t,
              ap (λ (z : IndexSizes). z.bytes) g ∙ sizes_bytes s shape t ∙ count_bytes s shape t within limits text,
              ap (λ (z : IndexSizes). z.superblock_rows * 256) g ∙ sizes_superblocks s shape t,
              ap (λ (z : IndexSizes). z.block_rows * 256) g ∙ sizes_blocks s shape t,
            );
        zeros = measured_zeros s shape;
        enough = λ t z a.
            let w = measure_passed s shape t a in
            rw (measured_sizes s shape t a) (built-with-room s shape t w.0 w.1 z);
        too_little = λ t z a.
            let w = measure_passed s shape t a in
            rw (measured_sizes s shape t a) (short-of-room s shape t w.0 w.1 z);
        refused_first = λ t z e. build_stopped s shape t z e;
        one_after_other = λ t z e. same_sized_lem s shape t z (measured_of s shape t).sizes (measured_sizes s shape t e);
        refused_alike = λ given t z e. sized_stopped s shape t z given e;
        same_sized = λ given t z e. same_sized_lem s shape t z given e;
        other_sized = λ given t z a n. other_sized_lem s shape t z given a (other_sizes given (sizes_of s shape t) n);
        notices = λ first t u z a n. notices_other s first shape t u z a n;
      }

-- at every number of closing values, and every V, B and b
pub sizes_exact : SizesAreExact
sizes_exact s shape within = sizes_exact_at s within shape
