-- A pass over a text part by part, and what the tests before it and the pass itself are refused by. Assumes nothing.
use Prim.Native.Nat.{ℕ, ◌+◌, ◌-◌, ◌≤◌, ◌<◌}
use mathlib.Core.Path.{◌≡◌, refl, sym, ap, ◌∙◌}
use mathlib.Core.Bool.{Bool, true, false, not}
use mathlib.Core.List.{List, [], ◌∷◌, ◌++◌}
use native.Mathlib.Omega.{arith}
use lib.Dec.{leb}
use lib.ListN.{length, take, drop, take-append-drop, length-append, length-take, length-drop}
use lib.Seq.{drop-drop, take-add}
use Rattle.std.specs.Prelude.{Ok, Err}
use Rattle.base.specs.declared.Answer.{Answer}
use Rattle.base.specs.declared.refusal.Refusal.TheVariants.{TextRank}
use Rattle.base.specs.declared.refusal.Refused.{Refused}
use Rattle.base.specs.Lists.{first_where}
use Rattle.base.specs.Refusals.{refusal_text_rank}
use Rattle.base.specs.Answers.{accepted, refused_at, is_accepted}
use Rattle.base.specs.Outcomes.{number_of}
use Rattle.base.specs.Texts.{max_words, ranks_below, rank_case}
use Rattle.base.proofs.Answers.{first_here, first_later, first_none}
use Rattle.base.proofs.Lists.{first_where_front, first_where_past}
use Rattle.base.proofs.Texts.{below_of_test, rank_outside, no_rank_outside}
use Rattle.dense.specs.Streams.{stream}
use Rattle.dense.proofs.Streams.{stream_append, stream_none}
use Rattle.index.specs.declared.Shape.{Shape}
use Rattle.index.specs.Exact.{WithinLimits, IsText}
use Rattle.index.proofs.Refusals.{some_number, text_rank}
use Rattle.measuring.specs.Sizes.{measured, measured_of, measure_answer}
use Rattle.measuring.specs.Passes.{LimitsAnswer, PassOf}
use Rattle.measuring.proofs.Sizes.{measured_zeros, turned_down, measured_as}

-- ---- the part of a text from one place to another

abbrev pub part_from : ℕ → ℕ → List ℕ → List ℕ
part_from at stop t = take (stop - at) (drop at t)

module _ (t : List ℕ) (at stop : ℕ) (from : at ≤ stop) (to : stop ≤ length t) where
  pub part_length : length (part_from at stop t) ≡ stop - at
  part_length = simp (length-take, length-drop) (omega arith)

  -- what stands from the first place on is the part and what stands behind it
  cut_at : drop at t ≡ part_from at stop t ++ drop stop t
  cut_at =
      let e : at + (stop - at) ≡ stop = omega arith in
      sym (take-append-drop (stop - at) (drop at t)) ∙ ap (λ (xs : List ℕ). part_from at stop t ++ xs) (drop-drop (stop - at) at t ∙ ap (λ (n : ℕ). drop n t) e)

  -- the stream of the words before the part, and of the part
  pub stream_part : (s : ℕ) → length (stream s (take at t)) + length (stream s (part_from at stop t)) ≡ length (stream s (take stop t))
  stream_part s =
      let e : at + (stop - at) ≡ stop = omega arith in
      sym (length-append (stream s (take at t)) (stream s (part_from at stop t)))
      ∙ ap length (sym (stream_append s (take at t) (part_from at stop t)) ∙ ap (stream s) (sym (take-add at (stop - at) t) ∙ ap (λ (n : ℕ). take n t) e))

  -- where no place before the part passes, the first that does is in the part, or behind it
  module _ (test : ℕ → Bool) (before : first_where test t ≡ at + first_where test (drop at t)) where
    pub first_in_part : first_where test (part_from at stop t) < stop - at → at + first_where test (part_from at stop t) ≡ first_where test t
    first_in_part h =
        let e = first_where_front test (part_from at stop t) (drop stop t) (omega (arith, part_length)) in
        sym (before ∙ ap (λ (xs : List ℕ). at + first_where test xs) cut_at ∙ ap (λ (n : ℕ). at + n) e)

    pub first_behind_part : stop - at ≤ first_where test (part_from at stop t) → first_where test t ≡ stop + first_where test (drop stop t)
    first_behind_part h =
        let e = first_where_past test (part_from at stop t) (drop stop t) (omega (arith, part_length)) in
        before ∙ ap (λ (xs : List ℕ). at + first_where test xs) cut_at ∙ omega (arith, e, part_length)

-- at the end of the text nothing is left to pass a test
pub first_at_end : (test : ℕ → Bool) (t : List ℕ) (at : ℕ) → at ≡ length t → first_where test t ≡ at + first_where test (drop at t) → at ≡ first_where test t
first_at_end test t at e before = go (drop at t) (omega (arith, length-drop at t)) before
  where
    go : (xs : List ℕ) → length xs ≡ 0 → first_where test t ≡ at + first_where test xs → at ≡ first_where test t
    go [] n q = omega arith
    go (x ∷ xs) n q = absurd (omega arith)

-- ---- a part of a text

module _ (s vocab : ℕ) (t rest part left : List ℕ) (at bytes : ℕ) (cut : rest ≡ part ++ left) where
  -- the words left are those of the part and those behind it
  pub words_left : at + length rest ≡ length t → at + length part + length left ≡ length t
  words_left e = omega (arith, e, ap length cut, length-append part left)

  -- and so are the bytes of their streams
  pub bytes_left : bytes + length (stream s rest) ≡ length (stream s t) → bytes + length (stream s part) + length (stream s left) ≡ length (stream s t)
  bytes_left e =
      omega (arith, e, ap (λ (u : List ℕ). length (stream s u)) cut, ap length (stream_append s part left), length-append (stream s part) (stream s left))

  -- where a rank of the part is outside the vocabulary, the first that is refuses the text
  pub refused_in_part : at + length rest ≡ length t → at + first_where (λ (w : ℕ). leb vocab w) rest ≡ first_where (λ (w : ℕ). leb vocab w) t
      → (place : ℕ) → place ≡ first_where (λ (w : ℕ). leb vocab w) part → place < length part
      → PassOf s vocab t (Err record { refusal = TextRank; at = at + place })
  unfolding rank_case
  refused_in_part e f place is h =
      let test : ℕ → Bool = λ w. leb vocab w in
      let first : at + place ≡ first_where test t =
      omega (arith, f, ap (first_where test) cut, first_where_front test part left (omega (arith, is, h)), is) in
      let inside : first_where test t < length t = omega (arith, first, words_left e, h) in
      record { answer = ap (refused_at refusal_text_rank) first ∙ sym (first_here _ _ _ _ (ap not (rank_outside vocab t inside))) }

  -- and where none is, the first is behind it
  pub first_behind : at + first_where (λ (w : ℕ). leb vocab w) rest ≡ first_where (λ (w : ℕ). leb vocab w) t
      → length part ≤ first_where (λ (w : ℕ). leb vocab w) part → at + length part + first_where (λ (w : ℕ). leb vocab w) left ≡ first_where (λ (w : ℕ). leb vocab w) t
  first_behind f h =
      let test : ℕ → Bool = λ w. leb vocab w in
      omega (arith, f, ap (first_where test) cut, first_where_past test part left h)

-- past the last part all ranks are in the vocabulary, and the bytes are those of the text
pub all_passed : (s vocab : ℕ) (t rest : List ℕ) (at bytes : ℕ) → length rest ≡ 0 → at + length rest ≡ length t
    → at + first_where (λ (w : ℕ). leb vocab w) rest ≡ first_where (λ (w : ℕ). leb vocab w) t → bytes + length (stream s rest) ≡ length (stream s t)
    → PassOf s vocab t (Ok bytes)
unfolding rank_case
all_passed s vocab t [] at bytes none e f b =
    record {
      answer =
          ap accepted (omega (arith, b, ap length (stream_none s)))
          ∙ sym (first_later _ _ _ _ (ap not (no_rank_outside vocab t (omega (arith, e, f)))) ∙ first_none (accepted (length (stream s t))));
    }
all_passed s vocab t (x ∷ rest) at bytes none e f b = absurd (omega (arith, none))

-- ---- refusals

-- a refusal of the tests before the ranks is the answer of measuring
pub refuses_by : (s : ℕ) (shape : Shape) (t : List ℕ) (number at : ℕ) → 1 ≤ number → {r : Answer} → r ≡ refused_at number at → measure_answer s shape t ≡ refused_at number at → LimitsAnswer s shape t r
refuses_by s shape t number at some e q =
    record {
      refuses = λ _. e ∙ sym q;
      accepts = λ z. absurd (omega (arith, ap (λ (x : Answer). x.refusal) e));
      limits = λ z. absurd (omega (arith, ap (λ (x : Answer). x.refusal) e));
      words = λ z. absurd (omega (arith, ap (λ (x : Answer). x.refusal) e));
    }

module _ (s : ℕ) (shape : Shape) (t : List ℕ) where
  -- what they refuse is measured so
  pub limits_refused : (e : Refused) → LimitsAnswer s shape t (refused_at (number_of e.refusal) e.at) → measured (Err e) ≡ measured_of s shape t
  limits_refused e l =
      let answer = l.refuses (some_number e.refusal) in
      measured_as s shape t answer (sym (measured_zeros s shape t (turned_down s shape t answer (some_number e.refusal))))

  module _ (limits : WithinLimits s shape) (words : length t ≤ max_words) where
    -- and so is what the pass over the ranks refuses
    pub rank_refused : (e : Refused) → PassOf s shape.vocabulary t (Err e) → measured (Err e) ≡ measured_of s shape t
    unfolding measure_answer rank_case
    rank_refused e p = go (ranks_below shape.vocabulary t) refl
      where
        go : (b : Bool) → ranks_below shape.vocabulary t ≡ b → measured (Err e) ≡ measured_of s shape t
        go true q = absurd (some_number e.refusal (ap (λ (a : Answer). a.refusal) (p.answer ∙ first_later _ _ _ _ (ap not q) ∙ first_none (accepted (length (stream s t))))))
        go false q =
            let r = text_rank s shape t (accepted 0) limits words q in
            measured_as s shape t (p.answer ∙ first_here _ _ _ _ (ap not q) ∙ sym r) (sym (measured_zeros s shape t (ap is_accepted r)))

    -- where it refuses nothing, the text is one of the vocabulary, and the bytes are those of its stream
    pub rank_passed : (bytes : ℕ) → PassOf s shape.vocabulary t (Ok bytes) → IsText shape.vocabulary t × (bytes ≡ length (stream s t))
    unfolding rank_case
    rank_passed bytes p = go (ranks_below shape.vocabulary t) refl
      where
        go : (b : Bool) → ranks_below shape.vocabulary t ≡ b → IsText shape.vocabulary t × (bytes ≡ length (stream s t))
        go true q = (
          record { short = words; ranks = below_of_test shape.vocabulary t q },
          ap (λ (a : Answer). a.value) (p.answer ∙ first_later _ _ _ _ (ap not q) ∙ first_none (accepted (length (stream s t)))),
        )
        go false q = absurd (omega (arith, ap (λ (a : Answer). a.refusal) (p.answer ∙ first_here _ _ _ _ (ap not q))))
