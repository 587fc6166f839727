-- The way of a rank as it is made, step by step: a node of the first three levels has at most two above it. Assumes nothing.
use Rattle.std.proofs.Common.{◌≡◌, ◌+◌, ◌-◌, ◌<◌, ◌≤◌, ℕ, zero, suc, length, get_or, refl, sym, ap, ◌∙◌, inl, inr, ◌⊎◌, arith}
use Rattle.std.proofs.Math.ListN.{set, length-set}
use Rattle.std.proofs.Math.Seq.{get_or-set_same, get_or-set_other}
use Rattle.base.proofs.Tests.{below_or_not}
use Rattle.tree.specs.Nodes.{parent, digit, node_of, closing_byte}
use Rattle.tree.proofs.Numbers.{nodes_most}
use Rattle.tree.proofs.Paths.{two_up}
use Rattle.words.specs.Steps.{StepIn}
use Rattle.words.specs.Texts.{vocabulary_of}
use Rattle.words.specs.declared.Step.{Step}
use Rattle.words.specs.declared.indexed_text.IndexedText.{IndexedText}
use Rattle.words.proofs.Parts.{checked_number}
use Rattle.words.proofs.Positions.{parent_less, end_there}
use Rattle.ways.specs.Ways.{step_of, steps_in, StepUp, WayOf}
use Rattle.ways.specs.declared.Way.{Way}

-- the steps of rank i up to node k
pub record Rising (text : IndexedText) (i : ℕ) (w : Way) (k : ℕ) : Type 0 where
  pub some : 1 ≤ w.length
  pub most : w.length ≤ 3
  pub room : length w.above ≡ 2
  pub inside : k < length text.index.lengths.now
  pub at : (step_of w (w.length - 1)).node ≡ k
  -- the levels of the node
  pub one : w.length ≡ 1 → k ≡ node_of text.index.s i
  pub two : w.length ≡ 2 → k ≡ parent text.index.s (node_of text.index.s i)
  pub three : 3 ≤ w.length → k ≡ 0
  pub first : StepIn text.index.bytes.now text.starts.now (node_of text.index.s i) (closing_byte text.index.s i) w.first
  pub above : (n : ℕ) → suc n < w.length → StepUp text.index.s text.index.bytes.now text.starts.now (step_of w n) (step_of w (suc n))

module _ (text : IndexedText) (i : ℕ) (below : i < vocabulary_of text) where
  -- the parent of a node that is there is there
  up_inside : (k : ℕ) → 1 ≤ k → k < length text.index.lengths.now → parent text.index.s k < length text.index.lengths.now
  up_inside k h l = omega (arith, parent_less text.index.s k h)

  module _ {w : Way} {k : ℕ} (r : Rising text i w k) (least : 1 ≤ k) where
    -- a node other than the root is on the first two levels
    few : w.length ≤ 2
    few = go (below_or_not 2 w.length)
      where
        go : (2 < w.length) ⊎ (w.length ≤ 2) → w.length ≤ 2
        go (inl h) = absurd (omega (arith, r.three h))
        go (inr h) = h

    -- one step more
    module _ (x : Step) (e : StepIn text.index.bytes.now text.starts.now (parent text.index.s k) (digit text.index.s k) x) where
      longer : Way
      longer = record { length = w.length + 1; first = w.first; above = set w.above (w.length - 1) x }

      same : (n : ℕ) → n < w.length → step_of longer n ≡ step_of w n
      unfolding longer
      same zero h = refl
      same (suc n) h = get_or-set_other w.above (w.length - 1) n x (record { node = 0; byte = 0; skipped = 0 }) (λ z. omega (arith, z))

      new : (n : ℕ) → suc n ≡ w.length → step_of longer (suc n) ≡ x
      unfolding longer
      new n z =
          let m : n ≡ w.length - 1 = omega arith in
          ap (λ (q : ℕ). get_or (set w.above (w.length - 1) x) q (record { node = 0; byte = 0; skipped = 0 })) m
          ∙ get_or-set_same w.above (w.length - 1) x (record { node = 0; byte = 0; skipped = 0 }) (omega (arith, r.room, few))

      steps : (n : ℕ) → suc n < w.length + 1 → StepUp text.index.s text.index.bytes.now text.starts.now (step_of longer n) (step_of longer (suc n))
      steps n h = by (below_or_not (suc n) w.length)
        where
          by : (suc n < w.length) ⊎ (w.length ≤ suc n) → StepUp text.index.s text.index.bytes.now text.starts.now (step_of longer n) (step_of longer (suc n))
          by (inl l) = rw (same n (omega arith), same (suc n) l) (r.above n l)
          by (inr l) =
              let z : suc n ≡ w.length = omega arith in
              let m : n ≡ w.length - 1 = omega arith in
              let a : (step_of w n).node ≡ k = ap (λ (q : ℕ). (step_of w q).node) m ∙ r.at in
              rw (same n (omega arith), new n z) (record { goes_on = rw a least; step = rw a e })

      root : 2 ≤ w.length → parent text.index.s k ≡ 0
      root h =
          let checked = text.ready.checked in
          let l : node_of text.index.s i < length text.index.lengths.now = end_there checked i below in
          let z : k ≡ parent text.index.s (node_of text.index.s i) = r.two (omega (arith, few)) in
          ap (parent text.index.s) z
          ∙ two_up text.index.s checked.closing (node_of text.index.s i)
          (omega (arith, checked_number checked, nodes_most text.index.s checked.closing text.index.shape.vocabulary checked.limits.most_words))
          (omega (arith, z))

      pub rise : Rising text i (record { length = w.length + 1; first = w.first; above = set w.above (w.length - 1) x }) (parent text.index.s k)
      unfolding longer
      rise =
          let z : suc (w.length - 1) ≡ w.length + 1 - 1 = omega (arith, r.some) in
          record {
            some = omega arith;
            most = omega (arith, few);
            room = length-set w.above (w.length - 1) x ∙ r.room;
            inside = up_inside k least r.inside;
            at = ap (λ (q : ℕ). (step_of longer q).node) (sym z) ∙ ap (λ (y : Step). y.node) (new (w.length - 1) (omega (arith, r.some))) ∙ e.node_is;
            one = λ h. absurd (omega (arith, r.some));
            two = λ h. ap (parent text.index.s) (r.one (omega arith));
            three = λ h. root (omega arith);
            first = r.first;
            above = steps;
          }

  -- at the root they are the way
  pub risen : {w : Way} {k : ℕ} → k ≡ 0 → Rising text i w k → WayOf text.index.s text.index.bytes.now text.starts.now i w × (w.length ≤ 3)
  risen {w} z r =
      let n : steps_in w ≡ w.length = omega (arith, r.most) in (
        record {
          some = r.some;
          first = r.first;
          above = λ k h. r.above k (omega (arith, n));
          ends = ap (λ (q : ℕ). (step_of w (q - 1)).node) n ∙ r.at ∙ z;
        },
        r.most,
      )
