-- Laws of the lines of nodes, written one after another. Assumes nothing.
use Prim.Native.Nat.{ℕ, zero, suc, ◌+◌, ◌≤◌, ◌<◌}
use mathlib.Core.Path.{◌≡◌, sym, ap, ◌∙◌}
use mathlib.Core.List.{List, [], ◌∷◌, ◌++◌, append_assoc, append-nil}
use native.Mathlib.Omega.{arith}
use native.Mathlib.Numerals.{add-one}
use lib.ListN.{length, take, get_or, length-append}
use Rattle.formatting.specs.Writing.{Wrote}
use Rattle.formatting.proofs.Wrote.{room_second, wrote_both}
use Rattle.node_lines.specs.Lines.{node_line, node_lines}

-- the lines of the first i + 1 nodes are those of the first i, and one more
pub lines_next : (k : ℕ) (ns : List (List ℕ)) (i : ℕ) → i < length ns → node_lines k (take (i + 1) ns) ≡ node_lines k (take i ns) ++ node_line (k + i) (get_or ns i [])
lines_next k ns i h = rw add-one (go k ns i h)
  where
    go : (k : ℕ) (ns : List (List ℕ)) (i : ℕ) → i < length ns → node_lines k (take (suc i) ns) ≡ node_lines k (take i ns) ++ node_line (k + i) (get_or ns i [])
    go k [] i h = absurd (omega arith)
    go k (n ∷ ns) zero h =
        let e : k ≡ k + 0 = omega arith in
        append-nil (node_line k n) ∙ ap (λ (j : ℕ). node_line j n) e
    go k (n ∷ ns) (suc i) h =
        let e : suc k + i ≡ k + suc i = omega arith in
        ap (λ (r : List ℕ). node_line k n ++ r) (go (suc k) ns i (omega arith) ∙ ap (λ (j : ℕ). node_lines (suc k) (take i ns) ++ node_line j (get_or ns i [])) e)
        ∙ sym (append_assoc (node_line k n) (node_lines (suc k) (take i ns)) (node_line (k + suc i) (get_or ns i [])))

-- and no longer than the lines of all
pub lines_prefix : (k : ℕ) (ns : List (List ℕ)) (i : ℕ) → length (node_lines k (take i ns)) ≤ length (node_lines k ns)
lines_prefix k ns zero = omega arith
lines_prefix k [] (suc i) = omega arith
lines_prefix k (n ∷ ns) (suc i) =
    omega (arith, length-append (node_line k n) (node_lines (suc k) (take i ns)), length-append (node_line k n) (node_lines (suc k) ns), lines_prefix (suc k) ns i)

module _ (ns : List (List ℕ)) (at i : ℕ) (z y : List ℕ) (mid : ℕ) (room : at + length (node_lines 0 ns) ≤ length z) (first : Wrote (node_lines 0 (take i ns)) at z mid y) where
  module _ (h : i < length ns) where
    -- one line more
    one_more : node_lines 0 (take (i + 1) ns) ≡ node_lines 0 (take i ns) ++ node_line i (get_or ns i [])
    one_more =
        let e : 0 + i ≡ i = omega arith in
        lines_next 0 ns i h ∙ ap (λ (j : ℕ). node_lines 0 (take i ns) ++ node_line j (get_or ns i [])) e

    lines-room : at + length (node_lines 0 (take i ns) ++ node_line i (get_or ns i [])) ≤ length z
    lines-room = omega (arith, ap length one_more, lines_prefix 0 ns (i + 1))

    -- has room behind the lines before it
    pub lines_next_room : mid + length (node_line i (get_or ns i [])) ≤ length y
    lines_next_room = room_second first (node_line i (get_or ns i [])) lines-room

    -- and is written there
    pub lines_next_written : {next : ℕ} {x : List ℕ} → Wrote (node_line i (get_or ns i [])) mid y next x → Wrote (node_lines 0 (take (i + 1) ns)) at z next x
    lines_next_written second = rw one_more (wrote_both first (node_line i (get_or ns i [])) lines-room second)
