-- How long the lines of a listing are. Assumes nothing.
use Prim.Native.Nat.{ℕ, suc, ◌+◌, ◌*◌, ◌-◌, ◌≤◌, ◌<◌}
use mathlib.Core.Path.{◌≡◌, refl, sym, ap, ◌∙◌}
use mathlib.Core.List.{List, [], ◌∷◌, ◌++◌, map, map-append}
use native.Mathlib.Omega.{arith}
use lib.ListN.{length, length-append}
use Rattle.base.specs.Lists.{total, range_from}
use Rattle.base.proofs.Ranges.{range_append}
use Rattle.base.proofs.Sums.{total_append}
use Rattle.formatting.specs.Characters.{characters, labelled, decimal, bytes_text}
use Rattle.formatting.proofs.Texts.{length_bytes_text}
use Rattle.formatting.proofs.Decimals.{decimal_length, labelled_length}
use Rattle.node_lines.specs.Lines.{line_end, refusal_line, counts_line, node_line, node_lines}

-- a refusal's number has at most two digits
pub refusal_length : (number : ℕ) → number < 100 → length (refusal_line number) ≤ 11
unfolding refusal_line
refusal_length number h =
    omega (arith, length-append (labelled (characters "refused ") number) line_end, labelled_length (characters "refused ") number, decimal_length 1 number h)

-- the numbers of a listing have at most four, three and four
pub counts_length : (n k l : ℕ) → n ≤ 4096 → k ≤ 129 → l ≤ 8192 → length (counts_line n k l) ≤ 32
unfolding counts_line
counts_length n k l hn hk hl =
    omega (
      arith,
      length-append (labelled (characters "words ") n ++ labelled (characters " nodes ") k ++ labelled (characters " bytes ") l) line_end,
      length-append (labelled (characters "words ") n ++ labelled (characters " nodes ") k) (labelled (characters " bytes ") l),
      length-append (labelled (characters "words ") n) (labelled (characters " nodes ") k),
      labelled_length (characters "words ") n,
      labelled_length (characters " nodes ") k,
      labelled_length (characters " bytes ") l,
      decimal_length 3 n (omega arith),
      decimal_length 2 k (omega arith),
      decimal_length 3 l (omega arith),
    )

-- a node's line without its bytes
abbrev pub head_length : ℕ → ℕ
head_length k = 7 + length (decimal k)

pub line_length : (k : ℕ) (bytes : List ℕ) → length (node_line k bytes) ≡ head_length k + 3 * length bytes
unfolding node_line
line_length k bytes =
    omega (
      arith,
      length-append (labelled (characters "node ") k ++ characters ":" ++ bytes_text bytes) line_end,
      length-append (labelled (characters "node ") k ++ characters ":") (bytes_text bytes),
      length-append (labelled (characters "node ") k) (characters ":"),
      labelled_length (characters "node ") k,
      length_bytes_text bytes,
    )

pub lines_length : (k : ℕ) (ns : List (List ℕ)) → length (node_lines k ns) ≡ total (map head_length (range_from k (length ns))) + 3 * total (map length ns)
lines_length k [] = refl
lines_length k (n ∷ ns) = omega (arith, length-append (node_line k n) (node_lines (suc k) ns), line_length k n, lines_length (suc k) ns)

-- the lines of 129 nodes without their bytes
all_heads : total (map head_length (range_from 0 129)) ≡ 1180
unfolding decimal
all_heads = refl

pub heads_most : (n : ℕ) → n ≤ 129 → total (map head_length (range_from 0 n)) ≤ 1180
heads_most n h =
    let e : n + (129 - n) ≡ 129 = omega arith in
    let rest = range_from (0 + n) (129 - n) in
    let all : total (map head_length (range_from 0 n)) + total (map head_length rest) ≡ 1180 =
    sym (total_append (map head_length (range_from 0 n)) (map head_length rest))
    ∙ ap total (sym (map-append head_length (range_from 0 n) rest))
    ∙ ap (λ (xs : List ℕ). total (map head_length xs)) (sym (range_append 0 n (129 - n)) ∙ ap (range_from 0) e)
    ∙ all_heads in
    omega arith
