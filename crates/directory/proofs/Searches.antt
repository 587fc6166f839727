-- The rows left to a binary search in a table, and what the two searches of `block_with` find: the block in which an occurrence stands. Assumes nothing.
use Prim.Native.Nat.{ℕ, suc, ◌+◌, ◌*◌, ◌/◌, ◌-◌, ◌≤◌, ◌<◌, min}
use mathlib.Core.Path.{◌≡◌, sym, ap, ◌∙◌}
use mathlib.Core.List.{List, []}
use mathlib.Core.Logic.{◌⊎◌, inl, inr}
use native.Mathlib.Nat.{le_refl, suc-mul, zero-mul}
use native.Mathlib.Omega.{arith}
use lib.ListN.{length, get_or, take, drop}
use lib.Seq.{take_all}
use Rattle.base.specs.Lists.{count_of, nth}
use Rattle.std.proofs.lemmas.Grind.{get_or_default_zero}
use Rattle.base.proofs.Tests.{below_or_not}
use Rattle.base.proofs.Counts.{count_part, nth_part}
use Rattle.directory.specs.Counters.{Sizes, Directory}
use Rattle.directory.specs.Tables.{LastOf, LastRow}
use Rattle.base.proofs.Parts.{quotient_inside, inside_quotient, part_cut}
use Rattle.directory.proofs.Rows.{first_block, next_block, in_superblock, superblock_some, superblock_rows_lem, block_rows_lem, superblock_is, both_are}

-- ---- a binary search

-- the last row of a table
pub last_row_of : {table : List ℕ} {x j first end r : ℕ} → LastOf (λ r. get_or table (r * 256 + x) 0) j first end r → LastRow table x j first end r
last_row_of f = record { from = f.from; inside = f.inside; most = f.most; more = f.more }

-- a number of a table is the same whatever is given where there is none
pub number_same : (table : List ℕ) (i n : ℕ) → i < length table → get_or table i 0 ≤ n → (d : ℕ) → get_or table i d ≤ n
number_same table i n h l d = rw (get_or_default_zero table i d h) l

-- the last row of some is the last of more, where the row behind those has more than j or is none
pub last_of_more : {table : List ℕ} {x j first end r : ℕ} (low high : ℕ) → LastRow table x j first end r → low ≤ first → end ≤ high
    → (end < high → j < get_or table (end * 256 + x) 0) → LastRow table x j low high r
last_of_more {table} {x} {j} {first} {end} {r} low high f from to past = record {
  from = omega (arith, f.from);
  inside = omega (arith, f.inside);
  most = f.most;
  more = λ h. go h (below_or_not (suc r) end);
}
  where
    go : suc r < high → (suc r < end) ⊎ (end ≤ suc r) → j < get_or table (suc r * 256 + x) 0
    go h (inl k) = f.more k
    go h (inr g) =
        let e : suc r ≡ end = omega (arith, f.inside) in
        rw e (past (rw e at h))

-- part r of the bytes, of m bytes each, is where the x with j others before it would stand: at most j before the part, and more
-- before the next, if there is one
pub record Holds (m : ℕ) (bytes : List ℕ) (x j r : ℕ) : Type 0 where
  pub here : r * m ≤ length bytes
  pub most : count_of x (take (r * m) bytes) ≤ j
  pub next : suc r * m ≤ length bytes → j < count_of x (take (suc r * m) bytes)

-- the row that is found in a table whose numbers, with `above` added to each, count the bytes before each part
pub found_holds : (table bytes : List ℕ) (x j above m first end r : ℕ) → above ≤ j
    → ((r : ℕ) → r < end → r * m ≤ length bytes)
    → ((r : ℕ) → first ≤ r → r < end → above + get_or table (r * 256 + x) 0 ≡ count_of x (take (r * m) bytes))
    → (end * m ≤ length bytes → j < count_of x (take (end * m) bytes))
    → LastRow table x (j - above) first end r → Holds m bytes x j r
found_holds table bytes x j above m first end r a there is past f = record {
  here = there r f.inside;
  most = omega (arith, is r f.from f.inside, f.most);
  next = λ l. go l (below_or_not (suc r) end);
}
  where
    go : suc r * m ≤ length bytes → (suc r < end) ⊎ (end ≤ suc r) → j < count_of x (take (suc r * m) bytes)
    go l (inl k) = omega (arith, is (suc r) (omega (arith, f.from)) k, f.more k)
    go l (inr g) =
        let e : suc r ≡ end = omega (arith, f.inside) in
        rw e (past (rw e at l))

-- the position in the part, past the bytes before the part
pub position : {m : ℕ} {bytes : List ℕ} {x j r : ℕ} (stop : ℕ) → Holds m bytes x j r → stop ≡ min (r * m + m) (length bytes)
    → r * m + nth x (j - count_of x (take (r * m) bytes)) (take (stop - r * m) (drop (r * m) bytes)) ≡ nth x j bytes
position {m} {bytes} {x} {j} {r} stop h e =
    rw (part_cut bytes (r * m) m stop h.here e)
    (sym (nth_part x j (r * m) m bytes h.here h.most (λ (k : r * m + m < length bytes). rw (suc-mul r m) at (h.next (rw (suc-mul r m) (omega arith))))))

-- where there is such an x, the part has more than what is left of j
pub held_more : {m : ℕ} {bytes : List ℕ} {x j r : ℕ} (stop : ℕ) → Holds m bytes x j r → stop ≡ min (r * m + m) (length bytes) → j < count_of x bytes
    → j - count_of x (take (r * m) bytes) < count_of x (take (stop - r * m) (drop (r * m) bytes))
held_more {m} {bytes} {x} {j} {r} stop h e some =
    let back : r * m + (stop - r * m) ≡ stop = omega (arith, h.here) in
    let all : count_of x (take stop bytes) ≡ count_of x (take (r * m) bytes) + count_of x (take (stop - r * m) (drop (r * m) bytes)) =
    rw back at (count_part x (r * m) (stop - r * m) bytes) in
    omega (arith, h.most, all, go (below_or_not (length bytes) (r * m + m)))
  where
    go : (length bytes < r * m + m) ⊎ (r * m + m ≤ length bytes) → j < count_of x (take stop bytes)
    go (inl l) = rw (take_all stop bytes (omega arith)) some
    go (inr l) =
        let s : stop ≡ suc r * m = omega (arith, suc-mul r m) in
        rw s (h.next (omega (arith, suc-mul r m)))

-- ---- the search of the block

module _ {block per : ℕ} {bytes superblocks blocks : List ℕ} (sizes : Sizes block per bytes) (directory : Directory block per bytes superblocks blocks) (x j : ℕ) (byte : x < 256) where
  -- superblock row 0 has none
  pub zero_most : get_or superblocks (0 + x) 0 ≤ j
  zero_most =
      let e : 0 * (block * per) ≡ 0 = zero-mul (block * per) in
      let at : get_or superblocks (0 + x) 0 ≡ count_of x [] = rw e at (superblock_is sizes directory 0 x (rw e (omega arith)) byte) in
      omega arith

  -- the superblock that is found
  pub superblock_holds : (q : ℕ) → LastRow superblocks x j 0 (length superblocks / 256) q → Holds (block * per) bytes x j q
  superblock_holds q f =
      let some : 1 ≤ block * per = superblock_some sizes in
      let rows : length superblocks / 256 ≡ suc (length bytes / (block * per)) = superblock_rows_lem sizes directory in
      let all : j - 0 ≡ j = omega arith in
      found_holds superblocks bytes x j 0 (block * per) 0 (length superblocks / 256) q (omega arith)
      (λ r l. inside_quotient (length bytes) (block * per) r some (rw rows at l))
      (λ r h l. omega (arith, superblock_is sizes directory r x (inside_quotient (length bytes) (block * per) r some (rw rows at l)) byte))
      (λ l. absurd (omega (arith, rows, quotient_inside (length bytes) (block * per) (length superblocks / 256) some l)))
      (rw all f)

  module _ {q : ℕ} (in-q : Holds (block * per) bytes x j q) where
    -- the two numbers of a block row of superblock q
    pub both_of : (r : ℕ) → q * per ≤ r → r < q * per + per → r * block ≤ length bytes → get_or superblocks (q * 256 + x) 0 + get_or blocks (r * 256 + x) 0 ≡ count_of x (take (r * block) bytes)
    both_of r h l here = rw (in_superblock per q r h l) at (both_are sizes directory r x here byte)

    -- the superblock's number is at most j
    pub above_most : get_or superblocks (q * 256 + x) 0 ≤ j
    above_most = omega (arith, superblock_is sizes directory q x in-q.here byte, in-q.most)

    -- the first block row of superblock q has at most what is left
    pub first_most : get_or blocks (q * per * 256 + x) 0 ≤ j - get_or superblocks (q * 256 + x) 0
    first_most =
        let e : q * per * block ≡ q * (block * per) = first_block block per q in
        let t : get_or superblocks (q * 256 + x) 0 + get_or blocks (q * per * 256 + x) 0 ≡ count_of x (take (q * (block * per)) bytes) =
        rw e at (both_of (q * per) (le_refl _) (omega (arith, sizes.per_some)) (rw e in-q.here)) in
        omega (arith, in-q.most)

    module _ (end : ℕ) (cut : end ≡ min (q * per + per) (length blocks / 256)) where
      rows : length blocks / 256 ≡ suc (length bytes / block)
      rows = block_rows_lem sizes directory

      -- there is a row between the first and end
      pub first_inside : q * per < end
      first_inside = omega (arith, sizes.per_some, rows, quotient_inside (length bytes) block (q * per) sizes.block_some (rw (first_block block per q) in-q.here))

      -- the block that is found in the rows of superblock q
      pub block_holds : (r : ℕ) → LastRow blocks x (j - get_or superblocks (q * 256 + x) 0) (q * per) end r → Holds block bytes x j r
      block_holds r f =
          found_holds blocks bytes x j (get_or superblocks (q * 256 + x) 0) block (q * per) end r above_most there
          (λ r h (l : r < end). both_of r h (omega arith) (there r l))
          past f
        where
          there : (r : ℕ) → r < end → r * block ≤ length bytes
          there r l = inside_quotient (length bytes) block r sizes.block_some (omega (arith, rows))

          past : end * block ≤ length bytes → j < count_of x (take (end * block) bytes)
          past l =
              let e : end ≡ q * per + per = omega (arith, rows, quotient_inside (length bytes) block end sizes.block_some l) in
              let t : end * block ≡ suc q * (block * per) = ap (λ (n : ℕ). n * block) e ∙ next_block block per q in
              rw t (in-q.next (rw t at l))
