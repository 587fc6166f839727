-- The turns of the loops over the blocks of a superblock and over the superblocks: the counters and the totals go one on. Assumes nothing.
use Prim.Native.Nat.{ℕ, suc, ◌+◌, ◌*◌, ◌/◌, ◌≤◌, ◌<◌, min}
use mathlib.Core.Path.{◌≡◌, sym, ap, ◌∙◌}
use mathlib.Core.Logic.{◌⊎◌, inl, inr}
use mathlib.Core.List.{List}
use native.Mathlib.Nat.{le_refl, zero-mul, suc-mul, mul-le-mul_right, lt-div-mul-add, div-lt_iff_lt-mul}
use native.Mathlib.Numerals.{add-one}
use native.Mathlib.Omega.{arith}
use lib.ListN.{length, take, replicate, length-take, length-drop, length-replicate}
use lib.Seq.{slice, slice_empty, take_all}
use Rattle.base.specs.Lists.{Below}
use Rattle.base.proofs.Tests.{below_or_not}
use Rattle.base.specs.Texts.{max_superblock}
use Rattle.directory.specs.Counters.{row, superblock_row, block_row, Sizes, max_bytes}
use Rattle.base.proofs.Parts.{quotient_inside, inside_quotient, slice_more, take_slice}
use Rattle.directory.proofs.Rows.{row_none, superblock_row_length, first_block, next_block, in_superblock, superblock_some, block_most, rows_most}
use Rattle.tallies.specs.Tallies.{sums, counters, block_bytes, rows_end, BeginsWithRows, Reached}
use Rattle.tallies.proofs.Sums.{row_below, sums_rows, counters_none}

-- ---- the blocks of a superblock

-- the loop over the block rows of superblock q has come to row r: the counters are those from the superblock's start to block r
pub record Tallied (block per : ℕ) (bytes : List ℕ) (q end r : ℕ) (lanes : List ℕ) : Type 0 where
  pub from : q * per ≤ r
  pub to : r ≤ end
  pub ends : end ≡ rows_end block per (length bytes) q
  pub long : length lanes ≡ 512
  pub counted : counters lanes ≡ row (slice (q * (block * per)) (r * block) bytes)

module _ {block per : ℕ} {bytes : List ℕ} (sizes : Sizes block per bytes) where
  -- the bytes from the start of superblock q to a block of it, or to its end, are no more than a superblock's
  part_small : (q r : ℕ) → r ≤ q * per + per → length (slice (q * (block * per)) (r * block) bytes) < 65536
  part_small q r h =
      let m : r * block ≤ (q * per + per) * block = mul-le-mul_right block h in
      let e : (q * per + per) * block ≡ q * (block * per) + block * per = next_block block per q ∙ suc-mul q (block * per) in
      omega (arith, length-drop (q * (block * per)) (take (r * block) bytes), length-take (r * block) bytes, sizes.superblock_most)

  module _ {blocks totals : List ℕ} {q : ℕ} (reached : Reached block per bytes blocks totals q) where
    -- what `rows_end` asks
    pub end_asks : (1 ≤ block) × (length bytes ≤ max_bytes) × (q * per + per ≤ max_bytes + max_superblock)
    end_asks = (sizes.block_some, sizes.bytes_most, rows_most sizes q reached.here)

    -- at the start of superblock q the counters are zeros
    pub tallied_start : (end : ℕ) → end ≡ rows_end block per (length bytes) q → Tallied block per bytes q end (q * per) (replicate 512 0)
    tallied_start end e = record {
      from = le_refl _;
      to = omega (arith, quotient_inside (length bytes) block (q * per) sizes.block_some (rw (first_block block per q) reached.here));
      ends = e;
      long = length-replicate {A = ℕ} 512 0;
      counted = counters_none ∙ ap row (sym (ap (λ (n : ℕ). slice (q * (block * per)) n bytes) (first_block block per q) ∙ slice_empty (q * (block * per)) bytes));
    }

    module _ {end r : ℕ} {lanes : List ℕ} (t : Tallied block per bytes q end r lanes) where
      -- block r starts at the superblock's start or behind it
      starts : q * (block * per) ≤ r * block
      starts = rw (first_block block per q) at (mul-le-mul_right block t.from)

      -- the counters fit
      pub tallied_below : Below 65536 (counters lanes)
      tallied_below = rw t.counted (row_below 65536 (slice (q * (block * per)) (r * block) bytes) (part_small q r (omega (arith, t.to, t.ends))))

      module _ (inside : r < end) where
        -- the counters are block row r
        pub tallied_row : counters lanes ≡ block_row block per bytes r
        unfolding block_row
        tallied_row = t.counted ∙ ap (λ (n : ℕ). row (slice (n * (block * per)) (r * block) bytes)) (sym (in_superblock per q r t.from (omega (arith, t.ends))))

        -- with the bytes of block r they go up to the next block
        counted_more : sums (counters lanes) (row (block_bytes block bytes r)) ≡ row (slice (q * (block * per)) ((r + 1) * block) bytes)
        counted_more =
            let e : (r + 1) * block ≡ r * block + block = ap (λ (n : ℕ). n * block) (add-one r) ∙ suc-mul r block in
            ap (λ (cs : List ℕ). sums cs (row (block_bytes block bytes r))) t.counted ∙ sums_rows (slice (q * (block * per)) (r * block) bytes) (block_bytes block bytes r)
            ∙ ap row (slice_more (q * (block * per)) (r * block) block bytes starts reached.here) ∙ ap (λ (n : ℕ). row (slice (q * (block * per)) n bytes)) (sym e)

        -- what `tally_block` asks
        pub tally_asks : ((r * block ≤ length bytes) × (length bytes ≤ max_bytes) × (block ≤ max_superblock)) × ((length lanes ≡ 512) × Below 65536 (sums (counters lanes) (row (block_bytes block bytes r))))
        tally_asks = (
          (inside_quotient (length bytes) block r sizes.block_some (omega (arith, t.ends)), sizes.bytes_most, block_most sizes),
          (t.long, rw counted_more (row_below 65536 (slice (q * (block * per)) ((r + 1) * block) bytes) (part_small q (r + 1) (omega (arith, t.ends))))),
        )

        -- after block r the loop has come to the next row
        pub tallied_next : (lanes' : List ℕ) → length lanes' ≡ 512 → counters lanes' ≡ sums (counters lanes) (row (block_bytes block bytes r)) → Tallied block per bytes q end (r + 1) lanes'
        tallied_next lanes' l e = record { from = omega (arith, t.from); to = omega arith; ends = t.ends; long = l; counted = e ∙ counted_more }

      module _ (past : end ≤ r) where
        -- the loop is past the last row only at the end
        pub ended : r ≡ rows_end block per (length bytes) q
        ended = omega (arith, t.to, t.ends)

        -- the first bytes up to the end of the superblock, or of the bytes
        whole : take (r * block) bytes ≡ take (suc q * (block * per)) bytes
        whole = go (below_or_not (q * per + per) (suc (length bytes / block)))
          where
            go : (q * per + per < suc (length bytes / block)) ⊎ (suc (length bytes / block) ≤ q * per + per) → take (r * block) bytes ≡ take (suc q * (block * per)) bytes
            go (inl l) =
                let m : r ≡ q * per + per = omega (arith, ended) in
                ap (λ (n : ℕ). take n bytes) (ap (λ (n : ℕ). n * block) m ∙ next_block block per q)
            go (inr g) =
                let m : r ≡ suc (length bytes / block) = omega (arith, ended) in
                let e : r * block ≡ length bytes / block * block + block = ap (λ (n : ℕ). n * block) m ∙ suc-mul (length bytes / block) block in
                let l : r * block ≤ suc q * (block * per) = rw (← m, next_block block per q) at (mul-le-mul_right block g) in
                let p : length bytes < length bytes / block * block + block = lt-div-mul-add sizes.block_some in
                take_all (r * block) bytes (omega arith) ∙ sym (take_all (suc q * (block * per)) bytes (omega arith))

        -- the totals and the counters of the whole superblock are the totals of the next
        pub total_next : sums totals (counters lanes) ≡ superblock_row block per bytes (q + 1)
        unfolding superblock_row
        total_next =
            ap (λ (t : List ℕ). sums t (counters lanes)) reached.total ∙ ap (sums (row (take (q * (block * per)) bytes))) t.counted
            ∙ sums_rows (take (q * (block * per)) bytes) (slice (q * (block * per)) (r * block) bytes)
            ∙ ap row (take_slice (q * (block * per)) (r * block) bytes starts ∙ whole) ∙ ap (λ (n : ℕ). row (take (n * (block * per)) bytes)) (sym (add-one q))

        -- what `add` asks
        pub add_asks : (length totals ≡ 256) × Below 65536 (counters lanes) × Below 4294967296 (sums totals (counters lanes))
        unfolding superblock_row
        add_asks = (
          ap length reached.total ∙ superblock_row_length block per bytes q,
          tallied_below,
          rw total_next (row_below 4294967296 (take ((q + 1) * (block * per)) bytes) (omega (arith, length-take ((q + 1) * (block * per)) bytes, sizes.bytes_most))),
        )

-- ---- the superblocks

-- the loop over the superblocks has come to superblock q: the totals are its row
pub record Totalled (block per : ℕ) (bytes : List ℕ) (end q : ℕ) (totals : List ℕ) : Type 0 where
  pub most : q ≤ end
  pub ends : end ≡ suc (length bytes / (block * per))
  pub total : totals ≡ superblock_row block per bytes q

-- how many block rows stand before superblock q, or all
abbrev pub rows_to : ℕ → ℕ → List ℕ → ℕ → ℕ
rows_to block per bytes q = min (q * per) (suc (length bytes / block))

-- no block row stands before superblock 0
pub rows_none : (block per : ℕ) (bytes : List ℕ) → rows_to block per bytes 0 ≡ 0
rows_none block per bytes = omega (arith, zero-mul per)

-- at the start of the bytes the totals are zeros
pub totalled_start : (block per : ℕ) (bytes : List ℕ) (end : ℕ) → end ≡ suc (length bytes / (block * per)) → Totalled block per bytes end 0 (replicate 256 0)
unfolding superblock_row
totalled_start block per bytes end e =
    record { most = omega arith; ends = e; total = sym (ap (λ (n : ℕ). row (take n bytes)) (zero-mul (block * per)) ∙ row_none) }

-- there are 256 totals
pub totalled_length : {block per : ℕ} {bytes : List ℕ} {end q : ℕ} {totals : List ℕ} → Totalled block per bytes end q totals → length totals ≡ 256
totalled_length {block} {per} {bytes} {q = q} t = ap length t.total ∙ superblock_row_length block per bytes q

module _ {block per : ℕ} {bytes : List ℕ} (sizes : Sizes block per bytes) {end q : ℕ} {totals : List ℕ} (t : Totalled block per bytes end q totals) where
  -- superblock q is there
  superblock_there : q < end → q * (block * per) ≤ length bytes
  superblock_there h = inside_quotient (length bytes) (block * per) q (superblock_some sizes) (omega (arith, t.ends))

  -- how many block rows stand before superblock q
  rows_here : q < end → rows_to block per bytes q ≡ q * per
  rows_here h = omega (arith, quotient_inside (length bytes) block (q * per) sizes.block_some (rw (first_block block per q) (superblock_there h)))

  -- what `fill_superblock` and `verify_superblock` ask
  pub totalled_reached : (blocks : List ℕ) → q < end → BeginsWithRows (block_row block per bytes) (rows_to block per bytes q) blocks → Reached block per bytes blocks totals q
  totalled_reached blocks h b = record { here = superblock_there h; total = t.total; before = rw (rows_here h) at b }

  -- after superblock q the loop has come to the next
  pub totalled_next : q < end → (totals' : List ℕ) → totals' ≡ superblock_row block per bytes (q + 1) → Totalled block per bytes end (q + 1) totals'
  totalled_next h totals' e = record { most = omega arith; ends = t.ends; total = e }

  -- the block rows up to the end of superblock q stand before the next
  pub rows_next : rows_end block per (length bytes) q ≡ rows_to block per bytes (q + 1)
  rows_next = ap (λ (n : ℕ). min n (suc (length bytes / block))) (sym (suc-mul q per) ∙ ap (λ (n : ℕ). n * per) (sym (add-one q)))

  -- and all block rows where the superblocks are at their end
  pub rows_all : end ≤ q → rows_to block per bytes q ≡ suc (length bytes / block)
  rows_all h =
      let m : q ≡ suc (length bytes / (block * per)) = omega (arith, t.most, t.ends) in
      let p : length bytes < length bytes / (block * per) * (block * per) + block * per = lt-div-mul-add (superblock_some sizes) in
      let e : q * per * block ≡ length bytes / (block * per) * (block * per) + block * per = first_block block per q ∙ ap (λ (n : ℕ). n * (block * per)) m ∙ suc-mul (length bytes / (block * per)) (block * per) in
      let l : length bytes / block < q * per = (div-lt_iff_lt-mul sizes.block_some).1 (rw e p) in
      omega arith
