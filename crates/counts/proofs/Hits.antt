-- All hits of a phrase or a pair, as they are counted. Assumes nothing.
use Prim.Native.Nat.{ℕ, suc, ◌+◌, ◌-◌}
use mathlib.Core.Path.{◌≡◌, ap, ◌∙◌}
use mathlib.Core.List.{List, [], ◌∷◌}
use native.Mathlib.Nat.{sub-zero}
use native.Mathlib.Omega.{arith}
use lib.IntN.{ℤ}
use lib.ListN.{length}
use Rattle.base.specs.Lists.{filter_by, range_from}
use Rattle.base.proofs.Tests.{false_of}
use Rattle.base.proofs.Filters.{filter_range_end}
use Rattle.documents.specs.Documents.{stands_in, places_in, neighbour_in, neighbours_in}
use Rattle.matching.specs.declared.Sought.TheVariants.{Pair}
use Rattle.hits.proofs.Searches.{anchored_inside}
use Rattle.phrases.proofs.Neighbours.{neighbour_anchored}
use Rattle.hits.specs.Hits.{hits_between}

-- those of a phrase are its places
pub phrase_hits : (documents t ws : List ℕ) → length (hits_between (stands_in documents t ws) 0 (suc (length t))) ≡ length (places_in documents t ws)
unfolding places_in
phrase_hits documents t ws = ap (λ (n : ℕ). length (filter_by (stands_in documents t ws) (range_from 0 n))) (sub-zero (suc (length t)))

-- those of a pair are places of the text
pub pair_hits : (documents t : List ℕ) (w v : ℕ) (d : ℤ) → length (hits_between (neighbour_in documents t w v d) 0 (suc (length t))) ≡ neighbours_in documents t w v d
unfolding neighbours_in
pair_hits documents t w v d =
    let e : suc (length t) - 0 ≡ length t + 1 = omega arith in
    ap (λ (n : ℕ). length (filter_by (neighbour_in documents t w v d) (range_from 0 n))) e
    ∙ ap length (filter_range_end (neighbour_in documents t w v d) 0 (length t) 1
    (λ q h. false_of (neighbour_in documents t w v d q) (λ p. omega (arith, (anchored_inside documents t (w ∷ v ∷ []) (Pair d) w 0 (neighbour_anchored t w v d)).inside q p))))
