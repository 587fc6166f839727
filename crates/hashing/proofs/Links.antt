-- Laws of the link to a number that is looked up. Assumes nothing.
use Rattle.std.proofs.Common.{◌≡◌, ℕ, suc, Option, Some, None, true, false, refl}
use Rattle.std.specs.Option.{is_some}
use Rattle.hashing.specs.Parts.{link_to}

-- where there is a number, its link is one more
pub link_some : (found : Option ℕ) → is_some found ≡ true → (i : ℕ) × (link_to found ≡ suc i)
link_some None e = cc
link_some (Some i) e = (i, refl)

-- where there is none, the link is 0
pub link_none : (found : Option ℕ) → is_some found ≡ false → link_to found ≡ 0
link_none None e = refl
link_none (Some i) e = cc
