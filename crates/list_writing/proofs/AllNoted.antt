-- What is noted of a text, place by place. Assumes nothing.
use Rattle.std.proofs.Common.{◌≡◌, ℕ, ◌<◌, List, length, take, arith}
use Rattle.std.proofs.Math.Seq.{length-take-le, get_or-take}
use Rattle.base.proofs.Lists.{all_at, all_of_at}
use Rattle.base.specs.Lists.{Below}
use Rattle.list_writing.specs.Noted.{ListNoted, AllNoted}

-- what is noted of all places together is noted of each
pub all_noted : (table text starts order firsts values : List ℕ) (size words : ℕ) → ListNoted table text starts order firsts values size words
    → AllNoted table text starts order firsts values size words
all_noted table text starts order firsts values size words n =
    record {
      sized = n.sized;
      short = n.short;
      number = n.number;
      few = n.few;
      noted = n.noted;
      long = n.long;
      below = λ i h.
          let l : length (take size firsts) ≡ size = length-take-le size firsts n.long in
          rw (get_or-take size firsts i 0 h) at (all_at (λ (p : ℕ). p < length values) (take size firsts) 0 i n.below (omega arith));
      ranked = n.ranked;
    }

-- and what is noted of each is noted of all together
pub firsts_below : (table text starts order firsts values : List ℕ) (size words : ℕ) → AllNoted table text starts order firsts values size words → Below (length values) (take size firsts)
firsts_below table text starts order firsts values size words n =
    let l : length (take size firsts) ≡ size = length-take-le size firsts n.long in
    all_of_at (λ (p : ℕ). p < length values) (take size firsts) 0 (λ i h. rw (get_or-take size firsts i 0 (omega arith)) (n.below i (omega arith)))
