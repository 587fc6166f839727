-- The block in which an occurrence lies.
use Rattle.std.specs.Prelude.{ℕ, ◌+◌, ◌-◌, ◌≤◌, ◌<◌, ◌≡◌, List, length, take, drop}
use Rattle.base.specs.Lists.{count_of, nth}
use Rattle.directory.specs.declared.Held.{Held}

-- the bytes of a block
abbrev pub held_part : List ℕ → Held → List ℕ
held_part bytes held = take (held.stop - held.start) (drop held.start bytes)

-- a block of the bytes is where the x with j others before it would stand, with so many of them in the block
pub record BlockWith (x j : ℕ) (bytes : List ℕ) (held : Held) : Type 0 where
  pub order : held.start ≤ held.stop
  pub inside : held.stop ≤ length bytes
  -- the position in the block, past the bytes before it
  pub position : held.start + nth x held.rest (held_part bytes held) ≡ nth x j bytes
  -- where there is such an x, it is in the block
  pub more : j < count_of x bytes → held.rest < count_of x (held_part bytes held)
