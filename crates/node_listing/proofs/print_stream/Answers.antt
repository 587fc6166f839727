-- the line of a refusal is the listing of the stream, for which there is room
use Rattle.std.proofs.Common.{◌<◌, ℕ, length, ap, arith}
use Rattle.base.proofs.Lists.{all_of_at}
use Rattle.node_listing.proofs.Lengths.{listing_fits}
use Rattle.node_listing.proofs.print_stream.Goals as goal

pub write_refusal-requires : goal.write_refusal-requires
write_refusal-requires c =
    let stream = c.args.stream.now in
    rw c.number.ensures
    (omega (arith, ap length c.in-Err.ensures.0, ap length c.in-Err.ensures.1, listing_fits stream (all_of_at (λ (x : ℕ). x < 256) stream 0 (λ i h. omega (arith, c.type_inv.stream i))), c.requires))
