-- `list_tables::ListTables::new` meets its contract: the tables are long enough and clear. Assumes nothing.
use Rattle.std.proofs.Common.{refl}
use native.Mathlib.Nat.{le_refl}
use Rattle.list_tables.proofs.Noted.{zeros_clear}
use Rattle.list_tables.proofs.ListTables.new.Goals as goal

pub returns : goal.returns
returns c =
    let h = le_refl 32768 in
    record { heads_long = refl; heads_clear = zeros_clear 65536; links_long = h; starts_long = h; firsts_long = h; counts_long = h; counts_clear = zeros_clear 32768 }
