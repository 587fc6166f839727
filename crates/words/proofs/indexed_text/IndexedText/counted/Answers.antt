use Rattle.words.proofs.Parts.{checked_sizes, checked_directory}
use Rattle.words.proofs.indexed_text.IndexedText.counted.Goals as goal

pub invariant_of-result : goal.invariant_of-result
invariant_of-result c =
    let checked = c.args.self.now.ready.checked in
    record { sizes = checked_sizes checked; directory = checked_directory checked }
