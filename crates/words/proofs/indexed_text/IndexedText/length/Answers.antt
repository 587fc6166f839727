use Rattle.words.proofs.Parts.{checked_some}
use Rattle.words.proofs.indexed_text.IndexedText.length.Goals as goal

pub text_length-requires : goal.text_length-requires
text_length-requires c = checked_some c.args.self.now.ready.checked
