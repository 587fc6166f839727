-- What a function that lists, or refuses, gives and leaves.
use Rattle.std.specs.Prelude.{ℕ, ◌≡◌, List, Result, Ok, Err}
use Rattle.base.specs.declared.refusal.Refusal.{Refusal}
use Rattle.base.specs.Outcomes.{number_of}
use Rattle.formatting.specs.Writing.{Wrote}
use Rattle.node_lines.specs.Lines.{refusal_line}

-- what is printed is written to the front of a slice; or it is the line of the refusal that is given, and the slice stays
abbrev pub Listed : List ℕ → List ℕ → Result ℕ Refusal → List ℕ → Type 0
Listed printed entry (Ok count) exit = Wrote printed 0 entry count exit
Listed printed entry (Err refusal) exit = (printed ≡ refusal_line (number_of refusal)) × (exit ≡ entry)
