-- What the making of a word list gives that is refused or writes a list, and what the call returns for it.
use Rattle.std.specs.Prelude.{Result, Ok, Err}
use Rattle.base.specs.Answers.{accepted, refused_at}
use Rattle.base.specs.Outcomes.{number_of}
use Rattle.base.specs.declared.refusal.Refused.{Refused}
use Rattle.list_calls.specs.declared.ListMade.{ListMade}
use Rattle.list_calls.specs.declared.Made.{Made}

-- what the call returns: two zeros beside a refusal
abbrev pub list_made_of : Result Made Refused → ListMade
list_made_of (Ok made) = record { answer = accepted 0; bytes = made.bytes; words = made.words }
list_made_of (Err e) = record { answer = refused_at (number_of e.refusal) e.at; bytes = 0; words = 0 }
