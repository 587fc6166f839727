-- A sheet without document starts is answered of the whole text. Its starts are taken from the length of the root: one, or none for the empty text. Assumes nothing.
use Prim.Native.Nat.{ℕ, ◌*◌}
use mathlib.Core.Path.{◌≡◌, sym, ap, ◌∙◌}
use mathlib.Core.Logic.{◌⊎◌, inl, inr}
use mathlib.Core.List.{List, [], ◌∷◌}
use borrow.Author.Tests.{ne_eqb}
use lib.ListN.{length, get_or}
use Rattle.base.specs.declared.Answer.{Answer}
use Rattle.base.specs.Answers.{accepted, is_accepted, Case, first_of}
use Rattle.base.proofs.Answers.{first_append}
use Rattle.dense.specs.Code.{Closing}
use Rattle.index.specs.declared.Shape.{Shape}
use Rattle.index.specs.Arrays.{Arrays, text_in}
use Rattle.index.specs.Entries.{index_cases, check_answer}
use Rattle.documents.specs.Documents.{one_start}
use Rattle.questions.specs.declared.Question.{Question}
use Rattle.questions.specs.Answering.{reading_cases, ask_answer}
use Rattle.questions.proofs.Checks.{reading_whole, start_or_refused}
use Rattle.sheet_calls.specs.Sheets.{room_case, sheet_cases, sheet_answer, sheet_exit}
use Rattle.sheet_calls.specs.WithoutStarts.{SheetsWithoutStarts}
use Rattle.sheet_calls.proofs.Tested.{sheet_index, sheet_untouched}
use Rattle.sheet_calls.proofs.Singles.{sheets_equal_singles}

module _ (s : ℕ) (within : Closing s) (shape : Shape) (a : Arrays) where
  -- the starts by the length of the root, and by the number of words
  abbrev by_root : List ℕ
  by_root = one_start (get_or a.lengths 0 0)

  abbrev by_text : List ℕ
  by_text = one_start (length (text_in s a))

  -- a sheet that the check refuses leaves the slice as it was
  refused_leaves : (documents words : List ℕ) (qs : List Question) (z : List ℕ) → ((check_answer s shape a).refusal ≡ 0 → ⊥) → sheet_exit s shape a documents words qs z ≡ z
  refused_leaves documents words qs z h =
      sheet_untouched s shape a documents words qs z (ap is_accepted (sheet_index s shape a documents (length qs) (length z) h) ∙ ne_eqb (check_answer s shape a).refusal 0 h)

  -- the answer and the exit of such a sheet are those of a text that is one document
  pub sheet_whole : (words : List ℕ) (qs : List Question) (z : List ℕ)
      → (sheet_answer s shape a by_root (length qs) (length z) ≡ sheet_answer s shape a by_text (length qs) (length z))
      × (sheet_exit s shape a by_root words qs z ≡ sheet_exit s shape a by_text words qs z)
  sheet_whole words qs z = by (start_or_refused s shape a within)
    where
      by : (by_root ≡ by_text) ⊎ ((check_answer s shape a).refusal ≡ 0 → ⊥)
          → (sheet_answer s shape a by_root (length qs) (length z) ≡ sheet_answer s shape a by_text (length qs) (length z))
          × (sheet_exit s shape a by_root words qs z ≡ sheet_exit s shape a by_text words qs z)
      by (inl same) = (
        ap (λ (documents : List ℕ). sheet_answer s shape a documents (length qs) (length z)) same,
        ap (λ (documents : List ℕ). sheet_exit s shape a documents words qs z) same,
      )
      by (inr h) = (
        sheet_index s shape a by_root (length qs) (length z) h ∙ sym (sheet_index s shape a by_text (length qs) (length z) h),
        refused_leaves by_root words qs z h ∙ sym (refused_leaves by_text words qs z h),
      )

-- the starts turn nothing down, and the pairs are the single ones
pub sheets_without_starts : SheetsWithoutStarts
unfolding sheet_answer sheet_cases ask_answer
sheets_without_starts s shape a words qs z =
    let one : List ℕ = one_start (length (text_in s a)) in
    let room : List Case = room_case (length qs) (length z) ∷ [] in
    let done : Answer = accepted (2 * length qs) in
    record {
      by_the_index = first_append (reading_cases s shape a one) room done ∙ reading_whole s shape a (first_of room done) ∙ sym (first_append (index_cases s shape a) room done);
      singles = λ e. (sheets_equal_singles s shape a one words qs z).pairs e;
    }
