-- The arrays of a text are those that the code and the tree define, and the check passes exactly the arrays of texts. Assumes nothing.
use mathlib.Core.Path.{sym, ap, ◌∙◌}
use Rattle.base.specs.Answers.{accepted}
use Rattle.index.specs.Arrays.{text_in}
use Rattle.index.specs.Exact.{IndexIsExact}
use Rattle.index.proofs.Texts.{total_lengths, length_bytes}
use Rattle.index.proofs.Passing.{index_text, passes_text, text_passes}
use Rattle.index.proofs.Refusals.{check_limits, limits_check, build_accepted, build_filled}

pub index_exact : IndexIsExact
index_exact s shape within = record {
  built = λ t z limits text room. (
    build_accepted s shape t z limits text room ∙ ap accepted (length_bytes s within shape limits.most_words t text.ranks),
    build_filled s shape t z limits text room,
  );
  sized = λ t limits text. (total_lengths s within shape limits.most_words t text.ranks, length_bytes s within shape limits.most_words t text.ranks);
  read_back = λ t a limits h. index_text s within shape limits.most_words t a h;
  passed = λ a. (
    (λ e. let p = check_limits s within shape a e in (p.0, (text_in s a, passes_text s within shape p.0.most_words a p.1))),
    (λ h. limits_check s within shape a h.0 (text_passes s within shape h.0.most_words h.1.0 a h.1.1)),
  );
  rebuilt = λ a e. let p = check_limits s within shape a e in passes_text s within shape p.0.most_words a p.1;
  only_one = λ other same t u a limits h k.
      sym (index_text s within shape limits.most_words t a h)
      ∙ index_text s within other (rw same limits.most_words) u a k;
}
