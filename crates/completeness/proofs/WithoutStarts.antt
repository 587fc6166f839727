-- Demand 3 for calls without document starts: their text is one document. Assumes nothing.
use Prim.Native.Nat.{ℕ}
use mathlib.Core.Path.{◌≡◌, refl}
use mathlib.Core.List.{List}
use lib.ListN.{length}
use Rattle.index.specs.declared.Shape.{Shape}
use Rattle.index.specs.Arrays.{Arrays, text_in}
use Rattle.phrases.specs.Phrases.{places}
use Rattle.phrases.proofs.Exact.{places_are_exact}
use Rattle.documents.specs.Documents.{one_start, places_in}
use Rattle.documents.proofs.Exact.{documents_are_exact}
use Rattle.questions.specs.Answering.{ask_answer}
use Rattle.listing.specs.Paging.{Call}
use Rattle.listing.proofs.WithoutStarts.{stands_whole}
use Rattle.completeness.specs.Completeness.{Brings}
use Rattle.completeness.specs.WithoutStarts.{BringsWhole, WholeListingComplete}
use Rattle.completeness.proofs.Whole.{listing_complete}

-- a call without document starts brings the one start of the text
brings_one : (s : ℕ) (shape : Shape) (a : Arrays) (phrase : List ℕ) (call : Call) → BringsWhole s shape a phrase call → Brings s shape a (one_start (length (text_in s a))) phrase call
brings_one s shape a phrase call b =
    rw b.is_whole (record { same_closing = refl; same_shape = refl; same_arrays = refl; same_documents = refl; same_phrase = b.same_phrase })

pub whole_listing_complete : WholeListingComplete
unfolding ask_answer
whole_listing_complete s shape a phrase within passed most asked calls bring =
    let t = text_in s a in
    let one = one_start (length t) in
    let d = documents_are_exact one t phrase in
    let p = places_are_exact t phrase in
    let all : places_in one t phrase ≡ places t phrase = d.whole refl in
    let c = listing_complete s shape a one phrase within passed d.whole_rules most asked calls
    (λ before call after e h. brings_one s shape a phrase call (bring before call after e h)) in record {
      the_text = c.the_text;
      no_other = c.no_other;
      the_places = p.standing;
      each_once = p.once;
      places_ascend = p.in_order;
      no_words_everywhere = p.none;
      first_places = simp all at c.first_places;
      ascending = c.ascending;
      nothing_else = simp stands_whole at c.nothing_else;
      end_reported = simp all at c.end_reported;
      all_found = simp all at c.all_found;
      none_missed = simp stands_whole at c.none_missed;
      last_reported = simp stands_whole at c.last_reported;
      none_reported = simp stands_whole at c.none_reported;
      end_state = c.end_state;
      next_within = c.next_within;
      page_accepted = λ before call after e b. c.page_accepted before call after e (brings_one s shape a phrase call b);
      count_of_all = simp all at c.count_of_all;
      passage_is_phrase = c.passage_is_phrase;
      absent_nowhere = simp all at c.absent_nowhere;
      absent_finished = c.absent_finished;
    }
