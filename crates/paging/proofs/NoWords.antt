-- A page of the phrase of no words is one of all places. Assumes nothing.
use Prim.Native.Nat.{ℕ, suc, ◌-◌}
use mathlib.Core.Path.{◌≡◌, refl, sym, ap, ◌∙◌}
use mathlib.Core.Bool.{false}
use mathlib.Core.List.{List}
use lib.ListN.{length}
use Rattle.base.proofs.Ranges.{filter_range_all}
use Rattle.phrases.specs.Phrases.{stands}
use Rattle.base.proofs.Filters.{filter_range_same}
use Rattle.documents.specs.Documents.{stands_in}
use Rattle.documents.proofs.Inside.{none_in}
use Rattle.phrases.proofs.NoWords.{none_from}
use Rattle.pages.specs.Pages.{page_over}
use Rattle.pages.proofs.Pages.{page_by_hits}
use Rattle.paging.specs.Places.{every_place}

-- of a text of n words, whatever its documents
pub none_page : (documents t ws : List ℕ) (n lines next : ℕ) → length ws ≡ 0 → n ≡ length t
    → page_over every_place n lines next false ≡ page_over (stands_in documents t ws) (length t) lines next false
none_page documents t ws n lines next none e =
    ap (λ (k : ℕ). page_over every_place k lines next false) e
    ∙ page_by_hits every_place (stands_in documents t ws) (length t) lines next next
    (filter_range_all every_place next (suc (length t) - next) (λ q l u. refl)
    ∙ sym (filter_range_same (stands_in documents t ws) (stands t ws) next (suc (length t) - next) (λ q l u. none_in documents t ws none q) ∙ none_from t ws none next))
