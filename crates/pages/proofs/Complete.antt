-- Every list of page calls is complete. Assumes nothing.
use Prim.Native.Nat.{ℕ, suc, ◌+◌, ◌-◌, ◌≤◌, ◌<◌}
use mathlib.Core.Path.{◌≡◌, refl, sym, ap, ap₂, subst, ◌∙◌}
use mathlib.Core.Logic.{◌↔◌}
use mathlib.Core.Bool.{Bool, true, false, cond, not, false≢true}
use mathlib.Core.List.{List, [], ◌∷◌, ◌++◌, append-nil, append_assoc, flatten, Memᴰ}
use native.Mathlib.Omega.{arith}
use borrow.Author.Tests.{ltb-false, le-ltb}
use lib.Dec.{ltb}
use lib.ListN.{length, take, drop, get_or, length-take, length-drop}
use lib.Seq.{take-add, take_all, take-append_seam, drop-drop, get_or-take}
use Rattle.base.specs.Answers.{front}
use Rattle.base.proofs.Fronts.{length_front}
use Rattle.base.proofs.Ranges.{filter_range_none, filter_range_ascends}
use Rattle.pages.specs.Hits.{all_hits}
use Rattle.pages.specs.Pages.{HitPage, pending, page_over}
use Rattle.pages.specs.Runs.{Outcome, hits_on, lines_on, ReportsEnd, outcomes, state_after, outcome_after, found, lines_had, AcceptedBring, CompleteRun, IsPage, IsListing, EveryRunComplete}
use Rattle.base.proofs.Members.{mem_take}
use Rattle.pages.proofs.Hits.{hits_from_start, is_hit, hit_is, last_among}
use Rattle.pages.proofs.Pages.{page_found, page_more, page_closes, page_ended, page_rest, page_within}
use Rattle.pages.proofs.Runs.{found_cons, found_append, lines_append, lines_snoc}

-- a list that is its own front has no more elements
take_whole : (k : ℕ) (xs : List ℕ) → take k xs ≡ xs → length xs ≤ k
take_whole k xs e = omega (arith, ap length e, length-take k xs)

-- only an accepted page has hits
hits_accepted : {State : Type 0} (o : Outcome State) {q : ℕ} → Memᴰ q (hits_on o) → o.accepted ≡ true
hits_accepted o {q} m = by o.accepted _ m
  where
    by : (b : Bool) (xs : List ℕ) → Memᴰ q (cond b xs []) → b ≡ true
    by true xs m = refl
    by false xs m = absurd (mathlib.Core.List.Memᴰ.not-nil m)

-- ---- one call

module _ {State : Type 0} (next : State → ℕ) (finished : State → Bool) (P : ℕ → Bool) (end : ℕ) where
  -- the hits that a state has still to write
  abbrev left : State → List ℕ
  left state = pending P end (next state) (finished state)

  -- what a call does to the hits that its state has still to write
  record Takes (state : State) (o : Outcome State) : Type 0 where
    hits : hits_on o ≡ take (lines_on o) (left state)
    rest : left o.state ≡ drop (lines_on o) (left state)
    more : o.accepted ≡ true → o.more ≡ ltb (lines_on o) (length (left state))
    within : next o.state ≤ end
    closes : o.accepted ≡ true → finished o.state ≡ not o.more
    ended : (finished state ≡ true → next state ≡ end) → finished o.state ≡ true → next o.state ≡ end

  -- a refused call takes none of them
  refused_takes : (state : State) (o : Outcome State) → next state ≤ end → o.accepted ≡ false → o.state ≡ state → Takes state o
  refused_takes state o h a s = record {
    hits = rw a;
    rest = rw (a, s);
    more = λ b. absurd (false≢true (sym a ∙ b));
    within = rw s h;
    closes = λ b. absurd (false≢true (sym a ∙ b));
    ended = rw s (λ k. k);
  }

  -- a page takes as many as it has lines
  module _ (slice : List ℕ) (state : State) (o : Outcome State) (a : o.accepted ≡ true) (p : IsPage next finished P end slice state o) where
    -- the page that it is
    abbrev the : HitPage
    the = page_over P end (length slice) (next state) (finished state)

    -- its hits fit the slice
    fits : length the.found ≤ length slice
    fits = omega (arith, ap length (page_found P end (length slice) (next state) (finished state)), length-take (length slice) (left state))

    -- its lines are the elements of the slice that was lent
    lines-is : lines_on o ≡ length slice
    lines-is = rw (a, p.slice_is) (length_front the.found slice fits)

    -- its hits are the page's
    hits-is : hits_on o ≡ the.found
    unfolding front
    hits-is = rw (a, p.slice_is, p.value_is) (take-append_seam the.found (drop (length the.found) slice))

    -- so it takes as many as it has lines
    page-takes : next state ≤ end → Takes state o
    page-takes h = record {
      hits = hits-is ∙ page_found P end (length slice) (next state) (finished state) ∙ ap (λ (k : ℕ). take k (left state)) (sym lines-is);
      rest =
          ap₂ (pending P end) p.next_is p.finished_is ∙ page_rest P end (length slice) p.some_line (next state) h (finished state)
          ∙ ap (λ (k : ℕ). drop k (left state)) (sym lines-is);
      more = λ b. p.more_is ∙ page_more P end (length slice) (next state) (finished state) ∙ ap (λ (k : ℕ). ltb k (length (left state))) (sym lines-is);
      within = rw p.next_is (page_within P end (length slice) p.some_line (next state) h (finished state));
      closes = λ b. p.finished_is ∙ page_closes P end (length slice) (next state) (finished state) ∙ ap not (sym p.more_is);
      ended = λ k f. p.next_is ∙ page_ended P end (length slice) (next state) (finished state) k (sym p.finished_is ∙ f);
    }

-- ---- a list of calls

module _ {Call State : Type 0} (answer : Call → State → Outcome State) (next : State → ℕ) (finished : State → Bool) (lines : Call → List ℕ)
    (Brings : Call → Type 0) (Kept : State → Type 0) (P : ℕ → Bool) (end : ℕ) (L : IsListing answer next finished lines Brings Kept P end) where
  -- a state that a run can be in: its next place is not past the end, and at it once it is finished, and what is to be kept is
  record Sound (state : State) : Type 0 where
    inside : next state ≤ end
    ended : finished state ≡ true → next state ≡ end
    kept : Kept state

  -- what a call takes
  takes : (call : Call) (state : State) → Sound state → ((answer call state).accepted ≡ true → Brings call) → Takes next finished P end state (answer call state)
  takes call state s b = by (answer call state).accepted refl
    where
      by : (t : Bool) → (answer call state).accepted ≡ t → Takes next finished P end state (answer call state)
      by false a = refused_takes next finished P end state (answer call state) s.inside a (L.refused call state a)
      by true a = page-takes next finished P end (lines call) state (answer call state) a (L.page call state s.kept (b a) a) s.inside

  -- the state that a call returns is sound
  sound_after : (call : Call) (state : State) → Sound state → ((answer call state).accepted ≡ true → Brings call) → Sound (answer call state).state
  sound_after call state s b = record { inside = (takes call state s b).within; ended = (takes call state s b).ended s.ended; kept = by (answer call state).accepted refl }
    where
      by : (t : Bool) → (answer call state).accepted ≡ t → Kept (answer call state).state
      by true a = L.keeps call state s.kept (b a) a
      by false a = subst Kept (sym (L.refused call state a)) s.kept

  -- what calls have done that begin with a state
  record Ran (state : State) (calls : List Call) : Type 0 where
    hits : found answer state calls ≡ take (lines_had answer state calls) (left next finished P end state)
    rest : left next finished P end (state_after answer state calls) ≡ drop (lines_had answer state calls) (left next finished P end state)
    sound : Sound (state_after answer state calls)

  -- they have found the first of what the state had still to write, and left the rest
  ran : (calls : List Call) (state : State) → Sound state → AcceptedBring answer Brings state calls → Ran state calls
  unfolding found lines_had outcomes state_after flatten
  ran [] state s b = record { hits = refl; rest = refl; sound = s }
  ran (call ∷ calls) state s b =
      let here : (answer call state).accepted ≡ true → Brings call = b [] call calls refl in
      let one : Takes next finished P end state (answer call state) = takes call state s here in
      let r : Ran (answer call state).state calls =
      ran calls (answer call state).state (sound_after call state s here) (λ before c after e. b (call ∷ before) c after (ap (λ (l : List Call). call ∷ l) e)) in
      let n : ℕ = lines_had answer (answer call state).state calls in
      record {
        hits =
            ap₂ ◌++◌ one.hits (r.hits ∙ ap (take n) one.rest)
            ∙ sym (take-add (lines_on (answer call state)) n (left next finished P end state));
        rest = r.rest ∙ ap (drop n) one.rest ∙ drop-drop n (lines_on (answer call state)) (left next finished P end state);
        sound = r.sound;
      }

  -- calls from an opening state
  module _ (opening : State) (opens : next opening ≡ 0) (unfinished : finished opening ≡ false) (kept : Kept opening) (calls : List Call)
      (brings : AcceptedBring answer Brings opening calls) where
    -- an opening state has all hits still to write
    all_left : left next finished P end opening ≡ all_hits P end
    all_left = rw (opens, unfinished) (hits_from_start P end)

    -- and is sound
    sound : Sound opening
    sound = record { inside = omega arith; ended = λ f. absurd (false≢true (sym unfinished ∙ f)); kept = kept }

    -- some of the calls, from the first on
    front-ran : (before rest : List Call) → before ++ rest ≡ calls → Ran opening before
    front-ran before rest e =
        ran before opening sound (λ b c d f. brings b c (d ++ rest) (sym (append_assoc b (c ∷ d) rest) ∙ ap (λ (l : List Call). l ++ rest) f ∙ e))

    -- have found the first hits
    front-hits : (before rest : List Call) → before ++ rest ≡ calls → found answer opening before ≡ take (lines_had answer opening before) (all_hits P end)
    front-hits before rest e = (front-ran before rest e).hits ∙ ap (take (lines_had answer opening before)) all_left

    -- and so have all of them
    first-hits : found answer opening calls ≡ take (lines_had answer opening calls) (all_hits P end)
    first-hits = front-hits calls [] (append-nil calls)

    -- what is found is ascending, since hits are
    ascends : (i j : ℕ) → i < j → j < length (found answer opening calls) → get_or (found answer opening calls) i 0 < get_or (found answer opening calls) j 0
    ascends i j l h =
        let n : length (found answer opening calls) ≡ length (take (lines_had answer opening calls) (all_hits P end)) = ap length first-hits in
        let k : j < lines_had answer opening calls = omega (arith, length-take (lines_had answer opening calls) (all_hits P end)) in
        let m : j < length (all_hits P end) = omega (arith, length-take (lines_had answer opening calls) (all_hits P end)) in
        rw (first-hits, get_or-take (lines_had answer opening calls) (all_hits P end) i 0 (omega arith), get_or-take (lines_had answer opening calls) (all_hits P end) j 0 k)
        (filter_range_ascends P 0 (suc end) i j l m)

    -- a call of the list
    module _ (before : List Call) (call : Call) (after : List Call) (e : before ++ call ∷ after ≡ calls) where
      -- what the calls before it have done
      here : Ran opening before
      here = front-ran before (call ∷ after) e

      -- what it takes
      this : Takes next finished P end (state_after answer opening before) (outcome_after answer opening before call)
      this = takes call (state_after answer opening before) here.sound (brings before call after e)

      -- what is found with it
      upto-hits : found answer opening (before ++ call ∷ []) ≡ take (lines_had answer opening (before ++ call ∷ [])) (all_hits P end)
      upto-hits = front-hits (before ++ call ∷ []) after (append_assoc before (call ∷ []) after ∙ e)

      -- how many hits its state has still to write
      left_here : length (left next finished P end (state_after answer opening before)) ≡ length (all_hits P end) - lines_had answer opening before
      left_here =
          ap length (here.rest ∙ ap (drop (lines_had answer opening before)) all_left) ∙ length-drop (lines_had answer opening before) (all_hits P end)

      -- an accepted page reports the end exactly if the pages so far have lines for all hits
      enough : (outcome_after answer opening before call).accepted ≡ true
          → ((outcome_after answer opening before call).more ≡ false) ↔ (length (all_hits P end) ≤ lines_had answer opening (before ++ call ∷ []))
      enough a =
          let m : ℕ = lines_on (outcome_after answer opening before call) in
          let k : ℕ = length (left next finished P end (state_after answer opening before)) in (
            λ q. omega (arith, ltb-false m k (sym (this.more a) ∙ q), lines_snoc answer opening before call, left_here),
            λ h. this.more a ∙ le-ltb m k (omega (arith, lines_snoc answer opening before call, left_here)),
          )

      -- and so exactly if all hits are found with it
      ends : (outcome_after answer opening before call).accepted ≡ true
          → ((outcome_after answer opening before call).more ≡ false) ↔ (found answer opening (before ++ call ∷ []) ≡ all_hits P end)
      ends a = (
        λ q. upto-hits ∙ take_all (lines_had answer opening (before ++ call ∷ [])) (all_hits P end) ((enough a).0 q),
        λ q. (enough a).1 (take_whole (lines_had answer opening (before ++ call ∷ [])) (all_hits P end) (sym upto-hits ∙ q)),
      )

      -- after which no more are found
      all_found : ReportsEnd (outcome_after answer opening before call) → found answer opening calls ≡ all_hits P end
      all_found r =
          let k : lines_had answer opening calls ≡ lines_had answer opening (before ++ call ∷ []) + lines_had answer (state_after answer opening (before ++ call ∷ [])) after =
          ap (lines_had answer opening) (sym e ∙ sym (append_assoc before (call ∷ []) after)) ∙ lines_append answer opening (before ++ call ∷ []) after in
          first-hits ∙ take_all (lines_had answer opening calls) (all_hits P end) (omega (arith, (enough r.accepted).0 r.no_more))

      -- the page that has the last hit has lines enough
      last_written : (q : ℕ) → Memᴰ q (hits_on (outcome_after answer opening before call)) → ((p : ℕ) → q < p → p ≤ end → P p ≡ false)
          → ReportsEnd (outcome_after answer opening before call)
      last_written q m none =
          let a : (outcome_after answer opening before call).accepted ≡ true = hits_accepted (outcome_after answer opening before call) m in
          let w : Memᴰ q (found answer opening before ++ found answer (state_after answer opening before) (call ∷ [])) =
          mathlib.Core.List.Memᴰ.append_right (found answer opening before)
          (subst (λ (l : List ℕ). Memᴰ q l) (sym (found_cons answer (state_after answer opening before) call []))
          (mathlib.Core.List.Memᴰ.append_left (found answer (outcome_after answer opening before call).state []) m)) in
          let among : Memᴰ q (take (lines_had answer opening (before ++ call ∷ [])) (all_hits P end)) =
          subst (λ (l : List ℕ). Memᴰ q l) (sym (found_append answer opening before (call ∷ [])) ∙ upto-hits) w in
          record { accepted = a; no_more = (enough a).1 (last_among P end (lines_had answer opening (before ++ call ∷ [])) q among none) }

    -- every clause
    complete-run : CompleteRun answer next finished lines Brings P end opening calls
    complete-run = record {
      first_hits = first-hits;
      ascending = ascends;
      sound = λ q m. is_hit P end q (mem_take (lines_had answer opening calls) (all_hits P end) (subst (λ (l : List ℕ). Memᴰ q l) first-hits m));
      end_reported = ends;
      all_found = all_found;
      none_missed = λ before call after e r q l h. subst (λ (l : List ℕ). Memᴰ q l) (sym (all_found before call after e r)) (hit_is P end q l h);
      last_written = last_written;
      no_hits = λ before call after e a none.
          let z : length (all_hits P end) ≡ 0 = ap length (filter_range_none P 0 (suc end) (λ q l u. none q (omega arith))) in
          record { accepted = a; no_more = (enough before call after e a).1 (omega arith) };
      within = λ before call after e. (here before call after e).sound.inside;
      next_within = λ before call after e. (this before call after e).within;
      end_state = λ before call after e r.
          let f : finished (outcome_after answer opening before call).state ≡ true = (this before call after e).closes r.accepted ∙ ap not r.no_more in
          (f, (this before call after e).ended (here before call after e).sound.ended f);
      page_accepted = λ before call after e b l.
          let s : Sound (state_after answer opening before) = (here before call after e).sound in
          L.accepts call (state_after answer opening before) s.kept b l s.inside;
    }

-- every list of calls is complete
pub every_run_complete : EveryRunComplete
every_run_complete Call State answer next finished lines Brings Kept P end L opening opens unfinished kept calls brings =
    complete-run answer next finished lines Brings Kept P end L opening opens unfinished kept calls brings
