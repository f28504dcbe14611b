-- What the laws of the work-shares forbid, of any team, member, share, shape, piece and list of events.
use Rattle.std.proofs.Common.{◌≡◌, ℕ, ◌+◌, ◌<◌, ◌≤◌, Bool, true, false, List, [], ◌∷◌, ◌++◌, Some, slice_get, take, refl, ap, sym, arith, inl, inr}
use Rattle.std.specs.Prelude.{if◌then◌else◌, ◌&&◌, ◌==◌, ◌%◌, nat_le, nat_lt}
use Rattle.std.proofs.lemmas.Bool.Decides.{nat_tests}
use Rattle.gomp_types.specs.declared.cancel.Scope.{Scope}
use Rattle.gomp_types.specs.declared.cancel.Scope.TheVariants.{OneShare}
use Rattle.gomp_types.specs.declared.limits.TheConstants.{OPEN_SHARES}
use Rattle.gomp_types.specs.declared.loop_desc.EndKind.TheVariants.{Cancellable}
use Rattle.gomp_types.specs.declared.shape.Shape.{Shape}
use Rattle.gomp_types.specs.declared.shape.ShareKind.TheVariants as kind
use Rattle.gomp_events.specs.declared.event.Event.{Event}
use Rattle.gomp_events.specs.declared.event.Event.TheVariants.{Enter, Take, End, Cancel}
use Rattle.gomp_events.specs.Cancels.{was_cancelled}
use Rattle.gomp_types.specs.Deals.{Queues}
use Rattle.gomp_events.specs.Takes.{taken_in, takes_in, next_for}
use Rattle.gomp_events.specs.Events.{shares_entered, times_taken}
use Rattle.gomp_types.specs.Pieces.{has_iteration}
use Rattle.gomp_events.specs.Laws.{Always, Happened}
use Rattle.gomp_types.specs.Pieces.{Piece, pieces_of}
use Rattle.gomp_types.proofs.Booleans.{and_left, and_right, is_equal, same_number}
use Rattle.gomp_shares.specs.Laws.{TakesNext, TakesWithin, LeavesNothing, TakesItsOwn, CancelsCancellable, LeavesCancelled, EntersOneByOne, EndsInside, EntersWithRoom, ShareLaws}
use Rattle.gomp_shares.proofs.CancelledShares.{cancel_stands}
use Rattle.gomp_shares.proofs.OrderedKeep.{taken_grows, taken_is_counted, counted_again}

-- Where a law looks

-- a law of each event holds of an event that others follow
law_there : (Law : Event → List Event → Type 0) (event : Event) (later h : List Event) → Always Law (later ++ event ∷ h) → Law event h
law_there Law event [] h all = all.0
law_there Law event (first ∷ later) h all = law_there Law event later h all.1

-- and of those before it
law_before : (Law : Event → List Event → Type 0) (later h : List Event) → Always Law (later ++ h) → Always Law h
law_before Law [] h all = all
law_before Law (first ∷ later) h all = law_before Law later h all.1

-- By what happened

-- takes stay taken
counted_later : (share k : ℕ) (later h : List Event) → times_taken share k h ≤ times_taken share k (later ++ h)
counted_later share k [] h = omega arith
counted_later share k (event ∷ later) h = let more = taken_grows share k event (later ++ h) in let rest = counted_later share k later h in omega (arith, more, rest)

-- an iteration of no take was not taken
untaken_not_counted : (share k : ℕ) (h : List Event) → ((n low high : ℕ) → Happened (Take share n low high) h → low ≤ k → k < high → ⊥) → times_taken share k h ≡ 0
untaken_not_counted share k [] never = refl
untaken_not_counted share k (event ∷ h) never = step event (untaken_not_counted share k h (λ n low high taken. never n low high (inr taken))) (λ n low high is. never n low high (inl is))
  where
    step : (event : Event) → times_taken share k h ≡ 0 → ((n low high : ℕ) → event ≡ Take share n low high → low ≤ k → k < high → ⊥) → times_taken share k (event ∷ h) ≡ 0
    step (Take i n low high) none apart = by_both (i == share && has_iteration k low high) refl
      where
        by_both : (b : Bool) → (i == share && has_iteration k low high) ≡ b → times_taken share k (Take i n low high ∷ h) ≡ 0
        by_both true e =
            let is = is_equal i share (and_left (i == share) (has_iteration k low high) e) in
            let has = and_right (i == share) (has_iteration k low high) e in
            let from = and_left (nat_le low k) (nat_lt k high) has in
            let before = and_right (nat_le low k) (nat_lt k high) has in
            absurd (apart n low high (ap (λ (j : ℕ). Take j n low high) is) (grind (arith, nat_tests, from)) (grind (arith, nat_tests, before)))
        by_both false e = rw e none
    step _ none apart = none

-- a share of which nothing was taken has no takes from any queue
untaken_queue : (queue_of : ℕ → ℕ) (share q : ℕ) (h : List Event) → ((n low high : ℕ) → Happened (Take share n low high) h → ⊥) → (takes_in queue_of share q h ≡ []) × (taken_in queue_of share q h ≡ 0)
untaken_queue queue_of share q [] never = (refl, refl)
untaken_queue queue_of share q (event ∷ h) never = step event (untaken_queue queue_of share q h (λ n low high taken. never n low high (inr taken))) (λ n low high is. never n low high (inl is))
  where
    step : (event : Event) → (takes_in queue_of share q h ≡ []) × (taken_in queue_of share q h ≡ 0) → ((n low high : ℕ) → event ≡ Take share n low high → ⊥) → (takes_in queue_of share q (event ∷ h) ≡ []) × (taken_in queue_of share q (event ∷ h) ≡ 0)
    step (Take i n low high) none apart = by_both (i == share && queue_of n == q) refl
      where
        by_both : (b : Bool) → (i == share && queue_of n == q) ≡ b → (takes_in queue_of share q (Take i n low high ∷ h) ≡ []) × (taken_in queue_of share q (Take i n low high ∷ h) ≡ 0)
        by_both true e = absurd (apart n low high (ap (λ (j : ℕ). Take j n low high) (is_equal i share (and_left (i == share) (queue_of n == q) e))))
        by_both false e = rw e none
    step _ none apart = none

first_taken : (piece : Piece) (pieces : List Piece) → ◌≡◌ {A = List Piece} (piece ∷ []) (take 1 pieces) → slice_get pieces 0 ≡ Some piece
first_taken piece [] e = absurd (cc)
first_taken piece (first ∷ pieces) e = let same : piece ≡ first = cc in rw (sym same) refl

-- what nobody cancelled is not cancelled
none_cancelled_it : (scope : Scope) (h : List Event) → ((n : ℕ) → Happened (Cancel n scope) h → ⊥) → was_cancelled scope h ≡ false
none_cancelled_it scope h never = by_test (was_cancelled scope h) refl
  where
    by_test : (b : Bool) → was_cancelled scope h ≡ b → was_cancelled scope h ≡ false
    by_test true e = let by = cancel_stands scope h e in absurd (never by.0 by.1)
    by_test false e = e

-- Taken once

-- no iteration is taken twice, by whomever and in whichever pieces
pub never_iteration_taken_twice : (queues : Queues) (members share m n k low high other_low other_high : ℕ) (later h : List Event) → Happened (Take share n other_low other_high) h → other_low ≤ k → k < other_high → low ≤ k → k < high →
    ShareLaws queues members (later ++ Take share m low high ∷ h) → ⊥
never_iteration_taken_twice queues members share m n k low high other_low other_high later h taken other_from other_before from before law =
    let first = taken_is_counted share n k other_low other_high h taken other_from other_before in
    let again = counted_again share m k low high h from before in
    let stays = counted_later share k later (Take share m low high ∷ h) in
    let most = law.taken_once.once share k in omega (arith, first, again, stays, most)

-- nothing is taken by a member that has not entered the share
pub never_taken_without_an_entry : (queues : Queues) (members share m low high : ℕ) (later h : List Event) → ((shape : Shape) → Happened (Enter share m shape) h → ⊥) → ShareLaws queues members (later ++ Take share m low high ∷ h) → ⊥
never_taken_without_an_entry queues members share m low high later h never law =
    let (shape, entered, stays, next) = law_there (TakesNext queues) (Take share m low high) later h law.taken_once.pieces in never shape entered

-- nor by one that has left it
pub never_taken_after_the_end : (queues : Queues) (members share m low high : ℕ) (later h : List Event) → Happened (End share m) h → ShareLaws queues members (later ++ Take share m low high ∷ h) → ⊥
never_taken_after_the_end queues members share m low high later h left law =
    let (shape, entered, stays, next) = law_there (TakesNext queues) (Take share m low high) later h law.taken_once.pieces in stays left

-- nor anything but the least piece that nobody took of those that are the member's to take
pub never_taken_but_the_next_piece : (queues : Queues) (members share m low high : ℕ) (later h : List Event) → ((shape : Shape) → Happened (Enter share m shape) h → next_for queues shape share m h ≡ Some (low, high) → ⊥) →
    ShareLaws queues members (later ++ Take share m low high ∷ h) → ⊥
never_taken_but_the_next_piece queues members share m low high later h apart law =
    let (shape, entered, stays, next) = law_there (TakesNext queues) (Take share m low high) later h law.taken_once.pieces in apart shape entered next

-- no piece is empty
pub never_taken_without_iterations : (queues : Queues) (members share m low high : ℕ) (later h : List Event) → high ≤ low → ShareLaws queues members (later ++ Take share m low high ∷ h) → ⊥
never_taken_without_iterations queues members share m low high later h empty law =
    let (shape, entered, some, within) = law_there TakesWithin (Take share m low high) later h law.taken_once.within in omega (arith, empty, some)

-- none leads past the last iteration
pub never_taken_past_the_last_iteration : (queues : Queues) (members share m low high : ℕ) (later h : List Event) → ((shape : Shape) → Happened (Enter share m shape) h → shape.trips < high) → ShareLaws queues members (later ++ Take share m low high ∷ h) → ⊥
never_taken_past_the_last_iteration queues members share m low high later h past law =
    let (shape, entered, some, within) = law_there TakesWithin (Take share m low high) later h law.taken_once.within in
    let beyond = past shape entered in omega (arith, within, beyond)

-- no member leaves a share that nobody cancelled while a piece is left for it
pub never_left_with_a_piece_left : (queues : Queues) (members share m : ℕ) (shape : Shape) (piece : Piece) (later h : List Event) → Happened (Enter share m shape) h → ((n : ℕ) → Happened (Cancel n (OneShare share)) h → ⊥) →
    next_for queues shape share m h ≡ Some piece → ShareLaws queues members (later ++ End share m ∷ h) → ⊥
never_left_with_a_piece_left queues members share m shape piece later h entered never left law =
    let none = law_there (LeavesNothing queues) (End share m) later h law.taken_once.left shape entered (none_cancelled_it (OneShare share) h never) in absurd (cc)

-- the takes from a queue are its first pieces, in order
pub never_queue_taken_out_of_order : (queues : Queues) (members share m q : ℕ) (shape : Shape) (h : List Event) → Happened (Enter share m shape) h →
    (takes_in (queues.queue_of shape) share q h ≡ take (taken_in (queues.queue_of shape) share q h) (queues.queue shape q) → ⊥) → ShareLaws queues members h → ⊥
never_queue_taken_out_of_order queues members share m q shape h entered apart law = apart (law.taken_once.order share m q shape entered)

-- so the first is its first piece
pub never_queue_begun_but_by_its_first_piece : (queues : Queues) (members share m n low high : ℕ) (shape : Shape) (h : List Event) → Happened (Enter share m shape) h → ((k from to : ℕ) → Happened (Take share k from to) h → ⊥) →
    (slice_get (queues.queue shape (queues.queue_of shape n)) 0 ≡ Some (low, high) → ⊥) → ShareLaws queues members (Take share n low high ∷ h) → ⊥
never_queue_begun_but_by_its_first_piece queues members share m n low high shape h entered never apart law =
    let none = untaken_queue (queues.queue_of shape) share (queues.queue_of shape n) h never in
    let all = law.taken_once.order share m (queues.queue_of shape n) shape (inr entered) in
    let one : (low, high) ∷ [] ≡ take 1 (queues.queue shape (queues.queue_of shape n)) = rw (same_number share, same_number (queues.queue_of shape n), none.0, none.1) at all in
    apart (first_taken (low, high) (queues.queue shape (queues.queue_of shape n)) one)

-- Own pieces

-- no member takes a piece of a static loop with a chunk whose number does not count round to it
pub never_taken_from_another_of_static_chunks : (members share m low high : ℕ) (shape : Shape) (later h : List Event) → Happened (Enter share m shape) h → shape.kind ≡ kind.StaticChunked →
    ((number : ℕ) → slice_get (pieces_of members shape) number ≡ Some (low, high) → number % members ≡ m → ⊥) → Always (TakesItsOwn members) (later ++ Take share m low high ∷ h) → ⊥
never_taken_from_another_of_static_chunks members share m low high shape later h entered static apart law =
    let (number, is, own) = law_there (TakesItsOwn members) (Take share m low high) later h law shape entered (rw static refl) in apart number is own

-- nor one of a static loop without a chunk
pub never_taken_from_another_of_even_parts : (members share m low high : ℕ) (shape : Shape) (later h : List Event) → Happened (Enter share m shape) h → shape.kind ≡ kind.StaticEven →
    ((number : ℕ) → slice_get (pieces_of members shape) number ≡ Some (low, high) → number % members ≡ m → ⊥) → Always (TakesItsOwn members) (later ++ Take share m low high ∷ h) → ⊥
never_taken_from_another_of_even_parts members share m low high shape later h entered static apart law =
    let (number, is, own) = law_there (TakesItsOwn members) (Take share m low high) later h law shape entered (rw static refl) in apart number is own

-- Whole

-- no share that every member has left, and nobody cancelled, has an iteration that nobody took
pub never_over_with_an_iteration_left : (queues : Queues) (members share m k : ℕ) (shape : Shape) (h : List Event) → Happened (Enter share m shape) h → ((n : ℕ) → n < members → Happened (End share n) h) →
    ((n : ℕ) → Happened (Cancel n (OneShare share)) h → ⊥) → k < shape.trips → ((n low high : ℕ) → Happened (Take share n low high) h → low ≤ k → k < high → ⊥) → ShareLaws queues members h → ⊥
never_over_with_an_iteration_left queues members share m k shape h entered over uncancelled lt never law =
    let one = law.whole share m shape entered over (none_cancelled_it (OneShare share) h uncancelled) k lt in
    let none = untaken_not_counted share k h never in omega (arith, one, none)

-- Cancelled shares

-- no member cancels a share that it has not entered
pub never_cancelled_without_an_entry : (queues : Queues) (members share m : ℕ) (later h : List Event) → ((shape : Shape) → Happened (Enter share m shape) h → ⊥) → ShareLaws queues members (later ++ Cancel m (OneShare share) ∷ h) → ⊥
never_cancelled_without_an_entry queues members share m later h never law =
    let (shape, entered, stays, may) = law_there CancelsCancellable (Cancel m (OneShare share)) later h law.cancelled in never shape entered

-- nor one that it has left
pub never_cancelled_after_the_end : (queues : Queues) (members share m : ℕ) (later h : List Event) → Happened (End share m) h → ShareLaws queues members (later ++ Cancel m (OneShare share) ∷ h) → ⊥
never_cancelled_after_the_end queues members share m later h left law =
    let (shape, entered, stays, may) = law_there CancelsCancellable (Cancel m (OneShare share)) later h law.cancelled in stays left

-- nor one whose end kind does not allow that
pub never_cancelled_against_its_end_kind : (queues : Queues) (members share m : ℕ) (later h : List Event) → ((shape : Shape) → Happened (Enter share m shape) h → shape.end_kind ≡ Cancellable → ⊥) →
    ShareLaws queues members (later ++ Cancel m (OneShare share) ∷ h) → ⊥
never_cancelled_against_its_end_kind queues members share m later h apart law =
    let (shape, entered, stays, may) = law_there CancelsCancellable (Cancel m (OneShare share)) later h law.cancelled in apart shape entered may

-- no member leaves with a piece left for it before some member cancelled the share
pub never_left_early_without_a_cancellation : (queues : Queues) (members share m : ℕ) (shape : Shape) (piece : Piece) (later h : List Event) → Happened (Enter share m shape) h → next_for queues shape share m h ≡ Some piece →
    ((n : ℕ) → Happened (Cancel n (OneShare share)) h → ⊥) → ShareLaws queues members (later ++ End share m ∷ h) → ⊥
never_left_early_without_a_cancellation queues members share m shape piece later h entered left never law =
    let by = law_there (LeavesCancelled queues) (End share m) later h law.left_early shape entered (λ none. absurd (cc)) in never by.0 by.1

-- Same shares

-- entries count, and stay counted
entered_more : (m : ℕ) (event : Event) (h : List Event) → shares_entered m h ≤ shares_entered m (event ∷ h)
entered_more m (Enter share n shape) h = by_member (n == m)
  where
    by_member : (b : Bool) → shares_entered m h ≤ (if b then shares_entered m h + 1 else shares_entered m h)
    by_member true = omega arith
    by_member false = omega arith
entered_more m _ h = omega arith

entered_below : (members share m : ℕ) (shape : Shape) (h : List Event) → Always (EntersOneByOne members) h → Happened (Enter share m shape) h → share < shares_entered m h
entered_below members share m shape [] all entered = absurd entered
entered_below members share m shape (Enter i n other ∷ h) all (inl e) =
    let is : i ≡ share = cc in
    let who : n ≡ m = cc in
    let number : share ≡ shares_entered m h = rw (is, who) at all.0.1 in
    rw (who, same_number m) (omega (arith, number))
entered_below members share m shape (_ ∷ h) all (inl e) = absurd (cc)
entered_below members share m shape (event ∷ h) all (inr entered) =
    let below = entered_below members share m shape h all.1 entered in
    let more = entered_more m event h in omega (arith, below, more)

none_entered : (m : ℕ) (h : List Event) → ((share : ℕ) (shape : Shape) → Happened (Enter share m shape) h → ⊥) → shares_entered m h ≡ 0
none_entered m [] never = refl
none_entered m (event ∷ h) never = step event (none_entered m h (λ share shape entered. never share shape (inr entered))) (λ share shape is. never share shape (inl is))
  where
    step : (event : Event) → shares_entered m h ≡ 0 → ((share : ℕ) (shape : Shape) → event ≡ Enter share m shape → ⊥) → shares_entered m (event ∷ h) ≡ 0
    step (Enter share n shape) none apart = by_member (n == m) refl
      where
        by_member : (b : Bool) → (n == m) ≡ b → shares_entered m (Enter share n shape ∷ h) ≡ 0
        by_member true e = absurd (apart share shape (ap (λ (k : ℕ). Enter share k shape) (is_equal n m e)))
        by_member false e = rw e none
    step _ none apart = none

-- nobody enters that is not in the team
pub never_entered_by_a_stranger : (queues : Queues) (members share m : ℕ) (shape : Shape) (later h : List Event) → members ≤ m → ShareLaws queues members (later ++ Enter share m shape ∷ h) → ⊥
never_entered_by_a_stranger queues members share m shape later h stranger law =
    let (member, number, left) = law_there (EntersOneByOne members) (Enter share m shape) later h law.same_shares.one_by_one in omega (arith, stranger, member)

-- no member skips a share, or enters one again
pub never_entered_out_of_order : (queues : Queues) (members share m : ℕ) (shape : Shape) (later h : List Event) → (share ≡ shares_entered m h → ⊥) → ShareLaws queues members (later ++ Enter share m shape ∷ h) → ⊥
never_entered_out_of_order queues members share m shape later h apart law =
    let (member, number, left) = law_there (EntersOneByOne members) (Enter share m shape) later h law.same_shares.one_by_one in apart number

pub never_first_entered_but_the_first : (queues : Queues) (members share m : ℕ) (shape : Shape) (later h : List Event) → ((i : ℕ) (other : Shape) → Happened (Enter i m other) h → ⊥) → 0 < share → ShareLaws queues members (later ++ Enter share m shape ∷ h) → ⊥
never_first_entered_but_the_first queues members share m shape later h never some law =
    let (member, number, left) = law_there (EntersOneByOne members) (Enter share m shape) later h law.same_shares.one_by_one in
    let none = none_entered m h never in omega (arith, number, none, some)

pub never_entered_again : (queues : Queues) (members share m : ℕ) (shape other : Shape) (later h : List Event) → Happened (Enter share m other) h → ShareLaws queues members (later ++ Enter share m shape ∷ h) → ⊥
never_entered_again queues members share m shape other later h entered law =
    let all = law_before (EntersOneByOne members) later (Enter share m shape ∷ h) law.same_shares.one_by_one in
    let number = all.0.1 in
    let below = entered_below members share m other h all.1 entered in omega (arith, number, below)

-- nor enters one before it has left another
pub never_entered_inside_another : (queues : Queues) (members share before m : ℕ) (shape other : Shape) (later h : List Event) → Happened (Enter before m other) h → (Happened (End before m) h → ⊥) → ShareLaws queues members (later ++ Enter share m shape ∷ h) → ⊥
never_entered_inside_another queues members share before m shape other later h entered inside law =
    let (member, number, left) = law_there (EntersOneByOne members) (Enter share m shape) later h law.same_shares.one_by_one in inside (left before other entered)

-- no member leaves a share that it has not entered
pub never_left_without_an_entry : (queues : Queues) (members share m : ℕ) (later h : List Event) → ((shape : Shape) → Happened (Enter share m shape) h → ⊥) → ShareLaws queues members (later ++ End share m ∷ h) → ⊥
never_left_without_an_entry queues members share m later h never law =
    let (shape, entered, stays) = law_there EndsInside (End share m) later h law.same_shares.ends in never shape entered

-- nor one twice
pub never_left_twice : (queues : Queues) (members share m : ℕ) (later h : List Event) → Happened (End share m) h → ShareLaws queues members (later ++ End share m ∷ h) → ⊥
never_left_twice queues members share m later h left law =
    let (shape, entered, stays) = law_there EndsInside (End share m) later h law.same_shares.ends in stays left

-- no two members meet a share in two shapes
pub never_met_in_two_shapes : (queues : Queues) (members share m n : ℕ) (one other : Shape) (h : List Event) → Happened (Enter share m one) h → Happened (Enter share n other) h → (one ≡ other → ⊥) → ShareLaws queues members h → ⊥
never_met_in_two_shapes queues members share m n one other h first second apart law = apart (law.same_shares.shapes share m n one other first second)

-- none is entered while some member is still to leave the one that was to make room for it
pub never_entered_without_room : (queues : Queues) (members old m n : ℕ) (shape : Shape) (later h : List Event) → n < members → (Happened (End old n) h → ⊥) → ShareLaws queues members (later ++ Enter (old + OPEN_SHARES) m shape ∷ h) → ⊥
never_entered_without_room queues members old m n shape later h member inside law =
    inside (law_there (EntersWithRoom members) (Enter (old + OPEN_SHARES) m shape) later h law.same_shares.room old refl n member)
