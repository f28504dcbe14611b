-- Which answers a call on the work-shares never gets, of any team, member, share, shape and list of events: each reply but the one that is due.
use Rattle.std.proofs.Common.{◌≡◌, ℕ, ℤ, ◌+◌, ◌<◌, ◌≤◌, Bool, true, false, List, [], ◌∷◌, ◌++◌, Option, Some, None, refl, ap, sym, ◌∙◌, arith}
use Rattle.std.specs.Prelude.{if◌then◌else◌, ◌&&◌, ◌||◌, not, is_some, nat_le, nat_lt}
use Rattle.std.proofs.lemmas.Bool.Decides.{nat_tests}
use Rattle.gomp_types.specs.declared.limits.Limits.{Limits}
use Rattle.gomp_types.specs.declared.limits.TheConstants.{OPEN_SHARES}
use Rattle.gomp_types.specs.declared.loop_desc.EndKind.{EndKind}
use Rattle.gomp_types.specs.declared.refusal.Refusal.{Refusal}
use Rattle.gomp_types.specs.declared.refusal.Refusal.TheVariants.{InsideShare, TooManyShares, OutsideShare, InOrdered, EndDiffers, NotDrained, Drained, Mismatch}
use Rattle.gomp_types.specs.declared.reply.Reply.{Reply}
use Rattle.gomp_types.specs.declared.reply.Reply.TheVariants.{Chunk, NoChunk, Finished, Wait, Refused}
use Rattle.gomp_types.specs.declared.shape.Shape.{Shape}
use Rattle.gomp_events.specs.declared.event.Event.{Event}
use Rattle.gomp_events.specs.declared.event.Event.TheVariants.{End}
use Rattle.gomp_types.specs.RefusalTexts.{number_of}
use Rattle.gomp_types.specs.Tests.{Test}
use Rattle.gomp_types.specs.Least.{least, lesser, Answers}
use Rattle.gomp_events.specs.Laws.{Happened}
use Rattle.gomp_types.specs.Shapes.{is_loop, same_shape}
use Rattle.gomp_types.specs.Compare.{shape_differs, end_differs}
use Rattle.gomp_types.specs.Deals.{Queues, schedule}
use Rattle.gomp_events.specs.Takes.{next_for}
use Rattle.gomp_events.specs.Events.{shares_entered, open_share, shape_at, in_kind, in_part, has_drained, has_room}
use Rattle.gomp_events.specs.Cancels.{own_cancelled}
use Rattle.gomp_events.specs.Ordered.{has_turn, must_wait}
use Rattle.gomp_types.specs.Pieces.{Piece}
use Rattle.gomp_events.specs.Seen.{seen_of}
use Rattle.gomp_types.specs.Values.{value_at, iteration_at}
use Rattle.gomp_shares.specs.Laws.{ShareLaws}
use Rattle.gomp_shares.specs.Starts.{Deals, Starts, start_tests, share_tests, compared_share, AnswersStart, AnswersBegin, is_drained, drained_tests}
use Rattle.gomp_shares.specs.Loops.{DealsOut, DealsNext, piece_given, next_tests, end_tests, AnswersLoopNext, AnswersTake, AnswersLoopEnd}
use Rattle.gomp_shares.proofs.OrWaits.{answered_if_may, answered_unless_wait, waits_if_not}
use Rattle.gomp_shares.proofs.Refutations.{never_taken_without_iterations}
use Rattle.gomp_shares.proofs.SharesKeep.{over_stands, room_over}

-- Refusals and other replies

-- where a refusal is due every other reply is wrong
pub share_refused_alone : (tests : List Test) (May : Reply → Type 0) (refusal : Refusal) (reply : Reply) → least tests ≡ Some refusal → (reply ≡ Refused refusal → ⊥) → Answers tests May reply → ⊥
share_refused_alone tests May refusal (Refused other) is wrong answer = wrong (let same : Some other ≡ Some refusal = sym answer ∙ is in let one : other ≡ refusal = cc in ap Refused one)
share_refused_alone tests May refusal _ is wrong answer = absurd (let none = answer.0 in cc)

-- where some test holds every reply that is no refusal
share_refused_somehow : (tests : List Test) (May : Reply → Type 0) (reply : Reply) → is_some (least tests) ≡ true → ((refusal : Refusal) → reply ≡ Refused refusal → ⊥) → Answers tests May reply → ⊥
share_refused_somehow tests May (Refused refusal) some wrong answer = wrong refusal refl
share_refused_somehow tests May _ some wrong answer = absurd (let none = answer.0 in let never : false ≡ true = rw none at some in cc)

-- where none holds every reply that may not be given
pub share_given_alone : (tests : List Test) (May : Reply → Type 0) (reply : Reply) → least tests ≡ None → (May reply → ⊥) → Answers tests May reply → ⊥
share_given_alone tests May (Refused refusal) none never answer = absurd (cc)
share_given_alone tests May _ none never answer = never answer.1

lesser_some : (refusal : Refusal) (other : Option Refusal) → is_some (lesser (Some refusal) other) ≡ true
lesser_some refusal None = refl
lesser_some refusal (Some other) = by_number (nat_le (number_of refusal) (number_of other))
  where
    by_number : (b : Bool) → is_some (if b then Some refusal else Some other) ≡ true
    by_number true = refl
    by_number false = refl

some_before : (front tests : List Test) → is_some (least front) ≡ true → is_some (least (front ++ tests)) ≡ true
some_before [] tests some = absurd (cc)
some_before (test ∷ front) tests some = by_test test.0 some (some_before front tests)
  where
    by_test : (b : Bool) → is_some (if b then lesser (Some test.1) (least front) else least front) ≡ true → (is_some (least front) ≡ true → is_some (least (front ++ tests)) ≡ true) →
        is_some (if b then lesser (Some test.1) (least (front ++ tests)) else least (front ++ tests)) ≡ true
    by_test true some rest = lesser_some test.1 (least (front ++ tests))
    by_test false some rest = rest some

some_behind : (front tests : List Test) → is_some (least tests) ≡ true → is_some (least (front ++ tests)) ≡ true
some_behind [] tests some = some
some_behind (test ∷ front) tests some = by_test test.0 (some_behind front tests some)
  where
    by_test : (b : Bool) → is_some (least (front ++ tests)) ≡ true → is_some (if b then lesser (Some test.1) (least (front ++ tests)) else least (front ++ tests)) ≡ true
    by_test true rest = lesser_some test.1 (least (front ++ tests))
    by_test false rest = rest

none_in_both : (front tests : List Test) → least front ≡ None → least tests ≡ None → least (front ++ tests) ≡ None
none_in_both [] tests first second = second
none_in_both (test ∷ front) tests first second = by_test test.0 first (λ none. none_in_both front tests none second)
  where
    by_test : (b : Bool) → (if b then lesser (Some test.1) (least front) else least front) ≡ None → (least front ≡ None → least (front ++ tests) ≡ None) →
        (if b then lesser (Some test.1) (least (front ++ tests)) else least (front ++ tests)) ≡ None
    by_test true first rest = absurd (let some = lesser_some test.1 (least front) in let never : false ≡ true = rw first at some in cc)
    by_test false first rest = rest first

-- Starts

-- a start waits while some member is still to leave the share that was to make room for it
pub no_start_without_room : (deals : Deals) (members m n old : ℕ) (shape : Shape) (reply : Reply) (h : List Event) → shares_entered m h ≡ old + OPEN_SHARES → n < members → (Happened (End old n) h → ⊥) → (reply ≡ Wait → ⊥) → Starts deals members m shape reply h → ⊥
no_start_without_room deals members m n old shape reply h number member inside wrong answer =
    let room = (answered_unless_wait (has_room members (shares_entered m h) h) (λ given. deals members m (Some (shares_entered m h, shape)) given h) reply wrong answer).0 in
    inside (over_stands members old h (room_over members (shares_entered m h) old h number room) n member)

-- where there is room it is answered as its share deals
pub no_start_against_its_share : (deals : Deals) (members m : ℕ) (shape : Shape) (reply : Reply) (h : List Event) → has_room members (shares_entered m h) h ≡ true → (deals members m (Some (shares_entered m h, shape)) reply h → ⊥) → Starts deals members m shape reply h → ⊥
no_start_against_its_share deals members m shape reply h room never answer =
    never (answered_if_may (has_room members (shares_entered m h) h) (λ given. deals members m (Some (shares_entered m h, shape)) given h) reply room answer)

-- for the first shares there is room
pub no_first_start_against_its_share : (deals : Deals) (members m : ℕ) (shape : Shape) (reply : Reply) (h : List Event) → shares_entered m h < OPEN_SHARES → (deals members m (Some (shares_entered m h, shape)) reply h → ⊥) → Starts deals members m shape reply h → ⊥
no_first_start_against_its_share deals members m shape reply h few never answer = no_start_against_its_share deals members m shape reply h (first_have_room members (shares_entered m h) h few) never answer
  where
    first_have_room : (members share : ℕ) (h : List Event) → share < OPEN_SHARES → has_room members share h ≡ true
    first_have_room members share h few = let low : nat_lt share OPEN_SHARES ≡ true = grind (arith, nat_tests, few) in rw low refl

-- a member that is in a share starts none
pub no_start_inside_a_share : (own : List Test) (shape inner : Shape) (deals : Deals) (limits : Limits) (members m i : ℕ) (reply : Reply) (h : List Event) → open_share m h ≡ Some (i, inner) → ((refusal : Refusal) → reply ≡ Refused refusal → ⊥) →
    AnswersStart own shape deals limits members m reply h → ⊥
no_start_inside_a_share own shape inner deals limits members m i reply h inside wrong answer =
    share_refused_somehow (share_tests own shape limits m h) (λ given. Starts deals members m shape given h) reply (some_before (start_tests own limits (seen_of m h)) (compared_share shape m h) (rw inside (lesser_some InsideShare (least (own ++ (nat_le limits.shares (shares_entered m h), TooManyShares) ∷ []))))) wrong answer

-- nor does one whose construct fails its own tests
pub no_start_of_a_bad_construct : (own : List Test) (shape : Shape) (deals : Deals) (limits : Limits) (members m : ℕ) (reply : Reply) (h : List Event) → is_some (least own) ≡ true → ((refusal : Refusal) → reply ≡ Refused refusal → ⊥) → AnswersStart own shape deals limits members m reply h → ⊥
no_start_of_a_bad_construct own shape deals limits members m reply h bad wrong answer =
    share_refused_somehow (share_tests own shape limits m h) (λ given. Starts deals members m shape given h) reply
    (some_before (start_tests own limits (seen_of m h)) (compared_share shape m h) (some_behind ((is_some (open_share m h), InsideShare) ∷ []) (own ++ limit_test) (some_before own limit_test bad))) wrong answer
  where
    limit_test : List Test
    limit_test = (nat_le limits.shares (shares_entered m h), TooManyShares) ∷ []

-- nor one that has entered as many as it may
pub no_start_above_the_limit : (own : List Test) (shape : Shape) (deals : Deals) (limits : Limits) (members m : ℕ) (reply : Reply) (h : List Event) → limits.shares ≤ shares_entered m h → ((refusal : Refusal) → reply ≡ Refused refusal → ⊥) → AnswersStart own shape deals limits members m reply h → ⊥
no_start_above_the_limit own shape deals limits members m reply h many wrong answer =
    share_refused_somehow (share_tests own shape limits m h) (λ given. Starts deals members m shape given h) reply
    (some_before (start_tests own limits (seen_of m h)) (compared_share shape m h) (some_behind ((is_some (open_share m h), InsideShare) ∷ own) ((nat_le limits.shares (shares_entered m h), TooManyShares) ∷ []) (rw full refl))) wrong answer
  where
    full : nat_le limits.shares (shares_entered m h) ≡ true
    full = grind (arith, nat_tests, many)

-- nor one whose construct is not the team's
pub no_start_beside_another_construct : (own : List Test) (shape other : Shape) (deals : Deals) (limits : Limits) (members m : ℕ) (reply : Reply) (h : List Event) → shape_at (shares_entered m h) h ≡ Some other → same_shape other shape ≡ false → ((refusal : Refusal) → reply ≡ Refused refusal → ⊥) →
    AnswersStart own shape deals limits members m reply h → ⊥
no_start_beside_another_construct own shape other deals limits members m reply h there differ wrong answer =
    share_refused_somehow (share_tests own shape limits m h) (λ given. Starts deals members m shape given h) reply (some_behind (start_tests own limits (seen_of m h)) (compared_share shape m h) (rw (there, differ) refl)) wrong answer

-- each by the least of its tests that hold, and by no other refusal
pub no_other_refusal_of_a_start : (own : List Test) (shape : Shape) (deals : Deals) (limits : Limits) (members m : ℕ) (refusal : Refusal) (reply : Reply) (h : List Event) → least (share_tests own shape limits m h) ≡ Some refusal → (reply ≡ Refused refusal → ⊥) →
    AnswersStart own shape deals limits members m reply h → ⊥
no_other_refusal_of_a_start own shape deals limits members m refusal reply h due wrong answer = share_refused_alone (share_tests own shape limits m h) (λ given. Starts deals members m shape given h) refusal reply due wrong answer

-- and no other is refused, or answered but as its share says
pub no_other_answer_to_a_start : (own : List Test) (shape : Shape) (deals : Deals) (limits : Limits) (members m : ℕ) (reply : Reply) (h : List Event) → open_share m h ≡ None → least own ≡ None → shares_entered m h < limits.shares → shape_differs shape (shape_at (shares_entered m h) h) ≡ false →
    (Starts deals members m shape reply h → ⊥) → AnswersStart own shape deals limits members m reply h → ⊥
no_other_answer_to_a_start own shape deals limits members m reply h outside good few same never answer =
    share_given_alone (share_tests own shape limits m h) (λ given. Starts deals members m shape given h) reply
    (none_in_both (start_tests own limits (seen_of m h)) (compared_share shape m h)
    (none_in_both ((is_some (open_share m h), InsideShare) ∷ []) (own ++ (nat_le limits.shares (shares_entered m h), TooManyShares) ∷ []) (rw outside refl) (none_in_both own ((nat_le limits.shares (shares_entered m h), TooManyShares) ∷ []) good (rw room refl)))
    (rw same refl)) never answer
  where
    room : nat_le limits.shares (shares_entered m h) ≡ false
    room = grind (arith, nat_tests, few)

-- a construct that its member's own tests let through breaks the team if it is another than the team's
pub no_begin_beside_another_construct : (shape other : Shape) (deals : Deals) (members m : ℕ) (reply : Reply) (h : List Event) → shape_at (shares_entered m h) h ≡ Some other → same_shape other shape ≡ false → (reply ≡ Refused Mismatch → ⊥) → AnswersBegin shape deals members m reply h → ⊥
no_begin_beside_another_construct shape other deals members m reply h there differ wrong answer =
    share_refused_alone (compared_share shape m h) (λ given. Starts deals members m shape given h) Mismatch reply (rw (there, differ) refl) wrong answer

-- and is else answered as its share says
pub no_other_answer_to_a_begin : (shape : Shape) (deals : Deals) (members m : ℕ) (reply : Reply) (h : List Event) → shape_differs shape (shape_at (shares_entered m h) h) ≡ false → (Starts deals members m shape reply h → ⊥) → AnswersBegin shape deals members m reply h → ⊥
no_other_answer_to_a_begin shape deals members m reply h same never answer = share_given_alone (compared_share shape m h) (λ given. Starts deals members m shape given h) reply (rw same refl) never answer

-- Loops

-- no member that is in no share is dealt iterations
pub no_iterations_outside : (members m : ℕ) (reply : Reply) (h : List Event) → DealsOut members m None reply h → ⊥
no_iterations_outside members m reply h answer = answer

-- while a piece is left, no answer but its first value and its length
pub no_iterations_but_the_next : (members m share : ℕ) (shape : Shape) (piece : Piece) (reply : Reply) (h : List Event) → next_for (schedule members) shape share m h ≡ Some piece →
    ((count : ℕ) → piece.0 + count ≡ piece.1 → reply ≡ Chunk (value_at shape piece.0) count → ⊥) → DealsOut members m (Some (share, shape)) reply h → ⊥
no_iterations_but_the_next members m share shape piece (Chunk first count) h next wrong answer = let is : (first ≡ value_at shape piece.0) × (piece.0 + count ≡ piece.1) = rw next at answer in wrong count is.1 (ap (λ (value : ℤ). Chunk value count) is.0)
no_iterations_but_the_next members m share shape piece NoChunk h next wrong answer = absurd (cc)
no_iterations_but_the_next members m share shape piece _ h next wrong answer = answer

-- once none is left, no answer but that
pub no_iterations_when_none_is_left : (members m share : ℕ) (shape : Shape) (reply : Reply) (h : List Event) → next_for (schedule members) shape share m h ≡ None → (reply ≡ NoChunk → ⊥) → DealsOut members m (Some (share, shape)) reply h → ⊥
no_iterations_when_none_is_left members m share shape (Chunk first count) h next wrong answer = rw next at answer
no_iterations_when_none_is_left members m share shape NoChunk h next wrong answer = wrong refl
no_iterations_when_none_is_left members m share shape _ h next wrong answer = answer

-- no chunk without an iteration: its take would be one without iterations
pub no_chunk_without_an_iteration : (queues : Queues) (members share m : ℕ) (shape : Shape) (first : ℤ) (later h : List Event) → ShareLaws queues members (later ++ (piece_given share shape m (Chunk first 0) ++ h)) → ⊥
no_chunk_without_an_iteration queues members share m shape first later h law = never_taken_without_iterations queues members share m (iteration_at shape first) (iteration_at shape first + 0) later h (omega arith) law

-- a member of an ordered loop waits for the turn before it asks for its next piece
pub no_next_piece_before_the_turn : (members m share : ℕ) (shape : Shape) (reply : Reply) (h : List Event) → shape.ordered ≡ true → has_turn members (share, shape) m h ≡ false → (reply ≡ Wait → ⊥) → DealsNext members m (Some (share, shape)) reply h → ⊥
no_next_piece_before_the_turn members m share shape reply h ordered early wrong answer =
    wrong (waits_if_not (not (must_wait members (share, shape) m h)) (λ given. DealsOut members m (Some (share, shape)) given h) reply (both_wait shape.ordered (has_turn members (share, shape) m h) ordered early) answer)
  where
    both_wait : (a b : Bool) → a ≡ true → b ≡ false → not (a && not b) ≡ false
    both_wait a b one other = rw (one, other) refl

-- one that has the turn does not
pub no_wait_with_the_turn : (members m share : ℕ) (shape : Shape) (reply : Reply) (h : List Event) → has_turn members (share, shape) m h ≡ true → (DealsOut members m (Some (share, shape)) reply h → ⊥) → DealsNext members m (Some (share, shape)) reply h → ⊥
no_wait_with_the_turn members m share shape reply h turn never answer =
    never (answered_if_may (not (must_wait members (share, shape) m h)) (λ given. DealsOut members m (Some (share, shape)) given h) reply (with_turn shape.ordered (has_turn members (share, shape) m h) turn) answer)
  where
    with_turn : (a b : Bool) → b ≡ true → not (a && not b) ≡ true
    with_turn true b turn = rw turn refl
    with_turn false b turn = refl

-- nor does one of a loop that is not ordered
pub no_wait_in_an_unordered_loop : (members m share : ℕ) (shape : Shape) (reply : Reply) (h : List Event) → shape.ordered ≡ false → (DealsOut members m (Some (share, shape)) reply h → ⊥) → DealsNext members m (Some (share, shape)) reply h → ⊥
no_wait_in_an_unordered_loop members m share shape reply h unordered never answer =
    never (answered_if_may (not (must_wait members (share, shape) m h)) (λ given. DealsOut members m (Some (share, shape)) given h) reply (rw unordered refl) answer)

-- no next piece outside of a loop
pub no_next_piece_outside_a_loop : (members m : ℕ) (reply : Reply) (h : List Event) → in_kind is_loop (open_share m h) ≡ false → (reply ≡ Refused OutsideShare → ⊥) → AnswersLoopNext members m reply h → ⊥
no_next_piece_outside_a_loop members m reply h outside wrong answer =
    share_refused_alone (next_tests (seen_of m h)) (λ given. DealsNext members m (open_share m h) given h) OutsideShare reply (rw outside (by_others (in_part m h) (has_drained m h))) wrong answer
  where
    by_others : (a b : Bool) → lesser (Some OutsideShare) (if a then lesser (Some InOrdered) (if b then lesser (Some Drained) None else None) else (if b then lesser (Some Drained) None else None)) ≡ Some OutsideShare
    by_others true true = refl
    by_others true false = refl
    by_others false true = refl
    by_others false false = refl

-- or inside an ordered part
pub no_next_piece_inside_a_part : (members m : ℕ) (reply : Reply) (h : List Event) → in_kind is_loop (open_share m h) ≡ true → in_part m h ≡ true → (reply ≡ Refused InOrdered → ⊥) → AnswersLoopNext members m reply h → ⊥
no_next_piece_inside_a_part members m reply h loop inside wrong answer =
    share_refused_alone (next_tests (seen_of m h)) (λ given. DealsNext members m (open_share m h) given h) InOrdered reply (rw (loop, inside) (by_other (has_drained m h))) wrong answer
  where
    by_other : (b : Bool) → lesser (Some InOrdered) (if b then lesser (Some Drained) None else None) ≡ Some InOrdered
    by_other true = refl
    by_other false = refl

-- or once more for a member that was answered that none is left
pub no_next_piece_when_drained : (members m : ℕ) (reply : Reply) (h : List Event) → in_kind is_loop (open_share m h) ≡ true → in_part m h ≡ false → has_drained m h ≡ true → (reply ≡ Refused Drained → ⊥) → AnswersLoopNext members m reply h → ⊥
no_next_piece_when_drained members m reply h loop apart drained wrong answer =
    share_refused_alone (next_tests (seen_of m h)) (λ given. DealsNext members m (open_share m h) given h) Drained reply (rw (loop, apart, drained) refl) wrong answer

-- and no other call for it is refused, or answered but as its share says
pub no_other_answer_to_a_next : (members m : ℕ) (reply : Reply) (h : List Event) → in_kind is_loop (open_share m h) ≡ true → in_part m h ≡ false → has_drained m h ≡ false → (AnswersTake members m reply h → ⊥) → AnswersLoopNext members m reply h → ⊥
no_other_answer_to_a_next members m reply h loop apart more never answer =
    share_given_alone (next_tests (seen_of m h)) (λ given. DealsNext members m (open_share m h) given h) reply (rw (loop, apart, more) refl) never answer

-- Ends of loops

-- no end outside of a loop
pub no_loop_end_outside_a_loop : (kind : EndKind) (m : ℕ) (reply : Reply) (h : List Event) → in_kind is_loop (open_share m h) ≡ false → (reply ≡ Refused OutsideShare → ⊥) → AnswersLoopEnd kind m reply h → ⊥
no_loop_end_outside_a_loop kind m reply h outside wrong answer =
    share_refused_alone (end_tests kind (seen_of m h) ++ drained_tests m h) (λ given. given ≡ Finished) OutsideShare reply
    (rw outside (by_others (in_part m h) (end_differs kind (open_share m h)) (not (is_drained m h)))) wrong answer
  where
    by_others : (a b c : Bool) →
        lesser (Some OutsideShare) (if a then lesser (Some InOrdered) (if b then lesser (Some EndDiffers) (if c then lesser (Some NotDrained) None else None) else (if c then lesser (Some NotDrained) None else None))
        else (if b then lesser (Some EndDiffers) (if c then lesser (Some NotDrained) None else None) else (if c then lesser (Some NotDrained) None else None))) ≡ Some OutsideShare
    by_others true true true = refl
    by_others true true false = refl
    by_others true false true = refl
    by_others true false false = refl
    by_others false true true = refl
    by_others false true false = refl
    by_others false false true = refl
    by_others false false false = refl

-- or inside an ordered part
pub no_loop_end_inside_a_part : (kind : EndKind) (m : ℕ) (reply : Reply) (h : List Event) → in_kind is_loop (open_share m h) ≡ true → in_part m h ≡ true → (reply ≡ Refused InOrdered → ⊥) → AnswersLoopEnd kind m reply h → ⊥
no_loop_end_inside_a_part kind m reply h loop inside wrong answer =
    share_refused_alone (end_tests kind (seen_of m h) ++ drained_tests m h) (λ given. given ≡ Finished) InOrdered reply (rw (loop, inside) (by_others (end_differs kind (open_share m h)) (not (is_drained m h)))) wrong answer
  where
    by_others : (b c : Bool) → lesser (Some InOrdered) (if b then lesser (Some EndDiffers) (if c then lesser (Some NotDrained) None else None) else (if c then lesser (Some NotDrained) None else None)) ≡ Some InOrdered
    by_others true true = refl
    by_others true false = refl
    by_others false true = refl
    by_others false false = refl

-- or by the call for another end kind
pub no_loop_end_by_another_call : (kind : EndKind) (m : ℕ) (reply : Reply) (h : List Event) → in_kind is_loop (open_share m h) ≡ true → in_part m h ≡ false → end_differs kind (open_share m h) ≡ true → (reply ≡ Refused EndDiffers → ⊥) → AnswersLoopEnd kind m reply h → ⊥
no_loop_end_by_another_call kind m reply h loop apart differs wrong answer =
    share_refused_alone (end_tests kind (seen_of m h) ++ drained_tests m h) (λ given. given ≡ Finished) EndDiffers reply (rw (loop, apart, differs) (by_other (not (is_drained m h)))) wrong answer
  where
    by_other : (c : Bool) → lesser (Some EndDiffers) (if c then lesser (Some NotDrained) None else None) ≡ Some EndDiffers
    by_other true = refl
    by_other false = refl

-- or before the member was answered that no iteration is left, unless the loop is cancelled
pub no_loop_end_with_iterations_left : (kind : EndKind) (m : ℕ) (reply : Reply) (h : List Event) → in_kind is_loop (open_share m h) ≡ true → in_part m h ≡ false → end_differs kind (open_share m h) ≡ false → has_drained m h ≡ false → own_cancelled m h ≡ false →
    (reply ≡ Refused NotDrained → ⊥) → AnswersLoopEnd kind m reply h → ⊥
no_loop_end_with_iterations_left kind m reply h loop apart same more uncancelled wrong answer =
    share_refused_alone (end_tests kind (seen_of m h) ++ drained_tests m h) (λ given. given ≡ Finished) NotDrained reply (rw (loop, apart, same, more, uncancelled) refl) wrong answer

-- and no other end but ends
pub no_other_answer_to_a_loop_end : (kind : EndKind) (m : ℕ) (reply : Reply) (h : List Event) → in_kind is_loop (open_share m h) ≡ true → in_part m h ≡ false → end_differs kind (open_share m h) ≡ false → has_drained m h ≡ true → (reply ≡ Finished → ⊥) → AnswersLoopEnd kind m reply h → ⊥
no_other_answer_to_a_loop_end kind m reply h loop apart same drained wrong answer =
    share_given_alone (end_tests kind (seen_of m h) ++ drained_tests m h) (λ given. given ≡ Finished) reply (rw (loop, apart, same, drained) refl) wrong answer

-- also of a cancelled loop
pub no_other_answer_to_a_cancelled_loop_end : (kind : EndKind) (m : ℕ) (reply : Reply) (h : List Event) → in_kind is_loop (open_share m h) ≡ true → in_part m h ≡ false → end_differs kind (open_share m h) ≡ false → own_cancelled m h ≡ true → (reply ≡ Finished → ⊥) → AnswersLoopEnd kind m reply h → ⊥
no_other_answer_to_a_cancelled_loop_end kind m reply h loop apart same cancelled wrong answer =
    share_given_alone (end_tests kind (seen_of m h) ++ drained_tests m h) (λ given. given ≡ Finished) reply (rw (loop, apart, same) (by_other (has_drained m h))) wrong answer
  where
    by_other : (b : Bool) → ◌≡◌ {A = Option Refusal} (if not (b || own_cancelled m h) then lesser (Some NotDrained) None else None) None
    by_other true = refl
    by_other false = rw cancelled refl
