-- What a member sees, and the piece that it was given, in the words of the events.
use Rattle.std.proofs.Common.{◌≡◌, ℕ, ◌+◌, ◌-◌, ◌<◌, ◌≤◌, Bool, true, false, List, [], ◌∷◌, ◌++◌, Option, Some, None, refl, ap, ◌∙◌, sym, subst, arith}
use Rattle.std.specs.Prelude.{pos, not, ◌≢◌, ◌&&◌, if◌then◌else◌, nat_le, is_some}
use Rattle.gomp_types.specs.declared.reply.Reply.{Reply}
use Rattle.gomp_types.specs.declared.reply.Reply.TheVariants.{NoChunk, Wait, Refused}
use Rattle.gomp_types.specs.declared.loop_desc.LoopDesc.{LoopDesc}
use Rattle.gomp_types.specs.declared.limits.Limits.{Limits}
use Rattle.gomp_types.specs.declared.refusal.Refusal.{Refusal}
use Rattle.gomp_types.specs.declared.refusal.Refusal.TheVariants.{TooManyShares}
use Rattle.gomp_events.specs.declared.seen.Seen.{Seen}
use Rattle.gomp_types.specs.declared.shape.Shape.{Shape}
use Rattle.gomp_events.specs.declared.event.Event.{Event}
use Rattle.gomp_events.specs.declared.event.Event.TheVariants.{Enter, HandOn}
use Rattle.gomp_types.specs.Tests.{first_holding}
use Rattle.gomp_types.specs.Least.{least}
use Rattle.gomp_events.specs.Seen.{seen_of}
use Rattle.gomp_types.specs.Iterations.{loop_tests}
use Rattle.gomp_types.specs.Pieces.{Piece, shape_of}
use Rattle.gomp_types.specs.Values.{IsShape, value_at, iteration_at}
use Rattle.gomp_events.specs.Events.{shares_entered, open_share, open_number, share_number, turn, has_room}
use Rattle.gomp_events.specs.Ordered.{has_turn, last_number, must_wait}
use Rattle.gomp_types.proofs.Booleans.{same_number}
use Rattle.gomp_types.proofs.LeastTests.{all_fail, first_is_least}
use Rattle.gomp_types.proofs.TestRows.{front_holds, front_fails}
use Rattle.gomp_shares.specs.Calls.{most_shares, MayOpenAs, CanClaim, MayOpen, Claims, events_claimed, own_turn, piece_handed}
use Rattle.gomp_shares.specs.declared.Opening.TheVariants.{Entered}
use Rattle.gomp_shares.proofs.Admitted.{begin_compared, answers_let}
use Rattle.gomp_shares.proofs.OrWaits.{may_be_answered, may_not_waits, next_is_dealt, room_starts}
use Rattle.gomp_shares.specs.Starts.{start_tests, share_tests, compared_share, AnswersBegin}
use Rattle.gomp_shares.specs.Loops.{DealsOut, handed_on, next_given, next_tests, loop_begun, AnswersLoopNext, DealsNext, loop_next_taken}
use Rattle.gomp_shares.proofs.Entered.{row_is, open_entered}
use Rattle.gomp_shares.proofs.PartsKeep.{loop_is_loop}
use Rattle.gomp_loops.specs.Answers.{reply_of_piece}

-- The tests

pub next_is : (m : ℕ) (seen : Seen) (h : List Event) (found : Option Refusal) → seen ≡ seen_of m h → found ≡ first_holding (next_tests seen) → least (next_tests (seen_of m h)) ≡ found
next_is m seen h found e is = sym (first_is_least 0 (next_tests (seen_of m h)) refl) ∙ row_is next_tests seen (seen_of m h) found e is

-- the tests of a start stand in the order of their numbers, and the comparison is the last
start_first : (limits : Limits) (m : ℕ) (loop : LoopDesc) (h : List Event) (found : Option Refusal) → first_holding (share_tests (loop_tests loop) (shape_of loop) limits m h) ≡ found → least (share_tests (loop_tests loop) (shape_of loop) limits m h) ≡ found
start_first limits m loop h found first = sym (first_is_least 0 (share_tests (loop_tests loop) (shape_of loop) limits m h) refl) ∙ first

pub start_refused : (limits : Limits) (m : ℕ) (loop : LoopDesc) (seen : Seen) (h : List Event) (refusal : Refusal) → seen ≡ seen_of m h → Some refusal ≡ first_holding (start_tests (loop_tests loop) limits seen) →
    least (share_tests (loop_tests loop) (shape_of loop) limits m h) ≡ Some refusal
start_refused limits m loop seen h refusal e is =
    start_first limits m loop h (Some refusal) (front_holds (start_tests (loop_tests loop) limits (seen_of m h)) (compared_share (shape_of loop) m h) refusal
    (row_is (start_tests (loop_tests loop) limits) seen (seen_of m h) (Some refusal) e is))

pub start_fine : (limits : Limits) (m : ℕ) (loop : LoopDesc) (seen : Seen) (h : List Event) → seen ≡ seen_of m h → None ≡ first_holding (start_tests (loop_tests loop) limits seen) →
    least (start_tests (loop_tests loop) limits (seen_of m h)) ≡ None
start_fine limits m loop seen h e is = sym (first_is_least 0 (start_tests (loop_tests loop) limits (seen_of m h)) refl) ∙ row_is (start_tests (loop_tests loop) limits) seen (seen_of m h) None e is

-- behind a loop's own tests, none of which holds, comes that of the limit
pub start_at_limit : (limits : Limits) (seen : Seen) (loop : LoopDesc) → is_some seen.current ≡ false → first_holding (loop_tests loop) ≡ None → first_holding (start_tests (loop_tests loop) limits seen) ≡ first_holding ((nat_le limits.shares seen.entered, TooManyShares) ∷ [])
start_at_limit limits seen loop out e = rw out (front_fails (loop_tests loop) ((nat_le limits.shares seen.entered, TooManyShares) ∷ []) e)

-- a loop that is not refused may be opened
pub loop_may_open : (loop : LoopDesc) (seen : Seen) (shape : Shape) → shape ≡ shape_of loop → IsShape (shape_of loop) → is_some seen.current ≡ false → seen.entered < most_shares → MayOpenAs seen shape
loop_may_open loop seen shape is valid outside few =
    λ members m lt. record { member = lt; valid = rw is valid; ordered = λ e. rw is (loop_is_loop loop.sched loop.chunk); outside = outside; few = few }

-- a member outside of every share is refused as its loop is
pub start_own : (limits : Limits) (seen : Seen) (loop : LoopDesc) (refusal : Refusal) → is_some seen.current ≡ false → first_holding (loop_tests loop) ≡ Some refusal → first_holding (start_tests (loop_tests loop) limits seen) ≡ Some refusal
start_own limits seen loop refusal out e = rw out (front_holds (loop_tests loop) ((nat_le limits.shares seen.entered, TooManyShares) ∷ []) refusal e)

-- Replies

-- a next is answered what the share deals out, once the turn is the member's
pub next_reply : (members m i : ℕ) (shape : Shape) (answer : Option Piece) (h : List Event) → open_share m h ≡ Some (i, shape) →
    must_wait members (i, shape) m h ≡ false → DealsOut members m (Some (i, shape)) (reply_of_piece shape answer) h → DealsNext members m (open_share m h) (reply_of_piece shape answer) h
next_reply members m i shape answer h there turn dealt =
    rw there (may_be_answered (not (must_wait members (i, shape) m h)) (λ given. DealsOut members m (Some (i, shape)) given h) (reply_of_piece shape answer) (rw turn refl) dealt)

-- and waits before that
must_by : (ordered turn : Bool) → ordered ≡ true → turn ≡ false → (ordered && not turn) ≡ true
must_by ordered turn p q = rw (p, q) refl

may_by : (ordered turn : Bool) → turn ≡ true → (ordered && not turn) ≡ false
may_by true turn e = rw e refl
may_by false turn e = refl

pub next_waits : (members m i : ℕ) (shape : Shape) (h : List Event) → open_share m h ≡ Some (i, shape) → shape.ordered ≡ true → false ≡ own_turn members m h → DealsNext members m (open_share m h) Wait h
next_waits members m i shape h there ordered e =
    let last : has_turn members (i, shape) m h ≡ false = sym (rw there at e) in
    let waits : must_wait members (i, shape) m h ≡ true = must_by shape.ordered (has_turn members (i, shape) m h) ordered last in
    rw there (may_not_waits (not (must_wait members (i, shape) m h)) (λ given. DealsOut members m (Some (i, shape)) given h) (rw waits refl))

-- no refusal is dealt out
next_never_refuses : (members m : ℕ) (share : Option (ℕ × Shape)) (h : List Event) (refusal : Refusal) → DealsNext members m share (Refused refusal) h → ⊥
next_never_refuses members m None h refusal given = given
next_never_refuses members m (Some share) h refusal given = (next_is_dealt members m share (Refused refusal) h (λ is. absurd (cc)) given).1

-- so a next that the member's own tests let through is answered as its share deals
pub next_admitted : (members m : ℕ) (reply : Reply) (h : List Event) → least (next_tests (seen_of m h)) ≡ None → DealsNext members m (open_share m h) reply h → AnswersLoopNext members m reply h
next_admitted members m reply h none given =
    answers_let (next_tests (seen_of m h)) (λ given. DealsNext members m (open_share m h) given h) reply none (next_never_refuses members m (open_share m h) h) given

-- and so is a start, if there is room
pub begin_reply : (members m : ℕ) (shape : Shape) (answer : Option Piece) (h : List Event) → least (compared_share shape m h) ≡ None → has_room members (shares_entered m h) h ≡ true →
    DealsOut members m (Some (shares_entered m h, shape)) (reply_of_piece shape answer) h → AnswersBegin shape DealsOut members m (reply_of_piece shape answer) h
begin_reply members m shape None h none room dealt = (none, room_starts DealsOut members m shape NoChunk h room dealt)
begin_reply members m shape (Some piece) h none room dealt = (none, room_starts DealsOut members m shape (reply_of_piece shape (Some piece)) h room dealt)

-- Pieces

-- an iteration's value tells its number
abbrev pub ValuesTell : Type 0
ValuesTell = (shape : Shape) (k : ℕ) → shape.incr ≢ pos 0 → iteration_at shape (value_at shape k) ≡ k

-- the share of a claim is the one that the member is in
pub claim_here : (members m i : ℕ) (shape : Shape) (answer : Option Piece) (h : List Event) → open_share m h ≡ Some (i, shape) → (claims : Claims members m answer h) → claims.share ≡ (i, shape)
claim_here members m i shape answer h there claims =
    let both : Some claims.share ≡ Some (i, shape) = sym claims.there ∙ there in cc

pub claim_valid : (members m i : ℕ) (shape : Shape) (answer : Option Piece) (h : List Event) → open_share m h ≡ Some (i, shape) → Claims members m answer h → IsShape shape
claim_valid members m i shape answer h there claims =
    let same = claim_here members m i shape answer h there claims in
    let one : claims.share.1 ≡ shape = ap (λ (p : ℕ × Shape). p.1) same in
    rw (← one) claims.valid

pub claim_within : (members m i : ℕ) (shape : Shape) (answer : Option Piece) (h : List Event) → open_share m h ≡ Some (i, shape) → Claims members m answer h →
    (piece : Piece) → answer ≡ Some piece → (piece.0 < piece.1) × (piece.1 ≤ shape.trips)
claim_within members m i shape answer h there claims piece is =
    let same = claim_here members m i shape answer h there claims in
    let one : claims.share.1 ≡ shape = ap (λ (p : ℕ × Shape). p.1) same in
    let within : (piece.0 < piece.1) × (piece.1 ≤ claims.share.1.trips) = rw is at claims.within in
    rw (← one) within

-- the reply is what the share deals out
deals_by : (members m : ℕ) (share : ℕ × Shape) (answer : Option Piece) (h : List Event) (claims : Claims members m answer h) → claims.share ≡ share → DealsOut members m (Some share) (reply_of_piece share.1 answer) h
deals_by members m share None h claims same = subst (λ (s : ℕ × Shape). DealsOut members m (Some s) (reply_of_piece s.1 None) h) same (sym claims.least)
deals_by members m share (Some piece) h claims same =
    subst (λ (s : ℕ × Shape). DealsOut members m (Some s) (reply_of_piece s.1 (Some piece)) h) same
    (rw (← claims.least) (refl, (let within = claims.within.0 in omega arith)))

pub piece_deals : (members m i : ℕ) (shape : Shape) (answer : Option Piece) (h : List Event) → open_share m h ≡ Some (i, shape) → Claims members m answer h → DealsOut members m (Some (i, shape)) (reply_of_piece shape answer) h
piece_deals members m i shape answer h there claims = deals_by members m (i, shape) answer h claims (claim_here members m i shape answer h there claims)

-- A next piece

-- that a piece is handed on changes nothing of what the member sees
handed_by : (m i n : ℕ) (ordered : Bool) (h : List Event) → seen_of m ((if ordered then HandOn i m n ∷ [] else []) ++ h) ≡ seen_of m h
handed_by m i n true h = refl
handed_by m i n false h = refl

handed_seen : (members m : ℕ) (share : ℕ × Shape) (h : List Event) → seen_of m (handed_on members share m h ++ h) ≡ seen_of m h
handed_seen members m share h = handed_by m share.0 (last_number members share m h) share.1.ordered h

pub handed_there : (members m i : ℕ) (shape : Shape) (h : List Event) → open_share m h ≡ Some (i, shape) → open_share m (handed_on members (i, shape) m h ++ h) ≡ Some (i, shape)
handed_there members m i shape h there = ap (λ (s : Seen). s.current) (handed_seen members m (i, shape) h) ∙ there

-- nor of what is dealt out
handed_deals : (members m n : ℕ) (ordered : Bool) (share : ℕ × Shape) (answer : Option Piece) (h : List Event) →
    DealsOut members m (Some share) (reply_of_piece share.1 answer) ((if ordered then HandOn share.0 m n ∷ [] else []) ++ h) → DealsOut members m (Some share) (reply_of_piece share.1 answer) h
handed_deals members m n true share None h dealt = dealt
handed_deals members m n true share (Some piece) h dealt = dealt
handed_deals members m n false share answer h dealt = dealt

-- what a next has of the shares before it claims: they stand for the events in which its piece was handed on, and the turn was the member's
pub record Handed (Stand : List Event → Type 0) (members now m i : ℕ) (shape : Shape) (h : List Event) : Type 0 where
  pub stands : Stand (handed_on members (i, shape) m h ++ h)
  pub turn : must_wait members (i, shape) m h ≡ false
  pub same : now ≡ members

pub piece_is_handed : (stands : List Event → Type 0) (members now m i : ℕ) (shape : Shape) (h : List Event) → open_share m h ≡ Some (i, shape) → shape.ordered ≡ true →
    true ≡ own_turn members m h → now ≡ members → stands (piece_handed members m true h) → Handed stands members now m i shape h
piece_is_handed stands members now m i shape h there ordered e same st =
    let last : has_turn members (i, shape) m h ≡ true = sym (rw there at e) in
    let is : piece_handed members m true h ≡ handed_on members (i, shape) m h ++ h = rw (there, ordered) refl in
    record {
      stands = subst stands is st;
      turn = may_by shape.ordered (has_turn members (i, shape) m h) last;
      same = same;
    }

-- a piece of another loop is not handed on
pub piece_is_kept : (stands : List Event → Type 0) (members now m i : ℕ) (shape : Shape) (h : List Event) → shape.ordered ≡ false → now ≡ members → stands h → Handed stands members now m i shape h
piece_is_kept stands members now m i shape h ordered same st =
    let is : h ≡ handed_on members (i, shape) m h ++ h = rw ordered refl in
    record {
      stands = subst stands is st;
      turn = rw ordered refl;
      same = same;
    }

pub next_claims : (members now m i : ℕ) (shape : Shape) (seen : Seen) (h : List Event) → m < now → seen ≡ seen_of m (handed_on members (i, shape) m h ++ h) → open_share m h ≡ Some (i, shape) → least (next_tests (seen_of m h)) ≡ None →
    CanClaim now m seen
next_claims members now m i shape seen h lt e there none =
    let tests = all_fail (next_tests (seen_of m h)) none in
    rw (e, handed_seen members m (i, shape) h) (record {
      member = lt;
      inside = rw there refl;
      more = tests.1.1.0;
      apart = tests.1.0;
    })

pub next_deals : (members m i : ℕ) (shape : Shape) (answer : Option Piece) (h : List Event) → open_share m h ≡ Some (i, shape) → Claims members m answer (handed_on members (i, shape) m h ++ h) → DealsOut members m (Some (i, shape)) (reply_of_piece shape answer) h
next_deals members m i shape answer h there claims =
    handed_deals members m (last_number members (i, shape) m h) shape.ordered (i, shape) answer h (piece_deals members m i shape answer (handed_on members (i, shape) m h ++ h) (handed_there members m i shape h there) claims)

-- and it gives what the shares give
pub next_adds : (members m i : ℕ) (shape : Shape) (answer : Option Piece) (h : List Event) → ValuesTell → open_share m h ≡ Some (i, shape) → Claims members m answer (handed_on members (i, shape) m h ++ h) →
    loop_next_taken members m (reply_of_piece shape answer) h ≡ events_claimed m answer (handed_on members (i, shape) m h ++ h)
next_adds members m i shape None h tell there claims =
    let same : open_number m (handed_on members (i, shape) m h ++ h) ≡ i = ap share_number (handed_there members m i shape h there) in
    rw (same, there) refl
next_adds members m i shape (Some piece) h tell there claims =
    let here = handed_there members m i shape h there in
    let valid = claim_valid members m i shape (Some piece) (handed_on members (i, shape) m h ++ h) here claims in
    let within = claim_within members m i shape (Some piece) (handed_on members (i, shape) m h ++ h) here claims piece refl in
    let some = within.0 in
    let back : piece.0 + (piece.1 - piece.0) ≡ piece.1 = omega arith in
    let same : open_number m (handed_on members (i, shape) m h ++ h) ≡ i = ap share_number here in
    rw (same, there, tell shape piece.0 valid.moves, back) refl

-- A start

-- what is dealt out after an entry is dealt out before it
start_deals : (members m i : ℕ) (shape : Shape) (answer : Option Piece) (h : List Event) → Claims members m answer (Enter i m shape ∷ h) → DealsOut members m (Some (i, shape)) (reply_of_piece shape answer) h
start_deals members m i shape None h claims = piece_deals members m i shape None (Enter i m shape ∷ h) (open_entered m i shape h) claims
start_deals members m i shape (Some piece) h claims = piece_deals members m i shape (Some piece) (Enter i m shape ∷ h) (open_entered m i shape h) claims

pub begin_deals : (members m : ℕ) (shape : Shape) (answer : Option Piece) (h : List Event) → MayOpen members m shape Entered h → Claims members m answer (Enter (shares_entered m h) m shape ∷ h) →
    AnswersBegin shape DealsOut members m (reply_of_piece shape answer) h
begin_deals members m shape answer h may claims =
    begin_reply members m shape answer h (begin_compared shape m h false may.0) may.1 (start_deals members m (shares_entered m h) shape answer h claims)

pub begin_adds : (members m : ℕ) (shape : Shape) (answer : Option Piece) (h : List Event) → ValuesTell → Claims members m answer (Enter (shares_entered m h) m shape ∷ h) →
    loop_begun shape m (reply_of_piece shape answer) h ≡ events_claimed m answer (Enter (shares_entered m h) m shape ∷ h)
begin_adds members m shape None h tell claims = rw (same_number m) refl
begin_adds members m shape (Some piece) h tell claims =
    let there = open_entered m (shares_entered m h) shape h in
    let valid = claim_valid members m (shares_entered m h) shape (Some piece) (Enter (shares_entered m h) m shape ∷ h) there claims in
    let within = claim_within members m (shares_entered m h) shape (Some piece) (Enter (shares_entered m h) m shape ∷ h) there claims piece refl in
    let some = within.0 in
    let back : piece.0 + (piece.1 - piece.0) ≡ piece.1 = omega arith in
    rw (same_number m, tell shape piece.0 valid.moves, back) refl

-- A reply that a piece gives is neither a wait nor a refusal

pub piece_never_waits : (shape : Shape) (answer : Option Piece) → reply_of_piece shape answer ≡ Wait → ⊥
piece_never_waits shape None is = absurd (cc)
piece_never_waits shape (Some piece) is = absurd (cc)

pub piece_never_refuses : (shape : Shape) (answer : Option Piece) (refusal : Refusal) → reply_of_piece shape answer ≡ Refused refusal → ⊥
piece_never_refuses shape None refusal is = absurd (cc)
piece_never_refuses shape (Some piece) refusal is = absurd (cc)

-- and these give no event
pub next_wait_given : (members m i : ℕ) (shape : Shape) (h : List Event) → open_share m h ≡ Some (i, shape) → loop_next_taken members m Wait h ≡ h
next_wait_given members m i shape h there = rw there refl

pub next_refusal_given : (members m : ℕ) (refusal : Refusal) (share : Option (ℕ × Shape)) (h : List Event) → next_given members share m h (Refused refusal) ≡ []
next_refusal_given members m refusal None h = refl
next_refusal_given members m refusal (Some share) h = refl

-- a member that may ask for the next piece of its loop is in a share
pub next_has_share : (seen : Seen) → seen.current ≡ None → least (next_tests seen) ≡ None → ⊥
next_has_share seen out none = let tests = all_fail (next_tests seen) none in let one : true ≡ false = rw out at tests.0 in absurd (cc)
