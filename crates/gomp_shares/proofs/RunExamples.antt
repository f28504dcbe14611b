-- Worked runs of calls on the shares, and wrong answers to calls after them.
use Rattle.std.proofs.Common.{◌≡◌, ℕ, ◌<◌, ◌≤◌, Bool, true, false, List, [], ◌∷◌, ◌++◌, Option, Some, None, refl, ap, arith, rules, pos}
use Rattle.std.specs.Prelude.{IfSome}
use Rattle.gomp_types.specs.declared.loop_desc.Sched.TheVariants.{Dynamic}
use Rattle.gomp_types.specs.declared.loop_desc.EndKind.TheVariants.{Wait as WaitEnd}
use Rattle.gomp_types.specs.declared.shape.Shape.{Shape}
use Rattle.gomp_events.specs.declared.event.Event.{Event}
use Rattle.gomp_events.specs.declared.event.Event.TheVariants.{Enter, Take, Drained, End, HandOn as Handed, Part, PartEnd}
use Rattle.gomp_types.specs.Pieces.{Piece, shape_of}
use Rattle.gomp_types.specs.Sections.{sections_shape}
use Rattle.gomp_types.specs.Singles.{single_shape}
use Rattle.gomp_types.specs.Values.{IsShape}
use Rattle.gomp_events.specs.Events.{open_share}
use Rattle.gomp_types.specs.Deals.{schedule}
use Rattle.gomp_events.specs.Takes.{next_for}
use Rattle.gomp_types.proofs.IterationValues.{shape_is}
use Rattle.gomp_shares.specs.declared.Opening.{Opening}
use Rattle.gomp_shares.specs.declared.Opening.TheVariants.{Entered, NotYet, Differs}
use Rattle.gomp_shares.specs.declared.calls.ShareCall.TheVariants.{Open, OpenSections, OpenSingle, Claim, Leave, Begin, EndPart, HandOn}
use Rattle.gomp_shares.specs.declared.calls.ShareAnswer.TheVariants.{Opened, Claimed, Left, Turned, Ended}
use Rattle.gomp_shares.specs.Calls.{Claims}
use Rattle.gomp_shares.specs.Runs.{events_answered}
use Rattle.gomp_shares.specs.Examples.{IsRun, IsWrong, events_of, asks, loop_of, ten, nine, static_ten, even_one, guided_ten, ordered_two, inside_ten, took_one, took_all, told_none, left_ten, both_hold, in_the_part, handed_on, parts_over, in_sections, in_single, left_single, in_static, in_even, in_guided, eight_ahead, ninth_share}

-- The shapes of the constructs

-- the loop of ten has a shape that a construct has
pub ten_fits : IsShape (shape_of ten)
ten_fits = shape_is ten (search rules) (search rules) refl

-- and so has the ordered loop of two
pub two_fit : IsShape (shape_of ordered_two)
two_fit = shape_is ordered_two (search rules) (search rules) refl

static_ten_fits : IsShape (shape_of static_ten)
static_ten_fits = shape_is static_ten (search rules) (search rules) refl

even_fits : IsShape (shape_of even_one)
even_fits = shape_is even_one (search rules) (search rules) refl

guided_fits : IsShape (shape_of guided_ten)
guided_fits = shape_is guided_ten (search rules) (search rules) refl

-- a single has the value of a loop of one iteration, and sections have those of one from 1 on
pub single_fits : IsShape (single_shape false)
single_fits =
    let one = shape_is (loop_of false Dynamic (pos 1) (pos 1)) (search rules) (search rules) refl in
    record { trips = one.trips; chunk = one.chunk; some = one.some; moves = one.moves; fits = one.fits; unordered = λ is. refl }

sections_fit : IsShape (sections_shape 3 WaitEnd)
sections_fit =
    let three = shape_is (record (loop_of false Dynamic (pos 4) (pos 1)) { start = pos 1 }) (search rules) (search rules) refl in
    record { trips = three.trips; chunk = three.chunk; some = three.some; moves = three.moves; fits = three.fits; unordered = λ is. refl }

-- what a claim is answered
pub claims_piece : (members m : ℕ) (share : ℕ × Shape) (answer : Option Piece) (h : List Event) → open_share m h ≡ Some share → IsShape share.1 →
    answer ≡ next_for (schedule members) share.1 share.0 m h → IfSome answer (λ piece. (piece.0 < piece.1) × (piece.1 ≤ share.1.trips)) → Claims members m answer h
claims_piece members m share answer h there valid least within = record { share = share; there = there; valid = valid; least = least; within = within }

-- Worked runs

-- a dynamic loop of two members, from its start to its end
pub run_left_ten : IsRun 2 left_ten
run_left_ten =
    ((refl, (refl, refl)), ((refl, claims_piece 2 0 (0, shape_of ten) _ _ refl ten_fits refl (omega arith, omega arith)), ((refl, (refl, refl)), ((refl, claims_piece 2 1 (0, shape_of ten) _ _ refl ten_fits refl (omega arith, omega arith)), ((refl, claims_piece 2 0 (0, shape_of ten) _ _ refl ten_fits refl (omega arith, omega arith)), ((refl, claims_piece 2 1 (0, shape_of ten) _ _ refl ten_fits refl (omega arith, omega arith)), ((refl, claims_piece 2 0 (0, shape_of ten) _ _ refl ten_fits refl tt), (refl, ((refl, tt), (refl, (refl, ((refl, claims_piece 2 1 (0, shape_of ten) _ _ refl ten_fits refl tt), ((refl, tt), (refl, (refl, (refl, tt))))))))))))))))

-- the ordered parts of two iterations
pub run_parts_over : IsRun 2 parts_over
run_parts_over =
    ((refl, (refl, refl)), ((refl, (refl, refl)), ((refl, claims_piece 2 0 (0, shape_of ordered_two) _ _ refl two_fit refl (omega arith, omega arith)), ((refl, claims_piece 2 1 (0, shape_of ordered_two) _ _ refl two_fit refl (omega arith, omega arith)), ((refl, refl), ((refl, refl), ((refl, refl), (refl, (refl, ((refl, tt), (refl, ((refl, refl), ((refl, refl), ((refl, refl), ((refl, refl), ((refl, tt), ((refl, refl), ((refl, claims_piece 2 1 (0, shape_of ordered_two) _ _ refl two_fit refl tt), ((refl, tt), tt)))))))))))))))))))

-- three sections
pub run_in_sections : IsRun 2 in_sections
run_in_sections =
    (refl, ((refl, (refl, refl)), ((refl, claims_piece 2 0 (0, sections_shape 3 WaitEnd) _ _ refl sections_fit refl (omega arith, omega arith)), ((refl, refl), ((refl, (refl, refl)), ((refl, claims_piece 2 1 (0, sections_shape 3 WaitEnd) _ _ refl sections_fit refl (omega arith, omega arith)), ((refl, claims_piece 2 0 (0, sections_shape 3 WaitEnd) _ _ refl sections_fit refl (omega arith, omega arith)), tt)))))))

-- a single, which one member executes
pub run_left_single : IsRun 2 left_single
run_left_single =
    ((refl, (refl, refl)), (refl, ((refl, claims_piece 2 0 (0, single_shape false) _ _ refl single_fits refl (omega arith, omega arith)), ((refl, tt), ((refl, refl), ((refl, (refl, refl)), (refl, ((refl, claims_piece 2 1 (0, single_shape false) _ _ refl single_fits refl tt), ((refl, tt), tt)))))))))

-- a static loop with a chunk: the second member has its own pieces
pub run_in_static : IsRun 2 in_static
run_in_static =
    ((refl, (refl, refl)), ((refl, claims_piece 2 1 (0, shape_of static_ten) _ _ refl static_ten_fits refl (omega arith, omega arith)), tt))

-- a static loop of one iteration: the second member has no piece
pub run_in_even : IsRun 2 in_even
run_in_even =
    ((refl, (refl, refl)), ((refl, claims_piece 2 1 (0, shape_of even_one) _ _ refl even_fits refl tt), tt))

-- a guided loop
pub run_in_guided : IsRun 2 in_guided
run_in_guided =
    ((refl, (refl, refl)), ((refl, claims_piece 2 0 (0, shape_of guided_ten) _ _ refl guided_fits refl (omega arith, omega arith)), tt))

-- a member that is eight shares ahead of the other
pub run_ninth_share : IsRun 2 ninth_share
run_ninth_share =
    ((refl, (refl, refl)), ((refl, claims_piece 2 0 (0, single_shape false) _ _ refl single_fits refl (omega arith, omega arith)), ((refl, tt), ((refl, (refl, refl)), ((refl, claims_piece 2 0 (1, single_shape false) _ _ refl single_fits refl (omega arith, omega arith)), ((refl, tt), ((refl, (refl, refl)), ((refl, claims_piece 2 0 (2, single_shape false) _ _ refl single_fits refl (omega arith, omega arith)), ((refl, tt), ((refl, (refl, refl)), ((refl, claims_piece 2 0 (3, single_shape false) _ _ refl single_fits refl (omega arith, omega arith)), ((refl, tt), ((refl, (refl, refl)), ((refl, claims_piece 2 0 (4, single_shape false) _ _ refl single_fits refl (omega arith, omega arith)), ((refl, tt), ((refl, (refl, refl)), ((refl, claims_piece 2 0 (5, single_shape false) _ _ refl single_fits refl (omega arith, omega arith)), ((refl, tt), ((refl, (refl, refl)), ((refl, claims_piece 2 0 (6, single_shape false) _ _ refl single_fits refl (omega arith, omega arith)), ((refl, tt), ((refl, (refl, refl)), ((refl, claims_piece 2 0 (7, single_shape false) _ _ refl single_fits refl (omega arith, omega arith)), ((refl, tt), ((refl, (refl, refl)), ((refl, (refl, refl)), ((refl, claims_piece 2 1 (0, single_shape false) _ _ refl single_fits refl tt), ((refl, (refl, refl)), ((refl, tt), tt)))))))))))))))))))))))))))))

-- the calls of the loop give these events
pub events_of_the_loop : events_of 2 left_ten ≡
    End 0 1 ∷ Drained 0 1 ∷ End 0 0 ∷ Drained 0 0 ∷ Take 0 1 9 10 ∷ Take 0 0 6 9 ∷ Take 0 1 3 6 ∷ Enter 0 1 (shape_of ten) ∷ Take 0 0 0 3 ∷ Enter 0 0 (shape_of ten) ∷ []
events_of_the_loop = refl

-- and those of the ordered parts
pub events_of_the_parts : events_of 2 parts_over ≡
    End 0 1 ∷ Drained 0 1 ∷ Handed 0 1 1 ∷ PartEnd 0 1 ∷ Part 0 1 1 ∷ Handed 0 0 0 ∷ PartEnd 0 0 ∷ Part 0 0 0 ∷ Take 0 1 1 2 ∷ Take 0 0 0 1 ∷ Enter 0 1 (shape_of ordered_two) ∷ Enter 0 0 (shape_of ordered_two) ∷ []
events_of_the_parts = refl

-- what is not opened, since it differs, gives no event
pub events_of_the_single : events_of 2 left_single ≡
    End 0 1 ∷ Drained 0 1 ∷ Enter 0 1 (single_shape false) ∷ End 0 0 ∷ Take 0 0 0 1 ∷ Enter 0 0 (single_shape false) ∷ []
events_of_the_single = refl

-- the calls of the sections give these events
pub events_of_the_sections : events_of 2 in_sections ≡
    Take 0 0 2 3 ∷ Take 0 1 1 2 ∷ Enter 0 1 (sections_shape 3 WaitEnd) ∷ Take 0 0 0 1 ∷ Enter 0 0 (sections_shape 3 WaitEnd) ∷ []
events_of_the_sections = refl

-- nor does what has to wait
pub wait_adds_no_event : events_of 2 (eight_ahead ++ (asks 0 (OpenSingle false), Opened NotYet) ∷ []) ≡ events_of 2 eight_ahead
wait_adds_no_event = refl

-- Other answers of a call

-- a member enters if there is room and the constructs are one
pub loop_enters : IsWrong 2 [] (asks 0 (Open ten)) (Opened NotYet) × IsWrong 2 [] (asks 0 (Open ten)) (Opened Differs)
loop_enters = (λ answer. absurd (let room = answer.1.1 in cc), λ answer. absurd (let differs = answer.1 in cc))

-- so it is with sections
pub sections_enter : IsWrong 2 [] (asks 0 (OpenSections 3 WaitEnd)) (Opened NotYet) × IsWrong 2 [] (asks 0 (OpenSections 3 WaitEnd)) (Opened Differs)
sections_enter = (λ answer. absurd (let room = answer.1.1 in cc), λ answer. absurd (let differs = answer.1 in cc))

-- and with a single
pub single_enters : IsWrong 2 [] (asks 0 (OpenSingle false)) (Opened NotYet) × IsWrong 2 [] (asks 0 (OpenSingle false)) (Opened Differs)
single_enters = (λ answer. absurd (let room = answer.1.1 in cc), λ answer. absurd (let differs = answer.1 in cc))

-- it waits at the ninth share, of whatever kind
pub loop_waits : IsWrong 2 eight_ahead (asks 0 (Open ten)) (Opened Entered) × IsWrong 2 eight_ahead (asks 0 (Open ten)) (Opened Differs)
loop_waits = (λ answer. absurd (let room = answer.1.1 in cc), λ answer. absurd (let differs = answer.1 in cc))

-- it waits also with sections
pub sections_wait : IsWrong 2 eight_ahead (asks 0 (OpenSections 3 WaitEnd)) (Opened Entered) × IsWrong 2 eight_ahead (asks 0 (OpenSections 3 WaitEnd)) (Opened Differs)
sections_wait = (λ answer. absurd (let room = answer.1.1 in cc), λ answer. absurd (let differs = answer.1 in cc))

-- and with a single
pub single_waits : IsWrong 2 eight_ahead (asks 0 (OpenSingle false)) (Opened Entered) × IsWrong 2 eight_ahead (asks 0 (OpenSingle false)) (Opened Differs)
single_waits = (λ answer. absurd (let room = answer.1.1 in cc), λ answer. absurd (let differs = answer.1 in cc))

-- and no longer, once the other has left the first
pub single_waits_no_longer : IsWrong 2 ninth_share (asks 0 (OpenSingle false)) (Opened NotYet)
single_waits_no_longer answer = absurd (let room = answer.1.1 in cc)

-- a loop of other iterations differs, and so does another construct
pub loop_differs : IsWrong 2 inside_ten (asks 1 (Open nine)) (Opened Entered) × IsWrong 2 inside_ten (asks 1 (Open nine)) (Opened NotYet)
loop_differs = (λ answer. absurd (let differs = answer.1.0 in cc), λ answer. absurd (let differs = answer.1.0 in cc))

-- sections are no loop
pub sections_differ : IsWrong 2 inside_ten (asks 1 (OpenSections 3 WaitEnd)) (Opened Entered) × IsWrong 2 inside_ten (asks 1 (OpenSections 3 WaitEnd)) (Opened NotYet)
sections_differ = (λ answer. absurd (let differs = answer.1.0 in cc), λ answer. absurd (let differs = answer.1.0 in cc))

-- nor is a single
pub single_differs : IsWrong 2 inside_ten (asks 1 (OpenSingle false)) (Opened Entered) × IsWrong 2 inside_ten (asks 1 (OpenSingle false)) (Opened NotYet)
single_differs = (λ answer. absurd (let differs = answer.1.0 in cc), λ answer. absurd (let differs = answer.1.0 in cc))

-- a single with words is another one
pub copy_differs : IsWrong 2 in_single (asks 1 (OpenSingle true)) (Opened Entered)
copy_differs answer = absurd (let differs = answer.1.0 in cc)

-- Wrong pieces

-- the answer to a claim is the next piece of the share that the member is in
is_next : (members m : ℕ) (share : ℕ × Shape) (answer : Option Piece) (h : List Event) → open_share m h ≡ Some share → Claims members m answer h → answer ≡ next_for (schedule members) share.1 share.0 m h
is_next members m share answer h there claims =
    let same : claims.share ≡ share = let is = claims.there in cc in
    rw same at claims.least

-- if that is a piece, it is no other one, and not none
not_from : (members m : ℕ) (share : ℕ × Shape) (piece next : Piece) (h : List Event) → (piece.0 ≡ next.0 → ⊥) → open_share m h ≡ Some share → next_for (schedule members) share.1 share.0 m h ≡ Some next → Claims members m (Some piece) h → ⊥
not_from members m share piece next h other there is claims =
    let told = is_next members m share (Some piece) h there claims in
    other (let same : piece ≡ next = cc in ap (λ (p : Piece). p.0) same)

not_to : (members m : ℕ) (share : ℕ × Shape) (piece next : Piece) (h : List Event) → (piece.1 ≡ next.1 → ⊥) → open_share m h ≡ Some share → next_for (schedule members) share.1 share.0 m h ≡ Some next → Claims members m (Some piece) h → ⊥
not_to members m share piece next h other there is claims =
    let told = is_next members m share (Some piece) h there claims in
    other (let same : piece ≡ next = cc in ap (λ (p : Piece). p.1) same)

never_none : (members m : ℕ) (share : ℕ × Shape) (next : Piece) (h : List Event) → open_share m h ≡ Some share → next_for (schedule members) share.1 share.0 m h ≡ Some next → Claims members m None h → ⊥
never_none members m share next h there is claims = let told = is_next members m share None h there claims in absurd (cc)

-- and if there is none, it is no piece
never_some : (members m : ℕ) (share : ℕ × Shape) (piece : Piece) (h : List Event) → open_share m h ≡ Some share → next_for (schedule members) share.1 share.0 m h ≡ None → Claims members m (Some piece) h → ⊥
never_some members m share piece h there is claims = let told = is_next members m share (Some piece) h there claims in absurd (cc)

-- a piece that was taken
pub piece_again : IsWrong 2 took_one (asks 0 Claim) (Claimed (Some (0, 3)))
piece_again answer = not_from 2 0 (0, shape_of ten) (0, 3) (3, 6) _ (λ same. omega arith) refl refl answer.1

-- a piece before its time
pub piece_ahead : IsWrong 2 took_one (asks 0 Claim) (Claimed (Some (6, 9)))
piece_ahead answer = not_from 2 0 (0, shape_of ten) (6, 9) (3, 6) _ (λ same. omega arith) refl refl answer.1

-- one iteration too many
pub piece_too_long : IsWrong 2 took_one (asks 0 Claim) (Claimed (Some (3, 7)))
piece_too_long answer = not_to 2 0 (0, shape_of ten) (3, 7) (3, 6) _ (λ same. omega arith) refl refl answer.1

-- one iteration too few
pub piece_too_short : IsWrong 2 took_one (asks 0 Claim) (Claimed (Some (3, 5)))
piece_too_short answer = not_to 2 0 (0, shape_of ten) (3, 5) (3, 6) _ (λ same. omega arith) refl refl answer.1

-- none though pieces are left
pub none_too_early : IsWrong 2 took_one (asks 0 Claim) (Claimed None)
none_too_early answer = never_none 2 0 (0, shape_of ten) (3, 6) _ refl refl answer.1

-- any piece though none is left
pub piece_too_late : (piece : Piece) → IsWrong 2 took_all (asks 0 Claim) (Claimed (Some piece))
piece_too_late piece answer = never_some 2 0 (0, shape_of ten) piece _ refl refl answer.1

-- a piece of a static loop that is another member's
pub piece_of_another : IsWrong 2 in_static (asks 1 Claim) (Claimed (Some (6, 9)))
piece_of_another answer = not_from 2 1 (0, shape_of static_ten) (6, 9) (9, 10) _ (λ same. omega arith) refl refl answer.1

-- a guided piece of the size of the first
pub guided_piece_too_long : IsWrong 2 in_guided (asks 0 Claim) (Claimed (Some (5, 10)))
guided_piece_too_long answer = not_to 2 0 (0, shape_of guided_ten) (5, 10) (5, 8) _ (λ same. omega arith) refl refl answer.1

-- two sections at once
pub two_sections : IsWrong 2 in_sections (asks 1 Claim) (Claimed (Some (1, 3)))
two_sections answer = never_some 2 1 (0, sections_shape 3 WaitEnd) (1, 3) _ refl refl answer.1

-- a single for both members
pub single_for_both : IsWrong 2 (in_single ++ (asks 1 (OpenSingle false), Opened Entered) ∷ []) (asks 1 Claim) (Claimed (Some (0, 1)))
single_for_both answer = never_some 2 1 (0, single_shape false) (0, 1) _ refl refl answer.1

-- Wrong turns

-- the member with the first piece has the turn
pub turn_denied : IsWrong 2 both_hold (asks 0 (Begin 0)) (Turned false) × IsWrong 2 both_hold (asks 0 HandOn) (Turned false)
turn_denied = (λ answer. absurd (let turn = answer.1 in cc), λ answer. absurd (let turn = answer.1 in cc))

-- the second member has no turn before the first has handed its piece on
pub turn_too_early : IsWrong 2 both_hold (asks 1 (Begin 1)) (Turned true) × IsWrong 2 both_hold (asks 1 HandOn) (Turned true)
turn_too_early = (λ answer. absurd (let turn = answer.1 in cc), λ answer. absurd (let turn = answer.1 in cc))

-- a piece is handed on once
pub handed_on_again : IsWrong 2 handed_on (asks 0 HandOn) (Turned true)
handed_on_again answer = absurd (let turn = answer.1 in cc)

-- Calls that are not made

-- a call of a stranger
pub stranger_opens : (opening : Opening) → IsWrong 2 [] (asks 2 (Open ten)) (Opened opening)
stranger_opens opening answer = absurd (let made = answer.0 in cc)

-- a claim of a member that is in no share
pub claim_outside : (piece : Option Piece) → IsWrong 2 [] (asks 0 Claim) (Claimed piece)
claim_outside piece answer = absurd (let made = answer.0 in cc)

-- a claim of a member that was told that nothing is left
pub claim_after_none : (piece : Option Piece) → IsWrong 2 told_none (asks 0 Claim) (Claimed piece)
claim_after_none piece answer = absurd (let made = answer.0 in cc)

-- a member leaves while pieces are left
pub left_too_early : IsWrong 2 took_one (asks 0 Leave) Left
left_too_early answer = absurd (let made = answer.0 in cc)

-- a part that is begun in another one
pub begun_in_a_part : IsWrong 2 in_the_part (asks 0 (Begin 0)) (Turned true)
begun_in_a_part answer = absurd (let made = answer.0 in cc)

-- a part that is ended if none is open
pub ended_outside : IsWrong 2 both_hold (asks 0 EndPart) Ended
ended_outside answer = absurd (let made = answer.0 in cc)

-- a piece of a loop that has no ordered parts
pub handed_on_unordered : (turned : Bool) → IsWrong 2 took_one (asks 0 HandOn) (Turned turned)
handed_on_unordered turned answer = absurd (let made = answer.0 in cc)

-- What an answer adds

-- an answer of another call adds nothing of this one
pub turned_adds_nothing : events_answered 2 (asks 0 Claim) (Turned true) (events_of 2 inside_ten) ≡ events_of 2 inside_ten
turned_adds_nothing = refl
