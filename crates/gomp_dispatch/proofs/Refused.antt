-- A call's refusal by its member's place, and by the comparison with other members, is the least of its tests.
use Rattle.std.proofs.Common.{◌≡◌, ◌≤◌, ℕ, Bool, true, false, List, [], ◌∷◌, Option, Some, None, Result, Ok, Err, refl, ap, sym, ◌∙◌, arith}
use Rattle.gomp_types.specs.declared.call.Server.TheVariants.{Shares as OfShares, Book}
use Rattle.gomp_types.specs.Servers.{kind_served_by, served_by}
use Rattle.std.specs.Prelude.{nat_le, ◌&&◌, not, IfSome, IfOk}
use Rattle.gomp_types.specs.declared.call.Call.{Call}
use Rattle.gomp_types.specs.declared.call.Call.TheVariants as calls
use Rattle.gomp_types.specs.declared.refusal.Refusal.TheVariants.{Mismatch}
use Rattle.gomp_model.specs.Calls.{row_of}
use Rattle.std.specs.Result.{result_err, result_map_both}
use Rattle.std.proofs.lemmas.Bool.Decides.{nat_tests}
use Rattle.gomp_types.specs.declared.limits.Limits.{Limits}
use Rattle.gomp_types.specs.declared.refusal.Refusal.{Refusal}
use Rattle.gomp_events.specs.declared.seen.Seen.{Seen}
use Rattle.gomp_types.specs.declared.shape.Shape.{Shape}
use Rattle.gomp_types.specs.RefusalTexts.{number_of}
use Rattle.gomp_types.specs.Tests.{Test, first_holding, outcome}
use Rattle.gomp_events.specs.Seen.{seen_of}
use Rattle.gomp_types.specs.Least.{lesser, least}
use Rattle.gomp_events.specs.declared.event.Event.{Event}
use Rattle.gomp_types.proofs.Booleans.{and_left, and_right, not_false}
use Rattle.gomp_types.proofs.LeastTests.{all_fail, lesser_low, lesser_assoc, least_append, from, first_is_least, le_trans}
use Rattle.gomp_types.specs.declared.cancel.CancelKind.{CancelKind}
use Rattle.gomp_types.specs.declared.cancel.CancelKind.TheVariants as kinds
use Rattle.gomp_shares.specs.Cancels.{cancel_place_tests}
use Rattle.gomp_shares.specs.Starts.{is_drained, drained_tests}
use Rattle.gomp_types.proofs.TestRows.{outcome_value}
use Rattle.gomp_shares.specs.Calls.{MayOpenAs}
use Rattle.gomp_shares.proofs.Admitted.{outcome_err}
use Rattle.gomp_model.specs.Past.{Past}
use Rattle.gomp_events.specs.TaskCalls.{unless_given_up}
use Rattle.gomp_model.specs.Row.{Row, drain_tests, place_tests}
use Rattle.gomp_dispatch.specs.Answers.{compared_start, later_tests, ComesFirst, ByPlace, StartsShare, PlaceDecides}

-- tests in the order of their numbers
pub rising_least : (found : Option Refusal) (tests : List Test) → found ≡ first_holding tests → from 0 tests ≡ true → found ≡ least tests
rising_least found tests is rising = is ∙ first_is_least 0 tests rising

-- The tests on a member's place come before the comparison

-- whether all numbers are up to this one, or from it on
abbrev pub up_to : ℕ → List Test → Bool
up_to n [] = true
up_to n (test ∷ tests) = nat_le (number_of test.1) n && up_to n tests

abbrev pub beginning : ℕ → List Test → Bool
beginning n [] = true
beginning n (test ∷ tests) = nat_le n (number_of test.1) && beginning n tests

below_both : (a b n : ℕ) → a ≤ b → nat_le b n ≡ true → nat_le a n ≡ true
below_both a b n one other = grind (arith, nat_tests)

pub least_up : (n : ℕ) (tests : List Test) (refusal : Refusal) → up_to n tests ≡ true → least tests ≡ Some refusal → nat_le (number_of refusal) n ≡ true
least_up n [] refusal low is = absurd (cc)
least_up n ((true, one) ∷ tests) refusal low is =
    below_both (number_of refusal) (number_of one) n (lesser_low one refusal (least tests) is) (and_left (nat_le (number_of one) n) (up_to n tests) low)
least_up n ((false, one) ∷ tests) refusal low is = least_up n tests refusal (and_right (nat_le (number_of one) n) (up_to n tests) low) is

pub least_before : (n : ℕ) (refusal : Refusal) (tests : List Test) → nat_le (number_of refusal) n ≡ true → beginning n tests ≡ true → lesser (Some refusal) (least tests) ≡ Some refusal
least_before n refusal [] low high = refl
least_before n refusal ((true, one) ∷ tests) low high =
    let less = le_trans (number_of refusal) n (number_of one) low (and_left (nat_le n (number_of one)) (beginning n tests) high) in
    let first : lesser (Some refusal) (Some one) ≡ Some refusal = rw less refl in
    lesser_assoc (Some refusal) (Some one) (least tests) ∙ ap (λ (x : Option Refusal). lesser x (least tests)) first
    ∙ least_before n refusal tests low (and_right (nat_le n (number_of one)) (beginning n tests) high)
least_before n refusal ((false, one) ∷ tests) low high = least_before n refusal tests low (and_right (nat_le n (number_of one)) (beginning n tests) high)

pub comes_first : (n : ℕ) (row : Row) (limits : Limits) (seen : Seen) (found : Option Refusal) → found ≡ least (row.by_place limits seen) → up_to n (row.by_place limits seen) ≡ true →
    ((m : ℕ) (p : Past) → beginning n (later_tests false row m p) ≡ true) → ComesFirst row found
comes_first n row limits seen None is low high = tt
comes_first n row limits seen (Some refusal) is low high = λ m p. least_before n refusal (later_tests false row m p) (least_up n (row.by_place limits seen) refusal low (sym is)) (high m p)

-- the member's place alone has refused
pub by_place : (n : ℕ) (row : Row) (limits : Limits) (seen : Seen) (found : Option Refusal) → found ≡ least (row.by_place limits seen) → up_to n (row.by_place limits seen) ≡ true →
    ((m : ℕ) (p : Past) → beginning n (later_tests false row m p) ≡ true) → ByPlace row limits false seen found
by_place n row limits seen found is low high = record { place = is; first = comes_first n row limits seen found is low high }

-- a call with no such test
no_place : (row : Row) (limits : Limits) (seen : Seen) → None ≡ least (row.by_place limits seen) → ByPlace row limits false seen None
no_place row limits seen is = record { place = is; first = tt }

-- one by which its member gives its share up
pub given_up_place : (row : Row) (limits : Limits) (gives_up : Bool) (seen : Seen) → gives_up ≡ true → ByPlace row limits gives_up seen None
given_up_place row limits true seen e = record { place = refl; first = tt }
given_up_place row limits false seen e = absurd (cc)

-- and one by which it does not
pub stays_placed : (row : Row) (limits : Limits) (gives_up : Bool) (seen : Seen) (found : Option Refusal) → gives_up ≡ false → ByPlace row limits false seen found → ByPlace row limits gives_up seen found
stays_placed row limits true seen found e place = absurd (cc)
stays_placed row limits false seen found e place = place

-- The refusal of a call

place_by_same_limits : (row : Row) (m : ℕ) (p : Past) (limits : Limits) → p.terms.limits ≡ limits →
    least (unless_given_up (row.gives_up m p.events) (row.by_place limits (seen_of m p.events))) ≡ least (unless_given_up (row.gives_up m p.events) (row.by_place p.terms.limits (seen_of m p.events)))
place_by_same_limits row m p limits is = ap (λ (l : Limits). least (unless_given_up (row.gives_up m p.events) (row.by_place l (seen_of m p.events)))) (sym is)

-- what is found by the place that is seen is found by that which the events tell
found_by_place : (row : Row) (m : ℕ) (p : Past) (limits : Limits) (seen : Seen) (found other : Option Refusal) → p.terms.limits ≡ limits → seen ≡ seen_of m p.events → found ≡ least (unless_given_up (row.gives_up m p.events) (row.by_place limits seen)) →
    found ≡ other → least (unless_given_up (row.gives_up m p.events) (row.by_place p.terms.limits (seen_of m p.events))) ≡ other
found_by_place row m p limits seen found other bounds at is same =
    sym (place_by_same_limits row m p limits bounds) ∙ ap (λ (s : Seen). least (unless_given_up (row.gives_up m p.events) (row.by_place limits s))) (sym at) ∙ sym is ∙ same

pub refused_there : (row : Row) (m : ℕ) (p : Past) (limits : Limits) (seen : Seen) (found : Option Refusal) (refusal : Refusal) → p.terms.limits ≡ limits → seen ≡ seen_of m p.events → ByPlace row limits (row.gives_up m p.events) seen found →
    found ≡ Some refusal → Some refusal ≡ least (place_tests false row m p)
refused_there row m p limits seen found refusal bounds at place some =
    let own = unless_given_up (row.gives_up m p.events) (row.by_place p.terms.limits (seen_of m p.events)) in
    let here : least own ≡ Some refusal = found_by_place row m p limits seen found (Some refusal) bounds at place.place some in
    let rest : ComesFirst row (Some refusal) = rw some at place.first in
    sym (least_append own (later_tests false row m p) ∙ ap (λ (x : Option Refusal). lesser x (least (later_tests false row m p))) here ∙ rest m p)

pub compared_then : (row : Row) (m : ℕ) (p : Past) (limits : Limits) (seen : Seen) (found other : Option Refusal) → p.terms.limits ≡ limits → seen ≡ seen_of m p.events → ByPlace row limits (row.gives_up m p.events) seen found → found ≡ None →
    other ≡ least (later_tests false row m p) → other ≡ least (place_tests false row m p)
compared_then row m p limits seen found other bounds at place none same =
    let own = unless_given_up (row.gives_up m p.events) (row.by_place p.terms.limits (seen_of m p.events)) in
    let here : least own ≡ None = found_by_place row m p limits seen found None bounds at place.place none in
    same ∙ sym (least_append own (later_tests false row m p) ∙ ap (λ (x : Option Refusal). lesser x (least (later_tests false row m p))) here)

-- what the later tests answer is the call's answer: if it is repeated no other test is made, and else its place has let it
pub compared_last : (repeated : Bool) (row : Row) (m : ℕ) (p : Past) (limits : Limits) (seen : Seen) (found other : Option Refusal) → p.terms.limits ≡ limits → seen ≡ seen_of m p.events → ByPlace row limits (row.gives_up m p.events) seen found →
    (repeated ≡ false → found ≡ None) → other ≡ least (later_tests repeated row m p) → other ≡ least (place_tests repeated row m p)
compared_last true row m p limits seen found other bounds at place fine same = same
compared_last false row m p limits seen found other bounds at place fine same = compared_then row m p limits seen found other bounds at place (fine refl) same

-- the later tests of a call whose share lets it end, and of one whose share does not
pub undrained_first : (row : Row) (m : ℕ) (p : Past) (refusal : Refusal) → Some refusal ≡ least (drain_tests row.drains m p.events) → beginning 18 (row.compared false m p) ≡ true → Some refusal ≡ least (later_tests false row m p)
undrained_first row m p refusal is high =
    let tests = drain_tests row.drains m p.events in
    sym (least_append tests (row.compared false m p) ∙ ap (λ (x : Option Refusal). lesser x (least (row.compared false m p))) (sym is) ∙ least_before 18 refusal (row.compared false m p) (least_up 18 tests refusal (drains_low row.drains m p.events) (sym is)) high)
  where
    drains_low : (drains : Bool) (m : ℕ) (h : List Event) → up_to 18 (drain_tests drains m h) ≡ true
    drains_low true m h = refl
    drains_low false m h = refl

pub drained_then : (row : Row) (m : ℕ) (p : Past) (found : Option Refusal) → None ≡ least (drain_tests row.drains m p.events) → found ≡ least (row.compared false m p) → found ≡ least (later_tests false row m p)
drained_then row m p found none is = is ∙ sym (least_append (drain_tests row.drains m p.events) (row.compared false m p) ∙ ap (λ (x : Option Refusal). lesser x (least (row.compared false m p))) (sym none))

-- a call that is not refused so ends a share that lets it
pub lets_end : (drains : Bool) (m : ℕ) (h : List Event) → None ≡ least (drain_tests drains m h) → drains ≡ true → is_drained m h ≡ true
lets_end true m h none e = not_false (is_drained m h) (all_fail (drained_tests m h) (sym none)).0
lets_end false m h none e = absurd (cc)

-- no comparison comes before the test of what is left
pub compared_high : (call : Call) (m : ℕ) (p : Past) → beginning 18 ((row_of call).compared false m p) ≡ true
compared_high (calls.LoopStart loop) m p = refl
compared_high calls.Barrier m p = refl
compared_high _ m p = refl

-- an arrival that differs, in a region that is not cancelled, is refused
pub arrival_refused : (cancelled differs : Bool) → cancelled ≡ false → differs ≡ true → Some Mismatch ≡ least ((not cancelled && differs, Mismatch) ∷ [])
arrival_refused cancelled differs e other = rw (e, other) refl

pub arrival_agrees : (cancelled differs : Bool) → differs ≡ false → None ≡ least ((not cancelled && differs, Mismatch) ∷ [])
arrival_agrees true differs other = refl
arrival_agrees false differs other = rw other refl

pub arrival_uncompared : (cancelled differs : Bool) → cancelled ≡ true → None ≡ least ((not cancelled && differs, Mismatch) ∷ [])
arrival_uncompared cancelled differs e = rw e refl

-- The tests of a construct that cancels a share

pub cancel_placed : (kind : CancelKind) (seen : Seen) (found : Option Refusal) → found ≡ first_holding (cancel_place_tests kind seen) → found ≡ least (cancel_place_tests kind seen)
cancel_placed kind seen found is = rising_least found (cancel_place_tests kind seen) is (cancel_rises kind seen)
  where
    cancel_rises : (kind : CancelKind) (seen : Seen) → from 0 (cancel_place_tests kind seen) ≡ true
    cancel_rises kinds.Loop seen = refl
    cancel_rises kinds.Sections seen = refl
    cancel_rises _ seen = refl

pub cancel_low : (kind : CancelKind) (seen : Seen) → up_to 34 (cancel_place_tests kind seen) ≡ true
cancel_low kinds.Loop seen = refl
cancel_low kinds.Sections seen = refl
cancel_low _ seen = refl

-- What the member's place makes of a call

err_kept : (shape : Result Shape Refusal) → result_err (result_map_both (λ s. Some s) (λ refusal. refusal) shape) ≡ result_err shape
err_kept (Ok shape) = refl
err_kept (Err refusal) = refl

started_here : (row : Row) (seen : Seen) (tests : List Test) (own : Shape) (shape : Result Shape Refusal) → row.starts ≡ Some own → shape ≡ outcome (first_holding tests) own → IfOk shape (MayOpenAs seen) →
    IfOk (result_map_both (λ s. Some s) (λ refusal. refusal) shape) (StartsShare row seen)
started_here row seen tests own (Ok shape) starts is may = (ap (λ (s : Shape). Some s) (outcome_value (first_holding tests) own shape (sym is)) ∙ sym starts, may)
started_here row seen tests own (Err refusal) starts is may = tt

-- of a start: the refusal of its tests, or its shape
pub admits_start : (row : Row) (limits : Limits) (seen : Seen) (tests : List Test) (own : Shape) (shape : Result Shape Refusal) (found : Result (Option Shape) Refusal) → row.stays ≡ true → row.starts ≡ Some own → row.by_place limits seen ≡ tests →
    shape ≡ outcome (first_holding tests) own → IfOk shape (MayOpenAs seen) → found ≡ result_map_both (λ s. Some s) (λ refusal. refusal) shape → from 0 tests ≡ true → up_to 34 (row.by_place limits seen) ≡ true →
    ((m : ℕ) (p : Past) → beginning 34 (later_tests false row m p) ≡ true) → PlaceDecides row limits seen found
admits_start row limits seen tests own shape found stays starts are is may told rising low high =
    let err : result_err found ≡ least (row.by_place limits seen) =
    ap result_err told ∙ err_kept shape ∙ ap result_err is ∙ outcome_err (first_holding tests) own ∙ first_is_least 0 tests rising ∙ ap least (sym are) in
    record { place = by_place 34 row limits seen (result_err found) err low high; starts = rw told (started_here row seen tests own shape starts is may); leaving = λ goes. absurd (let both = sym stays ∙ goes in cc) }

none_here : (row : Row) (seen : Seen) (refusal : Option Refusal) → row.starts ≡ None → IfOk (outcome refusal None) (StartsShare row seen)
none_here row seen None starts = (sym starts, tt)
none_here row seen (Some refusal) starts = tt

-- of another call: the refusal of its tests, and no share
pub admits_none : (n : ℕ) (row : Row) (limits : Limits) (seen : Seen) (refusal : Option Refusal) (found : Result (Option Shape) Refusal) → found ≡ outcome refusal None → refusal ≡ least (row.by_place limits seen) → row.starts ≡ None →
    up_to n (row.by_place limits seen) ≡ true → ((m : ℕ) (p : Past) → beginning n (later_tests false row m p) ≡ true) → PlaceDecides row limits seen found
admits_none n row limits seen refusal found told is starts low high =
    let err : result_err found ≡ least (row.by_place limits seen) = ap result_err told ∙ outcome_err refusal None ∙ is in
    record { place = by_place n row limits seen (result_err found) err low high; starts = rw told (none_here row seen refusal starts); leaving = λ goes. starts }

-- of one with no such test
pub admits_at_once : (row : Row) (limits : Limits) (seen : Seen) → None ≡ least (row.by_place limits seen) → row.starts ≡ None → PlaceDecides row limits seen (Ok None)
admits_at_once row limits seen is starts = record { place = no_place row limits seen is; starts = (sym starts, tt); leaving = λ goes. starts }

-- no construct that cancels is answered by the book
pub no_kind_of_book : (kind : CancelKind) → kind_served_by kind ≡ Book → ⊥
no_kind_of_book kinds.Loop of = cc
no_kind_of_book kinds.Sections of = cc
no_kind_of_book kinds.Parallel of = cc
no_kind_of_book kinds.Taskgroup of = cc

-- one that the shares answer is compared as a start, if it is one
pub share_call_is_compared : (call : Call) (starts : Option Shape) → served_by call ≡ OfShares → starts ≡ (row_of call).starts → (repeated : Bool) (m : ℕ) (p : Past) → compared_start starts m p.events ≡ (row_of call).compared repeated m p
share_call_is_compared call starts of e repeated m p = rw e (own_is_compared call of)
  where
    own_is_compared : (call : Call) → served_by call ≡ OfShares → compared_start (row_of call).starts m p.events ≡ (row_of call).compared repeated m p
    own_is_compared (calls.Cancel kind clause) of = refl
    own_is_compared (calls.Point kind) of = refl
    own_is_compared _ of = cc

-- the share that a start has found is its own
pub start_has_its_share : (starts : Option Shape) (shape own : Shape) → starts ≡ Some shape → starts ≡ Some own → own ≡ shape
start_has_its_share starts shape own is e = let both = sym e ∙ is in cc

pub opens_own : (starts : Option Shape) (seen : Seen) (shape : Shape) → starts ≡ Some shape → IfSome starts (MayOpenAs seen) → MayOpenAs seen shape
opens_own starts seen shape is may = rw is at may

pub start_has_a_share : (starts : Option Shape) (own : Shape) → starts ≡ None → starts ≡ Some own → ⊥
start_has_a_share starts own is e = let both = sym e ∙ is in cc

-- a call whose test fails is not refused
pub refused_not : {A : Type 0} (tests : List Test) (x : A) (told : Result A Refusal) (refusal : Refusal) → least tests ≡ None → told ≡ outcome (least tests) x → told ≡ Err refusal → ⊥
refused_not tests x told refusal none is err =
    let fine : told ≡ Ok x = rw none at is in
    let both = sym err ∙ fine in cc
