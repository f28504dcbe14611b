-- What the answer to a member that its own tests let through is to the whole call: for the crates of the calls above.
use Rattle.std.proofs.Common.{◌≡◌, ◌<◌, ◌≤◌, ℕ, Bool, true, false, List, [], ◌∷◌, ◌++◌, Option, Some, None, refl, ap, ◌∙◌, sym, inl, inr, arith}
use Rattle.std.proofs.lemmas.Bool.{cases_Bool}
use Rattle.std.proofs.lemmas.Bool.Decides.{nat_tests}
use Rattle.std.proofs.lemmas.Int.{ints}
use Rattle.std.specs.Prelude.{if◌then◌else◌, Ok, not, is_some, nat_le}
use Rattle.std.specs.Result.{result_err}
use Rattle.gomp_types.specs.declared.limits.Limits.{Limits}
use Rattle.gomp_types.specs.declared.loop_desc.EndKind.{EndKind}
use Rattle.gomp_types.specs.declared.reply.Reply.{Reply}
use Rattle.gomp_types.specs.declared.reply.Reply.TheVariants.{Refused}
use Rattle.gomp_events.specs.declared.seen.Seen.{Seen}
use Rattle.gomp_types.specs.declared.shape.Shape.{Shape}
use Rattle.gomp_types.specs.declared.shape.ShareKind.{ShareKind}
use Rattle.gomp_events.specs.declared.event.Event.{Event}
use Rattle.gomp_types.specs.declared.refusal.Refusal.{Refusal}
use Rattle.gomp_types.specs.declared.refusal.Refusal.TheVariants.{NotDrained, Mismatch}
use Rattle.gomp_types.specs.Compare.{shape_differs}
use Rattle.gomp_events.specs.Events.{shares_entered, in_kind, in_part, open_share, shape_at}
use Rattle.gomp_types.specs.Deals.{schedule}
use Rattle.gomp_events.specs.Laws.{Always}
use Rattle.gomp_types.specs.Shapes.{is_loop, is_sections}
use Rattle.gomp_types.specs.Singles.{single_shape}
use Rattle.gomp_types.specs.Tests.{Test, first_holding, outcome}
use Rattle.gomp_types.specs.Least.{lesser, least, Answers}
use Rattle.gomp_events.specs.Seen.{seen_of}
use Rattle.gomp_types.proofs.Booleans.{not_false, or_left, or_right}
use Rattle.gomp_types.proofs.TestRows.{front_holds}
use Rattle.gomp_types.proofs.LeastTests.{all_fail, first_is_least, from, least_append}
use Rattle.gomp_shares.specs.declared.admission.Construct.{Construct}
use Rattle.gomp_shares.specs.declared.admission.Construct.TheVariants.{Loop, Sections}
use Rattle.gomp_shares.specs.Calls.{CanEnd, CanOpen, most_shares}
use Rattle.gomp_shares.specs.Admission.{end_tests_of, all_end_tests}
use Rattle.gomp_shares.specs.Rules.{ShareRule}
use Rattle.gomp_shares.specs.Sections.{sections_end_tests}
use Rattle.gomp_shares.specs.Starts.{Deals, Starts, start_tests, compared_share, drained_tests, AnswersBegin, AnswersStart}
use Rattle.gomp_shares.proofs.Entered.{row_is}
use Rattle.gomp_shares.proofs.Laws.{ordered_part_is_in_a_loop}
use Rattle.gomp_shares.proofs.PartsKeep.{sections_away}

-- if no test of the front holds, those behind it decide alone
pub behind_front : (front tests : List Test) → least front ≡ None → least (front ++ tests) ≡ least tests
behind_front front tests none = least_append front tests ∙ ap (λ (found : Option _). lesser found (least tests)) none

pub answers_behind : (front tests : List Test) (may : Reply → Type 0) (reply : Reply) → least front ≡ None → Answers tests may reply → Answers (front ++ tests) may reply
answers_behind front tests may (Refused refusal) none e = behind_front front tests none ∙ e
answers_behind front tests may _ none given = (behind_front front tests none ∙ given.0, given.1)

-- what the comparison alone finds
pub compared_alone : (differs : Bool) → least ((differs, Mismatch) ∷ []) ≡ (if differs then Some Mismatch else None)
compared_alone true = refl
compared_alone false = refl

pub begin_compared : (shape : Shape) (m : ℕ) (h : List Event) (differs : Bool) → shape_differs shape (shape_at (shares_entered m h) h) ≡ differs → least (compared_share shape m h) ≡ (if differs then Some Mismatch else None)
begin_compared shape m h differs e = rw e (compared_alone differs)

-- so a start that the member's own tests let through is answered as the comparison and its share have it
pub start_admitted : (own : List Test) (shape : Shape) (deals : Deals) (limits : Limits) (members m : ℕ) (reply : Reply) (h : List Event) →
    least (start_tests own limits (seen_of m h)) ≡ None → AnswersBegin shape deals members m reply h → AnswersStart own shape deals limits members m reply h
start_admitted own shape deals limits members m reply h none begun =
    answers_behind (start_tests own limits (seen_of m h)) (compared_share shape m h) (λ given. Starts deals members m shape given h) reply none begun

-- a call that its member's tests let through is answered as it may be, which is no refusal
pub answers_let : (tests : List Test) (may : Reply → Type 0) (reply : Reply) → least tests ≡ None → ((refusal : Refusal) → may (Refused refusal) → ⊥) → may reply → Answers tests may reply
answers_let tests may (Refused refusal) none never given = absurd (never refusal given)
answers_let tests may _ none never given = (none, given)

-- the refusal of an outcome
pub outcome_err : {A : Type 0} (first : Option Refusal) (value : A) → result_err (outcome first value) ≡ first
outcome_err None value = refl
outcome_err (Some refusal) value = refl

pub outcome_none : {A : Type 0} (first : Option Refusal) (value found : A) → outcome first value ≡ Ok found → None ≡ first
outcome_none None value found e = refl
outcome_none (Some refusal) value found e = absurd (cc)

-- What a member's tests tell

-- of tests in the order of their numbers the first that holds of what is seen is the least that holds of the events
pub least_seen : (tests : Seen → List Test) (m : ℕ) (seen : Seen) (h : List Event) (found : Option Refusal) → from 0 (tests (seen_of m h)) ≡ true → seen ≡ seen_of m h → found ≡ first_holding (tests seen) → least (tests (seen_of m h)) ≡ found
least_seen tests m seen h found rising e is = sym (first_is_least 0 (tests (seen_of m h)) rising) ∙ row_is tests seen (seen_of m h) found e is

-- if no first test holds, then no least one does
pub no_test_holds : (tests : List Test) → from 0 tests ≡ true → None ≡ first_holding tests → least tests ≡ None
no_test_holds tests rising none = sym (first_is_least 0 tests rising) ∙ sym none

-- the tests of an end stand in the order of their numbers
pub end_tests_rise : (construct : Construct) (kind : EndKind) (seen : Seen) → from 0 (end_tests_of construct kind seen) ≡ true
end_tests_rise Loop kind seen = refl
end_tests_rise Sections kind seen = refl

-- a member that is in a share of some kind is in a share
pub in_some_share : (is : ShareKind → Bool) (own : Option (ℕ × Shape)) → in_kind is own ≡ true → is_some own ≡ true
in_some_share is None e = absurd (cc)
in_some_share is (Some share) e = refl

-- what the law of the ordered parts tells: a member in a part is in a loop
abbrev pub PartInLoop : ℕ → List Event → Type 0
PartInLoop m h = in_part m h ≡ true → (i : ℕ) × (shape : Shape) × (open_share m h ≡ Some (i, shape)) × (is_loop shape.kind ≡ true)

-- so a member in a share that is no loop is in no part
pub in_no_part : (m : ℕ) (h : List Event) → PartInLoop m h → in_kind is_loop (open_share m h) ≡ false → in_part m h ≡ false
in_no_part m h law away =
    elim (cases_Bool (in_part m h)) [
      | inl part ↦ absurd (let (i, shape, at, loop) = law part in let none : is_loop shape.kind ≡ false = rw at at away in cc)
      | inr apart ↦ apart
    ]

-- if no test of an end holds that its place decides, the member can end its construct
pub end_lets_leave : (construct : Construct) (kind : EndKind) (members m : ℕ) (seen : Seen) (h : List Event) → Always (ShareRule (schedule members) members) h → seen ≡ seen_of m h → m < members →
    least (end_tests_of construct kind seen) ≡ None → CanEnd members m seen
end_lets_leave Loop kind members m seen h ruled e lt none =
    let tests = all_fail (end_tests_of Loop kind seen) none in
    record {
      member = lt;
      inside = or_left (in_kind is_loop seen.current) (in_kind is_sections seen.current) (not_false (in_kind is_loop seen.current) tests.0);
      apart = tests.1.0;
    }
end_lets_leave Sections kind members m seen h ruled e lt none =
    let tests = all_fail (sections_end_tests kind seen) none in
    let inside = not_false (in_kind is_sections seen.current) tests.0 in
    let here : in_kind is_sections (open_share m h) ≡ true = sym (ap (λ (s : Seen). in_kind is_sections s.current) e) ∙ inside in
    record {
      member = lt;
      inside = or_right (in_kind is_loop seen.current) (in_kind is_sections seen.current) inside;
      apart = rw e (in_no_part m h (ordered_part_is_in_a_loop members m h ruled) (sections_away (open_share m h) here));
    }

-- with the test that the share decides, they stand in the order of their numbers too
all_tests_rise : (construct : Construct) (kind : EndKind) (m : ℕ) (h : List Event) → from 0 (all_end_tests construct kind m h) ≡ true
all_tests_rise Loop kind m h = refl
all_tests_rise Sections kind m h = refl

-- so what refuses by its place refuses the end
pub refused_by_place : (construct : Construct) (kind : EndKind) (m : ℕ) (seen : Seen) (h : List Event) (refusal : Refusal) → seen ≡ seen_of m h → first_holding (end_tests_of construct kind seen) ≡ Some refusal →
    least (all_end_tests construct kind m h) ≡ Some refusal
refused_by_place construct kind m seen h refusal e is =
    let first : first_holding (end_tests_of construct kind (seen_of m h)) ≡ Some refusal = rw e at is in
    sym (first_is_least 0 (all_end_tests construct kind m h) (all_tests_rise construct kind m h)) ∙ front_holds (end_tests_of construct kind (seen_of m h)) (drained_tests m h) refusal first

-- and if its place lets it, the share decides
pub refused_by_share : (construct : Construct) (kind : EndKind) (m : ℕ) (seen : Seen) (h : List Event) → seen ≡ seen_of m h → first_holding (end_tests_of construct kind seen) ≡ None →
    least (all_end_tests construct kind m h) ≡ least (drained_tests m h)
refused_by_share construct kind m seen h e is =
    behind_front (end_tests_of construct kind (seen_of m h)) (drained_tests m h) (no_test_holds (end_tests_of construct kind (seen_of m h)) (end_tests_rise construct kind (seen_of m h)) (sym (rw e at is)))

-- the share lets a member end it that is drained
pub drained_by_test : (test : Bool) → least ((not test, NotDrained) ∷ []) ≡ None → test ≡ true
drained_by_test true e = refl
drained_by_test false e = absurd (cc)

pub test_of_drained : (test : Bool) → test ≡ true → None ≡ least ((not test, NotDrained) ∷ [])
test_of_drained test e = rw e refl

-- a member outside of every share can open a single
pub single_may_open : (copies : Bool) (members m : ℕ) (seen : Seen) → m < members → is_some seen.current ≡ false → seen.entered < most_shares → CanOpen members m (single_shape copies) seen
single_may_open copies members m seen lt out few = record {
  member = lt;
  valid = record {
    trips = omega arith;
    chunk = omega arith;
    some = omega arith;
    moves = λ is. absurd (cc);
    fits = λ k below. let first : k ≡ 0 = omega arith in rw first (omega (arith, ints));
    unordered = λ is. refl;
  };
  ordered = λ is. absurd (cc);
  outside = out;
  few = few;
}

-- if no test of its start holds, it is one
pub single_can_open : (copies : Bool) (limits : Limits) (members m : ℕ) (seen : Seen) → limits.shares ≤ most_shares → m < members → least (start_tests [] limits seen) ≡ None →
    CanOpen members m (single_shape copies) seen
single_can_open copies limits members m seen few lt none =
    let tests = all_fail (start_tests [] limits seen) none in
    let all : nat_le limits.shares seen.entered ≡ false = tests.1.0 in
    single_may_open copies members m seen lt tests.0 (grind (arith, nat_tests))
