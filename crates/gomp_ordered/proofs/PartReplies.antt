-- What a member sees, and the part that it turn_begins, in the words of the events.
use Rattle.std.proofs.Common.{◌≡◌, ◌<◌, ℕ, ℤ, Bool, true, false, List, [], ◌∷◌, ◌++◌, Option, Some, None, refl, ap, ◌∙◌, sym}
use Rattle.std.specs.Prelude.{not, IfSome, if◌then◌else◌}
use Rattle.gomp_types.specs.declared.reply.Reply.{Reply}
use Rattle.gomp_types.specs.declared.reply.Reply.TheVariants.{Finished, Refused, Wait}
use Rattle.gomp_types.specs.declared.refusal.Refusal.{Refusal}
use Rattle.gomp_types.specs.declared.refusal.Refusal.TheVariants.{NotInside}
use Rattle.gomp_events.specs.declared.seen.Seen.{Seen}
use Rattle.gomp_types.specs.declared.shape.Shape.{Shape}
use Rattle.gomp_events.specs.declared.event.Event.{Event}
use Rattle.gomp_events.specs.declared.event.Event.TheVariants.{Part}
use Rattle.gomp_types.specs.Tests.{first_holding}
use Rattle.gomp_types.specs.Least.{least}
use Rattle.gomp_events.specs.Seen.{seen_of}
use Rattle.gomp_types.specs.Values.{IsShape, iteration_of}
use Rattle.gomp_events.specs.Events.{open_share, share_number}
use Rattle.gomp_events.specs.Ordered.{comes_next, has_turn, is_in_rest, is_ordered}
use Rattle.gomp_types.specs.Pieces.{Piece}
use Rattle.gomp_types.proofs.Booleans.{not_false}
use Rattle.gomp_types.proofs.LeastTests.{all_fail, first_is_least}
use Rattle.gomp_shares.specs.Calls.{CanBeginPart, CanEndPart, turn_in}
use Rattle.gomp_shares.specs.OrderedParts.{AnswersPart, BeginsOwnPart, BeginsPart, part_end_tests, part_given, part_tests}
use Rattle.gomp_shares.proofs.Admitted.{answers_let}
use Rattle.gomp_shares.proofs.Entered.{row_is}
use Rattle.gomp_shares.proofs.OrWaits.{may_be_answered, may_not_waits, part_is_begun}
use Rattle.gomp_ordered.specs.Iterations.{HasShape, seen_iteration}

-- the share that a member sees has the shape of a construct
pub current_has_shape : (current : Option (ℕ × Shape)) → ((i : ℕ) (shape : Shape) → current ≡ Some (i, shape) → IsShape shape) → IfSome current (λ share. IsShape share.1)
current_has_shape None valid = tt
current_has_shape (Some (i, shape)) valid = valid i shape refl

pub has_shape : (m : ℕ) (seen : Seen) (h : List Event) → seen ≡ seen_of m h → ((i : ℕ) (shape : Shape) → open_share m h ≡ Some (i, shape) → IsShape shape) → HasShape seen
has_shape m seen h e valid = rw e (current_has_shape (open_share m h) valid)

-- The tests

pub start_is : (m : ℕ) (value : ℤ) (seen : Seen) (h : List Event) (found : Option Refusal) → seen ≡ seen_of m h → found ≡ first_holding (part_tests value seen) → least (part_tests value (seen_of m h)) ≡ found
start_is m value seen h found e is = sym (first_is_least 0 (part_tests value (seen_of m h)) refl) ∙ row_is (part_tests value) seen (seen_of m h) found e is

-- a start whose tests fail is in an ordered loop
pub start_ordered : (m : ℕ) (value : ℤ) (h : List Event) → least (part_tests value (seen_of m h)) ≡ None → is_ordered (open_share m h) ≡ true
start_ordered m value h none = let tests = all_fail (part_tests value (seen_of m h)) none in not_false (is_ordered (open_share m h)) tests.1.1.0

pub end_refused : (inside : Bool) → not inside ≡ true → least ((not inside, NotInside) ∷ []) ≡ Some NotInside
end_refused inside e = rw e refl

-- Replies

pub turn_begins : (members m : ℕ) (current : Option (ℕ × Shape)) (h : List Event) → true ≡ turn_in members current m h → BeginsPart members m current Finished h
turn_begins members m None h e = absurd (cc)
turn_begins members m (Some share) h e = may_be_answered (has_turn members share m h) (λ given. given ≡ Finished) Finished (sym e) refl

pub turn_waits : (members m : ℕ) (current : Option (ℕ × Shape)) (h : List Event) → is_ordered current ≡ true → false ≡ turn_in members current m h → BeginsPart members m current Wait h
turn_waits members m None h ordered e = absurd (cc)
turn_waits members m (Some share) h ordered e = may_not_waits (has_turn members share m h) (λ given. given ≡ Finished) (sym e)

-- the part of the iteration with this value

some_is : (test : Bool) (k found : ℕ) → (if test then Some k else None) ≡ Some found → found ≡ k
some_is true k found e = cc
some_is false k found e = absurd (cc)

pub part_is : (m iteration : ℕ) (value : ℤ) (current : Option (ℕ × Shape)) (h : List Event) → seen_iteration current value ≡ Some iteration → Part (share_number current) m iteration ∷ h ≡ part_given current m value Finished ++ h
part_is m iteration value None h e = absurd (cc)
part_is m iteration value (Some share) h e = ap (λ (k : ℕ). Part share.0 m k ∷ h) (some_is _ _ iteration e)

-- a member that no test of a start refuses may begin the part of the iteration with this value
none_in_rest : (piece : Option Piece) (after : ℕ) → is_in_rest piece after None ≡ false
none_in_rest None after = refl
none_in_rest (Some piece) after = refl

pub part_has_share : (value : ℤ) (seen : Seen) → seen.current ≡ None → least (part_tests value seen) ≡ None → ⊥
part_has_share value seen out none = let tests = all_fail (part_tests value seen) none in let one : true ≡ false = rw out at tests.0 in absurd (cc)

iteration_in_rest : (value : ℤ) (share : ℕ × Shape) (seen : Seen) (found : Option ℕ) → seen.current ≡ Some share → iteration_of share.1 value ≡ found → least (part_tests value seen) ≡ None →
    is_in_rest seen.piece seen.next_part found ≡ true
iteration_in_rest value share seen found there is none =
    let tests = all_fail (part_tests value seen) none in
    let next = not_false (comes_next seen.current seen.piece seen.next_part value) tests.1.1.1.0 in
    rw (← is) (rw there at next)

pub part_has_iteration : (value : ℤ) (share : ℕ × Shape) (seen : Seen) → seen.current ≡ Some share → iteration_of share.1 value ≡ None → least (part_tests value seen) ≡ None → ⊥
part_has_iteration value share seen there is none = let one : false ≡ true = sym (none_in_rest seen.piece seen.next_part) ∙ iteration_in_rest value share seen None there is none in absurd (cc)

pub part_may_begin : (members m iteration : ℕ) (value : ℤ) (share : ℕ × Shape) (seen : Seen) → m < members → seen.current ≡ Some share → iteration_of share.1 value ≡ Some iteration → least (part_tests value seen) ≡ None →
    CanBeginPart members m iteration seen
part_may_begin members m iteration value share seen lt there is none =
    let tests = all_fail (part_tests value seen) none in
    record {
      member = lt;
      ordered = not_false (is_ordered seen.current) tests.1.1.0;
      apart = tests.1.0;
      rest = iteration_in_rest value share seen (Some iteration) there is none;
    }

-- and so with the end of a part
pub part_may_end : (members m : ℕ) (seen : Seen) → m < members → least (part_end_tests seen) ≡ None → CanEndPart members m seen
part_may_end members m seen lt none = let tests = all_fail (part_end_tests seen) none in record { member = lt; within = not_false seen.in_part tests.0 }

-- a start that waits, or is refused, begins no part
pub part_waits : (m : ℕ) (value : ℤ) (current : Option (ℕ × Shape)) → part_given current m value Wait ≡ []
part_waits m value None = refl
part_waits m value (Some share) = refl

pub part_refused : (m : ℕ) (value : ℤ) (refusal : Refusal) (current : Option (ℕ × Shape)) → part_given current m value (Refused refusal) ≡ []
part_refused m value refusal None = refl
part_refused m value refusal (Some share) = refl

-- so one that the member's own tests let through is answered as its share has it
part_never_refuses : (members m : ℕ) (current : Option (ℕ × Shape)) (h : List Event) (refusal : Refusal) → BeginsPart members m current (Refused refusal) h → ⊥
part_never_refuses members m None h refusal given = given
part_never_refuses members m (Some share) h refusal given =
    let done : Refused refusal ≡ Finished = (part_is_begun members m share (Refused refusal) h (λ is. absurd (cc)) given).1 in cc

pub part_admitted : (members m : ℕ) (value : ℤ) (reply : Reply) (h : List Event) → least (part_tests value (seen_of m h)) ≡ None → BeginsOwnPart members m reply h → AnswersPart members value m reply h
part_admitted members m value reply h none given =
    answers_let (part_tests value (seen_of m h)) (λ given. BeginsPart members m (open_share m h) given h) reply none (part_never_refuses members m (open_share m h) h) given
