-- What lets a call that is made, and what each of its tests tells then.
use Rattle.std.proofs.Common.{◌≡◌, ℕ, Bool, true, false, List, [], ◌∷◌, ◌++◌, Option, Some, None, refl, sym, ◌∙◌, subst}
use Rattle.std.specs.Prelude.{◌&&◌, ◌||◌, not, is_some}
use Rattle.gomp_types.specs.declared.refusal.Refusal.{Refusal}
use Rattle.gomp_types.specs.declared.refusal.Refusal.TheVariants.{Leaving as LeavingRefusal}
use Rattle.gomp_types.specs.Tests.{Test}
use Rattle.gomp_types.specs.Least.{least}
use Rattle.gomp_types.proofs.LeastTests.{all_fail, fail_first, fail_later, none_holds, least_append}
use Rattle.gomp_events.specs.declared.seen.Seen.{Seen}
use Rattle.gomp_events.specs.declared.event.Arrival.TheVariants.{Barrier as BarrierArrival, RegionEnd as RegionEndArrival}
use Rattle.gomp_events.specs.declared.room.TheConstants.{ARRIVAL_ROOM}
use Rattle.gomp_events.specs.Cancels.{is_leaving, leaves_region, leaves_share, leaves_task}
use Rattle.gomp_events.specs.Seen.{seen_of}
use Rattle.gomp_events.specs.TaskCalls.{outside_tasks_tests, end_region_tests, room_tests, unless_given_up}
use Rattle.gomp_shares.specs.Loops.{next_tests}
use Rattle.gomp_model.specs.Past.{Past}
use Rattle.gomp_model.specs.Arrivals.{outside_tests, compared_arrival, barrier_row, region_end_row}
use Rattle.gomp_model.specs.Loops.{loop_next_row}
use Rattle.gomp_dispatch.specs.Admission.{PartsLet, PartsLetStaying}
use Rattle.gomp_dispatch.proofs.LeavingTests.{stays_unrefused}

-- Two lists of tests

neither_refuses : (tests more : List Test) → least tests ≡ None → least more ≡ None → least (tests ++ more) ≡ None
neither_refuses tests more one other = least_append tests more ∙ rw (one, other) refl

first_refuses_none : (tests more : List Test) → least (tests ++ more) ≡ None → least tests ≡ None
first_refuses_none tests more none = none_holds tests (fail_first tests more (all_fail (tests ++ more) none))

second_refuses_none : (tests more : List Test) → least (tests ++ more) ≡ None → least more ≡ None
second_refuses_none tests more none = none_holds more (fail_later tests more (all_fail (tests ++ more) none))

-- What a member leaves

and_not_false : (leaves : Bool) → (leaves && not false) ≡ false → leaves ≡ false
and_not_false true none = absurd (cc)
and_not_false false none = refl

-- A next chunk

-- what has to be of a member that asks for one
pub record LetNext (m : ℕ) (p : Past) (seen : Seen) : Type 0 where
  pub stays : is_leaving m p.events ≡ false
  pub outside : least (outside_tasks_tests m p.events) ≡ None
  pub placed : least (next_tests seen) ≡ None

pub next_let : (m : ℕ) (p : Past) (seen : Seen) → seen ≡ seen_of m p.events → LetNext m p seen → PartsLet loop_next_row m p
next_let m p seen is own = record {
  leaving = sym (stays_unrefused (is_leaving m p.events) false own.stays);
  place = subst (λ (s : Seen). least (next_tests s) ≡ None) is own.placed;
  board = neither_refuses (outside_tasks_tests m p.events) (room_tests p.terms.limits p.room 0) own.outside refl;
}

pub let_next : (m : ℕ) (p : Past) (seen : Seen) → seen ≡ seen_of m p.events → PartsLet loop_next_row m p → LetNext m p seen
let_next m p seen is parts = record {
  stays = and_not_false (is_leaving m p.events) (all_fail ((is_leaving m p.events && not false, LeavingRefusal) ∷ []) parts.leaving).0;
  outside = first_refuses_none (outside_tasks_tests m p.events) (room_tests p.terms.limits p.room 0) parts.board;
  placed = subst (λ (s : Seen). least (next_tests s) ≡ None) (sym is) parts.place;
}

-- A barrier

-- and of one that arrives at a barrier
pub record LetBarrier (m : ℕ) (p : Past) (seen : Seen) : Type 0 where
  pub stays : is_leaving m p.events ≡ false
  pub outside : least (outside_tasks_tests m p.events) ≡ None
  pub room : least (room_tests p.terms.limits p.room ARRIVAL_ROOM) ≡ None
  pub placed : least (outside_tests seen) ≡ None
  pub alike : least (compared_arrival BarrierArrival false m p.events) ≡ None

pub barrier_let : (m : ℕ) (p : Past) (seen : Seen) → seen ≡ seen_of m p.events → LetBarrier m p seen → PartsLet barrier_row m p
barrier_let m p seen is own = record {
  leaving = sym (stays_unrefused (is_leaving m p.events) false own.stays);
  place = neither_refuses (outside_tests (seen_of m p.events)) (compared_arrival BarrierArrival false m p.events) (subst (λ (s : Seen). least (outside_tests s) ≡ None) is own.placed) own.alike;
  board = neither_refuses (outside_tasks_tests m p.events) (room_tests p.terms.limits p.room ARRIVAL_ROOM) own.outside own.room;
}

pub let_barrier : (m : ℕ) (p : Past) (seen : Seen) → seen ≡ seen_of m p.events → PartsLet barrier_row m p → LetBarrier m p seen
let_barrier m p seen is parts = record {
  stays = and_not_false (is_leaving m p.events) (all_fail ((is_leaving m p.events && not false, LeavingRefusal) ∷ []) parts.leaving).0;
  outside = first_refuses_none (outside_tasks_tests m p.events) (room_tests p.terms.limits p.room ARRIVAL_ROOM) parts.board;
  room = second_refuses_none (outside_tasks_tests m p.events) (room_tests p.terms.limits p.room ARRIVAL_ROOM) parts.board;
  placed = subst (λ (s : Seen). least (outside_tests s) ≡ None) (sym is) (first_refuses_none (outside_tests (seen_of m p.events)) (compared_arrival BarrierArrival false m p.events) parts.place);
  alike = second_refuses_none (outside_tests (seen_of m p.events)) (compared_arrival BarrierArrival false m p.events) parts.place;
}

-- The region's end

-- who leaves nothing does not leave the region
none_of_region : (region share task : Bool) → (region || share || task) ≡ false → region ≡ false
none_of_region true share task none = absurd (cc)
none_of_region false share task none = refl

stays_in_region : (m : ℕ) (p : Past) → is_leaving m p.events ≡ false → leaves_region m p.events ≡ false
stays_in_region m p stays = none_of_region (leaves_region m p.events) (leaves_share m p.events) (leaves_task m p.events) stays

-- and of one that comes to the region's end and leaves nothing
pub record LetRegionEnd (m : ℕ) (p : Past) (seen : Seen) : Type 0 where
  pub stays : is_leaving m p.events ≡ false
  pub outside : least (end_region_tests false m p.events) ≡ None
  pub placed : least (outside_tests seen) ≡ None
  pub alike : least (compared_arrival RegionEndArrival false m p.events) ≡ None

pub region_end_let : (m : ℕ) (p : Past) (seen : Seen) → seen ≡ seen_of m p.events → LetRegionEnd m p seen → PartsLetStaying region_end_row m p
region_end_let m p seen is own =
    let inside = stays_in_region m p own.stays in
    let placed : least (outside_tests (seen_of m p.events)) ≡ None = subst (λ (s : Seen). least (outside_tests s) ≡ None) is own.placed in (
      own.stays,
      record {
        leaving = sym (stays_unrefused (is_leaving m p.events) (leaves_region m p.events) own.stays);
        place = subst (λ (b : Bool). least (unless_given_up b (outside_tests (seen_of m p.events)) ++ compared_arrival RegionEndArrival false m p.events) ≡ None) (sym inside)
            (neither_refuses (outside_tests (seen_of m p.events)) (compared_arrival RegionEndArrival false m p.events) placed own.alike);
        board = subst (λ (b : Bool). least (end_region_tests b m p.events ++ room_tests p.terms.limits p.room 0) ≡ None) (sym inside)
            (neither_refuses (end_region_tests false m p.events) (room_tests p.terms.limits p.room 0) own.outside refl);
      },
    )

pub let_region_end : (m : ℕ) (p : Past) (seen : Seen) → seen ≡ seen_of m p.events → PartsLetStaying region_end_row m p → LetRegionEnd m p seen
let_region_end m p seen is (stays, parts) =
    let inside = stays_in_region m p stays in
    let place = subst (λ (b : Bool). least (unless_given_up b (outside_tests (seen_of m p.events)) ++ compared_arrival RegionEndArrival false m p.events) ≡ None) inside parts.place in
    let board = subst (λ (b : Bool). least (end_region_tests b m p.events ++ room_tests p.terms.limits p.room 0) ≡ None) inside parts.board in
    record {
      stays = stays;
      outside = first_refuses_none (end_region_tests false m p.events) (room_tests p.terms.limits p.room 0) board;
      placed = subst (λ (s : Seen). least (outside_tests s) ≡ None) (sym is) (first_refuses_none (outside_tests (seen_of m p.events)) (compared_arrival RegionEndArrival false m p.events) place);
      alike = second_refuses_none (outside_tests (seen_of m p.events)) (compared_arrival RegionEndArrival false m p.events) place;
    }

-- What was found

pub none_was_found : (found : Option Refusal) (some : Bool) → some ≡ is_some found → some ≡ false → found ≡ None
none_was_found None some is e = refl
none_was_found (Some refusal) some is e = absurd (cc)

pub none_told : (found : Option Refusal) (none : Bool) → is_some found ≡ not none → none ≡ true → found ≡ None
none_told None none is e = refl
none_told (Some refusal) none is e = absurd (let no : true ≡ not true = rw e at is in cc)

pub told_none : (found : Option Refusal) (none : Bool) → is_some found ≡ not none → found ≡ None → none ≡ true
told_none found true is e = refl
told_none found false is e = absurd (let some : is_some found ≡ false = rw e refl in let both = sym some ∙ is in cc)

-- what was found is none of these tests
pub something_found : (found : Option Refusal) (some : Bool) (tests : List Test) → some ≡ is_some found → some ≡ true → found ≡ least tests → least tests ≡ None → ⊥
something_found None some tests is e least none = absurd (cc)
something_found (Some refusal) some tests is e least none = absurd (let both = least ∙ none in cc)
