-- What no call does to the tasks that may be taken, of any tasks and numbers, and what none of the definitions allows.
use Rattle.std.proofs.Common.{◌≡◌, ◌≢◌, ℕ, ◌+◌, ◌-◌, ◌<◌, ◌≤◌, Bool, true, false, List, [], ◌∷◌, ◌++◌, Some, None, length, take, get_or, refl, ap, sym, ◌∙◌, arith}
use Rattle.std.specs.Prelude.{◌==◌, ◌||◌, nat_le, filter}
use Rattle.std.proofs.lemmas.Bool.Decides.{nat_tests}
use Rattle.std.proofs.lemmas.List.{append-nil, length-take, take-append-le}
use Rattle.std.proofs.Math.Seq.{take-length}
use Rattle.gomp_events.specs.Tasks.{contains}
use Rattle.gomp_types.proofs.Booleans.{same_number, or_right, and_left, and_right, not_both}
use Rattle.gomp_events.proofs.TaskStacks.{contains_in_either}
use Rattle.gomp_ready.specs.Ready.{AnswersBy, AreAmong, AreOnce, IsFirstBy, ReadyView, in_order, passed_at, with_task, with_taken}
use Rattle.gomp_ready.specs.Ends.{with_at}
use Rattle.gomp_ready.specs.Marks.{fronts, lowered, mark_at, without}
use Rattle.gomp_ready.specs.declared.deque.End.{End}
use Rattle.gomp_ready.specs.declared.deque.End.TheVariants.{Newest, Oldest}
use Rattle.gomp_ready.proofs.InOrder.{contains-in_order, in_order-between, in_order-turned, length-in_order, length-with_task}
use Rattle.gomp_ready.proofs.Kept.{first_is_lowest}
use Rattle.gomp_ready.proofs.Laws.{contains_filtered, contains_with_task, filtered_are_once, once_with_task, once_without, others_are_kept, take_keeps_once, taken_is_gone, taken_was_there}
use Rattle.gomp_ready.proofs.Looked.{at_each_place, in_whole_list}
use Rattle.gomp_ready.proofs.Marked.{front_at, length_without, mark_without}

-- Puts

-- no task stands twice because one was put that was not there
pub never_twice_by_a_put : (t : ℕ) (ids : List ℕ) → AreOnce ids → contains t ids ≡ false → (AreOnce (with_task t ids) → ⊥) → ⊥
never_twice_by_a_put t ids once absent twice = twice (once_with_task t ids absent once)

-- no put adds another task than that one, and none is lost by it
pub never_another_by_a_put : (t u : ℕ) (ids : List ℕ) → (contains u (with_task t ids) ≡ (t == u || contains u ids) → ⊥) → ⊥
never_another_by_a_put t u ids wrong = wrong (contains_with_task t u ids)

-- no put leaves all as it was, nor two tasks more
pub never_as_before_by_a_put : (t : ℕ) (ids : List ℕ) → with_task t ids ≡ ids → ⊥
never_as_before_by_a_put t ids same = let more = sym (length-with_task t ids) ∙ ap length same in absurd (omega (arith, more))

pub never_two_by_a_put : (t : ℕ) (ids : List ℕ) → length (with_task t ids) ≡ length ids + 2 → ⊥
never_two_by_a_put t ids two = let one = length-with_task t ids in absurd (omega (arith, one, two))

-- no task is put before a lower one, nor behind a higher one
pub never_before_a_lower_one : (t u : ℕ) (ids rest : List ℕ) → u < t → with_task t (u ∷ ids) ≡ t ∷ rest → ⊥
never_before_a_lower_one t u ids rest low first =
    let past : nat_le t u ≡ false = grind (arith, nat_tests, low) in let behind : u ∷ with_task t ids ≡ t ∷ rest = rw past at first in let same : u ≡ t = cc in absurd (omega (arith, low, same))

pub never_behind_a_higher_one : (t u : ℕ) (ids rest : List ℕ) → t < u → with_task t (u ∷ ids) ≡ u ∷ rest → ⊥
never_behind_a_higher_one t u ids rest low behind =
    let front : nat_le t u ≡ true = grind (arith, nat_tests, low) in let first : t ∷ u ∷ ids ≡ u ∷ rest = rw front at behind in let same : t ≡ u = cc in absurd (omega (arith, low, same))

-- Deques and list

-- no task is seen that stands nowhere, and none that stands somewhere is not seen
pub never_another_in_order : (u : ℕ) (xs : List ℕ) → (contains u (in_order xs) ≡ contains u xs → ⊥) → ⊥
never_another_in_order u xs wrong = wrong (contains-in_order u xs)

pub never_fewer_in_order : (xs : List ℕ) → (length (in_order xs) ≡ length xs → ⊥) → ⊥
never_fewer_in_order xs wrong = wrong (length-in_order xs)

-- no move between deques and list is seen
pub never_seen_by_a_move : (xs ys : List ℕ) → (in_order (xs ++ ys) ≡ in_order (ys ++ xs) → ⊥) → ⊥
never_seen_by_a_move xs ys seen = seen (in_order-turned xs ys)

pub never_seen_by_its_place : (xs ys : List ℕ) (t : ℕ) → (in_order (xs ++ t ∷ ys) ≡ with_task t (in_order (xs ++ ys)) → ⊥) → ⊥
never_seen_by_its_place xs ys t seen = seen (in_order-between xs t ys)

-- no task is seen before a lower one
pub never_seen_before_a_lower_one : (xs rest : List ℕ) (t u : ℕ) → in_order xs ≡ t ∷ rest → contains u rest ≡ true → u < t → ⊥
never_seen_before_a_lower_one xs rest t u first there low = let least = first_is_lowest xs t rest u first there in absurd (omega (arith, least, low))

-- Takes

-- no take that finds none takes one
pub never_taken_if_none_found : (before after : List ℕ) → before ≡ with_taken None after → before ≢ after → ⊥
never_taken_if_none_found before after none changed = changed none

-- no take that finds one leaves all as it was
pub never_left_if_found : (t : ℕ) (ids : List ℕ) → ids ≡ with_taken (Some t) ids → ⊥
never_left_if_found t ids same = never_as_before_by_a_put t ids (sym same)

-- no task is taken that is not there
pub never_taken_from_nowhere : (before after : List ℕ) (t : ℕ) → before ≡ with_task t after → contains t before ≡ false → ⊥
never_taken_from_nowhere before after t taken absent = not_both (contains t before) (taken_was_there before after t taken) absent

-- no task that was taken is there any more, so none comes out twice that was put once
pub never_there_once_taken : (before after : List ℕ) (t : ℕ) → before ≡ with_task t after → AreOnce before → contains t after ≡ true → ⊥
never_there_once_taken before after t taken once still = not_both (contains t after) still (taken_is_gone before after t taken once)

pub never_taken_again : (first second third : List ℕ) (t : ℕ) → first ≡ with_task t second → AreOnce first → second ≡ with_task t third → ⊥
never_taken_again first second third t taken once again = never_there_once_taken first second t taken once (taken_was_there second third t again)

-- no task stands twice because one was taken, and no other comes or goes by it
pub never_twice_by_a_take : (before after : List ℕ) (t : ℕ) → before ≡ with_task t after → AreOnce before → (AreOnce after → ⊥) → ⊥
never_twice_by_a_take before after t taken once twice = twice (take_keeps_once before after t taken once)

pub never_another_by_a_take : (before after : List ℕ) (t u : ℕ) → before ≡ with_task t after → t ≢ u → (contains u after ≡ contains u before → ⊥) → ⊥
never_another_by_a_take before after t u taken differ wrong = wrong (others_are_kept before after t u taken differ)

-- no task counts as once that stands twice
pub never_once_if_put_twice : (t : ℕ) (ids : List ℕ) → contains t ids ≡ true → AreOnce (with_task t ids) → ⊥
never_once_if_put_twice t ids there once = not_both (contains t ids) there (once_without t ids once).0

pub never_once_at_two_places : (t : ℕ) (xs ys zs : List ℕ) → AreOnce (xs ++ t ∷ (ys ++ t ∷ zs)) → ⊥
never_once_at_two_places t [] ys zs once = not_both (contains t (ys ++ t ∷ zs)) (contains_in_either t ys (t ∷ zs) ∙ or_right (contains t ys) (contains t (t ∷ zs)) (rw (same_number t) refl)) once.0
never_once_at_two_places t (x ∷ xs) ys zs once = never_once_at_two_places t xs ys zs once.1

-- no task counts as twice that stands once
pub never_twice_if_new : (t : ℕ) (ids : List ℕ) → contains t ids ≡ false → AreOnce ids → (AreOnce (t ∷ ids) → ⊥) → ⊥
never_twice_if_new t ids absent once twice = twice (absent, once)

-- Those that are left

-- no task is left that fails the test, nor one that was not there, and none goes that passes it
pub never_left_if_it_fails : (test : ℕ → Bool) (u : ℕ) (ids : List ℕ) → contains u (filter test ids) ≡ true → test u ≡ false → ⊥
never_left_if_it_fails test u ids left fails = not_both (test u) (and_right (contains u ids) (test u) (sym (contains_filtered test u ids) ∙ left)) fails

pub never_left_from_nowhere : (test : ℕ → Bool) (u : ℕ) (ids : List ℕ) → contains u (filter test ids) ≡ true → contains u ids ≡ false → ⊥
never_left_from_nowhere test u ids left absent = not_both (contains u ids) (and_left (contains u ids) (test u) (sym (contains_filtered test u ids) ∙ left)) absent

pub never_gone_if_it_passes : (test : ℕ → Bool) (u : ℕ) (ids : List ℕ) → contains u ids ≡ true → test u ≡ true → contains u (filter test ids) ≡ false → ⊥
never_gone_if_it_passes test u ids there passes gone = not_both (contains u (filter test ids)) (contains_filtered test u ids ∙ rw (there, passes) refl) gone

pub never_twice_by_a_test : (test : ℕ → Bool) (ids : List ℕ) → AreOnce ids → (AreOnce (filter test ids) → ⊥) → ⊥
never_twice_by_a_test test ids once twice = twice (filtered_are_once test ids once)

-- no test that answers by one answers yes and no of a task, nor otherwise than that one
pub never_both_answers : (answers : ℕ → Bool → Type 0) (test : ℕ → Bool) (t : ℕ) → AnswersBy answers test → answers t true → answers t false → ⊥
never_both_answers answers test t by says_yes says_no = not_both (test t) (sym (by t true says_yes)) (sym (by t false says_no))

pub never_another_answer : (answers : ℕ → Bool → Type 0) (test : ℕ → Bool) (t : ℕ) → AnswersBy answers test → answers t true → test t ≡ false → ⊥
never_another_answer answers test t by says_yes fails = not_both (test t) (sym (by t true says_yes)) fails

-- The first that may be started

-- none is passed over that may be started
pub never_passed_over_if_none : (answers : ℕ → Bool → Type 0) (test : ℕ → Bool) (ids : List ℕ) (t : ℕ) → AnswersBy answers test → IsFirstBy answers ids None → contains t ids ≡ true → test t ≡ true → ⊥
never_passed_over_if_none answers test ids t by first there may = not_both (test t) may (sym (by t false (at_each_place (λ u. answers u false) ids first t there)))

pub never_passed_over_before : (answers : ℕ → Bool → Type 0) (test : ℕ → Bool) (ids : List ℕ) (i k d : ℕ) → AnswersBy answers test → IsFirstBy answers ids (Some i) → k < i → test (get_or ids k d) ≡ true → ⊥
never_passed_over_before answers test ids i k d by first before may = not_both (test (get_or ids k d)) may (sym (by (get_or ids k d) false (first.2 k d (omega arith) before)))

-- and the first is one of them that may be
pub never_first_that_may_not : (answers : ℕ → Bool → Type 0) (test : ℕ → Bool) (ids : List ℕ) (i d : ℕ) → AnswersBy answers test → IsFirstBy answers ids (Some i) → test (get_or ids i d) ≡ false → ⊥
never_first_that_may_not answers test ids i d by first may_not = not_both (test (get_or ids i d)) (sym (by (get_or ids i d) true (first.1 d))) may_not

pub never_first_past_the_end : (answers : ℕ → Bool → Type 0) (ids : List ℕ) (i : ℕ) → IsFirstBy answers ids (Some i) → length ids ≤ i → ⊥
never_first_past_the_end answers ids i first past = let within = first.0 in absurd (omega (arith, within, past))

-- The ends of a deque

-- no task is lost at an end, and none comes with it
pub never_another_at_an_end : (end : End) (t u : ℕ) (ids : List ℕ) → (contains u (with_at end (Some t) ids) ≡ (t == u || contains u ids) → ⊥) → ⊥
never_another_at_an_end Newest t u ids wrong = wrong (sym (contains-in_order u (ids ++ t ∷ [])) ∙ ap (contains u) (in_order-turned ids (t ∷ [])) ∙ contains-in_order u (t ∷ ids))
never_another_at_an_end Oldest t u ids wrong = wrong refl

pub never_changed_at_an_end_by_none : (end : End) (ids : List ℕ) → (with_at end None ids ≡ ids → ⊥) → ⊥
never_changed_at_an_end_by_none Newest ids changed = changed (append-nil ids)
never_changed_at_an_end_by_none Oldest ids changed = changed refl

-- the newest is not before the others, nor the oldest behind one
pub never_newest_before_another : (t x : ℕ) (ids rest : List ℕ) → with_at Newest (Some t) (x ∷ ids) ≡ t ∷ rest → x ≢ t → ⊥
never_newest_before_another t x ids rest first differ = differ (let behind : x ∷ (ids ++ t ∷ []) ≡ t ∷ rest = first in cc)

pub never_oldest_behind_another : (t x : ℕ) (ids rest : List ℕ) → with_at Oldest (Some t) ids ≡ x ∷ rest → t ≢ x → ⊥
never_oldest_behind_another t x ids rest behind differ = differ (let first : t ∷ ids ≡ x ∷ rest = behind in cc)

-- Those that are passed over

-- none is that does not stand in the list, none past the mark, and none before it is not
pub never_passed_from_nowhere : (list : List ℕ) (marks : List (List ℕ)) (m l t : ℕ) → contains t (get_or (get_or (fronts list marks) m []) l []) ≡ true → contains t list ≡ false → ⊥
never_passed_from_nowhere list marks m l t passed absent = not_both (contains t list) (in_whole_list (mark_at m l marks) list t (ap (contains t) (sym (front_at list marks m l)) ∙ passed)) absent

pub never_passed_past_the_mark : (list : List ℕ) (marks : List (List ℕ)) (m l : ℕ) → mark_at m l marks < length (get_or (get_or (fronts list marks) m []) l []) → ⊥
never_passed_past_the_mark list marks m l more = absurd (let long = ap length (front_at list marks m l) in omega (arith, long, more, length-take (mark_at m l marks) list))

pub never_left_out_before_the_mark : (first rest : List ℕ) (marks : List (List ℕ)) (m l t : ℕ) → mark_at m l marks ≡ length first → contains t first ≡ true → contains t (get_or (get_or (fronts (first ++ rest) marks) m []) l []) ≡ false → ⊥
never_left_out_before_the_mark first rest marks m l t all there absent =
    let front = front_at (first ++ rest) marks m l ∙ ap (λ n. take n (first ++ rest)) all ∙ take-append-le (length first) first rest (omega arith) ∙ take-length first in not_both (contains t first) there (ap (contains t) (sym front) ∙ absent)

pub never_passed_at_no_mark : (list : List ℕ) (marks : List (List ℕ)) (m l t : ℕ) → mark_at m l marks ≡ 0 → contains t (get_or (get_or (fronts list marks) m []) l []) ≡ true → ⊥
never_passed_at_no_mark list marks m l t none passed = absurd (let e : false ≡ true = ap (λ n. contains t (take n list)) (sym none) ∙ ap (contains t) (sym (front_at list marks m l)) ∙ passed in cc)

-- no view has passed over what another record of the same lists has not
pub never_passed_elsewhere : (ready : ReadyView) (list : List ℕ) (marks : List (List ℕ)) (m l : ℕ) → ready.passed ≡ fronts list marks → (passed_at m l ready ≡ take (mark_at m l marks) list → ⊥) → ⊥
never_passed_elsewhere ready list marks m l is wrong = wrong (ap (λ fs. get_or (get_or fs m []) l []) is ∙ front_at list marks m l)

-- no mark is another one once so many tasks have gone, and none if none has gone
pub never_another_mark_by_those_gone : (gone : ℕ) (marks : List (List ℕ)) (m l : ℕ) → (mark_at m l (without gone marks) ≡ mark_at m l marks - gone → ⊥) → ⊥
never_another_mark_by_those_gone gone marks m l wrong = wrong (mark_without gone marks m l)

pub never_fewer_members_by_those_gone : (gone : ℕ) (marks : List (List ℕ)) → (length (without gone marks) ≡ length marks → ⊥) → ⊥
never_fewer_members_by_those_gone gone marks wrong = wrong (length_without gone marks)

pub never_lowered_if_none_is_gone : (mark : ℕ) → (lowered false mark ≡ mark → ⊥) → ⊥
never_lowered_if_none_is_gone mark changed = changed refl

pub never_the_same_if_one_is_gone : (mark : ℕ) → 0 < mark → lowered true mark ≡ mark → ⊥
never_the_same_if_one_is_gone mark some same = absurd (let less : mark - 1 ≡ mark = same in omega (arith, some, less))

pub never_two_less_if_one_is_gone : (mark : ℕ) → lowered true mark + 1 < mark → ⊥
never_two_less_if_one_is_gone mark two = absurd (let less : (mark - 1) + 1 < mark = two in omega (arith, less))

-- no tasks are among others that lack one of them
pub never_among_if_absent : (ids others : List ℕ) (t : ℕ) → AreAmong ids others → contains t ids ≡ true → contains t others ≡ false → ⊥
never_among_if_absent ids others t among there absent = not_both (contains t others) (among t there) absent
