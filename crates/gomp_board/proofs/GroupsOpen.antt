-- A group that is open was not ended, and is open in one task alone.
use Rattle.std.proofs.Common.{◌≡◌, ℕ, ◌<◌, Bool, true, false, List, [], ◌∷◌, Some, refl, ap, sym, ◌∙◌, arith, inl, inr}
use Rattle.std.specs.Prelude.{◌==◌, if◌then◌else◌, Option, None}
use Rattle.std.proofs.lemmas.Bool.{cases_Bool}
use Rattle.gomp_types.specs.declared.task.Task.{Task}
use Rattle.gomp_types.specs.declared.task.Task.TheVariants.{Implicit, Explicit}
use Rattle.gomp_events.specs.declared.event.Event.{Event}
use Rattle.gomp_events.specs.declared.event.Event.TheVariants.{Group, GroupEnd}
use Rattle.gomp_events.specs.Tasks.{same_task, executed_task, after_first, contains}
use Rattle.gomp_events.specs.Groups.{groups_opened, open_groups}
use Rattle.gomp_events.specs.Laws.{Always}
use Rattle.gomp_events.specs.TaskRules.{TaskRule}
use Rattle.gomp_types.proofs.Booleans.{or_tells, same_number, is_equal, not_both}
use Rattle.gomp_events.proofs.Suspended.{Apart, after_first_apart, in_after_first}
use Rattle.gomp_events.proofs.GroupsKeep.{same_is_one, first_contained, first_not_after}
use Rattle.gomp_tasks.proofs.StateMoves.{false_of_never}
use Rattle.gomp_board.specs.Owed.{has_group_ended}

-- the task that opened the group
abbrev opener_of : ℕ → List Event → Option Task
opener_of q [] = None
opener_of q (Group group member ∷ earlier) = if group == q then Some (executed_task member earlier) else opener_of q earlier
opener_of q (_ ∷ earlier) = opener_of q earlier

-- what is known of a group that is open in this task
record IsOpenIn (p : Task) (q : ℕ) (h : List Event) : Type 0 where
  number : q < groups_opened h
  lasting : has_group_ended q h ≡ false
  opener : opener_of q h ≡ Some p

-- and of the groups of all tasks
record AreOpen (h : List Event) : Type 0 where
  ended : (q : ℕ) → has_group_ended q h ≡ true → q < groups_opened h
  each : (p : Task) (q : ℕ) → contains q (open_groups p h) ≡ true → IsOpenIn p q h
  apart : (p : Task) → Apart (open_groups p h)

-- a group that was not opened is in no list, and was not ended
group_not_ended : (q : ℕ) (h : List Event) → AreOpen h → (q < groups_opened h → ⊥) → has_group_ended q h ≡ false
group_not_ended q h known new = false_of_never (has_group_ended q h) (λ is. new (known.ended q is))

not_open : (p : Task) (q : ℕ) (h : List Event) → AreOpen h → (q < groups_opened h → ⊥) → contains q (open_groups p h) ≡ false
not_open p q h known new = false_of_never (contains q (open_groups p h)) (λ is. new (known.each p q is).number)

-- after a group was opened
opened_each : (p : Task) (q group member : ℕ) (h : List Event) → AreOpen h → group ≡ groups_opened h → (b : Bool) → same_task (executed_task member h) p ≡ b →
    contains q (if b then group ∷ open_groups p h else open_groups p h) ≡ true → IsOpenIn p q (Group group member ∷ h)
opened_each p q group member h known number b is there =
    elim (cases_Bool (group == q)) [
      | inl same ↦ mine b is there (is_equal group q same) same
      | inr other ↦ older b there other
    ]
  where
    old : (group == q) ≡ false → contains q (open_groups p h) ≡ true → IsOpenIn p q (Group group member ∷ h)
    old other within =
        let was = known.each p q within in
        let low = was.number in
        record { number = omega (arith, low); lasting = was.lasting; opener = rw other was.opener }

    older : (b : Bool) → contains q (if b then group ∷ open_groups p h else open_groups p h) ≡ true → (group == q) ≡ false → IsOpenIn p q (Group group member ∷ h)
    older true within other = old other (rw other at within)
    older false within other = old other within

    mine : (b : Bool) → same_task (executed_task member h) p ≡ b → contains q (if b then group ∷ open_groups p h else open_groups p h) ≡ true → group ≡ q → (group == q) ≡ true → IsOpenIn p q (Group group member ∷ h)
    mine true is within e same = record {
      number = omega (arith, e, number);
      lasting = group_not_ended q h known (λ low. omega (arith, e, number, low));
      opener = rw same (ap Some (same_is_one (executed_task member h) p is));
    }
    mine false is within e same = absurd (not_both (contains q (open_groups p h)) within (not_open p q h known (λ low. omega (arith, e, number, low))))

opened_apart : (p : Task) (group : ℕ) (h : List Event) → AreOpen h → group ≡ groups_opened h → (b : Bool) → Apart (if b then group ∷ open_groups p h else open_groups p h)
opened_apart p group h known number true = (not_open p group h known (λ low. omega (arith, number, low)), known.apart p)
opened_apart p group h known number false = known.apart p

group_opened_before : (group member : ℕ) (h : List Event) → AreOpen h → group ≡ groups_opened h → AreOpen (Group group member ∷ h)
group_opened_before group member h known number = record {
  ended = λ q is. let low = known.ended q is in omega (arith, low);
  each = λ p q there. opened_each p q group member h known number (same_task (executed_task member h) p) refl there;
  apart = λ p. opened_apart p group h known number (same_task (executed_task member h) p);
}

ended_each : (p : Task) (q group member : ℕ) (outer : List ℕ) (h : List Event) → AreOpen h → open_groups (executed_task member h) h ≡ group ∷ outer → (b : Bool) → same_task (executed_task member h) p ≡ b →
    contains q (if b then after_first (open_groups p h) else open_groups p h) ≡ true → IsOpenIn p q (GroupEnd group member ∷ h)
ended_each p q group member outer h known last b is there =
    elim (cases_Bool (group == q)) [
      | inl same ↦ absurd (gone b is there (is_equal group q same))
      | inr other ↦ let was = known.each p q (older b there) in record { number = was.number; lasting = rw other was.lasting; opener = was.opener }
    ]
  where
    older : (b : Bool) → contains q (if b then after_first (open_groups p h) else open_groups p h) ≡ true → contains q (open_groups p h) ≡ true
    older true within = in_after_first q (open_groups p h) within
    older false within = within

    gone : (b : Bool) → same_task (executed_task member h) p ≡ b → contains q (if b then after_first (open_groups p h) else open_groups p h) ≡ true → group ≡ q → ⊥
    gone true is within e =
        let same = same_is_one (executed_task member h) p is in
        let away : contains q (after_first (open_groups p h)) ≡ false = rw (← e, ← same) (first_not_after group outer (open_groups (executed_task member h) h) last (known.apart (executed_task member h))) in
        not_both (contains q (after_first (open_groups p h))) within away
    gone false is within e =
        let here = (known.each (executed_task member h) group (first_contained group outer (open_groups (executed_task member h) h) last)).opener in
        let there : opener_of group h ≡ Some p = rw e (known.each p q within).opener in
        let both : Some (executed_task member h) ≡ Some p = sym here ∙ there in
        let same : executed_task member h ≡ p = cc in
        not_both (same_task (executed_task member h) p) (rw same (same_with p)) is
      where
        same_with : (t : Task) → same_task t t ≡ true
        same_with (Implicit a) = same_number a
        same_with (Explicit a) = same_number a

ended_apart : (p : Task) (h : List Event) → AreOpen h → (b : Bool) → Apart (if b then after_first (open_groups p h) else open_groups p h)
ended_apart p h known true = after_first_apart (open_groups p h) (known.apart p)
ended_apart p h known false = known.apart p

group_ended_once : (group member : ℕ) (outer : List ℕ) (h : List Event) → AreOpen h → open_groups (executed_task member h) h ≡ group ∷ outer → AreOpen (GroupEnd group member ∷ h)
group_ended_once group member outer h known last = record {
  ended = λ q is. elim (or_tells (group == q) (has_group_ended q h) is) [
    | inl same ↦ rw (← is_equal group q same) (known.each (executed_task member h) group (first_contained group outer (open_groups (executed_task member h) h) last)).number
    | inr before ↦ known.ended q before
  ];
  each = λ p q there. ended_each p q group member outer h known last (same_task (executed_task member h) p) refl there;
  apart = λ p. ended_apart p h known (same_task (executed_task member h) p);
}

groups_open : (members : ℕ) (h : List Event) → Always (TaskRule members) h → AreOpen h
groups_open members [] all = record { ended = λ q is. absurd (cc); each = λ p q there. absurd (cc); apart = λ p. tt }
groups_open members (Group group member ∷ earlier) all = group_opened_before group member earlier (groups_open members earlier all.1) all.0.number
groups_open members (GroupEnd group member ∷ earlier) all = group_ended_once group member all.0.outer earlier (groups_open members earlier all.1) all.0.last
groups_open members (_ ∷ earlier) all =
    let was = groups_open members earlier all.1 in
    record { ended = was.ended; each = λ p q there. let is = was.each p q there in record { number = is.number; lasting = is.lasting; opener = is.opener }; apart = was.apart }

-- the group that is opened next was not ended
pub next_not_ended : (members : ℕ) (h : List Event) → Always (TaskRule members) h → has_group_ended (groups_opened h) h ≡ false
next_not_ended members h all = group_not_ended (groups_opened h) h (groups_open members h all) (λ low. omega (arith, low))

-- the last open group of a task was opened, and not ended
pub last_not_ended : (members q : ℕ) (p : Task) (outer : List ℕ) (h : List Event) → Always (TaskRule members) h → open_groups p h ≡ q ∷ outer → (q < groups_opened h) × (has_group_ended q h ≡ false)
last_not_ended members q p outer h all last =
    let is = (groups_open members h all).each p q (first_contained q outer (open_groups p h) last) in (is.number, is.lasting)
