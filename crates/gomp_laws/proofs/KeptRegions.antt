-- Two regions that keep the rule of a team, and so the headline: one with tasks, a group and a taskwait, and one in which a loop, a group and at last the region are cancelled.
-- OpenMP API 5.2, chapters 12 and 16.
use Rattle.std.proofs.Common.{◌≡◌, [], ◌∷◌, refl, sym, arith, rules, inr}
use Rattle.gomp_events.specs.declared.event.Arrival.TheVariants.{Barrier, RegionEnd}
use Rattle.gomp_events.specs.declared.event.Event.TheVariants.{Enter, Take, End, Arrive, Create, Start, GroupEnd, Hold, Cancel}
use Rattle.gomp_types.specs.declared.cancel.CancelKind.TheVariants.{Parallel, Loop, Taskgroup}
use Rattle.gomp_types.specs.declared.cancel.Scope.TheVariants.{Region, OneShare, OneGroup}
use Rattle.gomp_types.specs.declared.key.Key.TheVariants.{Critical}
use Rattle.gomp_types.specs.declared.task.Task.TheVariants.{Implicit, Explicit}
use Rattle.gomp_events.specs.Laws.{Always}
use Rattle.gomp_events.specs.EventLists.{at}
use Rattle.gomp_events.specs.TaskExamples.{after, Allows, one_job}
use Rattle.gomp_laws.specs.Rules.{TeamRule}
use Rattle.gomp_laws.specs.Headline.{Headline}
use Rattle.gomp_laws.specs.LawExamples.{cancellable_four, loop_cancelled, loop_cancelled_for_both, tasks_in_group, task_in_group, group_cancelled, group_left, all_cancelled, first_at_end, region_with_cancels, region_with_tasks}
use Rattle.gomp_types.proofs.Dealing.{schedule_deals, shape_tiles}
use Rattle.gomp_laws.proofs.TeamKeeps.{team_keeps}

-- A region with tasks

-- the task that a member executes at the barrier holds a name
held_at_the_barrier : TeamRule 2 (Hold (Critical (97 ∷ [])) 1 (Explicit 1)) (after (Create 1 0 (Implicit 0) one_job ∷ Arrive 0 1 (at Barrier 0) ∷ Start 1 1 ∷ []))
held_at_the_barrier = record { holds = search rules; member = omega arith; names = record { away = λ outside. absurd (cc) } }

-- a region of two members with tasks, a group and a taskwait keeps the rule of a team
pub region_with_tasks_keeps_rule : Always (TeamRule 2) (after region_with_tasks)
region_with_tasks_keeps_rule = search (rules, held_at_the_barrier) depth 50

-- and the headline
pub region_with_tasks_keeps_headline : Headline 2 (after region_with_tasks)
region_with_tasks_keeps_headline = team_keeps 2 (after region_with_tasks) region_with_tasks_keeps_rule (search rules depth 50)

-- A cancelled region

-- two members enter a loop, and one takes a piece
first_enters : Allows (TeamRule 2) [] (Enter 0 0 cancellable_four)
first_enters = record {
  member = omega arith;
  number = refl;
  outside = refl;
  dealt = schedule_deals 2 cancellable_four (omega arith) (omega arith);
  tiles = shape_tiles 2 cancellable_four (omega arith) (omega arith);
  moves = λ still. absurd (cc);
  ordered = λ is. absurd (cc);
  unordered = λ is. refl;
  same = λ other is. absurd (cc);
  room = refl;
}

first_takes : Allows (TeamRule 2) (Enter 0 0 cancellable_four ∷ []) (Take 0 0 0 2)
first_takes = record { takes = record { shape = cancellable_four; inside = refl; next = refl; apart = refl }; handed_on = λ is. absurd (cc) }

second_enters : Allows (TeamRule 2) (Enter 0 0 cancellable_four ∷ Take 0 0 0 2 ∷ []) (Enter 0 1 cancellable_four)
second_enters = record {
  member = omega arith;
  number = refl;
  outside = refl;
  dealt = schedule_deals 2 cancellable_four (omega arith) (omega arith);
  tiles = shape_tiles 2 cancellable_four (omega arith) (omega arith);
  moves = λ still. absurd (cc);
  ordered = λ is. absurd (cc);
  unordered = λ is. refl;
  same = λ other is. let same : cancellable_four ≡ other = cc in sym same;
  room = refl;
}

-- a member in a loop cancels it, though a piece is left
cancels_the_loop : Allows (TeamRule 2) (Enter 0 0 cancellable_four ∷ Take 0 0 0 2 ∷ Enter 0 1 cancellable_four ∷ []) (Cancel 0 (OneShare 0))
cancels_the_loop = record {
  cancels = record { member = omega arith; kind = Loop; named = refl };
  share = record { shape = cancellable_four; inside = refl; cancellable = refl };
}

-- both leave it
first_leaves : Allows (TeamRule 2) loop_cancelled (End 0 0)
first_leaves = record {
  done = record { shape = cancellable_four; inside = refl; done = inr refl; apart = refl };
  words = λ copies. absurd (cc);
  handed_on = λ ordered. absurd (cc);
}

second_leaves : Allows (TeamRule 2) loop_cancelled_for_both (End 0 1)
second_leaves = record {
  done = record { shape = cancellable_four; inside = refl; done = inr refl; apart = refl };
  words = λ copies. absurd (cc);
  handed_on = λ ordered. absurd (cc);
}

-- the second waits at a barrier
second_waits : Allows (TeamRule 2) tasks_in_group (Arrive 0 1 (at Barrier 1))
second_waits = record {
  arrives = record { number = refl; same = λ whole other is. absurd (cc); ends = λ cancelled. absurd (cc) };
  member = omega arith;
  outside = λ stays. refl;
  once = λ stays. refl;
  shares = refl;
  names = search rules;
}

-- it cancels the group of its task there, and the first the region
cancels_the_group : Allows (TeamRule 2) task_in_group (Cancel 1 (OneGroup 0))
cancels_the_group = record { cancels = record { member = omega arith; kind = Taskgroup; named = refl }; share = tt }

cancels_the_region : Allows (TeamRule 2) group_left (Cancel 0 Region)
cancels_the_region = record { cancels = record { member = omega arith; kind = Parallel; named = refl }; share = tt }

-- the group has ended though a task of it was never started
ends_the_group : Allows (TeamRule 2) group_cancelled (GroupEnd 0 0)
ends_the_group = record { member = omega arith; outer = []; last = refl; complete = refl }

-- both arrive at the region's end
first_arrives : Allows (TeamRule 2) all_cancelled (Arrive 0 0 (at RegionEnd 1))
first_arrives = record {
  arrives = record { number = refl; same = λ whole. absurd (cc); ends = λ cancelled. refl };
  member = omega arith;
  outside = λ stays. absurd (cc);
  once = λ stays. absurd (cc);
  shares = refl;
  names = search rules;
}

second_arrives : Allows (TeamRule 2) first_at_end (Arrive 0 1 (at RegionEnd 1))
second_arrives = record {
  arrives = record { number = refl; same = λ whole. absurd (cc); ends = λ cancelled. refl };
  member = omega arith;
  outside = λ stays. absurd (cc);
  once = λ stays. absurd (cc);
  shares = refl;
  names = search rules;
}

-- so it keeps the rule of a team
pub region_with_cancels_keeps_rule : Always (TeamRule 2) (after region_with_cancels)
region_with_cancels_keeps_rule = search (rules, first_enters, first_takes, second_enters, cancels_the_loop, first_leaves, second_leaves, second_waits, cancels_the_group, ends_the_group, cancels_the_region, first_arrives, second_arrives) depth 60

-- and the headline
pub region_with_cancels_keeps_headline : Headline 2 (after region_with_cancels)
region_with_cancels_keeps_headline = team_keeps 2 (after region_with_cancels) region_with_cancels_keeps_rule (search rules depth 60)
